-- A chunk that is taken: the moves are possible, and what room needs of it.
use Rattle.std.specs.Prelude.{ℕ, ◌≡◌, ◌+◌, ◌<◌, true, cond, List, [], ◌∷◌, None, Some, length, refl}
use Rattle.std.proofs.Common.{sym, ap, subst, arith}
use Rattle.std.proofs.lemmas.List.Sums.{sum_by-set}
use Rattle.rev_model.specs.Chunk.{same_chunk}
use Rattle.rev_model.specs.Lists.{has, count, without}
use Rattle.rev_model.specs.State.{State, WellFormed, IsChunkOf, free_of}
use Rattle.rev_model.specs.Move.{Possible, Takes, moved}
use Rattle.rev_model.proofs.Undo.{tells_chunk}
use Rattle.rev_model.proofs.Keeps.{keeps-take_free}
use Rattle.rev_model.specs.declared.ChunkRef.{ChunkRef}
use Rattle.rev_model.specs.declared.Listed.TheVariants.{InFree}
use Rattle.rev_model.specs.Words.{first}
use Rattle.rev_model.specs.Pull.{fronted}
use Rattle.rev_model.specs.Sound.{Sound}
use Rattle.rev_edits.proofs.Rest.{Rest}

some_inj : {X : Type 0} (x y : X) → Some x ≡ Some y → x ≡ y
some_inj x y e = cc

-- the front stands in the list, and the rest is the list without it
front_there : (l : List ChunkRef) (x : ChunkRef) → Some x ≡ first l → has same_chunk x l ≡ true
front_there [] x e = absurd (cc)
front_there (y ∷ ys) x e = rw (sym (some_inj x y e)) (rw (tells_chunk.self x) refl)

front_parts : (l : List ChunkRef) (x : ChunkRef) → Some x ≡ first l → l ≡ x ∷ without same_chunk x l
front_parts [] x e = absurd (cc)
front_parts (y ∷ ys) x e = rw (sym (some_inj x y e)) (rw (tells_chunk.self x) refl)

pub front_take : (s : State) → WellFormed s → (c : ℕ) → c < length s.free → (x : ChunkRef) → Some x ≡ first (free_of s c) → Possible (Takes (InFree c x)) s
front_take s well c lt x e = keeps-take_free s well c x (lt, front_there (free_of s c) x e)

pub front_is : (s : State) (c : ℕ) (x : ChunkRef) → Some x ≡ first (free_of s c) → Some (moved (Takes (InFree c x)) s, x) ≡ fronted s c (free_of s c)
front_is s c x e = ap (fronted s c) (sym (front_parts (free_of s c) x e))

pub front_none : (s : State) (c : ℕ) → None ≡ first (free_of s c) → fronted s c (free_of s c) ≡ None
front_none s c e = empty (free_of s c) e
  where
    empty : (l : List ChunkRef) → None ≡ first l → fronted s c l ≡ None
    empty [] e = refl
    empty (x ∷ xs) e = absurd (cc)

pub front_empty : (l : List ChunkRef) → None ≡ first l → l ≡ []
front_empty [] e = refl
front_empty (x ∷ xs) e = absurd (cc)

pub front_rest : (s : State) (c : ℕ) → c < length s.free → (x : ChunkRef) → Some x ≡ first (free_of s c) → Sound s → Rest (Some x) (moved (Takes (InFree c x)) s)
front_rest s c lt x e sound =
    let l = free_of s c in
    let parts : (y : ChunkRef) → count same_chunk y (free_of s c) ≡ cond (same_chunk y x) 1 0 + count same_chunk y (without same_chunk x (free_of s c)) = λ y. ap (count same_chunk y) (front_parts (free_of s c) x e) in
    record {
      placed = record { once = λ y k. omega (arith, sound.placed.once y k, parts y, sum_by-set (count same_chunk y) s.free c (without same_chunk x (free_of s c)) [] lt) };
      filed = sound.filed;
      kept = sound.kept;
    }

pub front_chunk : (s : State) → WellFormed s → (c : ℕ) (x : ChunkRef) → Some x ≡ first (free_of s c) → (y : ChunkRef) → Some x ≡ Some y → IsChunkOf s.fixed s.owner c y
front_chunk s well c x e y same = subst (IsChunkOf s.fixed s.owner c) (some_inj x y same) (well.lists.free_of_class c x (front_there (free_of s c) x e))
