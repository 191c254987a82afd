-- A new item in the chunk that room gave: which item that leaves, and how many moves it needs at most.
use Rattle.std.specs.Prelude.{ℕ, ◌≡◌, ◌≤◌, List, [], ◌∷◌, Option, None, Some, refl}
use Rattle.std.proofs.Common.{◌∙◌, ap, inl, inr, arith}
use Rattle.std.proofs.lemmas.Bool.{cases_Bool}
use Rattle.rev_items.specs.Plain.{PlainItem}
use Rattle.rev_model.specs.State.{State, free_of, item_at, find}
use Rattle.rev_model.specs.Words.{is_dead}
use Rattle.rev_model.specs.Pull.{page_of}
use Rattle.rev_model.specs.Client.{lookup, looked_at, looked_item}
use Rattle.rev_model.specs.declared.ChunkRef.{ChunkRef}
use Rattle.rev_model.specs.declared.Form.{Form}
use Rattle.rev_maintainer.specs.Rooming.{need_by, room_need}

-- ---- a lookup leaves the configuration, the pages and the globals alone

pub record SameFrame (s t : State) : Type 0 where
  pub fixed : t.fixed ≡ s.fixed
  pub owner : t.owner ≡ s.owner
  pub globals : t.globals ≡ s.globals

same_frame_item : (s : State) (x : ChunkRef) (o : Option PlainItem) → SameFrame s (looked_item s x o).0
same_frame_item s x None = record { fixed = refl; owner = refl; globals = refl }
same_frame_item s x (Some i) = elim (cases_Bool (is_dead s.globals i)) [
  | inl e ↦ rw e (record { fixed = refl; owner = refl; globals = refl })
  | inr e ↦ rw e (record { fixed = refl; owner = refl; globals = refl })
]

same_frame_at : (s : State) (o : Option ChunkRef) → SameFrame s (looked_at s o).0
same_frame_at s None = record { fixed = refl; owner = refl; globals = refl }
same_frame_at s (Some x) = same_frame_item s x (item_at s x)

pub same_frame : (s t : State) (k : List ℕ) → t ≡ (lookup s k).0 → SameFrame s t
same_frame s t k e =
    let frame = same_frame_at s (find s k) in
    record { fixed = ap (λ (u : State). u.fixed) e ∙ frame.fixed; owner = ap (λ (u : State). u.owner) e ∙ frame.owner; globals = ap (λ (u : State). u.globals) e ∙ frame.globals }

-- a place takes at most 50 moves
need_most : (l : List ChunkRef) (p : Option (ℕ × Form)) → need_by 10 l p ≤ 42
need_most (x ∷ xs) p = omega arith
need_most [] (Some p) = omega arith
need_most [] None = omega arith

pub room_most : (s : State) (c : ℕ) → room_need 10 s c ≤ 42
room_most s c = need_most (free_of s c) (page_of s c)
