-- A page move starts.
use Rattle.std.specs.Prelude.{ℕ, ◌≡◌, ◌+◌, ◌<◌, false, cond, nat_eq, nat_lt, List, [], ◌∷◌, Option, None, Some, is_some, length, slice_index, take, zero, suc, refl}
use Rattle.std.proofs.Common.{◌∙◌, ap, subst, arith, inl, inr, eqb-true}
use Rattle.std.proofs.lemmas.Bool.{cases_Bool, true≢false, and_parts, ltb-true}
use Rattle.rev_model.specs.State.{State, owner_of}
use Rattle.rev_model.specs.Pull.{page_from, lowest_page}
use Rattle.rev_model.specs.Actor.{owned_pages}
use Rattle.rev_model.specs.Sound.{Sound, EachPlaced, MoverSound, is_withdrawn}
use Rattle.rev_model.proofs.Keeps.{keeps-sets}
use Rattle.rev_model.specs.declared.GlobalPart.TheVariants as part
use Rattle.rev_model.specs.declared.ChunkRef.{ChunkRef}
use Rattle.rev_model.specs.declared.Mover.{Mover}
use Rattle.rev_mover.specs.Moving.{with_mover}

some_inj : (x y : ℕ) → Some x ≡ Some y → x ≡ y
some_inj x y e = cc

pub none_of : (o : Option Mover) → is_some o ≡ false → o ≡ None
none_of None h = refl
none_of (Some m) h = absurd (true≢false h)

-- the pages counted so far, and one more
pub owned-more : (c : ℕ) (owner : List ℕ) (k : ℕ) → k < length owner → owned_pages c (take (k + 1) owner) ≡ owned_pages c (take k owner) + cond (nat_eq (slice_index owner k) c) 1 0
owned-more c owner k lt =
    let next : suc k ≡ k + 1 = omega arith in
    subst (λ n. owned_pages c (take n owner) ≡ owned_pages c (take k owner) + cond (nat_eq (slice_index owner k) c) 1 0) next (one_more owner k lt)
  where
    one_more : (owner : List ℕ) (k : ℕ) → k < length owner → owned_pages c (take (suc k) owner) ≡ owned_pages c (take k owner) + cond (nat_eq (slice_index owner k) c) 1 0
    one_more [] k lt = absurd (omega (arith, lt))
    one_more (d ∷ ds) zero lt = omega arith
    one_more (d ∷ ds) (suc k) lt =
        let more : owned_pages c (take (suc k) ds) ≡ owned_pages c (take k ds) + cond (nat_eq (slice_index ds k) c) 1 0 = one_more ds k (omega (arith, lt)) in
        omega (arith, more)

pub owned-all : (c : ℕ) (owner : List ℕ) → owned_pages c (take (length owner) owner) ≡ owned_pages c owner
owned-all c [] = refl
owned-all c (d ∷ ds) = ap (λ n. cond (nat_eq d c) 1 0 + n) (owned-all c ds)

page_found : (k c : ℕ) (owner : List ℕ) (p : ℕ) → page_from k c owner ≡ Some p → (i : ℕ) × (p ≡ k + i) × (i < length owner) × (slice_index owner i ≡ c)
page_found k c [] p e = absurd (cc)
page_found k c (d ∷ ds) p e = elim (cases_Bool (nat_eq d c)) [
  | inl h ↦ let is : k ≡ p = some_inj k p (rw h at e) in (0, omega (arith, is), omega arith, eqb-true d c h)
  | inr h ↦ let w = page_found (k + 1) c ds p (rw h at e) in (suc w.0, omega (arith, w.1), omega (arith, w.2), w.3)
]

-- the lowest page of an owner is one of its pages
pub lowest_is : (s : State) (c p : ℕ) → lowest_page s c ≡ Some p → (p < length s.owner) × (owner_of s p ≡ c)
lowest_is s c p e =
    let w = page_found 0 c s.owner p e in
    let is : p ≡ w.0 = omega (arith, w.1) in
    (omega (arith, is, w.2), ap (slice_index s.owner) is ∙ w.3)

none_withdrawn : (m : Mover) (x : ChunkRef) → m.slot ≡ 0 → is_withdrawn (Some m) x ≡ false
none_withdrawn m x e = elim (cases_Bool (is_withdrawn (Some m) x)) [
  | inl h ↦
      let below : x.slot < m.slot = ltb-true x.slot m.slot (and_parts (nat_eq x.page m.page) (nat_lt x.slot m.slot) h).1 in
      absurd (omega (arith, below, e))
  | inr h ↦ h
]

-- a move that starts at slot 0 has withdrawn nothing
pub started_sound : (s : State) → Sound s → s.globals.mover ≡ None → (m : Mover) → m.slot ≡ 0 → MoverSound s.fixed s.owner (Some m) → Sound (with_mover (Some m) s)
started_sound s sound none m start mover =
    let placed : EachPlaced s.fixed s.owner s.free s.queues None None = subst (λ o. EachPlaced s.fixed s.owner s.free s.queues o None) none sound.placed in
    record {
      well = (keeps-sets s sound.well (part.Mover (Some m))).after;
      placed = record { once = λ x k. rw (none_withdrawn m x start) (placed.once x k) };
      filed = sound.filed;
      kept = record { mover = mover; pages = sound.kept.pages; settings = sound.kept.settings; table = sound.kept.table };
    }
