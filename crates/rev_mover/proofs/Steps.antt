-- What a step of the mover leaves alone, and which case of the written rule it is.
use Rattle.std.specs.Prelude.{ℕ, ◌≡◌, cond, true, false, nat_eq, [], Option, None, Some, refl}
use Rattle.std.proofs.Common.{sym, ◌∙◌, ap, subst, arith, inl, inr, eqb-true, eq-eqb}
use Rattle.std.proofs.lemmas.Bool.{cases_Bool}
use Rattle.rev_items.specs.Plain.{PlainItem}
use Rattle.rev_model.specs.State.{State, free_of, item_at, per_page}
use Rattle.rev_model.specs.Words.{is_dead, counted, unlinked, queue_with}
use Rattle.rev_model.specs.Actor.{spare, shifted, cleared, rescued, next_slot, advance}
use Rattle.rev_model.specs.Causes.{cleared_removals, rescue_removals, advance_removals}
use Rattle.rev_model.specs.Chunk.{same_chunk}
use Rattle.rev_model.specs.Lists.{without}
use Rattle.rev_model.specs.Move.{with_free}
use Rattle.rev_model.specs.Track.{removal}
use Rattle.rev_model.specs.declared.Cause.TheVariants.{ReclaimedByMover, EvictedByMover}
use Rattle.rev_model.specs.declared.Counter.TheVariants as counter
use Rattle.rev_model.specs.declared.Outcome.TheVariants as outcome
use Rattle.rev_model.specs.Sound.{Sound, MoverSound}
use Rattle.rev_model.specs.declared.ChunkRef.{ChunkRef}
use Rattle.rev_model.specs.declared.Globals.{Globals}
use Rattle.rev_model.specs.declared.Mover.{Mover}
use Rattle.rev_model.specs.declared.Outcome.{Outcome}
use Rattle.rev_mover.specs.Moving.{slot_chunk, finished, IsLeft, IsDone}
use Rattle.rev_mover.specs.Clearing.{clearing_of, rescue_or_evict}
use Rattle.rev_mover.specs.declared.clearing.Plan.TheVariants.{Withdraw, Reclaim, Rescue, Evict}

-- a rescue that is planned goes to the spare chunk
planned : (o : Option ChunkRef) (y : ChunkRef) → rescue_or_evict o ≡ Rescue y → o ≡ Some y
planned None y e = absurd (cc)
planned (Some z) y e = let is : z ≡ y = cc in ap Some is

pub rescue_planned : (s : State) (c : ℕ) (x : ChunkRef) (o : Option PlainItem) (y : ChunkRef) → Rescue y ≡ clearing_of s c x o → spare x.page (free_of s c) ≡ Some y
rescue_planned s c x None y e = absurd (cc)
rescue_planned s c x (Some i) y e = elim (cases_Bool (is_dead s.globals i)) [
  | inl h ↦ let wrong : Rescue y ≡ Reclaim = rw h at e in absurd (cc)
  | inr h ↦ planned (spare x.page (free_of s c)) y (sym (rw h at e))
]

-- clearing a slot changes neither globals nor classes
record IsSame (s t : State) : Type 0 where
  globals : t.globals ≡ s.globals
  fixed : t.fixed ≡ s.fixed

rescued_same : (s : State) (c : ℕ) (x : ChunkRef) (i : PlainItem) (o : Option ChunkRef) → IsSame s (rescued s c x i o).0
rescued_same s c x i None = record { globals = refl; fixed = refl }
rescued_same s c x i (Some y) = record { globals = refl; fixed = refl }

cleared_same : (s : State) (c : ℕ) (x : ChunkRef) (o : Option PlainItem) → IsSame s (cleared s c x o).0
cleared_same s c x None = record { globals = refl; fixed = refl }
cleared_same s c x (Some i) = elim (cases_Bool (is_dead s.globals i)) [
  | inl h ↦ rw h (record { globals = refl; fixed = refl })
  | inr h ↦ rw h (rescued_same s c x i (spare x.page (free_of s c)))
]

pub still_left : (s t : State) (r : Outcome) (m : Mover) (c : ℕ) (x : ChunkRef) (o : Option PlainItem) → ◌≡◌ {A = State × Outcome} (t, r) (cleared s c x o) → IsLeft s m → IsLeft t m
still_left s t r m c x o e h =
    let same = cleared_same s c x o in
    let state : t ≡ (cleared s c x o).0 = ap (λ (p : State × Outcome). p.0) e in
    record {
      is = ap (λ (u : State). u.globals.mover) state ∙ ap (λ (g : Globals). g.mover) same.globals ∙ h.is;
      slot = rw state (rw same.fixed h.slot);
    }

-- a move under way that is not done has slots left
pub not_done : (s : State) → Sound s → (m : Mover) → s.globals.mover ≡ Some m → (m.slot ≡ per_page s.fixed m.src → ⊥) → IsLeft s m
not_done s sound m e ne =
    let mover : MoverSound s.fixed s.owner (Some m) = subst (MoverSound s.fixed s.owner) e sound.kept.mover in
    record { is = e; slot = omega (arith, mover.6, ne) }

-- which case of the rule an advance is
pub advance_left : (s : State) (m : Mover) → IsLeft s m → next_slot m (cleared s m.src (slot_chunk m) (item_at s (slot_chunk m))) ≡ advance s
advance_left s m h =
    let ne : nat_eq m.slot (per_page s.fixed m.src) ≡ false = elim (cases_Bool (nat_eq m.slot (per_page s.fixed m.src))) [ inl e ↦ absurd (omega (arith, eqb-true _ _ e, h.slot)) | inr e ↦ e ] in
    rw h.is (rw ne refl)

pub advance_done : (s : State) (m : Mover) → IsDone s m → finished m s ≡ advance s
advance_done s m h = rw h.is (rw (eq-eqb _ _ h.slot) refl)

pub left_removals : (s : State) (m : Mover) → IsLeft s m → cleared_removals s m.src (slot_chunk m) (item_at s (slot_chunk m)) ≡ advance_removals s
left_removals s m h =
    let ne : nat_eq m.slot (per_page s.fixed m.src) ≡ false = elim (cases_Bool (nat_eq m.slot (per_page s.fixed m.src))) [ inl e ↦ absurd (omega (arith, eqb-true _ _ e, h.slot)) | inr e ↦ e ] in
    rw h.is (rw ne refl)

pub done_removals : (s : State) (m : Mover) → IsDone s m → [] ≡ advance_removals s
done_removals s m h = rw h.is (rw (eq-eqb _ _ h.slot) refl)

-- ---- what a plan tells of the chunk, and what its moves make

none_spare : (o : Option ChunkRef) → Evict ≡ rescue_or_evict o → o ≡ None
none_spare None e = refl
none_spare (Some z) e = absurd (cc)

not_withdrawn : (o : Option ChunkRef) → Withdraw ≡ rescue_or_evict o → ⊥
not_withdrawn None e = cc
not_withdrawn (Some z) e = cc

not_reclaimed : (o : Option ChunkRef) → Reclaim ≡ rescue_or_evict o → ⊥
not_reclaimed None e = cc
not_reclaimed (Some z) e = cc

module _ (s : State) (c : ℕ) (x : ChunkRef) where
  pub plan_none : (o : Option PlainItem) → Withdraw ≡ clearing_of s c x o → o ≡ None
  plan_none None e = refl
  plan_none (Some i) e = elim (cases_Bool (is_dead s.globals i)) [
    | inl h ↦ let wrong : Withdraw ≡ Reclaim = rw h at e in absurd (cc)
    | inr h ↦ absurd (not_withdrawn (spare x.page (free_of s c)) (rw h at e))
  ]

  pub plan_dead : (o : Option PlainItem) → Reclaim ≡ clearing_of s c x o → (i : PlainItem) × (o ≡ Some i) × (is_dead s.globals i ≡ true)
  plan_dead None e = absurd (cc)
  plan_dead (Some i) e = elim (cases_Bool (is_dead s.globals i)) [
    | inl h ↦ (i, refl, h)
    | inr h ↦ absurd (not_reclaimed (spare x.page (free_of s c)) (rw h at e))
  ]

  pub plan_evict : (o : Option PlainItem) → Evict ≡ clearing_of s c x o → (i : PlainItem) × (o ≡ Some i) × (is_dead s.globals i ≡ false) × (spare x.page (free_of s c) ≡ None)
  plan_evict None e = absurd (cc)
  plan_evict (Some i) e = elim (cases_Bool (is_dead s.globals i)) [
    | inl h ↦ let wrong : Evict ≡ Reclaim = rw h at e in absurd (cc)
    | inr h ↦ (i, refl, h, none_spare (spare x.page (free_of s c)) (rw h at e))
  ]

  pub plan_rescue : (o : Option PlainItem) (y : ChunkRef) → Rescue y ≡ clearing_of s c x o → (i : PlainItem) × (o ≡ Some i) × (is_dead s.globals i ≡ false) × (spare x.page (free_of s c) ≡ Some y)
  plan_rescue None y e = absurd (cc)
  plan_rescue (Some i) y e = elim (cases_Bool (is_dead s.globals i)) [
    | inl h ↦ let wrong : Rescue y ≡ Reclaim = rw h at e in absurd (cc)
    | inr h ↦ (i, refl, h, planned (spare x.page (free_of s c)) y (sym (rw h at e)))
  ]

  pub withdrawn_done : (o : Option PlainItem) → o ≡ None → (t : State) → t ≡ with_free s c (without same_chunk x (free_of s c)) → (t, outcome.Withdrawn) ≡ cleared s c x o
  withdrawn_done o e t is = ap (λ (u : State). (u, outcome.Withdrawn)) is ∙ sym (ap (cleared s c x) e)

  module _ (o : Option PlainItem) (i : PlainItem) (e : o ≡ Some i) where
    by_death : (b : _) → is_dead s.globals i ≡ b → cleared s c x o ≡ cond b (counted c counter.Reclaimed (unlinked c (queue_with s c x) x i s), outcome.Reclaimed) (rescued s c x i (spare x.page (free_of s c)))
    by_death b h = ap (cleared s c x) e ∙ ap (λ d. cond d (counted c counter.Reclaimed (unlinked c (queue_with s c x) x i s), outcome.Reclaimed) (rescued s c x i (spare x.page (free_of s c)))) h

    told_by : (b : _) → is_dead s.globals i ≡ b → cleared_removals s c x o ≡ cond b (removal (Some i) (Some ReclaimedByMover)) (rescue_removals i (spare x.page (free_of s c)))
    told_by b h = ap (cleared_removals s c x) e ∙ ap (λ d. cond d (removal (Some i) (Some ReclaimedByMover)) (rescue_removals i (spare x.page (free_of s c)))) h

    pub reclaimed_done : is_dead s.globals i ≡ true → (t : State) → t ≡ counted c counter.Reclaimed (unlinked c (queue_with s c x) x i s) → (t, outcome.Reclaimed) ≡ cleared s c x o
    reclaimed_done h t is = ap (λ (u : State). (u, outcome.Reclaimed)) is ∙ sym (by_death true h)

    pub reclaimed_told : is_dead s.globals i ≡ true → removal o (Some ReclaimedByMover) ≡ cleared_removals s c x o
    reclaimed_told h = ap (λ p. removal p (Some ReclaimedByMover)) e ∙ sym (told_by true h)

    pub evicted_done : is_dead s.globals i ≡ false → spare x.page (free_of s c) ≡ None → (t : State) → t ≡ counted c counter.Evicted (unlinked c (queue_with s c x) x i s) → (t, outcome.Evicted) ≡ cleared s c x o
    evicted_done h n t is = ap (λ (u : State). (u, outcome.Evicted)) is ∙ sym (by_death false h ∙ ap (rescued s c x i) n)

    pub evicted_told : is_dead s.globals i ≡ false → spare x.page (free_of s c) ≡ None → removal o (Some EvictedByMover) ≡ cleared_removals s c x o
    evicted_told h n = ap (λ p. removal p (Some EvictedByMover)) e ∙ sym (told_by false h ∙ ap (rescue_removals i) n)

    pub rescued_done : is_dead s.globals i ≡ false → (y : ChunkRef) → spare x.page (free_of s c) ≡ Some y → (t : State) → t ≡ shifted c (queue_with s c x) x y i (with_free s c (without same_chunk y (free_of s c))) → (t, outcome.Rescued) ≡ cleared s c x o
    rescued_done h y n t is = ap (λ (u : State). (u, outcome.Rescued)) is ∙ sym (by_death false h ∙ ap (rescued s c x i) n)

    pub rescued_told : is_dead s.globals i ≡ false → (y : ChunkRef) → spare x.page (free_of s c) ≡ Some y → [] ≡ cleared_removals s c x o
    rescued_told h y n = sym (told_by false h ∙ ap (rescue_removals i) n)
