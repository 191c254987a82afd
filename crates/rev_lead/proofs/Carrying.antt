-- Pages, behind the steps of which a page move is made, and those that leave pages alone.
use Rattle.std.specs.Prelude.{ℕ, ℤ, ◌≡◌, ◌<◌, ◌+◌, zero, suc, Bool, true, false, cond, ◌&&◌, List, [], ◌∷◌, Option, None, Some, Result, Ok, Err, OnOk, OnErr, is_some, length, slice_index, slice_set, nat_eq, nat_le, nat_lt, refl}
use Rattle.std.proofs.Common.{sym, ◌∙◌, ap, subst, inl, inr, arith}
use Rattle.std.proofs.lemmas.Bool.{cases_Bool, false≢true}
use Rattle.std.proofs.Common.{eqb-true}
use Rattle.std.specs.FinMap as map
use Rattle.rev_items.specs.Plain.{PlainItem}
use Rattle.rev_items.specs.Rules.{moment}
use Rattle.rev_model.specs.State.{State, find, item_at, owner_of, free_of, per_page, last_class}
use Rattle.rev_model.specs.Move.{is_class, with_free}
use Rattle.rev_model.specs.Words.{is_dead, dropped, queue_with, with_item}
use Rattle.rev_model.specs.Pull.{page_from, lowest_page}
use Rattle.rev_model.specs.Client.{looked_at, looked_item, lookup, hit, hit_again, get_found, touch_found, until, delete_found, Gets, Touches, Deletes}
use Rattle.rev_model.specs.Actor.{Step, Client, Schedule, Advance, Clock, with_globals, at_clock, is_due, clock, owned_pages, scheduled, schedule, spare, rescued, cleared, next_slot, handed, advance_of, advance}
use Rattle.rev_model.specs.declared.ChunkRef.{ChunkRef}
use Rattle.rev_model.specs.declared.Mover.{Mover}
use Rattle.rev_model.specs.declared.Queue.{Queue}
use Rattle.rev_model.specs.declared.Queue.TheVariants.{Hot, Warm, Cold, Temp}
use Rattle.rev_model.specs.declared.Outcome.{Outcome}
use Rattle.rev_model.specs.declared.Outcome.TheVariants as outcome
use Rattle.rev_tree.specs.Steps.{next, outcome_of}
use Rattle.rev_lead.specs.Acts.{StageState, Act, after, state_of_stage}
use Rattle.rev_lead.specs.Pages.{PageMoved, OnWay, on_way, arrived, Carries}

-- ---- steps that leave pages alone

-- pages stay with their classes, and what is on its way stays so
pub record Calm (s t : State) : Type 0 where
  pub owner : t.owner ≡ s.owner
  pub mover : t.globals.mover ≡ s.globals.mover

calm_more : (s t u : State) → Calm s t → Calm t u → Calm s u
calm_more s t u a b = record { owner = b.owner ∙ a.owner; mover = b.mover ∙ a.mover }

calm_cond : (s : State) (b : Bool) (p q : State) → Calm s p → Calm s q → Calm s (cond b p q)
calm_cond s true p q h k = h
calm_cond s false p q h k = k

calm_same : (s : State) → Calm s s
calm_same s = record { owner = refl; mover = refl }

calm_looked : (s : State) (x : ChunkRef) (o : Option PlainItem) → Calm s (looked_item s x o).0
calm_looked s x None = calm_same s
calm_looked s x (Some i) = elim (cases_Bool (is_dead s.globals i)) [
  | inl h ↦ rw h record { owner = refl; mover = refl }
  | inr h ↦ rw h (calm_same s)
]

calm_lookup : (s : State) (o : Option ChunkRef) → Calm s (looked_at s o).0
calm_lookup s None = calm_same s
calm_lookup s (Some x) = calm_looked s x (item_at s x)

calm_again : (s : State) (q : Queue) (x : ChunkRef) (i : PlainItem) → Calm s (hit_again s q x i)
calm_again s Hot x i = record { owner = refl; mover = refl }
calm_again s Warm x i = record { owner = refl; mover = refl }
calm_again s Temp x i = record { owner = refl; mover = refl }
calm_again s Cold x i = calm_cond s (nat_lt (length s.bump) s.fixed.bump_room) _ _ record { owner = refl; mover = refl } (calm_same s)

calm_hit : (s : State) (x : ChunkRef) (i : PlainItem) → Calm s (hit s x i)
calm_hit s x i = calm_cond s i.bits.active s _ (calm_same s) (calm_cond s i.bits.fetched _ _ (calm_again s (queue_with s (owner_of s x.page) x) x i) record { owner = refl; mover = refl })

calm_got : (s : State) (r : State × Option (ChunkRef × PlainItem)) → Calm s r.0 → Calm s (get_found r).0
calm_got s (t, None) h = h
calm_got s (t, Some (x, i)) h = calm_more s t (hit t x i) h (calm_hit t x i)

calm_until : (s : State) (m : ℕ) (x : ChunkRef) (o : Option PlainItem) → Calm s (until m x o s)
calm_until s m x None = calm_same s
calm_until s m x (Some i) = record { owner = refl; mover = refl }

calm_touched : (s : State) (e : ℤ) (r : State × Option (ChunkRef × PlainItem)) → Calm s r.0 → Calm s (touch_found e r).0
calm_touched s e (t, None) h = h
calm_touched s e (t, Some (x, i)) h = calm_more s t _ h (calm_more t (hit t x i) _ (calm_hit t x i) (calm_until (hit t x i) (moment t.globals.clock e) x (item_at (hit t x i) x)))

calm_deleted : (s : State) (r : State × Option (ChunkRef × PlainItem)) → Calm s r.0 → Calm s (delete_found r).0
calm_deleted s (t, None) h = h
calm_deleted s (t, Some (x, i)) h = record { owner = h.owner; mover = h.mover }

pub get_calm : (s : State) (k : List ℕ) → Calm s (next s (Client (Gets k)))
unfolding next
get_calm s k = calm_got s (lookup s k) (calm_lookup s (find s k))

pub touch_calm : (s : State) (k : List ℕ) (e : ℤ) → Calm s (next s (Client (Touches k e)))
unfolding next
touch_calm s k e = calm_touched s e (lookup s k) (calm_lookup s (find s k))

pub delete_calm : (s : State) (k : List ℕ) → Calm s (next s (Client (Deletes k)))
unfolding next
delete_calm s k = calm_deleted s (lookup s k) (calm_lookup s (find s k))

either_owner : (s : State) (b : Bool) (p q : State × Outcome) → p.0.owner ≡ s.owner → q.0.owner ≡ s.owner → (cond b p q).0.owner ≡ s.owner
either_owner s true p q e f = e
either_owner s false p q e f = f

-- the clock leaves pages alone
pub clock_owner : (s : State) (n : ℕ) (e : Step) → e ≡ Clock n → (next s e).owner ≡ s.owner
unfolding next
clock_owner s n e is = rw is (either_owner s (nat_lt n s.globals.clock) (s, outcome.Idle) (with_globals (at_clock n s.globals) s, outcome.Okay) refl refl)

-- ---- what is on its way

-- nothing was played
pub carries_same : (s t : StageState) → t ≡ s → Carries s t
unfolding Carries
carries_same s t e r a b p w = subst (λ v. OnWay r (state_of_stage v) a b p) (sym e) w

-- one behind the other
pub carries_more : (s t u : StageState) → Carries t u → Carries s t → Carries s u
unfolding Carries
carries_more s t u g f r a b p w = g r a b p (f r a b p w)

calm_way : (r s t : State) (a b p : ℕ) → Calm s t → OnWay r s a b p → OnWay r t a b p
calm_way r s t a b p h (on_way slot o m) = on_way slot (h.owner ∙ o) (h.mover ∙ m)
calm_way r s t a b p h (arrived o m) = arrived (h.owner ∙ o) (h.mover ∙ m)

-- behind a step that leaves pages alone
pub carries_calm : (s t : StageState) (e d : Step) → Calm (state_of_stage s) (next (state_of_stage s) d) → e ≡ d → state_of_stage t ≡ next (state_of_stage s) e → Carries s t
unfolding Carries
carries_calm s t e d calm is to r a b p w = subst (λ u. OnWay r u a b p) (sym (to ∙ ap (next (state_of_stage s)) is)) (calm_way r (state_of_stage s) _ a b p calm w)

-- ---- the mover

rescued_owner : (s : State) (c : ℕ) (x : ChunkRef) (i : PlainItem) (o : Option ChunkRef) → (rescued s c x i o).0.owner ≡ s.owner
rescued_owner s c x i None = refl
rescued_owner s c x i (Some y) = refl

cleared_owner : (s : State) (c : ℕ) (x : ChunkRef) (o : Option PlainItem) → (cleared s c x o).0.owner ≡ s.owner
cleared_owner s c x None = refl
cleared_owner s c x (Some i) = either_owner s (is_dead s.globals i) _ (rescued s c x i (spare x.page (free_of s c))) refl (rescued_owner s c x i (spare x.page (free_of s c)))

handed_way : (r s : State) (a b p slot : ℕ) → s.owner ≡ r.owner → (z : Bool) → nat_eq b 0 ≡ z → OnWay r (handed (record { src = a; dst = b; page = p; slot = slot }) s) a b p
handed_way r s a b p slot o true e = rw e (arrived (ap (λ os. slice_set os p 0) o ∙ ap (slice_set r.owner p) (sym (eqb-true b 0 e))) refl)
handed_way r s a b p slot o false e = rw e (arrived (ap (λ os. slice_set os p b) o) refl)

stepped_way : (r s : State) (a b p slot : ℕ) → s.owner ≡ r.owner → (z : Bool) → nat_eq slot (per_page s.fixed a) ≡ z → OnWay r (advance_of s (Some (record { src = a; dst = b; page = p; slot = slot }))).0 a b p
stepped_way r s a b p slot o true e = rw e (handed_way r s a b p slot o (nat_eq b 0) refl)
stepped_way r s a b p slot o false e = rw e (on_way (slot + 1) (cleared_owner s a (record { page = p; slot = slot }) (item_at s (record { page = p; slot = slot })) ∙ o) refl)

advanced_from : (r s : State) (a b p : ℕ) (o : Option Mover) → s.globals.mover ≡ o → OnWay r s a b p → OnWay r (advance_of s o).0 a b p
advanced_from r s a b p o e (on_way slot same m) = subst (λ q. OnWay r (advance_of s q).0 a b p) (sym m ∙ e) (stepped_way r s a b p slot same (nat_eq slot (per_page s.fixed a)) refl)
advanced_from r s a b p o e (arrived there m) = subst (λ q. OnWay r (advance_of s q).0 a b p) (sym m ∙ e) (arrived there m)

advanced_way : (r s : State) (a b p : ℕ) → OnWay r s a b p → OnWay r (advance s).0 a b p
advanced_way r s a b p w = advanced_from r s a b p s.globals.mover refl w

-- a step of the mover
pub carries_advance : (s t : StageState) (e : Step) → e ≡ Advance → state_of_stage t ≡ next (state_of_stage s) e → Carries s t
unfolding Carries next
carries_advance s t e is to r a b p w = subst (λ u. OnWay r u a b p) (sym (to ∙ ap (next (state_of_stage s)) is)) (advanced_way r (state_of_stage s) a b p w)

-- ---- a move begins

some_inj : (k p : ℕ) → Some k ≡ Some p → k ≡ p
some_inj k p e = cc

page_found : (k c : ℕ) (owner : List ℕ) (p : ℕ) → page_from k c owner ≡ Some p → (i : ℕ) × (p ≡ k + i) × (i < length owner) × (slice_index owner i ≡ c)
page_found k c [] p e = absurd (cc)
page_found k c (d ∷ ds) p e = elim (cases_Bool (nat_eq d c)) [
  | inl h ↦ let is : k ≡ p = some_inj k p (rw h at e) in (0, omega (arith, is), omega arith, eqb-true d c h)
  | inr h ↦ let w = page_found (k + 1) c ds p (rw h at e) in (suc w.0, omega (arith, w.1), omega (arith, w.2), w.3)
]

-- the page of a move that was accepted, and the state behind it
pub record Begun (s t : State) (a b : ℕ) : Type 0 where
  pub page : ℕ
  pub made : page < length s.owner
  pub source : owner_of s page ≡ a
  pub way : OnWay s t a b page

begun_else : (s : State) (x y : ℕ) (b : Bool) (o : Outcome) (q : State × Outcome) → (o ≡ outcome.Okay → ⊥) → (q.1 ≡ outcome.Okay → Begun s q.0 x y) → (cond b (s, o) q).1 ≡ outcome.Okay → Begun s (cond b (s, o) q).0 x y
begun_else s x y true o q never f e = absurd (never e)
begun_else s x y false o q never f e = f e

no_spare : outcome.NoSpare ≡ outcome.Okay → ⊥
no_spare e = cc

is_busy : outcome.Busy ≡ outcome.Okay → ⊥
is_busy e = cc

is_same : outcome.Same ≡ outcome.Okay → ⊥
is_same e = cc

is_bad : outcome.BadClass ≡ outcome.Okay → ⊥
is_bad e = cc

begun_of : (s : State) (a b : ℕ) (o : Option ℕ) → lowest_page s a ≡ o → (scheduled s a b o).1 ≡ outcome.Okay → Begun s (scheduled s a b o).0 a b
begun_of s a b None f e = absurd (no_spare e)
begun_of s a b (Some p) f e = begun_else s a b (nat_lt (owned_pages a s.owner) 2) outcome.NoSpare _ no_spare (λ _. let w = page_found 0 a s.owner p f in record {
  page = p;
  made = let is : p ≡ 0 + w.0 = w.1 in let below = w.2 in omega (arith, is, below);
  source = let is : p ≡ w.0 = omega (arith, w.1) in ap (slice_index s.owner) is ∙ w.3;
  way = on_way 0 refl refl;
}) e

begun_class : (s : State) (a b : ℕ) (c : Bool) → (cond c (scheduled s a b (lowest_page s a)) (s, outcome.BadClass)).1 ≡ outcome.Okay → Begun s (cond c (scheduled s a b (lowest_page s a)) (s, outcome.BadClass)).0 a b
begun_class s a b true e = begun_of s a b (lowest_page s a) refl e
begun_class s a b false e = absurd (is_bad e)

begun_schedule : (s : State) (a b : ℕ) → (schedule s a b).1 ≡ outcome.Okay → Begun s (schedule s a b).0 a b
begun_schedule s a b e =
    begun_else s a b (is_some s.globals.mover) outcome.Busy _ is_busy
    (begun_else s a b (nat_eq a b) outcome.Same _ is_same (begun_class s a b (is_class s a && nat_le b (last_class s)))) e

begun_next : (s : State) (a b : ℕ) → outcome_of s (Schedule a b) ≡ outcome.Okay → Begun s (next s (Schedule a b)) a b
unfolding next outcome_of
begun_next s a b e = begun_schedule s a b e

ended_way : (s t : State) (a b p : ℕ) → p < length s.owner → owner_of s p ≡ a → t.globals.mover ≡ None → OnWay s t a b p → PageMoved s t a b
ended_way s t a b p made source none (on_way slot o m) = absurd (false≢true (ap is_some (sym none ∙ m)))
ended_way s t a b p made source none (arrived o m) = record { page = p; made = made; source = source; owners = o; ended = m }

-- a move that was accepted, and behind which no page is on its way, was made
pub page_moved : (s t u : StageState) (a b : ℕ) (e : Step) (o : Outcome) → e ≡ Schedule a b → o ≡ outcome_of (state_of_stage s) e → o ≡ outcome.Okay → state_of_stage t ≡ next (state_of_stage s) e → Carries t u → (state_of_stage u).globals.mover ≡ None → PageMoved (state_of_stage s) (state_of_stage u) a b
unfolding Carries
page_moved s t u a b e o is told okay to carries none =
    let w = begun_next (state_of_stage s) a b (ap (outcome_of (state_of_stage s)) (sym is) ∙ sym told ∙ okay) in
    let there = subst (λ v. OnWay (state_of_stage s) v a b w.page) (sym (to ∙ ap (next (state_of_stage s)) is)) w.way in
    ended_way (state_of_stage s) (state_of_stage u) a b w.page w.made w.source none (carries (state_of_stage s) a b w.page there)

-- a page move was made behind what leaves the pages alone
pub page_moved_more : (r s t : State) (a b : ℕ) → s.owner ≡ r.owner → PageMoved s t a b → PageMoved r t a b
page_moved_more r s t a b e m = record {
  page = m.page;
  made = subst (λ os. m.page < length os) e m.made;
  source = subst (λ os. slice_index os m.page ≡ a) e m.source;
  owners = m.owners ∙ ap (λ os. slice_set os m.page b) e;
  ended = m.ended;
}
