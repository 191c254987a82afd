-- The evictions that a record tells, change by change.
use Rattle.std.proofs.Common.{◌≡◌, ℕ, ◌+◌, ◌<◌, ◌≤◌, cond, List, [], ◌∷◌, ◌++◌, length, slice_index_or, ap, arith}
use Rattle.std.proofs.lemmas.List.Sums.{sum_by-append}
use Rattle.rev_model.specs.State.{State}
use Rattle.rev_model.specs.Actor.{Step}
use Rattle.rev_model.specs.Events.{is_key, stored_key}
use Rattle.rev_model.specs.Track.{Removal, removals}
use Rattle.rev_model.specs.declared.Outcome.{Outcome}
use Rattle.rev_inverse.specs.Record.{PlainChange, PlainRecord, IsWhole, plain_change}
use Rattle.rev_inverse.specs.declared.changes.Change as kept
use Rattle.rev_explain.specs.Readings.{removals_by}
use Rattle.rev_explain.specs.Departures.{PlainDeparture, departure, departures_in}
use Rattle.rev_explain.proofs.Departing.{removals_from, removals_next, removals_end, removals_whole}
use Rattle.rev_figures.specs.Tables.{is_eviction}
use Rattle.rev_whatif.specs.Trials.{evicted}

module _ (n : ℕ) (e : Step) (o : Outcome) where
  -- the evictions among removals
  abbrev pub lost : List Removal → ℕ
  lost rs = evicted (departures_in n e o rs)

  evicted-append : (xs ys : List PlainDeparture) → evicted (xs ++ ys) ≡ evicted xs + evicted ys
  evicted-append xs ys = sum_by-append (λ (d : PlainDeparture). cond (is_eviction d.cause) 1 0) xs ys

  lost-append : (xs ys : List Removal) → lost (xs ++ ys) ≡ lost xs + lost ys
  lost-append [] ys = omega arith
  lost-append (r ∷ rs) ys =
      let here = departure n r.key (is_key r.key (stored_key e o)) r.note in
      let all = evicted-append here (departures_in n e o (rs ++ ys)) in
      let some = evicted-append here (departures_in n e o rs) in
      let rest = lost-append rs ys in
      omega (arith, all, some, rest)

  -- one change more was read
  pub lost_next : {A : Type 0} → (gs : List PlainChange) (i : ℕ) (m : kept.Change A) (t : State) (old more all : ℕ) → i < length gs → plain_change m ≡ slice_index_or gs i (plain_change m)
      → old + lost (removals_from gs i t) ≡ all → more ≡ old + lost (removals_by m) → more + lost (removals_from gs (i + 1) t) ≡ all
  lost_next gs i m t old more all lt at so me =
      let next = ap lost (removals_next gs i m t lt at) in
      let parts = lost-append (removals_by m) (removals_from gs (i + 1) t) in
      omega (arith, next, parts, so, me)

  -- all changes were read
  pub lost_all : (r : PlainRecord) (i : ℕ) (t : State) (count : ℕ) → IsWhole r → length r.changes ≤ i → count + lost (removals_from r.changes i t) ≡ lost (removals_from r.changes 0 t) → count ≡ lost (removals r.moves r.notes t)
  lost_all r i t count whole le so =
      let none : lost (removals_from r.changes i t) ≡ 0 = ap lost (removals_end r.changes i t le) in
      let all = ap lost (removals_whole r t whole) in
      omega (arith, none, all, so)
