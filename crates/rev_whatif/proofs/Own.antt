-- A trial of the cache's own settings counts what a report counts of the cache.
use Rattle.std.proofs.Common.{◌≡◌, ℕ, zero, suc, ◌+◌, ◌-◌, ◌^◌, ◌≤◌, Bool, true, false, cond, min, fold, List, [], ◌∷◌, ◌++◌, Option, Some, None, Ok, refl, sym, ◌∙◌, ap, arith}
use Rattle.std.proofs.lemmas.Grind.{common_steps}
use Rattle.std.proofs.lemmas.List.{append_assoc, append-nil}
use Rattle.std.proofs.lemmas.List.Sums.{fold-append, sum_by-append, sum_by-cons}
use Rattle.rev_classes.specs.Limits.{fault_of}
use Rattle.rev_classes.specs.declared.Config.{Config}
use Rattle.rev_classes.specs.declared.ConfigFault.{ConfigFault}
use Rattle.rev_model.specs.State.{State}
use Rattle.rev_model.specs.Actor.{Step}
use Rattle.rev_model.specs.Causes.{step_removals}
use Rattle.rev_model.specs.Events.{is_key, stored_key}
use Rattle.rev_model.specs.Track.{Removal}
use Rattle.rev_model.specs.declared.Cause.{Cause}
use Rattle.rev_model.specs.declared.Outcome.{Outcome}
use Rattle.rev_inverse.specs.Empty.{empty_state}
use Rattle.rev_tree.specs.Steps.{next, outcome_of}
use Rattle.rev_tree.specs.Rows.{Row, row_of, state_from, at_within, at, RowsFall}
use Rattle.rev_tree.specs.Machine.{nodes_from, lineage_within, lineage}
use Rattle.rev_tree.proofs.Rows.{at-zero, at-step}
use Rattle.rev_explain.specs.Departures.{PlainDeparture, departure, departures_in, departures_at, row_departures, departures_along}
use Rattle.rev_figures.specs.Asks.{asked_along}
use Rattle.rev_figures.specs.Classes.{plus}
use Rattle.rev_figures.specs.Kinds.{kind_of}
use Rattle.rev_figures.specs.Rows.{step_row, leaving_row, leaving_rows}
use Rattle.rev_figures.specs.Paths as figures
use Rattle.rev_figures.specs.Tables.{is_counted, is_step, is_eviction, count_left, count_steps}
use Rattle.rev_figures.specs.declared.asks.Ask.{Ask}
use Rattle.rev_figures.specs.declared.path.Leaving.{Leaving}
use Rattle.rev_figures.specs.declared.path.PathStep.{PathStep}
use Rattle.rev_figures.specs.declared.path.StepKind.{StepKind}
use Rattle.rev_figures.specs.declared.path.StepKind.TheVariants as kind
use Rattle.rev_figures.specs.declared.tables.Which.TheVariants.{AllEvicted}
use Rattle.rev_whatif.specs.Runs.{PlainRun}
use Rattle.rev_whatif.specs.Settings.{fault_by}
use Rattle.rev_whatif.specs.Trials.{row_steps, steps_along, path_steps, no_counts, with_kind, with_evictions, evicted, is_left_out, tried, first_run, run_by, outcome_by, trial_of}
use Rattle.rev_whatif.specs.declared.setting.Setting.TheVariants.{Pages}
use Rattle.rev_whatif.specs.declared.trial.Counts.{Counts}

-- a number, or the highest of 64 bits
abbrev pub capped : ℕ → ℕ
capped n = min n (2 ^ 64 - 1)

-- what a report counts of a path
abbrev pub reported : List PathStep → ℕ → Counts
reported ss lost = record {
  hits = capped (count_steps None kind.Hit ss);
  misses = capped (count_steps None kind.Miss ss);
  stores = capped (count_steps None kind.Stored ss);
  evictions = capped lost;
}

-- ---- evictions

evicted-append : (xs ys : List PlainDeparture) → evicted (xs ++ ys) ≡ evicted xs + evicted ys
evicted-append xs ys = sum_by-append (λ (d : PlainDeparture). cond (is_eviction d.cause) 1 0) xs ys

departure_same : (n m : ℕ) (k : List ℕ) (b : Bool) (c : Option Cause) → evicted (departure n k b c) ≡ evicted (departure m k b c)
departure_same n m k b None = refl
departure_same n m k true (Some c) = refl
departure_same n m k false (Some c) = refl

-- whose node it was does not matter
departures_same : (n m : ℕ) (e : Step) (o : Outcome) (rs : List Removal) → evicted (departures_in n e o rs) ≡ evicted (departures_in m e o rs)
departures_same n m e o [] = refl
departures_same n m e o (r ∷ rs) =
    let a = evicted-append (departure n r.key (is_key r.key (stored_key e o)) r.note) (departures_in n e o rs) in
    let b = evicted-append (departure m r.key (is_key r.key (stored_key e o)) r.note) (departures_in m e o rs) in
    let here = departure_same n m r.key (is_key r.key (stored_key e o)) r.note in
    let rest = departures_same n m e o rs in
    omega (arith, a, b, here, rest)

-- the rows of keys that left tell their evictions
rows_evicted : (s : State) (i t : ℕ) (asked : List ℕ → Ask) (ds : List PlainDeparture) → count_left None AllEvicted (leaving_rows s i t asked ds) ≡ evicted ds
rows_evicted s i t asked [] = refl
rows_evicted s i t asked (d ∷ ds) =
    let a = sum_by-cons (λ (l : Leaving). cond (is_counted None AllEvicted l) 1 0) (leaving_row s i t d (asked d.key)) (leaving_rows s i t asked ds) in
    let b = sum_by-cons (λ (d : PlainDeparture). cond (is_eviction d.cause) 1 0) d ds in
    let rest = rows_evicted s i t asked ds in
    omega (arith, a, b, rest)

module _ (root : State) (rows : List (Option Row)) where
  by_evicted : (i n : ℕ) (asked : List ℕ → Ask) (q : Option Row) → count_left None AllEvicted (figures.leavings_by root rows i n asked q) ≡ evicted (row_departures root rows n q)
  by_evicted i n asked None = refl
  by_evicted i n asked (Some r) = rows_evicted (at root rows r.parent) i (at root rows n).globals.clock asked (departures_at n (at root rows r.parent) r.step)

  along_evicted : (i : ℕ) (ns : List ℕ) → count_left None AllEvicted (figures.leavings_along root rows i ns) ≡ evicted (departures_along root rows ns)
  along_evicted i [] = refl
  along_evicted i (n ∷ ns) =
      let asked : List ℕ → Ask = λ k. asked_along root rows k (n ∷ ns) in
      let a : count_left None AllEvicted (figures.leavings_along root rows i (n ∷ ns)) ≡ count_left None AllEvicted (figures.leavings_by root rows i n asked (row_of rows n)) + count_left None AllEvicted (figures.leavings_along root rows (i + 1) ns)
      = sum_by-append (λ (l : Leaving). cond (is_counted None AllEvicted l) 1 0) (figures.leavings_by root rows i n asked (row_of rows n)) (figures.leavings_along root rows (i + 1) ns) in
      let b = evicted-append (row_departures root rows n (row_of rows n)) (departures_along root rows ns) in
      let here = by_evicted i n asked (row_of rows n) in
      let rest = along_evicted (i + 1) ns in
      omega (arith, a, b, here, rest)

  -- ---- a node more

  steps_end : (ns : List ℕ) (n : ℕ) → steps_along rows (ns ++ n ∷ []) ≡ steps_along rows ns ++ steps_along rows (n ∷ [])
  steps_end [] n = refl
  steps_end (m ∷ ms) n = ap (λ l. row_steps (row_of rows m) ++ l) (steps_end ms n) ∙ sym (append_assoc (row_steps (row_of rows m)) (steps_along rows ms) (steps_along rows (n ∷ [])))

  told_end : (ns : List ℕ) (n : ℕ) → figures.steps_along root rows (ns ++ n ∷ []) ≡ figures.steps_along root rows ns ++ figures.steps_along root rows (n ∷ [])
  told_end [] n = refl
  told_end (m ∷ ms) n =
      ap (λ l. figures.steps_by root rows m (row_of rows m) ++ l) (told_end ms n)
      ∙ sym (append_assoc (figures.steps_by root rows m (row_of rows m)) (figures.steps_along root rows ms) (figures.steps_along root rows (n ∷ [])))

  lost_end : (ns : List ℕ) (n : ℕ) → departures_along root rows (ns ++ n ∷ []) ≡ departures_along root rows ns ++ departures_along root rows (n ∷ [])
  lost_end [] n = refl
  lost_end (m ∷ ms) n =
      ap (λ l. row_departures root rows m (row_of rows m) ++ l) (lost_end ms n)
      ∙ sym (append_assoc (row_departures root rows m (row_of rows m)) (departures_along root rows ms) (departures_along root rows (n ∷ [])))

capped_plus : (n m : ℕ) → plus (capped n) m ≡ capped (n + m)
capped_plus n m = grind (arith, common_steps)

count_end : (k : StepKind) (ss : List PathStep) (s : PathStep) → count_steps None k (ss ++ s ∷ []) ≡ count_steps None k ss + (0 + cond (is_step None k s) 1 0)
count_end k ss s = sum_by-append (λ x. cond (is_step None k x) 1 0) ss (s ∷ [])

-- a step more is reported
reported_kind : (k : StepKind) (ss : List PathStep) (s : PathStep) (lost more : ℕ) → s.kind ≡ k → with_kind k (with_evictions more (reported ss lost)) ≡ reported (ss ++ s ∷ []) (lost + more)
reported_kind k ss s lost more e = go k e
  where
    by : (j : StepKind) (b : Bool) → is_step None j s ≡ b → capped (count_steps None j ss + cond b 1 0) ≡ capped (count_steps None j (ss ++ s ∷ []))
    by j b e = let end = count_end j ss s in ap (λ b. capped (count_steps None j ss + cond b 1 0)) (sym e) ∙ ap capped (omega (arith, end))

    one : (j : StepKind) → is_step None j s ≡ true → plus (capped (count_steps None j ss)) 1 ≡ capped (count_steps None j (ss ++ s ∷ []))
    one j e = capped_plus (count_steps None j ss) 1 ∙ by j true e

    none : (j : StepKind) → is_step None j s ≡ false → capped (count_steps None j ss) ≡ capped (count_steps None j (ss ++ s ∷ []))
    none j e = ap capped (omega arith) ∙ by j false e

    is : (j k : StepKind) → s.kind ≡ k → is_step None j s ≡ is_step None j (record s { kind = k })
    is j k e = ap (λ q. is_step None j (record s { kind = q })) e

    go : (k : StepKind) → s.kind ≡ k → with_kind k (with_evictions more (reported ss lost)) ≡ reported (ss ++ s ∷ []) (lost + more)
    go kind.Stored e = rw (one kind.Stored (is kind.Stored kind.Stored e), none kind.Hit (is kind.Hit kind.Stored e), none kind.Miss (is kind.Miss kind.Stored e), capped_plus lost more) refl
    go kind.Hit e = rw (one kind.Hit (is kind.Hit kind.Hit e), none kind.Stored (is kind.Stored kind.Hit e), none kind.Miss (is kind.Miss kind.Hit e), capped_plus lost more) refl
    go kind.Miss e = rw (one kind.Miss (is kind.Miss kind.Miss e), none kind.Hit (is kind.Hit kind.Miss e), none kind.Stored (is kind.Stored kind.Miss e), capped_plus lost more) refl
    go kind.Other e = rw (none kind.Stored (is kind.Stored kind.Other e), none kind.Hit (is kind.Hit kind.Other e), none kind.Miss (is kind.Miss kind.Other e), capped_plus lost more) refl

-- ---- the whole path

module _ (root : State) (rows : List (Option Row)) (fall : RowsFall rows) (all : (n : ℕ) (r : Row) → row_of rows n ≡ Some r → is_left_out r.step ≡ false) where
  at-none : (n : ℕ) → row_of rows n ≡ None → at root rows n ≡ root
  unfolding at
  at-none zero e = refl
  at-none (suc m) e = ap (λ q. state_from q root (λ r. next (at_within m root rows r.parent) r.step)) e

  -- what the report counts of these nodes, and the state behind them
  abbrev behind : ℕ → List ℕ → PlainRun
  behind n ns = record { state = at root rows n; counts = reported (figures.steps_along root rows ns) (evicted (departures_along root rows ns)) }

  -- a node more that is tried
  tried_end : (n : ℕ) (r : Row) (ns : List ℕ) → row_of rows n ≡ Some r → tried (behind r.parent ns) r.step ≡ behind n (ns ++ n ∷ [])
  tried_end n r ns e =
      let s = at root rows r.parent in
      let ss = figures.steps_along root rows ns in
      let lost = evicted (departures_along root rows ns) in
      let row = figures.steps_by root rows n (Some r) in
      let out = all n r e in
      let told : figures.steps_along root rows (ns ++ n ∷ []) ≡ ss ++ row = told_end root rows ns n ∙ ap (λ q. ss ++ (figures.steps_by root rows n q ++ [])) e in
      let gone : evicted (departures_along root rows (ns ++ n ∷ [])) ≡ lost + evicted (departures_at 0 s r.step) =
      ap evicted (lost_end root rows ns n ∙ ap (λ q. departures_along root rows ns ++ (row_departures root rows n q ++ [])) e)
      ∙ evicted-append (departures_along root rows ns) (departures_at n s r.step ++ [])
      ∙ ap (λ l. lost + evicted l) (append-nil (departures_at n s r.step))
      ∙ ap (λ c. lost + c) (departures_same n 0 r.step (outcome_of s r.step) (step_removals s r.step)) in
      let counts = reported_kind (kind_of r.step (outcome_of s r.step)) ss (step_of n r) lost (evicted (departures_at 0 s r.step)) refl in
      rw (out) (rw (sym (at-step root rows fall n r e), told, gone) (ap (λ c. record { state = at root rows n; counts = c }) counts))
    where
      step_of : ℕ → Row → PathStep
      step_of n r = step_row n (at root rows n) r.step (outcome_of (at root rows r.parent) r.step)

  agrees_within : (k n : ℕ) → n ≤ k → fold tried (record { state = root; counts = no_counts }) (steps_along rows (lineage_within k rows n)) ≡ behind n (lineage_within k rows n)
  agrees_within zero zero le = ap (λ s. record { state = s; counts = no_counts }) (sym (at-zero root rows))
  agrees_within zero (suc n) le = absurd (omega (arith, le))
  agrees_within (suc k) n le = go (agrees_within k) (row_of rows n) refl
    where
      first : PlainRun
      first = record { state = root; counts = no_counts }

      go : ((m : ℕ) → m ≤ k → fold tried first (steps_along rows (lineage_within k rows m)) ≡ behind m (lineage_within k rows m)) → (q : Option Row) → row_of rows n ≡ q
          → fold tried first (steps_along rows (nodes_from q (λ r. lineage_within k rows r.parent ++ n ∷ []))) ≡ behind n (nodes_from q (λ r. lineage_within k rows r.parent ++ n ∷ []))
      go up None e = ap (λ s. record { state = s; counts = no_counts }) (sym (at-none n e))
      go up (Some r) e =
          let ns = lineage_within k rows r.parent in
          let lower = fall n r e in
          ap (fold tried first) (steps_end root rows ns n ∙ ap (λ q. steps_along rows ns ++ (row_steps q ++ [])) e)
          ∙ fold-append tried first (steps_along rows ns) (r.step ∷ [])
          ∙ ap (λ p. tried p r.step) (up r.parent (omega (arith, lower, le)))
          ∙ tried_end n r ns e

  -- a store that plays the path counts what the report does
  pub agrees : (n : ℕ) → (fold tried (record { state = root; counts = no_counts }) (path_steps rows n)).counts ≡ reported (figures.path_steps root rows n) (count_left None AllEvicted (figures.path_leavings root rows n))
  unfolding lineage
  agrees n = ap (λ r. r.counts) (agrees_within n n (omega arith)) ∙ ap (reported (figures.path_steps root rows n)) (sym (along_evicted root rows 1 (lineage rows n)))

-- the trial of the pages that the cache has
pub own_trial : (c : Config) (rows : List (Option Row)) (n : ℕ) → RowsFall rows → ((m : ℕ) (r : Row) → row_of rows m ≡ Some r → is_left_out r.step ≡ false) → fault_of c ≡ None
    → trial_of c (path_steps rows n) (Pages c.pages) ≡ record { setting = Pages c.pages; outcome = Ok (reported (figures.path_steps (empty_state c) rows n) (count_left None AllEvicted (figures.path_leavings (empty_state c) rows n))) }
own_trial c rows n fall all none =
    ap (λ (f : Option ConfigFault). record { setting = Pages c.pages; outcome = outcome_by (run_by (path_steps rows n) (first_run c (Pages c.pages) (fault_by f true))) }) none
    ∙ ap (λ (k : Counts). record { setting = Pages c.pages; outcome = Ok k }) (agrees (empty_state c) rows fall all n)
