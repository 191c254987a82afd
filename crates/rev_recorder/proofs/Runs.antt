-- What the runs of all hands leave.
use Rattle.std.proofs.Common.{◌≡◌, ◌≢◌, inl, inr, ℕ, suc, ◌<◌, List, [], ◌∷◌, length, map, get_or, Some, None, Result, Ok, Err, refl, sym, ap, ◌∙◌, subst, arith, append_assoc, append-nil}
use Rattle.std.specs.Global.{Vec}
use Rattle.rev_model.specs.Actor.{Step}
use Rattle.rev_requests.specs.declared.steps.Step.{Step as StepIn}
use Rattle.rev_requests.specs.Plain.{plain_step}
use Rattle.rev_recorder.specs.declared.hand.Call.TheVariants.{Many, Deep}
use Rattle.rev_recorder.specs.declared.hand.Receipt.{Receipt}
use Rattle.rev_recorder.specs.declared.recorder.RecordFault.{RecordFault}
use Rattle.rev_recorder.specs.declared.recorder.RecordFault.TheVariants.{TooManyNodes, TooDeep, Memory, StrangerHand, NoNode}
use Rattle.rev_recorder.specs.declared.run.Job.{Job}
use Rattle.rev_recorder.specs.Hands.{PlainEntry, PlainHand, with_entry}
use Rattle.rev_recorder.specs.Answers.{okay_at, LeftByPlay}
use Rattle.rev_recorder.specs.Running.{Ran, RunsTo, EndsWith, AllRan, JobRan, asks, asked, answers}

-- one step more before the same end
ends-more : (seal : ℕ) (old : PlainHand) (receipt : Receipt) (step : Step) (steps : List Step) (entry : PlainEntry) (plays rest : List PlainEntry) (result : Result (Unit {0}) RecordFault)
    → EndsWith seal (with_entry old receipt (Some step)) steps plays rest result → EndsWith seal old (step ∷ steps) (entry ∷ plays) rest result
ends-more seal old receipt step steps entry plays rest (Ok u) h = (ap (λ (n : ℕ). suc n) h.0, h.1)
ends-more seal old receipt step steps entry plays rest (Err TooManyNodes) h = h
ends-more seal old receipt step steps entry plays rest (Err TooDeep) h = h
ends-more seal old receipt step steps entry plays rest (Err Memory) h = h
ends-more seal old receipt step steps entry plays rest (Err StrangerHand) h = h
ends-more seal old receipt step steps entry plays rest (Err NoNode) h = h

-- a run that was refused at its first step
refused : (seal : ℕ) (steps : List Step) (old new : PlainHand) (fault : RecordFault) → LeftByPlay old fault new → (fault ≡ StrangerHand → old.seal ≢ seal) → Ran seal steps old (Err fault) new
refused seal steps old new TooManyNodes left strange = record {
  plays = [];
  rest = record { receipt = okay_at left.0 Many; step = None } ∷ [];
  player = ap (λ (h : PlainHand). h.player) left.1;
  seal_kept = ap (λ (h : PlainHand). h.seal) left.1;
  entries = ap (λ (h : PlainHand). h.entries) left.1;
  prefix = tt;
  ending = (record { receipt = okay_at left.0 Many; step = None }, refl, (left.0, refl));
}
refused seal steps old new TooDeep left strange = record {
  plays = [];
  rest = record { receipt = okay_at left.0 Deep; step = None } ∷ [];
  player = ap (λ (h : PlainHand). h.player) left.1;
  seal_kept = ap (λ (h : PlainHand). h.seal) left.1;
  entries = ap (λ (h : PlainHand). h.entries) left.1;
  prefix = tt;
  ending = (record { receipt = okay_at left.0 Deep; step = None }, refl, (left.0, refl));
}
refused seal steps old new Memory left strange = record {
  plays = [];
  rest = [];
  player = ap (λ (h : PlainHand). h.player) left;
  seal_kept = ap (λ (h : PlainHand). h.seal) left;
  entries = ap (λ (h : PlainHand). h.entries) left ∙ sym (append-nil old.entries);
  prefix = tt;
  ending = refl;
}
refused seal steps old new StrangerHand left strange = record {
  plays = [];
  rest = [];
  player = ap (λ (h : PlainHand). h.player) left;
  seal_kept = ap (λ (h : PlainHand). h.seal) left;
  entries = ap (λ (h : PlainHand). h.entries) left ∙ sym (append-nil old.entries);
  prefix = tt;
  ending = (refl, strange refl);
}
refused seal steps old new NoNode left strange = absurd left

-- what a run step for step leaves
ran : (seal : ℕ) (steps : List Step) (old : PlainHand) (result : Result (Unit {0}) RecordFault) (new : PlainHand) → RunsTo seal steps old result new → Ran seal steps old result new
ran seal [] old result new h =
    let P : Result (Unit {0}) RecordFault → Type 0 = λ r. Ran seal [] old r new in
    let done : P (Ok tt) = record {
      plays = [];
      rest = [];
      player = ap (λ (a : PlainHand). a.player) h.1;
      seal_kept = ap (λ (a : PlainHand). a.seal) h.1;
      entries = ap (λ (a : PlainHand). a.entries) h.1 ∙ sym (append-nil old.entries);
      prefix = tt;
      ending = (refl, refl);
    } in
    subst P (sym h.0) done
ran seal (step ∷ steps) old result new (inl h) =
    let entry : PlainEntry = record { receipt = h.0; step = Some step } in
    let more : Ran seal steps (with_entry old h.0 (Some step)) result new = ran seal steps (with_entry old h.0 (Some step)) result new h.2 in
    record {
      plays = entry ∷ more.plays;
      rest = more.rest;
      player = more.player;
      seal_kept = more.seal_kept;
      entries = more.entries ∙ rw append_assoc refl;
      prefix = (h.1, refl, more.prefix);
      ending = ends-more seal old h.0 step steps entry more.plays more.rest result more.ending;
    }
ran seal (step ∷ steps) old result new (inr h) =
    let P : Result (Unit {0}) RecordFault → Type 0 = λ r. Ran seal (step ∷ steps) old r new in
    subst P (sym h.1) (refused seal (step ∷ steps) old new h.0 h.2 h.3)

-- a list that is empty has no first element
no-cons : {X : Type 0} (x : X) (xs : List X) → x ∷ xs ≡ [] → ⊥
no-cons x xs e = cc

-- the same from the other side
no-nil : {X : Type 0} (x : X) (xs : List X) → [] ≡ x ∷ xs → ⊥
no-nil x xs e = cc

-- hand for hand
pub all-ran : {A : Type 0} (seal : ℕ) (work : List (PlainHand × Vec (StepIn A))) (jobs jobs' : List Job) → map asks jobs ≡ map asked work → length jobs' ≡ length jobs
    → ((i : ℕ) (d : Job) → i < length jobs → JobRan seal (get_or jobs i d) (get_or jobs' i d)) → AllRan seal work (map answers jobs')
all-ran seal [] [] [] is len each = tt
all-ran seal [] [] (j ∷ js) is len each = absurd (omega arith)
all-ran seal [] (j ∷ js) js' is len each = absurd (no-cons _ _ is)
all-ran seal (w ∷ ws) [] js' is len each = absurd (no-nil _ _ is)
all-ran seal (w ∷ ws) (j ∷ js) [] is len each = absurd (omega arith)
all-ran seal (w ∷ ws) (j ∷ js) (j' ∷ js') is len each =
    let first : asks j ≡ asked w = cc in
    let others : map asks js ≡ map asked ws = cc in
    let P : PlainHand × List Step → Type 0 = λ a. Ran seal a.1 a.0 j'.result j'.hand in
    let here : P (asks j) = ran seal (map plain_step j.steps.items) j.hand j'.result j'.hand (each 0 j (omega arith)) in
    (subst P first here, all-ran seal ws js js' others (omega arith) (λ i d within. each (suc i) d (omega arith)))
