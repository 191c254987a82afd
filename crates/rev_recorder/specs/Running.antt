-- What `run_actors` leaves of each hand.
-- Rule of this project: a player's steps are played in its order, up to the first refusal.
use Rattle.std.specs.Prelude.{◌⊎◌, ◌≡◌, ◌≢◌, ℕ, List, [], ◌∷◌, ◌++◌, length, map, Some, None, Result, Ok, Err}
use Rattle.std.specs.Global.{Vec}
use Rattle.rev_model.specs.Actor.{Step}
use Rattle.rev_requests.specs.declared.steps.Step.{Step as StepIn}
use Rattle.rev_requests.specs.Plain.{plain_step}
use Rattle.rev_recorder.specs.declared.hand.Call.TheVariants.{Many, Deep}
use Rattle.rev_recorder.specs.declared.hand.Receipt.{Receipt}
use Rattle.rev_recorder.specs.declared.recorder.RecordFault.{RecordFault}
use Rattle.rev_recorder.specs.declared.recorder.RecordFault.TheVariants.{TooManyNodes, TooDeep, Memory, StrangerHand, NoNode}
use Rattle.rev_recorder.specs.Hands.{PlainEntry, PlainHand, with_entry}
use Rattle.rev_recorder.specs.declared.run.Job.{Job}
use Rattle.rev_recorder.specs.Answers.{IsPlay, okay_at, LeftByPlay}

-- the entries are plays of the first so many of the steps, in order
abbrev pub ArePlays : List Step → List PlainEntry → Type 0
ArePlays steps [] = Unit {0}
ArePlays [] (entry ∷ entries) = ⊥
ArePlays (step ∷ steps) (entry ∷ entries) = IsPlay entry.receipt.call × (entry.step ≡ Some step) × ArePlays steps entries

-- the entry of a refused play
abbrev pub IsRefusal : PlainEntry → RecordFault → Type 0
IsRefusal entry TooManyNodes = (place : ℕ) × (entry ≡ record { receipt = okay_at place Many; step = None })
IsRefusal entry TooDeep = (place : ℕ) × (entry ≡ record { receipt = okay_at place Deep; step = None })
IsRefusal entry Memory = ⊥
IsRefusal entry StrangerHand = ⊥
IsRefusal entry NoNode = ⊥

-- how the entries go on after the plays, by the hand's result: not at all where every step was played or the call left
-- no entry, and by the entry of the refusal where the tree refused
abbrev pub EndsWith : ℕ → PlainHand → List Step → List PlainEntry → List PlainEntry → Result (Unit {0}) RecordFault → Type 0
EndsWith seal old steps plays rest (Ok done) = (length plays ≡ length steps) × (rest ≡ [])
EndsWith seal old steps plays rest (Err TooManyNodes) = (entry : PlainEntry) × (rest ≡ entry ∷ []) × IsRefusal entry TooManyNodes
EndsWith seal old steps plays rest (Err TooDeep) = (entry : PlainEntry) × (rest ≡ entry ∷ []) × IsRefusal entry TooDeep
EndsWith seal old steps plays rest (Err Memory) = rest ≡ []
EndsWith seal old steps plays rest (Err StrangerHand) = (rest ≡ []) × (old.seal ≢ seal)
EndsWith seal old steps plays rest (Err NoNode) = ⊥

-- the hand's old entries, then plays of a prefix of its steps, and then what the result says
pub record Ran (seal : ℕ) (steps : List Step) (old : PlainHand) (result : Result (Unit {0}) RecordFault) (new : PlainHand) : Type 0 where
  pub plays : List PlainEntry
  pub rest : List PlainEntry
  pub player : new.player ≡ old.player
  pub seal_kept : new.seal ≡ old.seal
  pub entries : new.entries ≡ old.entries ++ (plays ++ rest)
  pub prefix : ArePlays steps plays
  pub ending : EndsWith seal old steps plays rest result

-- step for step: each play adds an entry, and the first refusal ends the run
abbrev pub RunsTo : ℕ → List Step → PlainHand → Result (Unit {0}) RecordFault → PlainHand → Type 0
RunsTo seal [] old result new = (result ≡ Ok tt) × (new ≡ old)
RunsTo seal (step ∷ steps) old result new =
    ((receipt : Receipt) × IsPlay receipt.call × RunsTo seal steps (with_entry old receipt (Some step)) result new)
    ⊎ ((fault : RecordFault) × (result ≡ Err fault) × LeftByPlay old fault new × (fault ≡ StrangerHand → old.seal ≢ seal))

-- the two lists are as long as each other, and what stands at the same place is related
abbrev pub Pairwise : {X Y : Type 0} → (X → Y → Type 0) → List X → List Y → Type 0
Pairwise R [] [] = Unit {0}
Pairwise R [] (y ∷ ys) = ⊥
Pairwise R (x ∷ xs) [] = ⊥
Pairwise R (x ∷ xs) (y ∷ ys) = R x y × Pairwise R xs ys

-- each hand came back in its place, and ran its steps
abbrev pub AllRan : {A : Type 0} → ℕ → List (PlainHand × Vec (StepIn A)) → List (PlainHand × Result (Unit {0}) RecordFault) → Type 0
AllRan seal work done = Pairwise (λ w d. Ran seal (map plain_step w.1.items) w.0 d.1 d.0) work done

-- a hand with its steps, as they came
abbrev pub asked : {A : Type 0} → PlainHand × Vec (StepIn A) → PlainHand × List Step
asked work = (work.0, map plain_step work.1.items)

-- a hand with its steps, as a job has them
abbrev pub asks : Job → PlainHand × List Step
asks job = (job.hand, map plain_step job.steps.items)

-- a hand with its result
abbrev pub answers : Job → PlainHand × Result (Unit {0}) RecordFault
answers job = (job.hand, job.result)

-- the job's hand ran the job's steps
abbrev pub JobRan : ℕ → Job → Job → Type 0
JobRan seal old new = RunsTo seal (map plain_step old.steps.items) old.hand new.result new.hand
