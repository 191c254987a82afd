-- What scripts that the rules lead leave.
-- Rule of this project: each step is played where the one before led, and no node of theirs is kept; steps are numbered
-- over all scripts, from 1.
use Rattle.std.specs.Prelude.{◌≡◌, ℕ, List, [], ◌∷◌, Some}
use Rattle.rev_tree.specs.Steps.{Step}
use Rattle.rev_tree.specs.Positions.{SessionState}
use Rattle.rev_script.specs.Script.{ScriptLine}
use Rattle.rev_script.specs.Steps.{steps_of}
use Rattle.rev_script.specs.Source.{Told as Source}
use Rattle.rev_script.specs.declared.dialect.Dialect.{Dialect}
use Rattle.rev_plays.specs.Replies.{state_of}
use Rattle.rev_plays.specs.Start.{from_state, run_forward}
use Rattle.rev_plays.specs.Traces.{IsCutOff}
use Rattle.rev_evidence.specs.Heard.{step_number}
use Rattle.rev_rules.specs.declared.fault.RulesFault.{RulesFault}
use Rattle.rev_rules.specs.declared.fault.RulesFault.TheVariants.{Script, Told}

-- where the steps so far led, and how many they were
pub record RulesState : Type 0 where
  pub session : SessionState
  pub steps : ℕ

-- how many steps they are with these; the count stays at the most that 64 bits hold
abbrev pub counted : ℕ → List Step → ℕ
counted n [] = n
counted n (e ∷ es) = counted (step_number n 1) es

-- the same behind these steps
abbrev pub behind : RulesState → List Step → RulesState
behind r steps = record { session = from_state (run_forward (state_of r.session) steps); steps = counted r.steps steps }

-- no node stands but the root
abbrev pub IsFresh : SessionState → Type 0
IsFresh m = m ≡ from_state (state_of m)

-- these steps lead from the one to the other, and each is counted
abbrev pub Went : RulesState → List Step → RulesState → Type 0
Went old steps new = (state_of new.session ≡ run_forward (state_of old.session) steps) × (new.steps ≡ counted old.steps steps)

-- the line's steps lead from the one to the other
abbrev pub Makes : RulesState → ScriptLine → RulesState → Type 0
Makes old line new = (steps : List Step) × (steps_of line ≡ Some steps) × Went old steps new

-- a script that is stopped by its own fault was cut off so; who listens may stop it at any line
abbrev pub IsStopped : Dialect → Source → Source → RulesFault → Type 0
IsStopped d old new (Script fault) = IsCutOff d old new fault
IsStopped d old new (Told fault) = Unit {0}
