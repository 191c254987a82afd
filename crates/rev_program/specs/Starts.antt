-- What a program begins with, where files are played before anything else.
-- Rule of this project: the steps of each file are played from the state that those before it leave.
use Rattle.std.specs.Prelude.{◌≡◌, ◌⊎◌, ℕ, List, [], ◌∷◌, Option, None, Some, String}
use Rattle.std.specs.declared.alloc.Global.{Global}
use Rattle.rev_model.specs.Actor.{Step}
use Rattle.rev_tree.specs.Positions.{SessionState}
use Rattle.rev_script.specs.Script.{lines}
use Rattle.rev_script.specs.Source.{Told, told_of}
use Rattle.rev_script.specs.Steps.{all_steps}
use Rattle.rev_script.specs.declared.dialect.Dialect.{Dialect}
use Rattle.rev_script.specs.declared.source.LastRead.TheVariants.{Gave}
use Rattle.rev_plays.specs.Replies.{state_of}
use Rattle.rev_plays.specs.Start.{from_state, run_forward}
use Rattle.rev_plays.specs.Traces.{IsCutOff}
use Rattle.rev_plays.specs.declared.quiet.TraceFault.{TraceFault}
use Rattle.rev_messages.specs.declared.stop.Stop.{Stop}
use Rattle.rev_program.specs.Stopping.{stop_of_trace}

-- the steps of the bytes' lines, in a dialect, lead from the state in which a session stands to the root of one without
-- other nodes
abbrev pub StartsWith : Dialect → List ℕ → SessionState → SessionState → Type 0
StartsWith d bytes m t = (steps : List Step) × (all_steps (lines d bytes) ≡ Some steps) × (t ≡ from_state (run_forward (state_of m) steps))

-- the same of a file, where its bytes are known
abbrev pub IsStart : Dialect → Option (List ℕ) → SessionState → SessionState → Type 0
IsStart d None m t = Unit {0}
IsStart d (Some bytes) m t = StartsWith d bytes m t

-- the same of files, one after another
abbrev pub AreStarts : Dialect → {F : Type 0} → (F → Option (List ℕ)) → List (String Global × F) → SessionState → SessionState → Type 0
AreStarts d remaining [] m t = t ≡ m
AreStarts d remaining (file ∷ files) m t = (u : SessionState) × IsStart d (remaining file.1) m u × AreStarts d remaining files u t

-- why the steps of a file of this name were not all played: a fault of its bytes, where these are known
pub record Halts (d : Dialect) (known : Option (List ℕ)) (name : String Global) (stop : Stop) : Type 0 where
  pub fault : TraceFault
  pub left : Told
  pub cut_off : IsCutOff d (told_of known Gave 0) left fault
  pub stop_is : stop ≡ stop_of_trace fault name

-- one of the files halts so, and each before it is a start
abbrev pub DoHalt : Dialect → {F : Type 0} → (F → Option (List ℕ)) → List (String Global × F) → SessionState → Stop → Type 0
DoHalt d remaining [] m stop = ⊥
DoHalt d remaining (file ∷ files) m stop =
    Halts d (remaining file.1) file.0 stop ⊎ ((u : SessionState) × IsStart d (remaining file.1) m u × DoHalt d remaining files u stop)
