-- Steps that are played without an answer.
-- Rule of this project: steps are played in their order, up to the first that a limit of the tree refuses.
use Rattle.std.specs.Prelude.{◌≡◌, List, [], ◌∷◌, map}
use Rattle.rev_model.specs.Actor.{Step}
use Rattle.rev_steps.specs.Plain.{plain_step}
use Rattle.rev_tree.specs.Positions.{SessionState}
use Rattle.rev_script.specs.Steps.{get}
use Rattle.rev_script.specs.declared.byte_reader.LineFault.{LineFault}
use Rattle.rev_script.specs.declared.byte_reader.LineFault.TheVariants as faults
use Rattle.rev_plays.specs.Replies.{reply, after_step, if_played}
use Rattle.rev_plays.specs.declared.play.Reply.{Reply}
use Rattle.rev_plays.specs.declared.play.Reply.TheVariants as replies
use Rattle.rev_plays.specs.declared.quiet.LineSteps.{LineSteps}
use Rattle.rev_plays.specs.declared.quiet.LineSteps.TheVariants.{One, Gets}
use Rattle.rev_plays.specs.declared.quiet.Quiet.{Quiet}
use Rattle.rev_plays.specs.declared.quiet.Quiet.TheVariants.{Played, TooManyNodes, TooDeep}
use Rattle.rev_plays.specs.declared.quiet.TraceFault.{TraceFault}
use Rattle.rev_plays.specs.declared.quiet.TraceFault.TheVariants as traces

-- the steps, in order
abbrev pub plain_steps : {A : Type 0} → LineSteps A → List Step
plain_steps (One step) = plain_step step ∷ []
plain_steps (Gets keys) = map get keys.items

-- the session after the steps, up to the first that a limit refuses
abbrev pub after_steps : SessionState → List Step → SessionState
after_steps m [] = m
after_steps m (e ∷ es) = if_played (reply m e) (after_steps (after_step m e) es) m

-- how a step went
abbrev pub quiet_of : Reply → Quiet
quiet_of (replies.Played o) = Played
quiet_of replies.TooManyNodes = TooManyNodes
quiet_of replies.TooDeep = TooDeep

-- a reader's fault as one of a script whose steps are played
abbrev pub trace_fault : LineFault → TraceFault
trace_fault faults.Memory = traces.Memory
trace_fault faults.Read = traces.Read
trace_fault faults.TooLong = traces.TooLong
