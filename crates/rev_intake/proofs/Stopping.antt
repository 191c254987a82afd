-- Why an intake stopped.
use Rattle.std.proofs.Common.{◌≡◌, ℕ, List, Option, subst, sym, ap, ◌∙◌, refl}
use Rattle.rev_output.specs.Sink.{one_more}
use Rattle.rev_script.specs.Source.{Told}
use Rattle.rev_watch.specs.Reader.{IsFault, Kept}
use Rattle.rev_watch.specs.declared.event.Line as event
use Rattle.rev_watch.specs.declared.fault.LogFault.{LogFault}
use Rattle.rev_watch.specs.declared.fault.LogFault.TheVariants as log
use Rattle.rev_watch.specs.declared.reader.LogReader.{LogReader}
use Rattle.rev_intake.specs.Intake.{PlainIntake, Reads, StopsEnding, fault_of_log}
use Rattle.rev_intake.specs.Logs.{SpoilsBy, Spoils}
use Rattle.rev_intake.specs.Sending.{Stops}
use Rattle.rev_intake.specs.declared.fault.IntakeFault.{IntakeFault}
use Rattle.rev_intake.specs.declared.fault.IntakeFault.TheVariants as faults
use Rattle.rev_intake.proofs.Taken.{reads_kept}

-- no write had failed before
pub stops_later : (k l m : ℕ) (e : IntakeFault) → l ≡ k → Stops l m e → Stops k m e
stops_later k l m e same s = subst (λ n. Stops n m e) same s

-- it stopped at a log
pub spoils_stopped : {S : Type 0} (A : Type 0) (told : S → Told) (log read : LogReader S) (k l : ℕ) (e : IntakeFault) → Stops k l e → Spoils A told log read k l e
spoils_stopped A told log read k l e s = record { why = stopped_by A told log read k l e s }
  where
    stopped_by : {S : Type 0} (A : Type 0) (told : S → Told) (log read : LogReader S) (k l : ℕ) (e : IntakeFault) → Stops k l e → SpoilsBy A told log read k l e
    stopped_by A told log read k l faults.Memory s = tt
    stopped_by A told log read k l faults.Read s = absurd s
    stopped_by A told log read k l (faults.Line line fault) s = absurd s
    stopped_by A told log read k l faults.TooLong s = absurd s
    stopped_by A told log read k l faults.Write s = s
    stopped_by A told log read k l faults.NoEvent s = absurd s

-- the log is at fault
pub spoils_log : {S A : Type 0} (told : S → Told) (of r new : LogReader S) (k l : ℕ) (ls : List (event.Line A)) (e : LogFault) →
    Reads told of r ls → Kept told r new → IsFault A told new e → Spoils A told of new k l (fault_of_log e)
spoils_log told of r new k l ls e x kept f = record { why = at_fault told of r new k l ls e x kept f }
  where
    at_fault : {S A : Type 0} (told : S → Told) (of r new : LogReader S) (k l : ℕ) (ls : List (event.Line A)) (e : LogFault) →
        Reads told of r ls → Kept told r new → IsFault A told new e → SpoilsBy A told of new k l (fault_of_log e)
    at_fault told of r new k l ls log.Memory x kept f = tt
    at_fault told of r new k l ls log.Read x kept f = f
    at_fault told of r new k l ls (log.Line line fault) x kept f = (ls, reads_kept told of r new ls x kept, f.0, f.1)

-- it stopped behind the logs
pub ending_stopped : {A : Type 0} (old : PlainIntake A) (held holds : Option (List ℕ)) (k l : ℕ) (e : IntakeFault) → Stops k l e → StopsEnding old held holds k l e
ending_stopped old held holds k l faults.Memory s = tt
ending_stopped old held holds k l faults.Read s = absurd s
ending_stopped old held holds k l (faults.Line line fault) s = absurd s
ending_stopped old held holds k l faults.TooLong s = absurd s
ending_stopped old held holds k l faults.Write s = s
ending_stopped old held holds k l faults.NoEvent s = absurd s
