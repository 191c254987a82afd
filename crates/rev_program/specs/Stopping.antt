-- What ends a program whose run, or a file of whose steps, is at fault.
-- Rule of this project: a run that ends early, and a file that is not steps from its first line to its last.
use Rattle.std.specs.Prelude.{String}
use Rattle.std.specs.declared.alloc.Global.{Global}
use Rattle.rev_messages.specs.declared.stop.Stop.{Stop}
use Rattle.rev_messages.specs.declared.stop.Stop.TheVariants.{Memory, CannotRead, CannotOpen, NotAStep, CannotWrite, TooLong}
use Rattle.rev_plays.specs.declared.quiet.TraceFault.{TraceFault}
use Rattle.rev_plays.specs.declared.quiet.TraceFault.TheVariants as trace_fault
use Rattle.rev_shell.specs.declared.run.RunFault.{RunFault}
use Rattle.rev_shell.specs.declared.run.RunFault.TheVariants as run_fault

-- the end of a program whose run ended before its input did
abbrev pub stop_of_run : RunFault → Stop
stop_of_run (run_fault.Memory line) = Memory
stop_of_run run_fault.Read = CannotRead
stop_of_run run_fault.Write = CannotWrite
stop_of_run run_fault.TooLong = TooLong

-- the end of a program where a file of steps of this name is at fault
abbrev pub stop_of_trace : TraceFault → String Global → Stop
stop_of_trace (trace_fault.NotAStep line) file = NotAStep file line
stop_of_trace trace_fault.Memory file = Memory
stop_of_trace trace_fault.Read file = CannotOpen file
stop_of_trace trace_fault.TooLong file = TooLong
