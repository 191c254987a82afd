-- What ends a report before a file is opened. Rule of this project: a configuration that is asked for is looked at
-- first; a server's settings tell that of its logs.
use Rattle.std.specs.Prelude.{Option, None}
use Rattle.rev_classes.specs.Limits.{fault_of}
use Rattle.rev_classes.specs.declared.ConfigFault.{ConfigFault}
use Rattle.rev_options.specs.declared.reporting.Played.{Played}
use Rattle.rev_options.specs.declared.reporting.Played.TheVariants.{Traces, Logs, Rows}

-- the first limit that the configuration breaks, where one is asked for
abbrev pub played_fault : Played → Option ConfigFault
played_fault (Traces asked) = fault_of asked.config
played_fault (Logs asked) = None
played_fault (Rows asked) = fault_of asked.config
