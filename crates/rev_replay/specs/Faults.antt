-- Why nothing more is played of logs.
-- Rule of this project: a fault of a log or of its replay is told as what it is.
use Rattle.rev_watch.specs.declared.fault.LogFault.{LogFault}
use Rattle.rev_watch.specs.declared.fault.LogFault.TheVariants as log
use Rattle.rev_lead.specs.declared.stage.LeadFault.{LeadFault}
use Rattle.rev_lead.specs.declared.stage.LeadFault.TheVariants as lead
use Rattle.rev_replay.specs.declared.fault.ReplayFault.{ReplayFault}
use Rattle.rev_replay.specs.declared.fault.ReplayFault.TheVariants.{Memory, Read, Line, TooManySteps}

-- what a fault of a log is
abbrev pub fault_of_log : LogFault → ReplayFault
fault_of_log log.Memory = Memory
fault_of_log log.Read = Read
fault_of_log (log.Line line fault) = Line line fault

-- what a fault of a replay is
abbrev pub fault_of_lead : LeadFault → ReplayFault
fault_of_lead lead.Memory = Memory
fault_of_lead lead.TooManyNodes = TooManySteps
fault_of_lead lead.TooDeep = TooManySteps
