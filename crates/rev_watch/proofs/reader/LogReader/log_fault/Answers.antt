use Rattle.std.proofs.Common.{◌∙◌, sym}
use Rattle.rev_watch.proofs.ReaderLemmas.{other-fault}
use Rattle.rev_watch.proofs.reader.LogReader.log_fault.Goals as goal

pub returns-in_default : goal.returns-in_default
returns-in_default g c = c.bad_line.ensures ∙ sym (other-fault _ c.args.fault c.in_default.not-Memory)
