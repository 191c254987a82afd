use Rattle.std.proofs.Common.{subst}
use Rattle.rev_plays.specs.Traces.{IsCutOff}
use Rattle.rev_program.proofs.starts.play_file.Goals as goal

pub returns-in-Err-clause-err : goal.returns-in-Err-clause-err
returns-in-Err-clause-err g c = record {
  fault = c.in-Err.fault;
  left = c.play_start.new.reader;
  cut_off = subst (λ t. IsCutOff c.args.dialect t c.play_start.new.reader c.in-Err.fault) c.new-source.ensures c.in-Err.ensures.err;
  stop_is = c.stop_of_trace.ensures;
}
