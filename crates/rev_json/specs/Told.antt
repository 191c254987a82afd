-- What a run does that tells its lines as JSON. Rule of this project: it reads, plays and ends as `run` does, and tells
-- each line in a line of JSON. Which text stands for an answer is not said.
use Rattle.std.specs.Prelude.{None}
use Rattle.rev_script.specs.Source.{Told}
use Rattle.rev_script.specs.declared.dialect.Dialect.{Dialect}
use Rattle.rev_output.specs.Sink.{PlainSink, sink_at}
use Rattle.rev_shell.specs.Answers.{BookmarkedSession}
use Rattle.rev_shell.specs.Run.{IsLeft, IsStopped}
use Rattle.rev_shell.specs.declared.run.Prompts.TheVariants.{Hidden}
use Rattle.rev_shell.specs.declared.run.Summary.{Summary}
use Rattle.rev_shell.specs.declared.run.RunFault.{RunFault}
use Rattle.rev_json.specs.JsonLines.{WroteLines, WroteAt}

-- at the end: all was read, nothing failed, and the session is as all lines leave it, one after another (what `run`
-- says where it is not known what the writer holds); as many lines of JSON as there are lines were written
pub record IsTold (d : Dialect) (reader_old reader_new : Told) (old new : PlainSink) (start left : BookmarkedSession) (sum : Summary) : Type 0 where
  pub ended : IsLeft d Hidden reader_old reader_new (sink_at None old.failures) (sink_at None new.failures) start left sum
  pub wrote : WroteLines sum.lines old.contents new.contents

-- at a fault: these bytes were read, and this is why it stopped (what `run` says in the same way); and what was written
pub record IsStoppedTelling (d : Dialect) (reader_old reader_new : Told) (old new : PlainSink) (start : BookmarkedSession) (e : RunFault) : Type 0 where
  pub stopped : IsStopped d Hidden reader_old reader_new (sink_at None old.failures) (sink_at None new.failures) start e
  pub wrote : WroteAt e old.contents new.contents
