use Rattle.std.proofs.Common.{rules}
use Rattle.rev_recordings.specs.Recordings.{AreAllScripts, EndedBy}
use Rattle.rev_recordings.proofs.Scripts.{ended_reading, ended_playing, ended_printing}
use Rattle.rev_recordings.proofs.play.record.Goals as goal

pub returns-in-Ok-print-clause-ok : goal.returns-in-Ok-print-clause-ok
returns-in-Ok-print-clause-ok g c = record {
  scripts = c.in-Ok.scripts.items;
  scripts_are = c.in-Ok.ensures.steps;
  log = c.in_ok-played.played.settled.log.items;
  session = c.in_ok-played.played.settled.session;
  stopped = c.in_ok-played.played.stopped.items;
  played = c.in_ok-played.ensures.ok;
  wrote = c.in-Ok-print.ensures.ok;
}

pub returns-in-Err-clause-why : goal.returns-in-Err-clause-why
returns-in-Err-clause-why g c = ended_reading c.args.dialect g.F.Read.remaining c.args.files.items c.in-Err.fault c.in-Err.ensures.err

pub returns-in_err-played-clause-why : goal.returns-in_err-played-clause-why
returns-in_err-played-clause-why g c =
    let all : AreAllScripts c.args.dialect g.F.Read.remaining c.args.files.items = (c.in-Ok.scripts.items, c.in-Ok.ensures.steps) in
    let h : EndedBy c.args.dialect g.F.Read.remaining c.args.files.items c.in_err-played.field-0.0 = ended_playing c.args.dialect g.F.Read.remaining c.args.files.items c.in_err-played.field-0.0 all c.in_err-played.ensures.err in
    search rules

pub returns-in-Err-print-clause-why : goal.returns-in-Err-print-clause-why
returns-in-Err-print-clause-why g c = ended_printing c.args.dialect g.F.Read.remaining _ _ (c.in-Ok.scripts.items, c.in-Ok.ensures.steps) c.in-Err-print.ensures.err.0
