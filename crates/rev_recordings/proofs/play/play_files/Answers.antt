use Rattle.rev_recordings.proofs.Ends.{rows_of, no_rows_of}
use Rattle.rev_recordings.proofs.play.play_files.Goals as goal

pub returns-clause-status : goal.returns-clause-status
returns-clause-status g c = c.ended.ensures.range

pub returns-clause-rows : goal.returns-clause-rows
returns-clause-rows g c = rows_of c.record.result c.ended.result _ c.record.ensures.ok c.ended.ensures.zero

pub returns-clause-fault : goal.returns-clause-fault
returns-clause-fault g c = no_rows_of _ _ _ _ c.args.dialect g.F.Read.remaining c.args.files.items _ _ c.record.result c.ended.result c.ended.ensures.status c.record.ensures.why c.record.ensures.err c.ended.ensures.told

pub returns-clause-quiet : goal.returns-clause-quiet
returns-clause-quiet g c = c.ended.ensures.quiet
