use Rattle.std.proofs.Common.{Err}
use Rattle.rev_program.proofs.Ends.{plain_of}
use Rattle.rev_program.proofs.report.report.Goals as goal

pub returns-in-Some-clause-ends : goal.returns-in-Some-clause-ends
returns-in-Some-clause-ends g c = plain_of _ _ _ _ (Err c.from.result) _ c.ended.ensures.range c.ended.ensures.status c.ended.ensures.quiet c.ended.ensures.told

pub returns-clause-ends : goal.returns-clause-ends
returns-clause-ends g c = plain_of _ _ _ _ c.make-done.result _ c.ended-2.ensures.range c.ended-2.ensures.status c.ended-2.ensures.quiet c.ended-2.ensures.told
