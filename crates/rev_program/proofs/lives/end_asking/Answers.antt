use Rattle.rev_program.proofs.Ends.{asked_stopped}
use Rattle.rev_program.proofs.lives.end_asking.Goals as goal

pub returns-in-Err-clause-ends : goal.returns-in-Err-clause-ends
returns-in-Err-clause-ends g c = asked_stopped _ _ _ _ c.in-Err.stop _ c.ended.ensures.range c.ended.ensures.status c.ended.ensures.told
