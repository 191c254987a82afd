use Rattle.std.proofs.Common.{true}
use Rattle.rev_lead.specs.Acts.{Led}
use Rattle.rev_replay.specs.Turns.{fresh}
use Rattle.rev_replay.proofs.Going.{goes_more, goes_always, goes_opened}
use Rattle.rev_replay.proofs.run.Replay.reopen.Goals as goal

pub returns-in_ok-stage : goal.returns-in_ok-stage
returns-in_ok-stage g c =
    let led : Led (fresh c.args.self.now.setup.now.config) c.replace.new.dest = rw c.replace.ensures.after c.in_ok-stage.ensures in
    goes_more true _ _ _ (goes_always _ _ c.pass.ensures) (rw c.played-self.ensures (goes_opened _ _ _ _ led))
