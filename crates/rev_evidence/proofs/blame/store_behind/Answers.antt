use Rattle.std.proofs.Common.{length, ◌∙◌, arith}
use Rattle.rev_evidence.proofs.Stores.{first_store-none}
use Rattle.rev_evidence.proofs.blame.store_behind.Goals as goal

pub loop-before-preserved : goal.loop-before-preserved
loop-before-preserved g c =
    c.loop-before.invariant
    ∙ first_store-none c.args.session.now.root c.args.session.now.rows c.args.roles.now (length c.args.session.now.rows) c.loop-before.before
    (omega (arith, c.loop-before-test.true, c.issued-before-end.ensures)) c.in-None.ensures
