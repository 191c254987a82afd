use Rattle.rev_inverse.specs.Record.{plain_change}
use Rattle.rev_tree.proofs.Named.{grows_more, so_far_more}
use Rattle.rev_tree.proofs.naming.mention_record.Goals as goal

pub loop-i-preserved : goal.loop-i-preserved
loop-i-preserved g c =
    let x = c.mention_move in (
      grows_more _ _ _ _ c.loop-i.invariant.0 x.ensures.grows,
      so_far_more c.loop-i.mentions x.new.mentions c.args.store.now c.args.undo.now.changes c.loop-i.i c.args.node (plain_change c.in-Some.change.now) c.in-Some.ensures.0 c.in-Some.ensures.1 x.ensures.grows c.in_ok-mention_move-in-Some.ensures.named c.loop-i.invariant.1,
    )
