use Rattle.std.proofs.Common.{◌<◌, length, arith}
use Rattle.rev_texts.proofs.Topics.{lines-next}
use Rattle.rev_texts.proofs.help.put_lines.Goals as goal

pub loop-topic-preserved : goal.loop-topic-preserved
loop-topic-preserved g c =
    let lt : c.loop-topic.topic-index < length c.args.topics.now = omega (arith, c.loop-topic-test.true) in
    lines-next _ _ _ c.args.topics.now c.loop-topic.topic-index _ lt c.loop-topic.invariant c.in_ok-put_line.ensures
