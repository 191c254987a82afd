use Rattle.std.proofs.Common.{◌<◌, length, arith}
use Rattle.rev_import.proofs.Words.{next_behind}
use Rattle.rev_lines.proofs.text.put_words.Goals as goal

pub loop-word-preserved : goal.loop-word-preserved
loop-word-preserved g c =
    let within : c.loop-word.word-index < length c.args.rest.now = omega arith in
    next_behind _ _ _ _ _ _ _ _ within c.in_ok-extend_from_slice-2.ensures.items c.in_ok-push.ensures.items c.loop-word.invariant
