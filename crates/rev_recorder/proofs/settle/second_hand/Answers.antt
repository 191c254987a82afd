use Rattle.std.proofs.Common.{◌≡◌, ◌<◌, false, true, length, sym, ◌∙◌, arith}
use Rattle.std.proofs.lemmas.Option.{slice_get_within}
use Rattle.rev_recorder.proofs.Compare.{second-more, no-first}
use Rattle.rev_recorder.proofs.settle.second_hand.Goals as goal
use Rattle.rev_recorder.proofs.settle.second_hand.Goals.{then-has_player+in_default, else-has_player}

pub loop-index-preserved : goal.loop-index-preserved
loop-index-preserved c =
    second-more c.args.hands.now c.loop-index.index c.index-hands-index.result c.loop-index-test.true c.index-hands-index.is c.loop-index.invariant (λ earlier.
    elim c.if-has_player.branch [
      | then-has_player+in_default w ↦ sym w.entries.ensures ∙ no-first w.entries.result.now w.in_default.ensures.value
      | else-has_player w ↦ let never : false ≡ true = rw c.player.ensures at w.if-has_player.ensures ∙ earlier in cc
    ])

pub returns : goal.returns
returns c = λ k hand found earlier.
    let within : k < length c.args.hands.now = slice_get_within c.args.hands.now k hand found in
    c.loop-index.invariant k hand (omega (arith, within, c.loop-index-test.false)) found earlier
