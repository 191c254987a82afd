use Rattle.std.proofs.Common.{◌++◌, length, ◌∙◌, ap, append_assoc, arith}
use Rattle.rev_script.proofs.Known.{Took-memory}
use Rattle.rev_script.proofs.Data.{part_taken, part_size, part_none, part_broke, part_few}
use Rattle.rev_script.proofs.data_block.keep.Goals as goal

pub pieces-preserved : goal.pieces-preserved
pieces-preserved g c =
    let i = c.pieces.invariant in (
      i.0 ++ c.at_most-part.result.now,
      part_taken c.pieces.left c.front.result.now c.at_most-part.result.now i.1 c.in-Ok.ensures.ok c.front.ensures c.at_most-part.ensures c.pass.ensures.taken,
      part_size i.0 c.at_most-part.result.now c.front.result.now c.pieces.left c.args.n c.at_most-part.ensures i.2,
      c.in-Ok-extend_from_slice.ensures.items ∙ ap (λ l. l ++ c.at_most-part.result.now) i.3 ∙ append_assoc c.args.into.now.items i.0 c.at_most-part.result.now,
    )

pub pass-requires : goal.pass-requires
pass-requires g c = omega (arith, (part_few c.at_most-part.result.now c.front.result.now c.pieces.left c.at_most-part.ensures).0, ap (λ l. length l) c.front.ensures)

pub returns-in-Err-clause-err : goal.returns-in-Err-clause-err
returns-in-Err-clause-err g c =
    let i = c.pieces.invariant in
    record { taken = i.0; broke = part_broke i.1 c.in-Err.ensures.err.1; short = omega (arith, i.2) }

pub returns-clause-ok : goal.returns-clause-ok
returns-clause-ok g c =
    let i = c.pieces.invariant in
    (i.0, record { took = i.1; all_of = λ e. omega (arith, i.2, c.pieces-test.false); short = λ e. absurd (cc) }, i.3)

pub returns-then-not-some-clause-ok : goal.returns-then-not-some-clause-ok
returns-then-not-some-clause-ok g c =
    let i = c.pieces.invariant in
    (i.0, record { took = part_none i.1 c.in-Ok.ensures.ok; all_of = λ e. absurd (cc); short = λ e. (omega (arith, i.2, c.pieces-test.true), c.in-Ok.ensures.none c.if-not-some.true) }, i.3)

pub returns-in-Err-extend_from_slice-clause-err : goal.returns-in-Err-extend_from_slice-clause-err
returns-in-Err-extend_from_slice-clause-err g c =
    let i = c.pieces.invariant in
    record { taken = i.0; broke = Took-memory (part_none i.1 c.in-Ok.ensures.ok); short = omega (arith, i.2) }
