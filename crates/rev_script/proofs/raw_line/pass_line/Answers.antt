use Rattle.std.proofs.Common.{[], refl}
use Rattle.rev_script.proofs.Known.{Took-refl, Took-then}
use Rattle.rev_script.proofs.Data.{part_broke}
use Rattle.rev_script.proofs.Pieces.{rest_feed, rest_part}
use Rattle.rev_script.proofs.raw_line.pass_line.Goals as goal

pub pieces-init : goal.pieces-init
pieces-init g c = (([], refl, Took-refl), λ h. (h, Took-refl))

pub returns-in-Err-clause-err : goal.returns-in-Err-clause-err
returns-in-Err-clause-err g c =
    let i = c.pieces.invariant.0 in
    record { text = i.0; no_lf = i.1; broke = part_broke i.2 c.in-Err.ensures.err.1 }

pub returns-then-not-some-clause-ok : goal.returns-then-not-some-clause-ok
returns-then-not-some-clause-ok g c =
    let i = c.pieces.invariant.0 in
    record {
      text = i.0;
      no_lf = i.1;
      took = Took-then i.2 c.in-Ok.ensures.ok;
      at_end = λ _. c.in-Ok.ensures.none c.if-not-some.true;
    }

pub returns-then-not-some-clause-stays : goal.returns-then-not-some-clause-stays
returns-then-not-some-clause-stays g c = λ h. (refl, Took-then (c.pieces.invariant.1 h).1 c.in-Ok.ensures.ok)

pub returns-in-Some-clause-ok : goal.returns-in-Some-clause-ok
returns-in-Some-clause-ok g c =
    let i = c.pieces.invariant.0 in
    rest_feed c.in-Some.i _ i.1 i.2 c.in-Ok.ensures.ok c.front-front.ensures c.in-Some.ensures.some c.pass.ensures.taken

pub returns-in-Some-clause-stays : goal.returns-in-Some-clause-stays
returns-in-Some-clause-stays g c = λ h. absurd (let stays = c.in-Ok.ensures.stays (c.pieces.invariant.1 h).0 in cc)

pub pieces-preserved : goal.pieces-preserved
pieces-preserved g c =
    let i = c.pieces.invariant.0 in (
      rest_part _ i.1 i.2 c.in-Ok.ensures.ok c.front-front.ensures c.in-None.ensures.none c.pass-in-None.ensures.taken,
      λ h. absurd (let stays = c.in-Ok.ensures.stays (c.pieces.invariant.1 h).0 in cc),
    )
