use Rattle.std.proofs.Common.{ap, refl, length, arith, length-append}
use Rattle.rev_watch.specs.Reader.{in_piece}
use Rattle.rev_watch.proofs.ReaderLemmas.{hand-length, long-feed, long-none, end-found, end-none}
use Rattle.rev_watch.proofs.reader.LogReader.line_end.Goals as goal

pub returns-then-end-gt-MOST_LINE-clause-err : goal.returns-then-end-gt-MOST_LINE-clause-err
returns-then-end-gt-MOST_LINE-clause-err g c =
    rw c.bad_line.ensures (refl, refl, long-feed g.S.Source.told c.pieces.self c.at_hand-front.result.now c.in-Some.end c.at_hand-front.ensures c.in-Some.ensures c.if-end-gt-MOST_LINE.true)

pub returns-in-Some-clause-ok : goal.returns-in-Some-clause-ok
returns-in-Some-clause-ok g c =
    end-found g.S.Source.told c.pieces.self c.at_hand-front.result.now c.in-Some.end c.at_hand-front.ensures c.in-Some.ensures c.if-end-gt-MOST_LINE.false

pub returns-then-front-gt-MOST_LINE-clause-err : goal.returns-then-front-gt-MOST_LINE-clause-err
returns-then-front-gt-MOST_LINE-clause-err g c =
    rw c.bad_line-then-front-gt-MOST_LINE.ensures (refl, refl, long-none g.S.Source.told c.pieces.self c.at_hand-front.result.now c.at_hand-front.ensures c.in_default.ensures c.if-front-gt-MOST_LINE.true)

pub pieces-smaller : goal.pieces-smaller
pieces-smaller g c =
    let grew = rw c.in-Ok-true.field-0-test at c.in-Ok-true.ensures.ok in
    omega (arith, hand-length c.pieces.self, hand-length c.more.new.self, ap length grew.1.piece, length-append (in_piece c.pieces.self) grew.0, grew.2 refl, ap length c.at_hand-front.ensures, c.if-front-gt-MOST_LINE.false)

pub returns-in-Ok-false-clause-ok : goal.returns-in-Ok-false-clause-ok
returns-in-Ok-false-clause-ok g c =
    let grew = rw c.in-Ok-false.field-0-test at c.in-Ok-false.ensures.ok in (
      end-none g.S.Source.told c.pieces.self c.more.new.self c.at_hand-front.result.now grew.0 c.at_hand-front.ensures c.in_default.ensures c.if-front-gt-MOST_LINE.false grew.1 (grew.3 refl).0,
      (grew.3 refl).1,
    )
