use Rattle.std.specs.Option.{option_map}
use Rattle.rev_script.specs.Line.{view}
use Rattle.rev_script.proofs.Next.{fault_none, no_line, looked, looked_ok}
use Rattle.rev_script.proofs.lines.line_here.Goals as goal

pub returns-in-Err-clause-err : goal.returns-in-Err-clause-err
returns-in-Err-clause-err g c = rw c.requires (fault_none c.args.input.now.dialect c.in-Err.ensures.err.1)

pub returns-then-not-some-clause-ok : goal.returns-then-not-some-clause-ok
returns-then-not-some-clause-ok g c = rw c.requires (no_line c.args.input.now.dialect c.in-Ok.ensures.ok (c.in-Ok.ensures.none c.if-not-some.true))

pub returns-in-Some-clause-ok : goal.returns-in-Some-clause-ok
returns-in-Some-clause-ok g c =
    let n = rw c.requires at c.line_at_hand.ensures.ok in
    rw c.requires (looked_ok _ (λ line. option_map view line) c.args.input.now.dialect c.line_at_hand.result c.in-Ok.ensures.ok n)

pub returns-in-Some-clause-err : goal.returns-in-Some-clause-err
returns-in-Some-clause-err g c =
    let n = rw c.requires at c.line_at_hand.ensures.err in
    rw c.requires (looked _ c.args.input.now.dialect c.line_at_hand.result c.in-Ok.ensures.ok n)

pub returns-in-None-clause-ok : goal.returns-in-None-clause-ok
returns-in-None-clause-ok g c =
    let n = rw c.requires at c.copied_line.ensures.ok in
    rw c.requires (looked_ok _ (λ line. option_map view line) c.args.input.now.dialect c.copied_line.result c.in-Ok.ensures.ok n)

pub returns-in-None-clause-err : goal.returns-in-None-clause-err
returns-in-None-clause-err g c =
    let n = rw c.requires at c.copied_line.ensures.err in
    rw c.requires (looked _ c.args.input.now.dialect c.copied_line.result c.in-Ok.ensures.ok n)
