use Rattle.std.proofs.Common.{sym, subst}
use Rattle.rev_intake.specs.Rows.{SpoilsTrace}
use Rattle.rev_intake.proofs.RowsTaken.{nothing_read, row_more, trace_over, trace_stopped}
use Rattle.rev_intake.proofs.rows.RowIntake.take_trace.Goals as goal

pub rows-init : goal.rows-init
rows-init g c = nothing_read _ _ _ _ _ _ c.over-trace.ensures.steady c.over-trace.ensures.starts

pub rows-preserved : goal.rows-preserved
rows-preserved g c =
    let next = rw (c.in-Ok-Some.is, c.in-Ok-Some.field-0-is) at c.next.ensures.ok in
    row_more _ _ c.rows.trace c.next.new.self _ _ _ _ _ _ _ _ _ _ c.rows.invariant next.0 next.1 c.in-Ok.ensures.takes

pub rows-preserved-in-Ok : goal.rows-preserved-in-Ok
rows-preserved-in-Ok g c =
    let next = rw (c.in-Ok-Some.is, c.in-Ok-Some.field-0-is) at c.next.ensures.ok in
    row_more _ _ c.rows.trace c.next.new.self _ _ _ _ _ _ _ _ _ _ c.rows.invariant next.0 next.1 c.in-Ok.ensures.takes

pub returns-in-Ok-None-clause-ok : goal.returns-in-Ok-None-clause-ok
returns-in-Ok-None-clause-ok g c =
    let next = rw (c.in-Ok-None.is, c.in-Ok-None.field-0-is) at c.next.ensures.ok in
    trace_over _ _ c.rows.trace c.next.new.self _ _ _ _ _ _ c.rows.invariant next.1

pub returns-in-Err-clause-err : goal.returns-in-Err-clause-err
returns-in-Err-clause-err g c =
    let why = c.in-Err.ensures.err in
    rw c.of.ensures (trace_stopped _ _ c.rows.trace c.next.new.self _ _ _ _ _ _ _ _ c.rows.invariant why)
