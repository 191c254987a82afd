use Rattle.std.proofs.Common.{refl, ap, arith}
use Rattle.rev_script.proofs.Scripts.{first-unused, first-given}
use Rattle.rev_plays.proofs.Tracing.{at_start, still_whole, progress, finished, fault_now, other_now, counted_now}
use Rattle.rev_rules.proofs.Going.{went_then}
use Rattle.rev_rules.proofs.rules.Rules.play_lines.Goals as goal

pub loop-before-init : goal.loop-before-init
loop-before-init g c =
    (ap (λ l. l.fault) c.requires.first, first-given _ c.requires.first, c.requires.fresh, at_start c.args.lines.now _ c.requires.first (refl, refl))

pub returns-in-Err-clause-err : goal.returns-in-Err-clause-err
returns-in-Err-clause-err g c =
    let i = c.loop-before.invariant in
    let w = still_whole i.3 (λ e. let n = (c.in-Err.ensures.stays i.0 e.ended).0 in cc) in
    rw c.trace_fault.ensures (fault_now _ _ _ c.next.new.self.input _ _ (first-unused _ c.requires.first) i.3 c.in-Err.fault i.1 w (c.in-Err.ensures.err i.0))

pub returns-in-None-clause-ok : goal.returns-in-None-clause-ok
returns-in-None-clause-ok g c =
    let i = c.loop-before.invariant in
    let n = rw c.in-None.is at c.in-Ok.ensures.ok in
    finished _ _ _ c.next.new.self.input _ _ (first-unused _ c.requires.first) i.3 (λ e. (c.in-Ok.ensures.stays i.0 e).1) n

pub returns-in-Ok-false-clause-err : goal.returns-in-Ok-false-clause-err
returns-in-Ok-false-clause-err g c =
    let i = c.loop-before.invariant in
    let n = rw c.in-Some.is at c.in-Ok.ensures.ok in
    let w = still_whole i.3 (λ e. let x = (c.in-Ok.ensures.stays i.0 e.ended).0 in cc) in
    let o = rw c.in-Ok-false.field-0-test at c.in-Ok-false.ensures.went in
    rw c.count_anew.ensures (other_now _ _ _ c.next.new.self.input _ _ (first-unused _ c.requires.first) i.3 _ _ refl w n o)

pub loop-before-preserved : goal.loop-before-preserved
loop-before-preserved g c =
    let i = c.loop-before.invariant in
    let n = rw c.in-Some.is at c.in-Ok.ensures.ok in
    let w = still_whole i.3 (λ e. let x = (c.in-Ok.ensures.stays i.0 e.ended).0 in cc) in
    let a = rw c.in-Ok-true.field-0-test at c.in-Ok-true.ensures.went in
    rw c.count_anew.ensures (
      c.in-Ok.ensures.good,
      refl,
      c.in-Ok-true.ensures.fresh,
      progress _ _ _ c.next.new.self.input _ _ (first-unused _ c.requires.first) i.3 _ a.0 _ w n a.1
          (λ steps p. went_then _ _ _ steps a.0 p a.2),
    )

pub returns-clause-err : goal.returns-clause-err
returns-clause-err g c =
    let i = c.loop-before.invariant in
    counted_now _ _ c.loop-before.lines.input _ _ (first-unused _ c.requires.first) i.3 (omega (arith, c.loop-before-test.false))
