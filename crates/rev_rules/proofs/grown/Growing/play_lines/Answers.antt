use Rattle.std.proofs.Common.{◌≡◌, refl, sym, ◌∙◌, ap, arith}
use Rattle.rev_script.proofs.Scripts.{first-unused, first-given}
use Rattle.rev_plays.proofs.Tracing.{at_start, still_whole, progress, finished, fault_now, memory_now, other_now, counted_now}
use Rattle.rev_rules.proofs.Keeping.{goes_none, goes_more}
use Rattle.rev_rules.proofs.Taking.{full_now}
use Rattle.rev_rules.proofs.grown.Growing.play_lines.Goals as goal

pub loop-before-init : goal.loop-before-init
loop-before-init g c =
    (ap (λ l. l.fault) c.requires, first-given _ c.requires, at_start c.args.lines.now _ c.requires (goes_none c.args.self.now))

pub returns-in-Err-clause-err : goal.returns-in-Err-clause-err
returns-in-Err-clause-err g c =
    let i = c.loop-before.invariant in
    let w = still_whole i.2 (λ e. let n = (c.in-Err.ensures.stays i.0 e.ended).0 in cc) in
    rw c.trace_fault.ensures (fault_now _ _ _ c.next.new.self.input _ _ (first-unused _ c.requires) i.2 c.in-Err.fault i.1 w (c.in-Err.ensures.err i.0))

pub returns-in-None-clause-ok : goal.returns-in-None-clause-ok
returns-in-None-clause-ok g c =
    let i = c.loop-before.invariant in
    let n = rw c.in-None.is at c.in-Ok.ensures.ok in
    finished _ _ _ c.next.new.self.input _ _ (first-unused _ c.requires) i.2 (λ e. (c.in-Ok.ensures.stays i.0 e).1) n

pub returns-in-Err-play_line-clause-err : goal.returns-in-Err-play_line-clause-err
returns-in-Err-play_line-clause-err g c =
    let i = c.loop-before.invariant in
    let n = rw c.in-Some.is at c.in-Ok.ensures.ok in
    rw c.count_anew.ensures (memory_now _ _ _ c.next.new.self.input _ _ (first-unused _ c.requires) i.2 _ n)

pub returns-in-Ok-NotAStep-clause-err : goal.returns-in-Ok-NotAStep-clause-err
returns-in-Ok-NotAStep-clause-err g c =
    let i = c.loop-before.invariant in
    let o = rw c.in-Ok-NotAStep.field-0-is at c.in-Ok-NotAStep.ensures in
    let n = rw c.in-Some.is at c.in-Ok.ensures.ok in
    let w = still_whole i.2 (λ e. let x = (c.in-Ok.ensures.stays i.0 e.ended).0 in cc) in
    rw c.count_anew.ensures (other_now _ _ _ c.next.new.self.input _ _ (first-unused _ c.requires) i.2 _ _ refl w n o)

pub returns-in-Ok-Full-clause-ok : goal.returns-in-Ok-Full-clause-ok
returns-in-Ok-Full-clause-ok g c =
    let i = c.loop-before.invariant in
    let n = rw c.in-Some.is at c.in-Ok.ensures.ok in
    let w = still_whole i.2 (λ e. let x = (c.in-Ok.ensures.stays i.0 e.ended).0 in cc) in
    let a = rw c.in-Ok-Full.field-0-is at c.in-Ok-Full.ensures in
    rw c.count_anew.ensures (full_now _ _ _ c.next.new.self.input _ c.loop-before.self _ _ (first-unused _ c.requires) i.2 _ a.0 _ refl w n a.1 a.2)

pub loop-before-preserved : goal.loop-before-preserved
loop-before-preserved g c =
    let i = c.loop-before.invariant in
    let n = rw c.in-Some.is at c.in-Ok.ensures.ok in
    let w = still_whole i.2 (λ e. let x = (c.in-Ok.ensures.stays i.0 e.ended).0 in cc) in
    let a = rw c.in-Ok-Through.field-0-is at c.in-Ok-Through.ensures in
    rw c.count_anew.ensures (
      c.in-Ok.ensures.good,
      refl,
      progress _ _ _ c.next.new.self.input _ _ (first-unused _ c.requires) i.2 _ a.0 _ w n a.1
          (λ steps p. goes_more _ c.loop-before.self _ steps a.0 p a.2),
    )

pub returns-clause-err : goal.returns-clause-err
returns-clause-err g c =
    let i = c.loop-before.invariant in
    counted_now _ _ c.loop-before.lines.input _ _ (first-unused _ c.requires) i.2 (omega (arith, c.loop-before-test.false))
