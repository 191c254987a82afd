use Rattle.std.proofs.Common.{[], Some, inl, refl, sym, ap, arith, map}
use Rattle.rev_requests.specs.Plain.{plain_step}
use Rattle.rev_script.specs.Script.{onwards, cuts}
use Rattle.rev_script.proofs.Known.{Took-refl}
use Rattle.rev_script.proofs.Scripts.{takes_byte, first-unused, first-given}
use Rattle.rev_recordings.proofs.Reading.{still_whole, progress, finished, fault_now, memory_now, other_now}
use Rattle.rev_recordings.proofs.steps.gather.Goals as goal

pub lines-init : goal.lines-init
lines-init g c =
    let start = c.args.lines.now.input in (
      ap (λ l. l.fault) c.requires.first,
      omega arith,
      omega (arith, first-given _ c.requires.first),
      record {
        done = [];
        read = [];
        took = Took-refl;
        dialect_is = refl;
        lines_are = inl (record { cuts_are = λ more. ap (λ l. cuts start.dialect (onwards l.input.passes more)) (sym c.requires.first) });
        count_is = refl;
        steps_are = ap (λ l. Some (map plain_step l)) (sym c.requires.none);
      },
    )

pub returns-in-Err-clause-err : goal.returns-in-Err-clause-err
returns-in-Err-clause-err g c =
    let i = c.lines.invariant in
    let w = still_whole i.3 (λ e. let n = (c.in-Err.ensures.stays i.0 e.ended).0 in cc) in
    rw c.stopped.ensures (fault_now _ _ _ c.next.new.self.input _ _ (first-unused _ c.requires.first) (first-given _ c.requires.first) i.3 c.in-Err.fault w (c.in-Err.ensures.err i.0))

pub returns-in-None-clause-ok : goal.returns-in-None-clause-ok
returns-in-None-clause-ok g c =
    let i = c.lines.invariant in
    let n = rw c.in-None.is at c.in-Ok.ensures.ok in
    finished _ _ _ c.next.new.self.input _ _ (first-unused _ c.requires.first) (first-given _ c.requires.first) i.3 (λ e. (c.in-Ok.ensures.stays i.0 e).1) n

pub returns-in-Err-add_steps-clause-err : goal.returns-in-Err-add_steps-clause-err
returns-in-Err-add_steps-clause-err g c =
    let i = c.lines.invariant in
    let n = rw c.in-Some.is at c.in-Ok.ensures.ok in
    memory_now _ _ _ c.next.new.self.input _ _ (first-unused _ c.requires.first) (first-given _ c.requires.first) i.3 _ n

pub returns-in-Ok-false-clause-err : goal.returns-in-Ok-false-clause-err
returns-in-Ok-false-clause-err g c =
    let i = c.lines.invariant in
    let n = rw c.in-Some.is at c.in-Ok.ensures.ok in
    let w = still_whole i.3 (λ e. let x = (c.in-Ok.ensures.stays i.0 e.ended).0 in cc) in
    let o = rw c.in-Ok-false.field-0-test at c.in-Ok-false.ensures in
    other_now _ _ _ c.next.new.self.input _ _ (first-unused _ c.requires.first) (first-given _ c.requires.first) i.3 _ _ refl w n o

pub lines-preserved : goal.lines-preserved
lines-preserved g c =
    let i = c.lines.invariant in
    let n = rw c.in-Some.is at c.in-Ok.ensures.ok in
    let w = still_whole i.3 (λ e. let x = (c.in-Ok.ensures.stays i.0 e.ended).0 in cc) in
    let a = rw c.in-Ok-true.field-0-test at c.in-Ok-true.ensures in (
      c.in-Ok.ensures.good,
      omega (arith, takes_byte _ _ _ n.0 _ _ n.3, n.1.passed.count, i.1),
      c.in-Ok.ensures.most,
      progress _ _ _ _ _ _ (first-unused _ c.requires.first) (first-given _ c.requires.first) i.3 _ _ w n a,
    )

pub lines-smaller : goal.lines-smaller
lines-smaller g c =
    let n = rw c.in-Some.is at c.in-Ok.ensures.ok in
    omega (arith, takes_byte _ _ _ n.0 _ _ n.3, n.1.passed.count, c.in-Ok.ensures.most)
