use Rattle.std.proofs.Common.{◌≡◌, inl, suc, length, arith, ap, rules}
use Rattle.rev_recorder.proofs.run.play_all.Goals as goal

pub loop-step-preserved : goal.loop-step-preserved
loop-step-preserved g c =
    let ok = c.in_default-answer.ensures.ok in
    let items = c.in-Some.ensures.items in
    let more : length c.loop-step.steps.items ≡ suc (length c.pop_front.new.self.items) = ap (λ xs. length xs) items in
    record {
      left = omega (arith, more, c.loop-step.invariant.left);
      runs = λ result new rest. c.loop-step.invariant.runs result new (rw items (inl (c.in_default-answer.field-0, ok.0, rw ok.1 at rest)));
    }

pub returns-in-Err : goal.returns-in-Err
returns-in-Err g c = search rules steps 4000000
