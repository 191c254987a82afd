use Rattle.std.proofs.Common.{◌≡◌, length, refl, arith, ap, ◌∙◌}
use Rattle.rev_intake.proofs.Passing.{passes_same, passes_on, passes_from, sent_first}
use Rattle.rev_intake.proofs.intake.Intake.empty_import.Goals as goal

pub loop-init : goal.loop-init
loop-init g c = record { passes = passes_same _ _ _ _; left = omega arith; counts = refl }

pub loop-preserved : goal.loop-preserved
loop-preserved g c =
    let rest = c.in_ok-split_off.ensures.rest in
    let kept = c.in_ok-split_off.ensures.waiting in
    let all : length c.self.inside.import.waiting ≡ length c.args.self.now.waiting = ap (λ i. length i.waiting) c.self.view_is in
    let same : length c.split_off.new.self.waiting ≡ length c.loop.self.waiting = ap length kept in record {
      passes = passes_on c.loop.invariant.passes (sent_first c.in_ok-split_off.ensures.sends (passes_from kept c.in_ok-send_first.ensures.passes));
      left = omega (arith, all, same, c.in_ok-send_first.ensures.fewer, c.loop.invariant.left, c.loop-test.true, c.waiting-end.ensures);
      counts = c.in_ok-send_first.ensures.counts ∙ rest.counts ∙ c.loop.invariant.counts;
    }
