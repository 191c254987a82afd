use Rattle.std.proofs.Common.{sym, ◌∙◌, refl, length}
use Rattle.rev_requests.specs.Plain.{plain_step}
use Rattle.rev_tree.specs.Machine.{lineage}
use Rattle.rev_explain.proofs.Climbs.{above_root, above_end}
use Rattle.rev_explain.proofs.Timing.{set_before, set_after, unset_up, unset_down, none_up, none_down}
use Rattle.rev_explain.proofs.clocks.set_at.Goals as goal

pub returns-in-Some-clock_set-clause-before : goal.returns-in-Some-clock_set-clause-before
returns-in-Some-clock_set-clause-before g c =
    let last = length (lineage c.args.session.now.rows c.args.session.now.current) in
    set_before c.args.session.now c.args.depth c.in-Some.field-0-0.0 (plain_step c.in-Some.step.now) c.in-Some.outcome c.in-Some.trace
    (above_root c.args.depth last c.in-Some.ensures.none.1) (above_end c.args.depth last c.in-Some.ensures.none.1) c.in-Some.ensures.some
    c.in-Some-clock_set.clock (sym c.in-Some-clock_set.is ∙ c.clock_set.ensures) c.clock_before.result c.clock_before.ensures

pub returns-in-Some-clock_set-clause-after : goal.returns-in-Some-clock_set-clause-after
returns-in-Some-clock_set-clause-after g c =
    let last = length (lineage c.args.session.now.rows c.args.session.now.current) in
    set_after c.args.session.now c.args.depth c.in-Some.field-0-0.0 (plain_step c.in-Some.step.now) c.in-Some.outcome c.in-Some.trace
    (above_root c.args.depth last c.in-Some.ensures.none.1) (above_end c.args.depth last c.in-Some.ensures.none.1) c.in-Some.ensures.some
    c.in-Some-clock_set.clock (sym c.in-Some-clock_set.is ∙ c.clock_set.ensures)

pub returns-in-None-clock_set-clause-up : goal.returns-in-None-clock_set-clause-up
returns-in-None-clock_set-clause-up g c =
    let last = length (lineage c.args.session.now.rows c.args.session.now.current) in
    unset_up c.args.session.now c.args.depth c.in-Some.field-0-0.0 (plain_step c.in-Some.step.now) c.in-Some.outcome c.in-Some.trace
    (above_root c.args.depth last c.in-Some.ensures.none.1) (above_end c.args.depth last c.in-Some.ensures.none.1) c.in-Some.ensures.some
    (sym c.in-None-clock_set.is ∙ c.clock_set.ensures)

pub returns-in-None-clock_set-clause-down : goal.returns-in-None-clock_set-clause-down
returns-in-None-clock_set-clause-down g c = λ clock le.
    let last = length (lineage c.args.session.now.rows c.args.session.now.current) in
    unset_down c.args.session.now c.args.depth c.in-Some.field-0-0.0 (plain_step c.in-Some.step.now) c.in-Some.outcome c.in-Some.trace
    (above_root c.args.depth last c.in-Some.ensures.none.1) le c.in-Some.ensures.some
    (sym c.in-None-clock_set.is ∙ c.clock_set.ensures) clock

pub returns-in-None-clause-up : goal.returns-in-None-clause-up
returns-in-None-clause-up g c = λ clock. none_up c.args.session.now c.args.depth clock (c.in-None.ensures.none.0 refl)

pub returns-in-None-clause-down : goal.returns-in-None-clause-down
returns-in-None-clause-down g c = λ clock. none_down c.args.session.now c.args.depth clock (c.in-None.ensures.none.0 refl)
