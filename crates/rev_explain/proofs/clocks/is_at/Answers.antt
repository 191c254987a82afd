use Rattle.std.proofs.Common.{length}
use Rattle.rev_requests.specs.Plain.{plain_step}
use Rattle.rev_tree.specs.Machine.{lineage}
use Rattle.rev_explain.proofs.Climbs.{above_root, above_end}
use Rattle.rev_explain.proofs.Timing.{number_clock, root_clock}
use Rattle.rev_explain.proofs.clocks.is_at.Goals as goal

pub returns-in-Some : goal.returns-in-Some
returns-in-Some g c =
    let last = length (lineage c.args.session.now.rows c.args.session.now.current) in
    number_clock c.args.session.now c.args.depth c.in-Some.here.0 (plain_step c.in-Some.field-0-1.now) c.in-Some.field-0-2 c.in-Some.field-0-3
    (above_root c.args.depth last c.in-Some.ensures.none.1) (above_end c.args.depth last c.in-Some.ensures.none.1) c.in-Some.ensures.some c.args.node.0

pub returns-then-depth-eq0 : goal.returns-then-depth-eq0
returns-then-depth-eq0 g c = root_clock c.args.session.now c.args.depth c.args.node.0 c.if-depth-eq0.true
