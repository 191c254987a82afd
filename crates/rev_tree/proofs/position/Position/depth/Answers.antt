use Rattle.std.proofs.Common.{arith, rules}
use Rattle.rev_tree.proofs.Trips.{depth_fits, depth_counted}
use Rattle.rev_tree.proofs.position.Position.depth.Goals as goal

pub overflow_add-depth : goal.overflow_add-depth
overflow_add-depth g c =
    let i = c.args.self.now in
    let r = depth_fits i.way.items c.as_slice-junction-items.result.now c.loop-junction.junction-index i.here c.loop-junction.depth (record { taken = 0; fork = 0 }) c.as_slice-junction-items.ensures.value c.loop-junction-test.true c.loop-junction.invariant c.requires in
    omega (arith, r)

pub returns : goal.returns
returns g c =
    let i = c.args.self.now in
    let t = c.loop-junction-test.false in
    depth_counted i.way.items c.as_slice-junction-items.result.now c.loop-junction.junction-index i.here c.loop-junction.depth c.as_slice-junction-items.ensures.value (omega (arith, t)) c.loop-junction.invariant

pub loop-junction-init : goal.loop-junction-init
loop-junction-init g c = search rules steps 1500000
