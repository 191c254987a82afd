use Rattle.std.proofs.Common.{◌≡◌, length, refl, arith, ap}
use Rattle.rev_import.proofs.Moved.{moves_none, moves_more, waiting_of}
use Rattle.rev_import.proofs.import.Import.finish.Goals as goal

pub loop-init : goal.loop-init
loop-init g c = (moves_none _ _ _ refl, omega arith)

pub loop-preserved : goal.loop-preserved
loop-preserved g c =
    let seen : length c.self.inside.waiting.items ≡ length c.args.self.now.waiting = ap length (waiting_of c.self.view_is) in
    (moves_more c.loop.invariant.0 c.in_ok-write_first.ensures.moves, omega (arith, seen, c.loop.invariant.1, c.in_ok-write_first.ensures.fewer))
