use Rattle.std.proofs.Common.{arith}
use Rattle.rev_figures.proofs.Returning.{sent_back}
use Rattle.rev_figures.proofs.slot_sums.Slots.read_part.Goals as goal

pub returns : goal.returns
returns g c =
    sent_back c.args.session.now c.read_ends-read.new.session c.go-turned.new.self c.read_ends-read.ensures (omega (arith, c.depth.ensures, c.if-depth-eq0.false))
    c.go-turned.result c.current-stood.result.0 c.current-stood.ensures c.go-turned.ensures.held c.go-turned.ensures.ok
