use Rattle.rev_figures.proofs.Returning.{returned}
use Rattle.rev_figures.proofs.walk.gather.Goals as goal

pub returns-clause-stands : goal.returns-clause-stands
returns-clause-stands g c =
    returned c.args.session.now c.read_path-path.new.session c.go-turned.new.self c.read_path-path.ensures.climbed c.go-turned.result c.current-stood.result.0 c.current-stood.ensures
    c.go-turned.ensures.held c.go-turned.ensures.ok c.go-turned.ensures.err
