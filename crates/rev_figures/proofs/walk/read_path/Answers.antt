use Rattle.std.proofs.Common.{◌++◌, reverse, ◌∙◌, ap}
use Rattle.std.proofs.lemmas.List.{reverse-reverse}
use Rattle.rev_figures.specs.Paths.{slot_length, path_bytes}
use Rattle.rev_figures.proofs.Returning.{clock_there}
use Rattle.rev_figures.proofs.walk.read_path.Goals as goal

pub returns-clause-start : goal.returns-clause-start
returns-clause-start g c =
    clock_there c.args.session.now c.climb.new.session c.climb.new.session c.in_ok-climb.ensures.climbed c.in_ok-climb.ensures.root c.globals.result.clock
    (ap (λ g. g.clock) c.globals.ensures ∙ ap (λ s. s.globals.clock) c.store.ensures.state)

pub returns-clause-bytes : goal.returns-clause-bytes
returns-clause-bytes g c =
    let v = c.args.session.now in
    c.reverse-4.ensures.items
    ∙ ap reverse (c.in_ok-climb.ensures.bytes (c.slot_length-slot_length.ensures.value ∙ ap slot_length c.depth.ensures) ∙ ap (λ l. l ++ reverse (path_bytes v.root v.rows v.current)) c.in_ok-path.ensures.bytes)
    ∙ reverse-reverse (path_bytes v.root v.rows v.current)
