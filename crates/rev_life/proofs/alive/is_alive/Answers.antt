use Rattle.std.proofs.Common.{not, sym, ap, ◌∙◌}
use Rattle.rev_life.specs.Alive.{is_alive, is_alive_at}
use Rattle.rev_life.proofs.alive.is_alive.Goals as goal

pub returns-in-Some : goal.returns-in-Some
returns-in-Some g c =
    ap not c.is_dead_in.ensures
    ∙ ap (is_alive_at c.store-store.result.now) (sym c.in-Some.is ∙ c.find.ensures)
    ∙ ap (λ s. is_alive s c.args.key.now) c.store-store.ensures.state
