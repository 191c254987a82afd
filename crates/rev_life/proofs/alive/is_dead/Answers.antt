use Rattle.std.proofs.Common.{sym, ap, ◌∙◌}
use Rattle.rev_life.specs.Alive.{is_dead, is_dead_at}
use Rattle.rev_life.proofs.alive.is_dead.Goals as goal

pub returns-in-Some : goal.returns-in-Some
returns-in-Some g c =
    c.is_dead_in.ensures
    ∙ ap (is_dead_at c.store-store.result.now) (sym c.in-Some.is ∙ c.find.ensures)
    ∙ ap (λ s. is_dead s c.args.key.now) c.store-store.ensures.state
