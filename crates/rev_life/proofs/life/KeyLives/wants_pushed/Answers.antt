use Rattle.std.proofs.Common.{◌-◌, length, sym, ap, ◌∙◌}
use Rattle.std.specs.List.{slice_get}
use Rattle.std.specs.Option.{option_map}
use Rattle.rev_life.specs.Lives.{plain_ended, wants_last}
use Rattle.rev_life.proofs.Lasts.{last-map}
use Rattle.rev_life.proofs.life.KeyLives.wants_pushed.Goals as goal

pub returns-in-Some : goal.returns-in-Some
returns-in-Some g c =
    c.wants.ensures
    ∙ sym
    (ap (wants_last c.args.number)
    (last-map plain_ended c.args.self.now.ended.items
    ∙ ap (option_map plain_ended) (ap (λ xs. slice_get xs (length xs - 1)) (sym c.deref.ensures.value) ∙ sym c.in-Some.ensures.value)))

pub returns-in-None : goal.returns-in-None
returns-in-None g c =
    sym
    (ap (wants_last c.args.number)
    (last-map plain_ended c.args.self.now.ended.items
    ∙ ap (option_map plain_ended) (ap (λ xs. slice_get xs (length xs - 1)) (sym c.deref.ensures.value) ∙ sym c.in-None.ensures.value)))
