use Rattle.std.proofs.Common.{◌-◌, length, not, sym, ap, ◌∙◌}
use Rattle.std.specs.List.{slice_get}
use Rattle.std.specs.Option.{option_map}
use Rattle.rev_life.specs.Lives.{plain_life, plain_ended, plain_key}
use Rattle.rev_life.proofs.Lasts.{last-map, doubt, no_doubt}
use Rattle.rev_life.proofs.life.KeyLives.is_doubtful.Goals as goal

pub returns-in-Some-last : goal.returns-in-Some-last
returns-in-Some-last g c =
    ap not c.is_logged.ensures
    ∙ sym
    (doubt (plain_key c.args.self.now) (plain_ended c.in-Some-last.life.now) (ap (option_map plain_life) c.in-None.is)
    (last-map plain_ended c.args.self.now.ended.items
    ∙ ap (option_map plain_ended) (ap (λ xs. slice_get xs (length xs - 1)) (sym c.deref.ensures.value) ∙ sym c.in-Some-last.ensures.value)))

pub returns-in-None-last : goal.returns-in-None-last
returns-in-None-last g c =
    sym
    (no_doubt (plain_key c.args.self.now) (ap (option_map plain_life) c.in-None.is)
    (last-map plain_ended c.args.self.now.ended.items
    ∙ ap (option_map plain_ended) (ap (λ xs. slice_get xs (length xs - 1)) (sym c.deref.ensures.value) ∙ sym c.in-None-last.ensures.value)))
