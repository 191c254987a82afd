use Rattle.std.proofs.Common.{◌∷◌, [], map, sym, ap, ◌∙◌}
use Rattle.std.proofs.lemmas.List.{map-append}
use Rattle.rev_life.specs.Lives.{plain_ended, plain_key}
use Rattle.rev_pushers.specs.Pushed.{plain_pushed}
use Rattle.rev_life.proofs.Lasts.{noted-push}
use Rattle.rev_life.proofs.life.KeyLives.note_pushed.Goals as goal

pub returns-in_ok-push-in-Some-clause-key : goal.returns-in_ok-push-in-Some-clause-key
returns-in_ok-push-in-Some-clause-key g c =
    ap (λ xs. record (plain_key c.args.self.now) { ended = map plain_ended xs }) c.in_ok-push-in-Some.ensures.items
    ∙ ap (λ xs. record (plain_key c.args.self.now) { ended = xs }) (map-append plain_ended c.pop.new.self.items _)
    ∙ sym
    (noted-push (plain_pushed c.args.pushed) (plain_key c.args.self.now) (map plain_ended c.pop.new.self.items) (plain_ended c.in-Some.field-0)
    (ap (map plain_ended) c.in-Some.ensures.items ∙ map-append plain_ended c.pop.new.self.items (c.in-Some.field-0 ∷ [])))
