use Rattle.std.proofs.Common.{◌∷◌, [], map, sym, ap, ◌∙◌}
use Rattle.std.proofs.lemmas.List.{map-append}
use Rattle.rev_life.specs.Lives.{plain_ended, plain_key}
use Rattle.rev_life.proofs.Lasts.{reopened-push}
use Rattle.rev_life.proofs.life.KeyLives.reopen.Goals as goal

pub returns-in-Some-clause-reopened : goal.returns-in-Some-clause-reopened
returns-in-Some-clause-reopened g c =
    sym
    (reopened-push (plain_key c.args.self.now) (map plain_ended c.pop.new.self.items) (plain_ended c.in-Some.field-0)
    (ap (map plain_ended) c.in-Some.ensures.items ∙ map-append plain_ended c.pop.new.self.items (c.in-Some.field-0 ∷ [])) (sym c.is_doubtful.ensures ∙ c.if-not-is_doubtful.false))
