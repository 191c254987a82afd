use Rattle.std.proofs.Common.{◌∙◌, ap, ◌&&◌, eqb, ltb}
use Rattle.std.specs.List.{list_any}
use Rattle.rev_log.specs.Foresight.{moves_before}
use Rattle.rev_log.proofs.Moving.{before-moves}
use Rattle.rev_log.proofs.foresight.Foresight.moves_before.Goals as goal

pub returns : goal.returns
returns g c =
    c.has_move.ensures
    ∙ ap (list_any (λ m. ltb m.0 c.args.number && eqb m.1 c.args.class)) c.self.invariant.moved
    ∙ before-moves c.args.class c.args.number c.self.inside.first c.self.inside.waiting.items c.self.invariant.numbered
    ∙ ap (λ f. moves_before c.args.class c.args.number f.waiting) c.self.view_is
