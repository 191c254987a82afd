use Rattle.std.proofs.Common.{sym, ◌∙◌}
use Rattle.std.proofs.lemmas.Bool.{eqb-true}
use Rattle.rev_requests.specs.Plain.{plain_step}
use Rattle.rev_life.proofs.Classes.{left_by}
use Rattle.rev_life.proofs.class.class_left.Goals as goal

pub returns-in-Some : goal.returns-in-Some
returns-in-Some g c =
    left_by c.args.session.now c.args.node.0 c.in-Some.at.0 (plain_step c.in-Some.field-0-1.now) c.in-Some.field-0-2 c.in-Some.trace c.args.key.now c.class_by.result c.in-Some.ensures.some (eqb-true _ _ (sym c.eq.ensures ∙ c.if-eq.true))
    c.class_by.ensures
