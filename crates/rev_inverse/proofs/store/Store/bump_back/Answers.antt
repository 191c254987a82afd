use Rattle.std.proofs.Common.{sym, ap, ◌∙◌, ◌≡◌}
use Rattle.rev_model.specs.Move as plain
use Rattle.rev_model.proofs.Undo.{front-push, back_of-push}
use Rattle.rev_inverse.proofs.store.Store.bump_back.Goals as goal

pub returns-clause-state : goal.returns-clause-state
returns-clause-state g c =
    let f : plain.front c.self.inside.bump.items ≡ c.pop_back.new.self.items = ap plain.front c.in-Some.ensures.items ∙ front-push c.pop_back.new.self.items c.in-Some.entry in
    rw (← c.self.view_is) (rw f)

pub returns-clause-before : goal.returns-clause-before
returns-clause-before g c =
    rw (← c.self.view_is) (sym (ap plain.back_of c.in-Some.ensures.items ∙ back_of-push c.pop_back.new.self.items c.in-Some.entry))
