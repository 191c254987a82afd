use Rattle.std.specs.Prelude.{[], ◌∷◌}
use Rattle.std.proofs.Common.{arith, rules}
use Rattle.std.proofs.lemmas.List.{get_or-set_same}
use Rattle.rev_model.specs.State.{free_of}
use Rattle.rev_edits.proofs.leave.discard.Goals as goal

pub raise-requires-clause-class : goal.raise-requires-clause-class
raise-requires-clause-class g c = rw (c.drop_item.ensures.state c.requires.stands.0 c.requires.stands.1.item) c.requires.class

pub returns-clause-freed : goal.returns-clause-freed
returns-clause-freed g c =
    let at = c.requires.stands.1 in
    rw (c.raise.ensures.state, c.drop_item.ensures.state c.requires.stands.0 at.item)
    (rw (get_or-set_same c.args.store.now.free c.args.class (c.args.chunk ∷ free_of c.args.store.now c.args.class) [] at.class) (omega arith))

pub returns-clause-state : goal.returns-clause-state
returns-clause-state g c = search rules steps 1500000
