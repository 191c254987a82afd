use Rattle.std.proofs.lemmas.Grind.{common_steps}
use Rattle.std.proofs.Common.{sym, subst, arith, ◌<◌, length}
use Rattle.rev_model.specs.Move.{Possible, Counts}
use Rattle.rev_model.specs.State.{counter_place}
use Rattle.rev_inverse.proofs.store.Store.count.Goals as goal

pub overflow_mul-place : goal.overflow_mul-place
overflow_mul-place g c =
    let p = subst (Possible (Counts c.args.class c.args.counter c.args.value)) (sym c.self.view_is) c.requires.possible in
    let r : counter_place c.args.class c.args.counter < length c.self.inside.counters.items = p.ready in
    omega (arith, r, c.self.inside.counters.ok.0)

pub overflow_add-place : goal.overflow_add-place
overflow_add-place g c =
    let p = subst (Possible (Counts c.args.class c.args.counter c.args.value)) (sym c.self.view_is) c.requires.possible in
    let r : counter_place c.args.class c.args.counter < length c.self.inside.counters.items = p.ready in
    omega (arith, r, c.number.ensures, c.self.inside.counters.ok.0)

pub returns-clause-before : goal.returns-clause-before
returns-clause-before g c = grind (arith, common_steps) steps 1200000
