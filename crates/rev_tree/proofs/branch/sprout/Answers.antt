use Rattle.std.proofs.Common.{refl, map, ap, ◌∙◌, ◌++◌, ◌∷◌, []}
use Rattle.rev_tree.specs.Tree.{PlainBranch, forks_of}
use Rattle.rev_tree.specs.Places.{with_place}
use Rattle.rev_tree.proofs.Junctions.{sprouted}
use Rattle.rev_tree.proofs.branch.sprout.Goals as goal

pub returns-clause-ok : goal.returns-clause-ok
returns-clause-ok g c = λ n held.
    let i = c.behind-branch.inside in
    let f = forks_of (map (λ f. with_place f.from f.branch.value) i.forks.items) in
    let b : PlainBranch = record { from = 0; run = c.push.new.self; forks = f } in
    sprouted (λ f. with_place f.from f.branch.value) c.args.forks.now.items c.push-2.new.self.items (record { from = c.args.from; branch = record c.in_ok-branch.branch { value = b } }) c.args.from c.args.from i.run c.push.new.self f (with_place c.args.from c.deref_mut.result.now) n
    (c.in-Ok.ensures.items ∙ ap (λ l. l ++ record { from = c.args.from; branch = record c.in_ok-branch.branch { value = b } } ∷ []) c.in_ok-reserve.ensures.items) refl (ap (λ z. with_place c.args.from z) c.behind-branch.view_is) (ap (λ z. with_place c.args.from z) (c.deref_mut.ensures.value ∙ c.in_ok-branch.ensures)) (c.in_ok-push.ensures.ok n held)
