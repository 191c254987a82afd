use Rattle.std.proofs.Common.{arith, refl, ap, sym, ◌∙◌}
use Rattle.rev_tree.specs.Places.{with_place}
use Rattle.rev_tree.proofs.Finds.{child_at, fork_within}
use Rattle.rev_tree.specs.Children.{next_number}
use Rattle.rev_tree.proofs.Children.{first_no, first_yes}
use Rattle.rev_tree.proofs.branch.Branch.first_at.Goals as goal

pub index-child-requires : goal.index-child-requires
index-child-requires g c = rw c.self.inside.forks.ok.0 (fork_within (λ f. with_place f.from f.branch.value) _ c.args.self.now c.args.fork (sym (ap (λ z. z.forks) c.self.view_is)) c.requires)

pub returns-then-child-here : goal.returns-then-child-here
returns-then-child-here g c =
    let x = c.index-child.result.now in
    let k = child_at (λ f. with_place f.from f.branch.value) c.self.inside.forks.items c.args.self.now c.args.fork x (with_place x.from x.branch.value) (sym (ap (λ z. z.forks) c.self.view_is)) c.requires c.index-child.ensures refl in
    first_no (with_place x.from x.branch.value) _ x.from c.args.here k refl c.if-child-here.true

pub returns : goal.returns
returns g c =
    let x = c.index-child.result.now in
    let k = child_at (λ f. with_place f.from f.branch.value) c.self.inside.forks.items c.args.self.now c.args.fork x (with_place x.from x.branch.value) (sym (ap (λ z. z.forks) c.self.view_is)) c.requires c.index-child.ensures refl in
    let h = c.if-child-here.false in
    first_yes (with_place x.from x.branch.value) _ x.from c.args.here c.next_at.result k refl (omega (arith, h)) (c.next_at.ensures ∙ ap (λ z. next_number 0 z.run) c.deref.ensures)
