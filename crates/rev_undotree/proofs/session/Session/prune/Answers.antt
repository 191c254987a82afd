use Rattle.std.proofs.Common.{ap, refl, arith}
use Rattle.std.proofs.lemmas.Bool.{false≢true}
use Rattle.rev_tree.proofs.Spots.{path_way}
use Rattle.rev_tree.proofs.Trips.{placed_inside}
use Rattle.rev_tree.proofs.Held.{kept_rises, kept_fewer, placed_held, missing_held}
use Rattle.rev_undotree.proofs.Mentioned.{prune_noted}
use Rattle.rev_tree.proofs.Indexes.{index_cut}
use Rattle.rev_undotree.proofs.Prunes.{below_held, below_root, held_false, true_false, prune_kept, prune_state, on_path_below, off_path_below}
use Rattle.rev_undotree.proofs.session.Session.prune.Goals as goal

pub find-requires-clause-fewer : goal.find-requires-clause-fewer
find-requires-clause-fewer g c = kept_fewer _ _ _ _ _ _ _ c.self.invariant.kept

pub find-requires-clause-leads : goal.find-requires-clause-leads
find-requires-clause-leads g c = c.self.invariant.indexed.leads

pub find-requires-clause-rises : goal.find-requires-clause-rises
find-requires-clause-rises g c = kept_rises _ _ _ _ _ _ c.self.invariant.kept

pub returns-then-node-eq0-clause-path : goal.returns-then-node-eq0-clause-path
returns-then-node-eq0-clause-path g c = (λ e. cc, λ e. absurd (below_root _ _ c.self.inside.position.base c.self.inside.position.way.items c.self.inside.position.here c.self.inside.issued c.args.node.0 c.self.invariant.kept c.if-node-eq0.true (rw (← c.self.view_is) at e)))

pub returns-then-is_on_way-clause-missing : goal.returns-then-is_on_way-clause-missing
returns-then-is_on_way-clause-missing g c =
    let i = c.self.inside.position in
    (λ e. cc, λ e. absurd (true_false _ (placed_held _ _ i.base i.way.items _ i.here _ c.self.inside.issued c.args.node.0 c.self.invariant.kept c.in-Some.ensures.some) (rw (← c.self.view_is) at e)))

pub returns-then-is_on_way-clause-path : goal.returns-then-is_on_way-clause-path
returns-then-is_on_way-clause-path g c =
    let i = c.self.inside.position in
    let l = placed_inside c.args.node.0 _ _ _ c.if-node-eq0.false c.in-Some.ensures.some in
    (λ _. rw (← c.self.view_is) (on_path_below _ _ i.base i.way.items c.find.new.way.items c.as_slice.result.now c.as_slice-in-Some.result.now i.here c.in-Some.at c.self.inside.issued c.args.node.0 c.self.invariant.kept c.in-Some.ensures.some l c.as_slice.ensures.value c.as_slice-in-Some.ensures.value (c.if-is_on_way.ensures.0 refl)), λ _. refl)

pub overflow_sub-at : goal.overflow_sub-at
overflow_sub-at g c = let l = placed_inside c.args.node.0 _ _ _ c.if-node-eq0.false c.in-Some.ensures.some in omega (arith, l)

pub prune-requires : goal.prune-requires
prune-requires g c = rw c.as_slice-in-Some-2.ensures.value (path_way _ _ _ c.in-Some.ensures.some.path)

pub invariant_of-self : goal.invariant_of-self
invariant_of-self g c =
    let i = c.self.inside.position in
    let l = placed_inside c.args.node.0 _ _ _ c.if-node-eq0.false c.in-Some.ensures.some in
    let m = prune_state _ i.store i.base c.prune.new.self i.way.items c.find.new.way.items c.as_slice.result.now c.as_slice-in-Some-2.result.now c.as_slice-in-Some.result.now i.here c.in-Some.at c.self.inside.issued c.args.node.0 c.self.invariant.kept c.in-Some.ensures.some l c.as_slice.ensures.value c.as_slice-in-Some-2.ensures.value c.as_slice-in-Some.ensures.value (λ o. false≢true (c.if-is_on_way.ensures.1 o)) c.prune.ensures in
    prune_noted _ i.store _ i.base c.prune.new.self i.way.items i.here c.self.inside.issued c.args.node.0 _ i.index c.self.invariant
    (prune_kept _ i.store i.base c.prune.new.self i.way.items c.find.new.way.items c.as_slice.result.now c.as_slice-in-Some-2.result.now c.as_slice-in-Some.result.now i.here c.in-Some.at c.self.inside.issued c.args.node.0 c.self.invariant.kept c.in-Some.ensures.some l c.as_slice.ensures.value c.as_slice-in-Some-2.ensures.value c.as_slice-in-Some.ensures.value (λ o. false≢true (c.if-is_on_way.ensures.1 o)) c.prune.ensures)
    (ap (λ v. v.root) m) (ap (λ v. v.rows) m)
    (index_cut i.index i.base c.prune.new.self c.find.new.way.items c.as_slice-in-Some-2.result.now c.in-Some.at c.self.inside.issued c.self.invariant.indexed c.self.invariant.kept.fitted c.in-Some.ensures.some.path l c.as_slice-in-Some-2.ensures.value c.prune.ensures)

pub returns-in-None-clause-missing : goal.returns-in-None-clause-missing
returns-in-None-clause-missing g c =
    let i = c.self.inside.position in
    (λ _. rw (← c.self.view_is) (held_false _ c.args.node.0 (λ e. missing_held i.base c.self.inside.issued c.args.node.0 c.in-None.ensures.none c.in-None.ensures.missing e)), λ _. refl)

pub returns-in-None-clause-path : goal.returns-in-None-clause-path
returns-in-None-clause-path g c =
    let i = c.self.inside.position in
    (λ e. cc, λ e. absurd (missing_held i.base c.self.inside.issued c.args.node.0 c.in-None.ensures.none c.in-None.ensures.missing (below_held _ _ i.base i.way.items i.here c.self.inside.issued c.args.node.0 c.self.invariant.kept (rw (← c.self.view_is) at e))))

pub returns-else-is_on_way-clause-ok : goal.returns-else-is_on_way-clause-ok
returns-else-is_on_way-clause-ok g c =
    let i = c.self.inside.position in
    let l = placed_inside c.args.node.0 _ _ _ c.if-node-eq0.false c.in-Some.ensures.some in
    rw (← c.self.view_is) (prune_state _ i.store i.base c.prune.new.self i.way.items c.find.new.way.items c.as_slice.result.now c.as_slice-in-Some-2.result.now c.as_slice-in-Some.result.now i.here c.in-Some.at c.self.inside.issued c.args.node.0 c.self.invariant.kept c.in-Some.ensures.some l c.as_slice.ensures.value c.as_slice-in-Some-2.ensures.value c.as_slice-in-Some.ensures.value (λ o. false≢true (c.if-is_on_way.ensures.1 o)) c.prune.ensures)

pub returns-else-is_on_way-clause-missing : goal.returns-else-is_on_way-clause-missing
returns-else-is_on_way-clause-missing g c =
    let i = c.self.inside.position in
    (λ e. cc, λ e. absurd (true_false _ (placed_held _ _ i.base i.way.items _ i.here _ c.self.inside.issued c.args.node.0 c.self.invariant.kept c.in-Some.ensures.some) (rw (← c.self.view_is) at e)))

pub returns-else-is_on_way-clause-path : goal.returns-else-is_on_way-clause-path
returns-else-is_on_way-clause-path g c =
    let i = c.self.inside.position in
    (λ e. cc, λ e. absurd (off_path_below _ _ i.base i.way.items c.find.new.way.items c.as_slice.result.now c.as_slice-in-Some.result.now i.here c.in-Some.at c.self.inside.issued c.args.node.0 c.self.invariant.kept c.in-Some.ensures.some c.as_slice.ensures.value c.as_slice-in-Some.ensures.value (λ o. false≢true (c.if-is_on_way.ensures.1 o)) (rw (← c.self.view_is) at e)))
