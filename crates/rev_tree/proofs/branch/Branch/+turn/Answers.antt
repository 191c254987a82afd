use Rattle.std.proofs.lemmas.Grind.{common_steps}
use Rattle.std.proofs.Common.{refl, rules, ap, ◌∙◌, sym, arith}
use Rattle.rev_tree.specs.Steps.{turned}
use Rattle.rev_tree.specs.Ways.{undo_of, at_end, with_undo}
use Rattle.rev_tree.specs.declared.junction.Junction.{Junction}
use Rattle.rev_tree.specs.Places.{with_place}
use Rattle.rev_tree.proofs.Places.{way_placed, at_end_placed, run_placed}
use Rattle.rev_tree.proofs.Junctions.{within_forks, child_is, IsWay_down, reach_down, at_end_inside, length_behind, behind}
use Rattle.rev_tree.proofs.branch.Branch.+turn.Goals as goal

abbrev none : Junction
none = record { taken = 0; fork = 0 }

pub index_mut-fork-requires : goal.index_mut-fork-requires
index_mut-fork-requires g t c =
    rw c.self.inside.forks.ok.0 (within_forks (λ f. with_place f.from f.branch.value) _ c.args.self.now c.args.way.now none (sym (ap (λ z. z.forks) c.self.view_is)) c.in-len1-up.len_at_least c.requires.way)

pub turn-requires-in-len1-up : goal.turn-requires-in-len1-up
turn-requires-in-len1-up g t c κs within =
    let k = child_is (λ f. with_place f.from f.branch.value) c.self.inside.forks.items c.args.self.now c.args.way.now none c.index_mut-fork.result.now (with_place c.index_mut-fork.result.now.from c.deref_mut.result.now) (sym (ap (λ z. z.forks) c.self.view_is)) c.in-len1-up.len_at_least c.requires.way c.index_mut-fork.ensures.value (ap (λ z. with_place c.index_mut-fork.result.now.from z) c.deref_mut.ensures.value) in
    let r = run_placed c.index_mut-fork.result.now.from c.deref_mut.result.now (behind c.args.way.now) ∙ ap (λ z. z.run) (reach_down c.args.self.now c.args.way.now none (with_place c.index_mut-fork.result.now.from c.deref_mut.result.now) c.in-len1-up.len_at_least k) in
    let l = length_behind c.args.way.now c.in-len1-up.len_at_least in
    (search (rules, length_behind), (search rules, (way_placed c.index_mut-fork.result.now.from c.deref_mut.result.now (behind c.args.way.now) (IsWay_down c.args.self.now c.args.way.now none (with_place c.index_mut-fork.result.now.from c.deref_mut.result.now) c.in-len1-up.len_at_least c.requires.way k), (rw r c.requires.within, rw r c.requires.fits))))

pub returns-in-len1-up-clause-state : goal.returns-in-len1-up-clause-state
returns-in-len1-up-clause-state g t c =
    let k = child_is (λ f. with_place f.from f.branch.value) c.self.inside.forks.items c.args.self.now c.args.way.now none c.index_mut-fork.result.now (with_place c.index_mut-fork.result.now.from c.deref_mut.result.now) (sym (ap (λ z. z.forks) c.self.view_is)) c.in-len1-up.len_at_least c.requires.way c.index_mut-fork.ensures.value (ap (λ z. with_place c.index_mut-fork.result.now.from z) c.deref_mut.ensures.value) in
    let r = run_placed c.index_mut-fork.result.now.from c.deref_mut.result.now (behind c.args.way.now) ∙ ap (λ z. z.run) (reach_down c.args.self.now c.args.way.now none (with_place c.index_mut-fork.result.now.from c.deref_mut.result.now) c.in-len1-up.len_at_least k) in
    c.turn-in-len1-up.ensures.state ∙ ap (λ z. (turned (undo_of z c.args.at) c.args.store.now).0) r

pub returns-in-len1-up-clause-tree : goal.returns-in-len1-up-clause-tree
returns-in-len1-up-clause-tree g t c =
    let k = child_is (λ f. with_place f.from f.branch.value) c.self.inside.forks.items c.args.self.now c.args.way.now none c.index_mut-fork.result.now (with_place c.index_mut-fork.result.now.from c.deref_mut.result.now) (sym (ap (λ z. z.forks) c.self.view_is)) c.in-len1-up.len_at_least c.requires.way c.index_mut-fork.ensures.value (ap (λ z. with_place c.index_mut-fork.result.now.from z) c.deref_mut.ensures.value) in
    let r = run_placed c.index_mut-fork.result.now.from c.deref_mut.result.now (behind c.args.way.now) ∙ ap (λ z. z.run) (reach_down c.args.self.now c.args.way.now none (with_place c.index_mut-fork.result.now.from c.deref_mut.result.now) c.in-len1-up.len_at_least k) in
    at_end_inside (λ f. with_place f.from f.branch.value) 0 c.self.inside.run c.self.inside.forks.items c.args.self.now c.args.way.now none _ (with_place c.index_mut-fork.result.now.from c.deref_mut.result.now) _ c.self.view_is c.in-len1-up.len_at_least k
    (ap (λ z. with_place c.index_mut-fork.result.now.from z) (c.turn-in-len1-up.ensures.tree ∙ ap (λ z. at_end (with_undo c.args.at (turned (undo_of z c.args.at) c.args.store.now).1) c.deref_mut.result.now (behind c.args.way.now)) r) ∙ at_end_placed _ c.index_mut-fork.result.now.from c.deref_mut.result.now (behind c.args.way.now) (λ d. refl))

pub returns-in-empty-clause-state : goal.returns-in-empty-clause-state
returns-in-empty-clause-state g t c = grind (arith, common_steps)

pub returns-in-empty-clause-tree : goal.returns-in-empty-clause-tree
returns-in-empty-clause-tree g t c = grind (arith, common_steps)
