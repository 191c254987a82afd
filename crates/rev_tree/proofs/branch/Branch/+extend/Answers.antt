use Rattle.std.proofs.Common.{refl, rules, map, ap, ◌∙◌, sym}
use Rattle.std.proofs.lemmas.Result.{on_ok_weaker, on_err_weaker}
use Rattle.rev_tree.specs.Tree.{forks_of}
use Rattle.rev_tree.specs.Ways.{with_node}
use Rattle.rev_tree.specs.declared.junction.Junction.{Junction}
use Rattle.rev_tree.specs.Places.{with_place}
use Rattle.rev_tree.proofs.Places.{way_placed, at_end_placed}
use Rattle.rev_tree.proofs.Junctions.{within_forks, child_is, IsWay_down, at_end_inside, at_end-id, length_behind, behind, extend_empty, extend_refused}
use Rattle.rev_tree.proofs.branch.Branch.+extend.Goals as goal

abbrev none : Junction
none = record { taken = 0; fork = 0 }

pub index_mut-fork-requires : goal.index_mut-fork-requires
index_mut-fork-requires g t c =
    rw c.self.inside.forks.ok.0 (within_forks (λ f. with_place f.from f.branch.value) _ c.args.self.now c.args.way.now none (sym (ap (λ z. z.forks) c.self.view_is)) c.in-len1-up.len_at_least c.requires.way)

pub extend-requires : goal.extend-requires
extend-requires g t c κs within =
    let k = child_is (λ f. with_place f.from f.branch.value) c.self.inside.forks.items c.args.self.now c.args.way.now none c.index_mut-fork.result.now (with_place c.index_mut-fork.result.now.from c.deref_mut.result.now) (sym (ap (λ z. z.forks) c.self.view_is)) c.in-len1-up.len_at_least c.requires.way c.index_mut-fork.ensures.value (ap (λ z. with_place c.index_mut-fork.result.now.from z) c.deref_mut.ensures.value) in
    let l = length_behind c.args.way.now c.in-len1-up.len_at_least in
    (search (rules, length_behind), (search rules, (way_placed c.index_mut-fork.result.now.from c.deref_mut.result.now (behind c.args.way.now) (IsWay_down c.args.self.now c.args.way.now none (with_place c.index_mut-fork.result.now.from c.deref_mut.result.now) c.in-len1-up.len_at_least c.requires.way k), c.requires.node)))

pub returns-in-len1-up-clause-ok : goal.returns-in-len1-up-clause-ok
returns-in-len1-up-clause-ok g t c =
    let k = child_is (λ f. with_place f.from f.branch.value) c.self.inside.forks.items c.args.self.now c.args.way.now none c.index_mut-fork.result.now (with_place c.index_mut-fork.result.now.from c.deref_mut.result.now) (sym (ap (λ z. z.forks) c.self.view_is)) c.in-len1-up.len_at_least c.requires.way c.index_mut-fork.ensures.value (ap (λ z. with_place c.index_mut-fork.result.now.from z) c.deref_mut.ensures.value) in
    on_ok_weaker c.extend.result (λ e n held.
    at_end_inside (λ f. with_place f.from f.branch.value) 0 c.self.inside.run c.self.inside.forks.items c.args.self.now c.args.way.now none _ (with_place c.index_mut-fork.result.now.from c.deref_mut.result.now) (with_node n) c.self.view_is c.in-len1-up.len_at_least k (ap (λ z. with_place c.index_mut-fork.result.now.from z) (e n held) ∙ at_end_placed (with_node n) c.index_mut-fork.result.now.from c.deref_mut.result.now (behind c.args.way.now) (λ d. refl))) c.extend.ensures.ok

pub returns-in-len1-up-clause-err : goal.returns-in-len1-up-clause-err
returns-in-len1-up-clause-err g t c =
    let k = child_is (λ f. with_place f.from f.branch.value) c.self.inside.forks.items c.args.self.now c.args.way.now none c.index_mut-fork.result.now (with_place c.index_mut-fork.result.now.from c.deref_mut.result.now) (sym (ap (λ z. z.forks) c.self.view_is)) c.in-len1-up.len_at_least c.requires.way c.index_mut-fork.ensures.value (ap (λ z. with_place c.index_mut-fork.result.now.from z) c.deref_mut.ensures.value) in
    on_err_weaker c.extend.result (λ e.
    at_end_inside (λ f. with_place f.from f.branch.value) 0 c.self.inside.run c.self.inside.forks.items c.args.self.now c.args.way.now none _ (with_place c.index_mut-fork.result.now.from c.deref_mut.result.now) (λ z. z) c.self.view_is c.in-len1-up.len_at_least k (ap (λ z. with_place c.index_mut-fork.result.now.from z) e ∙ sym (at_end-id (with_place c.index_mut-fork.result.now.from c.deref_mut.result.now) (behind c.args.way.now)))
    ∙ at_end-id c.args.self.now c.args.way.now) c.extend.ensures.err

pub returns-in-empty-clause-ok : goal.returns-in-empty-clause-ok
returns-in-empty-clause-ok g t c =
    on_ok_weaker c.push.result (λ e n held. extend_empty 0 c.self.inside.run c.push.new.self (forks_of (map (λ f. with_place f.from f.branch.value) c.self.inside.forks.items)) c.args.self.now c.args.way.now n c.self.view_is c.in-empty.len_below (e n held)) c.push.ensures.ok

pub returns-in-empty-clause-err : goal.returns-in-empty-clause-err
returns-in-empty-clause-err g t c =
    on_err_weaker c.push.result (λ e. extend_refused 0 c.self.inside.run c.push.new.self (forks_of (map (λ f. with_place f.from f.branch.value) c.self.inside.forks.items)) c.args.self.now c.self.view_is e) c.push.ensures.err
