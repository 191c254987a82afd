use Rattle.std.proofs.Common.{rules, refl, ap, sym, ◌∙◌}
use Rattle.rev_tree.specs.Prunes.{cropped}
use Rattle.rev_tree.specs.declared.junction.Junction.{Junction}
use Rattle.rev_tree.specs.Places.{with_place}
use Rattle.rev_tree.proofs.Places.{way_placed, at_end_placed}
use Rattle.rev_tree.proofs.Junctions.{within_forks, child_is, IsWay_down, at_end_inside, length_behind, behind}
use Rattle.rev_tree.proofs.branch.Branch.+prune.Goals as goal

abbrev none : Junction
none = record { taken = 0; fork = 0 }

pub index_mut-fork-requires : goal.index_mut-fork-requires
index_mut-fork-requires g t c =
    rw c.self.inside.forks.ok.0 (within_forks (λ f. with_place f.from f.branch.value) _ c.args.self.now c.args.way.now none (sym (ap (λ z. z.forks) c.self.view_is)) c.in-len1-up.len_at_least c.requires)

pub prune-requires : goal.prune-requires
prune-requires g t c κs within =
    let k = child_is (λ f. with_place f.from f.branch.value) c.self.inside.forks.items c.args.self.now c.args.way.now none c.index_mut-fork.result.now (with_place c.index_mut-fork.result.now.from c.deref_mut.result.now) (sym (ap (λ z. z.forks) c.self.view_is)) c.in-len1-up.len_at_least c.requires c.index_mut-fork.ensures.value (ap (λ z. with_place c.index_mut-fork.result.now.from z) c.deref_mut.ensures.value) in
    let l = length_behind c.args.way.now c.in-len1-up.len_at_least in
    (search (rules, length_behind), (search rules, way_placed c.index_mut-fork.result.now.from c.deref_mut.result.now (behind c.args.way.now) (IsWay_down c.args.self.now c.args.way.now none (with_place c.index_mut-fork.result.now.from c.deref_mut.result.now) c.in-len1-up.len_at_least c.requires k)))

pub returns-in-len1-up : goal.returns-in-len1-up
returns-in-len1-up g t c =
    let k = child_is (λ f. with_place f.from f.branch.value) c.self.inside.forks.items c.args.self.now c.args.way.now none c.index_mut-fork.result.now (with_place c.index_mut-fork.result.now.from c.deref_mut.result.now) (sym (ap (λ z. z.forks) c.self.view_is)) c.in-len1-up.len_at_least c.requires c.index_mut-fork.ensures.value (ap (λ z. with_place c.index_mut-fork.result.now.from z) c.deref_mut.ensures.value) in
    at_end_inside (λ f. with_place f.from f.branch.value) 0 c.self.inside.run c.self.inside.forks.items c.args.self.now c.args.way.now none _ (with_place c.index_mut-fork.result.now.from c.deref_mut.result.now) (cropped c.args.at) c.self.view_is c.in-len1-up.len_at_least k (ap (λ z. with_place c.index_mut-fork.result.now.from z) c.prune.ensures ∙ at_end_placed (cropped c.args.at) c.index_mut-fork.result.now.from c.deref_mut.result.now (behind c.args.way.now) (λ d. refl))
