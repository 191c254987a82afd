use Rattle.std.proofs.Common.{rules, ap, ◌∙◌, sym}
use Rattle.rev_tree.specs.declared.junction.Junction.{Junction}
use Rattle.rev_tree.specs.Places.{with_place}
use Rattle.rev_tree.proofs.Places.{way_placed, reach_placed, reach_empty}
use Rattle.rev_tree.proofs.Junctions.{within_forks, child_is, IsWay_down, reach_down, length_behind, behind}
use Rattle.rev_tree.proofs.branch.Branch.+reach.Goals as goal

abbrev none : Junction
none = record { taken = 0; fork = 0 }

pub index-requires : goal.index-requires
index-requires g t c =
    rw c.self.inside.forks.ok.0 (within_forks (λ f. with_place f.from f.branch.value) _ c.args.self.now c.args.way.now none (sym (ap (λ z. z.forks) c.self.view_is)) c.in-len1-up.len_at_least c.requires)

pub reach-requires : goal.reach-requires
reach-requires g t c κs within =
    let k = child_is (λ f. with_place f.from f.branch.value) c.self.inside.forks.items c.args.self.now c.args.way.now none c.index.result.now (with_place c.index.result.now.from c.deref.result.now) (sym (ap (λ z. z.forks) c.self.view_is)) c.in-len1-up.len_at_least c.requires c.index.ensures (ap (λ z. with_place c.index.result.now.from z) c.deref.ensures) in
    let l = length_behind c.args.way.now c.in-len1-up.len_at_least in
    (search (rules, length_behind), (search rules, way_placed c.index.result.now.from c.deref.result.now (behind c.args.way.now) (IsWay_down c.args.self.now c.args.way.now none (with_place c.index.result.now.from c.deref.result.now) c.in-len1-up.len_at_least c.requires k)))

pub returns-in-len1-up : goal.returns-in-len1-up
returns-in-len1-up g t c =
    let k = child_is (λ f. with_place f.from f.branch.value) c.self.inside.forks.items c.args.self.now c.args.way.now none c.index.result.now (with_place c.index.result.now.from c.deref.result.now) (sym (ap (λ z. z.forks) c.self.view_is)) c.in-len1-up.len_at_least c.requires c.index.ensures (ap (λ z. with_place c.index.result.now.from z) c.deref.ensures) in
    c.reach.ensures ∙ reach_placed 0 c.index.result.now.from c.deref.result.now (behind c.args.way.now) ∙ ap (λ z. with_place 0 z) (reach_down c.args.self.now c.args.way.now none (with_place c.index.result.now.from c.deref.result.now) c.in-len1-up.len_at_least k)

pub returns-in-empty : goal.returns-in-empty
returns-in-empty g t c = reach_empty _ _ c.args.self.now c.args.way.now c.self.view_is c.in-empty.len_below
