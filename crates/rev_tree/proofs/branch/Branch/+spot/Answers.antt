use Rattle.std.proofs.Common.{rules, refl, [], ◌+◌, ◌<◌, get_or, arith, ap, sym, subst, add-one}
use Rattle.rev_tree.specs.Tree.{count}
use Rattle.rev_tree.specs.Finds.{Rises}
use Rattle.rev_tree.specs.declared.junction.Junction.{Junction}
use Rattle.rev_tree.specs.Places.{with_place}
use Rattle.rev_tree.proofs.Places.{found_anywhere}
use Rattle.rev_tree.proofs.Finds.{child_at, fork_within, rises_child, found_end, found_behind}
use Rattle.rev_tree.proofs.Elsewhere.{if_none_weaker, elsewhere_end, elsewhere_behind_run, elsewhere_no_fork, elsewhere_other_place, elsewhere_behind}
use Rattle.rev_tree.proofs.Held.{if_some_weaker}
use Rattle.rev_tree.proofs.Junctions.{length_behind, behind}
use Rattle.rev_tree.proofs.branch.Branch.+spot.Goals.{then-junction-len-via-then-junction-len, then-junction-len-via-else-junction-len+then-junction-fork_count}
use Rattle.rev_tree.proofs.branch.Branch.+spot.Goals as goal

abbrev none : Junction
none = record { taken = 0; fork = 0 }

pub index-fork-requires : goal.index-fork-requires
index-fork-requires g t c =
    let l = c.if-junction-fork_count.false in
    let e = c.fork_count.ensures in
    rw c.self.inside.forks.ok.0 (fork_within (λ f. with_place f.from f.branch.value) _ c.args.self.now (get_or c.args.way.now 0 none).fork (sym (ap (λ z. z.forks) c.self.view_is)) (omega (arith, l, e)))

pub spot-requires : goal.spot-requires
spot-requires g t c κs within =
    let l = c.if-junction-fork_count.false in
    let e = c.fork_count.ensures in
    let fork = (get_or c.args.way.now 0 none).fork in
    let h : fork < count c.args.self.now.forks = omega (arith, l, e) in
    let k = child_at (λ f. with_place f.from f.branch.value) c.self.inside.forks.items c.args.self.now fork c.index-fork.result.now (with_place c.index-fork.result.now.from c.deref.result.now) (sym (ap (λ z. z.forks) c.self.view_is)) h c.index-fork.ensures (ap (λ z. with_place c.index-fork.result.now.from z) c.deref.ensures) in
    let n = length_behind c.args.way.now c.in-len1-up.len_at_least in
    (search (rules, length_behind), (search rules, subst (λ z. Rises z) (sym k) (rises_child c.args.self.now.forks fork c.requires.1 h)))

pub returns-in-Some-clause-some : goal.returns-in-Some-clause-some
returns-in-Some-clause-some g t c = found_end c.args.number c.args.self.now c.args.way.now c.in-Some.at (c.in-Some.at + 1) c.in-empty.len_below (add-one c.in-Some.at) (c.in-Some.ensures.some).0 (c.in-Some.ensures.some).1

pub returns-else-fork-junction-clause-some : goal.returns-else-fork-junction-clause-some
returns-else-fork-junction-clause-some g t c =
    let l = c.if-junction-fork_count.false in
    let e = c.fork_count.ensures in
    let fork = (get_or c.args.way.now 0 none).fork in
    let h : fork < count c.args.self.now.forks = omega (arith, l, e) in
    let k = child_at (λ f. with_place f.from f.branch.value) c.self.inside.forks.items c.args.self.now fork c.index-fork.result.now (with_place c.index-fork.result.now.from c.deref.result.now) (sym (ap (λ z. z.forks) c.self.view_is)) h c.index-fork.ensures (ap (λ z. with_place c.index-fork.result.now.from z) c.deref.ensures) in
    let f = c.if-fork-junction.false in
    let m = c.if-junction-len.false in
    let n = c.len.ensures.value in
    if_some_weaker c.spot.result _ _ (λ at found. found_behind c.args.number c.args.self.now (with_place c.index-fork.result.now.from c.deref.result.now) c.args.way.now none at c.in-len1-up.len_at_least h (omega (arith, m, n)) k f (found_anywhere c.args.number c.index-fork.result.now.from c.deref.result.now [] (behind c.args.way.now) at found)) c.spot.ensures.some

pub returns-else-fork-junction-clause-none : goal.returns-else-fork-junction-clause-none
returns-else-fork-junction-clause-none g t c =
    let l = c.if-junction-fork_count.false in
    let e = c.fork_count.ensures in
    let fork = (get_or c.args.way.now 0 none).fork in
    let h : fork < count c.args.self.now.forks = omega (arith, l, e) in
    let x = c.index-fork.result.now in
    let k = child_at (λ f. with_place f.from f.branch.value) c.self.inside.forks.items c.args.self.now fork x (with_place x.from c.deref.result.now) (sym (ap (λ z. z.forks) c.self.view_is)) h c.index-fork.ensures (ap (λ z. with_place x.from z) c.deref.ensures) in
    if_none_weaker c.spot.result _ _ (λ missed. elsewhere_behind c.args.number x.from c.args.self.now c.deref.result.now c.args.way.now none c.in-len1-up.len_at_least k missed) c.spot.ensures.none

pub returns-in-None-clause-none : goal.returns-in-None-clause-none
returns-in-None-clause-none g t c = elsewhere_end c.args.number c.args.self.now c.args.way.now c.in-empty.len_below c.in-None.ensures.none

pub returns-then-fork-junction-clause-none : goal.returns-then-fork-junction-clause-none
returns-then-fork-junction-clause-none g t c =
    let l = c.if-junction-fork_count.false in
    let e = c.fork_count.ensures in
    let fork = (get_or c.args.way.now 0 none).fork in
    let h : fork < count c.args.self.now.forks = omega (arith, l, e) in
    let x = c.index-fork.result.now in
    let k = child_at (λ f. with_place f.from f.branch.value) c.self.inside.forks.items c.args.self.now fork x (with_place x.from x.branch.value) (sym (ap (λ z. z.forks) c.self.view_is)) h c.index-fork.ensures refl in
    elsewhere_other_place c.args.number c.args.self.now (with_place x.from x.branch.value) c.args.way.now none c.in-len1-up.len_at_least k c.if-fork-junction.true

pub returns-then-junction-len-clause-none : goal.returns-then-junction-len-clause-none
returns-then-junction-len-clause-none g t c = elim c.then-junction-len.branch [
  | then-junction-len-via-then-junction-len w ↦
      let l = w.if-junction-len.true in
      let e = c.len.ensures.value in
      elsewhere_behind_run c.args.number c.args.self.now c.args.way.now none c.in-len1-up.len_at_least (omega (arith, l, e))
  | then-junction-len-via-else-junction-len+then-junction-fork_count w ↦
      let l = w.if-junction-fork_count.true in
      let e = w.fork_count.ensures in
      elsewhere_no_fork c.args.number c.args.self.now c.args.way.now none c.in-len1-up.len_at_least (omega (arith, l, e))
]
