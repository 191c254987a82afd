use Rattle.std.proofs.Common.{[], ◌∷◌, ◌++◌, ◌+◌, length, ap, sym, ◌∙◌, add-one, ⊎_elim}
use Rattle.rev_tree.proofs.Junctions.{next_fits}
use Rattle.rev_tree.specs.declared.junction.Junction.{Junction}
use Rattle.rev_tree.specs.Tree.{PlainBranch, bare}
use Rattle.rev_tree.specs.Ways.{reach}
use Rattle.rev_tree.proofs.Finds.{less_or_same}
use Rattle.rev_tree.proofs.Leads.{next_along, next_off}
use Rattle.rev_tree.proofs.Positions.{stands_within}
use Rattle.rev_tree.proofs.Growth.{grown_push_code, grown_split_code}
use Rattle.rev_tree.proofs.position.Position.hang.Goals as goal

pub returns-in_ok-extend-in-None-clause-ok : goal.returns-in_ok-extend-in-None-clause-ok
returns-in_ok-extend-in-None-clause-ok g c = λ node held root before s n l o.
    let i = c.args.self.now in
    let along = next_along (reach i.base i.way.items) i.here (sym c.in-None.is ∙ c.requires.fork) in
    grown_push_code root before i.store i.base c.extend.new.self i.way.items c.as_slice.result.now i.here (i.here + 1) node n (c.in_ok-extend-in-None.ensures.ok node held) c.as_slice.ensures.value (add-one i.here) c.requires.proper along s l o

pub overflow_add-self : goal.overflow_add-self
overflow_add-self g c =
    let i = c.args.self.now in
    next_fits _ _ (next_along (reach i.base i.way.items) i.here (sym c.in-None.is ∙ c.requires.fork)) c.requires.small

pub returns-in_ok-split-in-Some-clause-ok : goal.returns-in_ok-split-in-Some-clause-ok
returns-in_ok-split-in-Some-clause-ok g c = λ node held root before s n l o.
    let i = c.args.self.now in
    let run = (reach i.base i.way.items).run in
    let off = next_off (reach i.base i.way.items) i.here c.in-Some.junction (sym c.in-Some.is ∙ c.requires.fork) in
    let within = stands_within _ _ _ _ _ s in
    grown_split_code root before i.store i.base c.split.new.self (record { from = c.in-Some.junction.taken; run = node ∷ []; forks = bare }) i.way.items c.as_slice-in-Some.result.now c.push.new.self.items i.here c.in-Some.junction.fork node n
    (ap (λ (j : Junction). let y : PlainBranch = record { from = j.taken; run = node ∷ []; forks = bare } in y) off.0) (c.in_ok-split-in-Some.ensures.ok node held) c.as_slice-in-Some.ensures.value (c.push.ensures.items ∙ ap (λ k. i.way.items ++ record { taken = k; fork = c.in-Some.junction.fork } ∷ []) (ap (λ (j : Junction). j.taken) off.0))
    (ap (λ (j : Junction). j.fork) off.0) c.requires.proper (⊎_elim (λ e. absurd (off.1 e)) (λ e. e) c.requires.room) (⊎_elim (λ e. e) (λ e. absurd (off.1 e)) (less_or_same i.here (length run) within)) s l o
