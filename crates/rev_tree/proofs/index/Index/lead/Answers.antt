use Rattle.std.proofs.Common.{length, refl, sym, ◌∙◌}
use Rattle.rev_tree.specs.Index.{branch_of}
use Rattle.rev_tree.proofs.Leads.{gather_next, gather_end, gather_full, turned_over, is_less, is_same}
use Rattle.rev_tree.proofs.index.Index.lead.Goals.{else-up-test, then-up-test+in-None}
use Rattle.rev_tree.proofs.index.Index.lead.Goals as goal

pub up-preserved : goal.up-preserved
up-preserved g c =
    gather_next c.args.self.now (branch_of c.args.self.now c.args.number) c.up.way.items c.push.new.self.items c.up.branch c.in-Some.leaving (is_less (length c.up.way.items) 64 c.up-test.ensures.value c.up-test.ensures.fits) (sym c.leaving.ensures ∙ c.in-Some.is) c.push.ensures.items c.up.invariant

pub returns : goal.returns
returns g c =
    let i = c.args.self.now in
    let first = branch_of i c.args.number in
    turned_over i c.args.number first c.up.way.items c.as_mut_slice.result.now c.reverse.new.self refl c.as_mut_slice.ensures.value c.reverse.ensures.after c.reverse.ensures.len
    (elim c.up-test.branch [
      | else-up-test w ↦ gather_full i first c.up.way.items c.up.branch (is_same (length c.up.way.items) 64 w.up-test.ensures.value) c.up.invariant
      | then-up-test+in-None w ↦ gather_end i first c.up.way.items c.up.branch (sym w.leaving.ensures ∙ w.in-None.is) c.up.invariant
    ])
