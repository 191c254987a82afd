use Rattle.std.proofs.Common.{sym, ap, ◌∙◌, arith}
use Rattle.std.proofs.lemmas.Bool.{false≢true}
use Rattle.rev_tree.specs.Children.{next_number}
use Rattle.rev_tree.proofs.Finds.{next_read, none_first, over_furthest, same_number, number_same}
use Rattle.rev_tree.proofs.branch.Branch.place_in_run.Goals as goal

pub returns-in_default-clause-none : goal.returns-in_default-clause-none
returns-in_default-clause-none g c = λ p d. none_first c.args.self.now.run (sym c.next_at.ensures ∙ c.in_default.is) c.args.number p d

pub returns-then-eq-clause-some : goal.returns-then-eq-clause-some
returns-then-eq-clause-some g c = next_read _ _ c.args.number (sym c.next_at-2.ensures ∙ same_number c.next_at-2.result c.args.number (sym c.eq.ensures ∙ c.if-eq.true))

pub bisect-requires-clause-over : goal.bisect-requires-clause-over
bisect-requires-clause-over g c = λ i a l.
    let s = c.saturating_sub-furthest.ensures in
    let m = c.min.ensures in
    let n = c.len-len.ensures.value in
    over_furthest c.args.self.now.run c.args.number c.in-Some.first c.requires (sym c.next_at.ensures ∙ c.in-Some.is)
    (λ e. false≢true (sym c.if-eq.false ∙ c.eq.ensures ∙ number_same c.next_at-2.result c.args.number (c.next_at-2.ensures ∙ ap (λ z. next_number z c.args.self.now.run) s ∙ e)))
    i (omega (arith, a, l, m, n, s)) l
