use Rattle.std.specs.Prelude.{◌≡◌, None, is_some, length, refl}
use Rattle.std.proofs.Common.{sym, ◌∙◌, ap, arith}
use Rattle.rev_classes.specs.Table.{PlainTable}
use Rattle.rev_model.specs.declared.Globals.{Globals}
use Rattle.rev_mover.proofs.Starting.{lowest_is, none_of}
use Rattle.rev_mover.proofs.scheduling.first_move.Goals as goal

pub returns-else-pages_of-lt2-clause-starts : goal.returns-else-pages_of-lt2-clause-starts
returns-else-pages_of-lt2-clause-starts g c =
    let lowest = lowest_is c.args.store.now c.args.source c.in-Some.page (sym c.lowest_page.ensures ∙ c.in-Some.is) in
    let none : c.args.store.now.globals.mover ≡ None = none_of _ (ap (λ (g : Globals). is_some g.mover) (sym c.globals.ensures) ∙ sym c.is_some.ensures ∙ c.if-is_some.false) in
    let last : c.last-last.result ≡ length c.args.store.now.fixed.sizes = c.last-last.ensures.last ∙ ap (λ (t : PlainTable). length t.sizes) c.table.ensures in
    (none, refl, (omega arith, omega arith, omega arith, λ e. c.if-source-target.false (sym e), lowest.0, lowest.1, omega arith, omega arith))
