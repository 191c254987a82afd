use Rattle.std.proofs.Common.{refl, sym, ◌∙◌, ap}
use Rattle.rev_choices.specs.Sample.{takes}
use Rattle.rev_intake.proofs.RowsTaken.{row_left_out}
use Rattle.rev_intake.proofs.rows.RowIntake.take.Goals as goal

pub returns-else-takes-clause-takes : goal.returns-else-takes-clause-takes
returns-else-takes-clause-takes g c =
    let seen = c.self.view_is in
    row_left_out _ _ _ _ _ (ap (λ i. takes i.sample.one_of c.args.row.now.key) (sym seen) ∙ sym c.takes.ensures ∙ c.if-takes.false) (ap (λ i. i.sample) seen)
    (ap (λ i. i.start) seen) (ap (λ i. i.latest) seen) (ap (λ i. i.waits) seen) (rw (c.add.ensures, ← seen) refl)
