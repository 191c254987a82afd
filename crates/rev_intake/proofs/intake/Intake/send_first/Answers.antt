use Rattle.std.proofs.Common.{length, ap, ◌∙◌, ◌-◌}
use Rattle.std.proofs.lemmas.Result.{on_ok_weaker}
use Rattle.rev_intake.proofs.Passing.{both_ok, written_first}
use Rattle.rev_intake.proofs.intake.Intake.send_first.Goals as goal

pub returns-clause-passes : goal.returns-clause-passes
returns-clause-passes g c =
    let seen = c.self.view_is in
    both_ok c.send_piece.result (λ s r. written_first (ap (λ i. i.waiting) seen) (ap (λ i. i.waits) seen) (ap (λ i. i.waiting) r) c.in_ok-write_first.ensures.moves s) c.send_piece.ensures.sends
    c.send_piece.ensures.rest

pub returns-clause-fewer : goal.returns-clause-fewer
returns-clause-fewer g c =
    let seen = c.self.view_is in
    on_ok_weaker c.send_piece.result (λ r. ap (λ i. length i.waiting) r ∙ c.in_ok-write_first.ensures.fewer ∙ ap (λ i. length i.waiting - 1) seen) c.send_piece.ensures.rest

pub returns-clause-counts : goal.returns-clause-counts
returns-clause-counts g c =
    let seen = c.self.view_is in
    on_ok_weaker c.send_piece.result (λ r. ap (λ i. i.counts) r ∙ ap (λ i. i.counts) seen) c.send_piece.ensures.rest
