use Rattle.std.proofs.Common.{false, length, ap, sym, ◌∙◌}
use Rattle.rev_replay.proofs.Going.{goes_passed}
use Rattle.rev_replay.proofs.run.Replay.pass.Goals as goal

pub returns-then-passes : goal.returns-then-passes
returns-then-passes g c =
    rw (c.played-self.ensures, c.restart.ensures)
    (goes_passed false _ _ _ c.issued-nodes.result (c.issued-nodes.ensures ∙ ap (λ m. length m.rows) c.session.ensures) (sym c.passes.ensures ∙ c.if-passes.true))
