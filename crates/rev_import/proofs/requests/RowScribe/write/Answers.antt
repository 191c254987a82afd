use Rattle.std.proofs.Common.{◌≡◌, ◌∙◌, ap, max}
use Rattle.std.proofs.lemmas.Result.{on_ok_weaker}
use Rattle.rev_import.specs.Requests.{clock_at}
use Rattle.rev_import.proofs.Written.{row_at}
use Rattle.rev_import.proofs.requests.RowScribe.write.Goals as goal

pub returns-clause-writes : goal.returns-clause-writes
returns-clause-writes g c =
    let time = c.args.row.now.time in
    let now : c.later-now.result ≡ clock_at c.args.self.now.start (max c.args.self.now.latest time) =
    c.later-now.ensures
    ∙ ap (λ l. max c.self.inside.start l) c.later-self-inside.ensures
    ∙ ap (λ s. max s.start (max s.latest time)) c.self.view_is in
    on_ok_weaker c.write_row.result (λ x. row_at c.args.row.now now c.in_ok-set_clock.ensures x) c.write_row.ensures
