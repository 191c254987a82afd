use Rattle.std.proofs.Common.{sym, ◌∙◌}
use Rattle.rev_watch.proofs.LineLemmas.{told-as-log}
use Rattle.rev_watch.proofs.parse.parse.Goals as goal

pub returns-then-is_some : goal.returns-then-is_some
returns-then-is_some g c =
    rw (told-as-log {A = g.row.A.Denot} c.args.line.now c.without_cr-text.result.now c.value_behind.result c.without_cr-text.ensures c.value_behind.ensures
    (sym c.is_some.ensures ∙ c.if-is_some.true)) c.log_line.ensures
