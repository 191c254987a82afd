use Rattle.std.proofs.Common.{ℕ, List, OnOk}
use Rattle.std.specs.Io.KnownBytes.{Appends}
use Rattle.rev_messages.specs.Telling.{Told}
use Rattle.rev_messages.proofs.Stops.{stats_by}
use Rattle.rev_messages.proofs.stop.tell_stats.Goals as goal

pub returns-clause-told : goal.returns-clause-told
returns-clause-told g c =
    stats_by (λ (t : List ℕ). Told (g.E.Sink.contents c.args.errors.now) (g.E.Sink.contents c.tell_stats_by.new.errors) (g.E.Sink.failures c.args.errors.now) (g.E.Sink.failures c.tell_stats_by.new.errors) t) _ _ _ c.stat_fault.ensures c.tell_stats_by.ensures.told

pub returns-clause-ok : goal.returns-clause-ok
returns-clause-ok g c =
    stats_by (λ (t : List ℕ). OnOk c.tell_stats_by.result (Appends (g.E.Sink.contents c.args.errors.now) (g.E.Sink.contents c.tell_stats_by.new.errors) t)) _ _ _ c.stat_fault.ensures c.tell_stats_by.ensures.ok
