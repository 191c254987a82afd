use Rattle.std.proofs.Common.{◌≡◌, ℕ, List, OnOk, decimal, rules}
use Rattle.std.specs.Io.KnownBytes.{Appends}
use Rattle.rev_messages.specs.Telling.{Told}
use Rattle.rev_messages.proofs.Stops.{line_by}
use Rattle.rev_messages.proofs.stop.tell_line.Goals as goal

pub returns-clause-told : goal.returns-clause-told
returns-clause-told g c =
    let digits : c.format.result.now ≡ decimal c.args.line = search rules in
    line_by (λ (t : List ℕ). Told (g.E.Sink.contents c.args.errors.now) (g.E.Sink.contents c.tell_line_by.new.errors) (g.E.Sink.failures c.args.errors.now) (g.E.Sink.failures c.tell_line_by.new.errors) t) _ _ _ _ _ c.line_fault.ensures digits c.tell_line_by.ensures.told

pub returns-clause-ok : goal.returns-clause-ok
returns-clause-ok g c =
    let digits : c.format.result.now ≡ decimal c.args.line = search rules in
    line_by (λ (t : List ℕ). OnOk c.tell_line_by.result (Appends (g.E.Sink.contents c.args.errors.now) (g.E.Sink.contents c.tell_line_by.new.errors) t)) _ _ _ _ _ c.line_fault.ensures digits c.tell_line_by.ensures.ok
