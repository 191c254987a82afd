use Rattle.std.proofs.Common.{◌≡◌, ℕ, List, decimal, rules}
use Rattle.rev_messages.specs.Telling.{Told}
use Rattle.rev_program.proofs.Tallies.{one_told, more_told}
use Rattle.rev_program.proofs.program.tell_tally.Goals as goal

pub returns-then-tally-eq1 : goal.returns-then-tally-eq1
returns-then-tally-eq1 g c =
    let digits : c.format-first.result.now ≡ decimal c.args.tally.first = search rules in
    one_told (λ (t : List ℕ). Told (g.E.Sink.contents c.args.errors.now) (g.E.Sink.contents c.tell_parts.new.errors) (g.E.Sink.failures c.args.errors.now) (g.E.Sink.failures c.tell_parts.new.errors) t)
    c.args.tally c.args.so.now _ c.if-tally-eq1.true digits c.tell_parts.ensures.told

pub returns : goal.returns
returns g c =
    let digits : c.format-first.result.now ≡ decimal c.args.tally.first = search rules in
    let number : c.format-count.result.now ≡ decimal c.args.tally.count = search rules in
    more_told (λ (t : List ℕ). Told (g.E.Sink.contents c.args.errors.now) (g.E.Sink.contents c.tell_parts-2.new.errors) (g.E.Sink.failures c.args.errors.now) (g.E.Sink.failures c.tell_parts-2.new.errors) t)
    c.args.tally c.args.so.now _ _ c.if-tally-eq0.false c.if-tally-eq1.false number digits c.tell_parts-2.ensures.told
