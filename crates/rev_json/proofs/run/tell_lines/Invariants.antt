use Rattle.std.proofs.Common.{◌≡◌, ◌≤◌, ◌-◌, None}
use Rattle.rev_output.specs.Sink.{sink_at}
use Rattle.rev_shell.specs.Answers.{beside}
use Rattle.rev_shell.specs.declared.run.Prompts.TheVariants.{Hidden}
use Rattle.rev_shell.proofs.Runs.{IsSoFar}
use Rattle.rev_json.specs.JsonLines.{WroteLines}
use Rattle.rev_json.proofs.run.tell_lines.Given as goal

abbrev pub invariant-lines : goal.invariant-lines
invariant-lines g l = (l.lines.fault ≡ None) × (l.count ≤ l.lines.input.bytes.given) × (l.lines.input.bytes.given ≤ 4294967296)
    × IsSoFar l.fn.lines.input.dialect Hidden l.fn.lines.input l.lines.input
    (sink_at None l.fn.lines.input.bytes.source.beside.sink.failures) (sink_at None l.lines.input.bytes.source.beside.sink.failures)
    (beside l.fn.session l.fn.bookmarks l.fn.log) (beside l.session l.bookmarks l.log) l.count l.bad l.refused
    × WroteLines l.count l.fn.lines.input.bytes.source.beside.sink.contents l.lines.input.bytes.source.beside.sink.contents
    × (l.lines.input.bytes.source.beside.writer ≡ l.fn.lines.input.bytes.source.beside.writer)

abbrev pub decreases-lines : goal.decreases-lines
decreases-lines g l = 4294967296 - l.lines.input.bytes.given
