use Rattle.std.specs.Option.{option_map}
use Rattle.rev_script.specs.Line.{view}
use Rattle.rev_script.proofs.Next.{onward_ok, onward_err}
use Rattle.rev_script.proofs.lines.next_line.Goals as goal

pub returns-clause-ok : goal.returns-clause-ok
returns-clause-ok g c =
    onward_ok c.args.input.now.passes c.pass_rest.new.input.passes _ (λ line. option_map view line) c.line_here.result
    (c.in-Ok-true.ensures.some c.in-Ok-true.field-0-test) c.line_here.ensures.ok

pub returns-clause-err : goal.returns-clause-err
returns-clause-err g c =
    onward_err c.args.input.now.passes c.pass_rest.new.input.passes _ c.line_here.result
    (c.in-Ok-true.ensures.some c.in-Ok-true.field-0-test) c.line_here.ensures.err
