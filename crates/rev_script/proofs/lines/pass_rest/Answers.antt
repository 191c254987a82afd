use Rattle.rev_script.proofs.Next.{fault_rest, rest_end}
use Rattle.rev_script.proofs.lines.pass_rest.Goals as goal

pub returns-in-Err-clause-err : goal.returns-in-Err-clause-err
returns-in-Err-clause-err g c = rw c.if-not-input.false (fault_rest c.args.input.now.dialect c.in-Err.ensures.err)

pub returns-in-Ok-false-clause-none : goal.returns-in-Ok-false-clause-none
returns-in-Ok-false-clause-none g c =
    let r = rw c.in-Ok-false.field-0-test at c.in-Ok-false.ensures.ok in
    λ _. rw c.if-not-input.false (rest_end c.args.input.now.dialect r)
