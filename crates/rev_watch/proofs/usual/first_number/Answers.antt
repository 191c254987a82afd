use Rattle.std.proofs.Common.{◌∙◌}
use Rattle.rev_watch.proofs.UsualLemmas.{first_number_of}
use Rattle.rev_watch.proofs.usual.first_number.Goals as goal

pub returns-clause-stands : goal.returns-clause-stands
returns-clause-stands c =
    first_number_of c.args.limit c.args.field c.as_bytes.result.now c.args.text.now c.in_ok-value.value.now c.number_before.result (c.as_bytes.ensures.value ∙ c.name.ensures)
    c.in_ok-value.ensures c.number_before.ensures
