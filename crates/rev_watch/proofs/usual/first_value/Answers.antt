use Rattle.std.proofs.Common.{◌∙◌}
use Rattle.rev_watch.proofs.UsualLemmas.{first_of}
use Rattle.rev_watch.proofs.WordLemmas.{cut-some}
use Rattle.rev_watch.proofs.usual.first_value.Goals as goal

pub returns-in_default-Some : goal.returns-in_default-Some
returns-in_default-Some c =
    let v = c.in_ok-value.value.now in
    let f = cut-some 32 v c.cut.result.1 c.in_default-Some.rest c.cut.ensures.back c.in_default-Some.is-1 in
    rw c.in_default-Some.is-1 (first_of c.args.field c.as_bytes.result.now c.args.text.now v c.cut.result.0.now c.in_default-Some.rest.now (c.as_bytes.ensures.value ∙ c.name.ensures)
    c.in_ok-value.ensures f.0 c.cut.ensures.front f.1)
