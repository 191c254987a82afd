use Rattle.std.proofs.Common.{sym, ◌∙◌, refl}
use Rattle.std.proofs.lemmas.Option.{slice_get_read}
use Rattle.rev_log.proofs.Steps.{mark-is}
use Rattle.rev_log.proofs.rows.mark.Goals as goal

pub returns-then-names-clause-items : goal.returns-then-names-clause-items
returns-then-names-clause-items g c =
    let xs = c.args.waiting.now.items in
    let x = c.in-Some-get_mut.coming.now in
    mark-is xs c.args.first c.args.number c.in-Some.number c.in-Some-place_of.place x c.args.key.now c.in-Some.is (sym c.place_of.ensures ∙ c.in-Some-place_of.is)
    (slice_get_read xs c.args.waiting.now.len c.in-Some-place_of.place x c.args.waiting.now.ok.0 (c.in-Some-get_mut.ensures.variant.0 refl) c.in-Some-get_mut.ensures.value)
    (sym c.is_look_up.ensures ∙ c.if-is_look_up.true) (sym c.names.ensures ∙ c.if-names.true)
