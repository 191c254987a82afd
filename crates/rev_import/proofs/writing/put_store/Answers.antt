use Rattle.std.proofs.Common.{◌∙◌, ap, w32}
use Rattle.std.specs.Fmt.{signed_decimal}
use Rattle.std.proofs.lemmas.Int.{to_z-of_z}
use Rattle.rev_import.proofs.Rows.{adds_row, store_row, three_behind}
use Rattle.rev_import.proofs.writing.put_store.Goals as goal

pub returns : goal.returns
returns g c =
    adds_row c.extend_from_slice.result _ _ _ _
    (three_behind c.extend_from_slice.result _ _ _ _ _ _ _ c.in_ok-put_words.ensures c.in_ok-put_filler.ensures c.extend_from_slice.ensures.items)
    (store_row c.args.command c.args.key.now c.args.flags c.args.exptime c.args.size _ _ _ _ _ c.bytes.ensures.rule c.ranges.flags.fits c.ranges.exptime.sfits c.requires c.storage_name.ensures c.bytes.ensures.same
    (c.as_bytes.ensures.value ∙ c.format.ensures.text) (c.as_bytes-2.ensures.value ∙ c.format-2.ensures.text ∙ ap signed_decimal (to_z-of_z w32 c.args.exptime c.ranges.exptime)) (c.as_bytes-3.ensures.value ∙ c.format-3.ensures.text))
