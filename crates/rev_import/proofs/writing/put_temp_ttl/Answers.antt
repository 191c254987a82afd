use Rattle.std.proofs.Common.{◌∙◌, ap, w32}
use Rattle.std.specs.Fmt.{signed_decimal}
use Rattle.std.proofs.lemmas.Int.{to_z-of_z}
use Rattle.rev_import.proofs.Rows.{adds_row, temp_ttl_row}
use Rattle.rev_import.proofs.writing.put_temp_ttl.Goals as goal

pub returns : goal.returns
returns g c =
    adds_row c.put_words.result _ _ _ _ c.put_words.ensures
    (temp_ttl_row c.args.seconds c.as_bytes.result.now c.ranges.seconds.sfits (c.as_bytes.ensures.value ∙ c.format.ensures.text ∙ ap signed_decimal (to_z-of_z w32 c.args.seconds c.ranges.seconds)))
