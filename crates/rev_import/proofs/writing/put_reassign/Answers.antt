use Rattle.std.proofs.Common.{◌∙◌}
use Rattle.rev_import.proofs.Rows.{adds_row, reassign_row}
use Rattle.rev_import.proofs.writing.put_reassign.Goals as goal

pub returns : goal.returns
returns g c =
    adds_row c.put_words.result _ _ _ _ c.put_words.ensures (reassign_row _ _ _ _ c.ranges.source.fits c.ranges.target.fits (c.as_bytes.ensures.value ∙ c.format.ensures.text) (c.as_bytes-2.ensures.value ∙ c.format-2.ensures.text))
