use Rattle.std.proofs.Common.{◌∙◌}
use Rattle.rev_import.proofs.Rows.{adds_row, clock_row}
use Rattle.rev_import.proofs.writing.put_clock.Goals as goal

pub returns : goal.returns
returns g c =
    adds_row c.put_words.result _ _ _ _ c.put_words.ensures (clock_row _ _ c.ranges.now.fits (c.as_bytes.ensures.value ∙ c.format.ensures.text))
