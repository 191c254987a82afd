use Rattle.rev_import.proofs.Rows.{adds_row, bump_row}
use Rattle.rev_import.proofs.writing.put_bump.Goals as goal

pub returns : goal.returns
returns g c =
    adds_row c.put_words.result _ _ _ _ c.put_words.ensures bump_row
