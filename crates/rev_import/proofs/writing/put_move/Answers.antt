use Rattle.rev_import.proofs.Rows.{adds_row, move_row}
use Rattle.rev_import.proofs.writing.put_move.Goals as goal

pub returns : goal.returns
returns g c =
    adds_row c.put_words.result _ _ _ _ c.put_words.ensures move_row
