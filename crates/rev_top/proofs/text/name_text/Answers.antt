use Rattle.std.proofs.Common.{append-nil}
use Rattle.rev_pushers.specs.Pieces.{piece_text}
use Rattle.rev_top.proofs.text.name_text.Goals as goal

pub returns : goal.returns
returns g c = rw (← c.piece_of.ensures, ← append-nil (piece_text c.piece_of.result)) c.text_of.ensures
