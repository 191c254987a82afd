use Rattle.std.proofs.Common.{sym, subst, ◌∷◌, [], codes, false}
use Rattle.rev_requests.specs.declared.clients.Arithmetic.TheVariants.{Increment}
use Rattle.rev_requests.specs.declared.clients.KeyCommand.TheVariants.{Count}
use Rattle.rev_script.specs.Script.{UpdateLine}
use Rattle.rev_import.specs.Writing.{IsLine, line_text}
use Rattle.rev_import.proofs.Rows.{adds_row, increment_row}
use Rattle.rev_import.proofs.writing.put_increment.Goals as goal

pub returns : goal.returns
returns g c =
    adds_row c.put_words.result _ _ _ _ c.put_words.ensures
    (subst (λ w. IsLine (line_text (codes "incr") (w ∷ codes "1" ∷ [])) (UpdateLine (Count (Increment 1)) c.args.key.now false)) (sym c.bytes.ensures.same) (increment_row c.args.key.now c.bytes.ensures.rule))
