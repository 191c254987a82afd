use Rattle.std.proofs.Common.{◌++◌, ◌∷◌, [], ◌∙◌, ap, codes, w32}
use Rattle.std.specs.Fmt.{signed_decimal}
use Rattle.std.proofs.lemmas.Int.{to_z-of_z}
use Rattle.rev_import.specs.Writing.{line_text}
use Rattle.rev_lines.proofs.Putting.{puts, flush_has}
use Rattle.rev_lines.proofs.client.put_flush.Goals as goal

pub returns : goal.returns
returns g c = puts _ _ _ (flush_has c.args.delay c.ranges.delay.sfits) (c.in_ok-put_signed.ensures ∙ ap (λ z. c.args.out.now.items ++ line_text (codes "flush_all") (signed_decimal z ∷ [])) (to_z-of_z w32 c.args.delay c.ranges.delay))
