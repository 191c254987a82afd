use Rattle.std.proofs.Common.{◌++◌, ◌∷◌, [], ◌∙◌, ap, codes, w32}
use Rattle.std.specs.Fmt.{signed_decimal}
use Rattle.std.proofs.lemmas.Int.{to_z-of_z}
use Rattle.rev_import.specs.Writing.{line_text}
use Rattle.rev_lines.proofs.Putting.{puts, temp_ttl_has}
use Rattle.rev_lines.proofs.line.put_temp_ttl.Goals as goal

pub returns : goal.returns
returns g c =
    puts _ _ _ (temp_ttl_has c.args.seconds c.ranges.seconds.sfits)
    (c.in_ok-put_signed_of.ensures ∙ ap (λ z. c.args.out.now.items ++ line_text (codes "lru") (codes "temp_ttl" ∷ signed_decimal z ∷ [])) (to_z-of_z w32 c.args.seconds c.ranges.seconds))
