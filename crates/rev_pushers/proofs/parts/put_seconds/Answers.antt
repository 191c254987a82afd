use Rattle.std.proofs.Common.{sym, subst, ◌∙◌}
use Rattle.json.specs.Print.{IsNumber}
use Rattle.rev_pushers.proofs.Seconds.{IsNumber-seconds}
use Rattle.rev_pushers.proofs.parts.put_seconds.Goals as goal

pub number-requires : goal.number-requires
number-requires g c = subst IsNumber (sym (c.as_str.ensures.value ∙ c.in_ok-text.ensures)) (IsNumber-seconds c.args.micros c.ranges.micros.fits)
