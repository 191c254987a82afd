use Rattle.std.proofs.Common.{◌≡◌, ◌++◌, length}
use Rattle.rev_markup.specs.Numbers.{spaced}
use Rattle.rev_markup.proofs.numbers.put_spaced.Given as goal

-- what was put, and what is left to put, are all
abbrev pub invariant-digits : goal.invariant-digits
invariant-digits l = l.out.items ++ spaced l.rest ≡ l.initial.out.items ++ spaced l.digits

abbrev pub decreases-digits : goal.decreases-digits
decreases-digits l = length l.rest
