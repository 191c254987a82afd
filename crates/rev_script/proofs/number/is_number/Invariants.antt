use Rattle.std.proofs.Common.{◌≡◌, ◌<◌, take, length, true}
use Rattle.std.specs.List.{list_all}
use Rattle.rev_script.specs.Number.{is_digit}
use Rattle.rev_script.proofs.number.is_number.Given as goal

abbrev pub invariant-loop-b : goal.invariant-loop-b
invariant-loop-b l = (list_all is_digit (take l.b-index l.word) ≡ true) × (0 < length l.word)
