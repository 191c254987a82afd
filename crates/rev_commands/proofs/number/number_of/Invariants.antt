use Rattle.std.proofs.Common.{◌≡◌, ◌≤◌, ◌<◌, ◌^◌, length, take, true}
use Rattle.std.specs.List.{list_all}
use Rattle.rev_model.specs.Client.{is_digit, digits_from}
use Rattle.rev_commands.proofs.number.number_of.Given as goal

abbrev pub invariant-loop-digit : goal.invariant-loop-digit
invariant-loop-digit l = (l.number ≡ digits_from 0 (take l.digit-index l.digits)) × (list_all is_digit (take l.digit-index l.digits) ≡ true) × (0 < length l.digits) × (length l.digits ≤ 20) × (l.number < 2 ^ 64)
