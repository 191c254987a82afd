use Rattle.std.proofs.Common.{◌≡◌, ◌<◌, ◌≤◌, ◌^◌, take, true, false}
use Rattle.std.specs.List.{list_all}
use Rattle.rev_script.specs.Number.{value, is_digit, has}
use Rattle.rev_watch.proofs.number.number_before.Given as goal

abbrev pub invariant-loop-i : goal.invariant-loop-i
invariant-loop-i l = (l.sum ≡ value (take l.i l.text)) × (list_all is_digit (take l.i l.text) ≡ true) × (l.sum < 10 ^ l.i) × (l.i ≤ 19) × (has l.sign (take l.i l.text) ≡ false)
