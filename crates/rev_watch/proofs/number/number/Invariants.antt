use Rattle.std.proofs.Common.{◌≡◌, ◌<◌, ◌≤◌, ◌^◌, take, length, true}
use Rattle.std.specs.List.{list_all}
use Rattle.rev_script.specs.Number.{value, is_digit}
use Rattle.rev_watch.proofs.number.number.Given as goal

abbrev pub invariant-loop-b : goal.invariant-loop-b
invariant-loop-b l = (l.sum ≡ value (take l.b-index l.word)) × (list_all is_digit (take l.b-index l.word) ≡ true) × (l.sum < 10 ^ l.b-index) × (0 < length l.word) × (length l.word ≤ 19)
