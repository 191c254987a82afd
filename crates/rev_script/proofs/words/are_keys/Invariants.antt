use Rattle.std.proofs.Common.{◌≡◌, take, true}
use Rattle.std.specs.List.{list_all}
use Rattle.rev_items.specs.Keys.{is_key}
use Rattle.rev_script.proofs.words.are_keys.Given as goal

abbrev pub invariant-loop-w : goal.invariant-loop-w
invariant-loop-w l = list_all (λ x. is_key x.now) (take l.w-index l.words) ≡ true
