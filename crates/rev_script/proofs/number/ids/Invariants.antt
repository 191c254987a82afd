use Rattle.std.proofs.Common.{◌≡◌, ◌==◌, ◌≤◌, length}
use Rattle.std.specs.List.{slice_split, fold}
use Rattle.rev_script.specs.Number.{ids, with_id}
use Rattle.rev_script.proofs.number.ids.Given as goal

abbrev pub invariant-parts : goal.invariant-parts
invariant-parts l = (length l.rest ≤ length l.list) × (fold with_id l.set (slice_split (λ b. b == 44) l.rest) ≡ ids (slice_split (λ b. b == 44) l.list))

abbrev pub decreases-parts : goal.decreases-parts
decreases-parts l = length l.rest
