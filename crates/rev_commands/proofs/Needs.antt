-- How many moves it takes at most that what a lookup found leaves.
use Rattle.std.specs.Prelude.{ℕ, ◌≡◌, ◌≤◌, ◌+◌, List, Option, None, Some}
use Rattle.std.proofs.Common.{sym, arith}
use Rattle.rev_model.specs.State.{State}
use Rattle.rev_model.specs.Client.{lookup}
use Rattle.rev_model.specs.declared.ChunkRef.{ChunkRef}
use Rattle.rev_commands.proofs.Looking.{chunk_of, found, found_look, found_removal, look_most}
use Rattle.rev_commands.specs.Looking.{found_need, look_need, removal_need}

-- a lookup, and the way out of what it found
pub look_found : (s : State) (k : List ℕ) (o : Option ChunkRef) → o ≡ chunk_of (lookup s k).1 → look_need s k + found_need o ≤ removal_need s k
look_found s k None e = omega (arith, look_most s k)
look_found s k (Some x) e = let l = found s k x (sym e) in omega (arith, found_look s k x l, found_removal s k x l)
