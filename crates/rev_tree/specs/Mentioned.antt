-- Which nodes mention a key: all at which something befell it.
-- Rule of this project: a node that does not mention a key did nothing to it.
use Rattle.std.specs.Prelude.{◌≡◌, ℕ, ◌-◌, ◌+◌, ◌<◌, ◌≤◌, ◌⊎◌, List, Option, None, Some, slice_get, nat_eq, true}
use Rattle.rev_items.specs.Hash.{hash_of}
use Rattle.rev_tree.specs.declared.mention.Mention.{Mention}
use Rattle.rev_tree.specs.Mentions.{Holds, Within}
use Rattle.rev_model.specs.Lists.{has}
use Rattle.rev_model.specs.Events.{event}
use Rattle.rev_model.specs.Track.{key_place_of}
use Rattle.rev_tree.specs.Steps.{State}
use Rattle.rev_tree.specs.Tree.{PlainBranch}
use Rattle.rev_tree.specs.Index.{PlainIndex}
use Rattle.rev_tree.specs.Leading.{IsIndex}
use Rattle.rev_tree.specs.Rows.{Row, row_of, rows_of, at}
use Rattle.rev_tree.specs.Machine.{lineage}
use Rattle.rev_tree.specs.Positions.{SessionState, Kept}
use Rattle.rev_tree.specs.declared.junction.Junction.{Junction}

-- each of these hashes is mentioned at node n
abbrev pub AreMentioned : List Mention → List ℕ → ℕ → Type 0
AreMentioned ms hs n = (h : ℕ) → has nat_eq h hs ≡ true → Holds ms h n

-- more mentions: those that were there stay, and none is of a node over n
pub record Grows (old new : List Mention) (n : ℕ) : Type 0 where
  pub kept : (h m : ℕ) → Holds old h m → Holds new h m
  pub within : Within new n

-- nothing befell the key at node n, whose row this is: it has no event there, and it stands where it stood
pub record Still (root : State) (rows : List (Option Row)) (n : ℕ) (r : Row) (k : List ℕ) : Type 0 where
  pub quiet : event (at root rows r.parent) r.step k ≡ None
  pub stays : key_place_of (at root rows r.parent) k ≡ key_place_of (at root rows n) k

-- each node at which something befell a key mentions the key's hash
abbrev pub Mentioned : State → List (Option Row) → List Mention → Type 0
Mentioned root rows ms = (n : ℕ) (r : Row) (k : List ℕ) → row_of rows n ≡ Some r → Still root rows n r k ⊎ Holds ms (hash_of k) n

-- behind depth `low` of the way to the current node, up to depth `high`, nothing befell the key
abbrev pub IsStill : SessionState → List ℕ → ℕ → ℕ → Type 0
IsStill v k low high =
    (d n : ℕ) (r : Row) → low < d → d ≤ high → slice_get (lineage v.rows v.current) (d - 1) ≡ Some n → row_of v.rows n ≡ Some r → Still v.root v.rows n r k

-- the node at depth d of the way to the current node, and so each behind it, has a number over m
abbrev pub IsOver : SessionState → ℕ → ℕ → Type 0
IsOver v m d = (e n : ℕ) → d ≤ e → slice_get (lineage v.rows v.current) (e - 1) ≡ Some n → m < n

-- what a session keeps, its mentions and its index among it
pub record Noted (root t : State) (b : PlainBranch) (way : List Junction) (here issued : ℕ) (ms : List Mention) (i : PlainIndex) : Type 0 where
  pub kept : Kept root t b way here issued
  pub mentioned : Mentioned root (rows_of issued b) ms
  pub within : Within ms (issued + 1)
  pub indexed : IsIndex i b issued
