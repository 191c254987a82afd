-- The lines of clients that bring items about.
-- Rule of this project: which lines stand for an item that a server holds, by its queue.
use Rattle.std.specs.Prelude.{◌≡◌, ℕ, ℤ, Bool, true, false, ◌==◌, nat_lt, if◌then◌else◌, List, [], ◌∷◌, ◌++◌}
use Rattle.std.specs.List.{list_all}
use Rattle.rev_model.specs.declared.Queue.{Queue}
use Rattle.rev_model.specs.declared.Queue.TheVariants.{Hot, Warm, Cold, Temp}
use Rattle.rev_script.specs.Script.{ScriptLine, StorageLine, UpdateLine}
use Rattle.rev_import.specs.Writing.{Writes}
use Rattle.rev_import.specs.Becoming.{get, store_lines}
use Rattle.rev_import.specs.declared.writing.Storing.TheVariants.{Set}
use Rattle.rev_snapshot.specs.declared.dump.Item.{Item}
use Rattle.rev_snapshot.specs.declared.order.Placed.{Placed}

abbrev pub is_warm : Queue → Bool
is_warm Hot = false
is_warm Warm = true
is_warm Cold = false
is_warm Temp = false

-- the gets behind a set: an item of WARM was hit twice, another one once where it was fetched
abbrev pub hit_lines : List ℕ → Bool → Bool → List ScriptLine
hit_lines key true fetched = get key ∷ get key ∷ []
hit_lines key false true = get key ∷ []
hit_lines key false false = []

-- an item is set, without flags, and hit
abbrev pub set_lines : List ℕ → ℤ → ℕ → Bool → Bool → List ScriptLine
set_lines key exptime size warm fetched = store_lines Set key 0 exptime size ++ hit_lines key warm fetched

abbrev pub stored_lines : {A : Type 0} → Placed A → List ScriptLine
stored_lines p = set_lines p.item.key p.item.exptime p.item.size (is_warm p.queue) p.item.fetched

-- the lines for an item: none where a script cannot store its data
abbrev pub item_lines : {A : Type 0} → Placed A → List ScriptLine
item_lines p = if nat_lt 1048576 p.item.size then [] else stored_lines p

-- the lines for items, in their order
abbrev pub items_lines : {A : Type 0} → List (Placed A) → List ScriptLine
items_lines [] = []
items_lines (p ∷ ps) = item_lines p ++ items_lines ps

-- a key of filler begins with ~
abbrev pub is_fill_key : List ℕ → Bool
is_fill_key [] = false
is_fill_key (b ∷ bs) = b == 126

-- filler is stored or taken away
abbrev pub is_fill : ScriptLine → Bool
is_fill (StorageLine command key flags exptime payload quiet) = is_fill_key key
is_fill (UpdateLine command key quiet) = is_fill_key key
is_fill line = false

-- behind what was written before stand lines of which those of clients store filler or take it away
pub record Fills (old new : List ℕ) : Type 0 where
  pub clients : List ScriptLine
  pub fills : list_all is_fill clients ≡ true
  pub writes : Writes old new clients

-- behind filler stand the lines of items
pub record Starts {A : Type 0} (old new : List ℕ) (items : List (Placed A)) : Type 0 where
  pub fills : List ScriptLine
  pub are_fills : list_all is_fill fills ≡ true
  pub writes : Writes old new (fills ++ items_lines items)
