-- When a new item may enter: its chunk is loose, and its key is not in the index.
-- Rule of this project: what must hold where an item is linked.
use Rattle.std.specs.Prelude.{ℕ, ◌≡◌, None}
use Rattle.rev_items.specs.Plain.{PlainItem}
use Rattle.rev_model.specs.State.{State, find, IsClass}
use Rattle.rev_model.specs.declared.ChunkRef.{ChunkRef}
use Rattle.rev_model.specs.Sound.{Loose}

module _ (s : State) (c : ℕ) (x : ChunkRef) (i : PlainItem) where
  -- the item may enter: its chunk is loose and its key not in the index
  pub record Fresh : Type 0 where
    pub loose : Loose s c x
    pub class : IsClass s.fixed c
    pub key : find s i.key ≡ None
