-- Which keys the record of a step names, by their hashes.
-- Rule of this project: a play mentions each key that its record names, and the one that it stored.
use Rattle.std.specs.Prelude.{ℕ, List, [], ◌∷◌, ◌++◌, Option, None, Some}
use Rattle.std.specs.Option.{option_map}
use Rattle.rev_items.specs.Plain.{PlainItem}
use Rattle.rev_items.specs.Hash.{hash_of}
use Rattle.rev_model.specs.State.{State, item_at}
use Rattle.rev_model.specs.Move.{Move, Takes, Puts, Fills, Binds, Unbinds, Shifts}
use Rattle.rev_model.specs.Actor.{Step}
use Rattle.rev_model.specs.Events.{stored_key}
use Rattle.rev_model.specs.declared.Entry.TheVariants.{Chunk}
use Rattle.rev_model.specs.declared.Listed.TheVariants.{InQueue}
use Rattle.rev_model.specs.declared.Placed.TheVariants.{ToQueue}
use Rattle.rev_model.specs.declared.Outcome.{Outcome}
use Rattle.rev_model.specs.declared.Cause.{Cause}
use Rattle.rev_model.specs.declared.KeyChange.{KeyChange}

-- what is there, as a list
abbrev pub none_or : Option ℕ → List ℕ
none_or None = []
none_or (Some h) = h ∷ []

-- the hash of an item's key, if there is an item
abbrev pub hashed : Option PlainItem → List ℕ
hashed None = []
hashed (Some i) = hash_of i.key ∷ []

-- the keys that a move names: those of the chunks that it concerns, by what they hold at t, and that of its own item
abbrev pub named_by : State → Move → List ℕ
named_by t (Takes (InQueue c q (Chunk x))) = hashed (item_at t x)
named_by t (Puts (ToQueue c q (Chunk x) a)) = hashed (item_at t x)
named_by t (Fills x i) = hashed i ++ hashed (item_at t x)
named_by t (Binds x) = hashed (item_at t x)
named_by t (Unbinds x) = hashed (item_at t x)
named_by t (Shifts x y) = hashed (item_at t x) ++ hashed (item_at t y)
named_by t m = []

-- the keys that the moves of a record name, whose step left t
abbrev pub named : State → List Move → List ℕ
named t [] = []
named t (m ∷ ms) = named_by t m ++ named t ms

-- the key that the step stored, if it did
abbrev pub stored_keys : Step → Outcome → List ℕ
stored_keys e o = none_or (option_map hash_of (stored_key e o))

-- the note of a change
abbrev pub note_of : Option KeyChange → Option Cause
note_of None = None
note_of (Some t) = t.note
