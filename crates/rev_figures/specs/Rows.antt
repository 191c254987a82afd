-- The rows that a step of a path makes.
-- Rule of this project: what is counted of a step, by the states at its two ends.
use Rattle.std.specs.Prelude.{ℕ, zero, suc, ◌-◌, Bool, false, cond, nat_eq, List, [], ◌∷◌, ◌++◌, Option, None, Some, map}
use Rattle.rev_items.specs.Plain.{PlainItem}
use Rattle.rev_model.specs.State.{State, find, owner_of, last_class}
use Rattle.rev_model.specs.Actor.{Step, owned_pages}
use Rattle.rev_model.specs.Words.{bytes}
use Rattle.rev_model.specs.Events.{item_of}
use Rattle.rev_model.specs.declared.ChunkRef.{ChunkRef}
use Rattle.rev_model.specs.declared.Mover.{Mover}
use Rattle.rev_model.specs.declared.Outcome.{Outcome}
use Rattle.rev_model.specs.declared.Outcome.TheVariants as outcome
use Rattle.rev_model.specs.declared.Queue.TheVariants.{Hot, Warm, Cold, Temp}
use Rattle.rev_explain.specs.Departures.{PlainDeparture}
use Rattle.rev_figures.specs.Kinds.{command_key, kind_of}
use Rattle.rev_figures.specs.declared.asks.Ask.{Ask}
use Rattle.rev_figures.specs.declared.path.Leaving.{Leaving}
use Rattle.rev_figures.specs.declared.path.PageMove.{PageMove}
use Rattle.rev_figures.specs.declared.path.PathStep.{PathStep}
use Rattle.rev_figures.specs.declared.path.QueueBytes.{QueueBytes}

-- the class of a chunk, 0 where there is none
abbrev pub class_of : State → Option ChunkRef → ℕ
class_of s None = 0
class_of s (Some x) = owner_of s x.page

-- the class that holds a key, 0 where none does
abbrev pub key_class : State → List ℕ → ℕ
key_class s k = class_of s (find s k)

-- the class that holds the key of a step's command, 0 where none does
abbrev pub named_class : State → Option (List ℕ) → ℕ
named_class s None = 0
named_class s (Some k) = key_class s k

-- the row of a step that left t
abbrev pub step_row : ℕ → State → Step → Outcome → PathStep
step_row n t e o = record { node = record { 0 = n }; second = t.globals.clock; kind = kind_of e o; class = named_class t (command_key e) }

-- whether an item was hit since it was stored
abbrev pub is_fetched : Option PlainItem → Bool
is_fetched None = false
is_fetched (Some i) = i.bits.fetched

-- how many seconds ago an item was stored or last bumped
abbrev pub idle_of : State → Option PlainItem → ℕ
idle_of s None = 0
idle_of s (Some i) = s.globals.clock - i.time

-- the row of a key that left at the i-th step, at second t, where s was the state before; a are the look-ups that
-- missed it since
abbrev pub leaving_row : State → ℕ → ℕ → PlainDeparture → Ask → Leaving
leaving_row s i t d a = record {
  node = record { 0 = d.node };
  step = i;
  second = t;
  cause = d.cause;
  class = key_class s d.key;
  fetched = is_fetched (item_of s (find s d.key));
  idle = idle_of s (item_of s (find s d.key));
  asks = a.count;
  asked_after = a.first - t;
}

-- the rows of the keys that left
abbrev pub leaving_rows : State → ℕ → ℕ → (List ℕ → Ask) → List PlainDeparture → List Leaving
leaving_rows s i t asked ds = map (λ (d : PlainDeparture). leaving_row s i t d (asked d.key)) ds

-- the row of a page that moved
abbrev pub move_row : ℕ → ℕ → Option Mover → List PageMove
move_row i t None = []
move_row i t (Some m) = record { step = i; second = t; from = m.src; to = m.dst } ∷ []

-- the row of a page that moved at the i-th step, if it answered so, where s was the state before
abbrev pub move_rows : State → ℕ → ℕ → Outcome → List PageMove
move_rows s i t outcome.Finished = move_row i t s.globals.mover
move_rows s i t o = []

-- the row of a class after the i-th step, if it owns pages
abbrev pub class_bytes : State → ℕ → ℕ → List QueueBytes
class_bytes t i c = cond (nat_eq (owned_pages c t.owner) 0) []
    (record { step = i; class = c; pages = owned_pages c t.owner; hot = bytes t c Hot; warm = bytes t c Warm; cold = bytes t c Cold; temp = bytes t c Temp } ∷ [])

-- the rows of the first n classes
abbrev pub bytes_to : State → ℕ → ℕ → List QueueBytes
bytes_to t i zero = []
bytes_to t i (suc n) = bytes_to t i n ++ class_bytes t i (suc n)

-- the rows of all classes
abbrev pub bytes_rows : State → ℕ → List QueueBytes
bytes_rows t i = bytes_to t i (last_class t)
