-- A move as contracts see it.
-- Rule of this project: which moves of the model a change that is kept as one stands for.
use Rattle.std.specs.Prelude.{List, [], ◌∷◌, ◌≡◌, Option, Some, None}
use Rattle.rev_model.specs.Move as plain
use Rattle.rev_model.specs.declared.Cause.{Cause}
use Rattle.rev_model.specs.declared.Entry.TheVariants as entry
use Rattle.rev_model.specs.declared.GlobalPart.TheVariants as part
use Rattle.rev_model.specs.declared.Listed.TheVariants.{InFree, InQueue}
use Rattle.rev_model.specs.declared.Placed.TheVariants.{ToFree, ToQueue}
use Rattle.rev_inverse.specs.declared.changes.Change.{Change}
use Rattle.rev_inverse.specs.declared.changes.Change.TheVariants.{Enter, Leave, Link, Unlink, Revive, Free, Requeue, Take, Put, Touch, Shift, Lay, Lift, Count, LastCas, Timing, Mover, Settings, BumpIn, BumpBack, BumpOut, BumpFront, Marks, Unmarks}

-- the plain moves of which it is made, of which the last is played first: an item without its allocator, and the number
-- of slots for a page's parts
abbrev pub plain_moves : {A : Type 0} → Change A → List plain.Move
plain_moves (Enter q n x c i a) = plain.Puts (ToQueue c q (entry.Chunk x) a) ∷ plain.Binds x ∷ plain.Fills x (Some i) ∷ []
plain_moves (Leave q n x c o) = plain.Fills x o ∷ plain.Unbinds x ∷ plain.Takes (InQueue c q (entry.Chunk x)) ∷ []
plain_moves (Link q c x i a n) = plain.Sets (part.LastCas n) ∷ plain.Puts (ToQueue c q (entry.Chunk x) a) ∷ plain.Binds x ∷ plain.Fills x (Some i) ∷ []
plain_moves (Unlink q c x o n) = plain.Fills x o ∷ plain.Unbinds x ∷ plain.Takes (InQueue c q (entry.Chunk x)) ∷ plain.Sets (part.LastCas n) ∷ []
plain_moves (Revive q n x c i a) = plain.Puts (ToQueue c q (entry.Chunk x) a) ∷ plain.Binds x ∷ plain.Fills x (Some i) ∷ plain.Takes (InFree c x) ∷ []
plain_moves (Free q n x c b) = plain.Puts (ToFree c x b) ∷ plain.Fills x None ∷ plain.Unbinds x ∷ plain.Takes (InQueue c q (entry.Chunk x)) ∷ []
plain_moves (Requeue c a x p q) = plain.Puts (ToQueue c q (entry.Chunk x) a) ∷ plain.Takes (InQueue c p (entry.Chunk x)) ∷ []
plain_moves (Take at) = plain.Takes at ∷ []
plain_moves (Put at) = plain.Puts at ∷ []
plain_moves (Touch x t) = plain.Touches x t ∷ []
plain_moves (Shift a b) = plain.Shifts a b ∷ []
plain_moves (Lay p c n f) = plain.Lays p c n f ∷ []
plain_moves (Lift p f h) = plain.Lifts p f ∷ []
plain_moves (Count c k v) = plain.Counts c k v ∷ []
plain_moves (LastCas n) = plain.Sets (part.LastCas n) ∷ []
plain_moves (Timing t) = plain.Sets (part.Timing t) ∷ []
plain_moves (Mover m) = plain.Sets (part.Mover m) ∷ []
plain_moves (Settings w) = plain.Sets (part.Settings w) ∷ []
plain_moves (BumpIn b) = plain.BumpsIn b ∷ []
plain_moves BumpBack = plain.BumpsBack ∷ []
plain_moves BumpOut = plain.BumpsOut ∷ []
plain_moves (BumpFront b) = plain.BumpsFront b ∷ []
plain_moves (Marks set) = plain.MarksIn set ∷ []
plain_moves (Unmarks set) = plain.MarksOut set ∷ []

-- the note beside each of them: a cause beside the one by which the key enters or leaves the index
abbrev pub plain_notes : {A : Type 0} → Change A → List (Option Cause)
plain_notes (Enter q n x c i a) = None ∷ n ∷ None ∷ []
plain_notes (Leave q n x c o) = None ∷ n ∷ None ∷ []
plain_notes (Link q c x i a n) = None ∷ None ∷ None ∷ None ∷ []
plain_notes (Unlink q c x o n) = None ∷ None ∷ None ∷ None ∷ []
plain_notes (Revive q n x c i a) = None ∷ n ∷ None ∷ None ∷ []
plain_notes (Free q n x c b) = None ∷ None ∷ n ∷ None ∷ []
plain_notes (Requeue c a x p q) = None ∷ None ∷ []
plain_notes m = None ∷ []

-- the plain move of one that is a single one
abbrev pub first_move : List plain.Move → plain.Move
first_move [] = plain.BumpsBack
first_move (m ∷ ms) = m

-- the move that is played last
abbrev pub plain_move : {A : Type 0} → Change A → plain.Move
plain_move m = first_move (plain_moves m)

-- it is a single move, without a note
abbrev pub IsSingle : {A : Type 0} → Change A → Type 0
IsSingle m = (plain_moves m ≡ plain_move m ∷ []) × (plain_notes m ≡ None ∷ [])
