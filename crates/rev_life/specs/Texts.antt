-- What is told of keys, as text for people.
-- Rule of this project: short lines. A key that left is a line; a life is a line, one for its moves where there were any,
-- one for its end, and those that tell who pushed the key out.
use Rattle.std.specs.Prelude.{ℕ, Bool, ◌==◌, if◌then◌else◌, List, [], ◌∷◌, ◌++◌, Option, Some, None, decimal, codes, cond, length, ◌-◌, slice_get}
use Rattle.rev_watch.specs.declared.event.Timestamp.{Timestamp}
pub use Rattle.rev_pushers.specs.Joins.{joined, behind}
use Rattle.rev_life.specs.Leaving.{PlainLeaving}
use Rattle.rev_life.specs.Lives.{PlainCulprit, PlainLeft, PlainLife, PlainEnded, plain_life, plain_ended, lived, idle}
use Rattle.rev_pushers.specs.Pieces.{connection_text, class_text}
use Rattle.rev_pushers.specs.PushedTexts.{with_pushed}
use Rattle.rev_pushers.specs.Times.{time_text, tenths_text}
use Rattle.rev_evidence.specs.Words.{reason_word, evidence_word}
use Rattle.rev_life.specs.Words.{queue_word}
use Rattle.rev_life.specs.declared.life.Ended.{Ended}
use Rattle.rev_life.specs.declared.life.KeyLives.{KeyLives}
use Rattle.rev_life.specs.declared.life.Life.{Life}
use Rattle.rev_pushers.specs.declared.stored.Stored.{Stored}
use Rattle.rev_life.specs.declared.life.Moved.{Moved}

-- a moment
abbrev pub at : Timestamp → List ℕ
at t = 64 ∷ time_text t

-- ---- a key that left

-- which step pushed it out, and the end of the line
abbrev pub pusher_text : Option PlainCulprit → List ℕ
pusher_text None = joined (codes "\n" ∷ [])
pusher_text (Some c) = joined (codes " by " ∷ c.key ∷ codes " connection " ∷ connection_text c.connection ∷ codes " step " ∷ decimal c.step ∷ codes "\n" ∷ [])

-- when, the step, the key, its class, why, and what tells it
abbrev pub loss_text : PlainLeaving → List ℕ
loss_text l =
    joined (at l.time ∷ codes " " ∷ decimal l.step ∷ codes " " ∷ l.key ∷ codes " class " ∷ class_text l.class
    ∷ codes " " ∷ reason_word l.verdict.reason ∷ codes " " ∷ evidence_word l.verdict.evidence ∷ [])

-- the parts of its line
abbrev pub leaving_parts : PlainLeaving → List (List ℕ)
leaving_parts l = loss_text l ∷ pusher_text l.culprit ∷ []

-- ---- a life

-- how it began
abbrev pub front_word : Stored → (over : Bool) → List ℕ
front_word s over = if s.logged then (if over then codes ": stored over the one before " else codes ": stored ") else codes ": held before "

abbrev pub hits_word : ℕ → List ℕ
hits_word n = if n == 1 then codes " hit\n" else codes " hits\n"

-- the store, and how often the key was found
abbrev pub stored_text : List ℕ → PlainLife → List ℕ
stored_text k l =
    joined (k ∷ codes ", life " ∷ decimal l.number ∷ front_word l.stored l.over ∷ at l.stored.time ∷ codes " (step " ∷ decimal l.stored.step
    ∷ codes ", class " ∷ decimal l.stored.class ∷ codes ", connection " ∷ connection_text l.stored.connection ∷ codes "), " ∷ decimal l.hits ∷ hits_word l.hits ∷ [])

abbrev pub times_word : ℕ → List ℕ
times_word n = if n == 1 then codes " time, from " else codes " times, last from "

-- how often the item went to another queue, and the last such move
abbrev pub moved_text : ℕ → Moved → List ℕ
moved_text n m =
    joined (codes "  moved " ∷ decimal n ∷ times_word n ∷ queue_word m.from ∷ codes " to " ∷ queue_word m.to ∷ codes " " ∷ at m.time ∷ codes " (step " ∷ decimal m.step ∷ codes ")\n" ∷ [])

-- the same where there was one
abbrev pub moved_or : ℕ → Option Moved → List ℕ
moved_or n None = []
moved_or n (Some m) = moved_text n m

abbrev pub moves_text : PlainLife → List ℕ
moves_text l = moved_or l.moved (slice_get l.moves (length l.moves - 1))

-- behind which line the key left
abbrev pub after_text : Option Timestamp → List ℕ
after_text None = []
after_text (Some t) = joined (codes "after " ∷ at t ∷ codes ", " ∷ [])

-- when it left, or between which lines
abbrev pub when_parts : Timestamp → (after before : Option Timestamp) → List (List ℕ)
when_parts t after None = joined (at t ∷ []) ∷ []
when_parts t after (Some b) = after_text after ∷ joined (codes "at the latest " ∷ at b ∷ []) ∷ []

-- which step pushed it out
abbrev pub culprit_text : Option PlainCulprit → List ℕ
culprit_text None = []
culprit_text (Some c) = joined (codes ", by set of " ∷ c.key ∷ codes " (connection " ∷ connection_text c.connection ∷ codes ", step " ∷ decimal c.step ∷ codes ")" ∷ [])

-- why, and what tells it
abbrev pub why_text : PlainLeft → List ℕ
why_text l = joined (codes " (step " ∷ decimal l.step ∷ codes "): " ∷ reason_word l.verdict.reason ∷ codes ", " ∷ evidence_word l.verdict.evidence ∷ [])

-- how long the life lasted
abbrev pub lived_text : Option ℕ → List ℕ
lived_text None = []
lived_text (Some n) = joined (codes "lived " ∷ tenths_text n ∷ codes " s, " ∷ [])

-- how long the key was idle
abbrev pub idle_text : ℕ → List ℕ
idle_text n = joined (codes "idle " ∷ tenths_text n ∷ codes " s\n" ∷ [])

-- a text with how a life ended behind it
abbrev pub with_left : List ℕ → PlainLeft → List ℕ
with_left old l = behind (behind (old ++ joined (codes "  left " ∷ [])) (when_parts l.time l.after l.before)) (why_text l ∷ culprit_text l.culprit ∷ [])

-- how long a life lasted up to a moment, and how long the key was idle then
abbrev pub spans_parts : PlainLife → Timestamp → List (List ℕ)
spans_parts l end = joined (codes "; " ∷ []) ∷ lived_text (lived l.stored end) ∷ idle_text (idle l.used end) ∷ []

-- the lines of a life up to its end
abbrev pub life_parts : List ℕ → PlainLife → List (List ℕ)
life_parts k l = stored_text k l ∷ moves_text l ∷ []

-- a text with a life behind it that has ended, and with one that has not ended now
abbrev pub with_ended : List ℕ → List ℕ → PlainEnded → List ℕ
with_ended old k e = with_pushed (behind (with_left (behind old (life_parts k e.life)) e.left) (spans_parts e.life e.left.time)) e.life.stored e.pushed

abbrev pub with_held : List ℕ → List ℕ → PlainLife → Timestamp → List ℕ
with_held old k l now = behind (behind old (life_parts k l) ++ joined (codes "  held at the end " ∷ at now ∷ [])) (spans_parts l now)

-- a key that was never held
abbrev pub unheld_text : List ℕ → Option Timestamp → List ℕ
unheld_text k None = joined (k ∷ codes ": no line of the log names it\n" ∷ [])
unheld_text k (Some t) = joined (k ∷ codes ": never held, last named " ∷ at t ∷ codes "\n" ∷ [])

-- a text with these lives behind it
abbrev pub with_all_ended : {A : Type 0} → List ℕ → List ℕ → List (Ended A) → List ℕ
with_all_ended old k [] = old
with_all_ended old k (e ∷ es) = with_all_ended (with_ended old k (plain_ended e)) k es

-- what is told of a key behind its lives that have ended
abbrev pub with_rest : {A : Type 0} → List ℕ → KeyLives A → Timestamp → Option (Life A) → List ℕ
with_rest old k now (Some l) = with_held old k.key (plain_life l) now
with_rest old k now None = cond (length k.ended.items == 0) (old ++ unheld_text k.key k.named) old

-- a text with the lives of a key behind it
abbrev pub with_lives : {A : Type 0} → List ℕ → KeyLives A → Timestamp → List ℕ
with_lives old k now = with_rest (with_all_ended old k.key k.ended.items) k now k.held
