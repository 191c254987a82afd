-- What is told of keys, as lines of JSON.
-- Rule of this project: an object a line. Names stand in this order, and what is missing is null.
use Rattle.std.specs.Prelude.{ℕ, Bool, true, false, List, [], ◌∷◌, ◌++◌, Option, Some, None, decimal, codes, cond, length, ◌==◌}
use Rattle.json.specs.Token.{Token, begin_object, end_object, begin_array, end_array, key, string, number, null}
use Rattle.rev_watch.specs.declared.event.Timestamp.{Timestamp}
pub use Rattle.rev_pushers.specs.Joins.{behind}
use Rattle.rev_life.specs.Leaving.{PlainLeaving}
use Rattle.rev_life.specs.Lives.{PlainCulprit, PlainLeft, PlainLife, PlainEnded, plain_life, plain_ended, lived, idle}
use Rattle.rev_pushers.specs.Parts.{key_tokens, connection_token, class_token, seconds_token, time_token, with_line}
use Rattle.rev_pushers.specs.Pushed.{PlainPushed}
use Rattle.rev_pushers.specs.PushedLines.{with_pushed}
use Rattle.rev_pushers.specs.Times.{time_text, seconds_text}
use Rattle.rev_evidence.specs.Words.{reason_word, evidence_word}
use Rattle.rev_life.specs.Words.{queue_word}
use Rattle.rev_life.specs.declared.life.Ended.{Ended}
use Rattle.rev_life.specs.declared.life.KeyLives.{KeyLives}
use Rattle.rev_life.specs.declared.life.Life.{Life}
use Rattle.rev_pushers.specs.declared.stored.Stored.{Stored}
use Rattle.rev_life.specs.declared.life.Moved.{Moved}

-- which step pushed a key out
abbrev pub culprit_tokens : Option PlainCulprit → List Token
culprit_tokens None = key (codes "culprit") ∷ null ∷ []
culprit_tokens (Some c) =
    key (codes "culprit") ∷ begin_object ∷ key (codes "key")
    ∷ (key_tokens c.key ++ key (codes "connection") ∷ connection_token c.connection ∷ key (codes "step") ∷ number (decimal c.step) ∷ end_object ∷ [])

-- ---- a key that left

abbrev pub loss_tokens : PlainLeaving → List Token
loss_tokens l =
    begin_object ∷ key (codes "ts") ∷ number (time_text l.time) ∷ key (codes "step") ∷ number (decimal l.step) ∷ key (codes "key")
    ∷ (key_tokens l.key ++ key (codes "class") ∷ class_token l.class ∷ key (codes "cause") ∷ string (reason_word l.verdict.reason)
    ∷ key (codes "evidence") ∷ string (evidence_word l.verdict.evidence) ∷ [])

-- the parts of its object
abbrev pub leaving_parts : PlainLeaving → List (List Token)
leaving_parts l = loss_tokens l ∷ culprit_tokens l.culprit ∷ (end_object ∷ []) ∷ []

-- ---- a life

-- the key, and which of its lives it is
abbrev pub front_tokens : List ℕ → ℕ → List Token
front_tokens k n = begin_object ∷ key (codes "key") ∷ (key_tokens k ++ key (codes "life") ∷ number (decimal n) ∷ [])

-- the store that it began with
abbrev pub store_tokens : Stored → List Token
store_tokens s =
    key (codes "stored") ∷ begin_object ∷ key (codes "ts") ∷ number (time_text s.time) ∷ key (codes "step") ∷ number (decimal s.step)
    ∷ key (codes "class") ∷ number (decimal s.class) ∷ key (codes "connection") ∷ connection_token s.connection ∷ end_object ∷ []

-- the same where the log shows it
abbrev pub stored_tokens : Stored → (logged : Bool) → List Token
stored_tokens s true = store_tokens s
stored_tokens s false = key (codes "stored") ∷ null ∷ []

-- how often the key was found, and the begin of its moves
abbrev pub hits_tokens : ℕ → List Token
hits_tokens n = key (codes "hits") ∷ number (decimal n) ∷ key (codes "moves") ∷ begin_array ∷ []

abbrev pub move_tokens : Moved → List Token
move_tokens m =
    begin_object ∷ key (codes "ts") ∷ number (time_text m.time) ∷ key (codes "step") ∷ number (decimal m.step)
    ∷ key (codes "from") ∷ string (queue_word m.from) ∷ key (codes "to") ∷ string (queue_word m.to) ∷ end_object ∷ []

abbrev pub moves_tokens : List Moved → List Token
moves_tokens [] = []
moves_tokens (m ∷ ms) = move_tokens m ++ moves_tokens ms

-- the parts of its object up to its end
abbrev pub life_parts : List ℕ → PlainLife → List (List Token)
life_parts k l = front_tokens k l.number ∷ stored_tokens l.stored l.stored.logged ∷ hits_tokens l.hits ∷ moves_tokens l.moves ∷ (end_array ∷ []) ∷ []

-- how it ended, but for the step that pushed the key out
abbrev pub end_tokens : PlainLeft → List Token
end_tokens l =
    key (codes "left") ∷ begin_object ∷ key (codes "ts") ∷ number (time_text l.time) ∷ key (codes "step") ∷ number (decimal l.step)
    ∷ key (codes "cause") ∷ string (reason_word l.verdict.reason) ∷ key (codes "evidence") ∷ string (evidence_word l.verdict.evidence)
    ∷ key (codes "after") ∷ time_token l.after ∷ key (codes "before") ∷ time_token l.before ∷ []

-- tokens with how it ended and who pushed the key out behind them
abbrev pub with_left : List Token → PlainLeft → Option PlainPushed → List Token
with_left old l p = with_pushed (behind old (end_tokens l ∷ culprit_tokens l.culprit ∷ [])) p ++ end_object ∷ []

-- it has not ended
abbrev pub held_tokens : List Token
held_tokens = key (codes "left") ∷ null ∷ []

-- how long it lasted, and how long the key was idle
abbrev pub spans_tokens : Option ℕ → ℕ → List Token
spans_tokens lasted quiet = key (codes "lived") ∷ seconds_token lasted ∷ key (codes "idle") ∷ number (seconds_text quiet) ∷ end_object ∷ []

-- the object of a life that has ended, and of one that has not
abbrev pub ended_tokens : List ℕ → PlainEnded → List Token
ended_tokens k e = with_left (behind [] (life_parts k e.life)) e.left e.pushed ++ spans_tokens (lived e.life.stored e.left.time) (idle e.life.used e.left.time)

abbrev pub held_life_tokens : List ℕ → PlainLife → Timestamp → List Token
held_life_tokens k l now = (behind [] (life_parts k l) ++ held_tokens) ++ spans_tokens (lived l.stored now) (idle l.used now)

-- ---- a key that was never held

abbrev pub unheld_tokens : List ℕ → Option Timestamp → List Token
unheld_tokens k None = begin_object ∷ key (codes "key") ∷ (key_tokens k ++ key (codes "life") ∷ null ∷ end_object ∷ [])
unheld_tokens k (Some t) = begin_object ∷ key (codes "key") ∷ (key_tokens k ++ key (codes "life") ∷ number (decimal 0) ∷ key (codes "named") ∷ number (time_text t) ∷ end_object ∷ [])

-- a text with the lines of these lives behind it
abbrev pub with_all_ended : {A : Type 0} → List ℕ → List ℕ → List (Ended A) → List ℕ
with_all_ended old k [] = old
with_all_ended old k (e ∷ es) = with_all_ended (with_line old (ended_tokens k (plain_ended e))) k es

-- what is told of a key behind its lives that have ended
abbrev pub with_rest : {A : Type 0} → List ℕ → KeyLives A → Timestamp → Option (Life A) → List ℕ
with_rest old k now (Some l) = with_line old (held_life_tokens k.key (plain_life l) now)
with_rest old k now None = cond (length k.ended.items == 0) (with_line old (unheld_tokens k.key k.named)) old

-- a text with the lines of a key behind it
abbrev pub with_lives : {A : Type 0} → List ℕ → KeyLives A → Timestamp → List ℕ
with_lives old k now = with_rest (with_all_ended old k.key k.ended.items) k now k.held
