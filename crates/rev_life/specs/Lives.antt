-- The lives of a key, and what becomes of them.
-- Rule of this project: a store begins a life, and a look-up that finds the key or a move is part of it. It ends when
-- the key leaves, or when new data are stored in its place.
use Rattle.std.specs.Prelude.{ℕ, ℤ, ◌+◌, ◌-◌, ◌^◌, ◌==◌, nat_le, min, Bool, true, false, cond, List, [], ◌∷◌, ◌++◌, length, drop, take, map, slice_get, not, Option, Some, None}
use Rattle.std.specs.Option.{option_map}
use Rattle.rev_watch.specs.declared.event.Timestamp.{Timestamp}
use Rattle.rev_pushers.specs.Pushed.{PlainPushed, plain_pushed}
use Rattle.rev_pushers.specs.Times.{between}
use Rattle.rev_evidence.specs.Verdicts.{is_logged}
use Rattle.rev_pushers.specs.declared.stored.Stored.{Stored}
use Rattle.rev_life.specs.declared.life.Moved.{Moved}
use Rattle.rev_life.specs.declared.life.Culprit.{Culprit}
use Rattle.rev_life.specs.declared.life.Left.{Left}
use Rattle.rev_life.specs.declared.life.Life.{Life}
use Rattle.rev_life.specs.declared.life.Ended.{Ended}
use Rattle.rev_life.specs.declared.life.KeyLives.{KeyLives}
use Rattle.rev_evidence.specs.declared.verdict.Reason.{Reason}
use Rattle.rev_evidence.specs.declared.verdict.Reason.TheVariants as reasons
use Rattle.rev_evidence.specs.declared.verdict.Verdict.{Verdict}

-- ---- lives without an allocator

-- the step that pushed a key out: its key, its connection and its number
pub record PlainCulprit : Type 0 where
  pub key : List ℕ
  pub connection : Option ℤ
  pub step : ℕ

pub record PlainLeft : Type 0 where
  pub time : Timestamp
  pub step : ℕ
  pub verdict : Verdict
  pub after : Option Timestamp
  pub before : Option Timestamp
  pub culprit : Option PlainCulprit

pub record PlainLife : Type 0 where
  pub number : ℕ
  pub stored : Stored
  pub over : Bool
  pub hits : ℕ
  pub used : Timestamp
  pub moves : List Moved
  pub moved : ℕ

pub record PlainEnded : Type 0 where
  pub life : PlainLife
  pub left : PlainLeft
  pub pushed : Option PlainPushed

pub record PlainKey : Type 0 where
  pub key : List ℕ
  pub named : Option Timestamp
  pub count : ℕ
  pub ended : List PlainEnded
  pub held : Option PlainLife

abbrev pub plain_culprit : {A : Type 0} → Culprit A → PlainCulprit
plain_culprit c = record { key = c.key; connection = c.connection; step = c.step }

abbrev pub plain_left : {A : Type 0} → Left A → PlainLeft
plain_left l = record { time = l.time; step = l.step; verdict = l.verdict; after = l.after; before = l.before; culprit = option_map plain_culprit l.culprit }

abbrev pub plain_life : {A : Type 0} → Life A → PlainLife
plain_life l = record { number = l.number; stored = l.stored; over = l.over; hits = l.hits; used = l.used; moves = l.moves.items; moved = l.moved }

abbrev pub plain_ended : {A : Type 0} → Ended A → PlainEnded
plain_ended e = record { life = plain_life e.life; left = plain_left e.left; pushed = option_map plain_pushed e.pushed }

abbrev pub plain_key : {A : Type 0} → KeyLives A → PlainKey
plain_key k = record { key = k.key; named = k.named; count = k.count; ended = map plain_ended k.ended.items; held = option_map plain_life k.held }

-- ---- what becomes of a life

-- one more, which stays at the most that 64 bits hold
abbrev pub one_more : ℕ → ℕ
one_more n = min (n + 1) (2 ^ 64 - 1)

-- a life that begins
abbrev pub new_life : ℕ → Stored → Bool → PlainLife
new_life n s over = record { number = n; stored = s; over = over; hits = 0; used = s.time; moves = []; moved = 0 }

-- a look-up found the key
abbrev pub hit_life : Timestamp → PlainLife → PlainLife
hit_life t l = record l { hits = one_more l.hits; used = t }

-- the last 63 of so many at most
abbrev pub kept : List Moved → List Moved
kept ms = cond (nat_le 64 (length ms)) (drop 1 ms) ms

-- the item went to another queue: the last 64 moves are kept
abbrev pub moved_life : Moved → PlainLife → PlainLife
moved_life m l = record l { moves = kept l.moves ++ m ∷ []; moved = one_more l.moved }

-- how long a life lasted up to a moment, where the log shows its store
abbrev pub lived : Stored → Timestamp → Option ℕ
lived s end = cond s.logged (Some (between s.time end)) None

-- how long a key was neither found nor stored up to a moment
abbrev pub idle : Timestamp → Timestamp → ℕ
idle used end = between used end

-- ---- what becomes of a key

-- nothing is known yet
abbrev pub unknown : List ℕ → PlainKey
unknown k = record { key = k; named = None; count = 0; ended = []; held = None }

-- the life, where there is one, ends
abbrev pub closed : PlainLeft → PlainKey → Option PlainLife → PlainKey
closed left k None = k
closed left k (Some l) = record k { ended = k.ended ++ record { life = l; left = left; pushed = None } ∷ []; held = None }

-- the life that has not ended ends
abbrev pub ended_by : PlainLeft → PlainKey → PlainKey
ended_by left k = closed left k k.held

-- a life begins; with `last` those that have ended are let go
abbrev pub begun : Stored → (over last : Bool) → PlainKey → PlainKey
begun s over last k = record k { count = one_more k.count; ended = cond last [] k.ended; held = Some (new_life (one_more k.count) s over) }

-- the last life, where none has begun since
abbrev pub last_ended : PlainKey → Option PlainLife → Option PlainEnded
last_ended k None = slice_get k.ended (length k.ended - 1)
last_ended k (Some l) = None

-- it ended by what the log does not say
abbrev pub is_unlogged : Option PlainEnded → Bool
is_unlogged None = false
is_unlogged (Some e) = not (is_logged e.left.verdict.evidence)

abbrev pub is_doubtful : PlainKey → Bool
is_doubtful k = is_unlogged (last_ended k k.held)

-- it goes on
abbrev pub gone_on : PlainKey → Option PlainEnded → PlainKey
gone_on k None = k
gone_on k (Some e) = record k { ended = take (length k.ended - 1) k.ended; held = Some e.life }

-- it goes on, where it ended by what the log does not say
abbrev pub reopened : PlainKey → PlainKey
reopened k = cond (is_doubtful k) (gone_on k (slice_get k.ended (length k.ended - 1))) k

-- a key that left so was evicted
abbrev pub is_eviction : Reason → Bool
is_eviction reasons.Evicted = true
is_eviction reasons.EvictedByMover = true
is_eviction r = false

-- a key that left so was evicted, and it is not known yet who pushed it out
abbrev pub is_open : Option PlainPushed → Reason → Bool
is_open None r = is_eviction r
is_open (Some p) r = false

-- the same of a life of this number
abbrev pub wants : ℕ → PlainEnded → Bool
wants n e = cond (e.life.number == n) (is_open e.pushed e.left.verdict.reason) false

-- the same of the last life that has ended
abbrev pub wants_last : ℕ → Option PlainEnded → Bool
wants_last n None = false
wants_last n (Some e) = wants n e

abbrev pub wants_pushed : ℕ → PlainKey → Bool
wants_pushed n k = wants_last n (slice_get k.ended (length k.ended - 1))

-- it is known who pushed the key out at the end of that life
abbrev pub noted_of : PlainPushed → PlainKey → Option PlainEnded → PlainKey
noted_of p k None = k
noted_of p k (Some e) = record k { ended = take (length k.ended - 1) k.ended ++ record e { pushed = Some p } ∷ [] }

abbrev pub noted : PlainPushed → PlainKey → PlainKey
noted p k = noted_of p k (slice_get k.ended (length k.ended - 1))

-- a look-up found the key
abbrev pub hit : Timestamp → PlainKey → PlainKey
hit t k = record k { held = option_map (hit_life t) k.held }

-- the item went to another queue
abbrev pub shifted : Moved → PlainKey → PlainKey
shifted m k = record k { held = option_map (moved_life m) k.held }
