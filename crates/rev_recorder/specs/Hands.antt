-- The entries of a hand, and when hands and a log agree.
-- Rule of this project: what a player was told is what stands in the log and in the tree.
use Rattle.std.specs.Prelude.{◌≡◌, ℕ, ◌+◌, ◌<◌, ◌==◌, ◌&&◌, Bool, true, false, not, cond, List, [], ◌∷◌, ◌++◌, length, map, take, All, sum_by, slice_get, Option, Some}
use Rattle.std.specs.List.{list_any}
use Rattle.rev_model.specs.Actor.{Step}
use Rattle.rev_model.specs.declared.Outcome.{Outcome}
use Rattle.rev_model.specs.declared.Outcome.TheVariants.{Okay}
use Rattle.rev_tree.specs.Steps.{outcome_of}
use Rattle.rev_tree.specs.Rows.{Row, row_of, at}
use Rattle.rev_tree.specs.Positions.{SessionState}
use Rattle.rev_recorder.specs.declared.hand.Call.{Call}
use Rattle.rev_recorder.specs.declared.hand.Call.TheVariants.{Play, Go, Many, Deep, Lost}
use Rattle.rev_recorder.specs.declared.hand.LogRow.{LogRow}
use Rattle.rev_recorder.specs.declared.hand.Receipt.{Receipt}

-- a recorder as plain data: whose hands it takes, and how many players there are
pub record PlainRecorder : Type 0 where
  pub seal : ℕ
  pub players : ℕ

-- an entry as plain data: the receipt of a call, and the step that was handed in for a play
pub record PlainEntry : Type 0 where
  pub receipt : Receipt
  pub step : Option Step

-- a hand as plain data
pub record PlainHand : Type 0 where
  pub player : ℕ
  pub seal : ℕ
  pub entries : List PlainEntry

-- the hand with one entry more
abbrev pub with_entry : PlainHand → Receipt → Option Step → PlainHand
with_entry hand receipt step = record {
  player = hand.player;
  seal = hand.seal;
  entries = hand.entries ++ record { receipt = receipt; step = step } ∷ [];
}

-- the calls of a player in a log whose first row has the given place, each with its place
abbrev pub calls_from : ℕ → ℕ → List LogRow → List (ℕ × Call)
calls_from player place [] = []
calls_from player place (row ∷ log) = cond (row.player == player) ((place, row.call) ∷ calls_from player (place + 1) log) (calls_from player (place + 1) log)

-- the calls of a player in the log, each with its place, from 0
abbrev pub calls_of : ℕ → List LogRow → List (ℕ × Call)
calls_of player log = calls_from player 0 log

-- the place and the call that an entry tells of
abbrev pub told : PlainEntry → ℕ × Call
told entry = (entry.receipt.place, entry.receipt.call)

-- what an entry says of its call is true: for a play, the node's row has the step that was handed in, and the outcome
-- is what that step gives at the state of the node's parent; for any other call the outcome is Okay
abbrev pub IsTrueOf : SessionState → Call → Option Step → Outcome → Type 0
IsTrueOf session (Play n) copy outcome =
    (row : Row) × (row_of session.rows n.0 ≡ Some row) × (copy ≡ Some row.step) × (outcome ≡ outcome_of (at session.root session.rows row.parent) row.step)
IsTrueOf session (Go n) copy outcome = outcome ≡ Okay
IsTrueOf session Many copy outcome = outcome ≡ Okay
IsTrueOf session Deep copy outcome = outcome ≡ Okay
IsTrueOf session (Lost n) copy outcome = outcome ≡ Okay

-- the entry is true of the session
abbrev pub IsTrueEntry : SessionState → PlainEntry → Type 0
IsTrueEntry session entry = IsTrueOf session entry.receipt.call entry.step entry.receipt.outcome

-- the hand's entries are, in order and each once, the log's of its player, and each is true of the session
pub record Agrees (log : List LogRow) (session : SessionState) (hand : PlainHand) : Type 0 where
  pub calls : map told hand.entries ≡ calls_of hand.player log
  pub entries : All (IsTrueEntry session) hand.entries

-- the log's row at the place is an entry of one of the hands, which is its player's
abbrev pub IsHeldBy : List PlainHand → ℕ → LogRow → Type 0
IsHeldBy hands place row =
    (k : ℕ) × (hand : PlainHand) × (j : ℕ) × (entry : PlainEntry) × (slice_get hands k ≡ Some hand) × (hand.player ≡ row.player) × (slice_get hand.entries j ≡ Some entry) × (told entry ≡ (place, row.call))

-- hands, log and session agree: each hand does, each row of the log is some hand's entry, and the log is as long as the
-- entries of all hands together
pub record Settles (hands : List PlainHand) (log : List LogRow) (session : SessionState) : Type 0 where
  pub agree : All (Agrees log session) hands
  pub held : (place : ℕ) (row : LogRow) → slice_get log place ≡ Some row → IsHeldBy hands place row
  pub count : length log ≡ sum_by (λ hand. length hand.entries) hands

-- some hand is this player's and has this seal
abbrev pub has_hand : ℕ → ℕ → List PlainHand → Bool
has_hand seal player hands = list_any (λ hand. (hand.player == player) && (hand.seal == seal)) hands

-- a player has no hand of the seal
abbrev pub LacksHand : ℕ → ℕ → List PlainHand → Type 0
LacksHand seal players hands = (player : ℕ) × (player < players) × (has_hand seal player hands ≡ false)

-- each player has a hand of the seal
abbrev pub HasHands : ℕ → ℕ → List PlainHand → Type 0
HasHands seal players hands = (player : ℕ) → player < players → has_hand seal player hands ≡ true

-- some hand has another seal
abbrev pub has_stranger : ℕ → List PlainHand → Bool
has_stranger seal hands = list_any (λ hand. not (hand.seal == seal)) hands

-- some hand is this player's
abbrev pub has_player : ℕ → List PlainHand → Bool
has_player player hands = list_any (λ hand. hand.player == player) hands

-- each row of the log has a hand of its player
abbrev pub HasPlayers : List PlainHand → List LogRow → Type 0
HasPlayers hands log = (place : ℕ) (row : LogRow) → slice_get log place ≡ Some row → has_player row.player hands ≡ true

-- some row of the log has no hand of its player
abbrev pub LacksPlayer : List PlainHand → List LogRow → Type 0
LacksPlayer hands log = (place : ℕ) × (row : LogRow) × (slice_get log place ≡ Some row) × (has_player row.player hands ≡ false)

-- no hand with entries is of a player whom an earlier hand is of
abbrev pub HasOneEach : List PlainHand → Type 0
HasOneEach hands = (k : ℕ) (hand : PlainHand) → slice_get hands k ≡ Some hand → has_player hand.player (take k hands) ≡ true → hand.entries ≡ []

-- some hand with entries is of a player whom an earlier hand is of
abbrev pub IsSecond : List PlainHand → Type 0
IsSecond hands = (k : ℕ) × (hand : PlainHand) × (slice_get hands k ≡ Some hand) × (has_player hand.player (take k hands) ≡ true) × (0 < length hand.entries)
