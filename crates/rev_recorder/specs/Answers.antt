-- What each call of a recorder answers and leaves.
-- Rule of this project: each call is logged where it was decided, and its receipt enters the hand.
use Rattle.std.specs.Prelude.{◌≡◌, ℕ, ◌+◌, ◌<◌, not, false, [], ◌∷◌, ◌++◌, length, Option, Some, None}
use Rattle.rev_model.specs.Actor.{Step}
use Rattle.rev_model.specs.declared.Outcome.{Outcome}
use Rattle.rev_model.specs.declared.Outcome.TheVariants.{Okay}
use Rattle.rev_undotree.specs.declared.session.NodeId.{NodeId}
use Rattle.rev_tree.specs.Rows.{row}
use Rattle.rev_tree.specs.Finds.{is_held}
use Rattle.rev_tree.specs.Machine.{is_continued, nesting_below}
use Rattle.rev_tree.specs.Positions.{SessionState}
use Rattle.rev_recorder.specs.declared.hand.Call.{Call}
use Rattle.rev_recorder.specs.declared.hand.Call.TheVariants.{Play, Go, Many, Deep, Lost}
use Rattle.rev_recorder.specs.declared.hand.Receipt.{Receipt}
use Rattle.rev_recorder.specs.declared.recorder.RecordFault.{RecordFault}
use Rattle.rev_recorder.specs.declared.recorder.RecordFault.TheVariants.{TooManyNodes, TooDeep, Memory, StrangerHand, NoNode}
use Rattle.rev_recorder.specs.Hands.{PlainHand, with_entry}
use Rattle.rev_recorder.specs.Log.{PlainRecording}

-- the node of a number
abbrev pub node : ℕ → NodeId
node n = record { 0 = n }

-- the call is a play that was not refused
abbrev pub IsPlay : Call → Type 0
IsPlay (Play n) = Unit {0}
IsPlay (Go n) = ⊥
IsPlay Many = ⊥
IsPlay Deep = ⊥
IsPlay (Lost n) = ⊥

-- the receipt of a call that stands at the place
abbrev pub receipt_at : ℕ → Call → Outcome → Receipt
receipt_at place call outcome = record { place = place; call = call; outcome = outcome }

-- the receipt of a call that played no step
abbrev pub okay_at : ℕ → Call → Receipt
okay_at place call = receipt_at place call Okay

-- a refused call was logged at some place, and entered the hand
abbrev pub Enters : PlainHand → Call → PlainHand → Type 0
Enters old call new = (place : ℕ) × (new ≡ with_entry old (okay_at place call) None)

-- what a refused play leaves in the hand: a refusal of the tree's enters it, any other leaves it as it was
abbrev pub LeftByPlay : PlainHand → RecordFault → PlainHand → Type 0
LeftByPlay old TooManyNodes new = Enters old Many new
LeftByPlay old TooDeep new = Enters old Deep new
LeftByPlay old Memory new = new ≡ old
LeftByPlay old StrangerHand new = new ≡ old
LeftByPlay old NoNode new = ⊥

-- what a refused go leaves in the hand, by the same rule
abbrev pub LeftByGo : PlainHand → NodeId → RecordFault → PlainHand → Type 0
LeftByGo old n TooManyNodes new = ⊥
LeftByGo old n TooDeep new = ⊥
LeftByGo old n Memory new = new ≡ old
LeftByGo old n StrangerHand new = new ≡ old
LeftByGo old n NoNode new = Enters old (Lost n) new

-- the session after a play: one row more, whose node is the current one
abbrev pub played : SessionState → Step → SessionState
played session step = record {
  root = session.root;
  rows = session.rows ++ Some (row session.current step (not (is_continued session.rows session.current))) ∷ [];
  current = length session.rows + 1;
}

-- the session after a go
abbrev pub moved : SessionState → ℕ → SessionState
moved session n = record { root = session.root; rows = session.rows; current = n }

-- what lies under the lock after a call that led to the session
abbrev pub logged : PlainRecording → SessionState → ℕ → Call → PlainRecording
logged old session player call = record {
  session = session;
  log = old.log ++ record { player = player; call = call } ∷ [];
  opening = old.opening;
}

-- under the lock, a play was refused, for this cause and with this receipt: the tree's refusals are logged, and come
-- just where the tree refuses; nothing is changed where memory ran out
abbrev pub PlayRefusedAs : PlainRecording → ℕ → RecordFault → Option Receipt → PlainRecording → Type 0
PlayRefusedAs old player TooManyNodes receipt new =
    (length old.session.rows ≡ 1048576) × (receipt ≡ Some (okay_at (length old.log) Many)) × (new ≡ logged old old.session player Many)
PlayRefusedAs old player TooDeep receipt new =
    (length old.session.rows < 1048576) × (64 < nesting_below old.session.rows old.session.current) × (receipt ≡ Some (okay_at (length old.log) Deep)) × (new ≡ logged old old.session player Deep)
PlayRefusedAs old player Memory receipt new = (receipt ≡ None) × (new ≡ old)
PlayRefusedAs old player StrangerHand receipt new = ⊥
PlayRefusedAs old player NoNode receipt new = ⊥

-- under the lock, a go was refused, by the same rule
abbrev pub GoRefusedAs : PlainRecording → ℕ → NodeId → RecordFault → Option Receipt → PlainRecording → Type 0
GoRefusedAs old player n TooManyNodes receipt new = ⊥
GoRefusedAs old player n TooDeep receipt new = ⊥
GoRefusedAs old player n Memory receipt new = (receipt ≡ None) × (new ≡ old)
GoRefusedAs old player n StrangerHand receipt new = ⊥
GoRefusedAs old player n NoNode receipt new =
    (is_held old.session.rows n.0 ≡ false) × (receipt ≡ Some (okay_at (length old.log) (Lost n))) × (new ≡ logged old old.session player (Lost n))
