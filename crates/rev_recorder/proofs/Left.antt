-- What a refusal that was logged under the lock leaves in the hand.
use Rattle.std.proofs.Common.{◌≡◌, ℕ, List, [], ◌∷◌, ◌++◌, length, Some, None, ap, ◌∙◌}
use Rattle.rev_undotree.specs.declared.session.NodeId.{NodeId}
use Rattle.rev_recorder.specs.declared.hand.Receipt.{Receipt}
use Rattle.rev_recorder.specs.declared.hand.Call.{Call}
use Rattle.rev_recorder.specs.declared.hand.Call.TheVariants.{Many, Deep, Lost}
use Rattle.rev_recorder.specs.declared.recorder.RecordFault.{RecordFault}
use Rattle.rev_recorder.specs.declared.recorder.RecordFault.TheVariants.{TooManyNodes, TooDeep, Memory, StrangerHand, NoNode}
use Rattle.rev_recorder.specs.Hands.{PlainEntry, PlainHand, with_entry}
use Rattle.rev_recorder.specs.Log.{PlainRecording}
use Rattle.rev_recorder.specs.Answers.{PlayRefusedAs, GoRefusedAs, LeftByPlay, LeftByGo, Enters, okay_at}

-- a receipt that was entered
enters : (hand hand' : PlainHand) (receipt : Receipt) (place : ℕ) (call : Call) → Some receipt ≡ Some (okay_at place call) → hand' ≡ with_entry hand receipt None → Enters hand call hand'
enters hand hand' receipt place call told is =
    let same : receipt ≡ okay_at place call = cc in
    (place, is ∙ ap (λ r. with_entry hand r None) same)

-- no receipt is there and missing at once
none-some : (receipt : Receipt) → Some receipt ≡ None → ⊥
none-some receipt e = cc

-- a hand of these parts
abbrev pub hand_of : ℕ → ℕ → List PlainEntry → PlainHand
hand_of player seal entries = record { player = player; seal = seal; entries = entries }

-- of a play
pub left-by-play : (old new : PlainRecording) (player seal : ℕ) (entries entries' : List PlainEntry) (fault : RecordFault) (receipt : Receipt) → PlayRefusedAs old player fault (Some receipt) new → entries' ≡ entries ++ record { receipt = receipt; step = None } ∷ [] → LeftByPlay (hand_of player seal entries) fault (hand_of player seal entries')
left-by-play old new player seal entries entries' TooManyNodes receipt h is = enters (hand_of player seal entries) (hand_of player seal entries') receipt (length old.log) Many h.1 (ap (hand_of player seal) is)
left-by-play old new player seal entries entries' TooDeep receipt h is = enters (hand_of player seal entries) (hand_of player seal entries') receipt (length old.log) Deep h.2 (ap (hand_of player seal) is)
left-by-play old new player seal entries entries' Memory receipt h is = absurd (none-some receipt h.0)
left-by-play old new player seal entries entries' StrangerHand receipt h is = absurd h
left-by-play old new player seal entries entries' NoNode receipt h is = absurd h

-- of a go
pub left-by-go : (old new : PlainRecording) (player seal : ℕ) (entries entries' : List PlainEntry) (n : NodeId) (fault : RecordFault) (receipt : Receipt) → GoRefusedAs old player n fault (Some receipt) new → entries' ≡ entries ++ record { receipt = receipt; step = None } ∷ [] → LeftByGo (hand_of player seal entries) n fault (hand_of player seal entries')
left-by-go old new player seal entries entries' n TooManyNodes receipt h is = absurd h
left-by-go old new player seal entries entries' n TooDeep receipt h is = absurd h
left-by-go old new player seal entries entries' n Memory receipt h is = absurd (none-some receipt h.0)
left-by-go old new player seal entries entries' n StrangerHand receipt h is = absurd h
left-by-go old new player seal entries entries' n NoNode receipt h is = enters (hand_of player seal entries) (hand_of player seal entries') receipt (length old.log) (Lost n) h.1 (ap (hand_of player seal) is)
