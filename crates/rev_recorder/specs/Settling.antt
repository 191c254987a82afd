-- What `open` and `settle` answer.
-- Rule of this project: a recording settles only where hands, log and session agree.
use Rattle.std.specs.Prelude.{◌≡◌, ℕ, ◌<◌, true, false, List, [], length, slice_index_or, Result, Ok, Err}
use Rattle.rev_tree.specs.Positions.{SessionState}
use Rattle.rev_recorder.specs.declared.hand.LogRow.{LogRow}
use Rattle.rev_recorder.specs.declared.settle.Settled.{Settled}
use Rattle.rev_recorder.specs.declared.settle.SettleFault.{SettleFault}
use Rattle.rev_recorder.specs.declared.settle.SettleFault.TheVariants.{MissingHand, StrangerHand, Differs}
use Rattle.rev_recorder.specs.Log.{Opening, IsLegal}
use Rattle.rev_recorder.specs.Hands.{PlainHand, PlainRecorder, Settles, LacksHand, HasHands, has_stranger}

-- one hand for each player, in order, without entries
pub record AreNew (seal players : ℕ) (hands : List PlainHand) : Type 0 where
  pub count : length hands ≡ players
  pub each : (k : ℕ) (d : PlainHand) → k < players → slice_index_or hands k d ≡ record { player = k; seal = seal; entries = [] }

-- the log is legal for the session, from some opening
abbrev pub IsLegalLog : List LogRow → SessionState → Type 0
IsLegalLog log session = (opening : Opening) × IsLegal opening log session

-- session and log of a recorder whose hands all came back, and no others
abbrev pub IsFinished : PlainRecorder → List PlainHand → Settled → Type 0
IsFinished recorder hands settled =
    HasHands recorder.seal recorder.players hands × (has_stranger recorder.seal hands ≡ false) × IsLegalLog settled.log.items settled.session

-- what a refusal to settle tells, and what it hands back
abbrev pub TellsFault : PlainRecorder → List PlainHand → SettleFault → Type 0
TellsFault recorder hands (MissingHand same given) = (same ≡ recorder) × (given.items ≡ hands) × LacksHand recorder.seal recorder.players hands
TellsFault recorder hands (StrangerHand same given) =
    (same ≡ recorder) × (given.items ≡ hands) × HasHands recorder.seal recorder.players hands × (has_stranger recorder.seal hands ≡ true)
TellsFault recorder hands (Differs player place settled given) =
    (given.items ≡ hands) × IsFinished recorder hands settled × (Settles hands settled.log.items settled.session → ⊥)

-- a recording settles where the hands, the log and the session agree, and else is refused with its fault
abbrev pub SettleGives : PlainRecorder → List PlainHand → Result Settled SettleFault → Type 0
SettleGives recorder hands (Ok settled) = IsFinished recorder hands settled × Settles hands settled.log.items settled.session
SettleGives recorder hands (Err fault) = TellsFault recorder hands fault
