-- The text of a recording.
-- Rule of this project: a row for each play, and a line for each player that stopped.
use Rattle.std.specs.Prelude.{ℕ, suc, List, [], ◌∷◌, ◌++◌, Option, None, Some, Result, Ok, Err, codes, decimal}
use Rattle.rev_model.specs.Actor.{Step}
use Rattle.rev_model.specs.declared.Outcome.{Outcome}
use Rattle.rev_tree.specs.Steps.{outcome_of}
use Rattle.rev_tree.specs.Rows.{Row, at, row_of}
use Rattle.rev_tree.specs.Positions.{SessionState}
use Rattle.rev_recorder.specs.declared.hand.Call.{Call}
use Rattle.rev_recorder.specs.declared.hand.Call.TheVariants as call
use Rattle.rev_recorder.specs.declared.hand.LogRow.{LogRow}
use Rattle.rev_recorder.specs.declared.recorder.RecordFault.{RecordFault}
use Rattle.rev_recorder.specs.declared.recorder.RecordFault.TheVariants.{TooManyNodes, TooDeep, Memory, StrangerHand, NoNode}
use Rattle.rev_recorder.specs.Hands.{PlainHand}
use Rattle.rev_texts.specs.Texts.{output}
use Rattle.rev_texts.specs.Words.{step_word, outcome_word}

-- the row of a play: its place in the log, its player, its node, its step and what that was answered
abbrev pub play_text : ℕ → ℕ → ℕ → Step → Outcome → List ℕ
play_text place player node step outcome =
    output (decimal place ++ codes " " ++ decimal player ++ codes " play " ++ decimal node ++ codes " " ++ step_word step ++ codes " " ++ outcome_word outcome)

-- the row of a node that the session has
abbrev pub node_text : SessionState → ℕ → ℕ → ℕ → Option Row → List ℕ
node_text m place player node None = []
node_text m place player node (Some r) = play_text place player node r.step (outcome_of (at m.root m.rows r.parent) r.step)

-- the row of a call; only a play has one
abbrev pub call_text : SessionState → ℕ → ℕ → Call → List ℕ
call_text m place player (call.Play n) = node_text m place player n.0 (row_of m.rows n.0)
call_text m place player (call.Go n) = []
call_text m place player call.Many = []
call_text m place player call.Deep = []
call_text m place player (call.Lost n) = []

-- the rows of a log whose first call has the given place
abbrev pub rows_text : SessionState → ℕ → List LogRow → List ℕ
rows_text m place [] = []
rows_text m place (row ∷ log) = call_text m place row.player row.call ++ rows_text m (suc place) log

-- the line of a player that a limit stopped
abbrev pub stopped_text : ℕ → List ℕ → List ℕ
stopped_text player limit = output (codes "STOPPED " ++ decimal player ++ limit)

-- how a player's script ended: only a limit of the tree has a line
abbrev pub end_text : ℕ → Result (Unit {0}) RecordFault → List ℕ
end_text player (Ok done) = []
end_text player (Err TooManyNodes) = stopped_text player (codes " too many nodes")
end_text player (Err TooDeep) = stopped_text player (codes " too many nested forks")
end_text player (Err Memory) = []
end_text player (Err StrangerHand) = []
end_text player (Err NoNode) = []

-- the script was played to its end, or a limit of the tree stopped it
abbrev pub IsEnd : Result (Unit {0}) RecordFault → Type 0
IsEnd (Ok done) = Unit {0}
IsEnd (Err TooManyNodes) = Unit {0}
IsEnd (Err TooDeep) = Unit {0}
IsEnd (Err Memory) = ⊥
IsEnd (Err StrangerHand) = ⊥
IsEnd (Err NoNode) = ⊥

-- the lines of these players, in order
abbrev pub ends_text : List (PlainHand × Result (Unit {0}) RecordFault) → List ℕ
ends_text [] = []
ends_text (e ∷ es) = end_text e.0.player e.1 ++ ends_text es
