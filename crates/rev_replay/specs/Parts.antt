-- What a contract sees of logs that are replayed in parts.
-- Rule of this project: it is what it sees of their replay.
use Rattle.std.specs.Prelude.{ℕ, List}
use Rattle.rev_replay.specs.declared.parts.LogParts.{LogParts}
use Rattle.rev_replay.specs.Notes.{left_out_text}
use Rattle.rev_replay.specs.Replayed.{state_of, counts_of, late_of, repeated_of, life_of}
use Rattle.rev_replay.specs.Turns.{ReplayState}

-- the stage of their replay
abbrev pub parts_state : {F A : Type 0} → LogParts F A → ReplayState
parts_state p = state_of p.replay

-- how many lives the server had so far
abbrev pub lives_of : {F A : Type 0} → LogParts F A → ℕ
lives_of p = life_of p.replay

-- what is told of the lines that were left out so far
abbrev pub left_out_of : {F A : Type 0} → LogParts F A → List ℕ
left_out_of p = left_out_text (counts_of p.replay) (late_of p.replay) (repeated_of p.replay)
