-- What a contract sees of a replay, and of who notes what it is told.
-- Rule of this project: its stage and what is kept of it, what was counted, and how far it came.
use Rattle.std.specs.Prelude.{ℕ, ◌+◌, nat_lt, if◌then◌else◌, Option}
use Rattle.rev_lead.specs.declared.tally.Tally.{Tally}
use Rattle.rev_replay.specs.declared.counts.LineCounts.{LineCounts}
use Rattle.rev_replay.specs.declared.keeping.Place.{Place}
use Rattle.rev_replay.specs.declared.moments.Noting.{Noting}
use Rattle.rev_replay.specs.declared.run.Replay.{Replay}
use Rattle.rev_replay.specs.Moments.{PlainNoting}
use Rattle.std.specs.Option.{option_copied}
use Rattle.rev_replay.specs.declared.sampling.Sieve.{Sieve}
use Rattle.rev_replay.specs.Sampling.{PlainSampling}
use Rattle.rev_replay.specs.Turns.{ReplayState}

-- its stage
abbrev pub state_of : {A : Type 0} → Replay A → ReplayState
state_of r = record { keeping = r.keeping; config = r.setup.now.config; counted = record { before = r.steps; stage = r.stage } }

-- what became of the lines
abbrev pub counts_of : {A : Type 0} → Replay A → LineCounts
counts_of r = r.counts

-- the lines that came too late, and those with the number of another
abbrev pub late_of : {A : Type 0} → Replay A → ℕ
late_of r = r.order.late

abbrev pub repeated_of : {A : Type 0} → Replay A → ℕ
repeated_of r = r.order.repeated

-- what its driver counted
abbrev pub tally_of : {A : Type 0} → Replay A → Tally
tally_of r = r.driver

-- where there was no room for what follows
abbrev pub full_of : {A : Type 0} → Replay A → Option Place
full_of r = r.full

-- the number of the server's life that the lines are of
abbrev pub life_of : {A : Type 0} → Replay A → ℕ
life_of r = if nat_lt r.counts.restarts 18446744073709551615 then r.counts.restarts + 1 else 18446744073709551615

-- what was noted of what was heard
abbrev pub noting_of : {A : Type 0} → Noting A → PlainNoting
noting_of n = record { moments = n.moments.items; before = n.before; since = n.since; now = n.now; restart = n.restart }

-- the sample whose events are played, where not all are, and what is known for it of each class
abbrev pub sampling_of : {A : Type 0} → Replay A → Option PlainSampling
sampling_of r = option_copied r.sampling

abbrev pub sieve_of : {A : Type 0} → Replay A → Sieve
sieve_of r = r.sieve
