-- A key that left, without an allocator.
-- Rule of this project: it is told with its slab class, why it left and what tells it, and the step that pushed it out.
use Rattle.std.specs.Prelude.{ℕ, List, Option}
use Rattle.std.specs.Option.{option_map}
use Rattle.rev_watch.specs.declared.event.Timestamp.{Timestamp}
use Rattle.rev_evidence.specs.declared.verdict.Verdict.{Verdict}
use Rattle.rev_life.specs.Lives.{PlainCulprit}
use Rattle.rev_life.specs.declared.leaving.Leaving.{Leaving}
use Rattle.rev_life.specs.declared.leaving.Pusher.{Pusher}

-- a key that left, without an allocator
pub record PlainLeaving : Type 0 where
  pub time : Timestamp
  pub step : ℕ
  pub key : List ℕ
  pub class : Option ℕ
  pub verdict : Verdict
  pub culprit : Option PlainCulprit

abbrev pub plain_pusher : {A : Type 0} → Pusher A → PlainCulprit
plain_pusher p = record { key = p.key.now; connection = p.connection; step = p.step }

abbrev pub plain_leaving : {A : Type 0} → Leaving A → PlainLeaving
plain_leaving l = record { time = l.time; step = l.step; key = l.key.now; class = l.class; verdict = l.verdict; culprit = option_map plain_pusher l.culprit }
