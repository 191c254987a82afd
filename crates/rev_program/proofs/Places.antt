-- What is opened of a replay, and what comes of a place.
use Rattle.std.proofs.Common.{◌≡◌, ℕ, Bool, List, Option, None, Some, Result, Ok, Err, IfOk, sym, subst}
use Rattle.std.proofs.lemmas.Result.{IfOk-weaker}
use Rattle.std.specs.declared.alloc.Global.{Global}
use Rattle.rev_classes.specs.declared.Config.{Config}
use Rattle.rev_messages.specs.declared.stop.Stop.{Stop}
use Rattle.rev_options.specs.Request.{sought_key}
use Rattle.rev_options.specs.declared.leader.Leader.{Leader}
use Rattle.rev_options.specs.declared.leader.Leader.TheVariants.{Rules, Log}
use Rattle.rev_options.specs.declared.leader.Steps.{Steps}
use Rattle.rev_options.specs.declared.standing.Standing.{Standing}
use Rattle.rev_replay.specs.Turns.{Grows}
use Rattle.rev_replay.specs.declared.grown.Grown.{Grown}
use Rattle.rev_replay.specs.declared.seeking.Spot.{Spot}
use Rattle.rev_program.specs.Placed.{IsGrown, IsPlaced, IsPlacedAt, Opens, OpensAt, TellsNever, stood_behind}
use Rattle.rev_program.specs.Scripted.{IsPlacedBy, IsScripted}
use Rattle.rev_program.proofs.Grows.{never_in}
use Rattle.rev_program.specs.declared.placed.Opened.{Opened}
use Rattle.rev_program.specs.declared.placed.Placed.{Placed}
use Rattle.rev_program.specs.declared.placed.Placed.TheVariants.{NeverLeft}

-- what was grown is opened, behind so many steps where these are said
pub opens_at : (config : Config) (step : Option ℕ) (grown : Grown Global) (r : Result Opened Stop) → IsGrown config grown →
    IfOk r (λ opened. opened.session ≡ stood_behind step grown.before grown.session) → IfOk r (λ opened. opened.log ≡ grown.notes) → IfOk r (OpensAt config step)
opens_at config step grown (Ok opened) g session log = record {
  keeping = g.keeping;
  first = g.first;
  grown = grown.session;
  before = grown.before;
  grows = subst (λ notes. Grows g.keeping config g.first grown.session notes grown.before) (sym log) g.grows;
  session_is = session;
}
opens_at config step grown (Err stop) g session log = tt

-- wherever it stands
pub opens : (config : Config) (step : Option ℕ) (r : Result Opened Stop) → IfOk r (OpensAt config step) → IfOk r (Opens config)
opens config step r h = IfOk-weaker r (OpensAt config step) (Opens config) (λ opened at_step. (step, at_step)) h

-- where the log leads, the configuration is the server's
pub placed_by_log : (leader : Leader) (anyway : Bool) (config : Config) (standing : Option Standing) (text : List ℕ) (r : Result Placed Stop) → leader ≡ Log anyway → IfOk r (IsPlaced config standing text) →
    IfOk r (IsPlacedBy leader standing text)
placed_by_log leader anyway config standing text r is h = rw is (IfOk-weaker r (IsPlaced config standing text) (IsPlacedBy (Log anyway) standing text) (λ placed x. (config, x)) h)

never_at : (config : Config) (spot : Option Spot) (sought : Option (List ℕ)) (text : List ℕ) → IsPlacedAt config spot sought text NeverLeft → TellsNever sought text
never_at config None sought text h = h
never_at config (Some spot) sought text h = absurd h

-- no session is opened only where a key is to be gone that never left
pub tells_never : (leader : Leader) (standing : Option Standing) (text : List ℕ) → IsPlacedBy leader standing text NeverLeft → TellsNever (sought_key standing) text
tells_never (Rules steps) standing text h = never_in standing text h
tells_never (Log anyway) None text h = absurd h.1
tells_never (Log anyway) (Some standing) text h = never_at h.0 h.1.spot _ text h.1.settled

-- where the rules lead
pub placed_by_rules : (leader : Leader) (steps : Steps) (standing : Option Standing) (text : List ℕ) (r : Result Placed Stop) → leader ≡ Rules steps → IfOk r (IsScripted standing text) →
    IfOk r (IsPlacedBy leader standing text)
placed_by_rules leader steps standing text r is h = rw is h
