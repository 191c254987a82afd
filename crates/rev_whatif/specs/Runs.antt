-- What a store is while a trace is tried on it.
-- Rule of this project: the value of a trial under way, apart from the store's allocator.
use Rattle.rev_model.specs.State.{State}
use Rattle.rev_whatif.specs.declared.trial.Counts.{Counts}

-- a store on which a trace is tried, and what was counted there
pub record PlainRun : Type 0 where
  pub state : State
  pub counts : Counts
