-- What a trace counts on an empty store with another setting.
-- Rule of this project: the steps on the way from the root to the current node are played again, one after another, by
-- the model's own step. Each is counted as the report counts it, and a key that left is counted where it was evicted.
-- Steps of `~evict` are left out: they say what made way in the cache that was recorded, and not in this one.
use Rattle.std.specs.Prelude.{ℕ, fold, Bool, true, false, cond, List, [], ◌∷◌, ◌++◌, Option, None, Some, Result, Ok, Err, map}
use Rattle.std.specs.List.{count_by}
use Rattle.rev_classes.specs.declared.Config.{Config}
use Rattle.rev_model.specs.State.{State}
use Rattle.rev_model.specs.Actor.{Step, Client, Tune}
use Rattle.rev_model.specs.Client.{Evicts}
use Rattle.rev_requests.specs.Limits.{PlainTune}
use Rattle.rev_inverse.specs.Empty.{empty_state}
use Rattle.rev_tree.specs.Steps.{next, outcome_of}
use Rattle.rev_tree.specs.Rows.{Row, row_of}
use Rattle.rev_tree.specs.Machine.{lineage}
use Rattle.rev_explain.specs.Departures.{PlainDeparture, departures_at}
use Rattle.rev_figures.specs.Classes.{plus}
use Rattle.rev_figures.specs.Kinds.{kind_of}
use Rattle.rev_figures.specs.Tables.{is_eviction}
use Rattle.rev_figures.specs.declared.path.StepKind.{StepKind}
use Rattle.rev_figures.specs.declared.path.StepKind.TheVariants as kind
use Rattle.rev_whatif.specs.Settings.{config_with, first_tune, fault_with}
use Rattle.rev_whatif.specs.declared.setting.Setting.{Setting}
use Rattle.rev_whatif.specs.declared.setting.SettingFault.{SettingFault}
use Rattle.rev_whatif.specs.Runs.{PlainRun}
use Rattle.rev_whatif.specs.declared.course.Course.{Course}
use Rattle.rev_whatif.specs.declared.trial.Counts.{Counts}
use Rattle.rev_whatif.specs.declared.trial.Trial.{Trial}

-- ---- the steps of a trace

-- the step of a row
abbrev pub row_steps : Option Row → List Step
row_steps None = []
row_steps (Some r) = r.step ∷ []

-- the steps of these nodes
abbrev pub steps_along : List (Option Row) → List ℕ → List Step
steps_along rows [] = []
steps_along rows (n ∷ ns) = row_steps (row_of rows n) ++ steps_along rows ns

-- the steps on the way from the root to n
abbrev pub path_steps : List (Option Row) → ℕ → List Step
path_steps rows n = steps_along rows (lineage rows n)

-- ---- what is counted of them

-- nothing
abbrev pub no_counts : Counts
no_counts = record { hits = 0; misses = 0; stores = 0; evictions = 0 }

-- a step of this kind more; no count goes above the highest number of 64 bits
abbrev pub with_kind : StepKind → Counts → Counts
with_kind kind.Stored c = record c { stores = plus c.stores 1 }
with_kind kind.Hit c = record c { hits = plus c.hits 1 }
with_kind kind.Miss c = record c { misses = plus c.misses 1 }
with_kind kind.Other c = c

-- so many evictions more
abbrev pub with_evictions : ℕ → Counts → Counts
with_evictions n c = record c { evictions = plus c.evictions n }

-- how many of the keys that left were evicted, by a set or by the page mover
abbrev pub evicted : List PlainDeparture → ℕ
evicted ds = count_by (λ (d : PlainDeparture). is_eviction d.cause) ds

-- a step more, which is played at s; the number of its node, 0 here, is not counted
abbrev pub with_step : State → Step → Counts → Counts
with_step s e c = with_kind (kind_of e (outcome_of s e)) (with_evictions (evicted (departures_at 0 s e)) c)

-- ---- what a trial leaves out

-- a step by which a log says that an item was evicted
abbrev pub is_left_out : Step → Bool
is_left_out (Client (Evicts k)) = true
is_left_out e = false

-- the store after a step, which is played at s if it is not left out
abbrev pub next_tried : State → Step → State
next_tried s e = cond (is_left_out e) s (next s e)

-- what is counted then
abbrev pub with_tried : State → Step → Counts → Counts
with_tried s e c = cond (is_left_out e) c (with_step s e c)

-- a store on which a step more is tried, and what is counted then
abbrev pub tried : PlainRun → Step → PlainRun
tried r e = record { state = next_tried r.state e; counts = with_tried r.state e r.counts }

-- ---- a trial

-- a store once its shares and factors are set, if they are
abbrev pub tuned : Option PlainTune → State → State
tuned None s = s
tuned (Some t) s = next s (Tune t.hot_share t.warm_share t.hot_factor t.warm_factor)

-- the empty store of a configuration with the setting
abbrev pub first_state : Config → Setting → State
first_state c x = tuned (first_tune c x) (empty_state (config_with c x))

-- that store and no counts, or why no cache has the setting
abbrev pub first_run : Config → Setting → Option SettingFault → Result PlainRun SettingFault
first_run c x None = Ok (record { state = first_state c x; counts = no_counts })
first_run c x (Some f) = Err f

-- the same with steps more, one after another
abbrev pub run_by : List Step → Result PlainRun SettingFault → Result PlainRun SettingFault
run_by es (Ok r) = Ok (fold tried r es)
run_by es (Err f) = Err f

-- a trial under way with steps more
abbrev pub course_by : List Step → Course → Course
course_by es k = record k { run = run_by es k.run }

-- the trial under way of a setting, behind these steps
abbrev pub course_of : Config → List Step → Setting → Course
course_of c es x = record { setting = x; run = run_by es (first_run c x (fault_with c x)) }

-- those of several settings
abbrev pub courses_of : Config → List Step → List Setting → List Course
courses_of c es xs = map (course_of c es) xs

-- what was counted
abbrev pub outcome_by : Result PlainRun SettingFault → Result Counts SettingFault
outcome_by (Ok r) = Ok r.counts
outcome_by (Err f) = Err f

-- a trial as far as it is under way
abbrev pub trial_by : Course → Trial
trial_by k = record { setting = k.setting; outcome = outcome_by k.run }

-- the trial of a setting
abbrev pub trial_of : Config → List Step → Setting → Trial
trial_of c es x = trial_by (course_of c es x)
