-- What scripts become of which so many steps are kept, and where a session on them stands.
use Rattle.std.proofs.Common.{◌≡◌, ℕ, List, [], ◌∷◌, ◌++◌, length, Option, None, Some, String, Result, Ok, Err, IfOk, OnOk, refl, sym, ◌∙◌, ap, subst, append-nil}
use Rattle.std.specs.declared.alloc.Global.{Global}
use Rattle.std.specs.Io.KnownBytes.{Consumes, IsAtEnd}
use Rattle.rev_tree.specs.Steps.{State, Step}
use Rattle.rev_tree.specs.Positions.{SessionState}
use Rattle.rev_script.specs.Script.{lines}
use Rattle.rev_script.specs.Source.{Told}
use Rattle.rev_script.specs.Steps.{all_steps}
use Rattle.rev_script.specs.declared.dialect.Dialect.{Dialect}
use Rattle.rev_evidence.specs.Notes.{no_notes}
use Rattle.rev_plays.specs.Traces.{IsThrough}
use Rattle.rev_plays.specs.declared.trace.TraceEnd.{TraceEnd}
use Rattle.rev_plays.specs.declared.trace.TraceEnd.TheVariants as ends
use Rattle.rev_classes.specs.declared.Config.{Config}
use Rattle.rev_plays.specs.Begin.{opened}
use Rattle.rev_plays.specs.Replies.{state_of}
use Rattle.rev_replay.specs.Seeking.{PlainSought, IsPlaceOf}
use Rattle.rev_replay.specs.declared.keeping.Keeping.{Keeping}
use Rattle.rev_replay.specs.declared.seeking.Spot.{Spot}
use Rattle.rev_rules.specs.Grown.{GrewBy, GrowingState, Begins, GoesOn, IsFilled, IsFullAt, IsGrown, IsRooted, IsTaken}
use Rattle.rev_rules.specs.declared.grown.Grown.{Grown}
use Rattle.rev_options.specs.Request.{key_until, sought_key}
use Rattle.rev_options.specs.declared.standing.Standing.{Standing}
use Rattle.rev_messages.specs.declared.stop.Stop.{Stop}
use Rattle.rev_program.specs.Placed.{LooksFor, TellsNever, stood_behind}
use Rattle.rev_program.specs.Scripted.{AreFiles, HasBegun, HasGone, IsFile, IsFront, IsFoundAt, IsGrownBy, IsGrownFrom, IsNone, IsScripted, IsTold, Stands, StandsIn}
use Rattle.rev_program.specs.Starts.{AreStarts}
use Rattle.rev_program.specs.declared.scripted.Settled.{Settled}
use Rattle.rev_program.specs.declared.scripted.Taken.{Taken}
use Rattle.rev_program.specs.declared.opening.Full.{Full}
use Rattle.rev_program.specs.declared.placed.Opened.{Opened}
use Rattle.rev_program.specs.declared.placed.Placed.{Placed}
use Rattle.rev_program.specs.declared.placed.Placed.TheVariants.{There, NeverLeft}

-- ---- a file

whole_by : (d : Dialect) (known after : Option (List ℕ)) (read : List ℕ) (name : String Global) (steps : List Step) →
    Consumes known after read → IsAtEnd after → all_steps (lines d read) ≡ Some steps → IsFile d known name steps None
whole_by d None after read name steps took end are = tt
whole_by d (Some all) None read name steps took end are = absurd took
whole_by d (Some all) (Some rest) read name steps took end are =
    let same : all ≡ read = took ∙ ap (λ r. read ++ r) end ∙ append-nil read in
    ap (λ b. all_steps (lines d b)) same ∙ are

pub whole_file : (d : Dialect) (old new : Told) (name : String Global) (m t : GrowingState) → IsThrough d old new (λ steps. GoesOn m steps t) →
    (steps : List Step) × IsFile d old.remaining name steps None × GoesOn m steps t
whole_file d old new name m t x = (x.steps, whole_by d old.remaining new.remaining x.read name x.steps x.took x.none_left x.steps_are, x.so)

front_of : (d : Dialect) (number : ℕ) (all read rest : List ℕ) (m t : GrowingState) → all ≡ read ++ rest → (x : IsFullAt number (lines d read) m t) → IsFront d number all (x.steps ++ x.fit)
front_of d number all read rest m t bytes x = record {
  read = read;
  rest = rest;
  bytes_are = bytes;
  before = x.before;
  number_is = x.number_is;
  line = x.line;
  line_is = x.line_is;
  above = x.steps;
  above_are = x.steps_are;
  fit = x.fit;
  more = x.refused ∷ x.more;
  own_are = x.own_are ∙ ap Some x.own_is;
  steps_are = refl;
}

filled_by : (d : Dialect) (known after : Option (List ℕ)) (read : List ℕ) (full : Full) (m t : GrowingState) →
    Consumes known after read → (x : IsFullAt full.line (lines d read) m t) → IsFile d known full.file (x.steps ++ x.fit) (Some full)
filled_by d None after read full m t took x = refl
filled_by d (Some all) None read full m t took x = absurd took
filled_by d (Some all) (Some rest) read full m t took x = (refl, front_of d full.line all read rest m t took x)

pub filled_file : (d : Dialect) (old new : Told) (full : Full) (m t : GrowingState) → IsFilled full.line d old new m t →
    (steps : List Step) × IsFile d old.remaining full.file steps (Some full) × GoesOn m steps t
filled_file d old new full m t x = (x.full.steps ++ x.full.fit, filled_by d old.remaining new.remaining x.read full m t x.took x.full, x.full.goes_on)

-- a script of any kind
pub gone_of : (d : Dialect) (end : TraceEnd) (old new : Told) (m t : GrowingState) → IsTaken end d old new m t → HasGone m t
gone_of d ends.Whole old new m t x = (x.steps, x.so)
gone_of d (ends.Full line) old new m t x = (x.full.steps ++ x.full.fit, x.full.goes_on)

-- ---- what is grown

module _ (first : State) (k : Keeping) (sought : PlainSought) (a b : GrowingState) (steps : List Step) (session : SessionState) (before : ℕ)
    (begins : Begins first k sought a) (goes : GoesOn a steps b) (session_is : session ≡ b.session) (before_is : before ≡ b.before) where
  led : IsGrown first steps b
  led = goes.leads first [] begins.grown

  pub led_grew : GrewBy first steps before session
  led_grew = rw (session_is, before_is) led.grew

  pub led_rooted : IsRooted k before (length session.rows)
  led_rooted = rw (session_is, before_is, sym (goes.alike.0 ∙ begins.keeping_is)) led.rooted

-- what traces become, where all went well
module _ (d : Dialect) {F : Type 0} (remaining : F → Option (List ℕ)) (config : Config) (starts traces : List (String Global × F)) (k : Keeping) (sought : PlainSought) (behind : SessionState) (a b : GrowingState)
    (played : Result (Option Full) Stop) (begins : Begins (state_of behind) k sought a) (files : IfOk played (λ full. (steps : List Step) × AreFiles d remaining traces steps full × GoesOn a steps b)) where
  abbrev files_of : (full : Option Full) → played ≡ Ok full → (steps : List Step) × AreFiles d remaining traces steps full × GoesOn a steps b
  files_of full is = subst (λ p. IfOk p (λ full. (steps : List Step) × AreFiles d remaining traces steps full × GoesOn a steps b)) is files

  pub grown_from : {A : Type 0} (r : Result (Taken A) Stop) → AreStarts d remaining starts (opened config) behind → IfOk r (λ taken. taken.grown.session ≡ b.session) → IfOk r (λ taken. taken.grown.before ≡ b.before) →
      IfOk r (λ taken. played ≡ Ok taken.full) → IfOk r (λ taken. IsGrownFrom d remaining config starts traces k taken.grown taken.full)
  grown_from (Ok taken) are session before full =
      let f = files_of taken.full full in
      record {
        behind = behind;
        are_starts = are;
        steps = f.0;
        are_files = f.1;
        grew = led_grew (state_of behind) k sought a b f.0 taken.grown.session taken.grown.before begins f.2 session before;
        rooted = led_rooted (state_of behind) k sought a b f.0 taken.grown.session taken.grown.before begins f.2 session before;
      }
  grown_from (Err stop) are session before full = tt

  pub placed_from : {A : Type 0} (r : Result (Taken A) Stop) → IfOk r (λ taken. played ≡ Ok taken.full) → IfOk r (λ taken. IsPlaceOf b.seeker.sought taken.grown.spot) → IfOk r (λ taken. IsPlaceOf sought taken.grown.spot)
  placed_from (Ok taken) full spot = subst (λ s. IsPlaceOf s taken.grown.spot) ((files_of taken.full full).2.alike.1 ∙ begins.sought_is) spot
  placed_from (Err stop) full spot = tt

pub grown_of : (k : Keeping) (sought : PlainSought) (a b : GrowingState) (grown : Grown Global) → HasBegun k sought a → HasGone a b → grown.session ≡ b.session → grown.before ≡ b.before → IsGrownBy k grown
grown_of k sought a b grown begun gone session before = record {
  first = begun.0;
  steps = gone.0;
  grew = led_grew begun.0 k sought a b gone.0 grown.session grown.before begun.1 gone.1 session before;
  rooted = led_rooted begun.0 k sought a b gone.0 grown.session grown.before begun.1 gone.1 session before;
}

-- the same where all went well
module _ (k : Keeping) (sought : PlainSought) (a b : GrowingState) (played : Result (Option Full) Stop) (begun : HasBegun k sought a) (gone : OnOk played (HasGone a b)) where
  abbrev gone_on : (full : Option Full) → played ≡ Ok full → HasGone a b
  gone_on full is = subst (λ p. OnOk p (HasGone a b)) is gone

  pub grown_well : (r : Result (Taken Global) Stop) → IfOk r (λ taken. taken.grown.session ≡ b.session) → IfOk r (λ taken. taken.grown.before ≡ b.before) → IfOk r (λ taken. played ≡ Ok taken.full) → IfOk r (λ taken. IsGrownBy k taken.grown)
  grown_well (Ok taken) session before full = grown_of k sought a b taken.grown begun (gone_on taken.full full) session before
  grown_well (Err stop) session before full = tt

  pub placed_well : (r : Result (Taken Global) Stop) → IfOk r (λ taken. played ≡ Ok taken.full) → IfOk r (λ taken. IsPlaceOf b.seeker.sought taken.grown.spot) → IfOk r (λ taken. IsPlaceOf sought taken.grown.spot)
  placed_well (Ok taken) full spot = subst (λ s. IsPlaceOf s taken.grown.spot) ((gone_on taken.full full).1.alike.1 ∙ begun.1.sought_is) spot
  placed_well (Err stop) full spot = tt

-- ---- where a session stands

pub stands_of : (k : Keeping) (grown : Grown Global) (step : Option ℕ) (opened : Opened) → IsGrownBy k grown → opened.session ≡ stood_behind step grown.before grown.session → IsTold grown.before opened.at → opened.log ≡ no_notes → StandsIn step opened
stands_of k grown step opened g session told log = record {
  first = g.first;
  steps = g.steps;
  before = grown.before;
  grown = grown.session;
  grew = g.grew;
  session_is = session;
  told = told;
  log_is = log;
}

-- where the last step left it
pub stands_last : (k : Keeping) (grown : Grown Global) (opened : Opened) → IsGrownBy k grown → opened.session ≡ grown.session → IsTold grown.before opened.at → opened.log ≡ no_notes → Stands opened
stands_last k grown opened g session told log = (None, stands_of k grown None opened g session told log)

pub stands_so : (step : Option ℕ) (opened : Opened) → StandsIn step opened → Stands opened
stands_so step opened h = (step, h)

-- traces are files
pub grown_by_files : {F : Type 0} (d : Dialect) (remaining : F → Option (List ℕ)) (config : Config) (starts traces : List (String Global × F)) (k : Keeping) (r : Result (Taken Global) Stop) →
    IfOk r (λ taken. IsGrownFrom d remaining config starts traces k taken.grown taken.full) → IfOk r (λ taken. IsGrownBy k taken.grown)
grown_by_files d remaining config starts traces k (Ok taken) h = record { first = state_of h.behind; steps = h.steps; grew = h.grew; rooted = h.rooted }
grown_by_files d remaining config starts traces k (Err stop) h = tt

-- ---- what comes of a place

-- none was found
pub found_none : (spot : Option Spot) (sought : Option (List ℕ)) (text : List ℕ) (r : Result Settled Stop) → spot ≡ None → IfOk r (λ settled. IsNone sought text settled.placed) → IfOk r (λ settled. IsFoundAt spot sought text settled.placed)
found_none spot sought text r is h = rw is h

-- the session stands there
pub found_there : (spot : Option Spot) (there : Spot) (sought : Option (List ℕ)) (text : List ℕ) (opened : Opened) → spot ≡ Some there → StandsIn (Some there.step) opened → IsFoundAt spot sought text (There opened)
found_there spot there sought text opened is h = rw is h

-- a place was looked for
pub found_by : (standing : Standing) (sought : PlainSought) (spot : Option Spot) (text : List ℕ) (r : Result Settled Stop) → LooksFor standing.until sought → IsPlaceOf sought spot →
    IfOk r (λ settled. IsFoundAt spot (key_until standing.until) text settled.placed) → IfOk r (λ settled. IsScripted (Some standing) text settled.placed)
found_by standing sought spot text (Ok settled) looks place h = record { sought = sought; looks_for = looks; spot = spot; is_place = place; found = h }
found_by standing sought spot text (Err stop) looks place h = tt

none_at : (spot : Option Spot) (sought : Option (List ℕ)) (text : List ℕ) → IsFoundAt spot sought text NeverLeft → TellsNever sought text
none_at None sought text h = h
none_at (Some spot) sought text h = absurd h

-- no session is opened only where a key is to be gone that never left
pub never_in : (standing : Option Standing) (text : List ℕ) → IsScripted standing text NeverLeft → TellsNever (sought_key standing) text
never_in None text h = absurd h
never_in (Some standing) text h = none_at h.spot (key_until standing.until) text h.found

-- what is told of a session that is opened is no matter
found_told : (spot : Option Spot) (sought : Option (List ℕ)) (old new : List ℕ) (placed : Placed) → (placed ≡ NeverLeft → new ≡ old) → IsFoundAt spot sought old placed → IsFoundAt spot sought new placed
found_told None sought old new (There opened) same h = absurd h
found_told None sought old new NeverLeft same h = subst (λ text. TellsNever sought text) (sym (same refl)) h
found_told (Some spot) sought old new (There opened) same h = h
found_told (Some spot) sought old new NeverLeft same h = absurd h

pub scripted_told : (standing : Option Standing) (old new : List ℕ) (placed : Placed) → (placed ≡ NeverLeft → new ≡ old) → IsScripted standing old placed → IsScripted standing new placed
scripted_told None old new (There opened) same h = h
scripted_told None old new NeverLeft same h = absurd h
scripted_told (Some standing) old new placed same h = record {
  sought = h.sought;
  looks_for = h.looks_for;
  spot = h.spot;
  is_place = h.is_place;
  found = found_told h.spot (key_until standing.until) old new placed same h.found;
}

-- the same of a session that is handed on
pub scripted_on : (standing : Option Standing) (old new : List ℕ) (placed : Placed) (r : Result Placed Stop) → IsScripted standing old placed → (placed ≡ NeverLeft → new ≡ old) → IfOk r (λ told. told ≡ placed) →
    IfOk r (λ told. IsScripted standing new told)
scripted_on standing old new placed (Ok told) h same is = rw is (scripted_told standing old new placed same h)
scripted_on standing old new placed (Err stop) h same is = tt
