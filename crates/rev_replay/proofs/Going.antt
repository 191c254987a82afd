-- Turns of a replay's stage, one behind another.
use Rattle.std.specs.Prelude.{◌≡◌, refl, ℕ, ◌+◌, Bool, true, false, List, [], ◌∷◌, ◌++◌, length}
use Rattle.std.proofs.Common.{sym, ◌∙◌, ap, subst, length-append}
use Rattle.rev_classes.specs.declared.Config.{Config}
use Rattle.rev_tree.specs.Positions.{SessionState}
use Rattle.rev_lead.specs.Acts.{StageState, Act, after, begun, Acts, Led}
use Rattle.rev_evidence.specs.Notes.{PlainNotes}
use Rattle.rev_replay.specs.declared.keeping.Keeping.{Keeping}
use Rattle.rev_replay.specs.Turns.{CountedStage, ReplayState, Turn, Plays, Passes, Opens, steps_of, passes, turned, is_turn, Turns, GoesOn, Grows, fresh, at_first}

-- nothing became of it
pub goes_same : (lives : Bool) (s t : ReplayState) → t ≡ s → GoesOn lives s t
unfolding GoesOn
goes_same lives s t e = rw e (refl, refl, ([], refl))

turns_more : (k : Keeping) (lives : Bool) (c : Config) (s t u : CountedStage) (first second : List Turn) → Turns k lives c s first t → Turns k lives c t second u → Turns k lives c s (first ++ second) u
turns_more k lives c s t u [] second e f = rw (sym e) f
turns_more k lives c s t u (x ∷ first) second e f = (e.0, turns_more k lives c (turned c s x) t u first second e.1 f)

-- one behind the other
pub goes_more : (lives : Bool) (s t u : ReplayState) → GoesOn lives t u → GoesOn lives s t → GoesOn lives s u
unfolding GoesOn
goes_more lives s t u b a =
    let second : Turns s.keeping lives s.config t.counted b.2.0 u.counted = rw (a.0, a.1) at b.2.1 in
    (b.0 ∙ a.0, b.1 ∙ a.1, (a.2.0 ++ b.2.0, turns_more s.keeping lives s.config s.counted t.counted u.counted a.2.0 b.2.0 a.2.1 second))

plays_all : List Act → List Turn
plays_all [] = []
plays_all (a ∷ acts) = Plays a ∷ plays_all acts

-- a stage with as many steps in front of it
with_before : ℕ → StageState → CountedStage
with_before n s = record { before = n; stage = s }

all_played : (k : Keeping) (lives : Bool) (c : Config) (n : ℕ) (s t : StageState) (acts : List Act) → Acts s acts t → Turns k lives c (with_before n s) (plays_all acts) (with_before n t)
unfolding plays_all with_before
all_played k lives c n s t [] e = ap (with_before n) e
all_played k lives c n s t (a ∷ acts) e = (refl, all_played k lives c n (after s a) t acts e)

-- steps were played
pub goes_led : (lives : Bool) (k : Keeping) (c : Config) (n : ℕ) (s t : StageState) → Led s t → GoesOn lives (record { keeping = k; config = c; counted = record { before = n; stage = s } }) (record { keeping = k; config = c; counted = record { before = n; stage = t } })
unfolding GoesOn Led with_before
goes_led lives k c n s t led = (refl, refl, (plays_all led.0, all_played k lives c n s t led.0 led.1))

-- it began anew where it stands, where that is a turn of so many nodes
pub goes_passed : (lives : Bool) (k : Keeping) (c : Config) (s : CountedStage) (nodes : ℕ) → nodes ≡ length s.stage.session.rows → passes k s.before nodes ≡ true →
    GoesOn lives (record { keeping = k; config = c; counted = s }) (record { keeping = k; config = c; counted = record { before = steps_of s; stage = begun s.stage } })
unfolding GoesOn
goes_passed lives k c s nodes are passed = (refl, refl, (Passes ∷ [], (subst (λ n. passes k s.before n ≡ true) are passed, refl)))

always : (k : Keeping) (s : CountedStage) (x : Turn) (lives : Bool) → is_turn k lives s x ≡ true → is_turn k true s x ≡ true
always k s (Plays a) lives e = refl
always k s Passes lives e = e
always k s Opens lives e = refl

turns_always : (k : Keeping) (lives : Bool) (c : Config) (s t : CountedStage) (turns : List Turn) → Turns k lives c s turns t → Turns k true c s turns t
turns_always k lives c s t [] e = e
turns_always k lives c s t (x ∷ turns) e = (always k s x lives e.0, turns_always k lives c (turned c s x) t turns e.1)

-- what is so within a life is so over all lives
pub goes_always : (s t : ReplayState) → GoesOn false s t → GoesOn true s t
unfolding GoesOn
goes_always s t e = (e.0, e.1, (e.2.0, turns_always s.keeping false s.config s.counted t.counted e.2.0 e.2.1))

-- an empty cache took its place, and steps were played
pub goes_opened : (k : Keeping) (c : Config) (s : CountedStage) (t : StageState) → Led (fresh c) t → GoesOn true (record { keeping = k; config = c; counted = s }) (record { keeping = k; config = c; counted = record { before = steps_of s; stage = t } })
unfolding GoesOn Led with_before
goes_opened k c s t led = (refl, refl, (Opens ∷ plays_all led.0, (refl, all_played k true c (steps_of s) (fresh c) t led.0 led.1)))

-- ---- a role for each node

-- a stage has as many roles as nodes
HasRoles : StageState → Type 0
HasRoles s = length s.roles ≡ length s.session.rows

keep_roles : (c : Config) (s : CountedStage) (x : Turn) → HasRoles s.stage → HasRoles (turned c s x).stage
unfolding HasRoles
keep_roles c s (Plays a) e = length-append s.stage.roles (a.role ∷ []) ∙ ap (λ n. n + 1) e ∙ sym (length-append s.stage.session.rows _)
keep_roles c s Passes e = refl
keep_roles c s Opens e = refl

all_roles : (k : Keeping) (lives : Bool) (c : Config) (s t : CountedStage) (turns : List Turn) → Turns k lives c s turns t → HasRoles s.stage → HasRoles t.stage
all_roles k lives c s t [] e h = rw e h
all_roles k lives c s t (x ∷ turns) e h = all_roles k lives c (turned c s x) t turns e.1 (keep_roles c s x h)

-- what was grown from a session
pub grows_of : (k : Keeping) (c : Config) (m t : SessionState) (notes : PlainNotes) (before : ℕ) (r s : ReplayState) → GoesOn false (at_first k c (begun (record { session = m; roles = [] }))) r → GoesOn true r s →
    s.counted ≡ record { before = before; stage = record { session = t; roles = notes.roles } } → length notes.moments ≡ length t.rows → Grows k c m t notes before
unfolding GoesOn HasRoles
grows_of k c m t notes before r s a b e moments =
    let start = at_first k c (begun (record { session = m; roles = [] })) in
    let all = goes_more true start r s b (goes_always start r a) in
    let there = subst (λ u. Turns k true c start.counted all.2.0 u) e all.2.1 in
    record {
      grown = (refl, refl, (all.2.0, there));
      roles_are = all_roles k true c start.counted (record { before = before; stage = record { session = t; roles = notes.roles } }) all.2.0 there refl;
      moments_are = moments;
    }
