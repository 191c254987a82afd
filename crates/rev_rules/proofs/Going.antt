-- Steps that the rules lead, one behind another.
use Rattle.std.proofs.Common.{◌≡◌, ℕ, ◌<◌, List, [], ◌∷◌, ◌++◌, length, refl, sym, ◌∙◌, ap, arith}
use Rattle.rev_tree.specs.Steps.{State, Step, next}
use Rattle.rev_tree.specs.Positions.{SessionState}
use Rattle.rev_plays.specs.Replies.{state_of, reply, after_step}
use Rattle.rev_plays.specs.Quiet.{quiet_of}
use Rattle.rev_plays.specs.Start.{IsShort, from_state, run_forward}
use Rattle.rev_plays.specs.declared.quiet.Quiet.TheVariants.{Played}
use Rattle.rev_plays.proofs.Starting.{fresh_short, fresh_state, short_quiet, short_after, played_state, forward-append}
use Rattle.rev_evidence.specs.Heard.{step_number}
use Rattle.rev_rules.specs.Rules.{RulesState, IsFresh, Went, counted, behind}

-- ---- a session without a node

pub fresh_again : (m : SessionState) (s : State) → m ≡ from_state s → IsFresh m
fresh_again m s e = e ∙ ap from_state (sym (fresh_state m s e))

short_there : (m : SessionState) → IsFresh m → IsShort m
short_there m fresh = fresh_short m (state_of m) fresh

room_there : (m : SessionState) → IsFresh m → length m.rows < 64
room_there m fresh = let e : length m.rows ≡ 0 = ap (λ x. length x.rows) fresh in omega (arith, e)

-- it has room for a step
pub quiet_there : (m : SessionState) (e : Step) → IsFresh m → quiet_of (reply m e) ≡ Played
quiet_there m e fresh = short_quiet m e (short_there m fresh) (room_there m fresh)

-- where the step leads
pub played_there : (m n : SessionState) (e : Step) → IsFresh m → n ≡ after_step m e → state_of n ≡ next (state_of m) e
played_there m n e fresh after = ap state_of (after ∙ short_after m e (short_there m fresh) (room_there m fresh)) ∙ played_state m e (short_there m fresh)

-- ---- steps behind steps

pub counted-append : (n : ℕ) (xs ys : List Step) → counted n (xs ++ ys) ≡ counted (counted n xs) ys
counted-append n [] ys = refl
counted-append n (x ∷ xs) ys = counted-append (step_number n 1) xs ys

pub went_then : (a b c : RulesState) (xs ys : List Step) → Went a xs b → Went b ys c → Went a (xs ++ ys) c
went_then a b c xs ys p q = (
  q.0 ∙ ap (λ s. run_forward s ys) p.0 ∙ sym (forward-append (state_of a.session) xs ys),
  q.1 ∙ ap (λ n. counted n ys) p.1 ∙ sym (counted-append a.steps xs ys),
)

-- one step, which was let go then
pub went_one : (a b c : RulesState) (e : Step) → state_of b.session ≡ next (state_of a.session) e → b.steps ≡ a.steps →
    c ≡ record { session = from_state (state_of b.session); steps = step_number b.steps 1 } → Went a (e ∷ []) c
went_one a b c e state steps gone = (
  fresh_state c.session (state_of b.session) (ap (λ r. r.session) gone) ∙ state,
  ap (λ r. r.steps) gone ∙ ap (λ n. step_number n 1) steps,
)

-- the session of one that was let go
pub fresh_gone : (b c : RulesState) (n : ℕ) → c ≡ record { session = from_state (state_of b.session); steps = n } → IsFresh c.session
fresh_gone b c n gone = fresh_again c.session (state_of b.session) (ap (λ r. r.session) gone)

-- one that was let go at first, and led by these steps then
pub behind_all : (a b c : RulesState) (steps : List Step) → b ≡ record { session = from_state (state_of a.session); steps = a.steps } → Went b steps c → IsFresh c.session → c ≡ behind a steps
behind_all a b c steps gone went fresh =
    ap (λ m. record { session = m; steps = c.steps })
    (fresh ∙ ap from_state (went.0 ∙ ap (λ s. run_forward s steps) (fresh_state b.session (state_of a.session) (ap (λ r. r.session) gone))))
    ∙ ap (λ n. record { session = from_state (run_forward (state_of a.session) steps); steps = n }) (went.1 ∙ ap (λ n. counted n steps) (ap (λ r. r.steps) gone))
