-- Scripts whose steps are kept, one step more.
use Rattle.std.proofs.Common.{◌≡◌, ◌≢◌, ◌≤◌, ◌<◌, ◌+◌, ◌-◌, ◌^◌, min, ℕ, Bool, true, false, cond, not, nat_le, inl, inr, suc, zero, List, [], ◌∷◌, ◌++◌, length, take, slice_get, Option, None, Some, refl, sym, ◌∙◌, ap, subst, arith, length-append, append_assoc, append-nil}
use Rattle.std.proofs.Math.Nat.{eq-zero-or-pos}
use Rattle.std.proofs.lemmas.Bool.{cases_Bool, leb-true, leb-false}
use Rattle.rev_tree.specs.Steps.{State, Step, next}
use Rattle.rev_tree.specs.Rows.{Row, RowsFall, row_of, row, at}
use Rattle.rev_tree.specs.Machine.{is_continued}
use Rattle.rev_tree.specs.Positions.{SessionState}
use Rattle.rev_tree.proofs.Growth.{row_of-last, falls_more}
use Rattle.rev_undotree.proofs.Mentioned.{at_more}
use Rattle.rev_tree.proofs.Rows.{at-step}
use Rattle.rev_plays.specs.Replies.{state_of, reply, played, after_step, is_full, is_too_deep}
use Rattle.rev_plays.specs.Quiet.{quiet_of}
use Rattle.rev_plays.specs.Start.{from_state, run_forward}
use Rattle.rev_plays.specs.Kept.{Fits, Plays}
use Rattle.rev_plays.specs.declared.quiet.Quiet.{Quiet}
use Rattle.rev_plays.specs.declared.quiet.Quiet.TheVariants as quiets
use Rattle.rev_plays.proofs.Starting.{forward-append, fresh_state}
use Rattle.rev_plays.proofs.Tracing.{plays_more}
use Rattle.rev_evidence.specs.Heard.{step_number}
use Rattle.rev_replay.specs.Turns.{passes}
use Rattle.rev_replay.specs.declared.keeping.Keeping.{Keeping}
use Rattle.rev_replay.specs.declared.keeping.Keeping.TheVariants.{Nothing, Tree, Last, Behind}
use Rattle.rev_rules.specs.Grown.{GrewBy, GrowingState, IsAlike, IsGrown, IsRooted, Begins, GoesOn, Fills, number_of, with_step, with_look, passed, anew}

-- ---- a session of which each node stands behind its parent

record Falls (m : SessionState) : Type 0 where
  within : m.current ≤ length m.rows
  falls : RowsFall m.rows

no_row : (n : ℕ) (r : Row) → row_of [] n ≡ Some r → ⊥
no_row zero r h = cc
no_row (suc n) r h = cc

falls_first : (s : State) → Falls (from_state s)
falls_first s = record { within = omega arith; falls = λ n r h. absurd (no_row n r h) }

falls_played : (m : SessionState) (e : Step) → Falls m → Falls (played m e)
falls_played m e h =
    let r : Row = row m.current e (not (is_continued m.rows m.current)) in
    let size = length-append m.rows (Some r ∷ []) in
    record { within = omega (arith, size); falls = falls_more m.rows r h.falls h.within }

played_state : (m : SessionState) (e : Step) → Falls m → state_of (played m e) ≡ next (state_of m) e
played_state m e h =
    let r : Row = row m.current e (not (is_continued m.rows m.current)) in
    let more : List (Option Row) = m.rows ++ Some r ∷ [] in
    let number : length m.rows + 1 ≡ suc (length m.rows) = omega arith in
    let last : row_of more (length m.rows + 1) ≡ Some r = ap (row_of more) number ∙ row_of-last m.rows (Some r) in
    at-step m.root more (falls_more m.rows r h.falls h.within) (length m.rows + 1) r last
    ∙ ap (λ s. next s e) (at_more m.root m.rows (Some r) h.falls m.current h.within)

played_size : (m : SessionState) (e : Step) → length (played m e).rows ≡ length m.rows + 1
played_size m e =
    let r : Row = row m.current e (not (is_continued m.rows m.current)) in
    length-append m.rows (Some r ∷ [])

-- a step that fits is played
fits_after : (m : SessionState) (e : Step) → Fits m e → after_step m e ≡ played m e
unfolding reply
fits_after m e h = elim (cases_Bool (is_full m)) [
  | inl full ↦ absurd (let q = rw full at h in cc)
  | inr room ↦ elim (cases_Bool (is_too_deep m)) [
    | inl deep ↦ absurd (let q = rw deep at (rw room at h) in cc)
    | inr flat ↦ rw (room, flat) refl
  ]
]

-- and one that does not changes nothing
was_refused : (m : SessionState) (e : Step) → (Fits m e → ⊥) → after_step m e ≡ m
unfolding reply
was_refused m e h = elim (cases_Bool (is_full m)) [
  | inl full ↦ rw full refl
  | inr room ↦ elim (cases_Bool (is_too_deep m)) [
    | inl deep ↦ rw (room, deep) refl
    | inr flat ↦ absurd (h (rw (room, flat) refl))
  ]
]

-- what steps leave that were played
record Left (m t : SessionState) (steps : List Step) : Type 0 where
  state_is : state_of t ≡ run_forward (state_of m) steps
  size_is : length t.rows ≡ length m.rows + length steps

plays_left : (m t : SessionState) (steps : List Step) → Falls m → Plays m steps t → Left m t steps
plays_left m t [] f p = record { state_is = ap state_of p; size_is = omega (arith, ap (λ s. length s.rows) p) }
plays_left m t (e ∷ es) f p =
    let after : after_step m e ≡ played m e = fits_after m e p.0 in
    let q : Plays (played m e) es t = subst (λ s. Plays s es t) after p.1 in
    let l : Left (played m e) t es = plays_left (played m e) t es (falls_played m e f) q in
    record {
      state_is = l.state_is ∙ ap (λ s. run_forward s es) (played_state m e f);
      size_is = omega (arith, l.size_is, played_size m e);
    }

-- ---- steps are counted

number_more : (a b : ℕ) → step_number (step_number 0 a) b ≡ step_number 0 (a + b)
number_more a b = omega arith

-- ---- what is kept

rooted_on : (k : Keeping) (before n : ℕ) → IsRooted k before n → passes k before (n + 1) ≡ false → IsRooted k before (n + 1)
rooted_on Nothing before n h p = absurd (let e : true ≡ false = p in cc)
rooted_on (Tree life) before n h p = h
rooted_on Last before n h p = leb-false _ _ p
rooted_on (Behind steps life) before n h p =
    let late : steps < step_number before (n + 1) = leb-false _ _ p in
    let there : before ≡ steps = elim (eq-zero-or-pos n) [
      | inl z ↦ omega (arith, late, z, h.0)
      | inr some ↦ h.1 (λ none. omega (arith, none, some))
    ] in
    (h.0, λ some. there)

rooted_anew : (k : Keeping) (before n : ℕ) → passes k before (n + 1) ≡ true → IsRooted k before n → IsRooted k (step_number before (n + 1)) 0
rooted_anew Nothing before n p h = refl
rooted_anew (Tree life) before n p h = absurd (let e : false ≡ true = p in cc)
rooted_anew Last before n p h = omega arith
rooted_anew (Behind steps life) before n p h = (leb-true _ _ p, λ none. absurd (none refl))

-- ---- one step more

-- the step was played behind these
module _ (first : State) (front : List Step) (a : GrowingState) (e : Step) (fits : Fits a.session e) (h : IsGrown first front a) where
  abbrev begin : State
  begin = run_forward first h.grew.front

  abbrev behind : List Step
  behind = h.grew.back ++ e ∷ []

  plays_behind : Plays (from_state begin) behind (after_step a.session e)
  plays_behind = plays_more (from_state begin) a.session (after_step a.session e) h.grew.back (e ∷ []) h.grew.plays (fits, refl)

  left_behind : Left (from_state begin) (after_step a.session e) behind
  left_behind = plays_left (from_state begin) (after_step a.session e) behind (falls_first begin) plays_behind

  size_behind : length (after_step a.session e).rows ≡ length a.session.rows + 1
  size_behind = ap (λ s. length s.rows) (fits_after a.session e fits) ∙ played_size a.session e

  all_behind : front ++ e ∷ [] ≡ h.grew.front ++ behind
  all_behind = ap (λ x. x ++ e ∷ []) h.grew.steps_are ∙ append_assoc h.grew.front h.grew.back (e ∷ [])

  kept_behind : passes a.keeping a.before (length (after_step a.session e).rows) ≡ false → (s : GrowingState) →
      s.keeping ≡ a.keeping → s.before ≡ a.before → s.session ≡ after_step a.session e → IsGrown first (front ++ e ∷ []) s
  kept_behind p s keeping before session = record {
    grew = record {
      front = h.grew.front;
      back = behind;
      steps_are = all_behind;
      before_is = before ∙ h.grew.before_is;
      plays = subst (λ m. Plays (from_state begin) behind m) (sym session) plays_behind;
    };
    rooted =
        rw (keeping, before, session, size_behind) (rooted_on a.keeping a.before (length a.session.rows) h.rooted (subst (λ n. passes a.keeping a.before n ≡ false) size_behind p));
  }

  anew_behind : passes a.keeping a.before (length (after_step a.session e).rows) ≡ true → (s : GrowingState) →
      s.keeping ≡ a.keeping → s.before ≡ step_number a.before (length (after_step a.session e).rows) → s.session ≡ from_state (state_of (after_step a.session e)) → IsGrown first (front ++ e ∷ []) s
  anew_behind p s keeping before session =
      let count : length (after_step a.session e).rows ≡ length behind = omega (arith, left_behind.size_is) in
      let there : state_of (after_step a.session e) ≡ run_forward first (h.grew.front ++ behind) =
      left_behind.state_is ∙ ap (λ x. run_forward x behind) (fresh_state (from_state begin) begin refl) ∙ sym (forward-append first h.grew.front behind) in
      record {
        grew = record {
          front = h.grew.front ++ behind;
          back = [];
          steps_are = all_behind ∙ sym (append-nil (h.grew.front ++ behind));
          before_is =
              before ∙ ap (λ n. step_number n (length (after_step a.session e).rows)) h.grew.before_is ∙ ap (step_number (number_of h.grew.front)) count
              ∙ number_more (length h.grew.front) (length behind) ∙ ap (step_number 0) (sym (length-append h.grew.front behind));
          plays = session ∙ ap from_state there;
        };
        rooted =
            rw (keeping, before, session, size_behind) (rooted_anew a.keeping a.before (length a.session.rows) (subst (λ n. passes a.keeping a.before n ≡ true) size_behind p) h.rooted);
      }

-- a step that fits is played, the place is looked for behind it, and the nodes are let go where they are not kept
pub goes_step : (a b c : GrowingState) (e : Step) → Fits a.session e → b ≡ with_look (with_step a e) → c ≡ passed b → GoesOn a (e ∷ []) c
goes_step a b c e fits looks gone = elim (cases_Bool (passes a.keeping a.before (length (after_step a.session e).rows))) [
  | inl p ↦
      let is : c ≡ anew (with_look (with_step a e)) = gone ∙ ap passed looks ∙ rw p refl in
      record {
        alike = (ap (λ s. s.keeping) is, ap (λ s. s.seeker.sought) is);
        leads = λ first front h. anew_behind first front a e fits h p c (ap (λ s. s.keeping) is) (ap (λ s. s.before) is) (ap (λ s. s.session) is);
      }
  | inr p ↦
      let is : c ≡ with_look (with_step a e) = gone ∙ ap passed looks ∙ rw p refl in
      record {
        alike = (ap (λ s. s.keeping) is, ap (λ s. s.seeker.sought) is);
        leads = λ first front h. kept_behind first front a e fits h p c (ap (λ s. s.keeping) is) (ap (λ s. s.before) is) (ap (λ s. s.session) is);
      }
]

-- ---- steps behind steps

pub goes_none : (a : GrowingState) → GoesOn a [] a
goes_none a = record { alike = (refl, refl); leads = λ first front h. subst (λ xs. IsGrown first xs a) (sym (append-nil front)) h }

pub goes_more : (a b c : GrowingState) (xs ys : List Step) → GoesOn a xs b → GoesOn b ys c → GoesOn a (xs ++ ys) c
goes_more a b c xs ys p q = record {
  alike = (q.alike.0 ∙ p.alike.0, q.alike.1 ∙ p.alike.1);
  leads = λ first front h. subst (λ steps. IsGrown first steps c) (append_assoc front xs ys) (q.leads first (front ++ xs) (p.leads first front h));
}

-- a step is refused, and nothing was played
pub fills_step : (a b : GrowingState) (e : Step) (q : Quiet) → q ≡ quiet_of (reply a.session e) → (q ≡ quiets.Played → ⊥) → b ≡ with_step a e → Fills a (e ∷ []) b
fills_step a b e q is refused went =
    let no_room : Fits a.session e → ⊥ = λ fits. refused (is ∙ fits) in
    let same : b ≡ a = went ∙ ap (λ m. record a { session = m }) (was_refused a.session e no_room) in
    record {
      fit = [];
      refused = e;
      more = [];
      steps_are = refl;
      goes_on = subst (λ s. GoesOn a [] s) (sym same) (goes_none a);
      no_room = rw same no_room;
    }

pub fills_more : (a b c : GrowingState) (xs ys : List Step) → GoesOn a xs b → Fills b ys c → Fills a (xs ++ ys) c
fills_more a b c xs ys p f = record {
  fit = xs ++ f.fit;
  refused = f.refused;
  more = f.more;
  steps_are = ap (λ x. xs ++ x) f.steps_are ∙ sym (append_assoc xs f.fit (f.refused ∷ f.more));
  goes_on = goes_more a b c xs f.fit p f.goes_on;
  no_room = f.no_room;
}

pub fills_front : (a b : GrowingState) (xs ys : List Step) → Fills a xs b → Fills a (xs ++ ys) b
fills_front a b xs ys f = record {
  fit = f.fit;
  refused = f.refused;
  more = f.more ++ ys;
  steps_are = ap (λ x. x ++ ys) f.steps_are ∙ append_assoc f.fit (f.refused ∷ f.more) ys;
  goes_on = f.goes_on;
  no_room = f.no_room;
}

-- ---- at first

rooted_first : (k : Keeping) → IsRooted k 0 0
rooted_first Nothing = refl
rooted_first (Tree life) = refl
rooted_first Last = omega arith
rooted_first (Behind steps life) = (omega arith, λ none. absurd (none refl))

pub grown_first : (first : State) (s : GrowingState) → s.before ≡ 0 → s.session ≡ from_state first → IsGrown first [] s
grown_first first s before session = record {
  grew = record { front = []; back = []; steps_are = refl; before_is = before; plays = session };
  rooted = rw (before, session) (rooted_first s.keeping);
}
