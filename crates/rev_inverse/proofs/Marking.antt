-- The queues of some classes change at their ends, one queue after another.
use Rattle.std.specs.Prelude.{ℕ, ◌≡◌, ◌+◌, ◌/◌, ◌%◌, ◌<◌, ◌≤◌, Bool, true, false, cond, not, ◌&&◌, ◌||◌, List, [], ◌∷◌, ◌++◌, Option, length, slice_index_or, slice_set, zero, suc, refl}
use Rattle.std.proofs.Common.{sym, ◌∙◌, ap, subst, arith, inl, inr}
use Rattle.std.proofs.lemmas.Bool.{cases_Bool, cases_eq, false≢true, true≢false}
use Rattle.std.proofs.lemmas.List.{get_or-set_same, get_or-set_other, length-set}
use Rattle.rev_model.specs.Chunk.{same_entry}
use Rattle.rev_model.specs.Lists.{has, distinct, without, behind, insert, has_after}
use Rattle.rev_model.specs.State.{State, WellFormed, queue_of, queue_place, queue_number}
use Rattle.rev_model.specs.declared.Queue.{Queue}
use Rattle.rev_model.specs.Move.{with_queue, front, last_or, marked, unmarked, NoMarks, EndMarks, names, names_other, is_class}
use Rattle.rev_model.proofs.Undo.{tells_entry, few, distinct_from_counts}
use Rattle.rev_model.specs.declared.ClassSet.{ClassSet}
use Rattle.rev_model.specs.declared.Entry.{Entry}
use Rattle.rev_model.specs.declared.Entry.TheVariants.{Mark}
use Rattle.rev_queues.specs.Entries.{last_of}

-- ---- one queue

has_last : (e : Entry) (es : List Entry) → has same_entry (last_or e es) (e ∷ es) ≡ true
has_last e [] = rw (tells_entry.self e) refl
has_last e (d ∷ ds) = elim (cases_Bool (same_entry (last_or d ds) e)) [ inl f ↦ rw f refl | inr f ↦ rw f (has_last d ds) ]

-- the last entry is there
last_there : (l : List Entry) → has_after same_entry (last_of l) l ≡ true
last_there [] = refl
last_there (e ∷ es) = has_last e es

pub after_last : (o : Option Entry) (l : List Entry) → o ≡ last_of l → has_after same_entry o l ≡ true
after_last o l e = ap (λ k. has_after same_entry k l) e ∙ last_there l

behind_last : (x e : Entry) (es : List Entry) → distinct same_entry (e ∷ es) ≡ true → behind same_entry (last_or e es) x (e ∷ es) ≡ (e ∷ es) ++ x ∷ []
behind_last x e [] d = rw (tells_entry.self e) refl
behind_last x e (f ∷ fs) d = elim (cases_Bool (has same_entry e (f ∷ fs))) [
  | inl h ↦ absurd (false≢true (rw h at d))
  | inr h ↦ elim (cases_Bool (same_entry (last_or f fs) e)) [
    | inl g ↦ absurd (true≢false (sym (ap (λ z. has same_entry z (f ∷ fs)) (sym (tells_entry.exact (last_or f fs) e g)) ∙ has_last f fs) ∙ h))
    | inr g ↦ rw g (ap (λ l. e ∷ l) (behind_last x f fs (rw h at d)))
  ]
]

-- what enters behind the last entry stands at the end
pub insert_last : (x : Entry) (l : List Entry) → distinct same_entry l ≡ true → insert same_entry x (last_of l) l ≡ l ++ x ∷ []
insert_last x [] d = refl
insert_last x (e ∷ es) d = behind_last x e es d

has_end : (x : Entry) (l : List Entry) → has same_entry x (l ++ x ∷ []) ≡ true
has_end x [] = rw (tells_entry.self x) refl
has_end x (e ∷ es) = elim (cases_Bool (same_entry x e)) [ inl f ↦ rw f refl | inr f ↦ rw f (has_end x es) ]

without_end : (x : Entry) (l : List Entry) → distinct same_entry (l ++ x ∷ []) ≡ true → without same_entry x (l ++ x ∷ []) ≡ l
without_end x [] d = rw (tells_entry.self x) refl
without_end x (e ∷ es) d = elim (cases_Bool (has same_entry e (es ++ x ∷ []))) [
  | inl h ↦ absurd (false≢true (rw h at d))
  | inr h ↦ elim (cases_Bool (same_entry x e)) [
    | inl f ↦ absurd (true≢false (sym (ap (λ z. has same_entry z (es ++ x ∷ [])) (sym (tells_entry.exact x e f)) ∙ has_end x es) ∙ h))
    | inr f ↦ rw f (ap (λ l. e ∷ l) (without_end x es (rw h at d)))
  ]
]

-- a list that ends in an entry has it, and without it is the part before
pub end_there : (x : Entry) (l : List Entry) → front l ++ x ∷ [] ≡ l → has same_entry x l ≡ true
end_there x l e = subst (λ k. has same_entry x k ≡ true) e (has_end x (front l))

pub end_taken : (x : Entry) (l : List Entry) → front l ++ x ∷ [] ≡ l → distinct same_entry l ≡ true → without same_entry x l ≡ front l
end_taken x l e d = ap (without same_entry x) (sym e) ∙ without_end x (front l) (ap (distinct same_entry) e ∙ d)

-- ---- all queues

-- the queues of the places below n are changed where their class is named, and the others are as they were
pub record IsChangedBelow (change : List Entry → List Entry) (named : ℕ → Bool) (n : ℕ) (old now : List (List Entry)) : Type 0 where
  pub same_length : length now ≡ length old
  pub below : (k : ℕ) → k < n → slice_index_or now k [] ≡ cond (named (k / 4)) (change (slice_index_or old k [])) (slice_index_or old k [])
  pub above : (k : ℕ) → n ≤ k → slice_index_or now k [] ≡ slice_index_or old k []

module _ (change : List Entry → List Entry) (named : ℕ → Bool) where
  pub none_changed : (old : List (List Entry)) → named 0 ≡ false → IsChangedBelow change named 4 old old
  none_changed old e = record {
    same_length = refl;
    below = λ k lt. let z : k / 4 ≡ 0 = omega (arith, lt) in sym (ap (λ j. cond (named j) (change (slice_index_or old k [])) (slice_index_or old k [])) z ∙ rw e refl);
    above = λ k le. refl;
  }

  -- a queue of a named class changes
  pub changed_more : (n : ℕ) (old now : List (List Entry)) → named (n / 4) ≡ true → n < length old → IsChangedBelow change named n old now → IsChangedBelow change named (n + 1) old (slice_set now n (change (slice_index_or now n [])))
  changed_more n old now e lt h =
      let here : n < length now = omega (arith, lt, h.same_length) in
      record {
        same_length = length-set now n (change (slice_index_or now n [])) ∙ h.same_length;
        below = λ k less. elim (cases_eq k n) [
          | inl same ↦ ap (λ j. slice_index_or (slice_set now n (change (slice_index_or now n []))) j []) same
              ∙ get_or-set_same now n (change (slice_index_or now n [])) [] here
              ∙ ap change (h.above n (omega arith))
              ∙ sym (ap (λ j. cond (named (j / 4)) (change (slice_index_or old j [])) (slice_index_or old j [])) same ∙ rw e refl)
          | inr ne ↦ get_or-set_other now n k (change (slice_index_or now n [])) [] ne ∙ h.below k (omega (arith, less, ne))
        ];
        above = λ k le. get_or-set_other now n k (change (slice_index_or now n [])) [] (λ e. omega (arith, le, e)) ∙ h.above k (omega (arith, le));
      }

  -- a queue of another class does not
  pub changed_not : (n : ℕ) (old now : List (List Entry)) → named (n / 4) ≡ false → IsChangedBelow change named n old now → IsChangedBelow change named (n + 1) old now
  changed_not n old now e h = record {
    same_length = h.same_length;
    below = λ k less. elim (cases_eq k n) [
      | inl same ↦ ap (λ j. slice_index_or now j []) same ∙ h.above n (omega arith)
          ∙ sym (ap (λ j. cond (named (j / 4)) (change (slice_index_or old j [])) (slice_index_or old j [])) same ∙ rw e refl)
      | inr ne ↦ h.below k (omega (arith, less, ne))
    ];
    above = λ k le. h.above k (omega (arith, le));
  }

-- every place is changed as its class says
abbrev pub changed_from : (List Entry → List Entry) → (ℕ → Bool) → ℕ → List (List Entry) → List (List Entry)
changed_from change named p [] = []
changed_from change named p (l ∷ ls) = cond (named (p / 4)) (change l) l ∷ changed_from change named (suc p) ls

all_changed : (change : List Entry → List Entry) (named : ℕ → Bool) (p : ℕ) (old now : List (List Entry)) → length now ≡ length old → ((k : ℕ) → k < length old → slice_index_or now k [] ≡ cond (named ((p + k) / 4)) (change (slice_index_or old k [])) (slice_index_or old k [])) → now ≡ changed_from change named p old
all_changed change named p [] [] e h = refl
all_changed change named p [] (l ∷ ls) e h = absurd (omega (arith, e))
all_changed change named p (l ∷ ls) [] e h = absurd (omega (arith, e))
all_changed change named p (l ∷ ls) (m ∷ ms) e h =
    let here : m ≡ cond (named (p / 4)) (change l) l = h 0 (omega arith) ∙ ap (λ j. cond (named (j / 4)) (change l) l) (omega arith) in
    let rest : ms ≡ changed_from change named (suc p) ls = all_changed change named (suc p) ls ms (omega (arith, e)) (λ k lt. h (suc k) (omega (arith, lt)) ∙ ap (λ j. cond (named (j / 4)) (change (slice_index_or ls k [])) (slice_index_or ls k [])) (omega arith)) in
    λ i. here i ∷ rest i

pub end_changed : (change : List Entry → List Entry) (named : ℕ → Bool) (n : ℕ) (old now : List (List Entry)) → length old ≤ n → IsChangedBelow change named n old now → now ≡ changed_from change named 0 old
end_changed change named n old now le h = all_changed change named 0 old now h.same_length (λ k lt. h.below k (omega (arith, le, lt)) ∙ ap (λ j. cond (named (j / 4)) (change (slice_index_or old k [])) (slice_index_or old k [])) (omega arith))

abbrev pub with_mark : List Entry → List Entry
with_mark l = l ++ Mark ∷ []

pub marked_is : (named : ℕ → Bool) (p : ℕ) (ls : List (List Entry)) → changed_from with_mark named p ls ≡ marked named p ls
marked_is named p [] = refl
marked_is named p (l ∷ ls) = ap (λ k. cond (named (p / 4)) (l ++ Mark ∷ []) l ∷ k) (marked_is named (suc p) ls)

pub unmarked_is : (named : ℕ → Bool) (p : ℕ) (ls : List (List Entry)) → changed_from front named p ls ≡ unmarked named p ls
unmarked_is named p [] = refl
unmarked_is named p (l ∷ ls) = ap (λ k. cond (named (p / 4)) (front l) l ∷ k) (unmarked_is named (suc p) ls)

-- ---- what a set of classes owes
no_mark_from : (named : ℕ → Bool) (p : ℕ) (ls : List (List Entry)) → NoMarks named p ls → (k : ℕ) → named ((p + k) / 4) ≡ true → has same_entry Mark (slice_index_or ls k []) ≡ false
no_mark_from named p [] h k e = refl
no_mark_from named p (l ∷ ls) h zero e = h.0 (ap (λ j. named (j / 4)) (omega arith) ∙ e)
no_mark_from named p (l ∷ ls) h (suc k) e = no_mark_from named (suc p) ls h.1 k (ap (λ j. named (j / 4)) (omega arith) ∙ e)

pub no_mark_at : (named : ℕ → Bool) (ls : List (List Entry)) → NoMarks named 0 ls → (k : ℕ) → named (k / 4) ≡ true → has same_entry Mark (slice_index_or ls k []) ≡ false
no_mark_at named ls h k e = no_mark_from named 0 ls h k (ap (λ j. named (j / 4)) (omega arith) ∙ e)

end_mark_from : (named : ℕ → Bool) (p : ℕ) (ls : List (List Entry)) → EndMarks named p ls → (k : ℕ) → k < length ls → named ((p + k) / 4) ≡ true → front (slice_index_or ls k []) ++ Mark ∷ [] ≡ slice_index_or ls k []
end_mark_from named p [] h k lt e = absurd (omega (arith, lt))
end_mark_from named p (l ∷ ls) h zero lt e = h.0 (ap (λ j. named (j / 4)) (omega arith) ∙ e)
end_mark_from named p (l ∷ ls) h (suc k) lt e = end_mark_from named (suc p) ls h.1 k (omega (arith, lt)) (ap (λ j. named (j / 4)) (omega arith) ∙ e)

pub end_mark_at : (named : ℕ → Bool) (ls : List (List Entry)) → EndMarks named 0 ls → (k : ℕ) → k < length ls → named (k / 4) ≡ true → front (slice_index_or ls k []) ++ Mark ∷ [] ≡ slice_index_or ls k []
end_mark_at named ls h k lt e = end_mark_from named 0 ls h k lt (ap (λ j. named (j / 4)) (omega arith) ∙ e)

-- a set that names no number but classes does not name the pool
pub pool_not_named : (s : State) (set : ClassSet) (n : ℕ) → names_other (suc n) s set ≡ false → names s set 0 ≡ false
pool_not_named s set zero h = elim (cases_Bool (names s set 0)) [ inl e ↦ absurd (true≢false (rw e at h)) | inr e ↦ e ]
pool_not_named s set (suc n) h = elim (cases_Bool (names_other (suc n) s set)) [
  | inl e ↦ absurd (true≢false (sym (or_right (names s set (suc n) && not (is_class s (suc n))) (names_other (suc n) s set) e) ∙ h))
  | inr e ↦ pool_not_named s set n e
]
  where
    or_right : (a b : Bool) → b ≡ true → (a || b) ≡ true
    or_right true b e = refl
    or_right false b e = e

-- one step of a loop over the places
module _ (change : List Entry → List Entry) (s : State) (set : ClassSet) (now : State) (place : ℕ) (is : now ≡ record s { queues = now.queues }) (h : IsChangedBelow change (names s set) place s.queues now.queues) where
  pub named_same : (c : ℕ) → names now set c ≡ names s set c
  named_same c = ap (λ (t : State). names t set c) is

  pub place_is : (q : Queue) → queue_number q ≡ place % 4 → queue_place (place / 4) q ≡ place
  place_is q e = omega (arith, e)

  pub here_is : (q : Queue) → queue_number q ≡ place % 4 → queue_of now (place / 4) q ≡ slice_index_or s.queues place []
  here_is q e = ap (λ k. slice_index_or now.queues k []) (place_is q e) ∙ h.above place (omega arith)

  pub step_apart : WellFormed s → (q : Queue) → queue_number q ≡ place % 4 → distinct same_entry (queue_of now (place / 4) q) ≡ true
  step_apart well q e = ap (distinct same_entry) (here_is q e) ∙ distinct_from_counts same_entry tells_entry (slice_index_or s.queues place []) (few s well place)

  pub step_none : NoMarks (names s set) 0 s.queues → (q : Queue) → queue_number q ≡ place % 4 → names now set (place / 4) ≡ true → has same_entry Mark (queue_of now (place / 4) q) ≡ false
  step_none none q e named = ap (has same_entry Mark) (here_is q e) ∙ no_mark_at (names s set) s.queues none place (sym (named_same (place / 4)) ∙ named)

  pub step_end : EndMarks (names s set) 0 s.queues → (q : Queue) → queue_number q ≡ place % 4 → names now set (place / 4) ≡ true → place < length s.queues → front (queue_of now (place / 4) q) ++ Mark ∷ [] ≡ queue_of now (place / 4) q
  step_end ends q e named lt = subst (λ l. front l ++ Mark ∷ [] ≡ l) (sym (here_is q e)) (end_mark_at (names s set) s.queues ends place lt (sym (named_same (place / 4)) ∙ named))

  pub step_changed : (q : Queue) → queue_number q ≡ place % 4 → names now set (place / 4) ≡ true → place < length s.queues → (next : State) → next ≡ with_queue now (place / 4) q (change (queue_of now (place / 4) q)) → (next ≡ record s { queues = next.queues }) × IsChangedBelow change (names s set) (place + 1) s.queues next.queues
  step_changed q e named lt next eq =
      let queues : next.queues ≡ slice_set now.queues place (change (slice_index_or now.queues place [])) = ap (λ (t : State). t.queues) eq ∙ ap (λ k. slice_set now.queues k (change (slice_index_or now.queues k []))) (place_is q e) in (
        eq ∙ ap (λ (t : State). with_queue t (place / 4) q (change (queue_of now (place / 4) q))) is ∙ ap (λ l. record s { queues = l }) (sym (ap (λ (t : State). t.queues) eq)),
        subst (IsChangedBelow change (names s set) (place + 1) s.queues) (sym queues) (changed_more change (names s set) place s.queues now.queues (sym (named_same (place / 4)) ∙ named) lt h),
      )

  pub step_not : names now set (place / 4) ≡ false → (next : State) → next ≡ now → (next ≡ record s { queues = next.queues }) × IsChangedBelow change (names s set) (place + 1) s.queues next.queues
  step_not named next eq = subst (λ (t : State). (t ≡ record s { queues = t.queues }) × IsChangedBelow change (names s set) (place + 1) s.queues t.queues) (sym eq) (is, changed_not change (names s set) place s.queues now.queues (sym (named_same (place / 4)) ∙ named) h)
