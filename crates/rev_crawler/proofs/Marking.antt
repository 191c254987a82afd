-- Which classes a set names, and the marks that enter their queues.
use Rattle.std.specs.Prelude.{ℕ, ◌≡◌, ◌+◌, ◌/◌, ◌<◌, ◌≤◌, Bool, true, false, cond, not, ◌&&◌, ◌||◌, List, [], ◌∷◌, ◌++◌, Option, length, slice_index_or, zero, suc, refl}
use Rattle.std.specs.List.{sum_by}
use Rattle.std.proofs.Common.{sym, ◌∙◌, ap, arith, inl, inr}
use Rattle.std.proofs.lemmas.Bool.{cases_Bool, cases_eq, true≢false}
use Rattle.std.proofs.lemmas.Grind.{common_steps}
use Rattle.std.proofs.lemmas.List.Sums.{sum_by-cons}
use Rattle.rev_model.specs.Chunk.{same_entry}
use Rattle.rev_model.specs.Lists.{has, count}
use Rattle.rev_model.specs.State.{State, WellFormed, queue_of, queue_place, IsClass}
use Rattle.rev_model.specs.Move.{moved, MarksIn, Possible, Ready, NoMarks, is_class, names, names_other, marked}
use Rattle.rev_model.specs.Actor.{has_mark, is_busy, crawl_start}
use Rattle.rev_model.specs.Sound.{Sound}
use Rattle.rev_model.proofs.Undo.{count_none}
use Rattle.rev_model.specs.declared.ChunkRef.{ChunkRef}
use Rattle.rev_model.specs.declared.ClassSet.{ClassSet}
use Rattle.rev_model.specs.declared.Entry.{Entry}
use Rattle.rev_model.specs.declared.Entry.TheVariants.{Chunk, Mark}
use Rattle.rev_model.specs.declared.Outcome.TheVariants.{Okay}
use Rattle.rev_model.specs.declared.Queue.{Queue}
use Rattle.rev_model.specs.declared.Queue.TheVariants.{Hot, Warm, Cold, Temp}
use Rattle.rev_edits.proofs.Rest.{Rest}
use Rattle.rev_edits.proofs.Seats.{place_parts}
use Rattle.rev_crawler.proofs.Passing.{case_three}
use Rattle.rev_crawler.proofs.Counting.{has-mark_last, count-mark_last, marks-mark_last, rest-queues}

neither : (a b : Bool) → (a || b) ≡ false → (a ≡ false) × (b ≡ false)
neither true b e = absurd (true≢false e)
neither false b e = (refl, e)

or_right : (a b : Bool) → b ≡ true → (a || b) ≡ true
or_right true b e = refl
or_right false b e = e

-- ---- numbers that are no classes

pub class_is : (s : State) (c : ℕ) → is_class s c ≡ true → IsClass s.fixed c
class_is s c e = (grind (arith, common_steps), grind (arith, common_steps))

-- a class is not among them
other_more : (s : State) (set : ClassSet) (c : ℕ) → names_other c s set ≡ false → (names s set c && not (is_class s c)) ≡ false → names_other (c + 1) s set ≡ false
other_more s set c e out = let next : c + 1 ≡ suc c = omega arith in rw (next, out) e

pub other_unnamed : (s : State) (set : ClassSet) (c : ℕ) → names_other c s set ≡ false → names s set c ≡ false → names_other (c + 1) s set ≡ false
other_unnamed s set c e out = other_more s set c e (rw out refl)

pub other_class : (s : State) (set : ClassSet) (c : ℕ) → names_other c s set ≡ false → is_class s c ≡ true → names_other (c + 1) s set ≡ false
other_class s set c e is = other_more s set c e (elim (cases_Bool (names s set c)) [ inl f ↦ rw (f, is) refl | inr f ↦ rw f refl ])

-- what is named and no class is
pub other_found : (s : State) (set : ClassSet) (n c : ℕ) → c < n → names s set c ≡ true → is_class s c ≡ false → names_other n s set ≡ true
other_found s set zero c lt named out = absurd (omega (arith, lt))
other_found s set (suc n) c lt named out = elim (cases_eq c n) [
  | inl e ↦
      let here : (names s set n && not (is_class s n)) ≡ true = ap (λ k. names s set k && not (is_class s k)) (sym e) ∙ rw (named, out) refl in
      rw here refl
  | inr ne ↦ or_right (names s set n && not (is_class s n)) (names_other n s set) (other_found s set n c (omega (arith, lt, ne)) named out)
]

-- where there is none, each number that is named is a class
pub named_class : (s : State) (set : ClassSet) (n c : ℕ) → names_other n s set ≡ false → c < n → names s set c ≡ true → is_class s c ≡ true
named_class s set n c e lt named = elim (cases_Bool (is_class s c)) [
  | inl f ↦ f
  | inr f ↦ absurd (true≢false (sym (other_found s set n c lt named f) ∙ e))
]

-- ---- classes that have a mark

busy_more : (s : State) (set : ClassSet) (c : ℕ) → is_busy c s set ≡ false → (names s set c && has_mark s c) ≡ false → is_busy (c + 1) s set ≡ false
busy_more s set c e out = let next : c + 1 ≡ suc c = omega arith in rw (next, out) e

pub busy_unnamed : (s : State) (set : ClassSet) (c : ℕ) → is_busy c s set ≡ false → names s set c ≡ false → is_busy (c + 1) s set ≡ false
busy_unnamed s set c e out = busy_more s set c e (rw out refl)

pub busy_unmarked : (s : State) (set : ClassSet) (c : ℕ) → is_busy c s set ≡ false → has_mark s c ≡ false → is_busy (c + 1) s set ≡ false
busy_unmarked s set c e out = busy_more s set c e (elim (cases_Bool (names s set c)) [ inl f ↦ rw (f, out) refl | inr f ↦ rw f refl ])

pub busy_found : (s : State) (set : ClassSet) (n c : ℕ) → c < n → names s set c ≡ true → has_mark s c ≡ true → is_busy n s set ≡ true
busy_found s set zero c lt named is = absurd (omega (arith, lt))
busy_found s set (suc n) c lt named is = elim (cases_eq c n) [
  | inl e ↦
      let here : (names s set n && has_mark s n) ≡ true = ap (λ k. names s set k && has_mark s k) (sym e) ∙ rw (named, is) refl in
      rw here refl
  | inr ne ↦ or_right (names s set n && has_mark s n) (is_busy n s set) (busy_found s set n c (omega (arith, lt, ne)) named is)
]

no_mark-class : (s : State) (set : ClassSet) (n c : ℕ) → is_busy n s set ≡ false → c < n → names s set c ≡ true → has_mark s c ≡ false
no_mark-class s set n c e lt named = elim (cases_Bool (has_mark s c)) [
  | inl f ↦ absurd (true≢false (sym (busy_found s set n c lt named f) ∙ e))
  | inr f ↦ f
]

no_mark-queue : (s : State) (c : ℕ) → has_mark s c ≡ false → (q : Queue) → has same_entry Mark (queue_of s c q) ≡ false
no_mark-queue s c e = each
  where
    mark_in : Queue → Bool
    mark_in q = has same_entry Mark (queue_of s c q)

    others : (mark_in Warm || (mark_in Cold || mark_in Temp)) ≡ false
    others = (neither (mark_in Hot) (mark_in Warm || (mark_in Cold || mark_in Temp)) e).1

    last : (mark_in Cold || mark_in Temp) ≡ false
    last = (neither (mark_in Warm) (mark_in Cold || mark_in Temp) others).1

    each : (q : Queue) → has same_entry Mark (queue_of s c q) ≡ false
    each Hot = (neither (mark_in Hot) (mark_in Warm || (mark_in Cold || mark_in Temp)) e).0
    each Warm = (neither (mark_in Warm) (mark_in Cold || mark_in Temp) others).0
    each Cold = (neither (mark_in Cold) (mark_in Temp) last).0
    each Temp = (neither (mark_in Cold) (mark_in Temp) last).1

class_of_place : (n c : ℕ) (q : Queue) → n ≡ queue_place c q → n / 4 ≡ c
class_of_place n c Hot e = omega (arith, e)
class_of_place n c Warm e = omega (arith, e)
class_of_place n c Cold e = omega (arith, e)
class_of_place n c Temp e = omega (arith, e)

-- a queue of a class that is named
no_mark-place : (s : State) (set : ClassSet) → is_busy 64 s set ≡ false → (n : ℕ) → n / 4 < 64 → names s set (n / 4) ≡ true → has same_entry Mark (slice_index_or s.queues n []) ≡ false
no_mark-place s set e n lt named =
    let parts = place_parts n in
    let c = parts.0 in
    let q = parts.1.0 in
    let class : n / 4 ≡ parts.0 = class_of_place n parts.0 parts.1.0 parts.1.1 in
    ap (λ k. has same_entry Mark (slice_index_or s.queues k [])) parts.1.1
    ∙ no_mark-queue s c (ap (has_mark s) (sym class) ∙ no_mark-class s set 64 (n / 4) e lt named) q

no_marks : (named : ℕ → Bool) (p : ℕ) (ls : List (List Entry)) → ((k : ℕ) → k < length ls → named ((p + k) / 4) ≡ true → has same_entry Mark (slice_index_or ls k []) ≡ false) → NoMarks named p ls
no_marks named p [] h = tt
no_marks named p (l ∷ ls) h = (
  λ e. h 0 (omega arith) (ap (λ k. named (k / 4)) (omega arith) ∙ e),
  no_marks named (suc p) ls (λ k lt e. h (suc k) (omega (arith, lt)) (ap (λ j. named (j / 4)) (omega arith) ∙ e)),
)

-- a set of classes that have no mark
pub ready_marks : (s : State) → Sound s → (set : ClassSet) → names_other 64 s set ≡ false → is_busy 64 s set ≡ false → Ready (MarksIn set) s
ready_marks s sound set known free = (
  known,
  no_marks (names s set) 0 s.queues (λ k lt e. no_mark-place s set free k (omega (arith, lt, sound.well.lists.queues_length, sound.kept.table.sizes.few)) (ap (λ j. names s set (j / 4)) (omega arith) ∙ e)),
)

-- ---- the marks enter

module _ (named : ℕ → Bool) where
  length-marked : (p : ℕ) (ls : List (List Entry)) → length (marked named p ls) ≡ length ls
  length-marked p [] = refl
  length-marked p (l ∷ ls) = ap suc (length-marked (suc p) ls)

  has-marked : (p : ℕ) (ls : List (List Entry)) (k : ℕ) (x : ChunkRef) → has same_entry (Chunk x) (slice_index_or (marked named p ls) k []) ≡ has same_entry (Chunk x) (slice_index_or ls k [])
  has-marked p [] k x = refl
  has-marked p (l ∷ ls) zero x = elim (cases_Bool (named (p / 4))) [ inl e ↦ rw e (has-mark_last x l) | inr e ↦ rw e refl ]
  has-marked p (l ∷ ls) (suc k) x = has-marked (suc p) ls k x

  sum-marked : (p : ℕ) (ls : List (List Entry)) (x : ChunkRef) → sum_by (count same_entry (Chunk x)) (marked named p ls) ≡ sum_by (count same_entry (Chunk x)) ls
  sum-marked p [] x = refl
  sum-marked p (l ∷ ls) x =
      let f = count same_entry (Chunk x) in
      let m = cond (named (p / 4)) (l ++ Mark ∷ []) l in
      let here : count same_entry (Chunk x) m ≡ count same_entry (Chunk x) l = elim (cases_Bool (named (p / 4))) [ inl e ↦ rw e (count-mark_last x l) | inr e ↦ rw e refl ] in
      let more : sum_by f (marked named (suc p) ls) ≡ sum_by f ls = sum-marked (suc p) ls x in
      sum_by-cons f m (marked named (suc p) ls) ∙ ap (λ n. n + sum_by f (marked named (suc p) ls)) here ∙ ap (λ n. f l + n) more ∙ sym (sum_by-cons f l ls)

  one_mark-marked : (p : ℕ) (ls : List (List Entry)) → NoMarks named p ls → ((k : ℕ) → count same_entry Mark (slice_index_or ls k []) ≤ 1) → (k : ℕ) → count same_entry Mark (slice_index_or (marked named p ls) k []) ≤ 1
  one_mark-marked p [] h one k = omega arith
  one_mark-marked p (l ∷ ls) h one zero = elim (cases_Bool (named (p / 4))) [
    | inl e ↦ rw e (omega (arith, marks-mark_last l, count_none same_entry Mark l (h.0 e)))
    | inr e ↦ rw e (one 0)
  ]
  one_mark-marked p (l ∷ ls) h one (suc k) = one_mark-marked (suc p) ls h.1 (λ j. one (suc j)) k

pub keeps-marks : (s : State) → WellFormed s → (set : ClassSet) → Ready (MarksIn set) s → Possible (MarksIn set) s
keeps-marks s well set r = record {
  ready = r;
  after = record {
    lists = record {
      free_length = well.lists.free_length;
      queues_length = length-marked (names s set) 0 s.queues ∙ well.lists.queues_length;
      free_of_class = well.lists.free_of_class;
      queued_of_class = λ c q x h. well.lists.queued_of_class c q x (sym (has-marked (names s set) 0 s.queues (queue_place c q) x) ∙ h);
      once = λ x. omega (arith, well.lists.once x, sum-marked (names s set) 0 s.queues x);
      one_mark = one_mark-marked (names s set) 0 s.queues r.1 well.lists.one_mark;
    };
    filled = record {
      queued_items = λ p x h. well.filled.queued_items p x (sym (has-marked (names s set) 0 s.queues p x) ∙ h);
      items = well.filled.items;
    };
    index = well.index;
    owned = well.owned;
    bump = well.bump;
    counters = well.counters;
  };
}

pub rest-marks : (h : Option ChunkRef) (s : State) (set : ClassSet) → Rest h s → Rest h (record s { queues = marked (names s set) 0 s.queues })
rest-marks h s set = rest-queues h s (marked (names s set) 0 s.queues) (sum-marked (names s set) 0 s.queues)

-- no named class has a mark, as a fact that tells by its set which it is
pub record IsFree (s : State) (set : ClassSet) : Type 0 where
  pub free : is_busy 64 s set ≡ false

pub as_free : (s : State) (set : ClassSet) (r : Bool) → r ≡ is_busy 64 s set → r ≡ false → IsFree s set
as_free s set r e f = record { free = sym e ∙ f }

pub free_marks : (s : State) → Sound s → (set : ClassSet) → names_other 64 s set ≡ false → IsFree s set → Possible (MarksIn set) s
free_marks s sound set known f = keeps-marks s sound.well set (ready_marks s sound set known f.free)

pub start_okay : (s : State) (set : ClassSet) → names_other 64 s set ≡ false → IsFree s set → (t : State) → t ≡ moved (MarksIn set) s → (t, Okay) ≡ crawl_start s set
start_okay s set known f t e = ap (λ (u : State). (u, Okay)) e ∙ case_three (names_other 64 s set) (is_busy 64 s set) _ _ _ known f.free
