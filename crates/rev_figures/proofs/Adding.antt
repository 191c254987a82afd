-- Counts of parts that stand one behind another.
use Rattle.std.proofs.Common.{◌≡◌, ℕ, zero, suc, ◌+◌, ◌-◌, ◌^◌, ◌<◌, ◌≤◌, Bool, true, false, cond, ◌&&◌, min, nat_eq, fold, List, [], ◌∷◌, ◌++◌, Option, Some, None, length, length-append, get_or, slice_get, refl, sym, ◌∙◌, ap, arith}
use Rattle.std.specs.List.{count_by}
use Rattle.std.proofs.lemmas.Grind.{common_steps}
use Rattle.std.proofs.lemmas.List.{append_assoc, append-nil}
use Rattle.std.proofs.lemmas.List.Sums.{sum_by-append}
use Rattle.rev_figures.specs.Classes.{plus, more, with_step}
use Rattle.rev_figures.specs.Tables.{kind_number, is_one, is_counted, is_step, cause_counts, count_left, count_steps, second_of, last_second}
use Rattle.rev_figures.specs.Sums.{capped, capped_causes, both_causes, both_totals, totals_of, capped_steps, capped_lost, with_lost, step_at, lost_at, AreCounts}
use Rattle.rev_figures.specs.declared.path.Leaving.{Leaving}
use Rattle.rev_figures.specs.declared.path.PathStep.{PathStep}
use Rattle.rev_figures.specs.declared.path.StepKind.{StepKind}
use Rattle.rev_figures.specs.declared.path.StepKind.TheVariants as kind
use Rattle.rev_figures.specs.declared.tables.CauseCounts.{CauseCounts}
use Rattle.rev_figures.specs.declared.tables.Totals.{Totals}
use Rattle.rev_figures.specs.declared.tables.Which.{Which}
use Rattle.rev_figures.specs.declared.tables.Which.TheVariants.{By, AllEvicted, Unfetched}
use Rattle.rev_figures.specs.declared.by_class.StepCounts.{StepCounts}
use Rattle.rev_figures.specs.declared.sums.LostCounts.{LostCounts}
use Rattle.rev_model.specs.declared.Cause.TheVariants.{Evicted, ReclaimedByPull, ReclaimedByCrawler, ReclaimedByHit, ReclaimedByMover, EvictedByMover, Deleted, DroppedByFailedSet}

-- a number more, where the first was capped
capped_plus : (n m : ℕ) → plus (capped n) m ≡ capped (n + m)
capped_plus n m = grind (arith, common_steps)

more_capped : (q : Bool) (n : ℕ) → more q (capped n) ≡ capped (n + cond q 1 0)
more_capped true n = capped_plus n 1
more_capped false n = ap capped (omega arith)

module _ {X : Type 0} (p : X → Bool) where
  count-append : (xs ys : List X) → count_by p (xs ++ ys) ≡ count_by p xs + count_by p ys
  count-append xs ys = sum_by-append (λ x. cond (p x) 1 0) xs ys

  -- the counts of two lists together
  capped_count : (xs ys : List X) → plus (capped (count_by p xs)) (count_by p ys) ≡ capped (count_by p (xs ++ ys))
  capped_count xs ys = capped_plus (count_by p xs) (count_by p ys) ∙ ap capped (sym (count-append xs ys))

  -- the count with one more, or not
  counted_end : (xs : List X) (x : X) (q : Bool) → p x ≡ q → more q (capped (count_by p xs)) ≡ capped (count_by p (xs ++ x ∷ []))
  counted_end xs x q e =
      let end : count_by p (xs ++ x ∷ []) ≡ count_by p xs + (0 + cond (p x) 1 0) = count-append xs (x ∷ []) in
      more_capped q (count_by p xs) ∙ ap (λ b. capped (count_by p xs + cond b 1 0)) (sym e) ∙ ap capped (omega (arith, end))

-- ---- totals

causes_next : (c : Option ℕ) (ls ks : List Leaving) → both_causes (capped_causes c ls) (cause_counts c ks) ≡ capped_causes c (ls ++ ks)
causes_next c ls ks = rw (by Evicted, by EvictedByMover, by ReclaimedByPull, by ReclaimedByCrawler, by ReclaimedByHit, by ReclaimedByMover, by Deleted, by DroppedByFailedSet) refl
  where
    by : (k : _) → plus (capped (count_left c (By k) ls)) (count_left c (By k) ks) ≡ capped (count_left c (By k) (ls ++ ks))
    by k = capped_count (is_counted c (By k)) ls ks

-- the last row of two lists is that of the second one
last_end : (ss : List PathStep) (p : PathStep) (ps : List PathStep) → slice_get (ss ++ p ∷ ps) (length (ss ++ p ∷ ps) - 1) ≡ slice_get (p ∷ ps) (length (p ∷ ps) - 1)
last_end [] p ps = refl
last_end (s ∷ ss) p ps =
    let down : length (s ∷ (ss ++ p ∷ ps)) - 1 ≡ suc (length (ss ++ p ∷ ps) - 1) = let l = length-append ss (p ∷ ps) in omega (arith, l) in
    ap (slice_get (s ∷ (ss ++ p ∷ ps))) down ∙ last_end ss p ps

-- where there is a row, its second is told
some_second : (t u : ℕ) (p : PathStep) (ps : List PathStep) → last_second t (p ∷ ps) ≡ last_second u (p ∷ ps)
some_second t u p [] = refl
some_second t u p (q ∷ qs) =
    let down : length (p ∷ q ∷ qs) - 1 ≡ suc (length (q ∷ qs) - 1) = omega arith in
    ap (λ i. second_of t (slice_get (p ∷ q ∷ qs) i)) down ∙ some_second t u q qs ∙ ap (λ i. second_of u (slice_get (p ∷ q ∷ qs) i)) (sym down)

second_next : (t : ℕ) (ss ps : List PathStep) → last_second (last_second t ss) ps ≡ last_second t (ss ++ ps)
second_next t ss [] = ap (last_second t) (sym (append-nil ss))
second_next t ss (p ∷ ps) = some_second (last_second t ss) t p ps ∙ ap (second_of t) (sym (last_end ss p ps))

-- the totals of a part more
pub totals_next : (t : ℕ) (ss ps : List PathStep) (ls ks : List Leaving) (now part : Totals) → now ≡ totals_of t ss ls → part.steps ≡ length ps
    → part.hits ≡ count_steps None kind.Hit ps → part.misses ≡ count_steps None kind.Miss ps → part.stores ≡ count_steps None kind.Stored ps → part.left ≡ cause_counts None ks
    → both_totals now part (last_second now.last_second ps) ≡ totals_of t (ss ++ ps) (ls ++ ks)
totals_next t ss ps ls ks now part ne le he me se ce =
    rw (ne, le, he, me, se, ce) (rw (all, by kind.Hit, by kind.Miss, by kind.Stored, causes_next None ls ks, second_next t ss ps) refl)
  where
    all : plus (capped (length ss)) (length ps) ≡ capped (length (ss ++ ps))
    all = capped_plus (length ss) (length ps) ∙ ap capped (sym (length-append ss ps))

    by : (k : StepKind) → plus (capped (count_steps None k ss)) (count_steps None k ps) ≡ capped (count_steps None k (ss ++ ps))
    by k = capped_count (is_step None k) ss ps

-- ---- counts by class

module _ {X N : Type 0} (F : List X → N) (one : N → X → N) (next : (xs : List X) (x : X) → one (F xs) x ≡ F (xs ++ x ∷ [])) where
  -- what is counted of rows one by one is that of all of them
  fold_all : (xs ys : List X) → fold one (F xs) ys ≡ F (xs ++ ys)
  fold_all xs [] = ap F (sym (append-nil xs))
  fold_all xs (y ∷ ys) = ap (λ n. fold one n ys) (next xs y) ∙ fold_all (xs ++ y ∷ []) ys ∙ ap F (append_assoc xs (y ∷ []) ys)

step_next : (c : ℕ) (ss : List PathStep) (s : PathStep) → step_at c (capped_steps c ss) s ≡ capped_steps c (ss ++ s ∷ [])
step_next c ss s = go (nat_eq c s.class) refl
  where
    by : (k : StepKind) (b : Bool) → nat_eq c s.class ≡ b → more (b && nat_eq (kind_number k) (kind_number s.kind)) (capped (count_steps (Some c) k ss)) ≡ capped (count_steps (Some c) k (ss ++ s ∷ []))
    by k b e = counted_end (is_step (Some c) k) ss s (b && nat_eq (kind_number k) (kind_number s.kind)) (ap (λ b. b && nat_eq (kind_number k) (kind_number s.kind)) e)

    go : (b : Bool) → nat_eq c s.class ≡ b → cond b (with_step (capped_steps c ss) s) (capped_steps c ss) ≡ capped_steps c (ss ++ s ∷ [])
    go true e = rw (by kind.Stored true e, by kind.Hit true e) refl
    go false e = rw (sym (by kind.Stored false e), sym (by kind.Hit false e)) refl

lost_next : (c : ℕ) (ls : List Leaving) (l : Leaving) → lost_at c (capped_lost c ls) l ≡ capped_lost c (ls ++ l ∷ [])
lost_next c ls l = go (nat_eq c l.class) refl
  where
    by : (w : Which) (b : Bool) → nat_eq c l.class ≡ b → more (b && is_one w l) (capped (count_left (Some c) w ls)) ≡ capped (count_left (Some c) w (ls ++ l ∷ []))
    by w b e = counted_end (is_counted (Some c) w) ls l (b && is_one w l) (ap (λ b. b && is_one w l) e)

    go : (b : Bool) → nat_eq c l.class ≡ b → cond b (with_lost (capped_lost c ls) l) (capped_lost c ls) ≡ capped_lost c (ls ++ l ∷ [])
    go true e = rw (by (By Evicted) true e, by (By EvictedByMover) true e, by (By ReclaimedByPull) true e, by (By ReclaimedByCrawler) true e, by (By ReclaimedByHit) true e, by (By ReclaimedByMover) true e, by (By Deleted) true e, by (By DroppedByFailedSet) true e, by AllEvicted true e, by Unfetched true e) refl
    go false e = rw (sym (by (By Evicted) false e), sym (by (By EvictedByMover) false e), sym (by (By ReclaimedByPull) false e), sym (by (By ReclaimedByCrawler) false e), sym (by (By ReclaimedByHit) false e), sym (by (By ReclaimedByMover) false e), sym (by (By Deleted) false e), sym (by (By DroppedByFailedSet) false e), sym (by AllEvicted false e), sym (by Unfetched false e)) refl

-- the counts of a part more
pub counts_next : (ss ps : List PathStep) (ls ks : List Leaving) (steps steps' : List StepCounts) (lost lost' : List LostCounts) → AreCounts ss ls steps lost
    → length steps' ≡ length steps → ((c : ℕ) (d : StepCounts) → c < length steps → get_or steps' c d ≡ fold (step_at c) (get_or steps c d) ps)
    → length lost' ≡ length lost → ((c : ℕ) (d : LostCounts) → c < length lost → get_or lost' c d ≡ fold (lost_at c) (get_or lost c d) ks)
    → AreCounts (ss ++ ps) (ls ++ ks) steps' lost'
counts_next ss ps ls ks steps steps' lost lost' w sw sh lw lh = record {
  steps_wide = sw ∙ w.steps_wide;
  lost_wide = lw ∙ w.lost_wide;
  steps = λ c d lt. sh c d (omega (arith, lt, w.steps_wide)) ∙ ap (λ n. fold (step_at c) n ps) (w.steps c d lt) ∙ fold_all (capped_steps c) (step_at c) (step_next c) ss ps;
  lost = λ c d lt. lh c d (omega (arith, lt, w.lost_wide)) ∙ ap (λ n. fold (lost_at c) n ks) (w.lost c d lt) ∙ fold_all (capped_lost c) (lost_at c) (lost_next c) ls ks;
}
