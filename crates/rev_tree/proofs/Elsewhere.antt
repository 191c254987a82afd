-- What the search at the end of a way says where it finds nothing.
use Rattle.std.proofs.Common.{◌≡◌, ℕ, suc, zero, ◌<◌, ◌≤◌, Bool, true, false, cond, eqb, List, [], ◌∷◌, length, get_or, refl, ap, sym, ◌∙◌, subst, arith, Option, Some, None, IfNone}
use Rattle.std.proofs.lemmas.Bool.Decides.{nat_tests}
use Rattle.std.proofs.lemmas.Bool.{true≢false}
use Rattle.rev_tree.specs.Tree.{PlainNode, PlainBranch, fork_at, count}
use Rattle.rev_tree.specs.Places.{with_place}
use Rattle.rev_tree.specs.Ways.{reach}
use Rattle.rev_tree.specs.Rows.{Row, row, number_after, start_at, find_run}
use Rattle.rev_tree.specs.Paths.{IsPath}
use Rattle.rev_tree.specs.Finds.{IsElsewhere}
use Rattle.rev_tree.proofs.Finds.{number_of, number_after-get}
use Rattle.rev_tree.proofs.Places.{path_unplaced, after_placed}
use Rattle.rev_tree.proofs.Junctions.{behind, way_split}
use Rattle.rev_tree.specs.declared.junction.Junction.{Junction}

pub if_none_weaker : {T : Type 0} (o : Option T) (P Q : Type 0) → (P → Q) → IfNone o P → IfNone o Q
if_none_weaker None P Q f h = f h
if_none_weaker (Some x) P Q f h = tt

cond_none : (t : Bool) (r : Row) (o : Option Row) → cond t (Some r) o ≡ None → (t ≡ false) × (o ≡ None)
cond_none true r o h = cc
cond_none false r o h = (refl, h)

eqb_same : (n m : ℕ) → m ≡ n → eqb n m ≡ true
eqb_same n m e = grind (arith, nat_tests)

-- a run without the number
none_at : (n p : ℕ) (c : Bool) (run : List PlainNode) (k : ℕ) → find_run n p c run ≡ None → k < length run → number_of run k ≡ n → ⊥
none_at n p c [] k h l e = absurd (omega (arith, l))
none_at n p c (x ∷ xs) zero h l e = true≢false (sym (eqb_same n x.number e) ∙ (cond_none (eqb n x.number) (row p x.step c) (find_run n x.number true xs) h).0)
none_at n p c (x ∷ xs) (suc k) h l e = none_at n x.number true xs k (cond_none (eqb n x.number) (row p x.step c) (find_run n x.number true xs) h).1 (omega (arith, l)) e

end_at : (n : ℕ) (run : List PlainNode) → find_run n 0 true run ≡ None → (p at : ℕ) → 0 < at → at ≤ length run → number_after p at run ≡ n → ⊥
end_at n run h p zero i q e = omega (arith, i)
end_at n run h p (suc k) i q e = none_at n 0 true run k h (omega (arith, q)) (sym (number_after-get p k run (omega (arith, q))) ∙ e)

pub elsewhere_end : (n : ℕ) (b : PlainBranch) (w : List Junction) → length w < 1 → ((p : ℕ) (c : Bool) → find_run n p c b.run ≡ None) → IsElsewhere n b w
elsewhere_end n b (q ∷ qs) l h = absurd (omega (arith, l))
elsewhere_end n b [] l h = λ p at i q e. end_at n b.run (h 0 true) p at i q e

-- a way that leaves the tree
at_first : (n : ℕ) (b : PlainBranch) (w : List Junction) (d : Junction) → 1 ≤ length w → IsElsewhere n b (get_or w 0 d ∷ behind w) → IsElsewhere n b w
at_first n b w d o h = subst (λ z. IsElsewhere n b z) (sym (way_split w d o)) h

pub elsewhere_behind_run : (n : ℕ) (b : PlainBranch) (w : List Junction) (d : Junction) → 1 ≤ length w → length b.run < (get_or w 0 d).taken → IsElsewhere n b w
elsewhere_behind_run n b w d o l = at_first n b w d o (λ p at i q e. let m = q.0 in omega (arith, l, m))

pub elsewhere_no_fork : (n : ℕ) (b : PlainBranch) (w : List Junction) (d : Junction) → 1 ≤ length w → count b.forks ≤ (get_or w 0 d).fork → IsElsewhere n b w
elsewhere_no_fork n b w d o l = at_first n b w d o (λ p at i q e. let m = q.1 in omega (arith, l, m))

pub elsewhere_other_place : (n : ℕ) (b c : PlainBranch) (w : List Junction) (d : Junction) → 1 ≤ length w → c ≡ fork_at b.forks (get_or w 0 d).fork → (c.from ≡ (get_or w 0 d).taken → ⊥) → IsElsewhere n b w
elsewhere_other_place n b c w d o e h = at_first n b w d o (λ p at i q f. h (ap (λ z. z.from) e ∙ q.2))

-- not in the fork either
elsewhere_placed : (n k : ℕ) (b : PlainBranch) (w : List Junction) → IsElsewhere n b w → IsElsewhere n (with_place k b) w
elsewhere_placed n k b w h = λ p at i q e. h p at i (path_unplaced k b w at q) (sym (after_placed k p b w at) ∙ e)

pub elsewhere_behind : (n k : ℕ) (b c : PlainBranch) (w : List Junction) (d : Junction) → 1 ≤ length w → with_place k c ≡ fork_at b.forks (get_or w 0 d).fork → IsElsewhere n c (behind w) → IsElsewhere n b w
elsewhere_behind n k b c w d o e h =
    let q : Junction = get_or w 0 d in
    at_first n b w d o (λ p at i y f.
    elsewhere_placed n k c (behind w) h (number_after p q.taken b.run) at i (subst (λ z. IsPath z (behind w) at) (sym e) y.3)
    (ap (λ z. number_after (start_at (number_after p q.taken b.run) z (behind w)) at (reach z (behind w)).run) e ∙ f))
