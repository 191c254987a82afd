-- A branch without the place where it leaves its parent's run: ways, numbers and changes at their end do not see it.
use Rattle.std.proofs.Common.{◌≡◌, ℕ, ◌<◌, List, [], ◌∷◌, length, refl, ap, sym, ◌∙◌, arith}
use Rattle.rev_tree.specs.Tree.{PlainNode, PlainBranch, Forks}
use Rattle.rev_tree.specs.Places.{with_place}
use Rattle.rev_tree.specs.Ways.{reach, IsWay, at_end}
use Rattle.rev_tree.specs.Rows.{number_after, start_at}
use Rattle.rev_tree.specs.Paths.{IsPath}
use Rattle.rev_tree.specs.Finds.{Found}
use Rattle.rev_tree.specs.declared.junction.Junction.{Junction}

-- a branch as the code sees it has no place
unplaced : (run : List PlainNode) (f : Forks) (b : PlainBranch) → ◌≡◌ {A = PlainBranch} (record { from = 0; run = run; forks = f }) b → b ≡ with_place 0 b
unplaced run f b e = sym e ∙ ap (λ z. with_place 0 z) e

pub reach_empty : (run : List PlainNode) (f : Forks) (b : PlainBranch) (w : List Junction) → ◌≡◌ {A = PlainBranch} (record { from = 0; run = run; forks = f }) b → length w < 1 → b ≡ with_place 0 (reach b w)
reach_empty run f b [] e h = unplaced run f b e
reach_empty run f b (p ∷ ps) e h = absurd (omega (arith, h))

pub way_placed : (k : ℕ) (b : PlainBranch) (w : List Junction) → IsWay (with_place k b) w → IsWay b w
way_placed k b [] h = h
way_placed k b (p ∷ ps) h = h

pub reach_placed : (j k : ℕ) (b : PlainBranch) (w : List Junction) → with_place j (reach b w) ≡ with_place j (reach (with_place k b) w)
reach_placed j k b [] = refl
reach_placed j k b (p ∷ ps) = refl

pub run_placed : (k : ℕ) (b : PlainBranch) (w : List Junction) → (reach b w).run ≡ (reach (with_place k b) w).run
run_placed k b [] = refl
run_placed k b (p ∷ ps) = refl

pub at_end_placed : (f : PlainBranch → PlainBranch) (k : ℕ) (b : PlainBranch) (w : List Junction) → ((c : PlainBranch) → f (with_place k c) ≡ with_place k (f c)) → with_place k (at_end f b w) ≡ at_end f (with_place k b) w
at_end_placed f k b [] h = sym (h b)
at_end_placed f k b (p ∷ ps) h = refl

path_placed : (k : ℕ) (b : PlainBranch) (w : List Junction) (at : ℕ) → IsPath b w at → IsPath (with_place k b) w at
path_placed k b [] at h = h
path_placed k b (p ∷ ps) at h = h

pub path_unplaced : (k : ℕ) (b : PlainBranch) (w : List Junction) (at : ℕ) → IsPath (with_place k b) w at → IsPath b w at
path_unplaced k b [] at h = h
path_unplaced k b (p ∷ ps) at h = h

pub after_placed : (k n : ℕ) (b : PlainBranch) (w : List Junction) (at : ℕ) → number_after (start_at n (with_place k b) w) at (reach (with_place k b) w).run ≡ number_after (start_at n b w) at (reach b w).run
after_placed k n b [] at = refl
after_placed k n b (p ∷ ps) at = refl

pub found_anywhere : (n k : ℕ) (b : PlainBranch) (w v : List Junction) (at : ℕ) → Found n b w v at → Found n (with_place k b) w v at
found_anywhere n k b w v at h = record {
  more = h.more;
  way = h.way;
  path = path_placed k b h.more at h.path;
  inside = h.inside;
  numbered = λ p. after_placed k p b h.more at ∙ h.numbered p;
}
