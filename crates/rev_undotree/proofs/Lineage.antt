-- Numbers rise along the way from the root to a node.
use Rattle.std.proofs.Common.{◌≡◌, ℕ, suc, zero, ◌<◌, ◌≤◌, List, [], ◌∷◌, ◌++◌, length, slice_get, refl, arith, Option, Some, None, ◌⊎◌, inl, inr, ⊎_elim}
use Rattle.rev_tree.specs.Rows.{Row, RowsFall, row_of}
use Rattle.rev_tree.specs.Machine.{lineage, lineage_within, nodes_from}

one_number : (m n : ℕ) → Some m ≡ Some n → n ≡ m
one_number m n e = cc

no_number : (n : ℕ) → None ≡ Some n → ⊥
no_number n e = cc

get_push : (l : List ℕ) (n i a : ℕ) → slice_get (l ++ n ∷ []) i ≡ Some a → ((i < length l) × (slice_get l i ≡ Some a)) ⊎ ((i ≡ length l) × (a ≡ n))
get_push [] n zero a e = inr (refl, one_number n a e)
get_push [] n (suc i) a e = absurd (no_number a e)
get_push (x ∷ xs) n zero a e = inl (omega arith, e)
get_push (x ∷ xs) n (suc i) a e = ⊎_elim (λ h. inl (let l = h.0 in omega (arith, l), h.1)) (λ h. inr (let l = h.0 in omega (arith, l), h.1)) (get_push xs n i a e)

-- rising numbers, none over n
Rising : List ℕ → ℕ → Type 0
Rising l n = (i j a b : ℕ) → slice_get l i ≡ Some a → slice_get l j ≡ Some b → i ≤ j → (a ≤ b) × (b ≤ n)

none_rising : (n : ℕ) → Rising [] n
unfolding Rising
none_rising n i j a b e f l = absurd (no_number a e)

push_rising : (l : List ℕ) (m n : ℕ) → m < n → Rising l m → Rising (l ++ n ∷ []) n
unfolding Rising
push_rising l m n w h i j a b e f le = ⊎_elim (λ x. before x) (λ x. at_end x) (get_push l n j b f) where
  both : (j < length l) × (slice_get l j ≡ Some b) → (i < length l) × (slice_get l i ≡ Some a) → (a ≤ b) × (b ≤ n)
  both x y = let z = h i j a b y.1 x.1 le in (z.0, let u = z.1 in omega (arith, u, w))

  before : (j < length l) × (slice_get l j ≡ Some b) → (a ≤ b) × (b ≤ n)
  before x = ⊎_elim (λ y. both x y) (λ y. let u = y.0 in let v = x.0 in absurd (omega (arith, u, v, le))) (get_push l n i a e)

  last : b ≡ n → (i < length l) × (slice_get l i ≡ Some a) → (a ≤ b) × (b ≤ n)
  last x y = let z = h i i a a y.1 y.1 (omega arith) in let u = z.1 in (omega (arith, u, w, x), omega (arith, x))

  at_end : (j ≡ length l) × (b ≡ n) → (a ≤ b) × (b ≤ n)
  at_end x = let v = x.1 in ⊎_elim (λ y. last v y) (λ y. let u = y.1 in (omega (arith, u, v), omega (arith, v))) (get_push l n i a e)

row_rising : (rows : List (Option Row)) → RowsFall rows → (k n : ℕ) → ((m : ℕ) → Rising (lineage_within k rows m) m) → (q : Option Row) → row_of rows n ≡ q → Rising (nodes_from q (λ r. lineage_within k rows r.parent ++ n ∷ [])) n
row_rising rows f k n h None e = none_rising n
row_rising rows f k n h (Some r) e = push_rising (lineage_within k rows r.parent) r.parent n (f n r e) (h r.parent)

within_rising : (rows : List (Option Row)) → RowsFall rows → (k n : ℕ) → Rising (lineage_within k rows n) n
within_rising rows f zero n = none_rising n
within_rising rows f (suc k) n = row_rising rows f k n (λ m. within_rising rows f k m) (row_of rows n) refl

pub lineage_rises : (rows : List (Option Row)) → RowsFall rows → (n i j a b : ℕ) → slice_get (lineage rows n) i ≡ Some a → slice_get (lineage rows n) j ≡ Some b → i ≤ j → a ≤ b
unfolding lineage Rising
lineage_rises rows f n i j a b e g l = (within_rising rows f n n i j a b e g l).0
