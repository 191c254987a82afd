-- Forks emptied one after another, as the code does it.
use Rattle.std.proofs.Common.{◌≡◌, ℕ, suc, zero, ◌<◌, ◌≤◌, Bool, true, false, cond, nat_lt, List, [], ◌∷◌, ◌++◌, length, get_or, set, map, take, refl, ap, sym, ◌∙◌, arith}
use Rattle.rev_tree.specs.Tree.{PlainNode, PlainBranch, Forks, bare, fork, forks_of}
use Rattle.rev_tree.specs.Prunes.{trimmed, trimmed_forks, cropped}

-- the first i are done
abbrev pub trim_upto : ℕ → ℕ → List PlainBranch → List PlainBranch
trim_upto k zero bs = bs
trim_upto k (suc i) [] = []
trim_upto k (suc i) (b ∷ bs) = trimmed k b ∷ trim_upto k i bs

module _ {X : Type 0} (v : X → PlainBranch) where
  map_set : (xs : List X) (i : ℕ) (y : X) → map v (set xs i y) ≡ set (map v xs) i (v y)
  map_set [] i y = refl
  map_set (x ∷ xs) zero y = refl
  map_set (x ∷ xs) (suc i) y = ap (λ z. v x ∷ z) (map_set xs i y)

  map_get : (xs : List X) (i : ℕ) (d : X) → i < length xs → v (get_or xs i d) ≡ get_or (map v xs) i (v d)
  map_get [] i d l = absurd (omega (arith, l))
  map_get (x ∷ xs) zero d l = refl
  map_get (x ∷ xs) (suc i) d l = map_get xs i d (omega (arith, l))

  map_length : (xs : List X) → length (map v xs) ≡ length xs
  map_length [] = refl
  map_length (x ∷ xs) = ap suc (map_length xs)

  trim_next : (k i : ℕ) (bs : List PlainBranch) (d : PlainBranch) → i < length bs → set (trim_upto k i bs) i (trimmed k (get_or (trim_upto k i bs) i d)) ≡ trim_upto k (suc i) bs
  trim_next k i [] d l = absurd (omega (arith, l))
  trim_next k zero (b ∷ bs) d l = refl
  trim_next k (suc i) (b ∷ bs) d l = ap (λ z. trimmed k b ∷ z) (trim_next k i bs d (omega (arith, l)))

  trim_over : (k i : ℕ) (bs : List PlainBranch) → length bs ≤ i → trim_upto k i bs ≡ map (trimmed k) bs
  trim_over k zero [] l = refl
  trim_over k (suc i) [] l = refl
  trim_over k zero (b ∷ bs) l = absurd (omega (arith, l))
  trim_over k (suc i) (b ∷ bs) l = ap (λ z. trimmed k b ∷ z) (trim_over k i bs (omega (arith, l)))

  map_twice : (k : ℕ) (xs : List X) → map (trimmed k) (map v xs) ≡ map (λ x. trimmed k (v x)) xs
  map_twice k [] = refl
  map_twice k (x ∷ xs) = ap (λ z. trimmed k (v x) ∷ z) (map_twice k xs)

  pub trim_step : (k i j : ℕ) (old now : List X) (d y : X) → j ≡ suc i → i < length now → length now ≡ length old → map v now ≡ trim_upto k i (map v old) → v y ≡ trimmed k (v (get_or now i d)) → map v (set now i y) ≡ trim_upto k j (map v old)
  trim_step k i j old now d y ej l n h e =
      let a = map_length old in
      map_set now i y
      ∙ ap (λ z. set (map v now) i z) (e ∙ ap (λ z. trimmed k z) (map_get now i d l))
      ∙ ap (λ z. set z i (trimmed k (get_or z i (v d)))) h
      ∙ trim_next k i (map v old) (v d) (omega (arith, l, n, a))
      ∙ ap (λ z. trim_upto k z (map v old)) (sym ej)

  take_front : (xs ys : List X) → take (length xs) (xs ++ ys) ≡ xs
  take_front [] ys = refl
  take_front (x ∷ xs) ys = ap (λ z. x ∷ z) (take_front xs ys)

  pub taken_whole : (n : ℕ) (old now ys : List X) → n ≡ length old → length now ≡ length old → take n (now ++ ys) ≡ now
  taken_whole n old now ys e l = ap (λ z. take z (now ++ ys)) (e ∙ sym l) ∙ take_front now ys

  pub trim_end : (k i : ℕ) (old now : List X) → length old ≤ i → map v now ≡ trim_upto k i (map v old) → map v now ≡ map (λ x. trimmed k (v x)) old
  trim_end k i old now l h = let a = map_length old in h ∙ trim_over k i (map v old) (omega (arith, l, a)) ∙ map_twice k old

  trims : (k : ℕ) (xs : List X) → forks_of (map (λ x. trimmed k (v x)) xs) ≡ trimmed_forks k (forks_of (map v xs))
  trims k [] = refl
  trims k (x ∷ xs) = one (nat_lt k (v x).from) (v x) _ _ (trims k xs)
    where
      one : (t : Bool) (b : PlainBranch) (f g : Forks) → f ≡ g → fork (cond t (record { from = 0; run = []; forks = bare }) b).from (cond t (record { from = 0; run = []; forks = bare }) b).run (cond t (record { from = 0; run = []; forks = bare }) b).forks f ≡ cond t (fork 0 [] bare g) (fork b.from b.run b.forks g)
      one true b f g e = ap (λ z. fork 0 [] bare z) e
      one false b f g e = ap (λ z. fork b.from b.run b.forks z) e

  pub cropped_is : (k from : ℕ) (run : List PlainNode) (old now : List X) → map v now ≡ map (λ x. trimmed k (v x)) old → ◌≡◌ {A = PlainBranch} (record { from = from; run = take k run; forks = forks_of (map v now) }) (cropped k (record { from = from; run = run; forks = forks_of (map v old) }))
  cropped_is k from run old now e = ap (λ z. let b : PlainBranch = record { from = from; run = take k run; forks = z } in b) (ap forks_of e ∙ trims k old)
