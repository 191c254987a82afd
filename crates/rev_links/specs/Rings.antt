-- Lists that run through slots: each member knows the place before it and the place after it,
-- and a list's end stands before its first member and after its last one.
-- Rule of this project: when links stand for a list, and what a step of links leaves.
use Rattle.std.specs.Prelude.{◌≡◌, ◌≢◌, ℕ, suc, zero, Option, Some, None, List, [], ◌∷◌, ◌⊎◌}
use Rattle.rev_links.specs.declared.places.RingPlace.{RingPlace}
use Rattle.rev_links.specs.declared.places.RingPlace.TheVariants.{End, At}

-- the member that a step leads to, if it leads to one
abbrev pub member_of : {E X : Type 0} → Option (RingPlace E X) → Option X
member_of None = None
member_of (Some (End e)) = None
member_of (Some (At x)) = Some x

-- the members that are met from a place on, until a step leads to no member: at most n
unfoldable pub walk : {E X : Type 0} → (RingPlace E X → Option (RingPlace E X)) → ℕ → RingPlace E X → List X
walk next zero p = []
walk next (suc n) p = elim (member_of (next p)) [ None ↦ [] | Some x ↦ x ∷ walk next n (At x) ]

-- one step, seen from both sides
pub record Joined {E X : Type 0} (next previous : RingPlace E X → Option (RingPlace E X)) (p q : RingPlace E X) : Type 0 where
  pub onward : next p ≡ Some q
  pub back : previous q ≡ Some p

-- from p through the members xs to q
abbrev pub Path : {E X : Type 0} → (next previous : RingPlace E X → Option (RingPlace E X)) → RingPlace E X → List X → RingPlace E X → Type 0
Path next previous p [] q = Joined next previous p q
Path next previous p (x ∷ xs) q = Joined next previous p (At x) × Path next previous (At x) xs q

-- x stands in the list
abbrev pub In : {X : Type 0} → X → List X → Type 0
In x [] = ⊥
In x (y ∷ ys) = (y ≡ x) ⊎ In x ys

-- x was taken out from between p and n
pub record Closed {E X : Type 0} (next previous next' previous' : RingPlace E X → Option (RingPlace E X)) (x : X) (p n : RingPlace E X) : Type 0 where
  pub before : Joined next previous p (At x)
  pub behind : Joined next previous (At x) n
  pub joined : Joined next' previous' p n
  pub next_same : (q : RingPlace E X) → q ≢ p → next' q ≡ next q
  pub previous_same : (q : RingPlace E X) → q ≢ n → previous' q ≡ previous q

-- x was put between a and n
pub record Opened {E X : Type 0} (next previous next' previous' : RingPlace E X → Option (RingPlace E X)) (x : X) (a n : RingPlace E X) : Type 0 where
  pub joined : Joined next previous a n
  pub before : Joined next' previous' a (At x)
  pub behind : Joined next' previous' (At x) n
  pub next_same : (q : RingPlace E X) → q ≢ a → q ≢ At x → next' q ≡ next q
  pub previous_same : (q : RingPlace E X) → q ≢ n → q ≢ At x → previous' q ≡ previous q

-- the place behind p is v, and no other neighbour changed
pub record SetsNext {E X : Type 0} (next previous next' previous' : RingPlace E X → Option (RingPlace E X)) (p v : RingPlace E X) : Type 0 where
  pub at : next' p ≡ Some v
  pub others : (q : RingPlace E X) → q ≢ p → next' q ≡ next q
  pub kept : (q : RingPlace E X) → previous' q ≡ previous q

-- the place before p is v, and no other neighbour changed
pub record SetsPrevious {E X : Type 0} (next previous next' previous' : RingPlace E X → Option (RingPlace E X)) (p v : RingPlace E X) : Type 0 where
  pub at : previous' p ≡ Some v
  pub others : (q : RingPlace E X) → q ≢ p → previous' q ≡ previous q
  pub kept : (q : RingPlace E X) → next' q ≡ next q

-- x stands between two places
pub record Between {E X : Type 0} (next previous : RingPlace E X → Option (RingPlace E X)) (x : X) : Type 0 where
  pub p : RingPlace E X
  pub n : RingPlace E X
  pub before : Joined next previous p (At x)
  pub behind : Joined next previous (At x) n

-- behind the place a stands a place that is not x
pub record Gap {E X : Type 0} (next previous : RingPlace E X → Option (RingPlace E X)) (a : RingPlace E X) (x : X) : Type 0 where
  pub n : RingPlace E X
  pub joined : Joined next previous a n
  pub apart : n ≢ At x
