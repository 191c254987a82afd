-- What one step of links does to all lists of a table: generic in the ends, the members and the table.
use Rattle.std.proofs.Common.{◌≡◌, ◌≢◌, Bool, Option, Some, None, IfSome, List, [], ◌∷◌, inl, inr, subst}
use Rattle.rev_links.specs.declared.places.RingPlace.{RingPlace}
use Rattle.rev_links.specs.declared.places.RingPlace.TheVariants.{End, At}
use Rattle.rev_links.specs.Rings.{Joined, Path, In, Closed, Opened, Between, Gap}
use Rattle.rev_links.proofs.Members.{without, insert, Tells}
use Rattle.rev_links.specs.Neighbours.{place_behind}
use Rattle.rev_links.proofs.Rings.{one_end, first_step, path_taken, path_closed, path_opened, path_fronted, path_put}

module _ {E X : Type 0} (eq : X → X → Bool) (tells : Tells eq) (next previous : RingPlace E X → Option (RingPlace E X)) (there : E → Type 0) (chain : E → List X)
    (ring : (c : E) → there c → Path next previous (End c) (chain c) (End c)) where
  pub between_in : (c : E) (x : X) → there c → In x (chain c) → Between next previous x
  between_in c x m i = go (End c) (chain c) (End c) (ring c m) i
    where
      go : (p : RingPlace E X) (xs : List X) (q : RingPlace E X) → Path next previous p xs q → In x xs → Between next previous x
      go p [] q h m = absurd m
      go p (y ∷ ys) q h (inl e) =
          let f = first_step next previous (At y) ys q h.1 in
          record {
            p = p;
            n = f.0;
            before = subst (λ z. Joined next previous p (At z)) e h.0;
            behind = subst (λ z. Joined next previous (At z) f.0) e f.1;
          }
      go p (y ∷ ys) q h (inr m) = go (At y) ys q h.1 m

  pub gap_in : (c : E) (x : X) (after : Option X) → there c → (In x (chain c) → ⊥) → IfSome after (λ y. In y (chain c)) → Gap next previous (place_behind c after) x
  gap_in c x after m none i = go after i
    where
      first_gap : (p : RingPlace E X) (xs : List X) (e : E) → Path next previous p xs (End e) → (In x xs → ⊥) → Gap next previous p x
      first_gap p [] e k n = record { n = End e; joined = k; apart = λ z. cc }
      first_gap p (y ∷ ys) e k n = record { n = At y; joined = k.0; apart = λ z. let w : y ≡ x = cc in n (inl w) }

      inner_gap : (p : RingPlace E X) (xs : List X) (e : E) (y : X) → Path next previous p xs (End e) → (In x xs → ⊥) → In y xs → Gap next previous (At y) x
      inner_gap p [] e y k n i = absurd i
      inner_gap p (z ∷ zs) e y k n (inl u) = subst (λ w. Gap next previous (At w) x) u (first_gap (At z) zs e k.1 (λ j. n (inr j)))
      inner_gap p (z ∷ zs) e y k n (inr i) = inner_gap (At z) zs e y k.1 (λ j. n (inr j)) i

      go : (a : Option X) → IfSome a (λ y. In y (chain c)) → Gap next previous (place_behind c a) x
      go None j = first_gap (End c) (chain c) c (ring c m) none
      go (Some y) j = inner_gap (End c) (chain c) c y (ring c m) none j

  module _ (next' previous' : RingPlace E X → Option (RingPlace E X)) where
    pub taken_own : (c : E) (x : X) (p n : RingPlace E X) → there c → In x (chain c) → Closed next previous next' previous' x p n
        → Path next' previous' (End c) (without eq x (chain c)) (End c)
    taken_own c x p n m i k = path_taken eq tells _ _ _ _ x p n k (End c) (chain c) c (λ e. cc) i (ring c m)

    pub taken_other : (c : E) (x : X) (p n : RingPlace E X) → there c → In x (chain c) → Closed next previous next' previous' x p n
        → (d : E) → there d → d ≢ c → Path next' previous' (End d) (chain d) (End d)
    taken_other c x p n m i k d l apart =
        path_closed eq tells _ _ _ _ x p n k (End d) (chain d) (End d) (λ e. cc)
        (λ j. apart (one_end next previous (End d) (End c) (chain d) (chain c) d c x (ring d l) (ring c m) j i)) (λ e. cc) (ring d l)

    pub put_own : (c : E) (x : X) (after : Option X) (n : RingPlace E X) → there c → (In x (chain c) → ⊥) → IfSome after (λ y. In y (chain c))
        → Opened next previous next' previous' x (place_behind c after) n → Path next' previous' (End c) (insert eq x after (chain c)) (End c)
    put_own c x None n m none i o = path_fronted eq tells _ _ _ _ x (End c) n o (chain c) c none (λ y k e. cc) (ring c m)
    put_own c x (Some y) n m none i o = path_put eq tells _ _ _ _ x y n o (End c) (chain c) c (λ e. cc) (λ e. cc) none i (ring c m)

    pub put_other : (c : E) (x : X) (after : Option X) (n : RingPlace E X) → there c → ((d : E) → there d → In x (chain d) → ⊥) → IfSome after (λ y. In y (chain c))
        → Opened next previous next' previous' x (place_behind c after) n → (d : E) → there d → d ≢ c → Path next' previous' (End d) (chain d) (End d)
    put_other c x after n m none i o d l apart =
        path_opened eq tells _ _ _ _ x (place_behind c after) n o (End d) (chain d) (End d) (λ e. cc) (none d l) (λ e. cc)
        (end_apart after) (member_apart after i) (ring d l)
      where
        end_apart : (a : Option X) → End d ≢ place_behind c a
        end_apart None e = let w : d ≡ c = cc in apart w
        end_apart (Some y) e = cc

        member_apart : (a : Option X) → IfSome a (λ y. In y (chain c)) → (y : X) → In y (chain d) → At y ≢ place_behind c a
        member_apart None j y k e = cc
        member_apart (Some z) j y k e =
            let w : y ≡ z = cc in
            apart (one_end next previous (End d) (End c) (chain d) (chain c) d c z (ring d l) (ring c m) (subst (λ v. In v (chain d)) w k) j)

  -- the place before an end, and the place before a member
  pub last_place : (p : RingPlace E X) (xs : List X) → RingPlace E X
  last_place p [] = p
  last_place p (x ∷ xs) = last_place (At x) xs

  pub before_end : (p : RingPlace E X) (xs : List X) (e : E) → Path next previous p xs (End e) → previous (End e) ≡ Some (last_place p xs)
  unfolding last_place
  before_end p [] e h = h.back
  before_end p (x ∷ xs) e h = before_end (At x) xs e h.1
