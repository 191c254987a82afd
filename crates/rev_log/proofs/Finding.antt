-- The events that numbers lead to.
use Rattle.std.proofs.Common.{◌≡◌, ℕ, suc, zero, Bool, true, false, cond, List, [], ◌∷◌, drop, Option, Some, None, refl, sym, ◌∙◌, ap}
use Rattle.std.specs.List.{slice_get}
use Rattle.rev_watch.specs.declared.event.Event.{Event}
use Rattle.rev_log.specs.declared.coming.Coming.{Coming}
use Rattle.rev_log.specs.Events.{key_of, names}
use Rattle.rev_log.specs.Foresight.{first_naming, first_naming_any}
use Rattle.rev_log.specs.Waiting.{events, at_number, at_place, first_at, next_at, links, joined, live}
use Rattle.rev_log.proofs.Naming.{live-suc, live-within, place-self, place-later, place-within, first_at-live, next_at-live}

module _ {A : Type 0} where
  -- the event of a number, where there is one
  abbrev pub at_any : ℕ → List (Coming A) → Option ℕ → Option (Coming A)
  at_any n xs None = None
  at_any n xs (Some m) = at_number n xs m

  at-later : (n : ℕ) (x : Coming A) (xs : List (Coming A)) (o : Option ℕ) → live (suc n) o ≡ o → at_any n (x ∷ xs) o ≡ at_any (suc n) xs o
  at-later n x xs None e = refl
  at-later n x xs (Some m) e =
      let w = live-within (suc n) m e in
      ap (λ p. at_place p (x ∷ xs)) (place-later n m w) ∙ ap (λ p. at_place p xs) (sym (place-within (suc n) m w))

  -- the first one that names the key
  pub first-found : (key : List ℕ) (n : ℕ) (xs : List (Coming A)) → at_any n xs (first_at key n (events xs)) ≡ first_naming key xs
  first-found key n [] = refl
  first-found key n (x ∷ xs) = by (names key x.line.event) (first-found key (suc n) xs)
    where
      by : (b : Bool) → at_any (suc n) xs (first_at key (suc n) (events xs)) ≡ first_naming key xs
          → at_any n (x ∷ xs) (cond b (Some n) (first_at key (suc n) (events xs))) ≡ cond b (Some x) (first_naming key xs)
      by true h = ap (λ p. at_place p (x ∷ xs)) (place-self n)
      by false h = at-later n x xs (first_at key (suc n) (events xs)) (first_at-live key (suc n) (events xs)) ∙ h

  next-found-here : (k : Option (List ℕ)) (n : ℕ) (xs : List (Coming A)) → at_any n xs (next_at k n (events xs)) ≡ first_naming_any k xs
  next-found-here None n xs = refl
  next-found-here (Some key) n xs = first-found key n xs

  links-live : (n p : ℕ) (es : List (Event A)) → live n (joined (slice_get (links n es) p)) ≡ joined (slice_get (links n es) p)
  links-live n p [] = refl
  links-live n zero (e ∷ es) = live-suc n (next_at (key_of e) (suc n) es) (next_at-live (key_of e) (suc n) es)
  links-live n (suc p) (e ∷ es) = live-suc n (joined (slice_get (links (suc n) es) p)) (links-live (suc n) p es)

  -- the next one behind the one at a place
  pub next-found : (n p : ℕ) (xs : List (Coming A)) (x : Coming A) → slice_get xs p ≡ Some x → at_any n xs (joined (slice_get (links n (events xs)) p)) ≡ first_naming_any (key_of x.line.event) (drop (suc p) xs)
  next-found n p [] x e = absurd (nothing e) where
    nothing : {X : Type 0} {y : X} → None ≡ Some y → ⊥
    nothing e = cc
  next-found n zero (y ∷ ys) x e =
      at-later n y ys (next_at (key_of y.line.event) (suc n) (events ys)) (next_at-live (key_of y.line.event) (suc n) (events ys))
      ∙ next-found-here (key_of y.line.event) (suc n) ys
      ∙ ap (λ z. first_naming_any (key_of z.line.event) ys) (same e)
    where
      same : {X : Type 0} {y z : X} → Some y ≡ Some z → y ≡ z
      same e = cc
  next-found n (suc p) (y ∷ ys) x e =
      at-later n y ys (joined (slice_get (links (suc n) (events ys)) p)) (links-live (suc n) p (events ys)) ∙ next-found (suc n) p ys x e
