-- The first and the last event that name a key, where events come and go.
use Rattle.std.proofs.Common.{◌≡◌, ℕ, suc, ◌+◌, ◌-◌, ◌≤◌, Bool, true, false, cond, leb, List, [], ◌∷◌, ◌++◌, length, Option, Some, None, refl, sym, ◌∙◌, ap, arith}
use Rattle.std.proofs.lemmas.Bool.{false≢true, le-leb, leb-true}
use Rattle.std.proofs.lemmas.Slice.Eq.{bytes_eq-Decides}
use Rattle.std.specs.Option.{is_some}
use Rattle.std.specs.Str.{bytes_eq}
use Rattle.rev_watch.specs.declared.event.Event.{Event}
use Rattle.rev_log.specs.Events.{key_of, is_key, names}
use Rattle.rev_log.specs.Waiting.{first_at, or_here, last_at, next_at, live, place_of}

-- ---- keys

pub same_key : (key q : List ℕ) → bytes_eq key q ≡ true → key ≡ q
same_key key q e = (bytes_eq-Decides key q).0 e

pub key-self : (key : List ℕ) → bytes_eq key key ≡ true
key-self key = (bytes_eq-Decides key key).1 refl

-- the test is the same from either side
pub turned_key : (key q : List ℕ) → bytes_eq q key ≡ bytes_eq key q
turned_key key q = by (bytes_eq q key) refl (bytes_eq key q) refl where
  by : (b : Bool) → bytes_eq q key ≡ b → (c : Bool) → bytes_eq key q ≡ c → b ≡ c
  by true t true s = refl
  by false t false s = refl
  by true t false s = sym (key-self key) ∙ ap (bytes_eq key) (sym (same_key q key t)) ∙ s
  by false t true s = sym t ∙ ap (bytes_eq q) (same_key key q s) ∙ key-self q

-- ---- numbers that are those of events that wait

pub live-some : (n m : ℕ) → n ≤ m → live n (Some m) ≡ Some m
live-some n m h = ap (λ b. cond b (Some m) None) (le-leb n m h)

pub live-within : (n m : ℕ) → live n (Some m) ≡ Some m → n ≤ m
live-within n m e = by (leb n m) refl e where
  by : (b : Bool) → leb n m ≡ b → cond b (Some m) None ≡ Some m → n ≤ m
  by true t e = leb-true n m t
  by false t e = absurd (false≢true (ap is_some e))

-- one that is of a later event is so of an earlier one
pub live-suc : (n : ℕ) (o : Option ℕ) → live (suc n) o ≡ o → live n o ≡ o
live-suc n None e = refl
live-suc n (Some m) e = let h = live-within (suc n) m e in live-some n m (omega arith)

-- their places
pub place-within : (first number : ℕ) → first ≤ number → place_of first number ≡ Some (number - first)
place-within first number h = ap (λ b. cond b (Some (number - first)) None) (le-leb first number h)

pub place-self : (n : ℕ) → place_of n n ≡ Some 0
place-self n = place-within n n (omega arith) ∙ ap (λ i. Some i) (omega arith)

pub place-later : (n m : ℕ) → suc n ≤ m → place_of n m ≡ Some (suc (m - suc n))
place-later n m h = place-within n m (omega arith) ∙ ap (λ i. Some i) (omega arith)

pub or_here-false : (o : Option ℕ) (n : ℕ) → or_here o false n ≡ o
or_here-false None n = refl
or_here-false (Some m) n = refl

module _ {A : Type 0} where
  -- one more event
  pub first_at-push : (q : List ℕ) (n : ℕ) (es : List (Event A)) (e : Event A) → first_at q n (es ++ e ∷ []) ≡ or_here (first_at q n es) (names q e) (n + length es)
  first_at-push q n [] e = let z : n ≡ n + 0 = omega arith in ap (λ m. cond (names q e) (Some m) None) z
  first_at-push q n (x ∷ es) e = by (names q x) (first_at-push q (suc n) es e)
    where
      by : (b : Bool) → first_at q (suc n) (es ++ e ∷ []) ≡ or_here (first_at q (suc n) es) (names q e) (suc n + length es)
          → cond b (Some n) (first_at q (suc n) (es ++ e ∷ [])) ≡ or_here (cond b (Some n) (first_at q (suc n) es)) (names q e) (n + suc (length es))
      by true h = refl
      by false h = h ∙ ap (or_here (first_at q (suc n) es) (names q e)) (omega arith)

  pub last_at-push : (q : List ℕ) (n : ℕ) (es : List (Event A)) (e : Event A) → last_at q n (es ++ e ∷ []) ≡ cond (names q e) (Some (n + length es)) (last_at q n es)
  last_at-push q n [] e = let z : n ≡ n + 0 = omega arith in ap (λ m. cond (names q e) (Some m) None) z
  last_at-push q n (x ∷ es) e = ap (λ o. or_here o (names q x) n) (last_at-push q (suc n) es e) ∙ by (names q e)
    where
      by : (b : Bool) → or_here (cond b (Some (suc n + length es)) (last_at q (suc n) es)) (names q x) n ≡ cond b (Some (n + suc (length es))) (or_here (last_at q (suc n) es) (names q x) n)
      by true = ap (λ m. Some m) (omega arith)
      by false = refl

  -- there is a first one where there is a last one
  pub first-last : (q : List ℕ) (n : ℕ) (es : List (Event A)) → is_some (first_at q n es) ≡ is_some (last_at q n es)
  first-last q n [] = refl
  first-last q n (x ∷ es) = by (names q x) (last_at q (suc n) es) (first-last q (suc n) es)
    where
      by : (b : Bool) (o : Option ℕ) → is_some (first_at q (suc n) es) ≡ is_some o → is_some (cond b (Some n) (first_at q (suc n) es)) ≡ is_some (or_here o b n)
      by true None h = refl
      by true (Some m) h = refl
      by false None h = h
      by false (Some m) h = h

  -- both are events that wait
  pub first_at-live : (q : List ℕ) (n : ℕ) (es : List (Event A)) → live n (first_at q n es) ≡ first_at q n es
  first_at-live q n [] = refl
  first_at-live q n (x ∷ es) = by (names q x) (live-suc n (first_at q (suc n) es) (first_at-live q (suc n) es))
    where
      by : (b : Bool) → live n (first_at q (suc n) es) ≡ first_at q (suc n) es → live n (cond b (Some n) (first_at q (suc n) es)) ≡ cond b (Some n) (first_at q (suc n) es)
      by true h = live-some n n (omega arith)
      by false h = h

  pub last_at-live : (q : List ℕ) (n : ℕ) (es : List (Event A)) → live n (last_at q n es) ≡ last_at q n es
  last_at-live q n [] = refl
  last_at-live q n (x ∷ es) = by (last_at q (suc n) es) (names q x) (live-suc n (last_at q (suc n) es) (last_at-live q (suc n) es))
    where
      by : (o : Option ℕ) (b : Bool) → live n o ≡ o → live n (or_here o b n) ≡ or_here o b n
      by None true h = live-some n n (omega arith)
      by None false h = refl
      by (Some m) b h = h

  pub next_at-live : (key : Option (List ℕ)) (n : ℕ) (es : List (Event A)) → live n (next_at key n es) ≡ next_at key n es
  next_at-live None n es = refl
  next_at-live (Some key) n es = first_at-live key n es

  -- an event that names no key names none
  pub names-none : (q : List ℕ) (e : Event A) → key_of e ≡ None → names q e ≡ false
  names-none q e none = ap (is_key q) none

  pub names-some : (q key : List ℕ) (e : Event A) → key_of e ≡ Some key → names q e ≡ bytes_eq q key
  names-some q key e some = ap (is_key q) some
