-- What a table has of each key, where events come and go.
use Rattle.std.proofs.Common.{◌≡◌, ℕ, suc, ◌+◌, Bool, true, false, cond, List, [], ◌∷◌, ◌++◌, length, Option, Some, None, refl, sym, ◌∙◌, ap}
use Rattle.std.proofs.lemmas.Bool.{true≢false, false≢true}
use Rattle.std.specs.Option.{is_some, option_map}
use Rattle.std.specs.Str.{bytes_eq}
use Rattle.rev_watch.specs.declared.event.Event.{Event}
use Rattle.rev_log.specs.declared.spans.Span.{Span}
use Rattle.rev_log.specs.declared.spans.Stored.{Stored}
use Rattle.rev_log.specs.Events.{key_of, names}
use Rattle.rev_log.specs.Spans.{noted}
use Rattle.rev_log.specs.Waiting.{first_at, or_here, last_at, next_at, span_in, span_at, span_behind, span_with, span_without}
use Rattle.rev_log.proofs.Naming.{same_key, turned_key, key-self, or_here-false, first_at-push, last_at-push, first-last, names-none, names-some}
use Rattle.rev_log.proofs.Links.{last_of_key}

-- the numbers of the first and of the last event
abbrev pub first : Option Span → Option ℕ
first o = option_map (λ s. s.first) o

abbrev pub last : Option Span → Option ℕ
last o = option_map (λ s. s.last) o

no_value : {X : Type 0} {Y : Type 0} (f : X → Y) (o : Option X) → is_some (option_map f o) ≡ is_some o
no_value f None = refl
no_value f (Some x) = refl

nothing : {X : Type 0} (o : Option X) → is_some o ≡ false → o ≡ None
nothing None e = refl
nothing (Some x) e = absurd (true≢false e)

module _ {A : Type 0} (e : Event A) (entries : List (List ℕ × Span)) (n : ℕ) (es : List (Event A)) where
  -- ---- one more event

  module _ (firsts : (q : List ℕ) → first (span_in entries q) ≡ first_at q n es) (lasts : (q : List ℕ) → last (span_in entries q) ≡ last_at q n es) where
    -- the last one of its key
    pub last-known : last (span_at (key_of e) entries) ≡ last_of_key (key_of e) n es
    last-known = by (key_of e) where
      by : (k : Option (List ℕ)) → last (span_at k entries) ≡ last_of_key k n es
      by None = refl
      by (Some key) = lasts key

    module _ (leaves : Bool) (stored : Option Stored) (q : List ℕ) where
      first-noted : (s : Option Span) (number : ℕ) → first (Some (noted s number leaves stored)) ≡ or_here (first s) true number
      first-noted None number = refl
      first-noted (Some s) number = refl

      last-noted : (s : Option Span) (number : ℕ) → last (Some (noted s number leaves stored)) ≡ Some number
      last-noted None number = refl
      last-noted (Some s) number = refl

      pub firsts-push : first (span_behind (key_of e) entries (n + length es) leaves stored q) ≡ first_at q n (es ++ e ∷ [])
      firsts-push = by (key_of e) refl ∙ sym (first_at-push q n es e) where
        some : (key : List ℕ) (b : Bool) → bytes_eq key q ≡ b → first (cond b (Some (noted (span_in entries key) (n + length es) leaves stored)) (span_in entries q)) ≡ or_here (first_at q n es) b (n + length es)
        some key true t = first-noted (span_in entries key) (n + length es) ∙ ap (λ o. or_here o true (n + length es)) (firsts key ∙ ap (λ l. first_at l n es) (same_key key q t))
        some key false t = firsts q ∙ sym (or_here-false (first_at q n es) (n + length es))

        by : (k : Option (List ℕ)) → key_of e ≡ k → first (span_behind k entries (n + length es) leaves stored q) ≡ or_here (first_at q n es) (names q e) (n + length es)
        by None t = firsts q ∙ sym (or_here-false (first_at q n es) (n + length es)) ∙ ap (λ b. or_here (first_at q n es) b (n + length es)) (sym (names-none q e t))
        by (Some key) t = some key (bytes_eq key q) refl ∙ ap (λ b. or_here (first_at q n es) b (n + length es)) (sym (turned_key key q) ∙ sym (names-some q key e t))

      pub lasts-push : last (span_behind (key_of e) entries (n + length es) leaves stored q) ≡ last_at q n (es ++ e ∷ [])
      lasts-push = by (key_of e) refl ∙ sym (last_at-push q n es e) where
        some : (key : List ℕ) (b : Bool) → last (cond b (Some (noted (span_in entries key) (n + length es) leaves stored)) (span_in entries q)) ≡ cond b (Some (n + length es)) (last_at q n es)
        some key true = last-noted (span_in entries key) (n + length es)
        some key false = lasts q

        by : (k : Option (List ℕ)) → key_of e ≡ k → last (span_behind k entries (n + length es) leaves stored q) ≡ cond (names q e) (Some (n + length es)) (last_at q n es)
        by None t = lasts q ∙ ap (λ b. cond b (Some (n + length es)) (last_at q n es)) (sym (names-none q e t))
        by (Some key) t = some key (bytes_eq key q) ∙ ap (λ b. cond b (Some (n + length es)) (last_at q n es)) (sym (turned_key key q) ∙ sym (names-some q key e t))

  -- ---- the first event is gone

  module _ (firsts : (q : List ℕ) → first (span_in entries q) ≡ first_at q n (e ∷ es)) (lasts : (q : List ℕ) → last (span_in entries q) ≡ last_at q n (e ∷ es)) (q : List ℕ) where
    other : names q e ≡ false → (first (span_in entries q) ≡ first_at q (suc n) es) × (last (span_in entries q) ≡ last_at q (suc n) es)
    other f = (
      firsts q ∙ ap (λ b. cond b (Some n) (first_at q (suc n) es)) f,
      lasts q ∙ ap (λ b. or_here (last_at q (suc n) es) b n) f ∙ or_here-false (last_at q (suc n) es) n,
    )

    -- the span of the event's own key, by what comes next
    first-with : (o : Option ℕ) (s : Option Span) → is_some s ≡ true → first (span_with o s) ≡ o
    first-with None s t = refl
    first-with (Some m) None t = absurd (false≢true t)
    first-with (Some m) (Some s) t = refl

    last-with : (o p : Option ℕ) (s : Option Span) → is_some o ≡ is_some p → last s ≡ or_here p true n → last (span_with o s) ≡ p
    last-with None p s t l = sym (nothing p (sym t))
    last-with (Some m) None s t l = absurd (true≢false t)
    last-with (Some m) (Some k) None t l = l
    last-with (Some m) (Some k) (Some s) t l = l

    known : (key : List ℕ) → names key e ≡ true → is_some (span_in entries key) ≡ true
    known key t = sym (no_value (λ (s : Span). s.first) (span_in entries key)) ∙ ap is_some (firsts key) ∙ ap (λ b. is_some (cond b (Some n) (first_at key (suc n) es))) t

    pub firsts-pop : first (span_without (key_of e) entries (next_at (key_of e) (suc n) es) q) ≡ first_at q (suc n) es
    firsts-pop = by (key_of e) refl where
      some : (key : List ℕ) → key_of e ≡ Some key → (b : Bool) → bytes_eq key q ≡ b → first (cond b (span_with (first_at key (suc n) es) (span_in entries key)) (span_in entries q)) ≡ first_at q (suc n) es
      some key t true s = first-with (first_at key (suc n) es) (span_in entries key) (known key (names-some key key e t ∙ key-self key)) ∙ ap (λ l. first_at l (suc n) es) (same_key key q s)
      some key t false s = (other (names-some q key e t ∙ turned_key key q ∙ s)).0

      by : (k : Option (List ℕ)) → key_of e ≡ k → first (span_without k entries (next_at k (suc n) es) q) ≡ first_at q (suc n) es
      by None t = (other (names-none q e t)).0
      by (Some key) t = some key t (bytes_eq key q) refl

    pub lasts-pop : last (span_without (key_of e) entries (next_at (key_of e) (suc n) es) q) ≡ last_at q (suc n) es
    lasts-pop = by (key_of e) refl where
      some : (key : List ℕ) → key_of e ≡ Some key → (b : Bool) → bytes_eq key q ≡ b → last (cond b (span_with (first_at key (suc n) es) (span_in entries key)) (span_in entries q)) ≡ last_at q (suc n) es
      some key t true s =
          last-with (first_at key (suc n) es) (last_at key (suc n) es) (span_in entries key) (first-last key (suc n) es)
          (lasts key ∙ ap (λ b. or_here (last_at key (suc n) es) b n) (names-some key key e t ∙ key-self key))
          ∙ ap (λ l. last_at l (suc n) es) (same_key key q s)
      some key t false s = (other (names-some q key e t ∙ turned_key key q ∙ s)).1

      by : (k : Option (List ℕ)) → key_of e ≡ k → last (span_without k entries (next_at k (suc n) es) q) ≡ last_at q (suc n) es
      by None t = (other (names-none q e t)).1
      by (Some key) t = some key t (bytes_eq key q) refl
