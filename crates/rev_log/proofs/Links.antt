-- The numbers that events lead to, where one more event waits.
use Rattle.std.proofs.Common.{◌≡◌, ℕ, suc, ◌+◌, Bool, true, false, List, [], ◌∷◌, ◌++◌, length, Option, Some, None, refl, sym, ◌∙◌, ap, ap₂, arith}
use Rattle.std.proofs.lemmas.Bool.{true≢false, false≢true}
use Rattle.std.specs.Option.{is_some}
use Rattle.std.specs.Str.{bytes_eq}
use Rattle.rev_watch.specs.declared.event.Event.{Event}
use Rattle.rev_log.specs.Events.{key_of, names}
use Rattle.rev_log.specs.Waiting.{first_at, or_here, last_at, next_at, live, links, link_place, link}
use Rattle.rev_log.proofs.Naming.{same_key, turned_key, live-within, place-self, place-later, place-within, or_here-false, first_at-push, first-last, last_at-live, names-none, names-some}

-- the number of the last event that names it, where there is a key
abbrev pub last_of_key : {A : Type 0} → Option (List ℕ) → ℕ → List (Event A) → Option ℕ
last_of_key None n es = None
last_of_key (Some key) n es = last_at key n es

module _ (n number : ℕ) (h : Option ℕ) (t : List (Option ℕ)) where
  link-here : link n (Some n) number (h ∷ t) ≡ Some number ∷ t
  link-here = ap (λ p. link_place p number (h ∷ t)) (place-self n)

  link-later : (o : Option ℕ) → live (suc n) o ≡ o → link n o number (h ∷ t) ≡ h ∷ link (suc n) o number t
  link-later None e = refl
  link-later (Some m) e =
      let w = live-within (suc n) m e in
      ap (λ p. link_place p number (h ∷ t)) (place-later n m w) ∙ ap (λ p. h ∷ link_place p number t) (sym (place-within (suc n) m w))

module _ {A : Type 0} (e : Event A) where
  -- an event of another key, or of none, is no one's next
  next-other : (k : Option (List ℕ)) (n : ℕ) (es : List (Event A)) → ((q : List ℕ) → k ≡ Some q → names q e ≡ false) → next_at k n (es ++ e ∷ []) ≡ next_at k n es
  next-other None n es other = refl
  next-other (Some q) n es other = first_at-push q n es e ∙ ap (λ b. or_here (first_at q n es) b (n + length es)) (other q refl) ∙ or_here-false (first_at q n es) (n + length es)

  -- nor is one that comes behind another of its key
  next-known : (q : List ℕ) (n : ℕ) (es : List (Event A)) → is_some (first_at q n es) ≡ true → first_at q n (es ++ e ∷ []) ≡ first_at q n es
  next-known q n es known = first_at-push q n es e ∙ by (first_at q n es) known where
    by : (o : Option ℕ) → is_some o ≡ true → or_here o (names q e) (n + length es) ≡ o
    by None t = absurd (false≢true t)
    by (Some m) t = refl

  -- it is that of the last one that names its key
  next-new : (q : List ℕ) (n : ℕ) (es : List (Event A)) → is_some (first_at q n es) ≡ false → names q e ≡ true → first_at q n (es ++ e ∷ []) ≡ Some (n + length es)
  next-new q n es new named = first_at-push q n es e ∙ ap (λ b. or_here (first_at q n es) b (n + length es)) named ∙ by (first_at q n es) new where
    by : (o : Option ℕ) → is_some o ≡ false → or_here o true (n + length es) ≡ Some (n + length es)
    by None t = refl
    by (Some m) t = absurd (true≢false t)

  links-none : (n : ℕ) (es : List (Event A)) → key_of e ≡ None → links n (es ++ e ∷ []) ≡ links n es ++ None ∷ []
  links-none n [] none = ap (λ k. next_at {A = A} k (suc n) [] ∷ []) none
  links-none n (x ∷ es) none = ap₂ (λ o l. o ∷ l) (next-other (key_of x) (suc n) es (λ q t. names-none q e none)) (links-none (suc n) es none)

  -- what an event `x` in front leads to, by whether it and the ones behind it name the key
  module _ (key : List ℕ) (some : key_of e ≡ Some key) where
    head-known : (k : Option (List ℕ)) (n : ℕ) (es : List (Event A)) → is_some (last_at key n es) ≡ true → next_at k n (es ++ e ∷ []) ≡ next_at k n es
    head-known None n es known = refl
    head-known (Some q) n es known = by (bytes_eq q key) refl where
      by : (b : Bool) → bytes_eq q key ≡ b → first_at q n (es ++ e ∷ []) ≡ first_at q n es
      by true t = next-known q n es (ap (λ l. is_some (first_at l n es)) (same_key q key t) ∙ first-last key n es ∙ known)
      by false t = next-other (Some q) n es (λ p s. names-some p key e some ∙ ap (λ l. bytes_eq l key) (sym (same_some s)) ∙ t)
        where
          same_some : {X : Type 0} {x y : X} → Some x ≡ Some y → x ≡ y
          same_some s = cc

    head-other : (x : Event A) (n : ℕ) (es : List (Event A)) → names key x ≡ false → next_at (key_of x) n (es ++ e ∷ []) ≡ next_at (key_of x) n es
    head-other x n es other = next-other (key_of x) n es (λ q s. names-some q key e some ∙ turned_key key q ∙ sym (names-some key q x s) ∙ other)

    head-new : (x : Event A) (n : ℕ) (es : List (Event A)) → names key x ≡ true → is_some (last_at key n es) ≡ false → next_at (key_of x) n (es ++ e ∷ []) ≡ Some (n + length es)
    head-new x n es named new = by (key_of x) refl where
      by : (k : Option (List ℕ)) → key_of x ≡ k → next_at k n (es ++ e ∷ []) ≡ Some (n + length es)
      by None t = absurd (true≢false (sym named ∙ names-none key x t))
      by (Some q) t =
          let same : key ≡ q = same_key key q (sym (names-some key q x t) ∙ named) in
          next-new q n es (ap (λ l. is_some (first_at l n es)) (sym same) ∙ first-last key n es ∙ new) (names-some q key e some ∙ turned_key key q ∙ sym (names-some key q x t) ∙ named)

    links-some : (n : ℕ) (es : List (Event A)) → links n (es ++ e ∷ []) ≡ link n (last_at key n es) (n + length es) (links n es) ++ None ∷ []
    links-some n [] = ap (λ k. next_at {A = A} k (suc n) [] ∷ []) some
    links-some n (x ∷ es) = by (last_at key (suc n) es) refl (last_at-live key (suc n) es) (links-some (suc n) es)
      where
        number : suc n + length es ≡ n + suc (length es)
        number = omega arith

        tail : (links (suc n) (es ++ e ∷ []) ≡ link (suc n) (last_at key (suc n) es) (suc n + length es) (links (suc n) es) ++ None ∷ []) → (o : Option ℕ) → last_at key (suc n) es ≡ o → links (suc n) (es ++ e ∷ []) ≡ link (suc n) o (n + suc (length es)) (links (suc n) es) ++ None ∷ []
        tail rest o t = rest ∙ ap₂ (λ p m. link (suc n) p m (links (suc n) es) ++ None ∷ []) t number

        here : (links (suc n) (es ++ e ∷ []) ≡ link (suc n) (last_at key (suc n) es) (suc n + length es) (links (suc n) es) ++ None ∷ []) → (b : Bool) → names key x ≡ b → last_at key (suc n) es ≡ None
            → next_at (key_of x) (suc n) (es ++ e ∷ []) ∷ links (suc n) (es ++ e ∷ []) ≡ link n (or_here None b n) (n + suc (length es)) (next_at (key_of x) (suc n) es ∷ links (suc n) es) ++ None ∷ []
        here rest true s t =
            ap₂ (λ h l. h ∷ l) (head-new x (suc n) es s (ap is_some t) ∙ ap (λ m. Some m) number) (tail rest None t)
            ∙ ap (λ l. l ++ None ∷ []) (sym (link-here n (n + suc (length es)) (next_at (key_of x) (suc n) es) (links (suc n) es)))
        here rest false s t = ap₂ (λ h l. h ∷ l) (head-other x (suc n) es s) (tail rest None t)

        by : (o : Option ℕ) → last_at key (suc n) es ≡ o → live (suc n) (last_at key (suc n) es) ≡ last_at key (suc n) es → (links (suc n) (es ++ e ∷ []) ≡ link (suc n) (last_at key (suc n) es) (suc n + length es) (links (suc n) es) ++ None ∷ [])
            → next_at (key_of x) (suc n) (es ++ e ∷ []) ∷ links (suc n) (es ++ e ∷ []) ≡ link n (or_here (last_at key (suc n) es) (names key x) n) (n + suc (length es)) (next_at (key_of x) (suc n) es ∷ links (suc n) es) ++ None ∷ []
        by None t v rest = here rest (names key x) refl t ∙ ap (λ o. link n (or_here o (names key x) n) (n + suc (length es)) (next_at (key_of x) (suc n) es ∷ links (suc n) es) ++ None ∷ []) (sym t)
        by (Some m) t v rest =
            ap₂ (λ h l. h ∷ l) (head-known (key_of x) (suc n) es (ap is_some t)) (tail rest (Some m) t)
            ∙ ap (λ l. l ++ None ∷ []) (sym (link-later n (n + suc (length es)) (next_at (key_of x) (suc n) es) (links (suc n) es) (Some m) (ap (live (suc n)) (sym t) ∙ v ∙ t)))
            ∙ ap (λ o. link n (or_here o (names key x) n) (n + suc (length es)) (next_at (key_of x) (suc n) es ∷ links (suc n) es) ++ None ∷ []) (sym t)

  -- all together
  pub links-push : (n : ℕ) (es : List (Event A)) → links n (es ++ e ∷ []) ≡ link n (last_of_key (key_of e) n es) (n + length es) (links n es) ++ None ∷ []
  links-push n es = by (key_of e) refl where
    by : (k : Option (List ℕ)) → key_of e ≡ k → links n (es ++ e ∷ []) ≡ link n (last_of_key k n es) (n + length es) (links n es) ++ None ∷ []
    by None t = links-none n es t
    by (Some key) t = links-some key t n es
