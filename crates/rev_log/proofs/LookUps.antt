-- The last lines of connections, where events come and go.
use Rattle.std.proofs.Common.{◌≡◌, ℕ, ℤ, suc, ◌+◌, ◌-◌, Bool, true, false, ◌&&◌, ◌||◌, cond, leb, List, [], ◌∷◌, ◌++◌, length, Option, Some, None, refl, sym, ◌∙◌, ap, arith}
use Rattle.std.proofs.lemmas.Bool.{true≢false, lt-leb, leb-false}
use Rattle.std.proofs.lemmas.List.Folds.{list_any-append}
use Rattle.std.specs.Cmp.{int_eq_equiv}
use Rattle.std.specs.List.{list_any, slice_get}
use Rattle.std.specs.Ordering.{int_eq}
use Rattle.rev_watch.specs.declared.event.Event.{Event}
use Rattle.rev_log.specs.declared.coming.Coming.{Coming}
use Rattle.rev_log.specs.Events.{connection_of, is_connection, is_of, is_look_up, commanded_key, names}
use Rattle.rev_log.specs.Foresight.{Numbered, mark, marked, marked_for, marked_by}
use Rattle.rev_log.specs.Waiting.{events, mark_here, mark_place, mark_number, mark_for, look_up_at, live, number_in, number_behind}
use Rattle.rev_log.proofs.Naming.{live-some, live-within, live-suc, place-self, place-later, place-within}

live-twice : (n : ℕ) (o : Option ℕ) → live (suc n) (live n o) ≡ live (suc n) o
live-twice n None = refl
live-twice n (Some m) = by (leb n m) refl where
  by : (b : Bool) → leb n m ≡ b → live (suc n) (cond b (Some m) None) ≡ live (suc n) (Some m)
  by true t = refl
  by false t = sym (ap (λ c. cond c (Some m) None) (lt-leb (suc n) m (let h = leb-false n m t in omega arith)))

module _ {A : Type 0} where
  -- ---- the last line of a connection

  is_of-none : (c : ℤ) (e : Event A) → connection_of e ≡ None → is_of c e ≡ false
  is_of-none c e t = ap (is_connection c) t

  is_of-some : (c d : ℤ) (e : Event A) → connection_of e ≡ Some d → is_of c e ≡ int_eq d c
  is_of-some c d e t = ap (is_connection c) t ∙ int_eq_equiv.symm c d

  look_up-none : (c : ℤ) (n : ℕ) (es : List (Event A)) → list_any (is_of c) es ≡ false → look_up_at c n es ≡ None
  look_up-none c n [] t = refl
  look_up-none c n (x ∷ es) t = by (is_of c x) (list_any (is_of c) es) t where
    by : (a b : Bool) → (a || b) ≡ false → cond b (look_up_at c (suc n) es) (cond (a && is_look_up x) (Some n) None) ≡ None
    by true true t = absurd (true≢false t)
    by true false t = absurd (true≢false t)
    by false true t = absurd (true≢false t)
    by false false t = refl

  pub look_up-live : (c : ℤ) (n : ℕ) (es : List (Event A)) → live n (look_up_at c n es) ≡ look_up_at c n es
  look_up-live c n [] = refl
  look_up-live c n (x ∷ es) = by (list_any (is_of c) es) (is_of c x && is_look_up x) (live-suc n (look_up_at c (suc n) es) (look_up-live c (suc n) es)) where
    by : (a b : Bool) → live n (look_up_at c (suc n) es) ≡ look_up_at c (suc n) es → live n (cond a (look_up_at c (suc n) es) (cond b (Some n) None)) ≡ cond a (look_up_at c (suc n) es) (cond b (Some n) None)
    by true b h = h
    by false true h = live-some n n (omega arith)
    by false false h = refl

  look_up-push : (c : ℤ) (n : ℕ) (es : List (Event A)) (e : Event A) → look_up_at c n (es ++ e ∷ []) ≡ cond (is_of c e) (cond (is_look_up e) (Some (n + length es)) None) (look_up_at c n es)
  look_up-push c n [] e = by (is_of c e) (is_look_up e) (omega arith) where
    by : (a b : Bool) → n ≡ n + 0 → cond (a && b) (Some n) None ≡ cond a (cond b (Some (n + 0)) None) None
    by true b z = ap (λ m. cond b (Some m) None) z
    by false b z = refl
  look_up-push c n (x ∷ es) e =
      ap (λ b. cond b (look_up_at c (suc n) (es ++ e ∷ [])) (cond (is_of c x && is_look_up x) (Some n) None)) (list_any-append (is_of c) es (e ∷ []))
      ∙ by (is_of c e) (list_any (is_of c) es) (look_up-push c (suc n) es e)
    where
      by : (a b : Bool) → look_up_at c (suc n) (es ++ e ∷ []) ≡ cond a (cond (is_look_up e) (Some (suc n + length es)) None) (look_up_at c (suc n) es)
          → cond (b || (a || false)) (look_up_at c (suc n) (es ++ e ∷ [])) (cond (is_of c x && is_look_up x) (Some n) None)
          ≡ cond a (cond (is_look_up e) (Some (n + suc (length es))) None) (cond b (look_up_at c (suc n) es) (cond (is_of c x && is_look_up x) (Some n) None))
      by true true h = h ∙ ap (λ m. cond (is_look_up e) (Some m) None) (omega arith)
      by true false h = h ∙ ap (λ m. cond (is_look_up e) (Some m) None) (omega arith)
      by false true h = h
      by false false h = refl

  -- ---- what a table has

  module _ (e : Event A) (entries : List (ℤ × ℕ)) (n : ℕ) (es : List (Event A)) where
    pub looked_up-push : ((c : ℤ) → live n (number_in entries c) ≡ look_up_at c n es) → (c : ℤ) → live n (number_behind (connection_of e) (is_look_up e) (n + length es) entries c) ≡ look_up_at c n (es ++ e ∷ [])
    looked_up-push known c = by (connection_of e) refl ∙ sym (look_up-push c n es e) where
      new : (b : Bool) → live n (cond b (Some (n + length es)) None) ≡ cond b (Some (n + length es)) None
      new true = live-some n (n + length es) (omega arith)
      new false = refl

      some : (a : Bool) → live n (cond a (cond (is_look_up e) (Some (n + length es)) None) (number_in entries c)) ≡ cond a (cond (is_look_up e) (Some (n + length es)) None) (look_up_at c n es)
      some true = new (is_look_up e)
      some false = known c

      by : (k : Option ℤ) → connection_of e ≡ k → live n (number_behind k (is_look_up e) (n + length es) entries c) ≡ cond (is_of c e) (cond (is_look_up e) (Some (n + length es)) None) (look_up_at c n es)
      by None t = known c ∙ ap (λ a. cond a (cond (is_look_up e) (Some (n + length es)) None) (look_up_at c n es)) (sym (is_of-none c e t))
      by (Some d) t = some (int_eq d c) ∙ ap (λ a. cond a (cond (is_look_up e) (Some (n + length es)) None) (look_up_at c n es)) (sym (is_of-some c d e t))

    pub looked_up-pop : ((c : ℤ) → live n (number_in entries c) ≡ look_up_at c n (e ∷ es)) → (c : ℤ) → live (suc n) (number_in entries c) ≡ look_up_at c (suc n) es
    looked_up-pop known c = sym (live-twice n (number_in entries c)) ∙ ap (live (suc n)) (known c) ∙ by (list_any (is_of c) es) refl where
      none : (b : Bool) → live (suc n) (cond b (Some n) None) ≡ None
      none true = ap (λ a. cond a (Some n) None) (lt-leb (suc n) n (omega arith))
      none false = refl

      by : (a : Bool) → list_any (is_of c) es ≡ a → live (suc n) (cond a (look_up_at c (suc n) es) (cond (is_of c e && is_look_up e) (Some n) None)) ≡ look_up_at c (suc n) es
      by true t = look_up-live c (suc n) es
      by false t = none (is_of c e && is_look_up e) ∙ sym (look_up-none c (suc n) es t)

  -- ---- marks

  any-events : (c : ℤ) (xs : List (Coming A)) → list_any (λ y. is_of c y.line.event) xs ≡ list_any (is_of c) (events xs)
  any-events c [] = refl
  any-events c (x ∷ xs) = ap (λ b. is_of c x.line.event || b) (any-events c xs)

  mark-here : (key : List ℕ) (n : ℕ) (x : Coming A) (xs : List (Coming A)) → mark_number n key (Some n) (x ∷ xs) ≡ mark key x ∷ xs
  mark-here key n x xs = ap (λ p. mark_place key p (x ∷ xs)) (place-self n)

  mark-later : (key : List ℕ) (n : ℕ) (x : Coming A) (xs : List (Coming A)) (o : Option ℕ) → live (suc n) o ≡ o → mark_number n key o (x ∷ xs) ≡ x ∷ mark_number (suc n) key o xs
  mark-later key n x xs None e = refl
  mark-later key n x xs (Some m) e =
      let w = live-within (suc n) m e in
      ap (λ p. mark_place key p (x ∷ xs)) (place-later n m w) ∙ by (m - suc n) (slice_get xs (m - suc n)) ∙ ap (λ p. x ∷ mark_place key p xs) (sym (place-within (suc n) m w))
    where
      by : (p : ℕ) (y : Option (Coming A)) → mark_here key y (suc p) (x ∷ xs) ≡ x ∷ mark_here key y p xs
      by p None = refl
      by p (Some y) = refl

  mark-other : (key : List ℕ) (x : Coming A) → is_look_up x.line.event ≡ false → mark key x ≡ x
  mark-other key x t = ap (λ b. cond (b && names key x.line.event) (record x { own = true }) x) t

  mark-look_up : (key : List ℕ) (c : ℤ) (n : ℕ) (xs : List (Coming A)) → mark_number n key (look_up_at c n (events xs)) xs ≡ marked c key xs
  mark-look_up key c n [] = refl
  mark-look_up key c n (x ∷ xs) =
      by (list_any (is_of c) (events xs)) (mark-look_up key c (suc n) xs)
      ∙ ap (λ a. cond a (x ∷ marked c key xs) (cond (is_of c x.line.event) (mark key x ∷ xs) (x ∷ xs))) (sym (any-events c xs))
    where
      here : (a b : Bool) → is_look_up x.line.event ≡ b → mark_number n key (cond (a && b) (Some n) None) (x ∷ xs) ≡ cond a (mark key x ∷ xs) (x ∷ xs)
      here true true t = mark-here key n x xs
      here true false t = ap (λ y. y ∷ xs) (sym (mark-other key x t))
      here false b t = refl

      by : (a : Bool) → mark_number (suc n) key (look_up_at c (suc n) (events xs)) xs ≡ marked c key xs
          → mark_number n key (cond a (look_up_at c (suc n) (events xs)) (cond (is_of c x.line.event && is_look_up x.line.event) (Some n) None)) (x ∷ xs)
          ≡ cond a (x ∷ marked c key xs) (cond (is_of c x.line.event) (mark key x ∷ xs) (x ∷ xs))
      by true h = mark-later key n x xs (look_up_at c (suc n) (events xs)) (look_up-live c (suc n) (events xs)) ∙ ap (λ l. x ∷ l) h
      by false h = here (is_of c x.line.event) (is_look_up x.line.event) refl

  mark-live : (key : List ℕ) (n : ℕ) (o : Option ℕ) (xs : List (Coming A)) → mark_number n key o xs ≡ mark_number n key (live n o) xs
  mark-live key n None xs = refl
  mark-live key n (Some m) xs = by (leb n m) refl where
    by : (b : Bool) → leb n m ≡ b → mark_place key (cond b (Some (m - n)) None) xs ≡ mark_number n key (cond b (Some m) None) xs
    by true t = ap (λ b. mark_place key (cond b (Some (m - n)) None) xs) (sym t)
    by false t = refl

  -- the table marks what the rule marks
  pub mark_for-marked_by : (n : ℕ) (e : Event A) (entries : List (ℤ × ℕ)) (xs : List (Coming A)) → ((c : ℤ) → live n (number_in entries c) ≡ look_up_at c n (events xs))
      → mark_for n (connection_of e) (commanded_key e) entries xs ≡ marked_by e xs
  mark_for-marked_by n e entries xs known = by (connection_of e) (commanded_key e) where
    by : (k : Option ℤ) (l : Option (List ℕ)) → mark_for n k l entries xs ≡ marked_for k l xs
    by None l = refl
    by (Some c) None = refl
    by (Some c) (Some key) = mark-live key n (number_in entries c) xs ∙ ap (λ o. mark_number n key o xs) (known c) ∙ mark-look_up key c n xs

  -- a mark leaves the event and the number
  mark-line : (key : List ℕ) (x : Coming A) → (mark key x).line ≡ x.line
  mark-line key x = by (is_look_up x.line.event && names key x.line.event) where
    by : (b : Bool) → (cond b (record x { own = true }) x).line ≡ x.line
    by true = refl
    by false = refl

  mark-number : (key : List ℕ) (x : Coming A) → (mark key x).number ≡ x.number
  mark-number key x = by (is_look_up x.line.event && names key x.line.event) where
    by : (b : Bool) → (cond b (record x { own = true }) x).number ≡ x.number
    by true = refl
    by false = refl

  events-marked : (c : ℤ) (key : List ℕ) (xs : List (Coming A)) → events (marked c key xs) ≡ events xs
  events-marked c key [] = refl
  events-marked c key (x ∷ xs) = by (list_any (λ y. is_of c y.line.event) xs) (is_of c x.line.event) (events-marked c key xs) where
    by : (a b : Bool) → events (marked c key xs) ≡ events xs → events (cond a (x ∷ marked c key xs) (cond b (mark key x ∷ xs) (x ∷ xs))) ≡ events (x ∷ xs)
    by true b h = ap (λ l. x.line.event ∷ l) h
    by false true h = ap (λ l. l.event ∷ events xs) (mark-line key x)
    by false false h = refl

  numbered-marked : (c : ℤ) (key : List ℕ) (n : ℕ) (xs : List (Coming A)) → Numbered n xs → Numbered n (marked c key xs)
  numbered-marked c key n [] h = h
  numbered-marked c key n (x ∷ xs) h = by (list_any (λ y. is_of c y.line.event) xs) (is_of c x.line.event) (numbered-marked c key (suc n) xs h.1) where
    by : (a b : Bool) → Numbered (suc n) (marked c key xs) → Numbered n (cond a (x ∷ marked c key xs) (cond b (mark key x ∷ xs) (x ∷ xs)))
    by true b r = (h.0, r)
    by false true r = (mark-number key x ∙ h.0, h.1)
    by false false r = h

  pub events-marked_by : (e : Event A) (xs : List (Coming A)) → events (marked_by e xs) ≡ events xs
  events-marked_by e xs = by (connection_of e) (commanded_key e) where
    by : (k : Option ℤ) (l : Option (List ℕ)) → events (marked_for k l xs) ≡ events xs
    by None l = refl
    by (Some c) None = refl
    by (Some c) (Some key) = events-marked c key xs

  pub numbered-marked_by : (e : Event A) (n : ℕ) (xs : List (Coming A)) → Numbered n xs → Numbered n (marked_by e xs)
  numbered-marked_by e n xs h = by (connection_of e) (commanded_key e) where
    by : (k : Option ℤ) (l : Option (List ℕ)) → Numbered n (marked_for k l xs)
    by None l = h
    by (Some c) None = h
    by (Some c) (Some key) = numbered-marked c key n xs h
