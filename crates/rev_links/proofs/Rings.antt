-- What steps and writes do to a list that runs through slots.
use Rattle.std.proofs.Common.{◌≡◌, ◌≢◌, ℕ, suc, zero, ◌+◌, ◌<◌, ◌≤◌, Bool, true, false, cond, eqb, Option, Some, List, [], ◌∷◌, length, inl, inr, refl, sym, ◌∙◌, ap, subst, arith}
use Rattle.std.proofs.lemmas.Bool.{eqb-true, eq-eqb}
use Rattle.rev_links.specs.declared.places.RingPlace.{RingPlace}
use Rattle.rev_links.specs.declared.places.RingPlace.TheVariants.{End, At}
use Rattle.rev_links.specs.Rings.{walk, Joined, Path, In, Closed, Opened, SetsNext, SetsPrevious}
use Rattle.rev_links.proofs.Members.{without, insert_behind, Tells}

-- no member stands twice
abbrev pub Distinct : {X : Type 0} → List X → Type 0
Distinct [] = Unit {0}
Distinct (x ∷ xs) = (In x xs → ⊥) × Distinct xs

-- ---- paths
module _ {E X : Type 0} (next previous : RingPlace E X → Option (RingPlace E X)) where
  -- the walk along a path to an end gives the path's members
  pub walk_path : (p : RingPlace E X) (xs : List X) (e : E) (n : ℕ) → Path next previous p xs (End e) → length xs ≤ n → walk next n p ≡ xs
  unfolding walk
  walk_path p [] e zero h l = refl
  walk_path p [] e (suc n) h l = rw (h.onward, walk) refl
  walk_path p (x ∷ xs) e zero h l = absurd (omega arith)
  walk_path p (x ∷ xs) e (suc n) h l =
      let o = h.0.onward in
      rw (o, walk) (ap (λ ys. x ∷ ys) (walk_path (At x) xs e n h.1 (omega arith)))

  -- two paths from one place to ends are one path
  pub one_path : (p : RingPlace E X) (xs ys : List X) (e d : E) → Path next previous p xs (End e) → Path next previous p ys (End d) → (xs ≡ ys) × (e ≡ d)
  one_path p [] [] e d h k = let u = h.onward in let v = k.onward in (refl, cc)
  one_path p [] (y ∷ ys) e d h k = let u = h.onward in let v = k.0.onward in (cc, cc)
  one_path p (x ∷ xs) [] e d h k = let u = h.0.onward in let v = k.onward in (cc, cc)
  one_path p (x ∷ xs) (y ∷ ys) e d h k =
      let u = h.0.onward in
      let v = k.0.onward in
      let same : x ≡ y = cc in
      let k' : Path next previous (At x) ys (End d) = subst (λ z. Path next previous (At z) ys (End d)) (sym same) k.1 in
      let r = one_path (At x) xs ys e d h.1 k' in
      let r0 : xs ≡ ys = r.0 in
      (cc, r.1)

  -- the rest of a path behind one of its members
  pub rest : (p : RingPlace E X) (xs : List X) (q : RingPlace E X) (x : X) → Path next previous p xs q → In x xs
      → (zs : List X) × Path next previous (At x) zs q × (length zs < length xs)
  rest p [] q x h m = absurd m
  rest p (y ∷ ys) q x h (inl e) = (ys, subst (λ z. Path next previous (At z) ys q) e h.1, omega arith)
  rest p (y ∷ ys) q x h (inr m) = let r = rest (At y) ys q x h.1 m in (r.0, r.1, let l = r.2 in omega arith)

  -- a member does not stand behind itself
  pub absent : (x : X) (xs : List X) (e : E) → Path next previous (At x) xs (End e) → In x xs → ⊥
  absent x xs e h m =
      let r = rest (At x) xs (End e) x h m in
      let zs = r.0 in
      let same : xs ≡ zs = (one_path (At x) xs zs e e h r.1).0 in
      let l : length zs < length xs = r.2 in
      let k : length xs ≡ length zs = ap length same in
      omega arith

  -- two lists with a common member have one end
  pub one_end : (p q : RingPlace E X) (xs ys : List X) (e d : E) (x : X) → Path next previous p xs (End e) → Path next previous q ys (End d)
      → In x xs → In x ys → e ≡ d
  one_end p q xs ys e d x h k m n =
      let r = rest p xs (End e) x h m in
      let s = rest q ys (End d) x k n in
      (one_path (At x) r.0 s.0 e d r.1 s.1).1

  pub distinct_path : (p : RingPlace E X) (xs : List X) (e : E) → Path next previous p xs (End e) → Distinct xs
  distinct_path p [] e h = tt
  distinct_path p (x ∷ xs) e h = (absent x xs e h.1, distinct_path (At x) xs e h.1)

  pub first_step : (p : RingPlace E X) (xs : List X) (q : RingPlace E X) → Path next previous p xs q → (b : RingPlace E X) × Joined next previous p b
  first_step p [] q h = (q, h)
  first_step p (x ∷ xs) q h = (At x, h.0)

  joined_back : (a b p : RingPlace E X) → previous b ≡ Some a → Joined next previous p b → Joined next previous a b
  joined_back a b p u h = let v = h.back in let e : p ≡ a = cc in subst (λ z. Joined next previous z b) e h

  joined_onward : (a b q : RingPlace E X) → next a ≡ Some b → Joined next previous a q → Joined next previous a b
  joined_onward a b q u h = let v = h.onward in let e : q ≡ b = cc in subst (λ z. Joined next previous a z) e h

  -- what a member's link says
  pub neighbours : (p : RingPlace E X) (xs : List X) (q : RingPlace E X) (x : X) (a b : RingPlace E X) → Path next previous p xs q → In x xs
      → previous (At x) ≡ Some a → next (At x) ≡ Some b → Joined next previous a (At x) × Joined next previous (At x) b
  neighbours p [] q x a b h m u v = absurd m
  neighbours p (y ∷ ys) q x a b h (inl e) u v =
      let h0 : Joined next previous p (At x) = subst (λ z. Joined next previous p (At z)) e h.0 in
      let h1 : Path next previous (At x) ys q = subst (λ z. Path next previous (At z) ys q) e h.1 in
      let f = first_step (At x) ys q h1 in
      (joined_back a (At x) p u h0, joined_onward (At x) b f.0 v f.1)
  neighbours p (y ∷ ys) q x a b h (inr m) u v = neighbours (At y) ys q x a b h.1 m u v

  -- what the link of a path's first place says
  pub first_neighbour : (p : RingPlace E X) (xs : List X) (q b : RingPlace E X) → Path next previous p xs q → next p ≡ Some b → Joined next previous p b
  first_neighbour p xs q b h v = let f = first_step p xs q h in joined_onward p b f.0 v f.1

-- ---- writes
module _ {E X : Type 0} (eq : X → X → Bool) (tells : Tells eq) (next previous next' previous' : RingPlace E X → Option (RingPlace E X)) where
  step_closed : (x : X) (p n : RingPlace E X) → Closed next previous next' previous' x p n → (s t : RingPlace E X) → s ≢ At x → t ≢ At x → Joined next previous s t → Joined next' previous' s t
  step_closed x p n c s t sx tx h =
      let u = h.onward in
      let v = h.back in
      let cu = c.before.onward in
      let cv = c.behind.back in
      let sp : s ≢ p = λ e. let f : next s ≡ Some (At x) = subst (λ z. next z ≡ Some (At x)) (sym e) cu in tx cc in
      let tn : t ≢ n = λ e. let f : previous t ≡ Some (At x) = subst (λ z. previous z ≡ Some (At x)) (sym e) cv in sx cc in
      record { onward = c.next_same s sp ∙ u; back = c.previous_same t tn ∙ v }

  -- a path that does not meet x stays
  pub path_closed : (x : X) (p n : RingPlace E X) → Closed next previous next' previous' x p n → (s : RingPlace E X) (xs : List X) (t : RingPlace E X) → s ≢ At x → (In x xs → ⊥) → t ≢ At x
      → Path next previous s xs t → Path next' previous' s xs t
  path_closed x p n c s [] t sx xx tx h = step_closed x p n c s t sx tx h
  path_closed x p n c s (y ∷ ys) t sx xx tx h =
      let y' : RingPlace E X = At y in let yx : y' ≢ At x = λ e. let f : y ≡ x = cc in xx (inl f) in
      (step_closed x p n c s (At y) sx yx h.0, path_closed x p n c (At y) ys t yx (λ m. xx (inr m)) tx h.1)

  behind_closed : (x : X) (p n : RingPlace E X) → Closed next previous next' previous' x p n → (s : RingPlace E X) (ys : List X) (e : E) → Joined next previous s (At x) → Path next previous (At x) ys (End e)
      → Path next' previous' s ys (End e)
  behind_closed x p n c s [] e h k =
      let a = h.back in let b = c.before.back in let f : p ≡ s = cc in
      let a' = k.onward in let b' = c.behind.onward in let f' : n ≡ End e = cc in
      subst (λ z. Joined next' previous' z (End e)) f (subst (λ z. Joined next' previous' p z) f' c.joined)
  behind_closed x p n c s (z ∷ zs) e h k =
      let a = h.back in let b = c.before.back in let f : p ≡ s = cc in
      let a' = k.0.onward in let b' = c.behind.onward in let f' : n ≡ At z = cc in
      let none = absent next previous x (z ∷ zs) e k in
      let z' : RingPlace E X = At z in let zx : z' ≢ At x = λ u. let w : z ≡ x = cc in none (inl w) in
      let e' : RingPlace E X = End e in let ex : e' ≢ At x = λ u. cc in (
        subst (λ w. Joined next' previous' w (At z)) f (subst (λ w. Joined next' previous' p w) f' c.joined),
        path_closed x p n c (At z) zs (End e) zx (λ m. none (inr m)) ex k.1,
      )

  -- a path that meets x is left without it
  pub path_taken : (x : X) (p n : RingPlace E X) → Closed next previous next' previous' x p n → (s : RingPlace E X) (xs : List X) (e : E) → s ≢ At x → In x xs
      → Path next previous s xs (End e) → Path next' previous' s (without eq x xs) (End e)
  path_taken x p n c s [] e sx m h = absurd m
  path_taken x p n c s (y ∷ ys) e sx m h = go (eq x y) refl (λ yx m'. path_taken x p n c (At y) ys e yx m' h.1)
    where
      y' : RingPlace E X
      y' = At y

      go : (b : Bool) → eq x y ≡ b → (y' ≢ At x → In x ys → Path next' previous' y' (without eq x ys) (End e)) → Path next' previous' s (cond b ys (y ∷ without eq x ys)) (End e)
      go true t ih =
          let f : y ≡ x = sym (tells.same x y t) in
          behind_closed x p n c s ys e (subst (λ z. Joined next previous s (At z)) f h.0) (subst (λ z. Path next previous (At z) ys (End e)) f h.1)
      go false t ih =
          let xy = tells.apart x y t in
          let yx : y' ≢ At x = λ u. let w : x ≡ y = cc in xy w in
          let m' : In x ys = elim m [ inl u ↦ absurd (xy (sym u)) | inr w ↦ w ] in
          (step_closed x p n c s (At y) sx yx h.0, ih yx m')

  step_opened : (x : X) (a n : RingPlace E X) → Opened next previous next' previous' x a n → (s t : RingPlace E X) → s ≢ At x → t ≢ At x → s ≢ a → Joined next previous s t → Joined next' previous' s t
  step_opened x a n o s t sx tx sa h =
      let u = h.onward in
      let v = h.back in
      let ov = o.joined.back in
      let tn : t ≢ n = λ e. let f : previous t ≡ Some a = subst (λ z. previous z ≡ Some a) (sym e) ov in sa cc in
      record { onward = o.next_same s sa sx ∙ u; back = o.previous_same t tn tx ∙ v }

  -- a path that does not meet the place before x stays
  pub path_opened : (x : X) (a n : RingPlace E X) → Opened next previous next' previous' x a n → (s : RingPlace E X) (xs : List X) (t : RingPlace E X) → s ≢ At x → (In x xs → ⊥) → t ≢ At x
      → s ≢ a → ((y : X) → In y xs → At y ≢ a) → Path next previous s xs t → Path next' previous' s xs t
  path_opened x a n o s [] t sx xx tx sa none h = step_opened x a n o s t sx tx sa h
  path_opened x a n o s (y ∷ ys) t sx xx tx sa none h =
      let y' : RingPlace E X = At y in let yx : y' ≢ At x = λ e. let f : y ≡ x = cc in xx (inl f) in (
        step_opened x a n o s (At y) sx yx sa h.0,
        path_opened x a n o (At y) ys t yx (λ m. xx (inr m)) tx (none y (inl refl)) (λ z m. none z (inr m)) h.1,
      )

  -- a path from the place before x has x in front
  pub path_fronted : (x : X) (a n : RingPlace E X) → Opened next previous next' previous' x a n → (xs : List X) (e : E) → (In x xs → ⊥) → ((y : X) → In y xs → At y ≢ a)
      → Path next previous a xs (End e) → Path next' previous' a (x ∷ xs) (End e)
  path_fronted x a n o [] e xx none h =
      let u = h.onward in let v = o.joined.onward in let f : n ≡ End e = cc in
      (o.before, subst (λ z. Joined next' previous' (At x) z) f o.behind)
  path_fronted x a n o (z ∷ zs) e xx none h =
      let u = h.0.onward in let v = o.joined.onward in let f : n ≡ At z = cc in
      let z' : RingPlace E X = At z in let zx : z' ≢ At x = λ k. let g : z ≡ x = cc in xx (inl g) in
      let e' : RingPlace E X = End e in let ex : e' ≢ At x = λ k. cc in (
        o.before,
        (
          subst (λ w. Joined next' previous' (At x) w) f o.behind,
          path_opened x a n o (At z) zs (End e) zx (λ m. xx (inr m)) ex (none z (inl refl)) (λ y m. none y (inr m)) h.1,
        ),
      )

  -- a path through the member before x has x behind it
  pub path_put : (x y : X) (n : RingPlace E X) → Opened next previous next' previous' x (At y) n → (s : RingPlace E X) (xs : List X) (e : E) → s ≢ At x → s ≢ At y → (In x xs → ⊥) → In y xs
      → Path next previous s xs (End e) → Path next' previous' s (insert_behind eq x y xs) (End e)
  path_put x y n o s [] e sx sy xx m h = absurd m
  path_put x y n o s (z ∷ zs) e sx sy xx m h = go (eq y z) refl (λ zx zy m'. path_put x y n o (At z) zs e zx zy (λ k. xx (inr k)) m' h.1)
    where
      z' : RingPlace E X
      z' = At z

      zx : z' ≢ At x
      zx k = let g : z ≡ x = cc in xx (inl g)

      go : (b : Bool) → eq y z ≡ b → (z' ≢ At x → z' ≢ At y → In y zs → Path next' previous' z' (insert_behind eq x y zs) (End e)) → Path next' previous' s (cond b (z ∷ x ∷ zs) (z ∷ insert_behind eq x y zs)) (End e)
      go true t ih =
          let f : y ≡ z = tells.same y z t in
          let k : Path next previous (At y) zs (End e) = subst (λ w. Path next previous (At w) zs (End e)) (sym f) h.1 in
          let none = absent next previous y zs e k in
          let y' : RingPlace E X = At y in
          let apart : (w : X) → In w zs → At w ≢ y' = λ w m' u. let g : w ≡ y = cc in none (subst (λ v. In v zs) g m') in
          let r : Path next' previous' (At y) (x ∷ zs) (End e) = path_fronted x (At y) n o zs e (λ m'. xx (inr m')) apart k in
          (step_opened x (At y) n o s (At z) sx zx sy h.0, subst (λ w. Path next' previous' (At w) (x ∷ zs) (End e)) f r)
      go false t ih =
          let yz = tells.apart y z t in
          let zy : z' ≢ At y = λ u. let w : y ≡ z = cc in yz w in
          let m' : In y zs = elim m [ inl u ↦ absurd (yz (sym u)) | inr w ↦ w ] in
          (step_opened x (At y) n o s (At z) sx zx sy h.0, ih zx zy m')

-- ---- lengths and membership
module _ {X : Type 0} (eq : X → X → Bool) (tells : Tells eq) where
  pub length-without : (x : X) (xs : List X) → In x xs → length (without eq x xs) + 1 ≡ length xs
  length-without x [] m = absurd m
  length-without x (y ∷ ys) m = go (eq x y) refl (λ m'. length-without x ys m')
    where
      go : (b : Bool) → eq x y ≡ b → (In x ys → length (without eq x ys) + 1 ≡ length ys) → length (cond b ys (y ∷ without eq x ys)) + 1 ≡ length (y ∷ ys)
      go true t ih = omega arith
      go false t ih =
          let m' : In x ys = elim m [ inl u ↦ absurd (tells.apart x y t (sym u)) | inr w ↦ w ] in
          omega (arith, ih m')

  pub length-insert_behind : (x y : X) (xs : List X) → In y xs → length (insert_behind eq x y xs) ≡ length xs + 1
  length-insert_behind x y [] m = absurd m
  length-insert_behind x y (z ∷ zs) m = go (eq y z) refl (λ m'. length-insert_behind x y zs m')
    where
      go : (b : Bool) → eq y z ≡ b → (In y zs → length (insert_behind eq x y zs) ≡ length zs + 1) → length (cond b (z ∷ x ∷ zs) (z ∷ insert_behind eq x y zs)) ≡ length (z ∷ zs) + 1
      go true t ih = omega arith
      go false t ih =
          let m' : In y zs = elim m [ inl u ↦ absurd (tells.apart y z t (sym u)) | inr w ↦ w ] in
          omega (arith, ih m')

  -- who stands in the list without x stood in the list
  pub In-without : (x z : X) (xs : List X) → In z (without eq x xs) → In z xs
  In-without x z [] m = absurd m
  In-without x z (y ∷ ys) m = go (eq x y) refl (λ m'. In-without x z ys m') m
    where
      go : (b : Bool) → eq x y ≡ b → (In z (without eq x ys) → In z ys) → In z (cond b ys (y ∷ without eq x ys)) → In z (y ∷ ys)
      go true t ih k = inr k
      go false t ih k = elim k [ inl u ↦ inl u | inr w ↦ inr (ih w) ]

  -- what was taken out of a list without repetition is not there
  pub not_In-without : (x : X) (xs : List X) → Distinct xs → In x (without eq x xs) → ⊥
  not_In-without x [] d m = absurd m
  not_In-without x (y ∷ ys) d m = go (eq x y) refl (λ m'. not_In-without x ys d.1 m') m
    where
      go : (b : Bool) → eq x y ≡ b → (In x (without eq x ys) → ⊥) → In x (cond b ys (y ∷ without eq x ys)) → ⊥
      go true t ih k = d.0 (subst (λ z. In z ys) (tells.same x y t) k)
      go false t ih k = elim k [ inl u ↦ tells.apart x y t (sym u) | inr w ↦ ih w ]

-- ---- as many members as there are numbers, at most
module _ {X : Type 0} (number : X → ℕ) where
  cut : ℕ → List X → List X
  cut n [] = []
  cut n (x ∷ xs) = cond (eqb (number x) n) xs (x ∷ cut n xs)

  length-cut : (n : ℕ) (xs : List X) → length xs ≤ length (cut n xs) + 1
  unfolding cut
  length-cut n [] = omega arith
  length-cut n (x ∷ xs) = go (eqb (number x) n) (length-cut n xs)
    where
      go : (b : Bool) → length xs ≤ length (cut n xs) + 1 → length (x ∷ xs) ≤ length (cond b xs (x ∷ cut n xs)) + 1
      go true h = omega arith
      go false h = omega arith

  In-cut : (n : ℕ) (y : X) (xs : List X) → In y (cut n xs) → In y xs
  unfolding cut
  In-cut n y [] m = absurd m
  In-cut n y (x ∷ xs) m = go (eqb (number x) n) (λ k. In-cut n y xs k) m
    where
      go : (b : Bool) → (In y (cut n xs) → In y xs) → In y (cond b xs (x ∷ cut n xs)) → In y (x ∷ xs)
      go true ih k = inr k
      go false ih k = elim k [ inl u ↦ inl u | inr w ↦ inr (ih w) ]

  Distinct-cut : (n : ℕ) (xs : List X) → Distinct xs → Distinct (cut n xs)
  unfolding cut
  Distinct-cut n [] d = tt
  Distinct-cut n (x ∷ xs) d = go (eqb (number x) n) (Distinct-cut n xs d.1)
    where
      go : (b : Bool) → Distinct (cut n xs) → Distinct (cond b xs (x ∷ cut n xs))
      go true ih = d.1
      go false ih = (λ m. d.0 (In-cut n x xs m), ih)

  -- no member left has the number
  cut_apart : (n : ℕ) (xs : List X) → Distinct xs → ((x y : X) → In x xs → In y xs → number x ≡ number y → x ≡ y)
      → (y : X) → In y (cut n xs) → number y ≢ n
  unfolding cut
  cut_apart n [] d one y m = absurd m
  cut_apart n (x ∷ xs) d one y m =
      go (eqb (number x) n) refl (λ k. cut_apart n xs d.1 (λ a b p q. one a b (inr p) (inr q)) y k) m
    where
      go : (b : Bool) → eqb (number x) n ≡ b → (In y (cut n xs) → number y ≢ n) → In y (cond b xs (x ∷ cut n xs)) → number y ≢ n
      go true t ih k = λ e.
          let f : number x ≡ n = eqb-true (number x) n t in
          let g : x ≡ y = one x y (inl refl) (inr k) (omega arith) in
          d.0 (subst (λ z. In z xs) (sym g) k)
      go false t ih k = elim k [ inl u ↦ (λ e. let f : number x ≡ number y = ap number u in let g : number x ≡ n = f ∙ e in let w : eqb (number x) n ≡ true = eq-eqb (number x) n g in cc) | inr w ↦ ih w ]

  -- members with different numbers below n are at most n
  pub length_at_most : (n : ℕ) (xs : List X) → Distinct xs → ((x y : X) → In x xs → In y xs → number x ≡ number y → x ≡ y)
      → ((x : X) → In x xs → number x < n) → length xs ≤ n
  unfolding cut
  length_at_most zero [] d one below = omega arith
  length_at_most zero (x ∷ xs) d one below = absurd (let h = below x (inl refl) in omega arith)
  length_at_most (suc n) xs d one below =
      let ys = cut n xs in
      let smaller : (x : X) → In x ys → number x < n = λ x m. let a = below x (In-cut n x xs m) in let b = cut_apart n xs d one x m in omega arith in
      let h : length ys ≤ n = length_at_most n ys (Distinct-cut n xs d) (λ x y p q. one x y (In-cut n x xs p) (In-cut n y xs q)) smaller in
      let k = length-cut n xs in
      omega arith

-- ---- a member taken out or put in by single writes
module _ {E X : Type 0} where
  pub closed_by_writes : (next₀ previous₀ next₁ previous₁ next₂ previous₂ : RingPlace E X → Option (RingPlace E X)) (x : X) (p n : RingPlace E X)
      → Joined next₀ previous₀ p (At x) → Joined next₀ previous₀ (At x) n
      → SetsNext next₀ previous₀ next₁ previous₁ p n → SetsPrevious next₁ previous₁ next₂ previous₂ n p
      → Closed next₀ previous₀ next₂ previous₂ x p n
  closed_by_writes next₀ previous₀ next₁ previous₁ next₂ previous₂ x p n before behind a b =
      record {
        before = before;
        behind = behind;
        joined = record { onward = b.kept p ∙ a.at; back = b.at };
        next_same = λ q h. b.kept q ∙ a.others q h;
        previous_same = λ q h. b.others q h ∙ a.kept q;
      }

  pub opened_by_writes : (next₀ previous₀ next₁ previous₁ next₂ previous₂ next₃ previous₃ : RingPlace E X → Option (RingPlace E X)) (x : X) (a n : RingPlace E X)
      → a ≢ At x → n ≢ At x → Joined next₀ previous₀ a n
      → next₁ (At x) ≡ Some n → previous₁ (At x) ≡ Some a
      → ((q : RingPlace E X) → q ≢ At x → next₁ q ≡ next₀ q) → ((q : RingPlace E X) → q ≢ At x → previous₁ q ≡ previous₀ q)
      → SetsNext next₁ previous₁ next₂ previous₂ a (At x) → SetsPrevious next₂ previous₂ next₃ previous₃ n (At x)
      → Opened next₀ previous₀ next₃ previous₃ x a n
  opened_by_writes next₀ previous₀ next₁ previous₁ next₂ previous₂ next₃ previous₃ x a n ax nx joined u v us vs s t =
      let x' : RingPlace E X = At x in
      let xa : x' ≢ a = λ e. ax (sym e) in
      let xn : x' ≢ n = λ e. nx (sym e) in
      record {
        joined = joined;
        before = record { onward = t.kept a ∙ s.at; back = t.others x' xn ∙ (s.kept x' ∙ v) };
        behind = record { onward = t.kept x' ∙ (s.others x' xa ∙ u); back = t.at };
        next_same = λ q h k. t.kept q ∙ (s.others q h ∙ us q k);
        previous_same = λ q h k. t.others q h ∙ (s.kept q ∙ vs q k);
      }

-- a path whose places keep their neighbours stays
module _ {E X : Type 0} (next previous next' previous' : RingPlace E X → Option (RingPlace E X)) where
  pub path_same : (p : RingPlace E X) (xs : List X) (q : RingPlace E X) → next' p ≡ next p
      → ((x : X) → In x xs → (next' (At x) ≡ next (At x)) × (previous' (At x) ≡ previous (At x))) → previous' q ≡ previous q
      → Path next previous p xs q → Path next' previous' p xs q
  path_same p [] q a k b h = record { onward = a ∙ h.onward; back = b ∙ h.back }
  path_same p (x ∷ xs) q a k b h =
      let w = k x (inl refl) in
      (record { onward = a ∙ h.0.onward; back = w.1 ∙ h.0.back }, path_same (At x) xs q w.0 (λ y m. k y (inr m)) b h.1)
