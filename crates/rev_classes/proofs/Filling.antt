-- The list of sizes as it is filled from the front.
use Rattle.std.proofs.Common.{ℕ, zero, suc, ◌+◌, ◌*◌, ◌/◌, ◌<◌, ◌≤◌, ◌≡◌, true, false, nat_le, List, [], ◌∷◌, ◌++◌, length, refl, sym, ◌∙◌, ap, subst, arith, append_assoc, length-append, add-one}
use Rattle.std.proofs.lemmas.Bool.{le-leb, lt-leb}
use Rattle.rev_classes.specs.Sizes.{up8, unrounded, ends, sizes_from, most_classes, sizes_of}
use Rattle.rev_classes.proofs.Laws.{HasFactor, most_classes-is, grown-below, up8-below, ends-false}

pub record IsFilled (page num den : ℕ) (items : List ℕ) (u i : ℕ) : Type 0 where
  pub count : length items ≡ i
  pub value : u ≡ unrounded num den i
  pub bound : u ≤ 4194304
  -- how many further sizes may come, with which the list is whole
  pub most : ℕ
  pub place : most + i ≡ most_classes
  pub whole : items ++ sizes_from page num den most i ≡ sizes_of page num den

pub none_filled : (page num den : ℕ) → IsFilled page num den [] 96 0
none_filled page num den = record { count = refl; value = refl; bound = omega arith; most = most_classes; place = omega arith; whole = refl }

ends_from : (page num den most i : ℕ) → ends page num den i ≡ true → sizes_from page num den most i ≡ page ∷ []
ends_from page num den zero i e = refl
ends_from page num den (suc most) i e = rw e refl

pub filled-ends : (page num den : ℕ) (items : List ℕ) (u i : ℕ) → IsFilled page num den items u i → page * den ≤ u * num → items ++ page ∷ [] ≡ sizes_of page num den
filled-ends page num den items u i s h =
    let e : ends page num den i ≡ true = subst (λ n. nat_le (page * den) (n * num) ≡ true) s.value (le-leb _ _ h) in
    ap (λ xs. items ++ xs) (sym (ends_from page num den s.most i e)) ∙ s.whole

more_from : (page num den most i : ℕ) → ends page num den i ≡ false → sizes_from page num den (suc most) i ≡ up8 (unrounded num den i) ∷ sizes_from page num den most (i + 1)
more_from page num den most i e = rw e refl

more_filled : (page num den : ℕ) (items : List ℕ) (size i most : ℕ) → i < 62 → most + i ≡ most_classes → items ++ sizes_from page num den most i ≡ sizes_of page num den → ends page num den i ≡ false → size ≡ up8 (unrounded num den i) → (m : ℕ) × (m + (i + 1) ≡ most_classes) × ((items ++ size ∷ []) ++ sizes_from page num den m (i + 1) ≡ sizes_of page num den)
more_filled page num den items size i zero l p w e s = absurd (omega (arith, most_classes-is, p, l))
more_filled page num den items size i (suc most) l p w e s =
    (most, omega (arith, p), append_assoc items (size ∷ []) _ ∙ (ap (λ n. items ++ n ∷ sizes_from page num den most (i + 1)) s ∙ (ap (λ xs. items ++ xs) (sym (more_from page num den most i e)) ∙ w)))

pub filled-push : (page num den : ℕ) (items : List ℕ) (u i size : ℕ) → HasFactor page num den → IsFilled page num den items u i → i < 62 → u * num < page * den → size ≡ up8 u → IsFilled page num den (items ++ size ∷ []) (size * num / den) (i + 1)
filled-push page num den items u i size h s l less e =
    let now : ends page num den i ≡ false = subst (λ n. nat_le (page * den) (n * num) ≡ false) s.value (lt-leb _ _ less) in
    let rounded : size ≡ up8 (unrounded num den i) = e ∙ ap up8 s.value in
    let below : size ≤ page = subst (λ n. n ≤ page) (sym rounded) (up8-below _ page h.eights (ends-false _ page num den h.more now)) in
    let fills = more_filled page num den items size i s.most l s.place s.whole now rounded in
    let grown : size * num / den ≤ 4 * size = grown-below size num den h.less in
    record {
      count = omega (arith, length-append items (size ∷ []), s.count);
      value = rw add-one (ap (λ n. n * num / den) rounded);
      bound = omega (arith, grown, below, h.most);
      most = fills.0;
      place = fills.1;
      whole = fills.2;
    }

-- 62 sizes before the page are one too many
many : (page num den : ℕ) (items : List ℕ) (most : ℕ) → length items ≡ 62 → most + 62 ≡ most_classes → items ++ sizes_from page num den most 62 ≡ sizes_of page num den → most_classes < length (sizes_of page num den)
many page num den items zero n p w = omega (arith, most_classes-is, n, length-append items (page ∷ []), ap length w)
many page num den items (suc most) n p w = absurd (omega (arith, most_classes-is, p))

pub filled-many : (page num den : ℕ) (items : List ℕ) (u : ℕ) → IsFilled page num den items u 62 → most_classes < length (sizes_of page num den)
filled-many page num den items u s = many page num den items s.most s.count s.place s.whole

-- few enough

pub filled-few : (page num den : ℕ) (items : List ℕ) (i : ℕ) → length items ≡ i → i < 62 → items ++ page ∷ [] ≡ sizes_of page num den → length (sizes_of page num den) ≤ most_classes
filled-few page num den items i n l e = omega (arith, most_classes-is, n, l, length-append items (page ∷ []), ap length e)
