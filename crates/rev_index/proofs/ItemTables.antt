-- Reads of the table of items, at the pages and slots that the code has.
use Rattle.std.proofs.Common.{◌≡◌, ℕ, suc, zero, ◌<◌, ◌≤◌, Option, Some, None, List, [], ◌∷◌, length, get_or, sym, ◌∙◌, ap, subst, arith, map}
use Rattle.std.proofs.lemmas.List.{get_or_past}
use Rattle.rev_links.specs.Grids.{cells_of}

-- the slots of a page that is looked up
page_at : {V X : Type 0} (f : V → List X) (pages : List (Option V)) (p : ℕ) (o : Option V) → p < length pages → o ≡ get_or pages p o → get_or (map (cells_of f) pages) p [] ≡ cells_of f o
page_at f [] p o l e = absurd (omega arith)
page_at f (x ∷ xs) zero o l e = ap (cells_of f) (sym e)
page_at f (x ∷ xs) (suc p) o l e = page_at f xs p o (omega arith) e

-- the same of a page that has slots
filled_page : {V X : Type 0} (f : V → List X) (pages : List (Option V)) (p : ℕ) (o : Option V) → 0 < length (get_or (map (cells_of f) pages) p []) → o ≡ get_or pages p o → get_or (map (cells_of f) pages) p [] ≡ cells_of f o
filled_page f [] p o l e = absurd (omega arith)
filled_page f (x ∷ xs) zero o l e = ap (cells_of f) (sym e)
filled_page f (x ∷ xs) (suc p) o l e = filled_page f xs p o l e

pub page_lifted : {V X : Type 0} (f : V → List X) (pages : List (Option V)) (g : List (List X)) → map (cells_of f) pages ≡ g → (page p : ℕ) → p ≡ page → 0 < length (get_or g page []) → (o : Option V) → o ≡ get_or pages p o → (v : V) → o ≡ Some v → f v ≡ get_or g page []
page_lifted f pages g w page p a l o e v s =
    let l' : 0 < length (get_or (map (cells_of f) pages) p []) = subst (λ k. 0 < length (get_or k p [])) (sym w) (subst (λ n. 0 < length (get_or g n [])) (sym a) l) in
    sym (ap (cells_of f) s) ∙ (sym (filled_page f pages p o l' e) ∙ (ap (λ k. get_or k p []) w ∙ ap (λ n. get_or g n []) a))

module _ {V Y : Type 0} (f : V → List (Option Y)) (pages : List (Option V)) (g : List (List (Option Y))) (view_is : map (cells_of f) pages ≡ g)
    (ds : List (Option V)) (is_ds : ds ≡ pages) (page p : ℕ) (a : p ≡ page) (o : Option V) (l : p < length ds) (e : (d : Option V) → o ≡ get_or ds p d) (v : V) (some : Some v ≡ o)
    (es : List (Option Y)) (is_es : es ≡ f v) (slot s : ℕ) (b : s ≡ slot) where
  row : get_or g page [] ≡ es
  row =
      let q : o ≡ get_or pages p o = e o ∙ ap (λ k. get_or k p o) is_ds in
      let m : p < length pages = subst (λ k. p < length k) is_ds l in
      ap (λ n. get_or g n []) (sym a) ∙ (ap (λ k. get_or k p []) (sym view_is) ∙ (page_at f pages p o m q ∙ (ap (cells_of f) (sym some) ∙ sym is_es)))

  pub no_slot : length es ≤ s → None ≡ get_or (get_or g page []) slot None
  no_slot n = sym (ap (λ k. get_or k slot None) row ∙ (ap (λ i. get_or es i None) (sym b) ∙ get_or_past es s None n))

  pub slot_holds : (y : Option Y) → ((d : Option Y) → y ≡ get_or es s d) → y ≡ get_or (get_or g page []) slot None
  slot_holds y h = h None ∙ (ap (λ i. get_or es i None) b ∙ ap (λ k. get_or k slot None) (sym row))
