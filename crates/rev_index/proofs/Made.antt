-- The map of a table of pages: what it has at a chunk, and what it becomes where one item or a page changes.
use Rattle.std.specs.Prelude.{ℕ, ◌≡◌, ◌+◌, ◌<◌, cond, List, [], ◌∷◌, Option, None, length, slice_index, slice_index_or, slice_set, zero, suc, refl, map as map_list}
use Rattle.std.proofs.Common.{sym, ◌∙◌, ap, inl, inr, arith}
use Rattle.std.proofs.lemmas.Bool.{cases_Bool, cases_eq, false≢true}
use Rattle.std.proofs.lemmas.List.{get_or-set_same, get_or-set_other, map-set, set-get_or}
use Rattle.std.specs.Ordering.{eq_by_cmp}
use Rattle.std.specs.Cmp.{eq_by_cmp_equiv}
use Rattle.std.specs.FinMap as map
use Rattle.rev_items.specs.Plain.{PlainItem}
use Rattle.rev_model.specs.Chunk.{chunk_cmp, HasSlot}
use Rattle.rev_model.proofs.Chunks.{chunk_cmp_exact, chunk_cmp_total}
use Rattle.rev_model.specs.State.{Contents}
use Rattle.rev_model.specs.Move.{put_at}
use Rattle.rev_model.proofs.Undo.{get-put_at, get-put_at_same, tied}
use Rattle.rev_model.specs.declared.ChunkRef.{ChunkRef}
use Rattle.rev_index.specs.Made.{made_slots, made_from, made, at}

other : (m : Contents) (k q : ChunkRef) (o : Option PlainItem) → (q ≡ k → ⊥) → map.get (put_at m k o) q ≡ map.get m q
other m k q o ne = elim (cases_Bool (eq_by_cmp chunk_cmp q k)) [
  | inl e ↦ absurd (ne (tied chunk_cmp_total chunk_cmp_exact q k e))
  | inr e ↦ get-put_at chunk_cmp_total chunk_cmp_exact m k o q ∙ ap (λ b. cond b o (map.get m q)) e
]

other_page : (p i : ℕ) (os : List (Option PlainItem)) (m : Contents) (q : ChunkRef) → (q.page ≡ p → ⊥) → map.get (made_slots p i os m) q ≡ map.get m q
other_page p i [] m q ne = refl
other_page p i (o ∷ os) m q ne = other _ (record { page = p; slot = i }) q o (λ e. ne (ap (λ (c : ChunkRef). c.page) e)) ∙ other_page p (suc i) os m q ne

at_slot : (p i k : ℕ) (os : List (Option PlainItem)) (m : Contents) → ((s : ℕ) → map.get m (record { page = p; slot = s }) ≡ None) → map.get (made_slots p i os m) (record { page = p; slot = i + k }) ≡ slice_index_or os k None
at_slot p i k [] m none = none (i + k)
at_slot p i zero (o ∷ os) m none =
    let e : i + 0 ≡ i = omega arith in
    ap (λ s. map.get (put_at (made_slots p (suc i) os m) (record { page = p; slot = i }) o) (record { page = p; slot = s })) e
    ∙ get-put_at_same chunk_cmp_total chunk_cmp_exact (made_slots p (suc i) os m) (record { page = p; slot = i }) o
at_slot p i (suc k) (o ∷ os) m none =
    let e : i + suc k ≡ suc i + k = omega arith in
    other (made_slots p (suc i) os m) (record { page = p; slot = i }) (record { page = p; slot = i + suc k }) o (λ h. let s : i + suc k ≡ i = ap (λ (c : ChunkRef). c.slot) h in absurd (omega (arith, s)))
    ∙ ap (λ s. map.get (made_slots p (suc i) os m) (record { page = p; slot = s })) e
    ∙ at_slot p (suc i) k os m none

below : (p : ℕ) (ls : List (List (Option PlainItem))) (q : ChunkRef) → q.page < p → map.get (made_from p ls) q ≡ None
below p [] q lt = map.get-empty chunk_cmp q
below p (l ∷ ls) q lt = other_page p 0 l (made_from (suc p) ls) q (λ e. absurd (omega (arith, e, lt))) ∙ below (suc p) ls q (omega (arith, lt))

at_page : (p j s : ℕ) (ls : List (List (Option PlainItem))) → map.get (made_from p ls) (record { page = p + j; slot = s }) ≡ slice_index_or (slice_index_or ls j []) s None
at_page p j s [] = map.get-empty chunk_cmp (record { page = p + j; slot = s })
at_page p zero s (l ∷ ls) =
    let e : p + 0 ≡ p = omega arith in
    let f : 0 + s ≡ s = omega arith in
    ap (λ n. map.get (made_from p (l ∷ ls)) (record { page = n; slot = s })) e
    ∙ ap (λ n. map.get (made_from p (l ∷ ls)) (record { page = p; slot = n })) (sym f)
    ∙ at_slot p 0 s l (made_from (suc p) ls) (λ t. below (suc p) ls (record { page = p; slot = t }) (omega arith))
at_page p (suc j) s (l ∷ ls) =
    let e : p + suc j ≡ suc p + j = omega arith in
    other_page p 0 l (made_from (suc p) ls) (record { page = p + suc j; slot = s }) (λ h. absurd (omega (arith, h)))
    ∙ ap (λ n. map.get (made_from (suc p) ls) (record { page = n; slot = s })) e
    ∙ at_page (suc p) j s ls

-- the map has at a chunk what the table has
pub get-made : (ls : List (List (Option PlainItem))) (q : ChunkRef) → map.get (made ls) q ≡ at ls q
get-made ls q =
    let e : 0 + q.page ≡ q.page = omega arith in
    ap (λ n. map.get (made ls) (record { page = n; slot = q.slot })) (sym e) ∙ at_page 0 q.page q.slot ls

same_place : (q x : ChunkRef) → q.page ≡ x.page → q.slot ≡ x.slot → q ≡ x
same_place q x e f i = record { page = e i; slot = f i }

at-set : (ls : List (List (Option PlainItem))) (x : ChunkRef) (o : Option PlainItem) (q : ChunkRef) → x.page < length ls → x.slot < length (slice_index_or ls x.page []) → at (slice_set ls x.page (slice_set (slice_index_or ls x.page []) x.slot o)) q ≡ cond (eq_by_cmp chunk_cmp q x) o (at ls q)
at-set ls x o q lt in_page = elim (cases_Bool (eq_by_cmp chunk_cmp q x)) [
  | inl e ↦
      let l = slice_index_or ls x.page [] in
      rw (e, tied chunk_cmp_total chunk_cmp_exact q x e) (ap (λ k. slice_index_or k x.slot None) (get_or-set_same ls x.page (slice_set l x.slot o) [] lt) ∙ get_or-set_same l x.slot o None in_page)
  | inr e ↦ rw e (elim (cases_eq q.page x.page) [
    | inl f ↦ elim (cases_eq q.slot x.slot) [
      | inl g ↦ absurd (false≢true (sym e ∙ ap (λ k. eq_by_cmp chunk_cmp k x) (same_place q x f g) ∙ (eq_by_cmp_equiv chunk_cmp_total).refl x))
      | inr g ↦
          let l = slice_index_or ls x.page [] in
          ap (λ k. slice_index_or (slice_index_or (slice_set ls x.page (slice_set l x.slot o)) k []) q.slot None) f
          ∙ ap (λ k. slice_index_or k q.slot None) (get_or-set_same ls x.page (slice_set l x.slot o) [] lt)
          ∙ get_or-set_other l x.slot q.slot o None g
          ∙ ap (λ k. slice_index_or (slice_index_or ls k []) q.slot None) (sym f)
    ]
    | inr f ↦ ap (λ k. slice_index_or k q.slot None) (get_or-set_other ls x.page q.page (slice_set (slice_index_or ls x.page []) x.slot o) [] f)
  ])
]

-- a write to the table is a change of the map
pub made-set : (ls : List (List (Option PlainItem))) (x : ChunkRef) (o : Option PlainItem) → x.page < length ls → x.slot < length (slice_index_or ls x.page []) → made (slice_set ls x.page (slice_set (slice_index_or ls x.page []) x.slot o)) ≡ put_at (made ls) x o
made-set ls x o lt in_page = map.same_map chunk_cmp_total chunk_cmp_exact _ _ (λ q.
    get-made _ q ∙ at-set ls x o q lt in_page ∙ ap (cond (eq_by_cmp chunk_cmp q x) o) (sym (get-made ls q)) ∙ sym (get-put_at chunk_cmp_total chunk_cmp_exact (made ls) x o q))

-- The table as a list of owned pages, each seen as its slots.
swapped : {X : Type 0} (xs : List X) (i : ℕ) (x d : X) → i < length xs → x ≡ slice_index_or xs i x → slice_index_or xs i d ≡ x
swapped [] i x d lt is = absurd (omega (arith, lt))
swapped (y ∷ ys) zero x d lt is = sym is
swapped (y ∷ ys) (suc i) x d lt is = swapped ys i x d (omega (arith, lt)) is

page_at : {V : Type 0} (f : V → List (Option PlainItem)) (vs : List V) (p : ℕ) (v : V) → p < length vs → v ≡ slice_index_or vs p v → slice_index_or (map_list f vs) p [] ≡ f v
page_at f [] p v lt is = absurd (omega (arith, lt))
page_at f (u ∷ us) zero v lt is = ap f (sym is)
page_at f (u ∷ us) (suc p) v lt is = page_at f us p v (omega (arith, lt)) is

length_at : {V : Type 0} (n : V → ℕ) (vs : List V) (p : ℕ) (v : V) → p < length vs → v ≡ slice_index_or vs p v → slice_index (map_list n vs) p ≡ n v
length_at n [] p v lt is = absurd (omega (arith, lt))
length_at n (u ∷ us) zero v lt is = ap n (sym is)
length_at n (u ∷ us) (suc p) v lt is = length_at n us p v (omega (arith, lt)) is

length_map : {V W : Type 0} (f : V → W) (vs : List V) → length (map_list f vs) ≡ length vs
length_map f [] = refl
length_map f (v ∷ vs) = let more : length (map_list f vs) ≡ length vs = length_map f vs in omega (arith, more)

module _ {V : Type 0} (f : V → List (Option PlainItem)) (vs : List V) (x : ChunkRef) (slot : HasSlot (map_list (λ v. length (f v)) vs) x) (v : V) (is : v ≡ slice_index_or vs x.page v) where
  pub in_table : x.page < length vs
  in_table = omega (arith, slot.0, length_map (λ v. length (f v)) vs)

  pub in_page : x.slot < length (f v)
  in_page = let e : slice_index (map_list (λ v. length (f v)) vs) x.page ≡ length (f v) = length_at (λ v. length (f v)) vs x.page v in_table is in omega (arith, slot.1, e)

  pub read : (o : Option PlainItem) → o ≡ slice_index_or (f v) x.slot o → o ≡ map.get (made (map_list f vs)) x
  read o here = sym (get-made (map_list f vs) x ∙ ap (λ l. slice_index_or l x.slot None) (page_at f vs x.page v in_table is) ∙ swapped (f v) x.slot o None in_page here)

  pub written : (w : V) (o : Option PlainItem) → f w ≡ slice_set (f v) x.slot o → made (map_list f (slice_set vs x.page w)) ≡ put_at (made (map_list f vs)) x o
  written w o e =
      let page : slice_index_or (map_list f vs) x.page [] ≡ f v = page_at f vs x.page v in_table is in
      let lt : x.page < length (map_list f vs) = omega (arith, length_map f vs, in_table) in
      ap made (map-set f vs x.page w ∙ ap (slice_set (map_list f vs) x.page) (e ∙ ap (λ l. slice_set l x.slot o) (sym page)))
      ∙ made-set (map_list f vs) x o lt (rw page in_page)

  pub same_slots : (w : V) → length (f w) ≡ length (f v) → map_list (λ v. length (f v)) (slice_set vs x.page w) ≡ map_list (λ v. length (f v)) vs
  same_slots w e =
      let here : slice_index (map_list (λ v. length (f v)) vs) x.page ≡ length (f v) = length_at (λ v. length (f v)) vs x.page v in_table is in
      map-set (λ v. length (f v)) vs x.page w ∙ ap (slice_set (map_list (λ v. length (f v)) vs) x.page) (e ∙ sym here) ∙ set-get_or (map_list (λ v. length (f v)) vs) x.page 0
