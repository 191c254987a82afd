-- When links stand for free lists, and what a step of the links does to them.
use Rattle.std.proofs.Common.{◌≡◌, ◌≢◌, ℕ, ◌+◌, ◌*◌, ◌<◌, ◌≤◌, IsSome, List, [], length, get_or, set, inl, inr, sym, ◌∙◌, ap, subst, arith, map, take}
use Rattle.std.proofs.lemmas.Bool.{cases_eq, cases_lt, eq-eqb}
use Rattle.std.proofs.lemmas.Bool.Decides.{nat_tests}
use Rattle.std.proofs.lemmas.List.{get_or-set_same, get_or-set_other, get_or_past, same_lists, length-set, length-map}
use Rattle.std.proofs.lemmas.List.FromFn.{length-map-range_with_len, get_or-map-range_with_len}
use Rattle.rev_links.specs.declared.places.RingPlace.TheVariants.{End, At}
use Rattle.rev_links.specs.Rings.{Path, In}
use Rattle.rev_links.proofs.Members.{Tells}
use Rattle.rev_links.proofs.Grids.{size_of_page, cell_from_size, size_from_cell}
use Rattle.rev_links.proofs.Rings.{walk_path, rest, distinct_path, first_step, length_at_most}
use Rattle.rev_model.specs.Chunk.{same_chunk}
use Rattle.rev_model.specs.declared.ChunkRef.{ChunkRef}
use Rattle.rev_pages.specs.declared.places.FreeList.{FreeList}
use Rattle.rev_pages.specs.Tables.{FreePlace, FreeLink, link_at, next_in, previous_in, SameShape}
use Rattle.rev_pages.specs.State.{free_of, with_free, all_chunks, chain, chains, state_of, IsLinked}
use Rattle.rev_pages.proofs.Tables.{some_at_next, same_chunk_parts}

pub same_chunk_tells : Tells same_chunk
same_chunk_tells =
    record {
      same = λ x y h. let p : x.page ≡ y.page = grind (arith, nat_tests) in let s : x.slot ≡ y.slot = grind (arith, nat_tests) in same_chunk_parts x y p s;
      apart = λ x y h e. let p : x.page ≡ y.page = ap (λ (z : ChunkRef). z.page) e in let s : x.slot ≡ y.slot = ap (λ (z : ChunkRef). z.slot) e in
          let p' = eq-eqb _ _ p in let s' = eq-eqb _ _ s in grind (arith, nat_tests);
    }

pub same_list : (c d : FreeList) → c.class ≡ d.class → c ≡ d
same_list c d e = ap (λ n. record { class = n }) e

-- the pages and links are few enough to number the chunks
pub record Bounded (links : List (List FreeLink)) : Type 0 where
  pub pages : length links ≤ 65536
  pub slots_below : (p : ℕ) → get_or (map length links) p 0 ≤ 65535

-- a chunk with a link is a slot of its page
pub slot_from_link : (ends : List FreeLink) (links : List (List FreeLink)) (x : ChunkRef) → IsSome (link_at ends links (At x)) → x.slot < get_or (map length links) x.page 0
slot_from_link ends links x h = size_from_cell links x.page x.slot h

pub link_from_slot : (ends : List FreeLink) (links : List (List FreeLink)) (x : ChunkRef) → x.slot < get_or (map length links) x.page 0 → IsSome (link_at ends links (At x))
link_from_slot ends links x h = cell_from_size links x.page x.slot h

-- members of a list are slots
pub member_there : (ends : List FreeLink) (links : List (List FreeLink)) (p : FreePlace) (xs : List ChunkRef) (q : FreePlace) (x : ChunkRef)
    → Path (next_in ends links) (previous_in ends links) p xs q → In x xs → IsSome (link_at ends links (At x))
member_there ends links p xs q x h m =
    let r = rest (next_in ends links) (previous_in ends links) p xs q x h m in
    let f = first_step (next_in ends links) (previous_in ends links) (At x) r.0 q r.1 in
    some_at_next ends links (At x) f.0 f.1.onward

number_of : ChunkRef → ℕ
number_of x = 65536 * x.page + x.slot

-- a list has no more members than there are numbers of chunks
list_bound : (ends : List FreeLink) (links : List (List FreeLink)) → Bounded links → (p : FreePlace) (xs : List ChunkRef) (e : FreeList)
    → Path (next_in ends links) (previous_in ends links) p xs (End e) → length xs ≤ all_chunks
unfolding all_chunks number_of
list_bound ends links b p xs e h =
    let there : (x : ChunkRef) → In x xs → x.slot < get_or (map length links) x.page 0 = λ x m. slot_from_link ends links x (member_there ends links p xs (End e) x h m) in
    let page : (x : ChunkRef) → In x xs → x.page < 65536 = λ x m. page_below x (there x m) in
    let slot : (x : ChunkRef) → In x xs → x.slot < 65536 = λ x m. let a = there x m in let k = b.slots_below x.page in omega arith in
    length_at_most number_of 4294967296 xs (distinct_path _ _ p xs e h)
    (λ x y m n k. same_chunk_parts x y (let a = slot x m in let c = slot y n in omega arith) (let a = slot x m in let c = slot y n in omega arith))
    (λ x m. let a = slot x m in let c = page x m in omega arith)
  where
    page_below : (x : ChunkRef) → x.slot < get_or (map length links) x.page 0 → x.page < 65536
    page_below x h = elim (cases_lt x.page (length links)) [
      | inl l ↦ (let k = b.pages in omega arith)
      | inr l ↦ (let k : get_or links x.page [] ≡ [] = get_or_past links x.page [] l in let k' = ap length k in let e' = size_of_page links x.page in absurd (omega arith))
    ]

-- lists that run through the links are the chains
pub chain_is : (ends : List FreeLink) (links : List (List FreeLink)) → Bounded links → (xs : List ChunkRef) (c : FreeList)
    → Path (next_in ends links) (previous_in ends links) (End c) xs (End c) → chain ends links c ≡ xs
unfolding chain
chain_is ends links b xs c h = walk_path (next_in ends links) (previous_in ends links) (End c) xs c all_chunks h (list_bound ends links b (End c) xs c h)

pub free_at : (owners : List ℕ) (made : ℕ) (ends : List FreeLink) (links : List (List FreeLink)) (c : FreeList) → c.class < length ends → free_of (state_of owners made ends links) c.class ≡ chain ends links c
free_at owners made ends links c l = get_or-map-range_with_len (λ n. chain ends links (record { class = n })) 0 (length ends) c.class c.class [] l (omega arith)

pub length-chains : (ends : List FreeLink) (links : List (List FreeLink)) → length (chains ends links) ≡ length ends
length-chains ends links = length-map-range_with_len (λ n. chain ends links (record { class = n })) 0 (length ends)

pub bounded : (owners : List ℕ) (made : ℕ) (ends : List FreeLink) (links : List (List FreeLink)) → IsLinked owners made ends links → Bounded links
bounded owners made ends links h = record { pages = (let k = h.pages in omega arith); slots_below = h.slots_below }

pub bounded_shape : (ends : List FreeLink) (links : List (List FreeLink)) (ends' : List FreeLink) (links' : List (List FreeLink)) → SameShape ends links ends' links' → Bounded links → Bounded links'
bounded_shape ends links ends' links' s b =
    let l : length links' ≡ length links = sym (length-map links' length) ∙ ap length s.same_sizes ∙ length-map links length in
    let k = b.pages in
    record { pages = omega arith; slots_below = λ p. subst (λ xs. get_or xs p 0 ≤ 65535) (sym s.same_sizes) (b.slots_below p) }

-- the chains after a step: the list of the class c is ys, and the others are as before
pub record Becomes (ends : List FreeLink) (links : List (List FreeLink)) (ends' : List FreeLink) (links' : List (List FreeLink)) (c : FreeList) (ys : List ChunkRef) : Type 0 where
  pub shape : SameShape ends links ends' links'
  pub own : Path (next_in ends' links') (previous_in ends' links') (End c) ys (End c)
  pub others : (d : FreeList) → d.class < length ends → d ≢ c → Path (next_in ends' links') (previous_in ends' links') (End d) (chain ends links d) (End d)

pub linked_after : (owners : List ℕ) (made : ℕ) (ends : List FreeLink) (links : List (List FreeLink)) (ends' : List FreeLink) (links' : List (List FreeLink)) (c : FreeList) (ys : List ChunkRef)
    → IsLinked owners made ends links → Becomes ends links ends' links' c ys → IsLinked owners made ends' links'
linked_after owners made ends links ends' links' c ys h b =
    let k = bounded_shape ends links ends' links' b.shape (bounded owners made ends links h) in
    let l : length links' ≡ length links = sym (length-map links' length) ∙ ap length b.shape.same_sizes ∙ length-map links length in
    record {
      ring = λ d m. elim (cases_eq d.class c.class) [
        | inl e ↦ subst (λ z. Path (next_in ends' links') (previous_in ends' links') (End z) (chain ends' links' z) (End z)) (sym (same_list d c e))
            (subst (λ zs. Path (next_in ends' links') (previous_in ends' links') (End c) zs (End c)) (sym (chain_is ends' links' k ys c b.own)) b.own)
        | inr e ↦
            let o = b.others d (let q = b.shape.same_ends in omega arith) (λ z. e (ap (λ (w : FreeList). w.class) z)) in
            subst (λ zs. Path (next_in ends' links') (previous_in ends' links') (End d) zs (End d)) (sym (chain_is ends' links' k (chain ends links d) d o)) o
      ];
      owned = h.owned ∙ sym l;
      made_within = h.made_within;
      classes = (let q = h.classes in let s = b.shape.same_ends in omega arith);
      pages = (let q = h.pages in omega arith);
      slots_below = k.slots_below;
    }

pub state_after : (owners : List ℕ) (made : ℕ) (ends : List FreeLink) (links : List (List FreeLink)) (ends' : List FreeLink) (links' : List (List FreeLink)) (c : FreeList) (ys : List ChunkRef)
    → IsLinked owners made ends links → c.class < length ends → Becomes ends links ends' links' c ys
    → state_of owners made ends' links' ≡ with_free (state_of owners made ends links) c.class ys
state_after owners made ends links ends' links' c ys h m b =
    let k = bounded_shape ends links ends' links' b.shape (bounded owners made ends links h) in
    let n = b.shape.same_ends in
    let n₀ = length-chains ends links in
    let n₁ = length-chains ends' links' in
    let n₂ = length-set (chains ends links) c.class ys in
    let free : chains ends' links' ≡ set (chains ends links) c.class ys =
    same_lists _ _ (omega arith) (λ i d l.
    let i' : FreeList = record { class = i } in
    let l' : i < length ends = omega arith in
    let at : get_or (chains ends' links') i d ≡ chain ends' links' i' =
    get_or-map-range_with_len (λ n. chain ends' links' (record { class = n })) 0 (length ends') i i d (omega arith) (omega arith) in
    elim (cases_eq i c.class) [
      | inl e ↦
          let w : get_or (set (chains ends links) c.class ys) i d ≡ ys =
          subst (λ z. get_or (set (chains ends links) c.class ys) z d ≡ ys) (sym e) (get_or-set_same (chains ends links) c.class ys d (omega arith)) in
          at ∙ (ap (chain ends' links') (same_list i' c e) ∙ (chain_is ends' links' k ys c b.own ∙ sym w))
      | inr e ↦
          let w : get_or (set (chains ends links) c.class ys) i d ≡ chain ends links i' =
          get_or-set_other (chains ends links) c.class i ys d e
          ∙ get_or-map-range_with_len (λ n. chain ends links (record { class = n })) 0 (length ends) i i d l' (omega arith) in
          let o = b.others i' l' (λ z. e (ap (λ (q : FreeList). q.class) z)) in
          at ∙ (chain_is ends' links' k (chain ends links i') i' o ∙ sym w)
    ]) in
    ap (λ ss. record { owner = take made owners; free = chains ends' links'; slots = ss }) b.shape.same_sizes
    ∙ ap (λ fs. record { owner = take made owners; free = fs; slots = map length links }) free
