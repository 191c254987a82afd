-- A page's links exchanged: what a page that gets slots or loses them makes of the lists.
use Rattle.std.proofs.Common.{◌≡◌, ◌≢◌, ℕ, ◌<◌, ◌≤◌, List, [], length, get_or, set, slice_get, inl, inr, refl, sym, ◌∙◌, ap, subst, arith, map, take, option_map}
use Rattle.std.proofs.lemmas.Bool.{cases_eq, cases_lt}
use Rattle.std.proofs.lemmas.List.{get_or-set_same, get_or-set_other, get_or_past, same_lists, length-set, length-map, map-set, set_past, length-take-le}
use Rattle.std.proofs.lemmas.List.FromFn.{get_or-map-range_with_len}
use Rattle.rev_links.specs.declared.places.RingPlace.TheVariants.{End, At}
use Rattle.rev_links.specs.Rings.{Path, In}
use Rattle.rev_links.proofs.Grids.{size_of_page}
use Rattle.rev_links.proofs.Rings.{path_same}
use Rattle.rev_model.specs.declared.ChunkRef.{ChunkRef}
use Rattle.rev_pages.specs.declared.places.FreeList.{FreeList}
use Rattle.rev_pages.specs.Tables.{FreeLink, link_at, next_in, previous_in}
use Rattle.rev_pages.specs.State.{PagesState, free_of, with_slots, IsClear, IsNowhere, chain, chains, state_of, IsLinked, AreCounted, IsKept}
use Rattle.rev_pages.proofs.Chains.{Bounded, bounded, chain_is, free_at, length-chains, slot_from_link, member_there}

-- ---- a page's links exchanged
size_set : (links : List (List FreeLink)) (page : ℕ) (cells : List FreeLink) → map length (set links page cells) ≡ set (map length links) page (length cells)
size_set links page cells = map-set length links page cells

-- no member of a list stands in the page
abbrev pub Clear : List FreeLink → List (List FreeLink) → ℕ → Type 0
Clear ends links page = (c : FreeList) (x : ChunkRef) → c.class < length ends → In x (chain ends links c) → x.page ≢ page

module _ (owners : List ℕ) (made : ℕ) (ends : List FreeLink) (links : List (List FreeLink)) (h : IsLinked owners made ends links) (page : ℕ) (cells : List FreeLink) (few : length cells ≤ 65535) (clear : Clear ends links page) where
  abbrev links' : List (List FreeLink)
  links' = set links page cells

  same_link : (x : ChunkRef) → x.page ≢ page → link_at ends links' (At x) ≡ link_at ends links (At x)
  same_link x n = ap (λ ls. slice_get ls x.slot) (get_or-set_other links page x.page cells [] n)

  bounded_exchanged : Bounded links'
  bounded_exchanged =
      let b = bounded owners made ends links h in
      let p = b.pages in
      let l = length-set links page cells in
      record {
        pages = omega arith;
        slots_below = λ q. subst (λ ns. get_or ns q 0 ≤ 65535) (sym (size_set links page cells))
            (elim (cases_eq q page) [
              | inl e ↦ (elim (cases_lt page (length (map length links))) [
                | inl k ↦ subst (λ z. get_or (set (map length links) page (length cells)) z 0 ≤ 65535) (sym e) (rw (get_or-set_same (map length links) page (length cells) 0 k) few)
                | inr k ↦ rw (set_past (map length links) page (length cells) k) (b.slots_below q)
              ])
              | inr n ↦ rw (get_or-set_other (map length links) page q (length cells) 0 n) (b.slots_below q)
            ]);
      }

  same_path : (c : FreeList) → c.class < length ends → Path (next_in ends links') (previous_in ends links') (End c) (chain ends links c) (End c)
  same_path c m =
      path_same (next_in ends links) (previous_in ends links) (next_in ends links') (previous_in ends links') (End c) (chain ends links c) (End c) refl
      (λ x i. let e = same_link x (clear c x m i) in (ap (option_map (λ (l : FreeLink). l.next)) e, ap (option_map (λ (l : FreeLink). l.previous)) e)) refl (h.ring c m)

  same_chain : (c : FreeList) → c.class < length ends → chain ends links' c ≡ chain ends links c
  same_chain c m = chain_is ends links' bounded_exchanged (chain ends links c) c (same_path c m)

  pub exchanged_linked : IsLinked owners made ends links'
  exchanged_linked =
      let o = h.owned in
      let s = length-set links page cells in
      let p = h.pages in
      record {
        ring = λ c m. subst (λ xs. Path (next_in ends links') (previous_in ends links') (End c) xs (End c)) (sym (same_chain c m)) (same_path c m);
        owned = o ∙ sym s;
        made_within = h.made_within;
        classes = h.classes;
        pages = omega arith;
        slots_below = bounded_exchanged.slots_below;
      }

  same_chains : chains ends links' ≡ chains ends links
  same_chains =
      let n₀ = length-chains ends links in
      let n₁ = length-chains ends links' in
      same_lists _ _ (omega arith) (λ i d l.
      let l' : i < length ends = omega arith in
      get_or-map-range_with_len (λ n. chain ends links' (record { class = n })) 0 (length ends) i i d l' (omega arith)
      ∙ (same_chain (record { class = i }) l'
      ∙ sym (get_or-map-range_with_len (λ n. chain ends links (record { class = n })) 0 (length ends) i i d l' (omega arith))))

  pub exchanged_value : state_of owners made ends links' ≡ with_slots (state_of owners made ends links) page (length cells)
  exchanged_value =
      ap (λ ns. record { owner = take made owners; slots = ns; free = chains ends links' }) (size_set links page cells)
      ∙ ap (λ fs. record { owner = take made owners; slots = set (map length links) page (length cells); free = fs }) same_chains

-- where a page has no links, no member stands in it
pub clear_empty : (owners : List ℕ) (made : ℕ) (ends : List FreeLink) (links : List (List FreeLink)) → IsLinked owners made ends links → (page : ℕ) → get_or (map length links) page 0 ≡ 0 → Clear ends links page
clear_empty owners made ends links h page z c x m i e =
    let l = slot_from_link ends links x (member_there ends links (End c) (chain ends links c) (End c) x (h.ring c m) i) in
    let k : get_or (map length links) x.page 0 ≡ 0 = subst (λ n. get_or (map length links) n 0 ≡ 0) (sym e) z in
    omega arith

-- where the value says so
pub clear_value : (owners : List ℕ) (made : ℕ) (ends : List FreeLink) (links : List (List FreeLink)) (v : PagesState) → state_of owners made ends links ≡ v → (page : ℕ)
    → ((x : ChunkRef) → x.page ≡ page → IsNowhere v x) → Clear ends links page
clear_value owners made ends links v e page none c x m i u =
    none x u c.class (subst (λ w. In x (free_of w c.class)) e (subst (In x) (sym (free_at owners made ends links c m)) i))

-- where a page has no links, none of its chunks stands in a free list
pub is_clear : (owners : List ℕ) (made : ℕ) (ends : List FreeLink) (links : List (List FreeLink)) → IsLinked owners made ends links → (v : PagesState) → state_of owners made ends links ≡ v
    → (page : ℕ) → get_or v.slots page 0 ≡ 0 → IsClear v page
is_clear owners made ends links h v e page z x u c i =
    let z' : get_or (map length links) page 0 ≡ 0 = subst (λ (q : PagesState). get_or q.slots page 0 ≡ 0) (sym e) z in
    let i' : In x (free_of (state_of owners made ends links) c) = subst (λ w. In x (free_of w c)) (sym e) i in
    let c' : FreeList = record { class = c } in
    elim (cases_lt c (length ends)) [
      | inl l ↦ clear_empty owners made ends links h page z' c' x l (subst (In x) (free_at owners made ends links c' l) i') u
      | inr l ↦ subst (In x) (get_or_past (chains ends links) c [] (let n = length-chains ends links in omega arith)) i'
    ]

-- ---- a page that gets links
module _ (owners : List ℕ) (made : ℕ) (ends : List FreeLink) (links : List (List FreeLink)) (h : IsLinked owners made ends links) (v : PagesState) (e : state_of owners made ends links ≡ v) (page : ℕ) where
  -- a page made has its place among the pages' slots
  pub slot_there : page < length v.owner → page < length v.slots
  slot_there l =
      let a : length (take made owners) ≡ length v.owner = ap (λ (q : PagesState). length q.owner) e in
      let b = length-take-le made owners h.made_within in
      let c : length (map length links) ≡ length v.slots = ap (λ (q : PagesState). length q.slots) e in
      let d = length-map links length in
      let o = h.owned in
      let m = h.made_within in
      omega arith

  module _ (empty : get_or v.slots page 0 ≡ 0) (cells ends' : List FreeLink) (links' : List (List FreeLink)) (few : length cells < 65536) (u : ends' ≡ ends) (w : links' ≡ set links page cells) where
    clear : Clear ends links page
    clear = clear_empty owners made ends links h page (subst (λ (q : PagesState). get_or q.slots page 0 ≡ 0) (sym e) empty)

    pub laid_kept : (owned : List ℕ) → AreCounted owned (length ends) (take made owners) → IsKept owners made owned ends' links'
    laid_kept owned t = subst (λ es. IsKept owners made owned es links') (sym u) (record {
      linked = subst (IsLinked owners made ends) (sym w) (exchanged_linked owners made ends links h page cells (omega arith) clear);
      counted = t;
    })

    pub laid_value : (n : ℕ) → length cells ≡ n → state_of owners made ends' links' ≡ with_slots v page n
    laid_value n b =
        ap (λ es. state_of owners made es links') u
        ∙ (ap (state_of owners made ends) w
        ∙ (exchanged_value owners made ends links h page cells (omega arith) clear
        ∙ (ap (with_slots (state_of owners made ends links) page) b
        ∙ ap (λ q. with_slots q page n) e)))

-- ---- a page that loses its links
module _ (owners : List ℕ) (made : ℕ) (ends : List FreeLink) (links : List (List FreeLink)) (h : IsLinked owners made ends links) (v : PagesState) (e : state_of owners made ends links ≡ v)
    (page : ℕ) (clear : IsClear v page) where
  pub slots_of : get_or v.slots page 0 ≡ length (get_or links page [])
  slots_of = ap (λ (q : PagesState). get_or q.slots page 0) (sym e) ∙ size_of_page links page

  pub few_slots : length (get_or links page []) ≤ 65535
  few_slots = let a = h.slots_below page in let b = size_of_page links page in omega arith

  module _ (links' : List (List FreeLink)) (w : links' ≡ set links page []) where
    gone : Clear ends links page
    gone = clear_value owners made ends links v e page clear

    pub lifted_linked : IsLinked owners made ends links'
    lifted_linked = subst (IsLinked owners made ends) (sym w) (exchanged_linked owners made ends links h page [] (omega arith) gone)

    pub lifted_value : state_of owners made ends links' ≡ with_slots v page 0
    lifted_value =
        ap (state_of owners made ends) w
        ∙ (exchanged_value owners made ends links h page [] (omega arith) gone
        ∙ ap (λ q. with_slots q page 0) e)
