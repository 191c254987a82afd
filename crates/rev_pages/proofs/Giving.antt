-- What the owners become where a page comes, goes or changes its class.
use Rattle.std.proofs.Common.{◌≡◌, ℕ, ◌+◌, ◌-◌, ◌<◌, ◌≤◌, List, [], ◌∷◌, ◌++◌, false, length, get_or, set, refl, sym, ◌∙◌, ap, subst, arith, take, map}
use Rattle.std.specs.Prelude.{nat_eq, nat_lt}
use Rattle.std.specs.List.{list_any}
use Rattle.std.proofs.lemmas.List.{length-set, length-take-le, length-map, take_more_set, take-take, get_or-take, get_or_past}
use Rattle.std.proofs.Math.Seq.{take-set-lt}
use Rattle.rev_pages.specs.Tables.{FreeLink}
use Rattle.rev_pages.specs.State.{PagesState, with_owner, chains, state_of, IsLinked, AreCounted, IsKept}
use Rattle.rev_pages.proofs.Counts.{read, some_counted, few_owned, some_owned, cell_owned, counted_more, counted_less, few_left, counted_set}
use Rattle.rev_pages.proofs.Steps.{has_end}
use Rattle.rev_pages.proofs.Chains.{length-chains}

-- the lists stay linked under as many owners
linked_owners : (owners : List ℕ) (made : ℕ) (ends : List FreeLink) (links : List (List FreeLink)) (h : IsLinked owners made ends links) (owners' : List ℕ) (made' : ℕ)
    → length owners' ≡ length owners → made' ≤ length owners → IsLinked owners' made' ends links
linked_owners owners made ends links h owners' made' n l = record {
  ring = h.ring;
  owned = n ∙ h.owned;
  made_within = omega arith;
  classes = h.classes;
  pages = h.pages;
  slots_below = h.slots_below;
}

module _ (owners : List ℕ) (made : ℕ) (owned : List ℕ) (ends : List FreeLink) (links : List (List FreeLink)) (h : IsKept owners made owned ends links) (v : PagesState) (e : state_of owners made ends links ≡ v) where
  abbrev pages : List ℕ
  pages = take made owners

  pages_made : length pages ≡ made
  pages_made = length-take-le made owners h.linked.made_within

  pages_are : length pages ≡ length v.owner
  pages_are = ap (λ (q : PagesState). length q.owner) e

  few_pages : length owners < 65536
  few_pages = let c = h.linked.owned in let d = h.linked.pages in omega arith

  pub has_cell : (class : ℕ) → class < length v.free → class < length owned
  has_cell class m = let a = has_end owners made ends links h.linked v e class m in let b = h.counted.cells in omega arith

  -- where a page is made, there is a pool
  pub pool_there : (page : ℕ) → page < length v.owner → 0 < length v.free
  pool_there page l =
      let a = pages_are in
      let b = cell_owned owned (length ends) pages h.counted page (omega arith) in
      let c = h.counted.cells in
      let d = length-chains ends links in
      let f : length (chains ends links) ≡ length v.free = ap (λ (q : PagesState). length q.free) e in omega arith

  -- whether a class owns a page, where it has a cell and where it has none
  pub owns_counted : (class x : ℕ) → class < length owned → x ≡ get_or owned class x → nat_lt 0 x ≡ list_any (λ d. nat_eq d class) v.owner
  owns_counted class x l u =
      ap (nat_lt 0) (read owned class x l u ∙ h.counted.each class)
      ∙ (some_counted class pages ∙ ap (λ (q : PagesState). list_any (λ d. nat_eq d class) q.owner) e)

  pub owns_past : (class : ℕ) → length owned ≤ class → false ≡ list_any (λ d. nat_eq d class) v.owner
  owns_past class l =
      ap (nat_lt 0) (sym (get_or_past owned class 0 l) ∙ h.counted.each class)
      ∙ (some_counted class pages ∙ ap (λ (q : PagesState). list_any (λ d. nat_eq d class) q.owner) e)

  -- ---- the next page
  module _ (class : ℕ) (m : class < length v.free) (room : length v.owner < length v.slots) where
    made_room : made < length owners
    made_room =
        let a = pages_made in let b = pages_are in
        let c : length (map length links) ≡ length v.slots = ap (λ (q : PagesState). length q.slots) e in
        let d = length-map links length in
        let o = h.linked.owned in omega arith

    -- a is what is read of the class's cell
    module _ (a : ℕ) (r : a ≡ get_or owned class a) where
      was : a ≡ get_or owned class 0
      was = read owned class a (has_cell class m) r

      pub push_fits : a + 1 < 65536
      push_fits =
          let f = few_owned owned (length ends) pages h.counted class in
          let u = was in let p = pages_made in let n = made_room in let q = few_pages in omega arith

      pub push_kept : (p : ℕ) → p ≡ made → IsKept (set owners p class) (made + 1) (set owned class (a + 1)) ends links
      push_kept p x = rw (x, was) (record {
        linked = linked_owners owners made ends links h.linked (set owners made class) (made + 1) (length-set owners made class) (let n = made_room in omega arith);
        counted = rw (take_more_set owners made class made_room) (counted_more owned (length ends) pages h.counted class (has_cell class m));
      })

    pub push_value : (p : ℕ) → p ≡ made → state_of (set owners p class) (made + 1) ends links ≡ with_owner v (v.owner ++ class ∷ [])
    push_value p x = rw x (ap (λ os. record { owner = os; free = chains ends links; slots = map length links }) (take_more_set owners made class made_room)
        ∙ ap (λ w. with_owner w (w.owner ++ class ∷ [])) e)

  -- ---- the last page goes
  module _ (some : 0 < length v.owner) (k : ℕ) (x : k ≡ made - 1) where
    last : k + 1 ≡ made
    last = let a = pages_made in let b = pages_are in omega arith

    last_page : k < length pages
    last_page = let a = last in let b = pages_made in omega arith

    last_owner : k < length owners
    last_owner = let a = last in let b = h.linked.made_within in omega arith

    pub pop_value : state_of owners (made - 1) ends links ≡ with_owner v (take (length v.owner - 1) v.owner)
    pop_value =
        let p = pages_made in let q = pages_are in
        let n : length v.owner - 1 ≡ k = omega arith in
        rw (n, ← x) (ap (λ os. record { owner = os; free = chains ends links; slots = map length links }) (sym (take-take k made owners (let l = last in omega arith)))
        ∙ ap (λ w. with_owner w (take k w.owner)) e)

    -- y is the owner that is read of it, and a what is read of the owner's cell
    module _ (d y : ℕ) (r : d ≡ get_or owners k d) (same : y ≡ d) where
      class_was : y ≡ get_or owners k 0
      class_was = same ∙ read owners k d last_owner r

      page_was : get_or pages k 0 ≡ y
      page_was = get_or-take made owners k 0 (let l = last in omega arith) ∙ sym class_was

      pub last_cell : y < length owned
      last_cell = subst (λ z. z < length owned) page_was (cell_owned owned (length ends) pages h.counted k last_page)

      last_some : 0 < get_or owned y 0
      last_some = subst (λ z. 0 < get_or owned z 0) page_was (some_owned owned (length ends) pages h.counted k last_page)

      module _ (a : ℕ) (s : a ≡ get_or owned y a) where
        count_was : a ≡ get_or owned y 0
        count_was = read owned y a last_cell s

        pub pop_some : 0 < a
        pop_some = let b = last_some in let c = count_was in omega arith

        pub pop_kept : IsKept owners (made - 1) (set owned y (a - 1)) ends links
        pop_kept = rw (count_was, ← x) (record {
          linked = linked_owners owners made ends links h.linked owners k refl (let l = last_owner in omega arith);
          counted = subst (λ z. AreCounted (set owned z (get_or owned z 0 - 1)) (length ends) (take k owners)) (sym class_was)
              (counted_less owned (length ends) k owners last_owner (subst (λ n. AreCounted owned (length ends) (take n owners)) (sym last) h.counted)
              (subst (λ z. 0 < get_or owned z 0) class_was last_some) (subst (λ z. z < length owned) class_was last_cell));
        })

  -- ---- a page changes its class
  module _ (page class : ℕ) (m : class < length v.free) (there : page < length v.owner) (p : ℕ) (at : p ≡ page) where
    page_made : page < length pages
    page_made = let a = pages_are in omega arith

    within : page < made
    within = let a = page_made in let b = pages_made in omega arith

    pub set_value : state_of (set owners p class) made ends links ≡ with_owner v (set v.owner page class)
    set_value = rw at (ap (λ os. record { owner = os; free = chains ends links; slots = map length links }) (take-set-lt made owners page class within)
        ∙ ap (λ w. with_owner w (set w.owner page class)) e)

    -- y is the owner that is read of it, a what is read of that owner's cell, and b what is then read of the new one's
    module _ (d y : ℕ) (r : d ≡ get_or owners p d) (same : y ≡ d) where
      left_was : y ≡ get_or pages page 0
      left_was =
          let l = page_made in let n = pages_made in let m = h.linked.made_within in
          let q : d ≡ get_or owners page 0 = read owners page d (omega arith) (r ∙ ap (λ i. get_or owners i d) at) in
          same ∙ (q ∙ sym (get_or-take made owners page 0 (omega arith)))

      pub left_cell : y < length owned
      left_cell = subst (λ z. z < length owned) (sym left_was) (cell_owned owned (length ends) pages h.counted page page_made)

      module _ (a : ℕ) (s : a ≡ get_or owned y a) where
        left_count : a ≡ get_or owned y 0
        left_count = read owned y a left_cell s

        pub left_some : 0 < a
        left_some =
            let b = subst (λ z. 0 < get_or owned z 0) (sym left_was) (some_owned owned (length ends) pages h.counted page page_made) in
            let c = left_count in omega arith

        module _ (b : ℕ) (t : b ≡ get_or (set owned y (a - 1)) class b) where
          entered_count : b ≡ get_or (set owned y (a - 1)) class 0
          entered_count = read (set owned y (a - 1)) class b (let l = length-set owned y (a - 1) in let c = has_cell class m in omega arith) t

          pub set_fits : b + 1 < 65536
          set_fits =
              let f = few_left owned (length ends) pages h.counted page class page_made (has_cell class m) in
              let n = pages_made in let l = h.linked.made_within in let q = few_pages in
              rw (entered_count, left_count, left_was) (omega arith)

          pub set_kept : IsKept (set owners p class) made (set (set owned y (a - 1)) class (b + 1)) ends links
          set_kept = rw (entered_count, left_count, left_was, at) (record {
            linked = linked_owners owners made ends links h.linked (set owners page class) made (length-set owners page class) h.linked.made_within;
            counted = rw (take-set-lt made owners page class within) (counted_set owned (length ends) pages h.counted page class page_made (has_cell class m));
          })
