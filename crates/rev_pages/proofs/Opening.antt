-- The links of no page: empty lists.
use Rattle.std.proofs.Common.{◌≡◌, ℕ, suc, zero, ◌+◌, ◌<◌, ◌≤◌, Some, List, [], ◌∷◌, ◌++◌, slice_get, inl, inr, refl, length, get_or, sym, ◌∙◌, ap, subst, arith, map, replicate, option_map}
use Rattle.std.proofs.lemmas.Bool.{cases_lt}
use Rattle.std.proofs.lemmas.List.{length-append, same_lists, length-replicate, get_or-replicate}
use Rattle.std.proofs.lemmas.List.FromFn.{get_or-map-range_with_len}
use Rattle.rev_links.specs.declared.places.RingPlace.TheVariants.{End}
use Rattle.rev_links.specs.Grids.{away}
use Rattle.rev_links.specs.Rings.{Path}
use Rattle.rev_links.proofs.Grids.{sizes_away, length_away}
use Rattle.rev_model.specs.declared.ChunkRef.{ChunkRef}
use Rattle.rev_pages.specs.declared.places.FreeList.{FreeList}
use Rattle.rev_pages.specs.Tables.{FreeLink, next_in, previous_in}
use Rattle.rev_pages.specs.State.{no_pages, chain, chains, state_of, IsLinked}
use Rattle.rev_pages.specs.Opened.{AreEmpty}
use Rattle.rev_pages.proofs.Chains.{Bounded, chain_is, length-chains}

-- one end more
get_before : {X : Type 0} (xs : List X) (y : X) (k : ℕ) → k < length xs → slice_get (xs ++ y ∷ []) k ≡ slice_get xs k
get_before [] y k l = absurd (omega (arith, l))
get_before (x ∷ xs) y zero l = refl
get_before (x ∷ xs) y (suc k) l = get_before xs y k (omega (arith, l))

get_last : {X : Type 0} (xs : List X) (y : X) (k : ℕ) → length xs ≡ k → slice_get (xs ++ y ∷ []) k ≡ Some y
get_last [] y zero e = refl
get_last [] y (suc k) e = absurd (omega (arith, e))
get_last (x ∷ xs) y zero e = absurd (omega (arith, e))
get_last (x ∷ xs) y (suc k) e = get_last xs y k (omega (arith, e))

abbrev end_of : ℕ → FreeLink
end_of n = record { previous = End (record { class = n }); next = End (record { class = n }) }

module _ (ends ends' : List FreeLink) (n : ℕ) (e : ends' ≡ ends ++ end_of n ∷ []) (count : length ends ≡ n) where
  pub count_more : length ends' ≡ n + 1
  count_more = ap length e ∙ (length-append ends (end_of n ∷ []) ∙ ap (λ k. k + 1) count)

  pub empty_more : AreEmpty ends → AreEmpty ends'
  empty_more h k l = elim (cases_lt k n) [
    | inl a ↦ ap (λ xs. slice_get xs k) e ∙ (get_before ends (end_of n) k (omega (arith, a, count)) ∙ h k (omega (arith, a, count)))
    | inr b ↦ subst (λ m. slice_get ends' m ≡ Some (end_of m)) (omega (arith, b, l, count_more)) (ap (λ xs. slice_get xs n) e ∙ get_last ends (end_of n) n count)
  ]

nothing_below : (n p : ℕ) → get_or (replicate n 0) p 0 ≤ 65535
nothing_below zero p = omega arith
nothing_below (suc n) zero = omega arith
nothing_below (suc n) (suc p) = nothing_below n p

module _ (owners : List ℕ) (ends : List FreeLink) (n k : ℕ) (places : length owners ≡ n) (few : n < 65536) (lists : length ends ≡ k) (classes : k ≤ 65536) (empty : AreEmpty ends) where
  abbrev none : List (List FreeLink)
  none = away n

  bounded_away : Bounded none
  bounded_away = record {
    pages = (let r : length (away {X = FreeLink} n) ≡ n = length_away FreeLink n in omega (arith, r, few));
    slots_below = λ p. subst (λ ns. get_or ns p 0 ≤ 65535) (sym (sizes_away FreeLink n)) (nothing_below n p);
  }

  ring_away : (c : FreeList) → c.class < length ends → Path (next_in ends none) (previous_in ends none) (End c) [] (End c)
  ring_away c l = let q = empty c.class l in record { onward = ap (option_map (λ (k : FreeLink). k.next)) q; back = ap (option_map (λ (k : FreeLink). k.previous)) q }

  chain_away : (c : FreeList) → c.class < length ends → chain ends none c ≡ []
  chain_away c l = chain_is ends none bounded_away [] c (ring_away c l)

  linked_away : IsLinked owners 0 ends none
  linked_away = record {
    ring = λ c l. subst (λ xs. Path (next_in ends none) (previous_in ends none) (End c) xs (End c)) (sym (chain_away c l)) (ring_away c l);
    owned = places ∙ sym (length_away FreeLink n);
    made_within = omega arith;
    classes = omega (arith, lists, classes);
    pages = (let r : length (away {X = FreeLink} n) ≡ n = length_away FreeLink n in omega (arith, r, few));
    slots_below = bounded_away.slots_below;
  }

  chains_away : chains ends none ≡ replicate k []
  chains_away =
      let a = length-chains ends none in
      let b = length-replicate {A = List ChunkRef} k [] in
      same_lists _ _ (omega (arith, a, b, lists)) (λ i d l.
      let l' : i < length ends = omega (arith, l, a) in
      get_or-map-range_with_len (λ m. chain ends none (record { class = m })) 0 (length ends) i i d l' (omega arith)
      ∙ (chain_away (record { class = i }) l' ∙ sym (get_or-replicate k i [] d (omega (arith, l', lists)))))

  module _ (links : List (List FreeLink)) (e : links ≡ away n) where
    opened_linked : IsLinked owners 0 ends links
    opened_linked = subst (IsLinked owners 0 ends) (sym e) linked_away

    opened_value : state_of owners 0 ends links ≡ no_pages k n
    opened_value =
        ap (state_of owners 0 ends) e
        ∙ (ap (λ fs. record { owner = []; free = fs; slots = map length none }) chains_away
        ∙ ap (λ ns. record { owner = []; free = replicate k []; slots = ns }) (sizes_away FreeLink n))

-- the same, where the ends are a copy
module _ (owners : List ℕ) (ends es : List FreeLink) (same : ends ≡ es) (links : List (List FreeLink)) (n k : ℕ) (places : length owners ≡ n) (few : n < 65536) (lists : length es ≡ k) (classes : k ≤ 65536) (empty : AreEmpty es) (e : links ≡ away n) where
  pub copied_linked : IsLinked owners 0 ends links
  copied_linked = subst (λ q. IsLinked owners 0 q links) (sym same) (opened_linked owners es n k places few lists classes empty links e)

  pub copied_value : state_of owners 0 ends links ≡ no_pages k n
  copied_value = ap (λ q. state_of owners 0 q links) same ∙ opened_value owners es n k places few lists classes empty links e
