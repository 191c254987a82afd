-- What the links tell of the free lists, and what taking and putting a chunk makes of them, at the value that callers
-- see.
use Rattle.std.proofs.Common.{◌≡◌, ◌≢◌, ℕ, ◌<◌, true, false, Option, Some, None, IsSome, IfSome, List, [], ◌∷◌, length, get_or, slice_get, refl, sym, ◌∙◌, ap, subst, arith, option_map}
use Rattle.rev_links.specs.declared.places.RingPlace.TheVariants.{End, At}
use Rattle.rev_links.specs.Rings.{member_of, In, Between, Gap}
use Rattle.rev_links.proofs.Members.{without as left, insert as entered, before_of, place_or}
use Rattle.rev_links.specs.Neighbours.{behind_of, place_behind}
use Rattle.rev_links.proofs.Lists.{between_in, gap_in, taken_own, taken_other, put_own, put_other}
use Rattle.rev_links.proofs.Neighbours.{member_place, before_path, first_path, behind_path}
use Rattle.rev_links.proofs.Rings.{first_step}
use Rattle.rev_model.specs.Chunk.{same_chunk, HasSlot}
use Rattle.rev_model.specs.Lists.{has, without, before, insert, has_after}
use Rattle.rev_model.specs.Words.{first}
use Rattle.rev_model.specs.declared.ChunkRef.{ChunkRef}
use Rattle.rev_pages.specs.declared.places.FreeList.{FreeList}
use Rattle.rev_pages.specs.Tables.{FreePlace, FreeLink, link_at, next_in, previous_in, SameShape, Closes, Opens}
use Rattle.rev_pages.specs.State.{PagesState, free_of, with_free, chain, chains, state_of, IsLinked}
use Rattle.rev_pages.proofs.Bridges.{in_has, not_in, left-without, entered-insert, before-same, after_in}
use Rattle.rev_pages.proofs.Chains.{same_chunk_tells, link_from_slot, free_at, length-chains, Becomes, linked_after, state_after}
use Rattle.rev_pages.proofs.Tables.{some_at_next}

module _ (owners : List ℕ) (made : ℕ) (ends : List FreeLink) (links : List (List FreeLink)) (h : IsLinked owners made ends links) (v : PagesState) (e : state_of owners made ends links ≡ v) (class : ℕ) (m : class < length v.free) where
  abbrev end : FreeList
  end = record { class = class }

  pub has_end : class < length ends
  has_end =
      let m' : class < length (chains ends links) = subst (λ (w : PagesState). class < length w.free) (sym e) m in
      let n = length-chains ends links in
      omega arith

  pub few_classes : class < 65536
  few_classes = let a = has_end in let b = h.classes in omega arith

  pub free_is : free_of v class ≡ chain ends links end
  free_is = subst (λ w. free_of w class ≡ chain ends links end) e (free_at owners made ends links end has_end)

  pub end_there : IsSome (link_at ends links (End end))
  end_there = some_at_next ends links (End end) _ (first_step (next_in ends links) (previous_in ends links) (End end) (chain ends links end) (End end) (h.ring end has_end)).1.onward

  pub end_at : (p : FreePlace) → p ≡ End end → IsSome (link_at ends links p)
  end_at p u = subst (λ q. IsSome (link_at ends links q)) (sym u) end_there

  pub front_value : (p : FreePlace) → p ≡ End end → (link : FreeLink) → link_at ends links p ≡ Some link → member_of (Some link.next) ≡ first (free_of v class)
  front_value p u link k' =
      let k : link_at ends links (End end) ≡ Some link = subst (λ q. link_at ends links q ≡ Some link) u k' in
      let a : Some link.next ≡ Some (place_or end (slice_get (chain ends links end) 0)) =
      sym (ap (option_map (λ (l : FreeLink). l.next)) k) ∙ first_path same_chunk same_chunk_tells (next_in ends links) (previous_in ends links) (End end) (chain ends links end) end (h.ring end has_end) in
      ap member_of a ∙ (member_place end (slice_get (chain ends links end) 0) ∙ (ap (λ xs. slice_get xs 0) (sym free_is) ∙ go (free_of v class)))
    where
      go : (xs : List ChunkRef) → slice_get xs 0 ≡ first xs
      go [] = refl
      go (x ∷ xs) = refl

  module _ (x : ChunkRef) (there : has same_chunk x (free_of v class) ≡ true) where
    in_chain : In x (chain ends links end)
    in_chain = subst (In x) free_is (in_has same_chunk same_chunk_tells x (free_of v class) there)

    pub take_between : Between (next_in ends links) (previous_in ends links) x
    take_between = between_in same_chunk same_chunk_tells (next_in ends links) (previous_in ends links) (λ d. d.class < length ends) (chain ends links) h.ring end x has_end in_chain

    pub take_before : (p : FreePlace) → previous_in ends links (At x) ≡ Some p → member_of (Some p) ≡ before same_chunk x (free_of v class)
    take_before p k =
        let a : Some p ≡ Some (place_or end (before_of same_chunk x (chain ends links end))) =
        sym k ∙ before_path same_chunk same_chunk_tells (next_in ends links) (previous_in ends links) end (chain ends links end) (End end) x (h.ring end has_end) in_chain in
        ap member_of a ∙ (member_place end (before_of same_chunk x (chain ends links end)) ∙ (ap (before_of same_chunk x) (sym free_is) ∙ before-same same_chunk x (free_of v class)))

    pub member_there : IsSome (link_at ends links (At x))
    member_there =
        some_at_next ends links (At x) _
        (behind_path same_chunk same_chunk_tells (next_in ends links) (previous_in ends links) (End end) (chain ends links end) end x (h.ring end has_end) in_chain)

    pub behind_value : (link : FreeLink) → link_at ends links (At x) ≡ Some link → member_of (Some link.next) ≡ behind_of same_chunk x (free_of v class)
    behind_value link k =
        let a : Some link.next ≡ Some (place_or end (behind_of same_chunk x (chain ends links end))) =
        sym (ap (option_map (λ (l : FreeLink). l.next)) k)
        ∙ behind_path same_chunk same_chunk_tells (next_in ends links) (previous_in ends links) (End end) (chain ends links end) end x (h.ring end has_end) in_chain in
        ap member_of a ∙ (member_place end (behind_of same_chunk x (chain ends links end)) ∙ ap (behind_of same_chunk x) (sym free_is))

    module _ (ends' : List FreeLink) (links' : List (List FreeLink)) (s : SameShape ends links ends' links') (k : Closes ends links ends' links' x) where
      taken : Becomes ends links ends' links' end (left same_chunk x (chain ends links end))
      taken = record {
        shape = s;
        own = taken_own same_chunk same_chunk_tells _ _ (λ d. d.class < length ends) (chain ends links) h.ring _ _ end x k.p k.n has_end in_chain k.closed;
        others = λ d l apart. taken_other same_chunk same_chunk_tells _ _ (λ d. d.class < length ends) (chain ends links) h.ring _ _ end x k.p k.n has_end in_chain k.closed d l apart;
      }

      pub take_linked : IsLinked owners made ends' links'
      take_linked = linked_after owners made ends links ends' links' end _ h taken

      pub take_value : state_of owners made ends' links' ≡ with_free v class (without same_chunk x (free_of v class))
      take_value =
          state_after owners made ends links ends' links' end _ h has_end taken
          ∙ (ap (λ xs. with_free (state_of owners made ends links) class (left same_chunk x xs)) (sym free_is)
          ∙ (ap (λ xs. with_free (state_of owners made ends links) class xs) (left-without same_chunk x (free_of v class))
          ∙ ap (λ w. with_free w class (without same_chunk x (free_of v class))) e))

  module _ (x : ChunkRef) (nowhere : (c : ℕ) → has same_chunk x (free_of v c) ≡ false) (after : Option ChunkRef) (i : has_after same_chunk after (free_of v class) ≡ true) where
    absent_all : (d : FreeList) → d.class < length ends → In x (chain ends links d) → ⊥
    absent_all d l j =
        not_in same_chunk same_chunk_tells x (free_of v d.class) (nowhere d.class)
        (subst (λ w. In x (free_of w d.class)) e (subst (In x) (sym (free_at owners made ends links d l)) j))

    after_chain : IfSome after (λ y. In y (chain ends links end))
    after_chain = subst (λ xs. IfSome after (λ y. In y xs)) free_is (after_in same_chunk same_chunk_tells after (free_of v class) i)

    pub put_there : HasSlot v.slots x → IsSome (link_at ends links (At x))
    put_there k = link_from_slot ends links x (subst (λ (w : PagesState). x.slot < get_or w.slots x.page 0) (sym e) k.1)

    pub put_gap : (p : FreePlace) → p ≡ place_behind end after → Gap (next_in ends links) (previous_in ends links) p x
    put_gap p u =
        subst (λ q. Gap (next_in ends links) (previous_in ends links) q x) (sym u)
        (gap_in same_chunk same_chunk_tells (next_in ends links) (previous_in ends links) (λ d. d.class < length ends) (chain ends links) h.ring end x after has_end (absent_all end has_end) after_chain)

    pub put_apart : (p : FreePlace) → p ≡ place_behind end after → p ≢ At x
    put_apart p u w = go after after_chain (sym u ∙ w)
      where
        go : (a : Option ChunkRef) → IfSome a (λ y. In y (chain ends links end)) → place_behind end a ≡ At x → ⊥
        go None j k = cc
        go (Some y) j k = let f : y ≡ x = cc in absent_all end has_end (subst (λ z. In z (chain ends links end)) f j)

    module _ (ends' : List FreeLink) (links' : List (List FreeLink)) (p : FreePlace) (u : p ≡ place_behind end after) (s : SameShape ends links ends' links') (k : Opens ends links ends' links' x p) where
      opens : Opens ends links ends' links' x (place_behind end after)
      opens = subst (Opens ends links ends' links' x) u k

      becomes : Becomes ends links ends' links' end (entered same_chunk x after (chain ends links end))
      becomes = record {
        shape = s;
        own = put_own same_chunk same_chunk_tells _ _ (λ d. d.class < length ends) (chain ends links) h.ring _ _ end x after opens.n has_end (absent_all end has_end) after_chain opens.opened;
        others = λ d l apart. put_other same_chunk same_chunk_tells _ _ (λ d. d.class < length ends) (chain ends links) h.ring _ _ end x after opens.n has_end absent_all after_chain opens.opened d l apart;
      }

      pub put_linked : IsLinked owners made ends' links'
      put_linked = linked_after owners made ends links ends' links' end _ h becomes

      pub put_value : state_of owners made ends' links' ≡ with_free v class (insert same_chunk x after (free_of v class))
      put_value =
          state_after owners made ends links ends' links' end _ h has_end becomes
          ∙ (ap (λ xs. with_free (state_of owners made ends links) class (entered same_chunk x after xs)) (sym free_is)
          ∙ (ap (λ xs. with_free (state_of owners made ends links) class xs) (entered-insert same_chunk x after (free_of v class) i)
          ∙ ap (λ w. with_free w class (insert same_chunk x after (free_of v class))) e))
