-- Writes of links.
use Rattle.std.proofs.Common.{◌≡◌, ◌≢◌, ℕ, ◌+◌, ◌*◌, ◌<◌, ◌≤◌, Option, Some, None, IsSome, List, [], length, get_or, inl, inr, refl, sym, ◌∙◌, ap, subst, arith, option_map, map}
use Rattle.std.proofs.lemmas.Bool.{cases_lt}
use Rattle.std.proofs.lemmas.List.{get_or_past, length-map}
use Rattle.rev_links.specs.declared.places.RingPlace.TheVariants.{End, At}
use Rattle.rev_links.specs.Rings.{Joined, Path, In, Gap, SetsNext, SetsPrevious}
use Rattle.rev_links.proofs.Rings.{walk_path, rest, distinct_path, first_step, length_at_most, opened_by_writes}
use Rattle.rev_model.specs.declared.ChunkRef.{ChunkRef}
use Rattle.rev_index.specs.declared.chains.Bucket.{Bucket}
use Rattle.rev_links.specs.Grids.{cell_at, with_cell}
use Rattle.rev_index.specs.Chains.{ChainPlace, ChainLink, link_at, next_in, previous_in, SameShape, Opens, all_chunks, trail}
use Rattle.rev_links.proofs.Grids.{part_kept, cell_written, cell_other, sizes_written, size_from_cell, size_of_page}

pub same_chunk_parts : (x y : ChunkRef) → x.page ≡ y.page → x.slot ≡ y.slot → x ≡ y
same_chunk_parts x y a b = ap (λ n. record { page = n; slot = x.slot }) a ∙ ap (λ m. record { page = y.page; slot = m }) b

pub same_bucket : (b c : Bucket) → b.number ≡ c.number → b ≡ c
same_bucket b c e = ap (λ n. record { number = n }) e

-- what a write of a chunk's link leaves
pub link_written : (ends : List ChainLink) (links links' : List (List ChainLink)) (place : ChainPlace) (x : ChunkRef) (v : ChainLink) → place ≡ At x → links' ≡ with_cell links x.page x.slot v
    → IsSome (link_at ends links place) → link_at ends links' place ≡ Some v
link_written ends links links' place x v u e h =
    subst (λ q. link_at ends links' q ≡ Some v) (sym u)
    (ap (λ g. cell_at g x.page x.slot) e ∙ cell_written links x.page x.slot v (subst (λ q. IsSome (link_at ends links q)) u h))

pub link_others : (ends : List ChainLink) (links links' : List (List ChainLink)) (place : ChainPlace) (x : ChunkRef) (v : ChainLink) → place ≡ At x → links' ≡ with_cell links x.page x.slot v
    → (other : ChainPlace) → other ≢ place → link_at ends links' other ≡ link_at ends links other
link_others ends links links' place x v u e (End b) n = refl
link_others ends links links' place x v u e (At y) n =
    ap (λ g. cell_at g y.page y.slot) e
    ∙ cell_other links x.page x.slot y.page y.slot v (λ a b. n (ap At (same_chunk_parts y x a b) ∙ sym u))

pub link_shape : (ends : List ChainLink) (links links' : List (List ChainLink)) (x : ChunkRef) (v : ChainLink) → links' ≡ with_cell links x.page x.slot v → SameShape ends links ends links'
link_shape ends links links' x v e = record { same_ends = refl; same_sizes = ap (map length) e ∙ sizes_written links x.page x.slot v }

-- a write of one neighbour of a chunk's link
module _ (ends : List ChainLink) (links : List (List ChainLink)) (place : ChainPlace) (x : ChunkRef) (l : ChainLink) (v : ChainPlace) (u : place ≡ At x) (h : cell_at links x.page x.slot ≡ Some l) where
  there : IsSome (link_at ends links place)
  there = subst (λ q. IsSome (link_at ends links q)) (sym u) (subst IsSome (sym h) refl)

  kept : (f : ChainLink → ChainPlace) (w : ChainLink) → f w ≡ f l → (q : ChainPlace)
      → option_map f (link_at ends (with_cell links x.page x.slot w) q) ≡ option_map f (link_at ends links q)
  kept f w e (End b) = refl
  kept f w e (At y) = part_kept (option_map f) links x.page x.slot y.page y.slot l w h (ap Some e)

  pub next_written : let w = record l { next = v } in let links' = with_cell links x.page x.slot w in
      SetsNext (next_in ends links) (previous_in ends links) (next_in ends links') (previous_in ends links') place v
  next_written =
      let w = record l { next = v } in
      let links' = with_cell links x.page x.slot w in
      record {
        at = ap (option_map (λ (k : ChainLink). k.next)) (link_written ends links links' place x w u refl there);
        others = λ q d. ap (option_map (λ (k : ChainLink). k.next)) (link_others ends links links' place x w u refl q d);
        kept = kept (λ k. k.previous) w refl;
      }

  pub previous_written : let w = record l { previous = v } in let links' = with_cell links x.page x.slot w in
      SetsPrevious (next_in ends links) (previous_in ends links) (next_in ends links') (previous_in ends links') place v
  previous_written =
      let w = record l { previous = v } in
      let links' = with_cell links x.page x.slot w in
      record {
        at = ap (option_map (λ (k : ChainLink). k.previous)) (link_written ends links links' place x w u refl there);
        others = λ q d. ap (option_map (λ (k : ChainLink). k.previous)) (link_others ends links links' place x w u refl q d);
        kept = kept (λ k. k.next) w refl;
      }

-- what the link of the place before a gap says
gap_link : (ends : List ChainLink) (links : List (List ChainLink)) (a : ChainPlace) (x : ChunkRef) (link : ChainLink) → link_at ends links a ≡ Some link
    → Gap (next_in ends links) (previous_in ends links) a x
    → Joined (next_in ends links) (previous_in ends links) a link.next × (link.next ≢ At x)
gap_link ends links a x link h g =
    let v : next_in ends links a ≡ Some link.next = ap (option_map (λ (l : ChainLink). l.next)) h in
    let v' = g.joined.onward in
    let e : g.n ≡ link.next = cc in
    (subst (λ z. Joined (next_in ends links) (previous_in ends links) a z) e g.joined, subst (λ z. z ≢ At x) e g.apart)

pub opens : (e₀ : List ChainLink) (s₀ : List (List ChainLink)) (e₁ : List ChainLink) (s₁ : List (List ChainLink)) (e₂ : List ChainLink) (s₂ : List (List ChainLink)) (e₃ : List ChainLink) (s₃ : List (List ChainLink))
    (x : ChunkRef) (a : ChainPlace) (link : ChainLink)
    → link_at e₀ s₀ a ≡ Some link → a ≢ At x → Gap (next_in e₀ s₀) (previous_in e₀ s₀) a x
    → link_at e₁ s₁ (At x) ≡ Some (record { previous = a; next = link.next })
    → ((other : ChainPlace) → other ≢ At x → link_at e₁ s₁ other ≡ link_at e₀ s₀ other)
    → SetsNext (next_in e₁ s₁) (previous_in e₁ s₁) (next_in e₂ s₂) (previous_in e₂ s₂) a (At x)
    → SetsPrevious (next_in e₂ s₂) (previous_in e₂ s₂) (next_in e₃ s₃) (previous_in e₃ s₃) link.next (At x)
    → Opens e₀ s₀ e₃ s₃ x a
opens e₀ s₀ e₁ s₁ e₂ s₂ e₃ s₃ x a link h ax g w others s t =
    let k = gap_link e₀ s₀ a x link h g in
    record {
      n = link.next;
      opened = opened_by_writes _ _ (next_in e₁ s₁) (previous_in e₁ s₁) (next_in e₂ s₂) (previous_in e₂ s₂) _ _ x a link.next ax k.1 k.0
          (ap (option_map (λ (l : ChainLink). l.next)) w) (ap (option_map (λ (l : ChainLink). l.previous)) w)
          (λ q d. ap (option_map (λ (l : ChainLink). l.next)) (others q d)) (λ q d. ap (option_map (λ (l : ChainLink). l.previous)) (others q d))
          s t;
    }

-- ---- chains
pub some_at_next : (ends : List ChainLink) (links : List (List ChainLink)) (p q : ChainPlace) → next_in ends links p ≡ Some q → IsSome (link_at ends links p)
some_at_next ends links p q h = go (link_at ends links p) h
  where
    go : (o : Option ChainLink) → option_map (λ (l : ChainLink). l.next) o ≡ Some q → IsSome o
    go None k = cc
    go (Some l) k = refl

-- the pages and slots are few enough to number the chunks
pub record Bounded (links : List (List ChainLink)) : Type 0 where
  pub pages : length links ≤ 65536
  pub slots_below : (p : ℕ) → get_or (map length links) p 0 ≤ 65536

-- members of a chain are slots
pub member_there : (ends : List ChainLink) (links : List (List ChainLink)) (p : ChainPlace) (xs : List ChunkRef) (q : ChainPlace) (x : ChunkRef)
    → Path (next_in ends links) (previous_in ends links) p xs q → In x xs → IsSome (link_at ends links (At x))
member_there ends links p xs q x h m =
    let r = rest (next_in ends links) (previous_in ends links) p xs q x h m in
    let f = first_step (next_in ends links) (previous_in ends links) (At x) r.0 q r.1 in
    some_at_next ends links (At x) f.0 f.1.onward

number_of : ChunkRef → ℕ
number_of x = 65536 * x.page + x.slot

-- a chain has no more members than there are numbers of chunks
chain_bound : (ends : List ChainLink) (links : List (List ChainLink)) → Bounded links → (p : ChainPlace) (xs : List ChunkRef) (e : Bucket)
    → Path (next_in ends links) (previous_in ends links) p xs (End e) → length xs ≤ all_chunks
unfolding all_chunks number_of
chain_bound ends links b p xs e h =
    let there : (x : ChunkRef) → In x xs → x.slot < get_or (map length links) x.page 0 = λ x m. size_from_cell links x.page x.slot (member_there ends links p xs (End e) x h m) in
    let page : (x : ChunkRef) → In x xs → x.page < 65536 = λ x m. page_below x (there x m) in
    let slot : (x : ChunkRef) → In x xs → x.slot < 65536 = λ x m. let a = there x m in let k = b.slots_below x.page in omega arith in
    length_at_most number_of 4294967296 xs (distinct_path _ _ p xs e h)
    (λ x y m n k. same_chunk_parts x y (let a = slot x m in let c = slot y n in omega arith) (let a = slot x m in let c = slot y n in omega arith))
    (λ x m. let a = slot x m in let c = page x m in omega arith)
  where
    page_below : (x : ChunkRef) → x.slot < get_or (map length links) x.page 0 → x.page < 65536
    page_below x h = elim (cases_lt x.page (length links)) [
      | inl l ↦ (let k = b.pages in omega arith)
      | inr l ↦ (let k : get_or links x.page [] ≡ [] = get_or_past links x.page [] l in let k' = ap length k in let e' = size_of_page links x.page in absurd (omega arith))
    ]

-- a path to an end is the trail
pub trail_is : (ends : List ChainLink) (links : List (List ChainLink)) → Bounded links → (p : ChainPlace) (xs : List ChunkRef) (e : Bucket)
    → Path (next_in ends links) (previous_in ends links) p xs (End e) → trail ends links p ≡ xs
unfolding trail
trail_is ends links b p xs e h = walk_path (next_in ends links) (previous_in ends links) p xs e all_chunks h (chain_bound ends links b p xs e h)

pub bounded_shape : (ends : List ChainLink) (links : List (List ChainLink)) (ends' : List ChainLink) (links' : List (List ChainLink)) → SameShape ends links ends' links' → Bounded links → Bounded links'
bounded_shape ends links ends' links' s b =
    let l : length links' ≡ length links = sym (length-map links' length) ∙ ap length s.same_sizes ∙ length-map links length in
    let k = b.pages in
    record { pages = omega arith; slots_below = λ p. subst (λ xs. get_or xs p 0 ≤ 65536) (sym s.same_sizes) (b.slots_below p) }
