-- Reads and writes of the links of ends and chunks.
use Rattle.std.proofs.Common.{◌≡◌, ◌≢◌, ℕ, slice_get, inl, inr, Option, Some, None, IsSome, List, length, set, refl, sym, ◌∙◌, ap, subst, option_map, map}
use Rattle.std.proofs.lemmas.Bool.{cases_eq}
use Rattle.rev_links.specs.declared.places.RingPlace.TheVariants.{End, At}
use Rattle.rev_pages.specs.declared.places.FreeList.{FreeList}
use Rattle.rev_model.specs.declared.ChunkRef.{ChunkRef}
use Rattle.rev_links.proofs.Rings.{opened_by_writes}
use Rattle.rev_links.specs.Grids.{cell_at, with_cell}
use Rattle.rev_links.proofs.Grids.{part_kept, cell_written, cell_other, sizes_written, some_within, slice_get-set_same, slice_get-set_other}
use Rattle.rev_links.specs.Rings.{Joined, SetsNext, SetsPrevious, Between, Gap}
use Rattle.rev_pages.specs.Tables.{FreePlace, FreeLink, link_at, next_in, previous_in, SameShape, Opens}

-- a write at an end
end_written : (ends : List FreeLink) (links : List (List FreeLink)) (c : FreeList) (v : FreeLink) → IsSome (link_at ends links (End c))
    → link_at (set ends c.class v) links (End c) ≡ Some v
end_written ends links c v h = slice_get-set_same ends c.class v (some_within ends c.class h)

end_others : (ends : List FreeLink) (links : List (List FreeLink)) (c : FreeList) (v : FreeLink) (other : FreePlace) → other ≢ End c
    → link_at (set ends c.class v) links other ≡ link_at ends links other
end_others ends links c v (End d) h = slice_get-set_other ends c.class d.class v (λ e. h (ap (λ n. End (record { class = n })) e))
end_others ends links c v (At x) h = refl

pub same_chunk_parts : (x y : ChunkRef) → x.page ≡ y.page → x.slot ≡ y.slot → x ≡ y
same_chunk_parts x y a b = ap (λ n. record { page = n; slot = x.slot }) a ∙ ap (λ m. record { page = y.page; slot = m }) b

-- what a write leaves, at the numbers and the page that the code has
pub end_write : (ends ends' : List FreeLink) (links : List (List FreeLink)) (place : FreePlace) (c : FreeList) (n : ℕ) (v : FreeLink)
    → place ≡ End c → n ≡ c.class → ends' ≡ set ends n v → IsSome (link_at ends links place)
    → (link_at ends' links place ≡ Some v) × ((other : FreePlace) → other ≢ place → link_at ends' links other ≡ link_at ends links other)
end_write ends ends' links place c n v u a e h =
    let e' : set ends c.class v ≡ ends' = subst (λ k. set ends k v ≡ ends') a (sym e) in
    subst (λ q. (link_at ends' links q ≡ Some v) × ((other : FreePlace) → other ≢ q → link_at ends' links other ≡ link_at ends links other)) (sym u)
    (subst (λ es. (link_at es links (End c) ≡ Some v) × ((other : FreePlace) → other ≢ End c → link_at es links other ≡ link_at ends links other)) e'
    (end_written ends links c v (subst (λ q. IsSome (link_at ends links q)) u h), λ other k. end_others ends links c v other k))

-- the same, by a write of a cell
pub link_written : (ends : List FreeLink) (links links' : List (List FreeLink)) (place : FreePlace) (x : ChunkRef) (v : FreeLink) → place ≡ At x → links' ≡ with_cell links x.page x.slot v
    → IsSome (link_at ends links place) → link_at ends links' place ≡ Some v
link_written ends links links' place x v u e h =
    subst (λ q. link_at ends links' q ≡ Some v) (sym u)
    (ap (λ g. cell_at g x.page x.slot) e ∙ cell_written links x.page x.slot v (subst (λ q. IsSome (link_at ends links q)) u h))

pub link_others : (ends : List FreeLink) (links links' : List (List FreeLink)) (place : FreePlace) (x : ChunkRef) (v : FreeLink) → place ≡ At x → links' ≡ with_cell links x.page x.slot v
    → (other : FreePlace) → other ≢ place → link_at ends links' other ≡ link_at ends links other
link_others ends links links' place x v u e (End b) n = refl
link_others ends links links' place x v u e (At y) n =
    ap (λ g. cell_at g y.page y.slot) e
    ∙ cell_other links x.page x.slot y.page y.slot v (λ a b. n (ap At (same_chunk_parts y x a b) ∙ sym u))

pub link_shape : (ends : List FreeLink) (links links' : List (List FreeLink)) (x : ChunkRef) (v : FreeLink) → links' ≡ with_cell links x.page x.slot v → SameShape ends links ends links'
link_shape ends links links' x v e = record { same_ends = refl; same_sizes = ap (map length) e ∙ sizes_written links x.page x.slot v }

-- ---- neighbours
pub some_at_next : (ends : List FreeLink) (links : List (List FreeLink)) (p q : FreePlace) → next_in ends links p ≡ Some q → IsSome (link_at ends links p)
some_at_next ends links p q h = go (link_at ends links p) h
  where
    go : (o : Option FreeLink) → option_map (λ (l : FreeLink). l.next) o ≡ Some q → IsSome o
    go None k = cc
    go (Some l) k = refl

-- a write of one neighbour of a chunk's link
module _ (ends : List FreeLink) (links : List (List FreeLink)) (place : FreePlace) (x : ChunkRef) (l : FreeLink) (v : FreePlace) (u : place ≡ At x) (h : cell_at links x.page x.slot ≡ Some l) where
  there : IsSome (link_at ends links place)
  there = subst (λ q. IsSome (link_at ends links q)) (sym u) (subst IsSome (sym h) refl)

  kept : (f : FreeLink → FreePlace) (w : FreeLink) → f w ≡ f l → (q : FreePlace)
      → option_map f (link_at ends (with_cell links x.page x.slot w) q) ≡ option_map f (link_at ends links q)
  kept f w e (End c) = refl
  kept f w e (At y) = part_kept (option_map f) links x.page x.slot y.page y.slot l w h (ap Some e)

  pub next_written : let links' = with_cell links x.page x.slot (record l { next = v }) in
      SetsNext (next_in ends links) (previous_in ends links) (next_in ends links') (previous_in ends links') place v
  next_written =
      let w = record l { next = v } in
      let links' = with_cell links x.page x.slot w in
      record {
        at = ap (option_map (λ (k : FreeLink). k.next)) (link_written ends links links' place x w u refl there);
        others = λ q d. ap (option_map (λ (k : FreeLink). k.next)) (link_others ends links links' place x w u refl q d);
        kept = kept (λ k. k.previous) w refl;
      }

  pub previous_written : let links' = with_cell links x.page x.slot (record l { previous = v }) in
      SetsPrevious (next_in ends links) (previous_in ends links) (next_in ends links') (previous_in ends links') place v
  previous_written =
      let w = record l { previous = v } in
      let links' = with_cell links x.page x.slot w in
      record {
        at = ap (option_map (λ (k : FreeLink). k.previous)) (link_written ends links links' place x w u refl there);
        others = λ q d. ap (option_map (λ (k : FreeLink). k.previous)) (link_others ends links links' place x w u refl q d);
        kept = kept (λ k. k.next) w refl;
      }

-- the same at an end
module _ (ends : List FreeLink) (links : List (List FreeLink)) (place : FreePlace) (c : FreeList) (n : ℕ) (l : FreeLink) (v : FreePlace) (u : place ≡ End c) (a : n ≡ c.class) (h : slice_get ends n ≡ Some l) where
  end_there : IsSome (link_at ends links place)
  end_there = subst (λ q. IsSome (link_at ends links q)) (sym u) (subst (λ k. IsSome (slice_get ends k)) a (subst IsSome (sym h) refl))

  end_kept : (f : FreeLink → FreePlace) (w : FreeLink) → f w ≡ f l → (q : FreePlace)
      → option_map f (link_at (set ends n w) links q) ≡ option_map f (link_at ends links q)
  end_kept f w e (At y) = refl
  end_kept f w e (End d) = elim (cases_eq d.class n) [
    | inl b ↦
        ap (λ k. option_map f (slice_get (set ends n w) k)) b
        ∙ (ap (option_map f) (slice_get-set_same ends n w (some_within ends n (subst IsSome (sym h) refl)))
        ∙ (ap Some e ∙ (sym (ap (option_map f) h) ∙ sym (ap (λ k. option_map f (slice_get ends k)) b))))
    | inr m ↦ ap (option_map f) (slice_get-set_other ends n d.class w m)
  ]

  pub next_end : let ends' = set ends n (record l { next = v }) in
      SetsNext (next_in ends links) (previous_in ends links) (next_in ends' links) (previous_in ends' links) place v
  next_end =
      let w = record l { next = v } in
      let k = end_write ends (set ends n w) links place c n w u a refl end_there in
      record {
        at = ap (option_map (λ (k : FreeLink). k.next)) k.0;
        others = λ q d. ap (option_map (λ (k : FreeLink). k.next)) (k.1 q d);
        kept = end_kept (λ k. k.previous) w refl;
      }

  pub previous_end : let ends' = set ends n (record l { previous = v }) in
      SetsPrevious (next_in ends links) (previous_in ends links) (next_in ends' links) (previous_in ends' links) place v
  previous_end =
      let w = record l { previous = v } in
      let k = end_write ends (set ends n w) links place c n w u a refl end_there in
      record {
        at = ap (option_map (λ (k : FreeLink). k.previous)) k.0;
        others = λ q d. ap (option_map (λ (k : FreeLink). k.previous)) (k.1 q d);
        kept = end_kept (λ k. k.next) w refl;
      }

-- what a member's link says of its neighbours
pub between_link : (ends : List FreeLink) (links : List (List FreeLink)) (x : ChunkRef) (link : FreeLink) → link_at ends links (At x) ≡ Some link
    → Between (next_in ends links) (previous_in ends links) x
    → Joined (next_in ends links) (previous_in ends links) link.previous (At x) × Joined (next_in ends links) (previous_in ends links) (At x) link.next
between_link ends links x link h b =
    let u : previous_in ends links (At x) ≡ Some link.previous = ap (option_map (λ (l : FreeLink). l.previous)) h in
    let v : next_in ends links (At x) ≡ Some link.next = ap (option_map (λ (l : FreeLink). l.next)) h in
    let u' = b.before.back in
    let v' = b.behind.onward in
    let e : b.p ≡ link.previous = cc in
    let e' : b.n ≡ link.next = cc in (
      subst (λ z. Joined (next_in ends links) (previous_in ends links) z (At x)) e b.before,
      subst (λ z. Joined (next_in ends links) (previous_in ends links) (At x) z) e' b.behind,
    )

-- what the link of the place before a gap says
pub gap_link : (ends : List FreeLink) (links : List (List FreeLink)) (a : FreePlace) (x : ChunkRef) (link : FreeLink) → link_at ends links a ≡ Some link
    → Gap (next_in ends links) (previous_in ends links) a x
    → Joined (next_in ends links) (previous_in ends links) a link.next × (link.next ≢ At x)
gap_link ends links a x link h g =
    let v : next_in ends links a ≡ Some link.next = ap (option_map (λ (l : FreeLink). l.next)) h in
    let v' = g.joined.onward in
    let e : g.n ≡ link.next = cc in
    (subst (λ z. Joined (next_in ends links) (previous_in ends links) a z) e g.joined, subst (λ z. z ≢ At x) e g.apart)

pub opens : (e₀ : List FreeLink) (s₀ : List (List FreeLink)) (e₁ : List FreeLink) (s₁ : List (List FreeLink)) (e₂ : List FreeLink) (s₂ : List (List FreeLink)) (e₃ : List FreeLink) (s₃ : List (List FreeLink))
    (x : ChunkRef) (a : FreePlace) (link : FreeLink)
    → link_at e₀ s₀ a ≡ Some link → a ≢ At x → Gap (next_in e₀ s₀) (previous_in e₀ s₀) a x
    → link_at e₁ s₁ (At x) ≡ Some (record { previous = a; next = link.next })
    → ((other : FreePlace) → other ≢ At x → link_at e₁ s₁ other ≡ link_at e₀ s₀ other)
    → SetsNext (next_in e₁ s₁) (previous_in e₁ s₁) (next_in e₂ s₂) (previous_in e₂ s₂) a (At x)
    → SetsPrevious (next_in e₂ s₂) (previous_in e₂ s₂) (next_in e₃ s₃) (previous_in e₃ s₃) link.next (At x)
    → Opens e₀ s₀ e₃ s₃ x a
opens e₀ s₀ e₁ s₁ e₂ s₂ e₃ s₃ x a link h ax g w others s t =
    let k = gap_link e₀ s₀ a x link h g in
    record {
      n = link.next;
      opened = opened_by_writes _ _ (next_in e₁ s₁) (previous_in e₁ s₁) (next_in e₂ s₂) (previous_in e₂ s₂) _ _ x a link.next ax k.1 k.0
          (ap (option_map (λ (l : FreeLink). l.next)) w) (ap (option_map (λ (l : FreeLink). l.previous)) w)
          (λ q d. ap (option_map (λ (l : FreeLink). l.next)) (others q d)) (λ q d. ap (option_map (λ (l : FreeLink). l.previous)) (others q d))
          s t;
    }
