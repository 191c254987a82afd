-- Writes of links, and a member put in by them.
use Rattle.std.proofs.Common.{◌≡◌, ◌≢◌, ℕ, zero, suc, ◌+◌, ◌<◌, Option, None, Some, IsSome, List, [], ◌∷◌, ◌++◌, length, slice_get, set, option_map, inl, inr, refl, sym, ◌∙◌, ap, subst, arith}
use Rattle.std.proofs.lemmas.Bool.{cases_eq, cases_lt}
use Rattle.std.proofs.lemmas.List.{length-append, length-set}
use Rattle.rev_links.specs.declared.places.RingPlace.TheVariants.{End, At}
use Rattle.rev_links.specs.Grids.{cell_at, with_cell}
use Rattle.rev_links.proofs.Grids.{slice_get-set_same, slice_get-set_other, some_within, cell_written, part_kept, sizes_written}
use Rattle.rev_model.specs.declared.ChunkRef.{ChunkRef}
use Rattle.rev_queues.specs.declared.members.Member.TheVariants.{Chunk, Mark}
use Rattle.rev_queues.specs.declared.members.QueueId.{QueueId}
use Rattle.rev_queues.specs.declared.members.QueueSlot.{QueueSlot}
use Rattle.rev_queues.proofs.MemberLaws.{slot_other}
use Rattle.rev_links.specs.Rings.{Joined, SetsNext, SetsPrevious, Gap}
use Rattle.rev_links.proofs.Rings.{opened_by_writes}
use Rattle.rev_queues.specs.declared.members.Member.{Member}
use Rattle.rev_queues.specs.Empty.{AreEnds}
use Rattle.rev_queues.specs.Positions.{Position, PositionLink, Opens, Tells, SameShape, SameStanding, link_at, next_in, previous_in, slot_at}

abbrev next_by : (Position → Option PositionLink) → Position → Option Position
next_by link p = option_map (λ (l : PositionLink). l.next) (link p)

abbrev previous_by : (Position → Option PositionLink) → Position → Option Position
previous_by link p = option_map (λ (l : PositionLink). l.previous) (link p)

pub opens : (link₀ link₁ link₂ link₃ : Position → Option PositionLink) (x : Member) (a : Position) (link : PositionLink)
    → link₀ a ≡ Some link → a ≢ At x → Gap (next_by link₀) (previous_by link₀) a x
    → link₁ (At x) ≡ Some (record { previous = a; next = link.next }) → ((q : Position) → q ≢ At x → link₁ q ≡ link₀ q)
    → SetsNext (next_by link₁) (previous_by link₁) (next_by link₂) (previous_by link₂) a (At x)
    → SetsPrevious (next_by link₂) (previous_by link₂) (next_by link₃) (previous_by link₃) link.next (At x)
    → Opens (next_by link₀) (previous_by link₀) (next_by link₃) (previous_by link₃) x a
opens link₀ link₁ link₂ link₃ x a link h ax g w others s t =
    let v : next_by link₀ a ≡ Some link.next = ap (option_map (λ (l : PositionLink). l.next)) h in
    let v' = g.joined.onward in
    let e : g.n ≡ link.next = cc in
    record {
      n = link.next;
      opened = opened_by_writes _ _ (next_by link₁) (previous_by link₁) (next_by link₂) (previous_by link₂) _ _ x a link.next ax
          (subst (λ z. z ≢ At x) e g.apart) (subst (λ z. Joined (next_by link₀) (previous_by link₀) a z) e g.joined)
          (ap (option_map (λ (l : PositionLink). l.next)) w) (ap (option_map (λ (l : PositionLink). l.previous)) w)
          (λ q d. ap (option_map (λ (l : PositionLink). l.next)) (others q d)) (λ q d. ap (option_map (λ (l : PositionLink). l.previous)) (others q d)) s t;
    }

-- the place is there
pub end_place : (ends marks : List PositionLink) (slots : List (List QueueSlot)) (c : QueueId) (n : ℕ) → n ≡ c.number → (position : Position) → position ≡ End c
    → IsSome (link_at ends marks slots position) → n < length ends
end_place ends marks slots c n a position u h =
    some_within ends n (subst (λ k. IsSome (slice_get ends k)) (sym a) (subst (λ q. IsSome (link_at ends marks slots q)) u h))

pub mark_place : (ends marks : List PositionLink) (slots : List (List QueueSlot)) (c : QueueId) (n : ℕ) → n ≡ c.number → (position : Position) → position ≡ At (Mark c)
    → IsSome (link_at ends marks slots position) → n < length marks
mark_place ends marks slots c n a position u h =
    some_within marks n (subst (λ k. IsSome (slice_get marks k)) (sym a) (subst (λ q. IsSome (link_at ends marks slots q)) u h))

pub chunk_place : (ends marks : List PositionLink) (slots : List (List QueueSlot)) (x : ChunkRef) (position : Position) → position ≡ At (Chunk x)
    → IsSome (link_at ends marks slots position) → IsSome (cell_at slots x.page x.slot)
chunk_place ends marks slots x position u h = go (slot_at slots x) (subst (λ q. IsSome (link_at ends marks slots q)) u h)
  where
    go : (o : Option QueueSlot) → IsSome (option_map (λ (z : QueueSlot). z.link) o) → IsSome o
    go None k = cc
    go (Some z) k = refl

-- one end more
get_before : {X : Type 0} (xs : List X) (y : X) (k : ℕ) → k < length xs → slice_get (xs ++ y ∷ []) k ≡ slice_get xs k
get_before [] y k l = absurd (omega (arith, l))
get_before (x ∷ xs) y zero l = refl
get_before (x ∷ xs) y (suc k) l = get_before xs y k (omega (arith, l))

get_last : {X : Type 0} (xs : List X) (y : X) (k : ℕ) → length xs ≡ k → slice_get (xs ++ y ∷ []) k ≡ Some y
get_last [] y zero e = refl
get_last [] y (suc k) e = absurd (omega (arith, e))
get_last (x ∷ xs) y zero e = absurd (omega (arith, e))
get_last (x ∷ xs) y (suc k) e = get_last xs y k (omega (arith, e))

abbrev end_of : ℕ → PositionLink
end_of n = record { previous = End (record { number = n }); next = End (record { number = n }) }

module _ (ends ends' : List PositionLink) (n : ℕ) (e : ends' ≡ ends ++ end_of n ∷ []) (count : length ends ≡ n) where
  pub count_more : length ends' ≡ n + 1
  count_more = ap length e ∙ (length-append ends (end_of n ∷ []) ∙ ap (λ k. k + 1) count)

  pub empty_more : AreEnds ends → AreEnds ends'
  empty_more h q l = elim (cases_lt q.number n) [
    | inl a ↦ ap (λ xs. slice_get xs q.number) e ∙ (get_before ends (end_of n) q.number (omega (arith, a, count)) ∙ h q (omega (arith, a, count)))
    | inr b ↦ subst (λ m. slice_get ends' m ≡ Some (end_of m)) (omega (arith, b, l, count_more)) (ap (λ xs. slice_get xs n) e ∙ get_last ends (end_of n) n count)
  ]

-- an end is written
module _ (ends marks ends' : List PositionLink) (slots : List (List QueueSlot)) (c : QueueId) (n : ℕ) (w : PositionLink) (a : n ≡ c.number) (e : ends' ≡ set ends n w)
    (position : Position) (u : position ≡ End c) (there : IsSome (link_at ends marks slots position)) where
  end_within : n < length ends
  end_within = end_place ends marks slots c n a position u there

  pub end_link : link_at ends' marks slots position ≡ Some w
  end_link = subst (λ q. link_at ends' marks slots q ≡ Some w) (sym u) (subst (λ k. slice_get ends' k ≡ Some w) a (ap (λ xs. slice_get xs n) e ∙ slice_get-set_same ends n w end_within))

  pub end_others : (q : Position) → q ≢ position → link_at ends' marks slots q ≡ link_at ends marks slots q
  end_others (End d) m = ap (λ xs. slice_get xs d.number) e ∙ slice_get-set_other ends n d.number w (λ k. m (ap (λ i. End (record { number = i })) (k ∙ a) ∙ sym u))
  end_others (At (Mark d)) m = refl
  end_others (At (Chunk y)) m = refl

  end_kept : (f : PositionLink → Position) (l : PositionLink) → slice_get ends n ≡ Some l → f w ≡ f l → (q : Position) → option_map f (link_at ends' marks slots q) ≡ option_map f (link_at ends marks slots q)
  end_kept f l h k (At (Mark d)) = refl
  end_kept f l h k (At (Chunk y)) = refl
  end_kept f l h k (End d) = elim (cases_eq d.number n) [
    | inl b ↦
        ap (λ i. option_map f (slice_get ends' i)) b
        ∙ (ap (λ xs. option_map f (slice_get xs n)) e
        ∙ (ap (option_map f) (slice_get-set_same ends n w end_within)
        ∙ (ap Some k ∙ (sym (ap (option_map f) h) ∙ sym (ap (λ i. option_map f (slice_get ends i)) b)))))
    | inr m ↦ ap (option_map f) (ap (λ xs. slice_get xs d.number) e ∙ slice_get-set_other ends n d.number w m)
  ]

  pub end_shape : SameShape ends marks slots ends' marks slots
  end_shape = record { same_ends = ap length e ∙ length-set ends n w; same_marks = refl; same_sizes = refl }

  pub end_next : (l : PositionLink) → slice_get ends n ≡ Some l → w.previous ≡ l.previous → SetsNext (next_in ends marks slots) (previous_in ends marks slots) (next_in ends' marks slots) (previous_in ends' marks slots) position w.next
  end_next l h k = record {
    at = ap (option_map (λ (z : PositionLink). z.next)) end_link;
    others = λ q d. ap (option_map (λ (z : PositionLink). z.next)) (end_others q d);
    kept = end_kept (λ z. z.previous) l h k;
  }

  pub end_previous : (l : PositionLink) → slice_get ends n ≡ Some l → w.next ≡ l.next → SetsPrevious (next_in ends marks slots) (previous_in ends marks slots) (next_in ends' marks slots) (previous_in ends' marks slots) position w.previous
  end_previous l h k = record {
    at = ap (option_map (λ (z : PositionLink). z.previous)) end_link;
    others = λ q d. ap (option_map (λ (z : PositionLink). z.previous)) (end_others q d);
    kept = end_kept (λ z. z.next) l h k;
  }

-- a mark is written
module _ (ends marks marks' : List PositionLink) (slots : List (List QueueSlot)) (c : QueueId) (n : ℕ) (w : PositionLink) (a : n ≡ c.number) (e : marks' ≡ set marks n w)
    (position : Position) (u : position ≡ At (Mark c)) (there : IsSome (link_at ends marks slots position)) where
  mark_within : n < length marks
  mark_within = mark_place ends marks slots c n a position u there

  pub mark_link : link_at ends marks' slots position ≡ Some w
  mark_link = subst (λ q. link_at ends marks' slots q ≡ Some w) (sym u) (subst (λ k. slice_get marks' k ≡ Some w) a (ap (λ xs. slice_get xs n) e ∙ slice_get-set_same marks n w mark_within))

  pub mark_others : (q : Position) → q ≢ position → link_at ends marks' slots q ≡ link_at ends marks slots q
  mark_others (At (Mark d)) m = ap (λ xs. slice_get xs d.number) e ∙ slice_get-set_other marks n d.number w (λ k. m (ap (λ i. At (Mark (record { number = i }))) (k ∙ a) ∙ sym u))
  mark_others (End d) m = refl
  mark_others (At (Chunk y)) m = refl

  mark_kept : (f : PositionLink → Position) (l : PositionLink) → slice_get marks n ≡ Some l → f w ≡ f l → (q : Position) → option_map f (link_at ends marks' slots q) ≡ option_map f (link_at ends marks slots q)
  mark_kept f l h k (End d) = refl
  mark_kept f l h k (At (Chunk y)) = refl
  mark_kept f l h k (At (Mark d)) = elim (cases_eq d.number n) [
    | inl b ↦
        ap (λ i. option_map f (slice_get marks' i)) b
        ∙ (ap (λ xs. option_map f (slice_get xs n)) e
        ∙ (ap (option_map f) (slice_get-set_same marks n w mark_within)
        ∙ (ap Some k ∙ (sym (ap (option_map f) h) ∙ sym (ap (λ i. option_map f (slice_get marks i)) b)))))
    | inr m ↦ ap (option_map f) (ap (λ xs. slice_get xs d.number) e ∙ slice_get-set_other marks n d.number w m)
  ]

  pub mark_shape : SameShape ends marks slots ends marks' slots
  mark_shape = record { same_ends = refl; same_marks = ap length e ∙ length-set marks n w; same_sizes = refl }

  pub mark_next : (l : PositionLink) → slice_get marks n ≡ Some l → w.previous ≡ l.previous → SetsNext (next_in ends marks slots) (previous_in ends marks slots) (next_in ends marks' slots) (previous_in ends marks' slots) position w.next
  mark_next l h k = record {
    at = ap (option_map (λ (z : PositionLink). z.next)) mark_link;
    others = λ q d. ap (option_map (λ (z : PositionLink). z.next)) (mark_others q d);
    kept = mark_kept (λ z. z.previous) l h k;
  }

  pub mark_previous : (l : PositionLink) → slice_get marks n ≡ Some l → w.next ≡ l.next → SetsPrevious (next_in ends marks slots) (previous_in ends marks slots) (next_in ends marks' slots) (previous_in ends marks' slots) position w.previous
  mark_previous l h k = record {
    at = ap (option_map (λ (z : PositionLink). z.previous)) mark_link;
    others = λ q d. ap (option_map (λ (z : PositionLink). z.previous)) (mark_others q d);
    kept = mark_kept (λ z. z.next) l h k;
  }

-- a chunk's slot is written
module _ (ends marks : List PositionLink) (slots : List (List QueueSlot)) (x : ChunkRef) (s w : QueueSlot) (h : cell_at slots x.page x.slot ≡ Some s) where
  abbrev pub written : List (List QueueSlot)
  written = with_cell slots x.page x.slot w

  slot_written : slot_at written x ≡ Some w
  slot_written = cell_written slots x.page x.slot w (subst IsSome (sym h) refl)

  link_others : (q : Position) → q ≢ At (Chunk x) → link_at ends marks written q ≡ link_at ends marks slots q
  link_others (End c) d = refl
  link_others (At (Mark c)) d = refl
  link_others (At (Chunk y)) d = ap (option_map (λ (z : QueueSlot). z.link)) (slot_other slots x y w (λ e. d (ap (λ z. At (Chunk z)) e)))

  pub shape_kept : SameShape ends marks slots ends marks written
  shape_kept = record { same_ends = refl; same_marks = refl; same_sizes = sizes_written slots x.page x.slot w }

  pub standing_kept : w.standing ≡ s.standing → SameStanding slots written
  standing_kept e y = part_kept (option_map (λ (z : QueueSlot). z.standing)) slots x.page x.slot y.page y.slot s w h (ap Some e)

  kept : (f : PositionLink → Position) → f w.link ≡ f s.link → (q : Position) → option_map f (link_at ends marks written q) ≡ option_map f (link_at ends marks slots q)
  kept f e (End c) = refl
  kept f e (At (Mark c)) = refl
  kept f e (At (Chunk y)) = part_kept (λ o. option_map f (option_map (λ (z : QueueSlot). z.link) o)) slots x.page x.slot y.page y.slot s w h (ap Some e)

  pub links_kept : w.link ≡ s.link → (q : Position) → link_at ends marks written q ≡ link_at ends marks slots q
  links_kept e (End c) = refl
  links_kept e (At (Mark c)) = refl
  links_kept e (At (Chunk y)) = part_kept (option_map (λ (z : QueueSlot). z.link)) slots x.page x.slot y.page y.slot s w h (ap Some e)

  pub tells : Tells slots written (Chunk x) w.standing
  tells = (
    ap (option_map (λ (z : QueueSlot). z.standing)) slot_written,
    λ y d. ap (option_map (λ (z : QueueSlot). z.standing)) (slot_other slots x y w d),
  )

  -- the slot's place, as the code has it
  module _ (position : Position) (u : position ≡ At (Chunk x)) where
    pub link_written : link_at ends marks written position ≡ Some w.link
    link_written = subst (λ q. link_at ends marks written q ≡ Some w.link) (sym u) (ap (option_map (λ (z : QueueSlot). z.link)) slot_written)

    pub others_kept : (q : Position) → q ≢ position → link_at ends marks written q ≡ link_at ends marks slots q
    others_kept q d = link_others q (λ e. d (e ∙ sym u))

    pub next_written : w.link.previous ≡ s.link.previous
        → SetsNext (next_in ends marks slots) (previous_in ends marks slots) (next_in ends marks written) (previous_in ends marks written) position w.link.next
    next_written e = record {
      at = ap (option_map (λ (l : PositionLink). l.next)) link_written;
      others = λ q d. ap (option_map (λ (l : PositionLink). l.next)) (others_kept q d);
      kept = kept (λ (l : PositionLink). l.previous) e;
    }

    pub previous_written : w.link.next ≡ s.link.next
        → SetsPrevious (next_in ends marks slots) (previous_in ends marks slots) (next_in ends marks written) (previous_in ends marks written) position w.link.previous
    previous_written e = record {
      at = ap (option_map (λ (l : PositionLink). l.previous)) link_written;
      others = λ q d. ap (option_map (λ (l : PositionLink). l.previous)) (others_kept q d);
      kept = kept (λ (l : PositionLink). l.next) e;
    }
