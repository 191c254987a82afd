-- What is left of the tables after a step, and what the value that callers see says of them.
use Rattle.std.proofs.Common.{◌≡◌, ◌≢◌, ℕ, ◌+◌, ◌*◌, ◌<◌, ◌≤◌, Option, Some, None, IsSome, List, [], length, get_or, set, slice_get, inl, inr, refl, sym, ◌∙◌, ap, subst, arith, map, option_map}
use Rattle.std.proofs.lemmas.Bool.{cases_eq, cases_lt}
use Rattle.std.proofs.lemmas.List.{get_or-set_same, get_or-set_other, get_or_past, same_lists, length-set, length-map}
use Rattle.std.proofs.lemmas.List.FromFn.{length-map-range_with_len, get_or-map-range_with_len}
use Rattle.std.specs.List.{range_with_len}
use Rattle.rev_links.specs.declared.places.RingPlace.TheVariants.{End, At}
use Rattle.rev_links.specs.Rings.{Path, In}
use Rattle.rev_links.proofs.Rings.{walk_path, rest, distinct_path, first_step, length_at_most}
use Rattle.rev_links.proofs.Grids.{some_within, size_of_page}
use Rattle.rev_model.specs.declared.ChunkRef.{ChunkRef}
use Rattle.rev_queues.specs.declared.members.QueueId.{QueueId}
use Rattle.rev_queues.specs.declared.members.Member.{Member}
use Rattle.rev_queues.specs.declared.members.Member.TheVariants.{Chunk, Mark}
use Rattle.rev_queues.specs.declared.members.QueueSlot.{QueueSlot}
use Rattle.rev_queues.specs.declared.members.Tally.{Tally}
use Rattle.rev_queues.specs.Entries.{Queued, entries}
use Rattle.rev_queues.specs.Positions.{Position, PositionLink, link_at, next_in, previous_in, slot_at, standing_at, footprint_in, footprint_of, told, SameShape}
use Rattle.rev_queues.specs.QueueState.{QueuesState, entry_of, queued, all_members, chain, queue_at, state_of, tally_of, queue_in, IsLinked}
use Rattle.rev_queues.proofs.MemberLaws.{IsHome, same_queue, same_ref, entries_queued}
use Rattle.rev_queues.proofs.Sums.{sum_agrees, map_agrees}

pub record Bounded (slots : List (List QueueSlot)) : Type 0 where
  pub pages : length slots ≤ 65536
  pub slots_below : (p : ℕ) → get_or (map length slots) p 0 ≤ 65536

some_slot : (o : Option QueueSlot) → IsSome (option_map (λ (s : QueueSlot). s.link) o) → IsSome o
some_slot None h = cc
some_slot (Some s) h = refl

pub some_link : (o : Option PositionLink) (q : Position) → option_map (λ (l : PositionLink). l.next) o ≡ Some q → IsSome o
some_link None q h = cc
some_link (Some l) q h = refl

-- a member's number: of 2^32 chunks, and one for a mark
number_of : Member → ℕ
number_of (Chunk x) = 65536 * x.page + x.slot
number_of (Mark q) = 4294967296

module _ (ends marks : List PositionLink) (slots : List (List QueueSlot)) where
  pub link_there : (p : Position) (xs : List Member) (q : Position) (m : Member) → Path (next_in ends marks slots) (previous_in ends marks slots) p xs q → In m xs → IsSome (link_at ends marks slots (At m))
  link_there p xs q m h i =
      let r = rest (next_in ends marks slots) (previous_in ends marks slots) p xs q m h i in
      let f = first_step (next_in ends marks slots) (previous_in ends marks slots) (At m) r.0 q r.1 in
      some_link (link_at ends marks slots (At m)) f.0 f.1.onward

  pub slot_within : (x : ChunkRef) → IsSome (link_at ends marks slots (At (Chunk x))) → x.slot < get_or (map length slots) x.page 0
  slot_within x h =
      let l = some_within (get_or slots x.page []) x.slot (some_slot (slot_at slots x) h) in
      let e = size_of_page slots x.page in
      omega arith

  slot_small : Bounded slots → (x : ChunkRef) → IsSome (link_at ends marks slots (At (Chunk x))) → (x.page < 65536) × (x.slot < 65536)
  slot_small b x h =
      let l = some_within (get_or slots x.page []) x.slot (some_slot (slot_at slots x) h) in
      let e = size_of_page slots x.page in
      let k = b.slots_below x.page in
      let p = b.pages in (
        elim (cases_lt x.page (length slots)) [
          | inl n ↦ omega arith
          | inr n ↦ (let z : get_or slots x.page [] ≡ [] = get_or_past slots x.page [] n in let z' = ap length z in absurd (omega arith))
        ],
        omega arith,
      )

  pub list_bound : Bounded slots → (p : Position) (xs : List Member) (e : QueueId) → Path (next_in ends marks slots) (previous_in ends marks slots) p xs (End e) → IsHome e xs → length xs ≤ 4294967297
  unfolding number_of
  list_bound b p xs e h home = length_at_most number_of 4294967297 xs (distinct_path _ _ p xs e h) one below
    where
      small : (x : ChunkRef) → In (Chunk x) xs → (x.page < 65536) × (x.slot < 65536)
      small x i = slot_small b x (link_there p xs (End e) (Chunk x) h i)

      one : (m n : Member) → In m xs → In n xs → number_of m ≡ number_of n → m ≡ n
      one (Chunk x) (Chunk y) i j k =
          let a = small x i in let c = small y j in
          let a0 = a.0 in let a1 = a.1 in let c0 = c.0 in let c1 = c.1 in
          ap Chunk (same_ref x y (omega arith) (omega arith))
      one (Chunk x) (Mark q) i j k = let a = small x i in let a0 = a.0 in let a1 = a.1 in absurd (omega arith)
      one (Mark q) (Chunk y) i j k = let a = small y j in let a0 = a.0 in let a1 = a.1 in absurd (omega arith)
      one (Mark q) (Mark r) i j k = ap Mark (home q i ∙ sym (home r j))

      below : (m : Member) → In m xs → number_of m < 4294967297
      below (Chunk x) i = let a = small x i in let a0 = a.0 in let a1 = a.1 in omega arith
      below (Mark q) i = omega arith

  pub chain_is : Bounded slots → (xs : List Member) (c : QueueId) → Path (next_in ends marks slots) (previous_in ends marks slots) (End c) xs (End c) → IsHome c xs → chain ends marks slots c ≡ xs
  unfolding chain all_members
  chain_is b xs c h home = walk_path (next_in ends marks slots) (previous_in ends marks slots) (End c) xs c all_members h (list_bound b (End c) xs c h home)

pub told_agrees : (slots slots' : List (List QueueSlot)) (xs : List Member) → ((x : ChunkRef) → In (Chunk x) xs → standing_at slots' x ≡ standing_at slots x) → (m : Member) → In m xs → told slots' m ≡ told slots m
told_agrees slots slots' xs f (Chunk x) i = ap footprint_in (f x i)
told_agrees slots slots' xs f (Mark q) i = refl

pub tally_agrees : (slots slots' : List (List QueueSlot)) (xs : List Member) → ((x : ChunkRef) → In (Chunk x) xs → standing_at slots' x ≡ standing_at slots x) → tally_of slots' xs ≡ tally_of slots xs
tally_agrees slots slots' xs f = ap (λ n. record (tally_of slots xs) { bytes = n }) (sum_agrees (told slots') (told slots) xs (told_agrees slots slots' xs f))

pub queued_agrees : (slots slots' : List (List QueueSlot)) (xs : List Member) → ((x : ChunkRef) → In (Chunk x) xs → standing_at slots' x ≡ standing_at slots x) → map (queued slots') xs ≡ map (queued slots) xs
queued_agrees slots slots' xs f = map_agrees (queued slots') (queued slots) xs (λ m i. ap (λ n. record { entry = entry_of m; footprint = n }) (told_agrees slots slots' xs f m i))

apart : (c d : QueueId) → d.number ≢ c.number → d ≢ c
apart c d n e = n (ap (λ (z : QueueId). z.number) e)

-- ---- after a step in which the queue c became ys and the others stayed
pub record Becomes (ends marks : List PositionLink) (slots : List (List QueueSlot)) (tallies : List Tally) (ends' marks' : List PositionLink) (slots' : List (List QueueSlot)) (tallies' : List Tally) (c : QueueId) (ys : List Member) : Type 0 where
  pub shape : SameShape ends marks slots ends' marks' slots'
  pub own : Path (next_in ends' marks' slots') (previous_in ends' marks' slots') (End c) ys (End c)
  pub others : (d : QueueId) → d.number < length ends → d ≢ c → Path (next_in ends' marks' slots') (previous_in ends' marks' slots') (End d) (chain ends marks slots d) (End d)
  pub home : IsHome c ys
  pub stands : (x : ChunkRef) → In (Chunk x) ys → queue_in (standing_at slots' x) ≡ Some c
  pub small : (x : ChunkRef) → footprint_of slots' x < 4294967296
  pub tally : slice_get tallies' c.number ≡ Some (tally_of slots' ys)
  pub tallies_others : (n : ℕ) → n ≢ c.number → slice_get tallies' n ≡ slice_get tallies n
  pub standings : (d : QueueId) → d.number < length ends → d ≢ c → (x : ChunkRef) → In (Chunk x) (chain ends marks slots d) → standing_at slots' x ≡ standing_at slots x

module _ (ends marks : List PositionLink) (slots : List (List QueueSlot)) (tallies : List Tally) (h : IsLinked ends marks slots tallies)
    (ends' marks' : List PositionLink) (slots' : List (List QueueSlot)) (tallies' : List Tally) (c : QueueId) (m : c.number < length ends) (ys : List Member)
    (b : Becomes ends marks slots tallies ends' marks' slots' tallies' c ys) where
  same_length : length slots' ≡ length slots
  same_length = sym (length-map slots' length) ∙ (ap length b.shape.same_sizes ∙ length-map slots length)

  pub bounded_after : Bounded slots'
  bounded_after =
      let l = same_length in
      let k = h.pages in
      record { pages = omega arith; slots_below = λ p. subst (λ xs. get_or xs p 0 ≤ 65536) (sym b.shape.same_sizes) (let r = h.slots_below p in omega arith) }

  own_chain : chain ends' marks' slots' c ≡ ys
  own_chain = chain_is ends' marks' slots' bounded_after ys c b.own b.home

  other_chain : (d : QueueId) → d.number < length ends → d ≢ c → chain ends' marks' slots' d ≡ chain ends marks slots d
  other_chain d l n = chain_is ends' marks' slots' bounded_after (chain ends marks slots d) d (b.others d l n) (λ r i. h.home d r l i)

  pub linked_after : IsLinked ends' marks' slots' tallies'
  linked_after =
      let n = b.shape.same_ends in
      let k = b.shape.same_marks in
      let k' = h.same_marks in
      let w = h.few in
      record {
        ring = λ d l. elim (cases_eq d.number c.number) [
          | inl e ↦ subst (λ z. Path (next_in ends' marks' slots') (previous_in ends' marks' slots') (End z) (chain ends' marks' slots' z) (End z)) (sym (same_queue d c e))
              (subst (λ zs. Path (next_in ends' marks' slots') (previous_in ends' marks' slots') (End c) zs (End c)) (sym own_chain) b.own)
          | inr e ↦ subst (λ zs. Path (next_in ends' marks' slots') (previous_in ends' marks' slots') (End d) zs (End d)) (sym (other_chain d (omega arith) (apart c d e))) (b.others d (omega arith) (apart c d e))
        ];
        home = λ d r l i. elim (cases_eq d.number c.number) [
          | inl e ↦ (let u = same_queue d c e in b.home r (subst (In (Mark r)) own_chain (subst (λ z. In (Mark r) (chain ends' marks' slots' z)) u i)) ∙ sym u)
          | inr e ↦ h.home d r (omega arith) (subst (In (Mark r)) (other_chain d (omega arith) (apart c d e)) i)
        ];
        stands = λ d x l i. elim (cases_eq d.number c.number) [
          | inl e ↦ (let u = same_queue d c e in b.stands x (subst (In (Chunk x)) own_chain (subst (λ z. In (Chunk x) (chain ends' marks' slots' z)) u i)) ∙ ap Some (sym u))
          | inr e ↦
              (let j = subst (In (Chunk x)) (other_chain d (omega arith) (apart c d e)) i in
              ap queue_in (b.standings d (omega arith) (apart c d e) x j) ∙ h.stands d x (omega arith) j)
        ];
        tally = λ d l. elim (cases_eq d.number c.number) [
          | inl e ↦ subst (λ z. slice_get tallies' z.number ≡ Some (tally_of slots' (chain ends' marks' slots' z))) (sym (same_queue d c e))
              (b.tally ∙ ap (λ xs. Some (tally_of slots' xs)) (sym own_chain))
          | inr e ↦
              b.tallies_others d.number e ∙ (h.tally d (omega arith)
              ∙ (ap Some (sym (tally_agrees slots slots' (chain ends marks slots d) (b.standings d (omega arith) (apart c d e))))
              ∙ ap (λ xs. Some (tally_of slots' xs)) (sym (other_chain d (omega arith) (apart c d e)))))
        ];
        small = b.small;
        few = omega arith;
        same_marks = omega arith;
        pages = (let l = same_length in let k = h.pages in omega arith);
        slots_below = λ p. subst (λ xs. get_or xs p 0 ≤ 65535) (sym b.shape.same_sizes) (h.slots_below p);
      }

  queues_after : map (λ k. queue_at ends' marks' slots' (record { number = k })) (range_with_len 0 (length ends'))
      ≡ set (map (λ k. queue_at ends marks slots (record { number = k })) (range_with_len 0 (length ends))) c.number (map (queued slots') ys)
  queues_after =
      let n = b.shape.same_ends in
      let F : ℕ → List Queued = λ k. queue_at ends marks slots (record { number = k }) in
      let F' : ℕ → List Queued = λ k. queue_at ends' marks' slots' (record { number = k }) in
      let n₀ = length-map-range_with_len F 0 (length ends) in
      let n₁ = length-map-range_with_len F' 0 (length ends') in
      let n₂ = length-set (map F (range_with_len 0 (length ends))) c.number (map (queued slots') ys) in
      same_lists _ _ (omega arith) (λ i d l.
      let i' : QueueId = record { number = i } in
      let at : get_or (map F' (range_with_len 0 (length ends'))) i d ≡ F' i = get_or-map-range_with_len F' 0 (length ends') i i d (omega arith) (omega arith) in
      elim (cases_eq i c.number) [
        | inl e ↦
            let w : get_or (set (map F (range_with_len 0 (length ends))) c.number (map (queued slots') ys)) i d ≡ map (queued slots') ys =
            subst (λ z. get_or (set (map F (range_with_len 0 (length ends))) c.number (map (queued slots') ys)) z d ≡ map (queued slots') ys) (sym e)
            (get_or-set_same (map F (range_with_len 0 (length ends))) c.number (map (queued slots') ys) d (omega arith)) in
            at ∙ (ap (λ z. map (queued slots') (chain ends' marks' slots' z)) (same_queue i' c e) ∙ (ap (map (queued slots')) own_chain ∙ sym w))
        | inr e ↦
            let l' : i < length ends = omega arith in
            let w : get_or (set (map F (range_with_len 0 (length ends))) c.number (map (queued slots') ys)) i d ≡ F i =
            get_or-set_other (map F (range_with_len 0 (length ends))) c.number i (map (queued slots') ys) d e
            ∙ get_or-map-range_with_len F 0 (length ends) i i d l' (omega arith) in
            at ∙ (ap (map (queued slots')) (other_chain i' l' (apart c i' e))
            ∙ (queued_agrees slots slots' (chain ends marks slots i') (b.standings i' l' (apart c i' e)) ∙ sym w))
      ])

  module _ (v : QueuesState) (e : state_of ends marks slots ≡ v) where
    pub queues_become : (state_of ends' marks' slots').queues ≡ set v.queues c.number (map (queued slots') ys)
    queues_become = queues_after ∙ ap (λ (w : QueuesState). set w.queues c.number (map (queued slots') ys)) e

    pub slots_stay : (state_of ends' marks' slots').slots ≡ v.slots
    slots_stay = b.shape.same_sizes ∙ ap (λ (w : QueuesState). w.slots) e

-- ---- at the value that callers see
module _ (ends marks : List PositionLink) (slots : List (List QueueSlot)) (tallies : List Tally) (h : IsLinked ends marks slots tallies) (v : QueuesState) (e : state_of ends marks slots ≡ v) where
  pub bounded : Bounded slots
  bounded = let k = h.pages in record { pages = omega arith; slots_below = λ p. let r = h.slots_below p in omega arith }

  pub count_is : length v.queues ≡ length ends
  count_is = sym (ap (λ (w : QueuesState). length w.queues) e) ∙ length-map-range_with_len (λ k. queue_at ends marks slots (record { number = k })) 0 (length ends)

  pub slots_are : map length slots ≡ v.slots
  slots_are = ap (λ (w : QueuesState). w.slots) e

  pub id_small : (n : ℕ) → n < length v.queues → n < 65536
  id_small n l = let a = count_is in let w = h.few in omega arith

  module _ (c : QueueId) (m : c.number < length v.queues) where
    pub has_end : c.number < length ends
    has_end = let a = count_is in omega arith

    pub queue_is : get_or v.queues c.number [] ≡ queue_at ends marks slots c
    queue_is = sym (ap (λ (w : QueuesState). get_or w.queues c.number []) e) ∙ get_or-map-range_with_len (λ k. queue_at ends marks slots (record { number = k })) 0 (length ends) c.number c.number [] has_end (omega arith)

    pub line_is : entries (get_or v.queues c.number []) ≡ map entry_of (chain ends marks slots c)
    line_is = ap entries queue_is ∙ entries_queued slots (chain ends marks slots c)

    pub home_is : IsHome c (chain ends marks slots c)
    home_is r i = h.home c r has_end i

    pub tally_is : slice_get tallies c.number ≡ Some (tally_of slots (chain ends marks slots c))
    tally_is = h.tally c has_end

    pub tally_there : (n : ℕ) → n ≡ c.number → n < length tallies
    tally_there n u =
        let l : c.number < length tallies = some_within tallies c.number (some (slice_get tallies c.number) (tally_of slots (chain ends marks slots c)) tally_is) in omega arith
      where
        some : (o : Option Tally) (k : Tally) → o ≡ Some k → IsSome o
        some None k z = cc
        some (Some i) k z = refl
