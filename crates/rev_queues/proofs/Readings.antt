-- What the links and tallies that are read say of the lists that callers see.
use Rattle.std.proofs.Common.{◌≡◌, ◌≢◌, ℕ, ◌+◌, ◌<◌, true, false, Option, Some, None, IsSome, List, [], ◌∷◌, length, get_or, slice_get, ◌⊎◌, inl, inr, refl, sym, ◌∙◌, ap, subst, arith, map, option_map}
use Rattle.std.proofs.lemmas.Bool.{cases_Bool}
use Rattle.std.proofs.lemmas.List.{length-map}
use Rattle.std.proofs.lemmas.List.Sums.{sum_by-cons}
use Rattle.std.specs.List.{sum_by}
use Rattle.rev_links.specs.declared.places.RingPlace.TheVariants.{End, At}
use Rattle.rev_links.specs.Rings.{Path, In}
use Rattle.rev_links.specs.Neighbours as near
use Rattle.rev_links.proofs.Members as around
use Rattle.rev_links.proofs.Rings.{distinct_path, first_step}
use Rattle.rev_links.proofs.Neighbours.{before_path, first_path, behind_path}
use Rattle.rev_model.specs.Chunk.{same_entry}
use Rattle.rev_model.specs.Lists.{has, before}
use Rattle.rev_model.specs.State.{queue_place}
use Rattle.rev_model.specs.Words.{tail, queue_among}
use Rattle.rev_model.specs.declared.ChunkRef.{ChunkRef}
use Rattle.rev_model.specs.declared.Queue.{Queue}
use Rattle.rev_model.specs.declared.Queue.TheVariants.{Hot, Warm, Cold, Temp}
use Rattle.rev_model.specs.declared.Entry.{Entry}
use Rattle.rev_model.specs.declared.Entry.TheVariants as entry
use Rattle.rev_queues.specs.declared.members.QueueId.{QueueId}
use Rattle.rev_queues.specs.declared.members.Member.{Member}
use Rattle.rev_queues.specs.declared.members.Member.TheVariants.{Chunk, Mark}
use Rattle.rev_queues.specs.declared.members.QueueSlot.{QueueSlot}
use Rattle.rev_queues.specs.declared.members.Tally.{Tally}
use Rattle.rev_queues.specs.Entries.{Queued, entries, footprints, last_of}
use Rattle.rev_queues.proofs.Entries.{entries-at, same_member}
use Rattle.rev_queues.specs.Positions.{Position, PositionLink, link_at, next_in, previous_in, slot_at, standing_at, told}
use Rattle.rev_queues.specs.QueueState.{QueuesState, StandsIn, entry_of, member_of_entry, entry_at, chunk_at, queued, chain, state_of, tally_of, queue_in, id_of, IsLinked}
use Rattle.rev_queues.proofs.MemberLaws.{IsHome, same_member_tells, member_there, entry_at-place, before_members, behind_entries, first_member, tail_found, last_is, tail_is}
use Rattle.rev_queues.proofs.Kept.{some_link, link_there, has_end, queue_is, line_is, home_is, tally_is}

sum_queued : (slots : List (List QueueSlot)) (xs : List Member) → footprints (map (queued slots) xs) ≡ sum_by (told slots) xs
sum_queued slots [] = refl
sum_queued slots (x ∷ xs) = sum_by-cons (λ (q : Queued). q.footprint) (queued slots x) (map (queued slots) xs) ∙ (ap (λ n. told slots x + n) (sum_queued slots xs) ∙ sym (sum_by-cons (told slots) x xs))

some_of : {X : Type 0} (o : Option X) (x : X) → o ≡ Some x → IsSome o
some_of None x e = cc
some_of (Some y) x e = refl

one_value : {X : Type 0} (o : Option X) (x y : X) → o ≡ Some x → o ≡ Some y → x ≡ y
one_value o x y a b = cc

some_cell : (slots : List (List QueueSlot)) (x : ChunkRef) → IsSome (option_map (λ (s : QueueSlot). s.link) (slot_at slots x)) → IsSome (slot_at slots x)
some_cell slots x h = go (slot_at slots x) h
  where
    go : (o : Option QueueSlot) → IsSome (option_map (λ (s : QueueSlot). s.link) o) → IsSome o
    go None k = cc
    go (Some s) k = refl

-- the place before an end is a member of the list, or the place before the list
last_in : (next previous : Position → Option Position) (p : Position) (xs : List Member) (c : QueueId) (y : Member) → Path next previous p xs (End c) → previous (End c) ≡ Some (At y) → (p ≡ At y) ⊎ In y xs
last_in next previous p [] c y h e = let b = h.back in inl cc
last_in next previous p (x ∷ xs) c y h e = elim (last_in next previous (At x) xs c y h.1 e) [
  | inl u ↦ (let w : x ≡ y = cc in inr (inl w))
  | inr i ↦ inr (inr i)
]

module _ (ends marks : List PositionLink) (slots : List (List QueueSlot)) (tallies : List Tally) (h : IsLinked ends marks slots tallies) (v : QueuesState) (e : state_of ends marks slots ≡ v) where
  -- ---- of any queue
  module _ (c : QueueId) (m : c.number < length v.queues) where
    abbrev next : Position → Option Position
    next = next_in ends marks slots

    abbrev previous : Position → Option Position
    previous = previous_in ends marks slots

    abbrev members : List Member
    members = chain ends marks slots c

    ring : Path (next_in ends marks slots) (previous_in ends marks slots) (End c) (chain ends marks slots c) (End c)
    ring = h.ring c (has_end ends marks slots tallies h v e c m)

    at_home : IsHome c (chain ends marks slots c)
    at_home = home_is ends marks slots tallies h v e c m

    line_at : entries (get_or v.queues c.number []) ≡ map entry_of (chain ends marks slots c)
    line_at = line_is ends marks slots tallies h v e c m

    pub tally_read : (t : Tally) → slice_get tallies c.number ≡ Some t → t ≡ tally_of slots (chain ends marks slots c)
    tally_read t k = one_value (slice_get tallies c.number) t (tally_of slots (chain ends marks slots c)) k (tally_is ends marks slots tallies h v e c m)

    pub bytes_read : (t : Tally) → slice_get tallies c.number ≡ Some t → t.bytes ≡ footprints (get_or v.queues c.number [])
    bytes_read t k =
        ap (λ (z : Tally). z.bytes) (tally_read t k)
        ∙ (sym (sum_queued slots (chain ends marks slots c)) ∙ ap footprints (sym (queue_is ends marks slots tallies h v e c m)))

    pub count_read : (t : Tally) → slice_get tallies c.number ≡ Some t → t.count ≡ length (get_or v.queues c.number [])
    count_read t k =
        ap (λ (z : Tally). z.count) (tally_read t k)
        ∙ (sym (length-map (chain ends marks slots c) (queued slots)) ∙ ap length (sym (queue_is ends marks slots tallies h v e c m)))

    pub mark_read : (t : Tally) → slice_get tallies c.number ≡ Some t → t.marked ≡ has same_entry entry.Mark (entries (get_or v.queues c.number []))
    mark_read t k = ap (λ (z : Tally). z.marked) (tally_read t k) ∙ ap (has same_entry entry.Mark) (sym line_at)

    pub end_there : IsSome (link_at ends marks slots (End c))
    end_there = let f = first_step (next_in ends marks slots) (previous_in ends marks slots) (End c) (chain ends marks slots c) (End c) ring in some_link (link_at ends marks slots (End c)) f.0 f.1.onward

    module _ (l : PositionLink) (k : link_at ends marks slots (End c) ≡ Some l) where
      before_end : previous_in ends marks slots (End c) ≡ Some l.previous
      before_end = ap (option_map (λ (n : PositionLink). n.previous)) k

      pub last_read : entry_at l.previous ≡ last_of (entries (get_or v.queues c.number []))
      last_read = last_is (next_in ends marks slots) (previous_in ends marks slots) (chain ends marks slots c) c l.previous ring before_end ∙ ap last_of (sym line_at)

      pub head_read : entry_at l.next ≡ slice_get (entries (get_or v.queues c.number [])) 0
      head_read =
          let a : next_in ends marks slots (End c) ≡ Some l.next = ap (option_map (λ (n : PositionLink). n.next)) k in
          let b = first_path same_member same_member_tells (next_in ends marks slots) (previous_in ends marks slots) (End c) (chain ends marks slots c) c ring in
          let w : l.next ≡ around.place_or c (slice_get (chain ends marks slots c) 0) = one_value (next_in ends marks slots (End c)) l.next (around.place_or c (slice_get (chain ends marks slots c) 0)) a b in
          ap entry_at w ∙ (entry_at-place c (slice_get (chain ends marks slots c) 0) ∙ (first_member (chain ends marks slots c) ∙ ap (λ es. slice_get es 0) (sym line_at)))

      tail_at : tail_found (previous_in ends marks slots) (Some l.previous) ≡ tail (entries (get_or v.queues c.number []))
      tail_at =
          ap (tail_found (previous_in ends marks slots)) (sym before_end)
          ∙ (tail_is (next_in ends marks slots) (previous_in ends marks slots) c (chain ends marks slots c) ring at_home (distinct_path (next_in ends marks slots) (previous_in ends marks slots) (End c) (chain ends marks slots c) c ring)
          ∙ ap tail (sym line_at))

      pub tail_end : (d : QueueId) → l.previous ≡ End d → None ≡ tail (entries (get_or v.queues c.number []))
      tail_end d u = sym (ap (λ p. tail_found (previous_in ends marks slots) (Some p)) u) ∙ tail_at

      pub tail_chunk : (x : ChunkRef) → l.previous ≡ At (Chunk x) → Some x ≡ tail (entries (get_or v.queues c.number []))
      tail_chunk x u = sym (ap (λ p. tail_found (previous_in ends marks slots) (Some p)) u) ∙ tail_at

      pub mark_there : (r : QueueId) → l.previous ≡ At (Mark r) → IsSome (link_at ends marks slots (At (Mark r)))
      mark_there r u = elim (last_in (next_in ends marks slots) (previous_in ends marks slots) (End c) (chain ends marks slots c) c (Mark r) ring (before_end ∙ ap Some u)) [
        | inl z ↦ cc
        | inr i ↦ link_there ends marks slots (End c) (chain ends marks slots c) (End c) (Mark r) ring i
      ]

      pub tail_mark : (r : QueueId) → l.previous ≡ At (Mark r) → (n : PositionLink) → link_at ends marks slots (At (Mark r)) ≡ Some n → chunk_at n.previous ≡ tail (entries (get_or v.queues c.number []))
      tail_mark r u n z =
          let a : previous_in ends marks slots (At (Mark r)) ≡ Some n.previous = ap (option_map (λ (o : PositionLink). o.previous)) z in
          sym (ap (λ o. chunk_found o) a) ∙ (sym (ap (λ p. tail_found (previous_in ends marks slots) (Some p)) u) ∙ tail_at)
        where
          chunk_found : Option Position → Option ChunkRef
          chunk_found o = tail_found (λ p. o) (Some (At (Mark c)))

    module _ (x : Entry) (i : has same_entry x (entries (get_or v.queues c.number [])) ≡ true) where
      pub member_is : In (member_of_entry c x) (chain ends marks slots c)
      member_is = member_there c x (chain ends marks slots c) at_home (subst (λ es. has same_entry x es ≡ true) line_at i)

      pub entry_there : IsSome (link_at ends marks slots (At (member_of_entry c x)))
      entry_there = link_there ends marks slots (End c) (chain ends marks slots c) (End c) (member_of_entry c x) ring member_is

      pub before_place : (p : Position) → previous_in ends marks slots (At (member_of_entry c x)) ≡ Some p → entry_at p ≡ before same_entry x (entries (get_or v.queues c.number []))
      before_place p k =
          let o = around.before_of same_member (member_of_entry c x) (chain ends marks slots c) in
          let b = before_path same_member same_member_tells (next_in ends marks slots) (previous_in ends marks slots) c (chain ends marks slots c) (End c) (member_of_entry c x) ring member_is in
          let w : p ≡ around.place_or c o = one_value (previous_in ends marks slots (At (member_of_entry c x))) p (around.place_or c o) k b in
          ap entry_at w ∙ (entry_at-place c o ∙ (before_members c x (chain ends marks slots c) at_home ∙ ap (before same_entry x) (sym line_at)))

      pub behind_place : (p : Position) → next_in ends marks slots (At (member_of_entry c x)) ≡ Some p → entry_at p ≡ near.behind_of same_entry x (entries (get_or v.queues c.number []))
      behind_place p k =
          let o = near.behind_of same_member (member_of_entry c x) (chain ends marks slots c) in
          let b = behind_path same_member same_member_tells (next_in ends marks slots) (previous_in ends marks slots) (End c) (chain ends marks slots c) c (member_of_entry c x) ring member_is in
          let w : p ≡ around.place_or c o = one_value (next_in ends marks slots (At (member_of_entry c x))) p (around.place_or c o) k b in
          ap entry_at w ∙ (entry_at-place c o ∙ (behind_entries c x (chain ends marks slots c) at_home ∙ ap (near.behind_of same_entry x) (sym line_at)))

      pub before_read : (l : PositionLink) → link_at ends marks slots (At (member_of_entry c x)) ≡ Some l → entry_at l.previous ≡ before same_entry x (entries (get_or v.queues c.number []))
      before_read l k = before_place l.previous (ap (option_map (λ (n : PositionLink). n.previous)) k)

      pub behind_read : (l : PositionLink) → link_at ends marks slots (At (member_of_entry c x)) ≡ Some l → entry_at l.next ≡ near.behind_of same_entry x (entries (get_or v.queues c.number []))
      behind_read l k = behind_place l.next (ap (option_map (λ (n : PositionLink). n.next)) k)

  -- ---- the queue that a chunk's slot names
  module _ (class : ℕ) (all : queue_place class Temp < length v.queues) (x : ChunkRef) (i : StandsIn v.queues class x) where
    pub place_there : (k : Queue) → queue_place class k < length v.queues
    place_there Hot = omega arith
    place_there Warm = omega arith
    place_there Cold = omega arith
    place_there Temp = all

    pub slot_there : IsSome (slot_at slots x)
    slot_there = some_cell slots x (entry_there (id_of class i.0) (place_there i.0) (entry.Chunk x) i.1)

    module _ (s : QueueSlot) (r : slot_at slots x ≡ Some s) where
      named : (k : Queue) → has same_entry (entry.Chunk x) (entries (get_or v.queues (queue_place class k) [])) ≡ true → s.standing.queue ≡ id_of class k
      named k t =
          let c = id_of class k in
          let m = place_there k in
          let w = h.stands c x (has_end ends marks slots tallies h v e c m) (member_is c m (entry.Chunk x) t) in
          one_value (queue_in (standing_at slots x)) s.standing.queue c (ap (λ o. queue_in (option_map (λ (z : QueueSlot). z.standing) o)) r) w

      pub is_there : (k : Queue) → s.standing.queue ≡ id_of class k → has same_entry (entry.Chunk x) (get_or (map entries v.queues) (queue_place class k) []) ≡ true
      is_there k u =
          let z : id_of class i.0 ≡ id_of class k = sym (named i.0 i.1) ∙ u in
          let n : queue_place class i.0 ≡ queue_place class k = ap (λ (d : QueueId). d.number) z in
          ap (has same_entry (entry.Chunk x)) (entries-at v.queues (queue_place class k))
          ∙ subst (λ p. has same_entry (entry.Chunk x) (entries (get_or v.queues p [])) ≡ true) n i.1

      pub is_not_there : (k : Queue) → s.standing.queue ≢ id_of class k → has same_entry (entry.Chunk x) (get_or (map entries v.queues) (queue_place class k) []) ≡ false
      is_not_there k u =
          ap (has same_entry (entry.Chunk x)) (entries-at v.queues (queue_place class k))
          ∙ (elim (cases_Bool (has same_entry (entry.Chunk x) (entries (get_or v.queues (queue_place class k) [])))) [
            | inl t ↦ absurd (u (named k t))
            | inr f ↦ f
          ])

      pub among_hot : s.standing.queue ≡ id_of class Hot → Hot ≡ queue_among (map entries v.queues) class x
      among_hot a = let p = is_there Hot a in rw p refl

      pub among_warm : s.standing.queue ≢ id_of class Hot → s.standing.queue ≡ id_of class Warm → Warm ≡ queue_among (map entries v.queues) class x
      among_warm a b = let p = is_not_there Hot a in let q = is_there Warm b in rw (p, q) refl

      pub among_cold : s.standing.queue ≢ id_of class Hot → s.standing.queue ≢ id_of class Warm → s.standing.queue ≡ id_of class Cold → Cold ≡ queue_among (map entries v.queues) class x
      among_cold a b d = let p = is_not_there Hot a in let q = is_not_there Warm b in let t = is_there Cold d in rw (p, q, t) refl

      pub among_temp : s.standing.queue ≢ id_of class Hot → s.standing.queue ≢ id_of class Warm → s.standing.queue ≢ id_of class Cold → Temp ≡ queue_among (map entries v.queues) class x
      among_temp a b d = let p = is_not_there Hot a in let q = is_not_there Warm b in let t = is_not_there Cold d in rw (p, q, t) refl
