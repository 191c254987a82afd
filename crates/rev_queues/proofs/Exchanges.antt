-- What is left after a page's slots, in which no member stands, were exchanged; and the tables of a store without
-- pages.
use Rattle.std.proofs.Common.{◌≡◌, ◌≢◌, ℕ, suc, zero, ◌+◌, ◌*◌, ◌<◌, ◌≤◌, false, Some, None, List, [], length, get_or, set, slice_get, inl, inr, refl, sym, ◌∙◌, ap, subst, arith, map, option_map, replicate}
use Rattle.std.proofs.lemmas.Bool.{cases_eq, cases_lt, false≢true}
use Rattle.std.proofs.lemmas.List.{get_or-set_same, get_or-set_other, same_lists, length-set, length-map, length-replicate, map-set, set_past}
use Rattle.std.proofs.lemmas.List.FromFn.{length-map-range_with_len, get_or-map-range_with_len}
use Rattle.std.specs.List.{range_with_len}
use Rattle.rev_links.specs.declared.places.RingPlace.TheVariants.{End, At}
use Rattle.rev_links.specs.Grids.{away}
use Rattle.rev_links.specs.Rings.{Path, In}
use Rattle.rev_links.proofs.Rings.{path_same}
use Rattle.rev_links.proofs.Grids.{size_of_page, sizes_away, length_away}
use Rattle.rev_model.specs.Chunk.{same_entry}
use Rattle.rev_model.specs.Lists.{has}
use Rattle.rev_model.specs.declared.ChunkRef.{ChunkRef}
use Rattle.rev_model.specs.declared.Entry.TheVariants as entry
use Rattle.rev_queues.specs.declared.members.QueueId.{QueueId}
use Rattle.rev_queues.specs.declared.members.Member.{Member}
use Rattle.rev_queues.specs.declared.members.Member.TheVariants.{Chunk, Mark}
use Rattle.rev_queues.specs.declared.members.QueueSlot.{QueueSlot}
use Rattle.rev_queues.specs.declared.members.Tally.{Tally}
use Rattle.rev_queues.specs.Entries.{Queued}
use Rattle.rev_queues.specs.Empty.{AreEnds}
use Rattle.rev_queues.specs.Positions.{PositionLink, link_at, next_in, previous_in, slot_at, standing_at, footprint_in, footprint_of}
use Rattle.rev_queues.specs.QueueState.{QueuesState, IsClear, queued, chain, queue_at, state_of, tally_of, queue_in, empty_queues, IsLinked, AreSlots}
use Rattle.rev_queues.proofs.MemberLaws.{has_member}
use Rattle.rev_queues.proofs.Kept.{Bounded, chain_is, queued_agrees, tally_agrees, link_there, slot_within, count_is, line_is, slots_are}

pub no_cells : AreSlots []
no_cells = record { few = omega arith; small = λ i. omega arith }

module _ (ends marks : List PositionLink) (slots : List (List QueueSlot)) (tallies : List Tally) (h : IsLinked ends marks slots tallies) (v : QueuesState) (e : state_of ends marks slots ≡ v) (page : ℕ) where
  pub page_size : length (get_or slots page []) ≡ get_or v.slots page 0
  page_size = sym (size_of_page slots page) ∙ ap (λ ns. get_or ns page 0) (slots_are ends marks slots tallies h v e)

  pub page_there : page < length v.slots → page < length slots
  page_there l =
      let a : length (map length slots) ≡ length v.slots = ap length (slots_are ends marks slots tallies h v e) in
      let b = length-map slots length in
      omega arith

  -- what a page's slots are, as they are handed out
  pub page_cells : AreSlots (get_or slots page [])
  page_cells = record { few = (let a = size_of_page slots page in let b = h.slots_below page in omega arith); small = λ i. h.small (record { page = page; slot = i }) }

  -- no member stands in a page that has no slots, nor in one that is clear
  pub apart_where_empty : get_or v.slots page 0 ≡ 0 → (d : QueueId) (x : ChunkRef) → d.number < length ends → In (Chunk x) (chain ends marks slots d) → x.page ≢ page
  apart_where_empty z d x l i u =
      let w = slot_within ends marks slots x (link_there ends marks slots (End d) (chain ends marks slots d) (End d) (Chunk x) (h.ring d l) i) in
      let a : get_or (map length slots) x.page 0 ≡ get_or v.slots page 0 = ap (λ p. get_or (map length slots) p 0) u ∙ ap (λ ns. get_or ns page 0) (slots_are ends marks slots tallies h v e) in
      omega arith

  pub apart_where_clear : IsClear v.queues page → (d : QueueId) (x : ChunkRef) → d.number < length ends → In (Chunk x) (chain ends marks slots d) → x.page ≢ page
  apart_where_clear clear d x l i u =
      let o : d.number < length v.queues = (let a = count_is ends marks slots tallies h v e in omega arith) in
      false≢true (sym (clear x u d.number) ∙ (ap (has same_entry (entry.Chunk x)) (line_is ends marks slots tallies h v e d o) ∙ has_member (Chunk x) (chain ends marks slots d) i))

  module _ (cells : List QueueSlot) (are : AreSlots cells) (apart : (d : QueueId) (x : ChunkRef) → d.number < length ends → In (Chunk x) (chain ends marks slots d) → x.page ≢ page) where
    abbrev slots' : List (List QueueSlot)
    slots' = set slots page cells

    slot_same : (x : ChunkRef) → x.page ≢ page → slot_at (set slots page cells) x ≡ slot_at slots x
    slot_same x n = ap (λ xs. slice_get xs x.slot) (get_or-set_other slots page x.page cells [] n)

    standing_same : (x : ChunkRef) → x.page ≢ page → standing_at (set slots page cells) x ≡ standing_at slots x
    standing_same x n = ap (option_map (λ (s : QueueSlot). s.standing)) (slot_same x n)

    link_same : (d : QueueId) → d.number < length ends → (m : Member) → In m (chain ends marks slots d) → link_at ends marks (set slots page cells) (At m) ≡ link_at ends marks slots (At m)
    link_same d l (Chunk x) i = ap (option_map (λ (s : QueueSlot). s.link)) (slot_same x (apart d x l i))
    link_same d l (Mark r) i = refl

    bounded' : Bounded (set slots page cells)
    bounded' =
        let p = h.pages in
        let l = length-set slots page cells in
        let f = are.few in
        record {
          pages = omega arith;
          slots_below = λ q. subst (λ ns. get_or ns q 0 ≤ 65536) (sym (map-set length slots page cells))
              (elim (cases_eq q page) [
                | inl u ↦ (elim (cases_lt page (length (map length slots))) [
                  | inl k ↦ subst (λ z. get_or (set (map length slots) page (length cells)) z 0 ≤ 65536) (sym u) (rw (get_or-set_same (map length slots) page (length cells) 0 k) (omega arith))
                  | inr k ↦ rw (set_past (map length slots) page (length cells) k) (let b = h.slots_below q in omega arith)
                ])
                | inr n ↦ rw (get_or-set_other (map length slots) page q (length cells) 0 n) (let b = h.slots_below q in omega arith)
              ]);
        }

    below' : (q : ℕ) → get_or (map length (set slots page cells)) q 0 ≤ 65535
    below' q =
        let f = are.few in
        subst (λ ns. get_or ns q 0 ≤ 65535) (sym (map-set length slots page cells))
        (elim (cases_eq q page) [
          | inl u ↦ (elim (cases_lt page (length (map length slots))) [
            | inl k ↦ subst (λ z. get_or (set (map length slots) page (length cells)) z 0 ≤ 65535) (sym u) (rw (get_or-set_same (map length slots) page (length cells) 0 k) (omega arith))
            | inr k ↦ rw (set_past (map length slots) page (length cells) k) (h.slots_below q)
          ])
          | inr n ↦ rw (get_or-set_other (map length slots) page q (length cells) 0 n) (h.slots_below q)
        ])

    path' : (d : QueueId) → d.number < length ends → Path (next_in ends marks (set slots page cells)) (previous_in ends marks (set slots page cells)) (End d) (chain ends marks slots d) (End d)
    path' d l =
        path_same (next_in ends marks slots) (previous_in ends marks slots) (next_in ends marks slots') (previous_in ends marks slots') (End d) (chain ends marks slots d) (End d) refl
        (λ m i. let q = link_same d l m i in (ap (option_map (λ (k : PositionLink). k.next)) q, ap (option_map (λ (k : PositionLink). k.previous)) q)) refl (h.ring d l)

    chain' : (d : QueueId) → d.number < length ends → chain ends marks (set slots page cells) d ≡ chain ends marks slots d
    chain' d l = chain_is ends marks slots' bounded' (chain ends marks slots d) d (path' d l) (λ r i. h.home d r l i)

    standings : (d : QueueId) → d.number < length ends → (x : ChunkRef) → In (Chunk x) (chain ends marks slots d) → standing_at (set slots page cells) x ≡ standing_at slots x
    standings d l x i = standing_same x (apart d x l i)

    small' : (x : ChunkRef) → footprint_of (set slots page cells) x < 4294967296
    small' x = elim (cases_eq x.page page) [
      | inl u ↦ (elim (cases_lt page (length slots)) [
        | inl l ↦
            (let k : slot_at slots' x ≡ slice_get cells x.slot = ap (λ p. slice_get (get_or slots' p []) x.slot) u ∙ ap (λ xs. slice_get xs x.slot) (get_or-set_same slots page cells [] l) in
            subst (λ o. footprint_in (option_map (λ (s : QueueSlot). s.standing) o) < 4294967296) (sym k) (are.small x.slot))
        | inr l ↦ subst (λ g. footprint_of g x < 4294967296) (sym (set_past slots page cells l)) (h.small x)
      ])
      | inr n ↦ subst (λ o. footprint_in o < 4294967296) (sym (standing_same x n)) (h.small x)
    ]

    pub exchange_linked : IsLinked ends marks (set slots page cells) tallies
    exchange_linked = record {
      ring = λ d l. subst (λ xs. Path (next_in ends marks slots') (previous_in ends marks slots') (End d) xs (End d)) (sym (chain' d l)) (path' d l);
      home = λ d r l i. h.home d r l (subst (In (Mark r)) (chain' d l) i);
      stands = λ d x l i. let j = subst (In (Chunk x)) (chain' d l) i in ap queue_in (standings d l x j) ∙ h.stands d x l j;
      tally = λ d l. h.tally d l ∙ (ap Some (sym (tally_agrees slots slots' (chain ends marks slots d) (standings d l))) ∙ ap (λ xs. Some (tally_of slots' xs)) (sym (chain' d l)));
      small = small';
      few = h.few;
      same_marks = h.same_marks;
      pages = (let p = h.pages in let l = length-set slots page cells in omega arith);
      slots_below = below';
    }

    pub exchange_queues : (state_of ends marks (set slots page cells)).queues ≡ v.queues
    exchange_queues =
        let F : ℕ → List Queued = λ k. queue_at ends marks slots (record { number = k }) in
        let F' : ℕ → List Queued = λ k. queue_at ends marks slots' (record { number = k }) in
        let n₀ = length-map-range_with_len F 0 (length ends) in
        let n₁ = length-map-range_with_len F' 0 (length ends) in
        let same : map F' (range_with_len 0 (length ends)) ≡ map F (range_with_len 0 (length ends)) =
        same_lists _ _ (omega arith) (λ i d l.
        let i' : QueueId = record { number = i } in
        let l' : i < length ends = omega arith in
        get_or-map-range_with_len F' 0 (length ends) i i d l' (omega arith)
        ∙ (ap (map (queued slots')) (chain' i' l')
        ∙ (queued_agrees slots slots' (chain ends marks slots i') (standings i' l')
        ∙ sym (get_or-map-range_with_len F 0 (length ends) i i d l' (omega arith))))) in
        same ∙ ap (λ (w : QueuesState). w.queues) e

    pub exchange_slots : (n : ℕ) → length cells ≡ n → (state_of ends marks (set slots page cells)).slots ≡ set v.slots page n
    exchange_slots n k =
        map-set length slots page cells ∙ (ap (set (map length slots) page) k ∙ ap (λ ns. set ns page n) (slots_are ends marks slots tallies h v e))

-- ---- no pages yet
away_at : (n p s : ℕ) → slice_get (get_or (away {X = QueueSlot} n) p []) s ≡ None
away_at zero p s = refl
away_at (suc n) zero s = refl
away_at (suc n) (suc p) s = away_at n p s

zeros_below : (n p : ℕ) → get_or (replicate n 0) p 0 ≤ 65535
zeros_below zero p = omega arith
zeros_below (suc n) zero = omega arith
zeros_below (suc n) (suc p) = zeros_below n p

get_or-replicate_at : {X : Type 0} (n i : ℕ) (x d : X) → i < n → get_or (replicate n x) i d ≡ x
get_or-replicate_at zero i x d l = absurd (omega arith)
get_or-replicate_at (suc n) zero x d l = refl
get_or-replicate_at (suc n) (suc i) x d l = get_or-replicate_at n i x d (omega arith)

slice_get-replicate_at : {X : Type 0} (n i : ℕ) (x : X) → i < n → slice_get (replicate n x) i ≡ Some x
slice_get-replicate_at zero i x l = absurd (omega arith)
slice_get-replicate_at (suc n) zero x l = refl
slice_get-replicate_at (suc n) (suc i) x l = slice_get-replicate_at n i x (omega arith)

abbrev pub no_tally : Tally
no_tally = record { bytes = 0; count = 0; marked = false }

module _ (ends marks : List PositionLink) (slots : List (List QueueSlot)) (tallies : List Tally) (n pages : ℕ) (few : n ≤ 252) (most : pages ≤ 4158)
    (count : length ends ≡ n) (empty : AreEnds ends) (same : length marks ≡ n) (none : tallies ≡ replicate n no_tally) (gone : slots ≡ away pages) where
  sizes : map length slots ≡ replicate pages 0
  sizes = ap (map length) gone ∙ sizes_away QueueSlot pages

  page_count : length slots ≡ pages
  page_count = ap length gone ∙ length_away QueueSlot pages

  bounded_away : Bounded slots
  bounded_away = record { pages = (let a = page_count in omega arith); slots_below = λ p. subst (λ ns. get_or ns p 0 ≤ 65536) (sym sizes) (let b = zeros_below pages p in omega arith) }

  ring_away : (d : QueueId) → d.number < length ends → Path (next_in ends marks slots) (previous_in ends marks slots) (End d) [] (End d)
  ring_away d l = let q = empty d l in record { onward = ap (option_map (λ (k : PositionLink). k.next)) q; back = ap (option_map (λ (k : PositionLink). k.previous)) q }

  chain_away : (d : QueueId) → d.number < length ends → chain ends marks slots d ≡ []
  chain_away d l = chain_is ends marks slots bounded_away [] d (ring_away d l) (λ r i. absurd i)

  pub open_linked : IsLinked ends marks slots tallies
  open_linked = record {
    ring = λ d l. subst (λ xs. Path (next_in ends marks slots) (previous_in ends marks slots) (End d) xs (End d)) (sym (chain_away d l)) (ring_away d l);
    home = λ d r l i. absurd (subst (In (Mark r)) (chain_away d l) i);
    stands = λ d x l i. absurd (subst (In (Chunk x)) (chain_away d l) i);
    tally = λ d l. subst (λ xs. slice_get tallies d.number ≡ Some (tally_of slots xs)) (sym (chain_away d l))
        (subst (λ ts. slice_get ts d.number ≡ Some no_tally) (sym none) (slice_get-replicate_at n d.number no_tally (omega arith)));
    small = λ x. subst (λ g. footprint_of g x < 4294967296) (sym gone) (subst (λ o. footprint_in (option_map (λ (s : QueueSlot). s.standing) o) < 4294967296) (sym (away_at pages x.page x.slot)) (omega arith));
    few = omega arith;
    same_marks = same ∙ sym count;
    pages = (let a = page_count in omega arith);
    slots_below = λ p. subst (λ ns. get_or ns p 0 ≤ 65535) (sym sizes) (zeros_below pages p);
  }

  no_entries : map (λ k. queue_at ends marks slots (record { number = k })) (range_with_len 0 (length ends)) ≡ replicate n []
  no_entries =
      let F : ℕ → List Queued = λ k. queue_at ends marks slots (record { number = k }) in
      let n₀ = length-map-range_with_len F 0 (length ends) in
      let n₁ : length (replicate n (let l : List Queued = [] in l)) ≡ n = length-replicate n [] in
      same_lists _ _ (omega arith) (λ i d l.
      let i' : QueueId = record { number = i } in
      let l' : i < length ends = omega arith in
      get_or-map-range_with_len F 0 (length ends) i i d l' (omega arith)
      ∙ (ap (map (queued slots)) (chain_away i' l') ∙ sym (get_or-replicate_at n i [] d (omega arith))))

  pub open_value : (last : ℕ) (most_pages : ℕ) → n ≡ 4 * (last + 1) → pages ≡ most_pages + 62 → state_of ends marks slots ≡ empty_queues last most_pages
  open_value last most_pages a b =
      ap (λ qs. record { queues = qs; slots = map length slots }) (no_entries ∙ ap (λ k. replicate k []) a)
      ∙ ap (λ ns. record { queues = replicate (4 * (last + 1)) []; slots = ns }) (sizes ∙ ap (λ k. replicate k 0) b)
