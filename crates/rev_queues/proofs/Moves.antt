-- What is left after an entry was taken out of a queue, or put into one.
use Rattle.std.proofs.Common.{◌≡◌, ◌≢◌, ℕ, suc, zero, ◌+◌, ◌-◌, ◌*◌, ◌<◌, ◌≤◌, Bool, true, false, cond, not, ◌&&◌, ◌||◌, Option, Some, None, IsSome, IfSome, List, [], ◌∷◌, length, get_or, set, slice_get, ◌⊎◌, inl, inr, refl, sym, ◌∙◌, ap, subst, arith, map, option_map}
use Rattle.std.proofs.lemmas.Bool.{cases_Bool, cases_eq, false≢true}
use Rattle.std.specs.List.{sum_by}
use Rattle.rev_links.specs.declared.places.RingPlace.TheVariants.{End, At}
use Rattle.rev_links.specs.Rings.{Path, In, Between, Gap, Opened}
use Rattle.rev_links.proofs.Members.{without, insert, insert_behind}
use Rattle.rev_links.proofs.Rings.{distinct_path, In-without, not_In-without, length-without, length-insert_behind}
use Rattle.rev_links.specs.Neighbours.{place_behind}
use Rattle.rev_links.proofs.Lists.{between_in, gap_in, taken_own, taken_other, put_own, put_other}
use Rattle.rev_links.proofs.Grids.{slice_get-set_same, slice_get-set_other, cell_from_size}
use Rattle.rev_model.specs.Chunk.{same_entry, EntryHasSlot}
use Rattle.rev_model.specs.Lists.{has, has_after}
use Rattle.rev_model.specs.declared.ChunkRef.{ChunkRef}
use Rattle.rev_model.specs.declared.Entry.{Entry}
use Rattle.rev_model.specs.declared.Entry.TheVariants as entry
use Rattle.rev_queues.specs.declared.members.QueueId.{QueueId}
use Rattle.rev_queues.specs.declared.members.Member.{Member}
use Rattle.rev_queues.specs.declared.members.Member.TheVariants.{Chunk, Mark}
use Rattle.rev_queues.specs.declared.members.QueueSlot.{QueueSlot}
use Rattle.rev_queues.specs.declared.members.Tally.{Tally}
use Rattle.rev_queues.specs.Entries.{entries, queued_with, without_entry, insert_entry}
use Rattle.rev_queues.specs.Positions.{Position, PositionLink, link_at, next_in, previous_in, slot_at, standing_at, footprint_in, footprint_of, told, Closes, Opens, Tells, SameShape, SameStanding}
use Rattle.rev_queues.specs.QueueState.{QueuesState, IsGone, entry_of, member_of_entry, position_of, is_mark, bytes_told, queued, chain, state_of, tally_of, queue_in, IsLinked}
use Rattle.rev_queues.proofs.Entries.{same_member}
use Rattle.rev_queues.proofs.MemberLaws.{IsHome, same_ref, same_member_tells, without_members, insert_members, member_after, member_there, has_member, after_there}
use Rattle.rev_queues.proofs.Sums.{sum_without, sum_insert, sum_agrees, sum_at_most}
use Rattle.rev_queues.proofs.Kept.{Bounded, Becomes, told_agrees, queued_agrees, bounded, linked_after, queues_become, slots_stay, list_bound, count_is, has_end, queue_is, line_is, home_is, slots_are, tally_there}
use Rattle.rev_queues.proofs.Readings.{member_is, tally_read}

same_tally : (a a' b b' : ℕ) (d d' : Bool) → a ≡ a' → b ≡ b' → d ≡ d' → (let s : Tally = record { bytes = a; count = b; marked = d } in let t : Tally = record { bytes = a'; count = b'; marked = d' } in s ≡ t)
same_tally a a' b b' d d' p q r = cc

-- ---- marks in what is left
has_without : (e : Entry) (m : Member) (xs : List Member) → same_entry e (entry_of m) ≡ false → has same_entry e (map entry_of (without same_member m xs)) ≡ has same_entry e (map entry_of xs)
has_without e m [] f = refl
has_without e m (y ∷ ys) f = go (same_member m y) refl (has_without e m ys f)
  where
    go : (b : Bool) → same_member m y ≡ b → has same_entry e (map entry_of (without same_member m ys)) ≡ has same_entry e (map entry_of ys)
        → has same_entry e (map entry_of (cond b ys (y ∷ without same_member m ys))) ≡ cond (same_entry e (entry_of y)) true (has same_entry e (map entry_of ys))
    go true t ih =
        let w : same_entry e (entry_of y) ≡ false = subst (λ z. same_entry e (entry_of z) ≡ false) (same_member_tells.same m y t) f in
        sym (ap (λ b. cond b true (has same_entry e (map entry_of ys))) w)
    go false t ih = ap (λ b. cond (same_entry e (entry_of y)) true b) ih

mark_left : (c : QueueId) (x : Entry) (xs : List Member) → IsHome c xs → (In (member_of_entry c x) (without same_member (member_of_entry c x) xs) → ⊥)
    → has same_entry entry.Mark (map entry_of (without same_member (member_of_entry c x) xs)) ≡ (not (is_mark x) && has same_entry entry.Mark (map entry_of xs))
mark_left c (entry.Chunk y) xs home gone = has_without entry.Mark (Chunk y) xs refl
mark_left c entry.Mark xs home gone = elim (cases_Bool (has same_entry entry.Mark (map entry_of (without same_member (Mark c) xs)))) [
  | inl t ↦ absurd (gone (member_there c entry.Mark (without same_member (Mark c) xs) (λ r i. home r (In-without same_member same_member_tells (Mark c) (Mark r) xs i)) t))
  | inr f ↦ f
]

In-behind : (x y z : Member) (xs : List Member) → In z (insert_behind same_member x y xs) → (x ≡ z) ⊎ In z xs
In-behind x y z [] m = absurd m
In-behind x y z (w ∷ ws) m = go (same_member y w) (λ k. In-behind x y z ws k) m
  where
    go : (b : Bool) → (In z (insert_behind same_member x y ws) → (x ≡ z) ⊎ In z ws) → In z (cond b (w ∷ x ∷ ws) (w ∷ insert_behind same_member x y ws)) → (x ≡ z) ⊎ In z (w ∷ ws)
    go true ih k = elim k [ inl u ↦ inr (inl u) | inr r ↦ (elim r [ inl u ↦ inl u | inr v ↦ inr (inr v) ]) ]
    go false ih k = elim k [ inl u ↦ inr (inl u) | inr r ↦ (elim (ih r) [ inl u ↦ inl u | inr v ↦ inr (inr v) ]) ]

In-insert : (x z : Member) (after : Option Member) (xs : List Member) → In z (insert same_member x after xs) → (x ≡ z) ⊎ In z xs
In-insert x z None xs m = m
In-insert x z (Some y) xs m = In-behind x y z xs m

In-behind_own : (x y : Member) (xs : List Member) → In y xs → In x (insert_behind same_member x y xs)
In-behind_own x y [] m = absurd m
In-behind_own x y (w ∷ ws) m = go (same_member y w) refl (λ k. In-behind_own x y ws k)
  where
    go : (b : Bool) → same_member y w ≡ b → (In y ws → In x (insert_behind same_member x y ws)) → In x (cond b (w ∷ x ∷ ws) (w ∷ insert_behind same_member x y ws))
    go true t ih = inr (inl refl)
    go false t ih = inr (ih (elim m [ inl u ↦ absurd (same_member_tells.apart y w t (sym u)) | inr v ↦ v ]))

In-insert_own : (x : Member) (after : Option Member) (xs : List Member) → IfSome after (λ y. In y xs) → In x (insert same_member x after xs)
In-insert_own x None xs m = inl refl
In-insert_own x (Some y) xs m = In-behind_own x y xs m

has_behind : (e : Entry) (m y : Member) (xs : List Member) → same_entry e (entry_of m) ≡ false → In y xs → has same_entry e (map entry_of (insert_behind same_member m y xs)) ≡ has same_entry e (map entry_of xs)
has_behind e m y [] f i = absurd i
has_behind e m y (w ∷ ws) f i = go (same_member y w) refl (λ k. has_behind e m y ws f k)
  where
    go : (b : Bool) → same_member y w ≡ b → (In y ws → has same_entry e (map entry_of (insert_behind same_member m y ws)) ≡ has same_entry e (map entry_of ws))
        → has same_entry e (map entry_of (cond b (w ∷ m ∷ ws) (w ∷ insert_behind same_member m y ws))) ≡ cond (same_entry e (entry_of w)) true (has same_entry e (map entry_of ws))
    go true t ih = ap (λ b. cond (same_entry e (entry_of w)) true (cond b true (has same_entry e (map entry_of ws)))) f
    go false t ih = ap (λ b. cond (same_entry e (entry_of w)) true b) (ih (elim i [ inl u ↦ absurd (same_member_tells.apart y w t (sym u)) | inr v ↦ v ]))

has_insert : (e : Entry) (m : Member) (after : Option Member) (xs : List Member) → same_entry e (entry_of m) ≡ false → IfSome after (λ y. In y xs)
    → has same_entry e (map entry_of (insert same_member m after xs)) ≡ has same_entry e (map entry_of xs)
has_insert e m None xs f i = ap (λ b. cond b true (has same_entry e (map entry_of xs))) f
has_insert e m (Some y) xs f i = has_behind e m y xs f i

mark_entered : (c : QueueId) (x : Entry) (after : Option Member) (xs : List Member) → IfSome after (λ y. In y xs)
    → has same_entry entry.Mark (map entry_of (insert same_member (member_of_entry c x) after xs)) ≡ (is_mark x || has same_entry entry.Mark (map entry_of xs))
mark_entered c (entry.Chunk y) after xs i = has_insert entry.Mark (Chunk y) after xs refl i
mark_entered c entry.Mark after xs i = has_member (Mark c) (insert same_member (Mark c) after xs) (In-insert_own (Mark c) after xs i)

length-insert : (x : Member) (after : Option Member) (xs : List Member) → IfSome after (λ y. In y xs) → length (insert same_member x after xs) ≡ length xs + 1
length-insert x None xs i = omega arith
length-insert x (Some y) xs i = length-insert_behind same_member same_member_tells x y xs i

-- ---- an entry taken out
module _ (ends marks : List PositionLink) (slots : List (List QueueSlot)) (tallies : List Tally) (h : IsLinked ends marks slots tallies) (v : QueuesState) (e : state_of ends marks slots ≡ v) (c : QueueId) (m : c.number < length v.queues)
    (x : Entry) (i : has same_entry x (entries (get_or v.queues c.number [])) ≡ true) where
  own_end : c.number < length ends
  own_end = has_end ends marks slots tallies h v e c m

  inside : In (member_of_entry c x) (chain ends marks slots c)
  inside = member_is ends marks slots tallies h v e c m x i

  pub take_between : Between (next_in ends marks slots) (previous_in ends marks slots) (member_of_entry c x)
  take_between = between_in same_member same_member_tells (next_in ends marks slots) (previous_in ends marks slots) (λ q. q.number < length ends) (chain ends marks slots) h.ring c (member_of_entry c x) own_end inside

  take_sum : sum_by (told slots) (without same_member (member_of_entry c x) (chain ends marks slots c)) + told slots (member_of_entry c x) ≡ sum_by (told slots) (chain ends marks slots c)
  take_sum = sum_without same_member same_member_tells (told slots) (member_of_entry c x) (chain ends marks slots c) inside

  take_count : length (without same_member (member_of_entry c x) (chain ends marks slots c)) + 1 ≡ length (chain ends marks slots c)
  take_count = length-without same_member same_member_tells (member_of_entry c x) (chain ends marks slots c) inside

  module _ (t : Tally) (k : slice_get tallies c.number ≡ Some t) (bytes : ℕ) (b : bytes ≡ told slots (member_of_entry c x)) where
    read : t ≡ tally_of slots (chain ends marks slots c)
    read = tally_read ends marks slots tallies h v e c m t k

    read_bytes : t.bytes ≡ sum_by (told slots) (chain ends marks slots c)
    read_bytes = ap (λ (z : Tally). z.bytes) read

    read_count : t.count ≡ length (chain ends marks slots c)
    read_count = ap (λ (z : Tally). z.count) read

    pub take_bytes : bytes ≤ t.bytes
    take_bytes = let s = take_sum in let r = read_bytes in omega arith

    pub take_some : 0 < t.count
    take_some = let s = take_count in let r = read_count in omega arith

    module _ (ends' marks' : List PositionLink) (slots' : List (List QueueSlot)) (tallies' : List Tally) (s : SameShape ends marks slots ends' marks' slots')
        (l : Closes (next_in ends marks slots) (previous_in ends marks slots) (next_in ends' marks' slots') (previous_in ends' marks' slots') (member_of_entry c x))
        (f : SameStanding slots slots') (n : ℕ) (u : n ≡ c.number)
        (t' : Tally) (less : t' ≡ record { bytes = t.bytes - bytes; count = t.count - 1; marked = not (is_mark x) && t.marked }) (w : tallies' ≡ set tallies n t') where
      abbrev left : List Member
      left = without same_member (member_of_entry c x) (chain ends marks slots c)

      left_tally : t' ≡ tally_of slots' (without same_member (member_of_entry c x) (chain ends marks slots c))
      left_tally =
          let a = take_sum in
          let d = take_count in
          let p = read_bytes in
          let q = read_count in
          let z = sum_agrees (told slots') (told slots) left (told_agrees slots slots' left (λ y j. f y)) in
          let gone = not_In-without same_member same_member_tells (member_of_entry c x) (chain ends marks slots c) (distinct_path (next_in ends marks slots) (previous_in ends marks slots) (End c) (chain ends marks slots c) c (h.ring c own_end)) in
          let r : t.marked ≡ has same_entry entry.Mark (map entry_of (chain ends marks slots c)) = ap (λ (o : Tally). o.marked) read in
          less ∙ same_tally (t.bytes - bytes) (sum_by (told slots') left) (t.count - 1) (length left) (not (is_mark x) && t.marked) (has same_entry entry.Mark (map entry_of left))
          (omega arith) (omega arith)
          (ap (λ o. not (is_mark x) && o) r ∙ sym (mark_left c x (chain ends marks slots c) (home_is ends marks slots tallies h v e c m) gone))

      becomes : Becomes ends marks slots tallies ends' marks' slots' tallies' c (without same_member (member_of_entry c x) (chain ends marks slots c))
      becomes =
          let there = tally_there ends marks slots tallies h v e c m c.number refl in
          record {
            shape = s;
            own = taken_own same_member same_member_tells (next_in ends marks slots) (previous_in ends marks slots) (λ q. q.number < length ends) (chain ends marks slots) h.ring _ _ c (member_of_entry c x) l.p l.n own_end inside l.closed;
            others = λ d o a. taken_other same_member same_member_tells (next_in ends marks slots) (previous_in ends marks slots) (λ q. q.number < length ends) (chain ends marks slots) h.ring _ _ c (member_of_entry c x) l.p l.n own_end inside l.closed d o a;
            home = λ r j. h.home c r own_end (In-without same_member same_member_tells (member_of_entry c x) (Mark r) (chain ends marks slots c) j);
            stands = λ y j. ap queue_in (f y) ∙ h.stands c y own_end (In-without same_member same_member_tells (member_of_entry c x) (Chunk y) (chain ends marks slots c) j);
            small = λ y. let a = ap footprint_in (f y) in let o = h.small y in omega arith;
            tally = subst (λ q. slice_get q c.number ≡ Some (tally_of slots' left)) (sym w)
                (subst (λ q. slice_get (set tallies q t') c.number ≡ Some (tally_of slots' left)) (sym u) (slice_get-set_same tallies c.number t' there ∙ ap Some left_tally));
            tallies_others = λ j a. subst (λ q. slice_get q j ≡ slice_get tallies j) (sym w) (slice_get-set_other tallies n j t' (λ q. a (q ∙ u)));
            standings = λ d o a y j. f y;
          }

      pub take_linked : IsLinked ends' marks' slots' tallies'
      take_linked = linked_after ends marks slots tallies h ends' marks' slots' tallies' c own_end left becomes

      pub take_slots : (state_of ends' marks' slots').slots ≡ v.slots
      take_slots = slots_stay ends marks slots tallies h ends' marks' slots' tallies' c own_end left becomes v e

      pub take_queues : (state_of ends' marks' slots').queues ≡ set v.queues c.number (without_entry x (get_or v.queues c.number []))
      take_queues =
          queues_become ends marks slots tallies h ends' marks' slots' tallies' c own_end left becomes v e
          ∙ ap (set v.queues c.number)
          (queued_agrees slots slots' left (λ y j. f y)
          ∙ (without_members slots c x (chain ends marks slots c) (home_is ends marks slots tallies h v e c m) ∙ ap (without_entry x) (sym (queue_is ends marks slots tallies h v e c m))))

-- ---- an entry put in
some_read : {X : Type 0} (xs : List X) (n : ℕ) → n < length xs → IsSome (slice_get xs n)
some_read [] n l = absurd (omega arith)
some_read (x ∷ xs) zero l = refl
some_read (x ∷ xs) (suc n) l = some_read xs n (omega arith)

some_link_of : (o : Option QueueSlot) → IsSome o → IsSome (option_map (λ (s : QueueSlot). s.link) o)
some_link_of None k = cc
some_link_of (Some s) k = refl

module _ (ends marks : List PositionLink) (slots : List (List QueueSlot)) (tallies : List Tally) (h : IsLinked ends marks slots tallies) (v : QueuesState) (e : state_of ends marks slots ≡ v) (c : QueueId) (m : c.number < length v.queues)
    (x : Entry) (slot : EntryHasSlot v.slots x) (gone : IsGone v.queues c.number x) (after : Option Entry) (there : has_after same_entry after (entries (get_or v.queues c.number [])) ≡ true) where
  its_end : c.number < length ends
  its_end = has_end ends marks slots tallies h v e c m

  its_home : IsHome c (chain ends marks slots c)
  its_home = home_is ends marks slots tallies h v e c m

  pub put_there : IsSome (link_at ends marks slots (At (member_of_entry c x)))
  put_there = go x slot
    where
      go : (y : Entry) → EntryHasSlot v.slots y → IsSome (link_at ends marks slots (At (member_of_entry c y)))
      go (entry.Chunk y) s = some_link_of (slot_at slots y) (cell_from_size slots y.page y.slot (subst (λ ns. y.slot < get_or ns y.page 0) (sym (slots_are ends marks slots tallies h v e)) s.1))
      go entry.Mark s = some_read marks c.number (let a = h.same_marks in let b = its_end in omega arith)

  -- what enters stands in no queue
  nowhere : (d : QueueId) → d.number < length ends → In (member_of_entry c x) (chain ends marks slots d) → ⊥
  nowhere d l j = go x gone j
    where
      lack : (y : Entry) (d : QueueId) → d.number < length ends → has same_entry y (entries (get_or v.queues d.number [])) ≡ false → (n : Member) → entry_of n ≡ y → In n (chain ends marks slots d) → ⊥
      lack y d l f n z j =
          let o : d.number < length v.queues = (let a = count_is ends marks slots tallies h v e in omega arith) in
          let t : has same_entry y (map entry_of (chain ends marks slots d)) ≡ true = subst (λ w. has same_entry w (map entry_of (chain ends marks slots d)) ≡ true) z (has_member n (chain ends marks slots d) j) in
          false≢true (sym f ∙ (ap (has same_entry y) (line_is ends marks slots tallies h v e d o) ∙ t))

      go : (y : Entry) → IsGone v.queues c.number y → In (member_of_entry c y) (chain ends marks slots d) → ⊥
      go (entry.Chunk y) f j = lack (entry.Chunk y) d l (f d.number) (Chunk y) refl j
      go entry.Mark f j =
          let w : c ≡ d = h.home d c l j in
          lack entry.Mark c its_end f (Mark c) refl (subst (λ q. In (Mark c) (chain ends marks slots q)) (sym w) j)

  before_it : IfSome (member_after c after) (λ y. In y (chain ends marks slots c))
  before_it = after_there c after (chain ends marks slots c) its_home (subst (λ es. has_after same_entry after es ≡ true) (line_is ends marks slots tallies h v e c m) there)

  place_is : (a : Option Entry) → place_behind c (member_after c a) ≡ position_of c a
  place_is None = refl
  place_is (Some y) = refl

  pub put_apart : position_of c after ≢ At (member_of_entry c x)
  put_apart = go after before_it
    where
      go : (a : Option Entry) → IfSome (member_after c a) (λ y. In y (chain ends marks slots c)) → position_of c a ≢ At (member_of_entry c x)
      go None j z = cc
      go (Some y) j z = let w : member_of_entry c y ≡ member_of_entry c x = cc in nowhere c its_end (subst (λ n. In n (chain ends marks slots c)) w j)

  pub put_gap : Gap (next_in ends marks slots) (previous_in ends marks slots) (position_of c after) (member_of_entry c x)
  put_gap = subst (λ p. Gap (next_in ends marks slots) (previous_in ends marks slots) p (member_of_entry c x)) (place_is after)
      (gap_in same_member same_member_tells (next_in ends marks slots) (previous_in ends marks slots) (λ q. q.number < length ends) (chain ends marks slots) h.ring c (member_of_entry c x) (member_after c after) its_end (nowhere c its_end) before_it)

  module _ (footprint : ℕ) (fits : footprint < 4294967296)
      (ends₁ marks₁ : List PositionLink) (slots₁ : List (List QueueSlot)) (s₁ : SameShape ends marks slots ends₁ marks₁ slots₁)
      (o₁ : Opens (next_in ends marks slots) (previous_in ends marks slots) (next_in ends₁ marks₁ slots₁) (previous_in ends₁ marks₁ slots₁) (member_of_entry c x) (position_of c after))
      (f₁ : SameStanding slots slots₁)
      (ends' marks' : List PositionLink) (slots' : List (List QueueSlot)) (s₂ : SameShape ends₁ marks₁ slots₁ ends' marks' slots')
      (l₂ : (p : Position) → link_at ends' marks' slots' p ≡ link_at ends₁ marks₁ slots₁ p)
      (f₂ : Tells slots₁ slots' (member_of_entry c x) (record { queue = c; footprint = footprint })) where
    put_shape : SameShape ends marks slots ends' marks' slots'
    put_shape = record { same_ends = s₂.same_ends ∙ s₁.same_ends; same_marks = s₂.same_marks ∙ s₁.same_marks; same_sizes = s₂.same_sizes ∙ s₁.same_sizes }

    next_same : (p : Position) → next_in ends' marks' slots' p ≡ next_in ends₁ marks₁ slots₁ p
    next_same p = ap (option_map (λ (l : PositionLink). l.next)) (l₂ p)

    previous_same : (p : Position) → previous_in ends' marks' slots' p ≡ previous_in ends₁ marks₁ slots₁ p
    previous_same p = ap (option_map (λ (l : PositionLink). l.previous)) (l₂ p)

    opened : Opened (next_in ends marks slots) (previous_in ends marks slots) (next_in ends' marks' slots') (previous_in ends' marks' slots') (member_of_entry c x) (place_behind c (member_after c after)) o₁.n
    opened =
        let q = o₁.opened in
        let z : Opened (next_in ends marks slots) (previous_in ends marks slots) (next_in ends' marks' slots') (previous_in ends' marks' slots') (member_of_entry c x) (position_of c after) o₁.n = record {
          joined = q.joined;
          before = record { onward = next_same (position_of c after) ∙ q.before.onward; back = previous_same (At (member_of_entry c x)) ∙ q.before.back };
          behind = record { onward = next_same (At (member_of_entry c x)) ∙ q.behind.onward; back = previous_same o₁.n ∙ q.behind.back };
          next_same = λ p a b. next_same p ∙ q.next_same p a b;
          previous_same = λ p a b. previous_same p ∙ q.previous_same p a b;
        } in
        subst (λ p. Opened (next_in ends marks slots) (previous_in ends marks slots) (next_in ends' marks' slots') (previous_in ends' marks' slots') (member_of_entry c x) p o₁.n) (sym (place_is after)) z

    kept : (y : ChunkRef) → Chunk y ≢ member_of_entry c x → standing_at slots' y ≡ standing_at slots y
    kept y a = go x a f₂
      where
        go : (z : Entry) → Chunk y ≢ member_of_entry c z → Tells slots₁ slots' (member_of_entry c z) (record { queue = c; footprint = footprint }) → standing_at slots' y ≡ standing_at slots y
        go (entry.Chunk z) a f = f.1 y (λ w. a (ap Chunk w)) ∙ f₁ y
        go entry.Mark a f = f y ∙ f₁ y

    stays : (d : QueueId) → d.number < length ends → (y : ChunkRef) → In (Chunk y) (chain ends marks slots d) → standing_at slots' y ≡ standing_at slots y
    stays d l y j = kept y (λ w. nowhere d l (subst (λ n. In n (chain ends marks slots d)) w j))

    new_stands : (y : ChunkRef) → member_of_entry c x ≡ Chunk y → queue_in (standing_at slots' y) ≡ Some c
    new_stands y w = go x w f₂
      where
        go : (z : Entry) → member_of_entry c z ≡ Chunk y → Tells slots₁ slots' (member_of_entry c z) (record { queue = c; footprint = footprint }) → queue_in (standing_at slots' y) ≡ Some c
        go (entry.Chunk z) w f = let k : z ≡ y = cc in subst (λ n. queue_in (standing_at slots' n) ≡ Some c) k (ap queue_in f.0)
        go entry.Mark w f = cc

    new_small : (y : ChunkRef) → footprint_of slots' y < 4294967296
    new_small y = go x f₂
      where
        same : standing_at slots' y ≡ standing_at slots y → footprint_of slots' y < 4294967296
        same k = let a = ap footprint_in k in let o = h.small y in omega arith

        go : (z : Entry) → Tells slots₁ slots' (member_of_entry c z) (record { queue = c; footprint = footprint }) → footprint_of slots' y < 4294967296
        go (entry.Chunk z) f = elim (cases_eq y.page z.page) [
          | inl p ↦ (elim (cases_eq y.slot z.slot) [
            | inl q ↦ (let a : footprint_of slots' z ≡ footprint = ap footprint_in f.0 in subst (λ w. footprint_of slots' w < 4294967296) (sym (same_ref y z p q)) (omega arith))
            | inr n ↦ same (f.1 y (λ w. n (ap (λ (r : ChunkRef). r.slot) w)) ∙ f₁ y)
          ])
          | inr n ↦ same (f.1 y (λ w. n (ap (λ (r : ChunkRef). r.page) w)) ∙ f₁ y)
        ]
        go entry.Mark f = same (f y ∙ f₁ y)

    new_queued : queued slots' (member_of_entry c x) ≡ queued_with x footprint
    new_queued = go x f₂
      where
        go : (z : Entry) → Tells slots₁ slots' (member_of_entry c z) (record { queue = c; footprint = footprint }) → queued slots' (member_of_entry c z) ≡ queued_with z footprint
        go (entry.Chunk z) f = ap (λ n. record { entry = entry.Chunk z; footprint = n }) (ap footprint_in f.0)
        go entry.Mark f = refl

    new_told : told slots' (member_of_entry c x) ≡ bytes_told x footprint
    new_told = go x f₂
      where
        go : (z : Entry) → Tells slots₁ slots' (member_of_entry c z) (record { queue = c; footprint = footprint }) → told slots' (member_of_entry c z) ≡ bytes_told z footprint
        go (entry.Chunk z) f = ap footprint_in f.0
        go entry.Mark f = refl

    abbrev more : List Member
    more = insert same_member (member_of_entry c x) (member_after c after) (chain ends marks slots c)

    new_own : Path (next_in ends' marks' slots') (previous_in ends' marks' slots') (End c) (insert same_member (member_of_entry c x) (member_after c after) (chain ends marks slots c)) (End c)
    new_own = put_own same_member same_member_tells (next_in ends marks slots) (previous_in ends marks slots) (λ q. q.number < length ends) (chain ends marks slots) h.ring _ _ c (member_of_entry c x) (member_after c after) o₁.n its_end (nowhere c its_end) before_it opened

    new_home : IsHome c (insert same_member (member_of_entry c x) (member_after c after) (chain ends marks slots c))
    new_home r j = elim (In-insert (member_of_entry c x) (Mark r) (member_after c after) (chain ends marks slots c) j) [ inl w ↦ go x w | inr k ↦ its_home r k ]
      where
        go : (z : Entry) → member_of_entry c z ≡ Mark r → r ≡ c
        go (entry.Chunk z) w = cc
        go entry.Mark w = let k : c ≡ r = cc in sym k

    new_sum : sum_by (told slots') (insert same_member (member_of_entry c x) (member_after c after) (chain ends marks slots c)) ≡ sum_by (told slots) (chain ends marks slots c) + bytes_told x footprint
    new_sum =
        let a = sum_insert same_member same_member_tells (told slots') (member_of_entry c x) (member_after c after) (chain ends marks slots c) before_it in
        let b = sum_agrees (told slots') (told slots) (chain ends marks slots c) (told_agrees slots slots' (chain ends marks slots c) (stays c its_end)) in
        let d = new_told in
        omega arith

    new_bounded : Bounded slots'
    new_bounded =
        let b = bounded ends marks slots tallies h v e in
        let z : length (map length slots') ≡ length (map length slots) = ap length put_shape.same_sizes in
        record { pages = (let p = b.pages in let q = sizes_length slots in let r = sizes_length slots' in omega arith); slots_below = λ p. subst (λ xs. get_or xs p 0 ≤ 65536) (sym put_shape.same_sizes) (b.slots_below p) }
      where
        sizes_length : (g : List (List QueueSlot)) → length (map length g) ≡ length g
        sizes_length [] = refl
        sizes_length (q ∷ qs) = let r : length (map length qs) ≡ length qs = sizes_length qs in omega (arith, r)

    new_few : length (insert same_member (member_of_entry c x) (member_after c after) (chain ends marks slots c)) ≤ 4294967297
    new_few = list_bound ends' marks' slots' new_bounded (End c) more c new_own new_home

    new_most : sum_by (told slots') (insert same_member (member_of_entry c x) (member_after c after) (chain ends marks slots c)) ≤ length (insert same_member (member_of_entry c x) (member_after c after) (chain ends marks slots c)) * 4294967295
    new_most = sum_at_most (told slots') 4294967295 more (λ n j. go n)
      where
        go : (n : Member) → told slots' n ≤ 4294967295
        go (Chunk y) = let a = new_small y in omega arith
        go (Mark q) = omega arith

    module _ (t : Tally) (k : slice_get tallies c.number ≡ Some t) where
      its_read : t ≡ tally_of slots (chain ends marks slots c)
      its_read = tally_read ends marks slots tallies h v e c m t k

      its_bytes : t.bytes ≡ sum_by (told slots) (chain ends marks slots c)
      its_bytes = ap (λ (z : Tally). z.bytes) its_read

      its_count : t.count ≡ length (chain ends marks slots c)
      its_count = ap (λ (z : Tally). z.count) its_read

      pub put_bytes : (bytes : ℕ) → bytes ≡ bytes_told x footprint → t.bytes + bytes < 18446744073709551616
      put_bytes bytes b = let a = new_sum in let f = new_few in let g = new_most in let r = its_bytes in omega arith

      pub put_count : t.count + 1 < 18446744073709551616
      put_count = let a = length-insert (member_of_entry c x) (member_after c after) (chain ends marks slots c) before_it in let f = new_few in let r = its_count in omega arith

      module _ (n : ℕ) (u : n ≡ c.number) (bytes : ℕ) (b : bytes ≡ bytes_told x footprint) (tallies' : List Tally)
          (t' : Tally) (with : t' ≡ record { bytes = t.bytes + bytes; count = t.count + 1; marked = is_mark x || t.marked }) (w : tallies' ≡ set tallies n t') where
        new_tally : t' ≡ tally_of slots' (insert same_member (member_of_entry c x) (member_after c after) (chain ends marks slots c))
        new_tally =
            let a = new_sum in
            let d = length-insert (member_of_entry c x) (member_after c after) (chain ends marks slots c) before_it in
            let p = its_bytes in
            let q = its_count in
            let r : t.marked ≡ has same_entry entry.Mark (map entry_of (chain ends marks slots c)) = ap (λ (o : Tally). o.marked) its_read in
            with ∙ same_tally (t.bytes + bytes) (sum_by (told slots') more) (t.count + 1) (length more) (is_mark x || t.marked) (has same_entry entry.Mark (map entry_of more))
            (omega arith) (omega arith)
            (ap (λ o. is_mark x || o) r ∙ sym (mark_entered c x (member_after c after) (chain ends marks slots c) before_it))

        put_becomes : Becomes ends marks slots tallies ends' marks' slots' tallies' c (insert same_member (member_of_entry c x) (member_after c after) (chain ends marks slots c))
        put_becomes =
            let cell = tally_there ends marks slots tallies h v e c m c.number refl in
            record {
              shape = put_shape;
              own = new_own;
              others = λ d o a. put_other same_member same_member_tells (next_in ends marks slots) (previous_in ends marks slots) (λ q. q.number < length ends) (chain ends marks slots) h.ring _ _ c (member_of_entry c x) (member_after c after) o₁.n its_end nowhere before_it opened d o a;
              home = new_home;
              stands = λ y j. elim (In-insert (member_of_entry c x) (Chunk y) (member_after c after) (chain ends marks slots c) j) [
                | inl z ↦ new_stands y z
                | inr i ↦ ap queue_in (stays c its_end y i) ∙ h.stands c y its_end i
              ];
              small = new_small;
              tally = subst (λ q. slice_get q c.number ≡ Some (tally_of slots' more)) (sym w)
                  (subst (λ q. slice_get (set tallies q t') c.number ≡ Some (tally_of slots' more)) (sym u) (slice_get-set_same tallies c.number t' cell ∙ ap Some new_tally));
              tallies_others = λ j a. subst (λ q. slice_get q j ≡ slice_get tallies j) (sym w) (slice_get-set_other tallies n j t' (λ q. a (q ∙ u)));
              standings = λ d o a y j. stays d o y j;
            }

        pub put_linked : IsLinked ends' marks' slots' tallies'
        put_linked = linked_after ends marks slots tallies h ends' marks' slots' tallies' c its_end more put_becomes

        pub put_slots : (state_of ends' marks' slots').slots ≡ v.slots
        put_slots = slots_stay ends marks slots tallies h ends' marks' slots' tallies' c its_end more put_becomes v e

        pub put_queues : (state_of ends' marks' slots').queues ≡ set v.queues c.number (insert_entry (queued_with x footprint) after (get_or v.queues c.number []))
        put_queues =
            queues_become ends marks slots tallies h ends' marks' slots' tallies' c its_end more put_becomes v e
            ∙ ap (set v.queues c.number)
            (insert_members slots' c (member_of_entry c x) after (chain ends marks slots c) its_home before_it
            ∙ (ap (λ q. insert_entry q after (map (queued slots') (chain ends marks slots c))) new_queued
            ∙ ap (insert_entry (queued_with x footprint) after) (queued_agrees slots slots' (chain ends marks slots c) (stays c its_end) ∙ sym (queue_is ends marks slots tallies h v e c m))))
