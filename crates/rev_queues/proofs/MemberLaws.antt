-- Members of a queue seen as entries.
use Rattle.std.proofs.Common.{◌≡◌, ◌≢◌, Bool, true, false, cond, Option, Some, None, IfSome, List, [], ◌∷◌, ◌⊎◌, inl, inr, refl, sym, ◌∙◌, ap, subst, map, option_map, slice_get, ◌==◌}
use Rattle.std.proofs.lemmas.Bool.{eqb-true, eq-eqb, false≢true}
use Rattle.rev_links.specs.declared.places.RingPlace.TheVariants.{End, At}
use Rattle.rev_links.specs.Rings.{Path, In}
use Rattle.rev_links.proofs.Members.{without, insert, insert_behind, Tells}
use Rattle.rev_links.specs.Neighbours as near
use Rattle.rev_links.proofs.Members as around
use Rattle.rev_links.specs.Grids.{with_cell}
use Rattle.rev_links.proofs.Rings.{Distinct}
use Rattle.rev_links.proofs.Grids.{cell_other}
use Rattle.rev_model.specs.Chunk.{same_chunk, same_entry}
use Rattle.rev_model.specs.Lists as plain
use Rattle.rev_model.specs.Move.{last_or}
use Rattle.rev_model.specs.Words.{tail, later}
use Rattle.rev_model.proofs.Undo.{tells_chunk, tells_entry}
use Rattle.rev_model.specs.declared.ChunkRef.{ChunkRef}
use Rattle.rev_model.specs.declared.Entry.{Entry}
use Rattle.rev_model.specs.declared.Entry.TheVariants as entry
use Rattle.rev_queues.specs.declared.members.QueueId.{QueueId}
use Rattle.rev_queues.specs.declared.members.Member.{Member}
use Rattle.rev_queues.specs.declared.members.Member.TheVariants.{Chunk, Mark}
use Rattle.rev_queues.specs.declared.members.QueueSlot.{QueueSlot}
use Rattle.rev_queues.specs.Entries.{entries, without_entry, behind_entry, insert_entry, last_of}
use Rattle.rev_queues.specs.Positions.{Position, slot_at}
use Rattle.rev_queues.proofs.Entries.{same_member}
use Rattle.rev_queues.specs.QueueState.{entry_of, member_of_entry, entry_at, chunk_at, queued}

pub same_queue : (c d : QueueId) → c.number ≡ d.number → c ≡ d
same_queue c d e = ap (λ n. record { number = n }) e

pub same_member_tells : Tells same_member
same_member_tells = record { same = same; apart = apart }
  where
    same : (x y : Member) → same_member x y ≡ true → x ≡ y
    same (Chunk x) (Chunk y) h = ap Chunk (tells_chunk.exact x y h)
    same (Chunk x) (Mark q) h = cc
    same (Mark q) (Chunk y) h = cc
    same (Mark q) (Mark r) h = ap Mark (same_queue q r (eqb-true q.number r.number h))

    apart : (x y : Member) → same_member x y ≡ false → x ≢ y
    apart (Chunk x) (Chunk y) h e = let w : x ≡ y = cc in let s : same_chunk x y ≡ true = subst (λ z. same_chunk x z ≡ true) w (tells_chunk.self x) in false≢true (sym h ∙ s)
    apart (Chunk x) (Mark q) h e = cc
    apart (Mark q) (Chunk y) h e = cc
    apart (Mark q) (Mark r) h e = let w : q ≡ r = cc in let k = eq-eqb q.number r.number (ap (λ (z : QueueId). z.number) w) in cc

-- a member of the queue q is the entry e exactly where the tests say so
pub entry_tells : (q : QueueId) (e : Entry) (m : Member) → ((r : QueueId) → m ≡ Mark r → r ≡ q) → same_entry e (entry_of m) ≡ same_member (member_of_entry q e) m
entry_tells q (entry.Chunk x) (Chunk y) h = refl
entry_tells q (entry.Chunk x) (Mark r) h = refl
entry_tells q entry.Mark (Chunk y) h = refl
entry_tells q entry.Mark (Mark r) h = let k : q.number ≡ r.number = ap (λ (z : QueueId). z.number) (sym (h r refl)) in sym (eq-eqb q.number r.number k)

-- the only marks of the list are those of q
abbrev pub IsHome : QueueId → List Member → Type 0
IsHome q xs = (r : QueueId) → In (Mark r) xs → r ≡ q

pub entries_queued : (slots : List (List QueueSlot)) (xs : List Member) → entries (map (queued slots) xs) ≡ map entry_of xs
entries_queued slots [] = refl
entries_queued slots (x ∷ xs) = ap (λ es. entry_of x ∷ es) (entries_queued slots xs)

pub without_members : (slots : List (List QueueSlot)) (q : QueueId) (e : Entry) (xs : List Member) → IsHome q xs
    → map (queued slots) (without same_member (member_of_entry q e) xs) ≡ without_entry e (map (queued slots) xs)
without_members slots q e [] home = refl
without_members slots q e (m ∷ ms) home =
    go (same_member (member_of_entry q e) m) (same_entry e (entry_of m)) (entry_tells q e m (λ r u. home r (inl u))) (without_members slots q e ms (λ r i. home r (inr i)))
  where
    go : (b c : Bool) → c ≡ b → map (queued slots) (without same_member (member_of_entry q e) ms) ≡ without_entry e (map (queued slots) ms)
        → map (queued slots) (cond b ms (m ∷ without same_member (member_of_entry q e) ms)) ≡ cond c (map (queued slots) ms) (queued slots m ∷ without_entry e (map (queued slots) ms))
    go true true u ih = refl
    go true false u ih = cc
    go false true u ih = cc
    go false false u ih = ap (λ zs. queued slots m ∷ zs) ih

-- the members that entries are
abbrev pub member_after : QueueId → Option Entry → Option Member
member_after q None = None
member_after q (Some e) = Some (member_of_entry q e)

behind_members : (slots : List (List QueueSlot)) (q : QueueId) (m : Member) (y : Entry) (xs : List Member) → IsHome q xs → In (member_of_entry q y) xs
    → map (queued slots) (insert_behind same_member m (member_of_entry q y) xs) ≡ behind_entry y (queued slots m) (map (queued slots) xs)
behind_members slots q m y [] home i = absurd i
behind_members slots q m y (z ∷ zs) home i =
    go (same_member (member_of_entry q y) z) (same_entry y (entry_of z)) refl (entry_tells q y z (λ r u. home r (inl u))) (λ j. behind_members slots q m y zs (λ r k. home r (inr k)) j)
  where
    go : (b c : Bool) → same_member (member_of_entry q y) z ≡ b → c ≡ b
        → (In (member_of_entry q y) zs → map (queued slots) (insert_behind same_member m (member_of_entry q y) zs) ≡ behind_entry y (queued slots m) (map (queued slots) zs))
        → map (queued slots) (cond b (z ∷ m ∷ zs) (z ∷ insert_behind same_member m (member_of_entry q y) zs))
        ≡ cond c (queued slots z ∷ queued slots m ∷ map (queued slots) zs) (queued slots z ∷ behind_entry y (queued slots m) (map (queued slots) zs))
    go true true t u ih = refl
    go true false t u ih = cc
    go false true t u ih = cc
    go false false t u ih =
        let j : In (member_of_entry q y) zs = elim i [ inl w ↦ absurd (same_member_tells.apart (member_of_entry q y) z t (sym w)) | inr w ↦ w ] in
        ap (λ l. queued slots z ∷ l) (ih j)

pub insert_members : (slots : List (List QueueSlot)) (q : QueueId) (m : Member) (after : Option Entry) (xs : List Member) → IsHome q xs → IfSome (member_after q after) (λ y. In y xs)
    → map (queued slots) (insert same_member m (member_after q after) xs) ≡ insert_entry (queued slots m) after (map (queued slots) xs)
insert_members slots q m None xs home i = refl
insert_members slots q m (Some y) xs home i = behind_members slots q m y xs home i

-- who stands in the list as an entry is a member
pub member_there : (q : QueueId) (e : Entry) (xs : List Member) → IsHome q xs → plain.has same_entry e (map entry_of xs) ≡ true → In (member_of_entry q e) xs
member_there q e [] home h = absurd (false≢true h)
member_there q e (m ∷ ms) home h =
    go (same_member (member_of_entry q e) m) (same_entry e (entry_of m)) refl (entry_tells q e m (λ r u. home r (inl u))) h (λ k. member_there q e ms (λ r i. home r (inr i)) k)
  where
    go : (b c : Bool) → same_member (member_of_entry q e) m ≡ b → c ≡ b → cond c true (plain.has same_entry e (map entry_of ms)) ≡ true
        → (plain.has same_entry e (map entry_of ms) ≡ true → In (member_of_entry q e) ms) → (m ≡ member_of_entry q e) ⊎ In (member_of_entry q e) ms
    go true c t u k ih = inl (sym (same_member_tells.same (member_of_entry q e) m t))
    go false true t u k ih = cc
    go false false t u k ih = inr (ih k)

-- and a member stands there as an entry
pub has_member : (m : Member) (xs : List Member) → In m xs → plain.has same_entry (entry_of m) (map entry_of xs) ≡ true
has_member m [] i = absurd i
has_member m (y ∷ ys) i = go (same_entry (entry_of m) (entry_of y)) refl i (λ k. has_member m ys k)
  where
    go : (b : Bool) → same_entry (entry_of m) (entry_of y) ≡ b → (y ≡ m) ⊎ In m ys → (In m ys → plain.has same_entry (entry_of m) (map entry_of ys) ≡ true)
        → cond b true (plain.has same_entry (entry_of m) (map entry_of ys)) ≡ true
    go true t k ih = refl
    go false t (inl u) ih =
        let s : same_entry (entry_of m) (entry_of y) ≡ true = subst (λ z. same_entry (entry_of m) (entry_of z) ≡ true) (sym u) (tells_entry.self (entry_of m)) in
        absurd (false≢true (sym t ∙ s))
    go false t (inr w) ih = ih w

pub after_there : (q : QueueId) (after : Option Entry) (xs : List Member) → IsHome q xs → plain.has_after same_entry after (map entry_of xs) ≡ true → IfSome (member_after q after) (λ y. In y xs)
after_there q None xs home h = tt
after_there q (Some y) xs home h = member_there q y xs home h

-- ---- neighbours
pub entry_at-place : (q : QueueId) (o : Option Member) → entry_at (around.place_or q o) ≡ option_map entry_of o
entry_at-place q None = refl
entry_at-place q (Some m) = refl

before_members_from : (q : QueueId) (e : Entry) (last : Option Member) (xs : List Member) → IsHome q xs
    → option_map entry_of (around.before_from same_member (member_of_entry q e) last xs) ≡ plain.before_from same_entry e (option_map entry_of last) (map entry_of xs)
before_members_from q e last [] home = refl
before_members_from q e last (m ∷ ms) home =
    go (same_member (member_of_entry q e) m) (same_entry e (entry_of m)) (entry_tells q e m (λ r u. home r (inl u))) (before_members_from q e (Some m) ms (λ r i. home r (inr i)))
  where
    go : (b c : Bool) → c ≡ b
        → option_map entry_of (around.before_from same_member (member_of_entry q e) (Some m) ms) ≡ plain.before_from same_entry e (Some (entry_of m)) (map entry_of ms)
        → option_map entry_of (cond b last (around.before_from same_member (member_of_entry q e) (Some m) ms)) ≡ cond c (option_map entry_of last) (plain.before_from same_entry e (Some (entry_of m)) (map entry_of ms))
    go true true u ih = refl
    go true false u ih = cc
    go false true u ih = cc
    go false false u ih = ih

pub before_members : (q : QueueId) (e : Entry) (xs : List Member) → IsHome q xs
    → option_map entry_of (around.before_of same_member (member_of_entry q e) xs) ≡ plain.before same_entry e (map entry_of xs)
before_members q e xs home = before_members_from q e None xs home

pub first_member : (xs : List Member) → option_map entry_of (slice_get xs 0) ≡ slice_get (map entry_of xs) 0
first_member [] = refl
first_member (m ∷ ms) = refl

pub behind_entries : (q : QueueId) (e : Entry) (xs : List Member) → IsHome q xs
    → option_map entry_of (near.behind_of same_member (member_of_entry q e) xs) ≡ near.behind_of same_entry e (map entry_of xs)
behind_entries q e [] home = refl
behind_entries q e (m ∷ ms) home =
    go (same_member (member_of_entry q e) m) (same_entry e (entry_of m)) (entry_tells q e m (λ r u. home r (inl u))) (behind_entries q e ms (λ r i. home r (inr i)))
  where
    go : (b c : Bool) → c ≡ b
        → option_map entry_of (near.behind_of same_member (member_of_entry q e) ms) ≡ near.behind_of same_entry e (map entry_of ms)
        → option_map entry_of (cond b (slice_get ms 0) (near.behind_of same_member (member_of_entry q e) ms)) ≡ cond c (slice_get (map entry_of ms) 0) (near.behind_of same_entry e (map entry_of ms))
    go true true u ih = first_member ms
    go true false u ih = cc
    go false true u ih = cc
    go false false u ih = ih

-- ---- the last entry, and the last that is no mark
abbrev ending : Option Entry → List Entry → Option Entry
ending o [] = o
ending o (e ∷ es) = ending (Some e) es

ending_some : (d : Entry) (es : List Entry) → ending (Some d) es ≡ Some (last_or d es)
ending_some d [] = refl
ending_some d (e ∷ es) = ending_some e es

ending_none : (es : List Entry) → ending None es ≡ last_of es
ending_none [] = refl
ending_none (e ∷ es) = ending_some e es

-- a chunk before the end, or one before a mark there
abbrev chunk_of : Option Position → Option ChunkRef
chunk_of None = None
chunk_of (Some p) = chunk_at p

abbrev pub tail_found : (Position → Option Position) → Option Position → Option ChunkRef
tail_found previous None = None
tail_found previous (Some (End e)) = None
tail_found previous (Some (At (Chunk x))) = Some x
tail_found previous (Some (At (Mark q))) = chunk_of (previous (At (Mark q)))

abbrev found_or : Option ChunkRef → Option ChunkRef → Option ChunkRef
found_or None o = o
found_or (Some x) o = Some x

found_none : (t : Option ChunkRef) → found_or t None ≡ t
found_none None = refl
found_none (Some x) = refl

module _ (next previous : Position → Option Position) where
  last_along : (p : Position) (xs : List Member) (c : QueueId) (q : Position) → Path next previous p xs (End c) → previous (End c) ≡ Some q
      → entry_at q ≡ ending (entry_at p) (map entry_of xs)
  last_along p [] c q h e = let b = h.back in let w : q ≡ p = cc in ap entry_at w
  last_along p (x ∷ xs) c q h e = last_along (At x) xs c q h.1 e

  pub last_is : (xs : List Member) (c : QueueId) (q : Position) → Path next previous (End c) xs (End c) → previous (End c) ≡ Some q → entry_at q ≡ last_of (map entry_of xs)
  last_is xs c q h e = last_along (End c) xs c q h e ∙ ending_none (map entry_of xs)

  -- along a path with at most one mark, whatever stood before it
  tail_along : (p : Position) (xs : List Member) (e : QueueId) → Path next previous p xs (End e)
      → ((q r : QueueId) → In (Mark q) xs → In (Mark r) xs → q ≡ r) → Distinct xs
      → ((q : QueueId) → p ≡ At (Mark q) → (r : QueueId) → In (Mark r) xs → ⊥)
      → tail_found previous (previous (End e)) ≡ found_or (tail (map entry_of xs)) (tail_found previous (Some p))
  tail_along p [] e h one d last = ap (tail_found previous) h.back
  tail_along p (Chunk x ∷ xs) e h one d last =
      tail_along (At (Chunk x)) xs e h.1 (λ q r i j. one q r (inr i) (inr j)) d.1 (λ q z r i. cc) ∙ go (tail (map entry_of xs))
    where
      go : (t : Option ChunkRef) → found_or t (Some x) ≡ found_or (later t (entry.Chunk x)) (tail_found previous (Some p))
      go None = refl
      go (Some y) = refl
  tail_along p (Mark m ∷ xs) e h one d last =
      let none : (r : QueueId) → In (Mark r) xs → ⊥ = λ r i. d.0 (subst (λ z. In (Mark z) xs) (sym (one m r (inl refl) (inr i))) i) in
      let ih = tail_along (At (Mark m)) xs e h.1 (λ q r i j. one q r (inr i) (inr j)) d.1 (λ q z r i. none r i) in
      let back = h.0.back in
      ih ∙ go (tail (map entry_of xs)) (ap chunk_of back ∙ seen p refl)
    where
      seen : (p' : Position) → p ≡ p' → chunk_of (Some p) ≡ tail_found previous (Some p)
      seen (End d') u = subst (λ z. chunk_of (Some z) ≡ tail_found previous (Some z)) (sym u) refl
      seen (At (Chunk x)) u = subst (λ z. chunk_of (Some z) ≡ tail_found previous (Some z)) (sym u) refl
      seen (At (Mark q)) u = absurd (last q u m (inl refl))

      go : (t : Option ChunkRef) → chunk_of (previous (At (Mark m))) ≡ tail_found previous (Some p)
          → found_or t (chunk_of (previous (At (Mark m)))) ≡ found_or (later t entry.Mark) (tail_found previous (Some p))
      go None k = k
      go (Some y) k = refl

  -- what one or two reads find is the last entry that is no mark
  pub tail_is : (c : QueueId) (xs : List Member) → Path next previous (End c) xs (End c) → IsHome c xs → Distinct xs → tail_found previous (previous (End c)) ≡ tail (map entry_of xs)
  tail_is c xs h home d = tail_along (End c) xs c h (λ q r i j. home q i ∙ sym (home r j)) d (λ q z r i. cc) ∙ found_none (tail (map entry_of xs))

-- ---- slots
pub same_ref : (x y : ChunkRef) → x.page ≡ y.page → x.slot ≡ y.slot → x ≡ y
same_ref x y a b = ap (λ p. record { page = p; slot = x.slot }) a ∙ ap (λ s. record { page = y.page; slot = s }) b

pub slot_other : (slots : List (List QueueSlot)) (x y : ChunkRef) (v : QueueSlot) → y ≢ x → slot_at (with_cell slots x.page x.slot v) y ≡ slot_at slots y
slot_other slots x y v apart = cell_other slots x.page x.slot y.page y.slot v (λ a b. apart (same_ref y x a b))

-- ---- tests of numbers
pub named_by : (a b i : QueueId) → b ≡ i → true ≡ (a.number == b.number) → a ≡ i
named_by a b i u t = same_queue a b (eqb-true a.number b.number (sym t)) ∙ u

pub named_otherwise : (a b i : QueueId) → b ≡ i → false ≡ (a.number == b.number) → a ≢ i
named_otherwise a b i u t w = false≢true (t ∙ eq-eqb a.number b.number (ap (λ (q : QueueId). q.number) (w ∙ sym u)))
