-- A record tells where each key was before its step.
use Rattle.std.specs.Prelude.{ℕ, ◌≡◌, ◌/◌, ◌<◌, ◌==◌, Bool, true, false, cond, List, [], ◌∷◌, ◌++◌, Option, None, Some, length, slice_index_or, slice_set, refl, zero, suc}
use Rattle.std.proofs.Common.{sym, ◌∙◌, ap, inl, inr, arith, subst, eq-eqb, ne_eqb}
use Rattle.std.proofs.lemmas.Bool.{cases_Bool, false≢true, true≢false, cases_eq}
use Rattle.std.proofs.lemmas.List.{get_or-set_same, get_or-set_other}
use Rattle.std.specs.Option.{option_map}
use Rattle.std.specs.Ordering.{eq_by_cmp}
use Rattle.std.specs.Cmp.Lexicographic.{nat_list_cmp_total}
use Rattle.std.specs.FinMap as map
use Rattle.rev_items.specs.Plain.{PlainItem}
use Rattle.rev_model.specs.Chunk.{same_chunk, same_entry, chunk_cmp}
use Rattle.rev_model.proofs.Chunks.{chunk_cmp_exact, chunk_cmp_total}
use Rattle.rev_model.specs.Lists.{has, without, behind, insert}
use Rattle.rev_model.proofs.ListLaws.{Tells, has-insert}
use Rattle.rev_model.specs.State.{State, Keys, WellFormed, item_at, find, owner_of, queue_of, queue_place, stands, per_page}
use Rattle.rev_model.specs.Move.{Move, MarksIn, MarksOut, names, marked, unmarked, EndMarks, front, Takes, Puts, Fills, Touches, Binds, Unbinds, Lays, Lifts, Counts, Sets, BumpsIn, BumpsBack, BumpsOut, BumpsFront, Shifts, exchanged, rebound, shifted, put_at, moved, bound, unbound, laid, lifted, touched, Ready, turned, Fits}
use Rattle.rev_model.proofs.Undo.{tells_chunk, tells_entry, same_chunk-self, has-count, count_in_table, get-put_at, tied, tied_self, entered, turned_well, at_map, lacks-exchanged}
use Rattle.rev_model.specs.declared.ChunkRef.{ChunkRef}
use Rattle.rev_model.specs.declared.Entry.{Entry}
use Rattle.rev_model.specs.declared.Entry.TheVariants.{Chunk, Mark}
use Rattle.rev_model.specs.declared.Queue.{Queue}
use Rattle.rev_model.specs.declared.Touched.{Touched}
use Rattle.rev_model.specs.declared.Form.{Form}
use Rattle.rev_model.specs.declared.Form.TheVariants.{Fresh, Pool, Withdrawn}
use Rattle.rev_model.specs.declared.Listed.TheVariants.{InFree, InQueue}
use Rattle.rev_model.specs.declared.Placed.TheVariants.{ToFree, ToQueue}
use Rattle.rev_model.specs.declared.Cause.{Cause}
use Rattle.rev_model.specs.declared.ClassQueue.{ClassQueue}
use Rattle.rev_model.specs.declared.KeyChange.{KeyChange}
use Rattle.rev_model.specs.Track.{same_key, has_key, is_chunk, keyed, first_note, more_notes, shift_change, key_change, leads_or, class_queue_before}

-- tests

same_test : (x y : ChunkRef) → eq_by_cmp chunk_cmp x y ≡ same_chunk x y
same_test x y = elim (cases_Bool (same_chunk x y)) [
  | inl e ↦ let p : x ≡ y = tells_chunk.exact x y e in
      subst (λ v. eq_by_cmp chunk_cmp x v ≡ same_chunk x v) p (tied_self chunk_cmp_total chunk_cmp_exact x ∙ sym (same_chunk-self x))
  | inr e ↦ elim (cases_Bool (eq_by_cmp chunk_cmp x y)) [
    | inl f ↦ let p : x ≡ y = tied chunk_cmp_total chunk_cmp_exact x y f in
        absurd (false≢true (sym e ∙ subst (λ v. same_chunk x v ≡ true) p (same_chunk-self x)))
    | inr f ↦ f ∙ sym e
  ]
]

pub get_put : (s : State) (y : ChunkRef) (o : Option PlainItem) (x : ChunkRef) → map.get (put_at s.content y o) x ≡ cond (same_chunk x y) o (item_at s x)
get_put s y o x = get-put_at chunk_cmp_total chunk_cmp_exact s.content y o x ∙ ap (λ b. cond b o (item_at s x)) (same_test x y)

pub same_key-self : (k : List ℕ) → same_key k k ≡ true
same_key-self k = tied_self nat_list_cmp_total (map.slice_cmp-IsAntisymmetric map.nat_cmp-IsAntisymmetric) k

pub same_key-exact : (k l : List ℕ) → same_key k l ≡ true → k ≡ l
same_key-exact k l e = tied nat_list_cmp_total (map.slice_cmp-IsAntisymmetric map.nat_cmp-IsAntisymmetric) k l e

-- what a move leaves alone

bound_content : (x : ChunkRef) (o : Option PlainItem) (s : State) → (bound x o s).content ≡ s.content
bound_content x None s = refl
bound_content x (Some i) s = refl

pub unbound_content : (o : Option PlainItem) (s : State) → (unbound o s).content ≡ s.content
unbound_content None s = refl
unbound_content (Some i) s = refl

bound_queues : (x : ChunkRef) (o : Option PlainItem) (s : State) → (bound x o s).queues ≡ s.queues
bound_queues x None s = refl
bound_queues x (Some i) s = refl

unbound_queues : (o : Option PlainItem) (s : State) → (unbound o s).queues ≡ s.queues
unbound_queues None s = refl
unbound_queues (Some i) s = refl

record Same (s t : State) : Type 0 where
  content : s.content ≡ t.content
  queues : s.queues ≡ t.queues
  index : s.index ≡ t.index

laid_same : (p c n : ℕ) (f : Form) (s : State) → Same (laid p c n f s) s
laid_same p c n Fresh s = record { content = refl; queues = refl; index = refl }
laid_same p c n Pool s = record { content = refl; queues = refl; index = refl }
laid_same p c n Withdrawn s = record { content = refl; queues = refl; index = refl }

lifted_same : (p c n : ℕ) (f : Form) (s : State) → Same (lifted p c n f s) s
lifted_same p c n Fresh s = record { content = refl; queues = refl; index = refl }
lifted_same p c n Pool s = record { content = refl; queues = refl; index = refl }
lifted_same p c n Withdrawn s = record { content = refl; queues = refl; index = refl }

-- whose item a chunk holds

touched_key : (k : List ℕ) (v : Touched) (o : Option PlainItem) → has_key k (option_map (touched v) o) ≡ has_key k o
touched_key k v None = refl
touched_key k v (Some i) = refl

retouched_key : (k : List ℕ) (s : State) (y : ChunkRef) (v : Touched) (x : ChunkRef) → has_key k (map.get (put_at s.content y (option_map (touched v) (item_at s y))) x) ≡ has_key k (item_at s x)
retouched_key k s y v x = ap (has_key k) (get_put s y (option_map (touched v) (item_at s y)) x) ∙ elim (cases_Bool (same_chunk x y)) as (λ _. has_key k (cond (same_chunk x y) (option_map (touched v) (item_at s y)) (item_at s x)) ≡ has_key k (item_at s x)) [
  | inl e ↦ rw e (touched_key k v (item_at s y) ∙ ap (λ z. has_key k (item_at s z)) (sym (tells_chunk.exact x y e)))
  | inr e ↦ rw e refl
]

key_cond : (k : List ℕ) (b : Bool) (o p : Option PlainItem) → has_key k (cond b o p) ≡ cond b (has_key k o) (has_key k p)
key_cond k true o p = refl
key_cond k false o p = refl

pub shifted_key : (k : List ℕ) (a b : ChunkRef) (s : State) (x : ChunkRef) → has_key k (item_at (shifted a b s) x) ≡ cond (same_chunk x b) (has_key k (item_at s a)) (cond (same_chunk x a) false (has_key k (item_at s x)))
shifted_key k a b s x =
    ap (has_key k) (get_put (record s { content = put_at s.content a None }) b (item_at s a) x)
    ∙ key_cond k (same_chunk x b) (item_at s a) (map.get (put_at s.content a None) x)
    ∙ ap (λ o. cond (same_chunk x b) (has_key k (item_at s a)) (has_key k o)) (get_put s a None x)
    ∙ ap (λ v. cond (same_chunk x b) (has_key k (item_at s a)) v) (key_cond k (same_chunk x a) None (item_at s x))

find_rebound : (k : List ℕ) (b : ChunkRef) (o : Option PlainItem) (m : Keys) → map.get (rebound b o m) k ≡ cond (has_key k o) (Some b) (map.get m k)
find_rebound k b None m = refl
find_rebound k b (Some i) m = get-put_at nat_list_cmp_total (map.slice_cmp-IsAntisymmetric map.nat_cmp-IsAntisymmetric) m i.key (Some b) k

pub shifted_find : (k : List ℕ) (a b : ChunkRef) (s : State) → find (shifted a b s) k ≡ cond (has_key k (item_at s a)) (Some b) (find s k)
shifted_find k a b s = find_rebound k b (item_at s a) s.index

-- the index and the items before the moves agree about the key
abbrev pub Agrees : List ℕ → Option ChunkRef → State → Type 0
Agrees k home t = (x : ChunkRef) → has_key k (item_at t x) ≡ is_chunk home x

pub keyed-is : (k : List ℕ) (home : Option ChunkRef) (ms : List Move) (t : State) → Agrees k home t → (x : ChunkRef) → has_key k (item_at (turned ms t).0 x) ≡ keyed k home ms x
keyed-is k home [] t a x = a x
keyed-is k home (Fills y o ∷ ms) t a x =
    ap (has_key k) (get_put (turned ms t).0 y o x) ∙ elim (cases_Bool (same_chunk x y)) as (λ _. has_key k (cond (same_chunk x y) o (item_at (turned ms t).0 x)) ≡ cond (same_chunk x y) (has_key k o) (keyed k home ms x)) [
      | inl e ↦ rw e refl
      | inr e ↦ rw e (keyed-is k home ms t a x)
    ]
keyed-is k home (Shifts y z ∷ ms) t a x =
    shifted_key k y z (turned ms t).0 x
    ∙ ap (λ v. cond (same_chunk x z) v (cond (same_chunk x y) false (has_key k (item_at (turned ms t).0 x)))) (keyed-is k home ms t a y)
    ∙ ap (λ v. cond (same_chunk x z) (keyed k home ms y) (cond (same_chunk x y) false v)) (keyed-is k home ms t a x)
keyed-is k home (Touches y v ∷ ms) t a x = retouched_key k (turned ms t).0 y v x ∙ keyed-is k home ms t a x
keyed-is k home (Binds y ∷ ms) t a x = ap (λ m. has_key k (map.get m x)) (bound_content y (item_at (turned ms t).0 y) (turned ms t).0) ∙ keyed-is k home ms t a x
keyed-is k home (Unbinds y ∷ ms) t a x = ap (λ m. has_key k (map.get m x)) (unbound_content (item_at (turned ms t).0 y) (turned ms t).0) ∙ keyed-is k home ms t a x
keyed-is k home (Lays p c n f ∷ ms) t a x = ap (λ m. has_key k (map.get m x)) (laid_same p c n f (turned ms t).0).content ∙ keyed-is k home ms t a x
keyed-is k home (Lifts p f ∷ ms) t a x = ap (λ m. has_key k (map.get m x)) (lifted_same p (owner_of (turned ms t).0 p) (per_page (turned ms t).0.fixed (owner_of (turned ms t).0 p)) f (turned ms t).0).content ∙ keyed-is k home ms t a x
keyed-is k home (Takes (InFree c y) ∷ ms) t a x = keyed-is k home ms t a x
keyed-is k home (Takes (InQueue c q e) ∷ ms) t a x = keyed-is k home ms t a x
keyed-is k home (Puts (ToFree c y b) ∷ ms) t a x = keyed-is k home ms t a x
keyed-is k home (Puts (ToQueue c q e b) ∷ ms) t a x = keyed-is k home ms t a x
keyed-is k home (Counts c j v ∷ ms) t a x = keyed-is k home ms t a x
keyed-is k home (Sets g ∷ ms) t a x = keyed-is k home ms t a x
keyed-is k home (BumpsIn b ∷ ms) t a x = keyed-is k home ms t a x
keyed-is k home (BumpsBack ∷ ms) t a x = keyed-is k home ms t a x
keyed-is k home (BumpsOut ∷ ms) t a x = keyed-is k home ms t a x
keyed-is k home (BumpsFront b ∷ ms) t a x = keyed-is k home ms t a x
keyed-is k home (MarksIn set ∷ ms) t a x = keyed-is k home ms t a x
keyed-is k home (MarksOut set ∷ ms) t a x = keyed-is k home ms t a x

-- where the index leads

find_bound : (k : List ℕ) (x : ChunkRef) (o : Option PlainItem) (s : State) → find (bound x o s) k ≡ cond (has_key k o) (Some x) (find s k)
find_bound k x None s = refl
find_bound k x (Some i) s = get-put_at nat_list_cmp_total (map.slice_cmp-IsAntisymmetric map.nat_cmp-IsAntisymmetric) s.index i.key (Some x) k

find_unbound : (k : List ℕ) (o : Option PlainItem) (s : State) → find (unbound o s) k ≡ cond (has_key k o) None (find s k)
find_unbound k None s = refl
find_unbound k (Some i) s = get-put_at nat_list_cmp_total (map.slice_cmp-IsAntisymmetric map.nat_cmp-IsAntisymmetric) s.index i.key None k

leads_cond : (home : Option ChunkRef) (b : Bool) (u : KeyChange) (o : Option KeyChange) → leads_or home (cond b (Some u) o) ≡ cond b u.leads (leads_or home o)
leads_cond home true u o = refl
leads_cond home false u o = refl

shift_leads : (z : ChunkRef) (o : Option KeyChange) → (shift_change z o).leads ≡ Some z
shift_leads z None = refl
shift_leads z (Some t) = refl

pub home-is : (k : List ℕ) (home : Option ChunkRef) (ms : List Move) (ns : List (Option Cause)) (t : State) → Agrees k home t → find t k ≡ home → find (turned ms t).0 k ≡ leads_or home (key_change k home ms ns)
home-is k home [] ns t a h = h
home-is k home (Binds y ∷ ms) ns t a h =
    find_bound k y (item_at (turned ms t).0 y) (turned ms t).0
    ∙ ap (λ b. cond b (Some y) (find (turned ms t).0 k)) (keyed-is k home ms t a y)
    ∙ ap (λ o. cond (keyed k home ms y) (Some y) o) (home-is k home ms (more_notes ns) t a h)
    ∙ sym (leads_cond home (keyed k home ms y) (record { leads = Some y; note = first_note ns }) (key_change k home ms (more_notes ns)))
home-is k home (Unbinds y ∷ ms) ns t a h =
    find_unbound k (item_at (turned ms t).0 y) (turned ms t).0
    ∙ ap (λ b. cond b None (find (turned ms t).0 k)) (keyed-is k home ms t a y)
    ∙ ap (λ o. cond (keyed k home ms y) None o) (home-is k home ms (more_notes ns) t a h)
    ∙ sym (leads_cond home (keyed k home ms y) (record { leads = None; note = first_note ns }) (key_change k home ms (more_notes ns)))
home-is k home (Shifts y z ∷ ms) ns t a h =
    shifted_find k y z (turned ms t).0
    ∙ ap (λ b. cond b (Some z) (find (turned ms t).0 k)) (keyed-is k home ms t a y)
    ∙ ap (λ o. cond (keyed k home ms y) (Some z) o) (home-is k home ms (more_notes ns) t a h)
    ∙ ap (λ l. cond (keyed k home ms y) l (leads_or home (key_change k home ms (more_notes ns)))) (sym (shift_leads z (key_change k home ms (more_notes ns))))
    ∙ sym (leads_cond home (keyed k home ms y) (shift_change z (key_change k home ms (more_notes ns))) (key_change k home ms (more_notes ns)))
home-is k home (Lays p c n f ∷ ms) ns t a h = ap (λ m. map.get m k) (laid_same p c n f (turned ms t).0).index ∙ home-is k home ms (more_notes ns) t a h
home-is k home (Lifts p f ∷ ms) ns t a h = ap (λ m. map.get m k) (lifted_same p (owner_of (turned ms t).0 p) (per_page (turned ms t).0.fixed (owner_of (turned ms t).0 p)) f (turned ms t).0).index ∙ home-is k home ms (more_notes ns) t a h
home-is k home (Fills y o ∷ ms) ns t a h = home-is k home ms (more_notes ns) t a h
home-is k home (Touches y v ∷ ms) ns t a h = home-is k home ms (more_notes ns) t a h
home-is k home (Takes (InFree c y) ∷ ms) ns t a h = home-is k home ms (more_notes ns) t a h
home-is k home (Takes (InQueue c q e) ∷ ms) ns t a h = home-is k home ms (more_notes ns) t a h
home-is k home (Puts (ToFree c y b) ∷ ms) ns t a h = home-is k home ms (more_notes ns) t a h
home-is k home (Puts (ToQueue c q e b) ∷ ms) ns t a h = home-is k home ms (more_notes ns) t a h
home-is k home (Counts c j v ∷ ms) ns t a h = home-is k home ms (more_notes ns) t a h
home-is k home (Sets g ∷ ms) ns t a h = home-is k home ms (more_notes ns) t a h
home-is k home (BumpsIn b ∷ ms) ns t a h = home-is k home ms (more_notes ns) t a h
home-is k home (BumpsBack ∷ ms) ns t a h = home-is k home ms (more_notes ns) t a h
home-is k home (BumpsOut ∷ ms) ns t a h = home-is k home ms (more_notes ns) t a h
home-is k home (BumpsFront b ∷ ms) ns t a h = home-is k home ms (more_notes ns) t a h
home-is k home (MarksIn set ∷ ms) ns t a h = home-is k home ms (more_notes ns) t a h
home-is k home (MarksOut set ∷ ms) ns t a h = home-is k home ms (more_notes ns) t a h

-- which queue a chunk stands in

module _ {X : Type 0} (same : X → X → Bool) (tells : Tells same) where
  moves_over : (x y z : X) → same x z ≡ true → same y x ≡ false → same y z ≡ false
  moves_over x y z e d = subst (λ v. same y v ≡ false) (tells.exact x z e) d

  pub has-without_other : (x y : X) (ys : List X) → same y x ≡ false → has same y (without same x ys) ≡ has same y ys
  has-without_other x y [] d = refl
  has-without_other x y (z ∷ zs) d = elim (cases_Bool (same x z)) [
    | inl e ↦ rw (e, moves_over x y z e d) refl
    | inr e ↦ rw e (ap (λ b. cond (same y z) true b) (has-without_other x y zs d))
  ]

  has-behind_other : (x y v : X) (ys : List X) → same y x ≡ false → has same y (behind same v x ys) ≡ has same y ys
  has-behind_other x y v [] d = rw d refl
  has-behind_other x y v (z ∷ zs) d = elim (cases_Bool (same v z)) [
    | inl e ↦ rw (e, d) refl
    | inr e ↦ rw e (ap (λ b. cond (same y z) true b) (has-behind_other x y v zs d))
  ]

  pub has-insert_other : (x y : X) (a : Option X) (ys : List X) → same y x ≡ false → has same y (insert same x a ys) ≡ has same y ys
  has-insert_other x y None ys d = rw d refl
  has-insert_other x y (Some v) ys d = has-behind_other x y v ys d

-- the entry stands in the same places, where one list of a table changes
kept_at : (table : List (List Entry)) (n : ℕ) (l : List Entry) (e : Entry) (p : ℕ) → n < length table → has same_entry e l ≡ has same_entry e (slice_index_or table n []) → has same_entry e (slice_index_or (slice_set table n l) p []) ≡ has same_entry e (slice_index_or table p [])
kept_at table n l e p lt h = elim (cases_eq p n) [
  | inl q ↦ subst (λ j. has same_entry e (slice_index_or (slice_set table n l) j []) ≡ has same_entry e (slice_index_or table j [])) (sym q) (ap (has same_entry e) (get_or-set_same table n l [] lt) ∙ h)
  | inr q ↦ ap (has same_entry e) (get_or-set_other table n p l [] q)
]

abbrev pub sits : Option ClassQueue → ℕ → Bool
sits None p = false
sits (Some w) p = p == queue_place w.class w.queue

-- the chunk stands in this queue, and in no other
abbrev pub Sits : State → ChunkRef → Option ClassQueue → Type 0
Sits s x o = (p : ℕ) → has same_entry (Chunk x) (slice_index_or s.queues p []) ≡ sits o p

pub nowhere : (s : State) (x : ChunkRef) → stands s x ≡ 0 → Sits s x None
nowhere s x none p = has-count same_entry tells_entry (Chunk x) (slice_index_or s.queues p []) (omega (arith, none, count_in_table same_entry tells_entry (Chunk x) s.queues p))

other_entry : (x y z : Entry) → same_entry x z ≡ true → same_entry y x ≡ false → same_entry y z ≡ false
other_entry x y z e d = subst (λ v. same_entry y v ≡ false) (tells_entry.exact x z e) d

has-exchanged : (a b x : Entry) (es : List Entry) → same_entry x a ≡ false → same_entry x b ≡ false → has same_entry x (exchanged a b es) ≡ has same_entry x es
has-exchanged a b x [] d f = refl
has-exchanged a b x (e ∷ es) d f = elim (cases_Bool (same_entry a e)) [
  | inl g ↦ rw (g, f, other_entry a x e g d) (has-exchanged a b x es d f)
  | inr g ↦ rw g (ap (λ v. cond (same_entry x e) true v) (has-exchanged a b x es d f))
]

enters-exchanged : (a b : Entry) (es : List Entry) → has same_entry b es ≡ false → has same_entry b (exchanged a b es) ≡ has same_entry a es
enters-exchanged a b [] gone = refl
enters-exchanged a b (e ∷ es) gone = elim (cases_Bool (same_entry a e)) [
  | inl g ↦ rw (g, tells_entry.self b) refl
  | inr g ↦ elim (cases_Bool (same_entry b e)) [
    | inl f ↦ absurd (true≢false (rw f at gone))
    | inr f ↦ rw (g, f) (enters-exchanged a b es (rw f at gone))
  ]
]

pub shifted_to : (a b : ChunkRef) (s : State) (o : Option ClassQueue) → stands s b ≡ 0 → Sits s a o → Sits (shifted a b s) b o
shifted_to a b s o none at p =
    ap (has same_entry (Chunk b)) (at_map (exchanged (Chunk a) (Chunk b)) refl s.queues p)
    ∙ enters-exchanged (Chunk a) (Chunk b) (slice_index_or s.queues p []) (nowhere s b none p) ∙ at p

pub shifted_from : (a b : ChunkRef) (s : State) → same_chunk a b ≡ false → Sits (shifted a b s) a None
shifted_from a b s d p =
    ap (has same_entry (Chunk a)) (at_map (exchanged (Chunk a) (Chunk b)) refl s.queues p)
    ∙ lacks-exchanged (Chunk a) (Chunk b) (slice_index_or s.queues p []) d

pub shifted_other : (a b x : ChunkRef) (s : State) (o : Option ClassQueue) → same_chunk x a ≡ false → same_chunk x b ≡ false → Sits s x o → Sits (shifted a b s) x o
shifted_other a b x s o d f at p =
    ap (has same_entry (Chunk x)) (at_map (exchanged (Chunk a) (Chunk b)) refl s.queues p)
    ∙ has-exchanged (Chunk a) (Chunk b) (Chunk x) (slice_index_or s.queues p []) d f ∙ at p

taken : (s : State) → WellFormed s → (c : ℕ) (q : Queue) (x : ChunkRef) → Ready (Takes (InQueue c q (Chunk x))) s → Sits (moved (Takes (InQueue c q (Chunk x))) s) x None
taken s well c q x r = nowhere (moved (Takes (InQueue c q (Chunk x))) s) x (entered s well c q (Chunk x) r.0 r.1)

put_there : (s : State) (c : ℕ) (q : Queue) (x : ChunkRef) (a : Option Entry) → Ready (Puts (ToQueue c q (Chunk x) a)) s → Sits (moved (Puts (ToQueue c q (Chunk x) a)) s) x (Some (record { class = c; queue = q }))
put_there s c q x a r p =
    let n = queue_place c q in
    let l = insert same_entry (Chunk x) a (queue_of s c q) in
    elim (cases_eq p (queue_place c q)) [
      | inl e ↦ subst (λ j. has same_entry (Chunk x) (slice_index_or (slice_set s.queues (queue_place c q) (insert same_entry (Chunk x) a (queue_of s c q))) j []) ≡ (j == queue_place c q)) (sym e)
          (ap (has same_entry (Chunk x)) (get_or-set_same s.queues n l [] r.0) ∙ has-insert same_entry tells_entry (Chunk x) a (queue_of s c q) ∙ sym (eq-eqb n n refl))
      | inr e ↦ ap (has same_entry (Chunk x)) (get_or-set_other s.queues n p l [] e) ∙ nowhere s x r.1 p ∙ sym (ne_eqb p n e)
    ]

-- marks change the place of no chunk
has_push : (x : ChunkRef) (l : List Entry) → has same_entry (Chunk x) (l ++ Mark ∷ []) ≡ has same_entry (Chunk x) l
has_push x [] = refl
has_push x (e ∷ es) = elim (cases_Bool (same_entry (Chunk x) e)) [ inl h ↦ rw h refl | inr h ↦ rw h (has_push x es) ]

marked_has : (named : ℕ → Bool) (n : ℕ) (ls : List (List Entry)) (x : ChunkRef) (p : ℕ) → has same_entry (Chunk x) (slice_index_or (marked named n ls) p []) ≡ has same_entry (Chunk x) (slice_index_or ls p [])
marked_has named n [] x p = refl
marked_has named n (l ∷ ls) x zero = elim (cases_Bool (named (n / 4))) [ inl h ↦ rw h (has_push x l) | inr h ↦ rw h refl ]
marked_has named n (l ∷ ls) x (suc p) = marked_has named (suc n) ls x p

unmarked_has : (named : ℕ → Bool) (n : ℕ) (ls : List (List Entry)) (x : ChunkRef) (p : ℕ) → EndMarks named n ls → has same_entry (Chunk x) (slice_index_or (unmarked named n ls) p []) ≡ has same_entry (Chunk x) (slice_index_or ls p [])
unmarked_has named n [] x p h = refl
unmarked_has named n (l ∷ ls) x zero h = elim (cases_Bool (named (n / 4))) [ inl e ↦ rw e (sym (has_push x (front l)) ∙ ap (has same_entry (Chunk x)) (h.0 e)) | inr e ↦ rw e refl ]
unmarked_has named n (l ∷ ls) x (suc p) h = unmarked_has named (suc n) ls x p h.1

-- the queue of the key's chunk before the moves
abbrev pub Starts : Option ChunkRef → Option ClassQueue → State → Type 0
Starts home lru t = (x : ChunkRef) → is_chunk home x ≡ true → Sits t x lru

seat_start : (home : Option ChunkRef) (lru : Option ClassQueue) (t : State) (x : ChunkRef) → Starts home lru t → is_chunk home x ≡ true → Sits t x (cond (is_chunk home x) lru None)
seat_start home lru t x a e = rw e (a x e)

pub lru-is : (k : List ℕ) (home : Option ChunkRef) (lru : Option ClassQueue) (ms : List Move) (t : State) → WellFormed t → Fits ms t → Starts home lru t → (x : ChunkRef) → keyed k home ms x ≡ true → Sits (turned ms t).0 x (class_queue_before home lru ms x)
lru-is k home lru [] t well f a x h = seat_start home lru t x a h
lru-is k home lru (Takes (InQueue c q (Chunk y)) ∷ ms) t well f a x h = elim (cases_Bool (same_chunk x y)) [
  | inl e ↦ rw e (subst (λ v. Sits (moved (Takes (InQueue c q (Chunk y))) (turned ms t).0) v None) (sym (tells_chunk.exact x y e)) (taken (turned ms t).0 (turned_well ms t well f.0) c q y f.1.ready))
  | inr e ↦ rw e (λ p. kept_at (turned ms t).0.queues (queue_place c q) (without same_entry (Chunk y) (queue_of (turned ms t).0 c q)) (Chunk x) p f.1.ready.0 (has-without_other same_entry tells_entry (Chunk y) (Chunk x) (queue_of (turned ms t).0 c q) e) ∙ lru-is k home lru ms t well f.0 a x h p)
]
lru-is k home lru (Takes (InQueue c q Mark) ∷ ms) t well f a x h = λ p. kept_at (turned ms t).0.queues (queue_place c q) (without same_entry Mark (queue_of (turned ms t).0 c q)) (Chunk x) p f.1.ready.0 (has-without_other same_entry tells_entry Mark (Chunk x) (queue_of (turned ms t).0 c q) refl) ∙ lru-is k home lru ms t well f.0 a x h p
lru-is k home lru (Puts (ToQueue c q (Chunk y) b) ∷ ms) t well f a x h = elim (cases_Bool (same_chunk x y)) [
  | inl e ↦ rw e (subst (λ v. Sits (moved (Puts (ToQueue c q (Chunk y) b)) (turned ms t).0) v (Some (record { class = c; queue = q }))) (sym (tells_chunk.exact x y e)) (put_there (turned ms t).0 c q y b f.1.ready))
  | inr e ↦ rw e (λ p. kept_at (turned ms t).0.queues (queue_place c q) (insert same_entry (Chunk y) b (queue_of (turned ms t).0 c q)) (Chunk x) p f.1.ready.0 (has-insert_other same_entry tells_entry (Chunk y) (Chunk x) b (queue_of (turned ms t).0 c q) e) ∙ lru-is k home lru ms t well f.0 a x h p)
]
lru-is k home lru (Puts (ToQueue c q Mark b) ∷ ms) t well f a x h = λ p. kept_at (turned ms t).0.queues (queue_place c q) (insert same_entry Mark b (queue_of (turned ms t).0 c q)) (Chunk x) p f.1.ready.0 (has-insert_other same_entry tells_entry Mark (Chunk x) b (queue_of (turned ms t).0 c q) refl) ∙ lru-is k home lru ms t well f.0 a x h p
lru-is k home lru (Fills y o ∷ ms) t well f a x h = elim (cases_Bool (same_chunk x y)) [
  | inl e ↦ rw e (subst (λ v. Sits (turned ms t).0 v None) (sym (tells_chunk.exact x y e)) (nowhere (turned ms t).0 y f.1.ready.1))
  | inr e ↦ rw e (lru-is k home lru ms t well f.0 a x (rw e at h))
]
lru-is k home lru (Shifts y z ∷ ms) t well f a x h = elim (cases_Bool (same_chunk x z)) [
  | inl e ↦ rw e (subst (λ v. Sits (shifted y z (turned ms t).0) v (class_queue_before home lru ms y)) (sym (tells_chunk.exact x z e)) (shifted_to y z (turned ms t).0 (class_queue_before home lru ms y) f.1.ready.4 (lru-is k home lru ms t well f.0 a y (rw e at h))))
  | inr e ↦ elim (cases_Bool (same_chunk x y)) [
    | inl g ↦ absurd (false≢true (rw (e, g) at h))
    | inr g ↦ rw (e, g) (shifted_other y z x (turned ms t).0 (class_queue_before home lru ms x) g e (lru-is k home lru ms t well f.0 a x (rw (e, g) at h)))
  ]
]
lru-is k home lru (Binds y ∷ ms) t well f a x h = λ p. ap (λ l. has same_entry (Chunk x) (slice_index_or l p [])) (bound_queues y (item_at (turned ms t).0 y) (turned ms t).0) ∙ lru-is k home lru ms t well f.0 a x h p
lru-is k home lru (Unbinds y ∷ ms) t well f a x h = λ p. ap (λ l. has same_entry (Chunk x) (slice_index_or l p [])) (unbound_queues (item_at (turned ms t).0 y) (turned ms t).0) ∙ lru-is k home lru ms t well f.0 a x h p
lru-is k home lru (Lays r c n g ∷ ms) t well f a x h = λ p. ap (λ l. has same_entry (Chunk x) (slice_index_or l p [])) (laid_same r c n g (turned ms t).0).queues ∙ lru-is k home lru ms t well f.0 a x h p
lru-is k home lru (Lifts r g ∷ ms) t well f a x h = λ p. ap (λ l. has same_entry (Chunk x) (slice_index_or l p [])) (lifted_same r (owner_of (turned ms t).0 r) (per_page (turned ms t).0.fixed (owner_of (turned ms t).0 r)) g (turned ms t).0).queues ∙ lru-is k home lru ms t well f.0 a x h p
lru-is k home lru (Takes (InFree c y) ∷ ms) t well f a x h = lru-is k home lru ms t well f.0 a x h
lru-is k home lru (Puts (ToFree c y b) ∷ ms) t well f a x h = lru-is k home lru ms t well f.0 a x h
lru-is k home lru (Touches y v ∷ ms) t well f a x h = lru-is k home lru ms t well f.0 a x h
lru-is k home lru (Counts c j v ∷ ms) t well f a x h = lru-is k home lru ms t well f.0 a x h
lru-is k home lru (Sets g ∷ ms) t well f a x h = lru-is k home lru ms t well f.0 a x h
lru-is k home lru (BumpsIn b ∷ ms) t well f a x h = lru-is k home lru ms t well f.0 a x h
lru-is k home lru (BumpsBack ∷ ms) t well f a x h = lru-is k home lru ms t well f.0 a x h
lru-is k home lru (BumpsOut ∷ ms) t well f a x h = lru-is k home lru ms t well f.0 a x h
lru-is k home lru (BumpsFront b ∷ ms) t well f a x h = lru-is k home lru ms t well f.0 a x h
lru-is k home lru (MarksIn set ∷ ms) t well f a x h = λ p. marked_has (names (turned ms t).0 set) 0 (turned ms t).0.queues x p ∙ lru-is k home lru ms t well f.0 a x h p
lru-is k home lru (MarksOut set ∷ ms) t well f a x h = λ p. unmarked_has (names (turned ms t).0 set) 0 (turned ms t).0.queues x p f.1.ready.1 ∙ lru-is k home lru ms t well f.0 a x h p
