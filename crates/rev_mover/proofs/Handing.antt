-- The page is given away once its slots are done.
use Rattle.std.specs.Prelude.{ℕ, ◌≡◌, ◌+◌, ◌<◌, ◌≤◌, Bool, true, false, cond, nat_eq, nat_lt, List, [], ◌∷◌, ◌++◌, None, Some, is_some, length, slice_index, slice_index_or, slice_set, zero, suc, refl}
use Rattle.std.proofs.Common.{sym, ◌∙◌, ap, subst, arith, inl, inr, eqb-true, eq-eqb}
use Rattle.std.proofs.lemmas.Bool.{cases_Bool, cases_eq, false≢true, true≢false, and_parts, and_from, lt-ltb}
use Rattle.std.proofs.lemmas.List.{get_or-set_same, get_or-set_other, length-set, set-set}
use Rattle.rev_model.specs.Chunk.{same_chunk, same_entry}
use Rattle.rev_model.specs.Lists.{has}
use Rattle.rev_model.specs.State.{State, Fixed, WellFormed, IsChunkOf, free_of, owner_of, item_at, per_page, stands}
use Rattle.rev_model.specs.Move.{Lays, Lifts, Ready, Possible, falling, laid, HoldsNoItem}
use Rattle.rev_model.proofs.Undo.{sum_none, free_lacks, in_no_queue}
use Rattle.rev_model.specs.Actor.{owned_pages, handed}
use Rattle.rev_model.specs.Sound.{Sound, EachPlaced, MoverSound, owning, is_withdrawn}
use Rattle.rev_model.proofs.Keeps.{keeps-sets}
use Rattle.rev_model.specs.declared.GlobalPart.TheVariants as part
use Rattle.rev_model.proofs.Laying.{GetsOne, gets, gets_one, keeps-lay, carved_sound}
use Rattle.rev_model.specs.declared.ChunkRef.{ChunkRef}
use Rattle.rev_model.specs.declared.Entry.TheVariants.{Chunk}
use Rattle.rev_model.specs.declared.Form.TheVariants.{Pool, Withdrawn}
use Rattle.rev_model.specs.declared.Mover.{Mover}
use Rattle.rev_mover.specs.Moving.{pooled}

-- no chunk of the page has an item or stands in a list
record IsEmpty (s : State) (p : ℕ) : Type 0 where
  items : HoldsNoItem s p
  nowhere : (x : ChunkRef) → x.page ≡ p → stands s x ≡ 0

-- ---- a page of which nothing is left

module _ (s : State) (sound : Sound s) (m : Mover) (is : s.globals.mover ≡ Some m) (done : m.slot ≡ per_page s.fixed m.src) where
  mover : MoverSound s.fixed s.owner (Some m)
  mover = subst (MoverSound s.fixed s.owner) is sound.kept.mover

  placed : EachPlaced s.fixed s.owner s.free s.queues (Some m) None
  placed = subst (λ o. EachPlaced s.fixed s.owner s.free s.queues o None) is sound.placed

  -- each chunk of the page is withdrawn
  withdrawn : (x : ChunkRef) → x.page ≡ m.page → IsChunkOf s.fixed s.owner (owner_of s x.page) x → stands s x ≡ 0
  withdrawn x e k =
      let owned : owner_of s x.page ≡ m.src = ap (slice_index s.owner) e ∙ mover.5 in
      let below : x.slot < m.slot = omega (arith, k.slot, ap (per_page s.fixed) owned, done) in
      let w : is_withdrawn (Some m) x ≡ true = and_from (nat_eq x.page m.page) (nat_lt x.slot m.slot) (eq-eqb _ _ e) (lt-ltb x.slot m.slot below) in
      let once : stands s x + (1 + 0) ≡ 1 = rw w at (placed.once x k) in
      omega (arith, once)

  free_none : (x : ChunkRef) → x.page ≡ m.page → (c : ℕ) → has same_chunk x (slice_index_or s.free c []) ≡ false
  free_none x e c = elim (cases_Bool (has same_chunk x (slice_index_or s.free c []))) [
    | inl h ↦
        let k = sound.well.lists.free_of_class c x h in
        let own : IsChunkOf s.fixed s.owner (owner_of s x.page) x = subst (λ d. IsChunkOf s.fixed s.owner d x) (sym k.owned) k in
        absurd (true≢false (sym h ∙ free_lacks s c x (withdrawn x e own)))
    | inr h ↦ h
  ]

  queue_none : (x : ChunkRef) → x.page ≡ m.page → (p : ℕ) → has same_entry (Chunk x) (slice_index_or s.queues p []) ≡ false
  queue_none x e p = elim (cases_Bool (has same_entry (Chunk x) (slice_index_or s.queues p []))) [
    | inl h ↦
        let own = (sound.well.filled.items x (sound.well.filled.queued_items p x h)).0 in
        absurd (true≢false (sym h ∙ in_no_queue s x (withdrawn x e own) p))
    | inr h ↦ h
  ]

  empty_page : IsEmpty s m.page
  empty_page = record {
    items = λ x e. elim (item_at s x) as (λ o. item_at s x ≡ o → o ≡ None) [
      | None ↦ λ h. refl
      | Some i ↦ λ h.
          let own = (sound.well.filled.items x (ap is_some h)).0 in
          absurd (omega (arith, withdrawn x e own, sound.filed.queued x i h))
    ] refl;
    nowhere = λ x e. omega (arith, sum_none same_chunk x s.free (free_none x e), sum_none same_entry (Chunk x) s.queues (queue_none x e));
  }

-- ---- the page goes to the pool

-- a chunk of another page is as before
other_chunk : (f : Fixed) (owner : List ℕ) (p c : ℕ) (x : ChunkRef) → (x.page ≡ p → ⊥) → IsChunkOf f owner c x → IsChunkOf f (slice_set owner p 0) c x
other_chunk f owner p c x ne h = record { class = h.class; page = rw (length-set owner p 0) h.page; owned = get_or-set_other owner p x.page 0 0 ne ∙ h.owned; slot = h.slot }

chunk_before : (f : Fixed) (owner : List ℕ) (p c : ℕ) (x : ChunkRef) → (x.page ≡ p → ⊥) → IsChunkOf f (slice_set owner p 0) c x → IsChunkOf f owner c x
chunk_before f owner p c x ne h = record { class = h.class; page = rw (length-set owner p 0) at h.page; owned = sym (get_or-set_other owner p x.page 0 0 ne) ∙ h.owned; slot = h.slot }

-- where nothing is left of a page, it may lose its owner
unowned_well : (s : State) → WellFormed s → (p : ℕ) → p < length s.owner → IsEmpty s p → WellFormed (record s { owner = slice_set s.owner p 0 })
unowned_well s well p lt empty =
    let next = slice_set s.owner p 0 in
    let with_item : (x : ChunkRef) → is_some (item_at s x) ≡ true → x.page ≡ p → ⊥ = λ x h e. false≢true (sym (ap is_some (empty.items x e)) ∙ h) in
    record {
      lists = record {
        free_length = well.lists.free_length;
        queues_length = well.lists.queues_length;
        free_of_class = λ c x h. other_chunk s.fixed s.owner p c x (λ e. true≢false (sym h ∙ free_lacks s c x (empty.nowhere x e))) (well.lists.free_of_class c x h);
        queued_of_class = λ c q x h. other_chunk s.fixed s.owner p c x (λ e. true≢false (sym h ∙ in_no_queue s x (empty.nowhere x e) _)) (well.lists.queued_of_class c q x h);
        once = well.lists.once;
        one_mark = well.lists.one_mark;
      };
      filled = record {
        queued_items = well.filled.queued_items;
        items = λ x h.
            let ne = with_item x h in
            let k = well.filled.items x h in
            (subst (λ c. IsChunkOf s.fixed (slice_set s.owner p 0) c x) (sym (get_or-set_other s.owner p x.page 0 0 ne)) (other_chunk s.fixed s.owner p (owner_of s x.page) x ne k.0), k.1);
      };
      index = well.index;
      owned = record {
        owners = λ q. elim (cases_eq q p) [
          | inl e ↦ let none : slice_index (slice_set s.owner p 0) q ≡ 0 = ap (slice_index (slice_set s.owner p 0)) e ∙ get_or-set_same s.owner p 0 0 lt in omega (arith, none)
          | inr ne ↦ omega (arith, get_or-set_other s.owner p q 0 0 ne, well.owned.owners q)
        ];
        pages = rw (length-set s.owner p 0) well.owned.pages;
      };
      bump = well.bump;
      counters = well.counters;
    }

-- the class that it left owns one less
owned_less : (k : ℕ) (owner : List ℕ) (p : ℕ) → p < length owner → 0 < k → owned_pages k (slice_set owner p 0) + cond (nat_eq (slice_index owner p) k) 1 0 ≡ owned_pages k owner
owned_less k [] p lt pos = absurd (omega (arith, lt))
owned_less k (d ∷ ds) zero lt pos =
    let ne : nat_eq 0 k ≡ false = elim (cases_Bool (nat_eq 0 k)) [ inl e ↦ absurd (omega (arith, eqb-true 0 k e, pos)) | inr e ↦ e ] in
    rw ne (omega arith)
owned_less k (d ∷ ds) (suc p) lt pos =
    let more : owned_pages k (slice_set ds p 0) + cond (nat_eq (slice_index ds p) k) 1 0 ≡ owned_pages k ds = owned_less k ds p (omega (arith, lt)) pos in
    omega (arith, more)

some_count : (a : ℕ) → 0 < a → cond {A = ℕ} (nat_lt 0 a) 1 0 ≡ 1
some_count a pos = ap (λ b. cond {A = ℕ} b 1 0) (lt-ltb 0 a pos)

-- but still some, so as many classes own a page
owning_same : (n : ℕ) (owner : List ℕ) (p c : ℕ) → p < length owner → slice_index owner p ≡ c → 2 ≤ owned_pages c owner → owning n (slice_set owner p 0) ≡ owning n owner
owning_same zero owner p c lt e two = refl
owning_same (suc n) owner p c lt e two =
    let more : owning n (slice_set owner p 0) ≡ owning n owner = owning_same n owner p c lt e two in
    let less = owned_less (suc n) owner p lt (omega arith) in
    elim (cases_Bool (nat_eq (slice_index owner p) (suc n))) [
      | inl f ↦
          let is : c ≡ suc n = sym e ∙ eqb-true _ _ f in
          let had : 2 ≤ owned_pages (suc n) owner = subst (λ k. 2 ≤ owned_pages k owner) is two in
          let has : owned_pages (suc n) (slice_set owner p 0) + 1 ≡ owned_pages (suc n) owner = rw f at less in
          omega (arith, more, some_count (owned_pages (suc n) owner) (omega (arith, had)), some_count (owned_pages (suc n) (slice_set owner p 0)) (omega (arith, had, has)))
      | inr f ↦
          let same : owned_pages (suc n) (slice_set owner p 0) ≡ owned_pages (suc n) owner = omega (arith, rw f at less) in
          let here : cond {A = ℕ} (nat_lt 0 (owned_pages (suc n) (slice_set owner p 0))) 1 0 ≡ cond {A = ℕ} (nat_lt 0 (owned_pages (suc n) owner)) 1 0 = ap (λ a. cond {A = ℕ} (nat_lt 0 a) 1 0) same in
          omega (arith, more, here)
    ]

module _ (s : State) (sound : Sound s) (m : Mover) (is : s.globals.mover ≡ Some m) (done : m.slot ≡ per_page s.fixed m.src) where
  pub lift_possible : Possible (Lifts m.page Withdrawn) s
  lift_possible =
      let h = mover s sound m is done in
      let empty = empty_page s sound m is done in
      record {
        ready = (h.4, omega (arith, h.0, h.5), omega (arith, h.1, h.5, sound.well.lists.free_length), empty.items);
        after = unowned_well s sound.well m.page h.4 empty;
      }

  pool_once : (x : ChunkRef) → IsChunkOf s.fixed (slice_set s.owner m.page 0) (slice_index (slice_set s.owner m.page 0) x.page) x → stands s x + (0 + 0) ≡ 1
  pool_once x k =
      let h = mover s sound m is done in
      let ne : x.page ≡ m.page → ⊥ = λ e. omega (arith, k.class, ap (slice_index (slice_set s.owner m.page 0)) e, get_or-set_same s.owner m.page 0 0 h.4) in
      let own : IsChunkOf s.fixed s.owner (owner_of s x.page) x = subst (λ c. IsChunkOf s.fixed s.owner c x) (get_or-set_other s.owner m.page x.page 0 0 ne) (chunk_before s.fixed s.owner m.page _ x ne k) in
      let off : is_withdrawn (Some m) x ≡ false = elim (cases_Bool (is_withdrawn (Some m) x)) [
        | inl w ↦ absurd (ne (eqb-true _ _ (and_parts (nat_eq x.page m.page) (nat_lt x.slot m.slot) w).0))
        | inr w ↦ w
      ] in
      rw off at ((placed s sound m is done).once x own)

  pub pooled_sound : Sound (pooled m s)
  pooled_sound =
      let h = mover s sound m is done in
      let empty = empty_page s sound m is done in
      let few = owning_same (length s.fixed.sizes) s.owner m.page m.src h.4 h.5 h.7 in
      record {
        well = (keeps-sets (record s { owner = slice_set s.owner m.page 0 }) (unowned_well s sound.well m.page h.4 empty) (part.Mover None)).after;
        placed = record { once = λ x k. pool_once x k };
        filed = record {
          queued = sound.filed.queued;
          keyed = sound.filed.keyed;
          class = λ x i e. sound.filed.class x i e ∙ ap Some (sym (get_or-set_other s.owner m.page x.page 0 0 (λ f. false≢true (sym (ap is_some (empty.items x f)) ∙ ap is_some e))));
        };
        kept = record { mover = tt; pages = omega (arith, few, length-set s.owner m.page 0, sound.kept.pages); settings = sound.kept.settings; table = sound.kept.table };
      }

-- ---- or to the class that asked for it

owning_more : (n : ℕ) (owner next : List ℕ) (c : ℕ) → GetsOne owner next c → owning n owner ≤ owning n next
owning_more zero owner next c g = omega arith
owning_more (suc n) owner next c g =
    let more : owning n owner ≤ owning n next = owning_more n owner next c g in
    let here = grows (owned_pages (suc n) owner) (owned_pages (suc n) next) (omega (arith, g.counts (suc n) (omega arith))) in
    omega (arith, more, here)
  where
    grows : (a b : ℕ) → a ≤ b → cond {A = ℕ} (nat_lt 0 a) 1 0 ≤ cond {A = ℕ} (nat_lt 0 b) 1 0
    grows zero b h = omega arith
    grows (suc a) b h = let m = some_count (suc a) (omega arith) in let n = some_count b (omega (arith, h)) in omega (arith, m, n)

module _ (s : State) (sound : Sound s) (m : Mover) (is : s.globals.mover ≡ Some m) (done : m.slot ≡ per_page s.fixed m.src) (some : 0 < m.dst) where
  lay_ready : Ready (Lays m.page m.dst (per_page s.fixed m.dst) Pool) (pooled m s)
  lay_ready =
      let h = mover s sound m is done in
      let empty = empty_page s sound m is done in
      ((rw (length-set s.owner m.page 0) h.4, get_or-set_same s.owner m.page 0 0 h.4), some, omega (arith, h.2, sound.well.lists.free_length), refl, empty.items)

  longest : length (slice_set (slice_set s.owner m.page 0) m.page m.dst) ≤ s.fixed.limit + 62
  longest = omega (arith, length-set (slice_set s.owner m.page 0) m.page m.dst, length-set s.owner m.page 0, sound.well.owned.pages)

  pub lay_possible : Possible (Lays m.page m.dst (per_page s.fixed m.dst) Pool) (pooled m s)
  lay_possible = keeps-lay (pooled m s) (pooled_sound s sound m is done).well m.page m.dst (per_page s.fixed m.dst) Pool lay_ready longest

  pub laid_sound : Sound (laid m.page m.dst (per_page s.fixed m.dst) Pool (pooled m s))
  laid_sound =
      let t = pooled m s in
      let r = lay_ready in
      let there = pooled_sound s sound m is done in
      let next = slice_set (slice_set s.owner m.page 0) m.page m.dst in
      let g = gets t m.page m.dst (per_page s.fixed m.dst) Pool r in
      let o = gets_one t m.page m.dst (per_page s.fixed m.dst) Pool r in
      let few : length (slice_set (slice_set s.owner m.page 0) m.page m.dst) ≤ s.fixed.limit + owning (length s.fixed.sizes) (slice_set (slice_set s.owner m.page 0) m.page m.dst) =
      omega (arith, length-set (slice_set s.owner m.page 0) m.page m.dst, owning_more (length s.fixed.sizes) t.owner next m.dst o, there.kept.pages) in
      carved_sound t there next m.page m.dst (per_page s.fixed m.dst) g o r.2 some refl few longest

-- what the step's rule says
pub handed_pool : (s : State) (m : Mover) → m.dst ≡ 0 → handed m s ≡ pooled m s
handed_pool s m e = rw e refl

pub handed_class : (s : State) (m : Mover) → 0 < m.dst → handed m s ≡ laid m.page m.dst (per_page s.fixed m.dst) Pool (pooled m s)
handed_class s m pos =
    let t = pooled m s in
    let ne : nat_eq m.dst 0 ≡ false = elim (cases_Bool (nat_eq m.dst 0)) [ inl e ↦ absurd (omega (arith, eqb-true m.dst 0 e, pos)) | inr e ↦ e ] in
    let set : slice_set s.owner m.page m.dst ≡ slice_set (slice_set s.owner m.page 0) m.page m.dst = sym (set-set s.owner m.page 0 m.dst) in
    second (nat_eq m.dst 0) ne _ _ ∙ ap (λ o. record t { owner = o; free = slice_set s.free m.dst (falling m.page (per_page s.fixed m.dst) ++ free_of s m.dst) }) set
  where
    second : (b : Bool) → b ≡ false → (x y : State) → cond b x y ≡ y
    second b e x y = ap (λ c. cond c x y) e
