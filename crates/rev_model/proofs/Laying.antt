-- A page that gets a class: the move is possible, and a sound store stays sound.
use Rattle.std.specs.Prelude.{◌||◌, ℕ, ◌≡◌, ◌+◌, ◌-◌, ◌<◌, ◌≤◌, ◌==◌, not, Bool, true, false, cond, List, [], ◌∷◌, ◌++◌, Option, None, Some, is_some, length, slice_index, slice_index_or, slice_set, nat_eq, nat_lt, zero, suc, refl, ◌⊎◌}
use Rattle.std.proofs.Common.{sym, ◌∙◌, ap, inl, inr, arith, subst, eqb-true, eq-eqb}
use Rattle.std.proofs.lemmas.Bool.{cases_Bool, false≢true, true≢false, cases_eq, cases_lt, lt-ltb, ltb-true, and_parts, and_from}
use Rattle.std.proofs.lemmas.List.{get_or-set_same, get_or-set_other, length-set}
use Rattle.std.proofs.lemmas.List.Sums.{sum_by-set}
use Rattle.std.specs.List.{sum_by, list_any}
use Rattle.rev_classes.proofs.Laws.{page-div-size}
use Rattle.rev_items.specs.Plain.{PlainItem}
use Rattle.rev_items.specs.Rules.{footprint_of}
use Rattle.rev_model.specs.Chunk.{same_chunk, same_entry}
use Rattle.rev_model.specs.Lists.{has, count}
use Rattle.rev_model.specs.State.{State, Fixed, WellFormed, IsChunkOf, free_of, owner_of, item_at, per_page, stands_in, stands}
use Rattle.rev_model.specs.Move.{Lays, Ready, Possible, falling, laid, HoldsNoItem}
use Rattle.rev_model.proofs.Undo.{sum_none, count_none}
use Rattle.rev_model.specs.Words.{class_of}
use Rattle.rev_model.specs.Pull.{page_from, lowest_page, owns_page, page_for, page_of}
use Rattle.rev_model.specs.Actor.{owned_pages}
use Rattle.rev_model.specs.Sound.{Sound, MoverSound, TableSound, owning, away, is_withdrawn}
use Rattle.rev_model.specs.declared.ChunkRef.{ChunkRef}
use Rattle.rev_model.specs.declared.Entry.TheVariants.{Chunk}
use Rattle.rev_model.specs.declared.Mover.{Mover}
use Rattle.rev_model.specs.declared.Form.{Form}
use Rattle.rev_model.specs.declared.Form.TheVariants.{Fresh, Pool, Withdrawn}

-- page p, which no class owned, is the class's now, and no other page's owner changed
pub record Gets (owner next : List ℕ) (p c : ℕ) : Type 0 where
  pub unowned : slice_index owner p ≡ 0
  pub there : p < length next
  pub owned : slice_index next p ≡ c
  pub others : (q : ℕ) → (q ≡ p → ⊥) → slice_index next q ≡ slice_index owner q
  pub longer : length owner ≤ length next

past_end : (owner : List ℕ) (p : ℕ) → length owner ≤ p → slice_index owner p ≡ 0
past_end [] p h = refl
past_end (c ∷ cs) zero h = absurd (omega (arith, h))
past_end (c ∷ cs) (suc p) h = past_end cs p (omega (arith, h))

push_at : (owner : List ℕ) (c : ℕ) → slice_index (owner ++ c ∷ []) (length owner) ≡ c
push_at [] c = refl
push_at (d ∷ ds) c = push_at ds c

push_other : (owner : List ℕ) (c q : ℕ) → (q ≡ length owner → ⊥) → slice_index (owner ++ c ∷ []) q ≡ slice_index owner q
push_other [] c zero h = absurd (h refl)
push_other [] c (suc q) h = refl
push_other (d ∷ ds) c zero h = refl
push_other (d ∷ ds) c (suc q) h = push_other ds c q (λ e. h (ap suc e))

push_length : (owner : List ℕ) (c : ℕ) → length (owner ++ c ∷ []) ≡ length owner + 1
push_length [] c = omega arith
push_length (d ∷ ds) c = let more : length (ds ++ c ∷ []) ≡ length ds + 1 = push_length ds c in omega (arith, more)

gets_fresh : (owner : List ℕ) (p c : ℕ) → p ≡ length owner → Gets owner (owner ++ c ∷ []) p c
gets_fresh owner p c e = record {
  unowned = past_end owner p (omega (arith, e));
  there = omega (arith, e, push_length owner c);
  owned = ap (slice_index (owner ++ c ∷ [])) e ∙ push_at owner c;
  others = λ q ne. push_other owner c q (λ f. ne (f ∙ sym e));
  longer = omega (arith, push_length owner c);
}

gets_set : (owner : List ℕ) (p c : ℕ) → p < length owner → slice_index owner p ≡ 0 → Gets owner (slice_set owner p c) p c
gets_set owner p c lt none = record {
  unowned = none;
  there = rw (length-set owner p c) lt;
  owned = get_or-set_same owner p c 0 lt;
  others = λ q ne. get_or-set_other owner p q c 0 ne;
  longer = omega (arith, length-set owner p c);
}

-- chunks of the pages that had an owner
kept_chunk : (f : Fixed) (owner next : List ℕ) (p c k : ℕ) (x : ChunkRef) → Gets owner next p c → IsChunkOf f owner k x → IsChunkOf f next k x
kept_chunk f owner next p c k x g h =
    let ne : x.page ≡ p → ⊥ = λ e. omega (arith, ap (slice_index owner) e, g.unowned, h.owned, h.class) in
    record { class = h.class; page = omega (arith, h.page, g.longer); owned = g.others x.page ne ∙ h.owned; slot = h.slot }

old_chunk : (f : Fixed) (owner next : List ℕ) (p c k : ℕ) (x : ChunkRef) → Gets owner next p c → (x.page ≡ p → ⊥) → (slice_index next x.page ≡ k) → 0 < k → x.slot < per_page f k → IsChunkOf f owner k x
old_chunk f owner next p c k x g ne e pos lt =
    let o : slice_index owner x.page ≡ k = sym (g.others x.page ne) ∙ e in
    record {
      class = pos;
      page = elim (cases_lt x.page (length owner)) [
        | inl h ↦ h
        | inr h ↦ absurd (omega (arith, o, pos, past_end owner x.page h))
      ];
      owned = o;
      slot = lt;
    }

-- the chunks of the page
falling_has : (p n : ℕ) (x : ChunkRef) → has same_chunk x (falling p n) ≡ true → (x.page ≡ p) × (x.slot < n)
falling_has p zero x h = absurd (false≢true h)
falling_has p (suc n) x h = elim (cases_Bool (same_chunk x (record { page = p; slot = n }))) [
  | inl e ↦
      let parts = and_parts (x.page == p) (x.slot == n) e in
      let slot : x.slot ≡ n = eqb-true _ _ parts.1 in
      (eqb-true _ _ parts.0, omega (arith, slot))
  | inr e ↦
      let more = falling_has p n x (rw e at h) in
      (more.0, omega (arith, more.1))
]

falling_lacks : (p n : ℕ) (x : ChunkRef) → (x.page ≡ p → ⊥) → has same_chunk x (falling p n) ≡ false
falling_lacks p n x ne = elim (cases_Bool (has same_chunk x (falling p n))) [ inl e ↦ absurd (ne (falling_has p n x e).0) | inr e ↦ e ]

falling_above : (p n m : ℕ) (x : ChunkRef) → n ≤ m → x.slot ≡ m → has same_chunk x (falling p n) ≡ false
falling_above p n m x le e = elim (cases_Bool (has same_chunk x (falling p n))) [ inl h ↦ absurd (omega (arith, (falling_has p n x h).1, e, le)) | inr h ↦ h ]

falling_once : (p n : ℕ) (x : ChunkRef) → x.page ≡ p → x.slot < n → count same_chunk x (falling p n) ≡ 1
falling_once p zero x e lt = absurd (omega (arith, lt))
falling_once p (suc n) x e lt = elim (cases_Bool (same_chunk x (record { page = p; slot = n }))) [
  | inl f ↦
      let slot : x.slot ≡ n = eqb-true _ _ (and_parts (x.page == p) (x.slot == n) f).1 in
      let none : count same_chunk x (falling p n) ≡ 0 = count_none same_chunk x (falling p n) (falling_above p n n x (omega arith) slot) in
      rw f (omega (arith, none))
  | inr f ↦
      let ne : x.slot ≡ n → ⊥ = λ s. false≢true (sym f ∙ and_from (x.page == p) (x.slot == n) (eq-eqb _ _ e) (eq-eqb _ _ s)) in
      let below : x.slot < n = omega (arith, lt, ne) in
      let more : count same_chunk x (falling p n) ≡ 1 = falling_once p n x e below in
      rw f (omega (arith, more))
]

falling_count : (p n : ℕ) (x : ChunkRef) → (x.page ≡ p → ⊥) → count same_chunk x (falling p n) ≡ 0
falling_count p n x ne = count_none same_chunk x (falling p n) (falling_lacks p n x ne)

falling_few : (p n : ℕ) (x : ChunkRef) → count same_chunk x (falling p n) ≤ 1
falling_few p n x = elim (cases_Bool (has same_chunk x (falling p n))) [
  | inl e ↦ let h = falling_has p n x e in omega (arith, falling_once p n x h.0 h.1)
  | inr e ↦ omega (arith, count_none same_chunk x (falling p n) e)
]

module _ {X : Type 0} (same : X → X → Bool) where
  count-append : (x : X) (xs ys : List X) → count same x (xs ++ ys) ≡ count same x xs + count same x ys
  count-append x [] ys = omega arith
  count-append x (z ∷ zs) ys = let more : count same x (zs ++ ys) ≡ count same x zs + count same x ys = count-append x zs ys in omega (arith, more)

  has-append : (x : X) (xs ys : List X) → has same x (xs ++ ys) ≡ true → (has same x xs ≡ true) ⊎ (has same x ys ≡ true)
  has-append x [] ys h = inr h
  has-append x (z ∷ zs) ys h = elim (cases_Bool (same x z)) [
    | inl e ↦ inl (rw e refl)
    | inr e ↦ elim (has-append x zs ys (rw e at h)) [ inl f ↦ inl (rw e f) | inr f ↦ inr f ]
  ]

-- no chunk of a page without an owner stands anywhere
nowhere : (s : State) → WellFormed s → (x : ChunkRef) → owner_of s x.page ≡ 0 → stands s x ≡ 0
nowhere s well x none =
    let free : sum_by (count same_chunk x) s.free ≡ 0 = sum_none same_chunk x s.free (λ c. elim (cases_Bool (has same_chunk x (slice_index_or s.free c []))) [
      | inl h ↦ let k = well.lists.free_of_class c x h in absurd (omega (arith, k.class, k.owned, none))
      | inr h ↦ h
    ]) in
    let queues : sum_by (count same_entry (Chunk x)) s.queues ≡ 0 = sum_none same_entry (Chunk x) s.queues (λ p. queue_lacks p) in
    omega (arith, free, queues)
  where
    queue_lacks : (p : ℕ) → has same_entry (Chunk x) (slice_index_or s.queues p []) ≡ false
    queue_lacks p = elim (cases_Bool (has same_entry (Chunk x) (slice_index_or s.queues p []))) [
      | inl h ↦
          let i = (well.filled.items x (well.filled.queued_items p x h)).0 in
          absurd (omega (arith, i.class, none))
      | inr h ↦ h
    ]

-- what the new lists say of a chunk
some_inj : {X : Type 0} (x y : X) → Some x ≡ Some y → x ≡ y
some_inj x y e = cc

none_some : {X : Type 0} (y : X) → None ≡ Some y → ⊥
none_some y e = cc

module _ (s : State) (well : WellFormed s) (next : List ℕ) (p c n : ℕ) (g : Gets s.owner next p c) (lt : c < length s.free) (pos : 0 < c) (size : n ≡ per_page s.fixed c) where
  carved_class : (k : ℕ) (x : ChunkRef) → has same_chunk x (slice_index_or (slice_set s.free c (falling p n ++ free_of s c)) k []) ≡ true → IsChunkOf s.fixed next k x
  carved_class k x h = elim (cases_eq k c) [
    | inl e ↦
        let there : has same_chunk x (falling p n ++ free_of s c) ≡ true = ap (has same_chunk x) (sym (ap (λ m. slice_index_or (slice_set s.free c (falling p n ++ free_of s c)) m []) e ∙ get_or-set_same s.free c (falling p n ++ free_of s c) [] lt)) ∙ h in
        subst (λ m. IsChunkOf s.fixed next m x) (sym e) (elim (has-append same_chunk x (falling p n) (free_of s c) there) [
          | inl f ↦
              let new = falling_has p n x f in
              record { class = pos; page = omega (arith, new.0, g.there); owned = ap (slice_index next) new.0 ∙ g.owned; slot = omega (arith, new.1, size) }
          | inr f ↦ kept_chunk s.fixed s.owner next p c c x g (well.lists.free_of_class c x f)
        ])
    | inr e ↦
        let there : has same_chunk x (free_of s k) ≡ true = ap (has same_chunk x) (sym (get_or-set_other s.free c k (falling p n ++ free_of s c) [] e)) ∙ h in
        kept_chunk s.fixed s.owner next p c k x g (well.lists.free_of_class k x there)
  ]

  carved_lacks : (x : ChunkRef) → (x.page ≡ p → ⊥) → ((k : ℕ) → has same_chunk x (free_of s k) ≡ false) → (k : ℕ) → has same_chunk x (slice_index_or (slice_set s.free c (falling p n ++ free_of s c)) k []) ≡ false
  carved_lacks x ne gone k = elim (cases_eq k c) [
    | inl e ↦ ap (has same_chunk x) (ap (λ m. slice_index_or (slice_set s.free c (falling p n ++ free_of s c)) m []) e ∙ get_or-set_same s.free c (falling p n ++ free_of s c) [] lt) ∙ elim (cases_Bool (has same_chunk x (falling p n ++ free_of s c))) [
      | inl h ↦ elim (has-append same_chunk x (falling p n) (free_of s c) h) [
        | inl f ↦ absurd (true≢false (sym f ∙ falling_lacks p n x ne))
        | inr f ↦ absurd (true≢false (sym f ∙ gone c))
      ]
      | inr h ↦ h
    ]
    | inr e ↦ ap (has same_chunk x) (get_or-set_other s.free c k (falling p n ++ free_of s c) [] e) ∙ gone k
  ]

  carved_stands : (x : ChunkRef) → stands_in (slice_set s.free c (falling p n ++ free_of s c)) s.queues x ≡ stands s x + count same_chunk x (falling p n)
  carved_stands x =
      let sum = sum_by-set (count same_chunk x) s.free c (falling p n ++ free_of s c) [] lt in
      let two : count same_chunk x (falling p n ++ free_of s c) ≡ count same_chunk x (falling p n) + count same_chunk x (free_of s c) = count-append same_chunk x (falling p n) (free_of s c) in
      omega (arith, sum, two)

  away_page : (x : ChunkRef) → is_some (item_at s x) ≡ true → x.page ≡ p → ⊥
  away_page x h e =
      let i = (well.filled.items x h).0 in
      omega (arith, i.class, ap (slice_index s.owner) e, g.unowned)

  kept_items : (x : ChunkRef) → is_some (item_at s x) ≡ true → IsChunkOf s.fixed next (slice_index next x.page) x
  kept_items x h =
      let i = (well.filled.items x h).0 in
      subst (λ k. IsChunkOf s.fixed next k x) (sym (g.others x.page (away_page x h))) (kept_chunk s.fixed s.owner next p c (slice_index s.owner x.page) x g i)

  kept_owners : c ≤ length s.fixed.sizes → (q : ℕ) → slice_index next q ≤ length s.fixed.sizes
  kept_owners top q = elim (cases_eq q p) [
    | inl e ↦ omega (arith, ap (slice_index next) e, g.owned, top)
    | inr e ↦ omega (arith, g.others q e, well.owned.owners q)
  ]

  few_stand : (x : ChunkRef) → stands_in (slice_set s.free c (falling p n ++ free_of s c)) s.queues x ≤ 1
  few_stand x = elim (cases_eq x.page p) [
    | inl e ↦ omega (arith, carved_stands x, nowhere s well x (ap (slice_index s.owner) e ∙ g.unowned), falling_few p n x)
    | inr e ↦ omega (arith, carved_stands x, well.lists.once x, falling_count p n x e)
  ]

  -- the page's chunks go to the front of the class's free list
  pub carved_well : length next ≤ s.fixed.limit + 62 → WellFormed (record s { owner = next; free = slice_set s.free c (falling p n ++ free_of s c) })
  carved_well few =
      let top : c ≤ length s.fixed.sizes = omega (arith, lt, well.lists.free_length) in
      record {
        lists = record {
          free_length = length-set s.free c (falling p n ++ free_of s c) ∙ well.lists.free_length;
          queues_length = well.lists.queues_length;
          free_of_class = λ k x h. carved_class k x h;
          queued_of_class = λ k q x h. kept_chunk s.fixed s.owner next p c k x g (well.lists.queued_of_class k q x h);
          once = λ x. few_stand x;
          one_mark = well.lists.one_mark;
        };
        filled = record {
          queued_items = well.filled.queued_items;
          items = λ x h. (kept_items x h, λ k. carved_lacks x (away_page x h) (well.filled.items x h).1 k);
        };
        index = well.index;
        owned = record { owners = λ q. kept_owners top q; pages = few };
        bump = well.bump;
        counters = well.counters;
      }

  -- they stay out of all lists
  pub owned_well : length next ≤ s.fixed.limit + 62 → WellFormed (record s { owner = next })
  owned_well few =
      let top : c ≤ length s.fixed.sizes = omega (arith, lt, well.lists.free_length) in
      record {
        lists = record {
          free_length = well.lists.free_length;
          queues_length = well.lists.queues_length;
          free_of_class = λ k x h. kept_chunk s.fixed s.owner next p c k x g (well.lists.free_of_class k x h);
          queued_of_class = λ k q x h. kept_chunk s.fixed s.owner next p c k x g (well.lists.queued_of_class k q x h);
          once = well.lists.once;
          one_mark = well.lists.one_mark;
        };
        filled = record { queued_items = well.filled.queued_items; items = λ x h. (kept_items x h, (well.filled.items x h).1) };
        index = well.index;
        owned = record { owners = λ q. kept_owners top q; pages = few };
        bump = well.bump;
        counters = well.counters;
      }

-- the owners of the pages after a page was laid
abbrev pub owner_laid : List ℕ → ℕ → ℕ → Form → List ℕ
owner_laid owner p c Fresh = owner ++ c ∷ []
owner_laid owner p c Pool = slice_set owner p c
owner_laid owner p c Withdrawn = slice_set owner p c

pub gets : (s : State) (p c n : ℕ) (f : Form) → Ready (Lays p c n f) s → Gets s.owner (owner_laid s.owner p c f) p c
gets s p c n Fresh r = gets_fresh s.owner p c r.0
gets s p c n Pool r = gets_set s.owner p c r.0.0 r.0.1
gets s p c n Withdrawn r = gets_set s.owner p c r.0.0 r.0.1

-- a page is laid
pub keeps-lay : (s : State) → WellFormed s → (p c n : ℕ) (f : Form) → Ready (Lays p c n f) s → length (owner_laid s.owner p c f) ≤ s.fixed.limit + 62 → Possible (Lays p c n f) s
keeps-lay s well p c n Fresh r few = record { ready = r; after = carved_well s well (s.owner ++ c ∷ []) p c n (gets s p c n Fresh r) r.2 r.1 r.3 few }
keeps-lay s well p c n Pool r few = record { ready = r; after = carved_well s well (slice_set s.owner p c) p c n (gets s p c n Pool r) r.2 r.1 r.3 few }
keeps-lay s well p c n Withdrawn r few = record { ready = r; after = owned_well s well (slice_set s.owner p c) p c n (gets s p c n Withdrawn r) r.2 r.1 r.3 few }

-- ---- soundness

owned_more : (k : ℕ) (owner : List ℕ) (p c : ℕ) → p < length owner → slice_index owner p ≡ 0 → 0 < k → owned_pages k (slice_set owner p c) ≡ owned_pages k owner + cond (nat_eq c k) 1 0
owned_more k [] p c lt none pos = absurd (omega (arith, lt))
owned_more k (d ∷ ds) zero c lt none pos =
    let ne : nat_eq d k ≡ false = elim (cases_Bool (nat_eq d k)) [ inl e ↦ absurd (omega (arith, eqb-true d k e, none, pos)) | inr e ↦ e ] in
    rw ne (omega arith)
owned_more k (d ∷ ds) (suc p) c lt none pos =
    let more : owned_pages k (slice_set ds p c) ≡ owned_pages k ds + cond (nat_eq c k) 1 0 = owned_more k ds p c (omega (arith, lt)) none pos in
    omega (arith, more)

owned_push : (k : ℕ) (owner : List ℕ) (c : ℕ) → owned_pages k (owner ++ c ∷ []) ≡ owned_pages k owner + cond (nat_eq c k) 1 0
owned_push k [] c = omega arith
owned_push k (d ∷ ds) c = let more : owned_pages k (ds ++ c ∷ []) ≡ owned_pages k ds + cond (nat_eq c k) 1 0 = owned_push k ds c in omega (arith, more)

-- each class owns as many pages as before, and the one that got a page one more
pub record GetsOne (owner next : List ℕ) (c : ℕ) : Type 0 where
  pub counts : (k : ℕ) → 0 < k → owned_pages k next ≡ owned_pages k owner + cond (nat_eq c k) 1 0

pub gets_one : (s : State) (p c n : ℕ) (f : Form) → Ready (Lays p c n f) s → GetsOne s.owner (owner_laid s.owner p c f) c
gets_one s p c n Fresh r = record { counts = λ k pos. owned_push k s.owner c }
gets_one s p c n Pool r = record { counts = λ k pos. owned_more k s.owner p c r.0.0 r.0.1 pos }
gets_one s p c n Withdrawn r = record { counts = λ k pos. owned_more k s.owner p c r.0.0 r.0.1 pos }

some_count : (a : ℕ) → 0 < a → cond {A = ℕ} (nat_lt 0 a) 1 0 ≡ 1
some_count a pos = ap (λ b. cond {A = ℕ} b 1 0) (lt-ltb 0 a pos)

grows : (a b : ℕ) → a ≤ b → cond (nat_lt 0 a) 1 0 ≤ cond (nat_lt 0 b) 1 0
grows zero b h = omega arith
grows (suc a) b h = let m = some_count (suc a) (omega arith) in let n = some_count b (omega (arith, h)) in omega (arith, m, n)

owning_le : (n : ℕ) (owner next : List ℕ) (c : ℕ) → GetsOne owner next c → owning n owner ≤ owning n next
owning_le zero owner next c g = omega arith
owning_le (suc n) owner next c g =
    let more : owning n owner ≤ owning n next = owning_le n owner next c g in
    let here : cond (nat_lt 0 (owned_pages (suc n) owner)) 1 0 ≤ cond (nat_lt 0 (owned_pages (suc n) next)) 1 0 = grows (owned_pages (suc n) owner) (owned_pages (suc n) next) (omega (arith, g.counts (suc n) (omega arith))) in
    omega (arith, more, here)

-- a class that owned none counts once more
owning_first : (n : ℕ) (owner next : List ℕ) (c : ℕ) → GetsOne owner next c → 0 < c → c ≤ n → owned_pages c owner ≡ 0 → owning n owner + 1 ≤ owning n next
owning_first zero owner next c g pos le none = absurd (omega (arith, pos, le))
owning_first (suc n) owner next c g pos le none = elim (cases_eq c (suc n)) [
  | inl e ↦
      let was : owned_pages (suc n) owner ≡ 0 = ap (λ k. owned_pages k owner) (sym e) ∙ none in
      let same : nat_eq c (suc n) ≡ true = eq-eqb c (suc n) e in
      let is : owned_pages (suc n) next ≡ 1 = rw (same, was) at (g.counts (suc n) (omega arith)) in
      let more : owning n owner ≤ owning n next = owning_le n owner next c g in
      rw (was, is) (omega (arith, more))
  | inr e ↦
      let more : owning n owner + 1 ≤ owning n next = owning_first n owner next c g pos (omega (arith, le, e)) none in
      let here : cond (nat_lt 0 (owned_pages (suc n) owner)) 1 0 ≤ cond (nat_lt 0 (owned_pages (suc n) next)) 1 0 = grows (owned_pages (suc n) owner) (owned_pages (suc n) next) (omega (arith, g.counts (suc n) (omega arith))) in
      omega (arith, more, here)
]

-- a class that owns no page has none
owns_none : (c : ℕ) (owner : List ℕ) → list_any (λ d. nat_eq d c) owner ≡ false → owned_pages c owner ≡ 0
owns_none c [] h = refl
owns_none c (d ∷ ds) h = elim (cases_Bool (nat_eq d c)) [
  | inl e ↦ absurd (true≢false (rw e at h))
  | inr e ↦ let more : owned_pages c ds ≡ 0 = owns_none c ds (rw e at h) in rw e (omega (arith, more))
]

mover_kept : (f : Fixed) (owner next : List ℕ) (p c : ℕ) (m : Option Mover) → Gets owner next p c → GetsOne owner next c → MoverSound f owner m → MoverSound f next m
mover_kept f owner next p c None g o h = tt
mover_kept f owner next p c (Some m) g o h =
    let ne : m.page ≡ p → ⊥ = λ e. omega (arith, ap (slice_index owner) e, g.unowned, h.5, h.0) in
    let more = o.counts m.src h.0 in
    (h.0, h.1, h.2, h.3, omega (arith, h.4, g.longer), g.others m.page ne ∙ h.5, h.6, omega (arith, h.7, more))

-- the mover's page is not one without an owner
not_withdrawn : (f : Fixed) (owner : List ℕ) (p : ℕ) (m : Option Mover) (x : ChunkRef) → MoverSound f owner m → slice_index owner p ≡ 0 → x.page ≡ p → is_withdrawn m x ≡ false
not_withdrawn f owner p None x h none e = refl
not_withdrawn f owner p (Some m) x h none e = elim (cases_Bool (is_withdrawn (Some m) x)) [
  | inl w ↦
      let same : x.page ≡ m.page = eqb-true _ _ (and_parts (nat_eq x.page m.page) (nat_lt x.slot m.slot) w).0 in
      absurd (omega (arith, ap (slice_index owner) (sym same ∙ e), none, h.5, h.0))
  | inr w ↦ w
]

module _ (s : State) (sound : Sound s) (next : List ℕ) (p c n : ℕ) (g : Gets s.owner next p c) (o : GetsOne s.owner next c) (lt : c < length s.free) (pos : 0 < c) (size : n ≡ per_page s.fixed c) where
  carved_once : (x : ChunkRef) → IsChunkOf s.fixed next (slice_index next x.page) x → stands_in (slice_set s.free c (falling p n ++ free_of s c)) s.queues x + away s.globals.mover None x ≡ 1
  carved_once x h = elim (cases_eq x.page p) [
    | inl e ↦
        let owned : slice_index next x.page ≡ c = ap (slice_index next) e ∙ g.owned in
        let slot : x.slot < n = omega (arith, ap (per_page s.fixed) owned, h.slot, size) in
        let one : count same_chunk x (falling p n) ≡ 1 = falling_once p n x e slot in
        let none : stands s x ≡ 0 = nowhere s sound.well x (ap (slice_index s.owner) e ∙ g.unowned) in
        let here = not_withdrawn s.fixed s.owner p s.globals.mover x sound.kept.mover g.unowned e in
        rw here (omega (arith, carved_stands s sound.well next p c n g lt pos size x, one, none))
    | inr e ↦
        let was : IsChunkOf s.fixed s.owner (slice_index s.owner x.page) x = old_chunk s.fixed s.owner next p c (slice_index s.owner x.page) x g e (g.others x.page e) (omega (arith, g.others x.page e, h.class)) (omega (arith, ap (per_page s.fixed) (g.others x.page e), h.slot)) in
        omega (arith, carved_stands s sound.well next p c n g lt pos size x, falling_count p n x e, sound.placed.once x was)
  ]

  kept_class : (x : ChunkRef) (i : PlainItem) → item_at s x ≡ Some i → class_of s.fixed (footprint_of i) ≡ Some (slice_index next x.page)
  kept_class x i e = sound.filed.class x i e ∙ ap Some (sym (g.others x.page (away_page s sound.well next p c n g lt pos size x (ap is_some e))))

  -- the page's chunks go to the front of the class's free list
  pub carved_sound : length next ≤ s.fixed.limit + owning (length s.fixed.sizes) next → length next ≤ s.fixed.limit + 62 → Sound (record s { owner = next; free = slice_set s.free c (falling p n ++ free_of s c) })
  carved_sound few all = record {
    well = carved_well s sound.well next p c n g lt pos size all;
    placed = record { once = λ x h. carved_once x h };
    filed = record { queued = sound.filed.queued; keyed = sound.filed.keyed; class = λ x i e. kept_class x i e };
    kept = record { mover = mover_kept s.fixed s.owner next p c s.globals.mover g o sound.kept.mover; pages = few; settings = sound.kept.settings; table = sound.kept.table };
  }

-- ---- the page that a class gets

-- a page holds some chunks of each class, and not too many
pub page_chunks : (f : Fixed) → TableSound f → (c : ℕ) → 0 < c → c ≤ length f.sizes → (1 ≤ per_page f c) × (per_page f c ≤ 10922)
page_chunks f t c pos top =
    let ne : nat_eq c 0 ≡ false = elim (cases_Bool (nat_eq c 0)) [ inl e ↦ absurd (omega (arith, eqb-true c 0 e, pos)) | inr e ↦ e ] in
    rw ne (page-div-size f.page_size f.sizes t.sizes (c - 1) (omega (arith, pos, top)))

page_found : (k c : ℕ) (owner : List ℕ) (p : ℕ) → page_from k c owner ≡ Some p → (i : ℕ) × (p ≡ k + i) × (i < length owner) × (slice_index owner i ≡ c)
page_found k c [] p e = absurd (cc)
page_found k c (d ∷ ds) p e = elim (cases_Bool (nat_eq d c)) [
  | inl h ↦ let is : k ≡ p = some_inj k p (rw h at e) in (0, omega (arith, is), omega arith, eqb-true d c h)
  | inr h ↦ let w = page_found (k + 1) c ds p (rw h at e) in (suc w.0, omega (arith, w.1), omega (arith, w.2), w.3)
]

no_items : (s : State) → WellFormed s → (p : ℕ) → slice_index s.owner p ≡ 0 → HoldsNoItem s p
no_items s well p none x e = elim (item_at s x) as (λ o. item_at s x ≡ o → o ≡ None) [
  | None ↦ λ h. refl
  | Some i ↦ λ h.
      let k = (well.filled.items x (ap is_some h)).0 in
      absurd (omega (arith, k.class, ap (slice_index s.owner) e, none))
] refl

owning_few : (n : ℕ) (owner : List ℕ) → owning n owner ≤ n
owning_few zero owner = omega arith
owning_few (suc n) owner = elim (cases_Bool (nat_lt 0 (owned_pages (suc n) owner))) [
  | inl e ↦ rw e (omega (arith, owning_few n owner))
  | inr e ↦ rw e (omega (arith, owning_few n owner))
]

pool_page : (s : State) (p : ℕ) → lowest_page s 0 ≡ Some p → (p < length s.owner) × (slice_index s.owner p ≡ 0)
pool_page s p e =
    let w = page_found 0 0 s.owner p e in
    let is : p ≡ w.0 = omega (arith, w.1) in
    (omega (arith, is, w.2), ap (slice_index s.owner) is ∙ w.3)

-- what is known of a page that a class may get
pub record IsPageFor (s : State) (c p : ℕ) (f : Form) : Type 0 where
  pub ready : Ready (Lays p c (per_page s.fixed c) f) s
  pub possible : Possible (Lays p c (per_page s.fixed c) f) s
  pub sound : Sound (laid p c (per_page s.fixed c) f s)
  pub chunks : 1 ≤ length (free_of (laid p c (per_page s.fixed c) f s) c)
  pub page : p < s.fixed.limit + 62

length-falling : (p n : ℕ) (xs : List ChunkRef) → length (falling p n ++ xs) ≡ n + length xs
length-falling p zero xs = omega arith
length-falling p (suc n) xs = let more : length (falling p n ++ xs) ≡ n + length xs = length-falling p n xs in omega (arith, more)

some_chunks : (s : State) → Sound s → (c p : ℕ) → 0 < c → c ≤ length s.fixed.sizes → c < length s.free → 1 ≤ length (slice_index_or (slice_set s.free c (falling p (per_page s.fixed c) ++ free_of s c)) c [])
some_chunks s sound c p pos top lt =
    rw (get_or-set_same s.free c (falling p (per_page s.fixed c) ++ free_of s c) [] lt)
    (omega (arith, length-falling p (per_page s.fixed c) (free_of s c), (page_chunks s.fixed sound.kept.table c pos top).0))

pub pool_is : (s : State) → Sound s → (c : ℕ) → 0 < c → c ≤ length s.fixed.sizes → (p : ℕ) → lowest_page s 0 ≡ Some p → IsPageFor s c p Pool
pool_is s sound c pos top p e =
    let w = pool_page s p e in
    let lt : c < length s.free = omega (arith, top, sound.well.lists.free_length) in
    let r : Ready (Lays p c (per_page s.fixed c) Pool) s = (w, pos, lt, refl, no_items s sound.well p w.1) in
    let g = gets s p c (per_page s.fixed c) Pool r in
    let o = gets_one s p c (per_page s.fixed c) Pool r in
    let same : length (slice_set s.owner p c) ≡ length s.owner = length-set s.owner p c in
    let grown = owning_le (length s.fixed.sizes) s.owner (slice_set s.owner p c) c o in
    let few : length (slice_set s.owner p c) ≤ s.fixed.limit + owning (length s.fixed.sizes) (slice_set s.owner p c) = omega (arith, same, grown, sound.kept.pages) in
    let all : length (slice_set s.owner p c) ≤ s.fixed.limit + 62 = omega (arith, same, sound.well.owned.pages) in
    record {
      ready = r;
      possible = keeps-lay s sound.well p c (per_page s.fixed c) Pool r all;
      sound = carved_sound s sound (slice_set s.owner p c) p c (per_page s.fixed c) g o lt pos refl few all;
      chunks = some_chunks s sound c p pos top lt;
      page = omega (arith, w.0, sound.well.owned.pages);
    }

pub fresh_is : (s : State) → Sound s → (c : ℕ) → 0 < c → c ≤ length s.fixed.sizes → (length s.owner < s.fixed.limit) ⊎ (owned_pages c s.owner ≡ 0) → IsPageFor s c (length s.owner) Fresh
fresh_is s sound c pos top may =
    let p = length s.owner in
    let lt : c < length s.free = omega (arith, top, sound.well.lists.free_length) in
    let r : Ready (Lays (length s.owner) c (per_page s.fixed c) Fresh) s = (refl, pos, lt, refl, no_items s sound.well p (past_end s.owner p (omega arith))) in
    let g = gets s p c (per_page s.fixed c) Fresh r in
    let o = gets_one s p c (per_page s.fixed c) Fresh r in
    let longer : length (s.owner ++ c ∷ []) ≡ length s.owner + 1 = push_length s.owner c in
    let grown = owning_le (length s.fixed.sizes) s.owner (s.owner ++ c ∷ []) c o in
    let few : length (s.owner ++ c ∷ []) ≤ s.fixed.limit + owning (length s.fixed.sizes) (s.owner ++ c ∷ []) = elim may [
      | inl h ↦ omega (arith, longer, h)
      | inr h ↦ omega (arith, longer, owning_first (length s.fixed.sizes) s.owner (s.owner ++ c ∷ []) c o pos top h, sound.kept.pages)
    ] in
    let all : length (s.owner ++ c ∷ []) ≤ s.fixed.limit + 62 = omega (arith, few, owning_few (length s.fixed.sizes) (s.owner ++ c ∷ []), sound.kept.table.sizes.few) in
    record {
      ready = r;
      possible = keeps-lay s sound.well p c (per_page s.fixed c) Fresh r all;
      sound = carved_sound s sound (s.owner ++ c ∷ []) p c (per_page s.fixed c) g o lt pos refl few all;
      chunks = some_chunks s sound c p pos top lt;
      page = omega (arith, all, longer);
    }

-- the page that the written rule gives to a class may be laid
pub page_is : (s : State) → Sound s → (c : ℕ) → 0 < c → c ≤ length s.fixed.sizes → (p : ℕ) (f : Form) → page_of s c ≡ Some (p, f) → IsPageFor s c p f
page_is s sound c pos top p f e = elim (lowest_page s 0) as (λ o. lowest_page s 0 ≡ o → page_for s c o ≡ Some (p, f) → IsPageFor s c p f) [
  | None ↦ λ h e. elim (cases_Bool (nat_lt (length s.owner) s.fixed.limit || not (owns_page s c))) [
    | inl may ↦ fresh may (some_inj _ _ (rw may at e))
    | inr may ↦ absurd (none_some _ (rw may at e))
  ]
  | Some q ↦ λ h e.
      let was : ℕ × Form = (q, Pool) in
      let now : ℕ × Form = (p, f) in
      let is : was ≡ now = some_inj was now e in
      subst (λ (w : ℕ × Form). IsPageFor s c w.0 w.1) is (pool_is s sound c pos top q h)
] refl e
  where
    fresh : nat_lt (length s.owner) s.fixed.limit || not (owns_page s c) ≡ true → ◌≡◌ {A = ℕ × Form} (length s.owner, Fresh) (p, f) → IsPageFor s c p f
    fresh may is = subst (λ (w : ℕ × Form). IsPageFor s c w.0 w.1) is (fresh_is s sound c pos top (elim (cases_Bool (nat_lt (length s.owner) s.fixed.limit)) [
      | inl h ↦ inl (ltb-true (length s.owner) s.fixed.limit h)
      | inr h ↦ inr (elim (cases_Bool (owns_page s c)) [
        | inl w ↦ absurd (false≢true (rw (h, w) at may))
        | inr w ↦ owns_none c s.owner w
      ])
    ]))
