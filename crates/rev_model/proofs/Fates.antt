-- What the changes that steps are made of do to one key: whether it is held, and its item alive.
use Rattle.std.specs.Prelude.{ℕ, ◌≡◌, Bool, true, false, cond, not, List, Option, None, Some, is_some, refl}
use Rattle.std.proofs.Common.{sym, ◌∙◌, ap}
use Rattle.std.proofs.lemmas.Bool.{false≢true}
use Rattle.std.specs.Cmp.Lexicographic.{nat_list_cmp_total}
use Rattle.std.specs.FinMap as map
use Rattle.rev_items.specs.Plain.{PlainItem}
use Rattle.rev_items.specs.Rules.{is_past}
use Rattle.rev_model.specs.Chunk.{same_chunk}
use Rattle.rev_model.specs.State.{State, item_at, find}
use Rattle.rev_model.specs.Words.{is_dead}
use Rattle.rev_model.specs.Sound.{SoundBut}
use Rattle.rev_model.proofs.Undo.{tells_chunk, same_chunk-self, get-put_at}
use Rattle.rev_model.specs.Track.{held, same_key}
use Rattle.rev_model.proofs.Laws.{get_put, same_key-self, same_key-exact}
use Rattle.rev_model.specs.Events.{item_of, is_live, alive}
use Rattle.rev_model.specs.declared.ChunkRef.{ChunkRef}
use Rattle.rev_model.specs.declared.Globals.{Globals}

-- the index has exactly each item's key, with its chunk
pub record Indexed (s : State) : Type 0 where
  pub item : (k : List ℕ) (x : ChunkRef) → find s k ≡ Some x → (i : PlainItem) × (item_at s x ≡ Some i) × (i.key ≡ k)
  pub keyed : (x : ChunkRef) (i : PlainItem) → item_at s x ≡ Some i → find s i.key ≡ Some x

pub indexed_sound : (h : Option ChunkRef) (s : State) → SoundBut h s → Indexed s
indexed_sound h s sound = record { item = sound.well.index.indexed; keyed = sound.filed.keyed }

-- whether an item is there, and alive
abbrev pub life : Globals → Option PlainItem → Option Bool
life g None = None
life g (Some i) = Some (not (is_dead g i))

abbrev pub fate_at : State → Option ChunkRef → Option Bool
fate_at s o = life s.globals (item_of s o)

-- of a key: whether it is held, and its item alive
abbrev pub fate : State → List ℕ → Option Bool
fate s k = fate_at s (find s k)

some_same : {X : Type 0} → (x y : X) → Some x ≡ Some y → x ≡ y
some_same x y e = cc

life-some : (g : Globals) (o : Option PlainItem) → is_some (life g o) ≡ is_some o
life-some g None = refl
life-some g (Some i) = refl

fate_held : (s : State) (k : List ℕ) (o : Option ChunkRef) → Indexed s → find s k ≡ o → is_some (fate_at s o) ≡ is_some o
fate_held s k None d e = refl
fate_held s k (Some x) d e = life-some s.globals (item_at s x) ∙ ap is_some (d.item k x e).1

pub fate-held : (s : State) (k : List ℕ) → Indexed s → is_some (fate s k) ≡ held s k
fate-held s k d = fate_held s k (find s k) d refl

live_life : (s : State) (o : Option PlainItem) (a : Bool) → life s.globals o ≡ Some a → is_live s o ≡ a
live_life s None a e = absurd (false≢true (ap is_some e))
live_life s (Some i) a e = some_same (is_live s (Some i)) a e

pub fate-alive : (s : State) (k : List ℕ) (a : Bool) → fate s k ≡ Some a → alive s k ≡ a
fate-alive s k a e = live_life s (item_of s (find s k)) a e

pub fate-none : (s : State) (k : List ℕ) → Indexed s → fate s k ≡ None → held s k ≡ false
fate-none s k d e = sym (fate-held s k d) ∙ ap is_some e

-- ---- changes of a state, as far as keys and lives go

-- the same items under the same keys, at the same time
pub record Stays (s t : State) : Type 0 where
  pub content : t.content ≡ s.content
  pub index : t.index ≡ s.index
  pub clock : t.globals.clock ≡ s.globals.clock
  pub flush_limit : t.globals.flush_limit ≡ s.globals.flush_limit

pub stays : (s : State) → Stays s s
stays s = record { content = refl; index = refl; clock = refl; flush_limit = refl }

-- an item leaves its chunk and the index
pub record Drops (s t : State) (x : ChunkRef) (i : PlainItem) : Type 0 where
  pub there : item_at s x ≡ Some i
  pub content : t.content ≡ map.remove s.content x
  pub index : t.index ≡ map.remove s.index i.key
  pub clock : t.globals.clock ≡ s.globals.clock
  pub flush_limit : t.globals.flush_limit ≡ s.globals.flush_limit

-- an item's bits or time change
pub record Refreshes (s t : State) (x : ChunkRef) (i j : PlainItem) : Type 0 where
  pub there : item_at s x ≡ Some i
  pub content : t.content ≡ map.insert s.content x j
  pub index : t.index ≡ s.index
  pub clock : t.globals.clock ≡ s.globals.clock
  pub flush_limit : t.globals.flush_limit ≡ s.globals.flush_limit
  pub key : j.key ≡ i.key
  pub moment : j.moment ≡ i.moment
  pub cas : j.cas ≡ i.cas

-- an item goes to an empty chunk
pub record Carries (s t : State) (x y : ChunkRef) (i : PlainItem) : Type 0 where
  pub there : item_at s x ≡ Some i
  pub empty : item_at s y ≡ None
  pub content : t.content ≡ map.insert (map.remove s.content x) y i
  pub index : t.index ≡ map.insert s.index i.key y
  pub clock : t.globals.clock ≡ s.globals.clock
  pub flush_limit : t.globals.flush_limit ≡ s.globals.flush_limit

-- ---- the same fate

life-same : (g h : Globals) (o : Option PlainItem) → h.clock ≡ g.clock → h.flush_limit ≡ g.flush_limit → life h o ≡ life g o
life-same g h None c m = refl
life-same g h (Some i) c m = ap (λ n. Some (not (is_past n h.flush_limit i.moment i.cas))) c ∙ ap (λ n. Some (not (is_past g.clock n i.moment i.cas))) m

item_of-content : (s t : State) (o : Option ChunkRef) → t.content ≡ s.content → item_of t o ≡ item_of s o
item_of-content s t None e = refl
item_of-content s t (Some x) e = ap (λ m. map.get m x) e

pub stays_fate : (s t : State) (k : List ℕ) → Stays s t → fate t k ≡ fate s k
stays_fate s t k h =
    ap (λ m. fate_at t (map.get m k)) h.index
    ∙ ap (life t.globals) (item_of-content s t (find s k) h.content)
    ∙ life-same s.globals t.globals (item_of s (find s k)) h.clock h.flush_limit

pub stays_indexed : (s t : State) → Stays s t → Indexed s → Indexed t
stays_indexed s t h d = record {
  item = λ k x e.
      let w = d.item k x (ap (λ m. map.get m k) (sym h.index) ∙ e) in
      (w.0, ap (λ m. map.get m x) h.content ∙ w.1, w.2);
  keyed = λ x i e. ap (λ m. map.get m i.key) h.index ∙ d.keyed x i (ap (λ m. map.get m x) (sym h.content) ∙ e);
}

-- ---- of an item that leaves

pub key_removed : (s : State) (l k : List ℕ) → map.get (map.remove s.index l) k ≡ cond (same_key k l) None (find s k)
key_removed s l k = get-put_at nat_list_cmp_total (map.slice_cmp-IsAntisymmetric map.nat_cmp-IsAntisymmetric) s.index l None k

pub key_inserted : (s : State) (l : List ℕ) (x : ChunkRef) (k : List ℕ) → map.get (map.insert s.index l x) k ≡ cond (same_key k l) (Some x) (find s k)
key_inserted s l x k = get-put_at nat_list_cmp_total (map.slice_cmp-IsAntisymmetric map.nat_cmp-IsAntisymmetric) s.index l (Some x) k

-- the chunk of another key is another chunk
other_chunk : (s : State) (k : List ℕ) (x z : ChunkRef) (i : PlainItem) → Indexed s → item_at s x ≡ Some i → find s k ≡ Some z → same_key k i.key ≡ false → same_chunk z x ≡ false
other_chunk s k x z i d there f ne = go (same_chunk z x) refl where
  w : (i : PlainItem) × (item_at s z ≡ Some i) × (i.key ≡ k)
  w = d.item k z f

  go : (b : Bool) → same_chunk z x ≡ b → b ≡ false
  go false e = refl
  go true e =
      let same : w.0 ≡ i = some_same w.0 i (sym w.1 ∙ ap (item_at s) (tells_chunk.exact z x e) ∙ there) in
      absurd (false≢true (sym ne ∙ ap (λ (j : PlainItem). same_key k j.key) (sym same) ∙ ap (same_key k) w.2 ∙ same_key-self k))

same_item : (s : State) (x : ChunkRef) (i j : PlainItem) → item_at s x ≡ Some i → item_at s x ≡ Some j → j ≡ i
same_item s x i j a b = some_same j i (sym b ∙ a)

some_chunk : (x y : ChunkRef) → Some x ≡ Some y → x ≡ y
some_chunk x y e = some_same x y e

drops_find : (s t : State) (x : ChunkRef) (i : PlainItem) (k : List ℕ) → Drops s t x i → find t k ≡ cond (same_key k i.key) None (find s k)
drops_find s t x i k h = ap (λ m. map.get m k) h.index ∙ key_removed s i.key k

drops_item : (s t : State) (x : ChunkRef) (i : PlainItem) (z : ChunkRef) → Drops s t x i → item_at t z ≡ cond (same_chunk z x) None (item_at s z)
drops_item s t x i z h = ap (λ m. map.get m z) h.content ∙ get_put s x None z

-- the key of the item is gone
pub drops_own : (s t : State) (x : ChunkRef) (i : PlainItem) (k : List ℕ) → Drops s t x i → same_key k i.key ≡ true → fate t k ≡ None
drops_own s t x i k h e = ap (fate_at t) (drops_find s t x i k h ∙ ap (λ b. cond b None (find s k)) e)

-- and no other
pub drops_other : (s t : State) (x : ChunkRef) (i : PlainItem) (k : List ℕ) → Indexed s → Drops s t x i → same_key k i.key ≡ false → fate t k ≡ fate s k
drops_other s t x i k d h e =
    ap (fate_at t) (drops_find s t x i k h ∙ ap (λ b. cond b None (find s k)) e) ∙ go (find s k) refl where
      go : (o : Option ChunkRef) → find s k ≡ o → fate_at t o ≡ fate_at s o
      go None f = refl
      go (Some z) f =
          ap (life t.globals) (drops_item s t x i z h ∙ ap (λ b. cond b None (item_at s z)) (other_chunk s k x z i d h.there f e))
          ∙ life-same s.globals t.globals (item_at s z) h.clock h.flush_limit

-- what the item's key had
pub drops_was : (s t : State) (x : ChunkRef) (i : PlainItem) (k : List ℕ) → Indexed s → Drops s t x i → same_key k i.key ≡ true → fate s k ≡ Some (not (is_dead s.globals i))
drops_was s t x i k d h e =
    ap (fate s) (same_key-exact k i.key e) ∙ ap (fate_at s) (d.keyed x i h.there) ∙ ap (life s.globals) h.there

cond_some : {X : Type 0} → (b : Bool) (o : Option X) (x : X) → cond b None o ≡ Some x → (b ≡ false) × (o ≡ Some x)
cond_some true o x e = absurd (false≢true (ap is_some e))
cond_some false o x e = (refl, e)

pub drops_indexed : (s t : State) (x : ChunkRef) (i : PlainItem) → Indexed s → Drops s t x i → Indexed t
drops_indexed s t x i d h = record {
  item = λ k z e.
      let p = cond_some (same_key k i.key) (find s k) z (sym (drops_find s t x i k h) ∙ e) in
      let w = d.item k z p.1 in
      (w.0, drops_item s t x i z h ∙ ap (λ b. cond b None (item_at s z)) (other_chunk s k x z i d h.there p.1 p.0) ∙ w.1, w.2);
  keyed = λ z j e.
      let p = cond_some (same_chunk z x) (item_at s z) j (sym (drops_item s t x i z h) ∙ e) in
      drops_find s t x i j.key h ∙ ap (λ b. cond b None (find s j.key)) (other_key z j p.0 p.1) ∙ d.keyed z j p.1;
} where
  other_key : (z : ChunkRef) (j : PlainItem) → same_chunk z x ≡ false → item_at s z ≡ Some j → same_key j.key i.key ≡ false
  other_key z j ne f = go (same_key j.key i.key) refl where
    go : (b : Bool) → same_key j.key i.key ≡ b → b ≡ false
    go false e = refl
    go true e =
        let same : z ≡ x = some_same z x (sym (d.keyed z j f) ∙ ap (find s) (same_key-exact j.key i.key e) ∙ d.keyed x i h.there) in
        absurd (false≢true (sym ne ∙ ap (same_chunk z) (sym same) ∙ same_chunk-self z))

-- ---- of an item that changes

refreshes_item : (s t : State) (x : ChunkRef) (i j : PlainItem) (z : ChunkRef) → Refreshes s t x i j → item_at t z ≡ cond (same_chunk z x) (Some j) (item_at s z)
refreshes_item s t x i j z h = ap (λ m. map.get m z) h.content ∙ get_put s x (Some j) z

-- each chunk has an item of the same key and life
refreshes_at : (s t : State) (x : ChunkRef) (i j : PlainItem) (z : ChunkRef) → Refreshes s t x i j → life t.globals (item_at t z) ≡ life s.globals (item_at s z)
refreshes_at s t x i j z h = ap (life t.globals) (refreshes_item s t x i j z h) ∙ go (same_chunk z x) refl where
  go : (b : Bool) → same_chunk z x ≡ b → life t.globals (cond b (Some j) (item_at s z)) ≡ life s.globals (item_at s z)
  go false e = life-same s.globals t.globals (item_at s z) h.clock h.flush_limit
  go true e =
      life-same s.globals t.globals (Some j) h.clock h.flush_limit
      ∙ ap (λ m. Some (not (is_past s.globals.clock s.globals.flush_limit m j.cas))) h.moment
      ∙ ap (λ n. Some (not (is_past s.globals.clock s.globals.flush_limit i.moment n))) h.cas
      ∙ ap (life s.globals) (sym h.there) ∙ ap (λ y. life s.globals (item_at s y)) (sym (tells_chunk.exact z x e))

pub refreshes_fate : (s t : State) (x : ChunkRef) (i j : PlainItem) (k : List ℕ) → Refreshes s t x i j → fate t k ≡ fate s k
refreshes_fate s t x i j k h = ap (λ m. fate_at t (map.get m k)) h.index ∙ go (find s k) where
  go : (o : Option ChunkRef) → fate_at t o ≡ fate_at s o
  go None = refl
  go (Some z) = refreshes_at s t x i j z h

pub refreshes_indexed : (s t : State) (x : ChunkRef) (i j : PlainItem) → Indexed s → Refreshes s t x i j → Indexed t
refreshes_indexed s t x i j d h = record {
  item = λ k z e. found k z (ap (λ m. map.get m k) (sym h.index) ∙ e) (same_chunk z x) refl;
  keyed = λ z m e. ap (λ n. map.get n m.key) h.index ∙ keyed z m (same_chunk z x) refl (sym (refreshes_item s t x i j z h) ∙ e);
} where
  found : (k : List ℕ) (z : ChunkRef) → find s k ≡ Some z → (b : Bool) → same_chunk z x ≡ b → (n : PlainItem) × (item_at t z ≡ Some n) × (n.key ≡ k)
  found k z f false e =
      let w = d.item k z f in
      (w.0, refreshes_item s t x i j z h ∙ ap (λ b. cond b (Some j) (item_at s z)) e ∙ w.1, w.2)
  found k z f true e =
      let w = d.item k z f in
      let same : i ≡ w.0 = some_same i w.0 (sym h.there ∙ ap (item_at s) (sym (tells_chunk.exact z x e)) ∙ w.1) in
      (j, refreshes_item s t x i j z h ∙ ap (λ b. cond b (Some j) (item_at s z)) e, h.key ∙ ap (λ (n : PlainItem). n.key) same ∙ w.2)

  keyed : (z : ChunkRef) (m : PlainItem) (b : Bool) → same_chunk z x ≡ b → cond (same_chunk z x) (Some j) (item_at s z) ≡ Some m → find s m.key ≡ Some z
  keyed z m false e f = d.keyed z m (ap (λ b. cond b (Some j) (item_at s z)) (sym e) ∙ f)
  keyed z m true e f =
      let same : j ≡ m = some_same j m (ap (λ b. cond b (Some j) (item_at s z)) (sym e) ∙ f) in
      ap (find s) (ap (λ (n : PlainItem). n.key) (sym same) ∙ h.key) ∙ d.keyed x i h.there ∙ ap Some (sym (tells_chunk.exact z x e))

-- ---- of an item that goes to another chunk

carries_find : (s t : State) (x y : ChunkRef) (i : PlainItem) (k : List ℕ) → Carries s t x y i → find t k ≡ cond (same_key k i.key) (Some y) (find s k)
carries_find s t x y i k h = ap (λ m. map.get m k) h.index ∙ key_inserted s i.key y k

carries_item : (s t : State) (x y : ChunkRef) (i : PlainItem) (z : ChunkRef) → Carries s t x y i → item_at t z ≡ cond (same_chunk z y) (Some i) (cond (same_chunk z x) None (item_at s z))
carries_item s t x y i z h =
    ap (λ m. map.get m z) h.content ∙ get_put (record s { content = map.remove s.content x }) y (Some i) z
    ∙ ap (λ o. cond (same_chunk z y) (Some i) o) (get_put s x None z)

carries_there : (s t : State) (x y : ChunkRef) (i : PlainItem) → Carries s t x y i → item_at t y ≡ Some i
carries_there s t x y i h = carries_item s t x y i y h ∙ ap (λ b. cond b (Some i) (cond (same_chunk y x) None (item_at s y))) (same_chunk-self y)

-- a chunk with an item is not the empty one
filled_chunk : (s t : State) (x y : ChunkRef) (i : PlainItem) (z : ChunkRef) (j : PlainItem) → Carries s t x y i → item_at s z ≡ Some j → same_chunk z y ≡ false
filled_chunk s t x y i z j h e = go (same_chunk z y) refl where
  go : (b : Bool) → same_chunk z y ≡ b → b ≡ false
  go false f = refl
  go true f = absurd (false≢true (ap is_some (sym h.empty ∙ ap (item_at s) (sym (tells_chunk.exact z y f)) ∙ e)))

carries_other : (s t : State) (x y : ChunkRef) (i : PlainItem) (k : List ℕ) (z : ChunkRef) → Indexed s → Carries s t x y i → same_key k i.key ≡ false → find s k ≡ Some z → item_at t z ≡ item_at s z
carries_other s t x y i k z d h ne f =
    let w = d.item k z f in
    carries_item s t x y i z h
    ∙ ap (λ b. cond b (Some i) (cond (same_chunk z x) None (item_at s z))) (filled_chunk s t x y i z w.0 h w.1)
    ∙ ap (λ b. cond b None (item_at s z)) (other_chunk s k x z i d h.there f ne)

pub carries_fate : (s t : State) (x y : ChunkRef) (i : PlainItem) (k : List ℕ) → Indexed s → Carries s t x y i → fate t k ≡ fate s k
carries_fate s t x y i k d h = ap (fate_at t) (carries_find s t x y i k h) ∙ go (same_key k i.key) refl where
  other : (o : Option ChunkRef) → find s k ≡ o → same_key k i.key ≡ false → fate_at t o ≡ fate_at s o
  other None f e = refl
  other (Some z) f e = ap (life t.globals) (carries_other s t x y i k z d h e f) ∙ life-same s.globals t.globals (item_at s z) h.clock h.flush_limit

  go : (b : Bool) → same_key k i.key ≡ b → fate_at t (cond b (Some y) (find s k)) ≡ fate s k
  go true e =
      ap (life t.globals) (carries_there s t x y i h) ∙ life-same s.globals t.globals (Some i) h.clock h.flush_limit
      ∙ sym (ap (fate s) (same_key-exact k i.key e) ∙ ap (fate_at s) (d.keyed x i h.there) ∙ ap (life s.globals) h.there)
  go false e = other (find s k) refl e

pub carries_indexed : (s t : State) (x y : ChunkRef) (i : PlainItem) → Indexed s → Carries s t x y i → Indexed t
carries_indexed s t x y i d h = record {
  item = λ k z e. found k z (same_key k i.key) refl (sym (carries_find s t x y i k h) ∙ e);
  keyed = λ z j e. carries_find s t x y i j.key h ∙ keyed z j (same_chunk z y) refl (sym (carries_item s t x y i z h) ∙ e);
} where
  found : (k : List ℕ) (z : ChunkRef) (b : Bool) → same_key k i.key ≡ b → cond (same_key k i.key) (Some y) (find s k) ≡ Some z → (n : PlainItem) × (item_at t z ≡ Some n) × (n.key ≡ k)
  found k z true e f =
      let same : y ≡ z = some_same y z (ap (λ b. cond b (Some y) (find s k)) (sym e) ∙ f) in
      (i, ap (item_at t) (sym same) ∙ carries_there s t x y i h, sym (same_key-exact k i.key e))
  found k z false e f =
      let g : find s k ≡ Some z = ap (λ b. cond b (Some y) (find s k)) (sym e) ∙ f in
      let w = d.item k z g in
      (w.0, carries_other s t x y i k z d h e g ∙ w.1, w.2)

  moved : (z : ChunkRef) (j : PlainItem) (b : Bool) → same_key j.key i.key ≡ b → same_chunk z x ≡ false → item_at s z ≡ Some j → cond b (Some y) (find s j.key) ≡ Some z
  moved z j false e ne f = d.keyed z j f
  moved z j true e ne f =
      let same : z ≡ x = some_same z x (sym (d.keyed z j f) ∙ ap (find s) (same_key-exact j.key i.key e) ∙ d.keyed x i h.there) in
      absurd (false≢true (sym ne ∙ ap (same_chunk z) (sym same) ∙ same_chunk-self z))

  keyed : (z : ChunkRef) (j : PlainItem) (b : Bool) → same_chunk z y ≡ b → cond (same_chunk z y) (Some i) (cond (same_chunk z x) None (item_at s z)) ≡ Some j → cond (same_key j.key i.key) (Some y) (find s j.key) ≡ Some z
  keyed z j true e f =
      let same : i ≡ j = some_same i j (ap (λ b. cond b (Some i) (cond (same_chunk z x) None (item_at s z))) (sym e) ∙ f) in
      ap (λ (n : PlainItem). cond (same_key n.key i.key) (Some y) (find s n.key)) (sym same)
      ∙ ap (λ b. cond b (Some y) (find s i.key)) (same_key-self i.key) ∙ ap Some (sym (tells_chunk.exact z y e))
  keyed z j false e f =
      let p = cond_some (same_chunk z x) (item_at s z) j (ap (λ b. cond b (Some i) (cond (same_chunk z x) None (item_at s z))) (sym e) ∙ f) in
      moved z j (same_key j.key i.key) refl p.0 p.1
