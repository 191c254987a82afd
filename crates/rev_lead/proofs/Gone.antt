-- A key that is not held, behind the steps that take nothing in.
use Rattle.std.specs.Prelude.{ℕ, ◌≡◌, Bool, true, false, cond, ◌&&◌, List, [], ◌∷◌, Option, None, Some, is_some, nat_eq, refl}
use Rattle.std.proofs.Common.{sym, ◌∙◌, ap, inl, inr}
use Rattle.std.proofs.lemmas.Bool.{cases_Bool, false≢true}
use Rattle.std.specs.FinMap as map
use Rattle.rev_items.specs.Plain.{PlainItem}
use Rattle.rev_model.specs.Chunk.{same_chunk, same_entry}
use Rattle.rev_model.specs.Lists.{has}
use Rattle.rev_model.specs.State.{State, find, item_at, owner_of, queue_of}
use Rattle.rev_model.specs.Words.{is_dead, dropped, queue_with, with_item, headed, counted}
use Rattle.rev_model.specs.Client.{lookup, looked_at, looked_item, delete_found, delete, removed, Deletes}
use Rattle.rev_model.specs.Actor.{Step, Client, Bump, step, bump, bump_from, bump_item}
use Rattle.rev_model.specs.Track.{same_key}
use Rattle.rev_model.specs.declared.ChunkRef.{ChunkRef}
use Rattle.rev_model.specs.declared.Entry.TheVariants.{Chunk}
use Rattle.rev_model.specs.declared.Counter.TheVariants as counter
use Rattle.rev_model.specs.declared.Queue.{Queue}
use Rattle.rev_model.specs.declared.Queue.TheVariants.{Cold, Warm}
use Rattle.rev_model.specs.declared.BumpEntry.{BumpEntry}
use Rattle.rev_model.specs.declared.Outcome.{Outcome}
use Rattle.rev_model.specs.declared.Outcome.TheVariants as outcome
use Rattle.rev_model.proofs.Laws.{get_put}
use Rattle.rev_model.proofs.Undo.{same_chunk-self, tells_chunk}
use Rattle.rev_model.proofs.Fates.{key_removed}
use Rattle.rev_tree.specs.Steps.{next}
use Rattle.rev_lead.specs.Agrees.{holding_in, holding_at, holding_of}

-- nothing is held of a key that leads nowhere, or to a chunk without an item
gone_at : (s : State) (k : List ℕ) (o : Option ChunkRef) → find s k ≡ o → holding_at s o ≡ None → holding_of s k ≡ None
unfolding holding_of
gone_at s k o e h = ap (holding_at s) e ∙ h

gone_here : (s : State) (k : List ℕ) (o : Option ChunkRef) → find s k ≡ o → holding_of s k ≡ None → holding_at s o ≡ None
unfolding holding_of
gone_here s k o e h = ap (holding_at s) (sym e) ∙ h

empty_chunk : (s : State) (x : ChunkRef) → item_at s x ≡ None → holding_at s (Some x) ≡ None
empty_chunk s x e = ap (holding_in s x) e

none_some : (i : PlainItem) → None ≡ Some i → ⊥
none_some i e = cc

no_item : (s : State) (x : ChunkRef) (o : Option PlainItem) → item_at s x ≡ o → holding_at s (Some x) ≡ None → item_at s x ≡ None
no_item s x None e h = e
no_item s x (Some i) e h = absurd (false≢true (sym (ap is_some (ap (holding_in s x) (sym e) ∙ h))))

-- the item of the chunk that the key leads to leaves
gone_dropped : (s : State) (k : List ℕ) (c : ℕ) (q : Queue) (x : ChunkRef) (i : PlainItem) → find s k ≡ Some x → holding_of (dropped c q x i s) k ≡ None
gone_dropped s k c q x i f =
    let t : State = dropped c q x i s in
    let there : find t k ≡ cond (same_key k i.key) None (Some x) = key_removed s i.key k ∙ ap (λ o. cond (same_key k i.key) None o) f in
    let empty : item_at t x ≡ None = get_put s x None x ∙ ap (λ b. cond b None (item_at s x)) (same_chunk-self x) in
    elim (cases_Bool (same_key k i.key)) [
      | inl e ↦ gone_at t k None (there ∙ ap (λ b. cond b None (Some x)) e) refl
      | inr e ↦ gone_at t k (Some x) (there ∙ ap (λ b. cond b None (Some x)) e) (empty_chunk t x empty)
    ]

-- what a lookup finds of the key leaves
gone_looked : (s : State) (k : List ℕ) (x : ChunkRef) (o : Option PlainItem) → find s k ≡ Some x → item_at s x ≡ o → holding_of (delete_found (looked_item s x o)).0 k ≡ None
gone_looked s k x None f e = gone_at s k (Some x) f (empty_chunk s x e)
gone_looked s k x (Some i) f e = elim (cases_Bool (is_dead s.globals i)) [
  | inl h ↦ rw h (gone_dropped s k (owner_of s x.page) (queue_with s (owner_of s x.page) x) x i f)
  | inr h ↦ rw h (gone_dropped s k (owner_of s x.page) (queue_with s (owner_of s x.page) x) x i f)
]

gone_deleted : (s : State) (k : List ℕ) (o : Option ChunkRef) → find s k ≡ o → holding_of (delete_found (looked_at s o)).0 k ≡ None
gone_deleted s k None f = gone_at s k None f refl
gone_deleted s k (Some x) f = gone_looked s k x (item_at s x) f refl

-- behind a delete nothing is held of its key
pub deleted_gone : (s : State) (k : List ℕ) → holding_of (next s (Client (Deletes k))) k ≡ None
unfolding next
deleted_gone s k = gone_deleted s k (find s k) refl

-- an item that is put where one was
gone_put : (s : State) (k : List ℕ) (y : ChunkRef) (i j : PlainItem) (t : State) → item_at s y ≡ Some i → t.content ≡ map.insert s.content y j → t.index ≡ s.index → (o : Option ChunkRef) → find s k ≡ o → holding_at s o ≡ None → holding_of t k ≡ None
gone_put s k y i j t there put same None f h = gone_at t k None (ap (λ m. map.get m k) same ∙ f) refl
gone_put s k y i j t there put same (Some x) f h =
    let old : item_at s x ≡ None = no_item s x (item_at s x) refl h in
    let new : item_at t x ≡ cond (same_chunk x y) (Some j) (item_at s x) = ap (λ m. map.get m x) put ∙ get_put s y (Some j) x in
    gone_at t k (Some x) (ap (λ m. map.get m k) same ∙ f) (empty_chunk t x (elim (cases_Bool (same_chunk x y)) [
      | inl e ↦ absurd (none_some i (sym old ∙ ap (item_at s) (tells_chunk.exact x y e) ∙ there))
      | inr e ↦ new ∙ ap (λ b. cond b (Some j) (item_at s x)) e ∙ old
    ]))

gone_bumped_item : (s : State) (k : List ℕ) (b : BumpEntry) (bs : List BumpEntry) (o : Option PlainItem) → item_at s b.chunk ≡ o → holding_of s k ≡ None → holding_of (bump_item b.chunk b.cas o (record s { bump = bs })).0 k ≡ None
gone_bumped_item s k b bs None e h = gone_at (record s { bump = bs }) k (find s k) refl (gone_here s k (find s k) refl h)
gone_bumped_item s k b bs (Some i) e h = elim (cases_Bool (nat_eq i.cas b.cas && (i.bits.active && has same_entry (Chunk b.chunk) (queue_of s (owner_of s b.chunk.page) Cold)))) [
  | inl t ↦ rw t (gone_put s k b.chunk i _ _ e refl refl (find s k) refl (gone_here s k (find s k) refl h))
  | inr t ↦ rw t (gone_at (record s { bump = bs }) k (find s k) refl (gone_here s k (find s k) refl h))
]

gone_bumped : (s : State) (k : List ℕ) (bs : List BumpEntry) → holding_of s k ≡ None → holding_of (bump_from s bs).0 k ≡ None
gone_bumped s k [] h = h
gone_bumped s k (b ∷ bs) h = gone_bumped_item s k b bs (item_at s b.chunk) refl h

-- a step of the bump queue takes nothing in
pub bumped_gone : (s : State) (k : List ℕ) → holding_of s k ≡ None → holding_of (next s Bump) k ≡ None
unfolding next
bumped_gone s k h = gone_bumped s k s.bump h
