-- The mark of a queue leaves, or goes in front of the entry that it stands behind.
use Rattle.std.specs.Prelude.{ℕ, ◌≡◌, ◌+◌, Bool, true, false, cond, List, [], ◌∷◌, Option, None, Some, is_some, refl, ◌⊎◌, IfOk}
use Rattle.std.specs.declared.result.Result.{Result}
use Rattle.std.proofs.Common.{sym, ◌∙◌, ap, arith, inl, inr}
use Rattle.std.proofs.lemmas.Bool.{cases_Bool}
use Rattle.std.proofs.lemmas.Result.{IfOk-weaker}
use Rattle.std.proofs.lemmas.List.{get_or-set_same, set-set, length-set}
use Rattle.std.specs.Option.{option_map}
use Rattle.rev_items.specs.Plain.{PlainItem}
use Rattle.rev_items.specs.Rules.{is_past}
use Rattle.rev_model.specs.Chunk.{same_entry}
use Rattle.rev_model.specs.Lists.{has, count, without, before, before_from, insert, has_after}
use Rattle.rev_model.proofs.ListLaws.{has-without}
use Rattle.rev_model.specs.State.{State, WellFormed, queue_of, queue_place, item_at, IsClass}
use Rattle.rev_model.specs.Move.{is_class, Takes, Puts, moved, Possible, with_queue}
use Rattle.rev_model.proofs.Keeps.{keeps-take_queue, keeps-put_queue, count-insert}
use Rattle.rev_model.proofs.Undo.{tells_entry, queue_distinct}
use Rattle.rev_model.proofs.Places.{queue_in, free_in}
use Rattle.rev_model.specs.Sound.{SoundBut, Stands}
use Rattle.rev_model.specs.Actor.{passed, crawl, crawl_entry, crawl_item}
use Rattle.rev_model.specs.Causes.{crawl_removals, crawl_entry_removals, crawl_item_removals}
use Rattle.rev_model.specs.Track.{removal}
use Rattle.rev_model.specs.Words.{is_dead, header_of, dropped, counted}
use Rattle.rev_model.specs.declared.ChunkRef.{ChunkRef}
use Rattle.rev_model.specs.declared.Entry.{Entry}
use Rattle.rev_model.specs.declared.Entry.TheVariants.{Chunk, Mark}
use Rattle.rev_model.specs.declared.Queue.{Queue}
use Rattle.rev_model.specs.declared.Counter.TheVariants.{CrawlerReclaimed}
use Rattle.rev_model.specs.declared.Cause.TheVariants.{ReclaimedByCrawler}
use Rattle.rev_model.specs.declared.Globals.{Globals}
use Rattle.rev_model.specs.declared.ItemHeader.{ItemHeader}
use Rattle.rev_model.specs.declared.Outcome.{Outcome}
use Rattle.rev_model.specs.declared.Outcome.TheVariants as outcome
use Rattle.rev_model.specs.declared.Listed.TheVariants.{InQueue}
use Rattle.rev_model.specs.declared.Placed.TheVariants.{ToQueue}
use Rattle.rev_edits.proofs.Rest.{Rest}
use Rattle.rev_crawler.proofs.Counting.{has-mark_out, count-mark_out, rest-queue}

some_inj : {X : Type 0} (x y : X) → Some x ≡ Some y → x ≡ y
some_inj x y e = cc

-- what stands before an entry is in the list
before_from-there : (e d : Entry) (last : Option Entry) (es : List Entry) → before_from same_entry e last es ≡ Some d → (last ≡ Some d) ⊎ (has same_entry d es ≡ true)
before_from-there e d last [] h = inl h
before_from-there e d last (y ∷ ys) h = elim (cases_Bool (same_entry e y)) [
  | inl f ↦ inl (rw f at h)
  | inr f ↦ elim (before_from-there e d (Some y) ys (rw f at h)) [
    | inl g ↦ inr (rw (some_inj y d g) (rw (tells_entry.self d) refl))
    | inr g ↦ inr (elim (cases_Bool (same_entry d y)) [ inl k ↦ rw k refl | inr k ↦ rw k g ])
  ]
]

pub before_there : (e d : Entry) (es : List Entry) → before same_entry e es ≡ Some d → has same_entry d es ≡ true
before_there e d es h = elim (before_from-there e d None es h) [ inl g ↦ absurd (cc) | inr g ↦ g ]

before_after : (e : Entry) (es : List Entry) (o : Option Entry) → before same_entry e es ≡ o → has_after same_entry o es ≡ true
before_after e es None h = refl
before_after e es (Some d) h = before_there e d es h

-- a chunk in a queue of a sound store has an item
pub entry_stands : (s : State) (h : Option ChunkRef) → SoundBut h s → (c : ℕ) → IsClass s.fixed c → (q : Queue) (x : ChunkRef) → has same_entry (Chunk x) (queue_of s c q) ≡ true → (i : PlainItem) × Stands s c q x i
entry_stands s h sound c class q x there =
    let some = some_of (item_at s x) (sound.well.filled.queued_items (queue_place c q) x there) in
    (some.0, record { place = queue_in s sound.well c class q; class = free_in s sound.well c class; there = there; item = some.1; key = sound.filed.keyed x some.0 some.1 })
  where
    some_of : (o : Option PlainItem) → is_some o ≡ true → (i : PlainItem) × (o ≡ Some i)
    some_of None h = absurd (cc)
    some_of (Some i) h = (i, refl)

module _ (s : State) (well : WellFormed s) (c : ℕ) (class : IsClass s.fixed c) (q : Queue) (mark : has same_entry Mark (queue_of s c q) ≡ true) where
  abbrev pub left : List Entry
  left = without same_entry Mark (queue_of s c q)

  pub take_mark : Possible (Takes (InQueue c q Mark)) s
  take_mark = keeps-take_queue s well c q Mark (queue_in s well c class q, mark)

  left_is : queue_of (with_queue s c q left) c q ≡ left
  left_is = get_or-set_same s.queues (queue_place c q) left [] (queue_in s well c class q)

  pub chunk_left : (x : ChunkRef) → has same_entry (Chunk x) (queue_of s c q) ≡ true → has same_entry (Chunk x) (queue_of (with_queue s c q left) c q) ≡ true
  chunk_left x there = ap (has same_entry (Chunk x)) left_is ∙ has-mark_out x (queue_of s c q) ∙ there

  pub put_mark : (x : ChunkRef) (o : Option Entry) → o ≡ before same_entry (Chunk x) (queue_of (with_queue s c q left) c q) → Possible (Puts (ToQueue c q Mark o)) (with_queue s c q left)
  put_mark x o e = keeps-put_queue (with_queue s c q left) take_mark.after c q Mark o (
    rw length-set (queue_in s well c class q),
    ap (has same_entry Mark) left_is ∙ has-without same_entry tells_entry Mark (queue_of s c q) (queue_distinct s well c q),
    before_after (Chunk x) (queue_of (with_queue s c q left) c q) o (sym e),
  )
      tt

  pub passed_is : (x : ChunkRef) (o : Option Entry) → o ≡ before same_entry (Chunk x) (queue_of (with_queue s c q left) c q) → moved (Puts (ToQueue c q Mark o)) (with_queue s c q left) ≡ passed s c q (Chunk x) left
  passed_is x o e =
      let ahead : o ≡ before same_entry (Chunk x) left = e ∙ ap (before same_entry (Chunk x)) left_is in
      ap (with_queue (with_queue s c q left) c q) (ap (insert same_entry Mark o) left_is ∙ ap (λ a. insert same_entry Mark a left) ahead)
      ∙ ap (λ qs. record s { queues = qs }) (set-set s.queues (queue_place c q) left (insert same_entry Mark (before same_entry (Chunk x) left) left))

  pub rest-left : (h : Option ChunkRef) → Rest h s → Rest h (with_queue s c q left)
  rest-left h = rest-queue h s c q left (queue_in s well c class q) (λ x. count-mark_out x (queue_of s c q))

  pub rest-passed : (h : Option ChunkRef) (x : ChunkRef) → Rest h s → Rest h (passed s c q (Chunk x) left)
  rest-passed h x = rest-queue h s c q (insert same_entry Mark (before same_entry (Chunk x) left) left) (queue_in s well c class q)
      (λ y. let put : count same_entry (Chunk y) (insert same_entry Mark (before same_entry (Chunk x) left) left) ≡ count same_entry (Chunk y) left + 0 = count-insert same_entry tells_entry Mark (Chunk y) (before same_entry (Chunk x) left) left in omega (arith, put, count-mark_out y (queue_of s c q)))

-- ---- what a crawl answers, and what it removes

-- where a store and an outcome are known apart
pub answers : {R E : Type 0} (r : Result (Outcome × R) E) (t u : State) (o : Outcome) (is : State × Outcome) → (u, o) ≡ is → IfOk r (λ p. (t ≡ u) × (p.0 ≡ o)) → IfOk r (λ p. (t, p.0) ≡ is)
answers r t u o is e h = IfOk-weaker r (λ p. (t ≡ u) × (p.0 ≡ o)) (λ p. (t, p.0) ≡ is) (λ p f. (λ i. (f.0 i, f.1 i)) ∙ e) h

-- where the store is as it was
pub answers_same : {R E : Type 0} (r : Result (Outcome × R) E) (s : State) (o : Outcome) (is : State × Outcome) → (s, o) ≡ is → IfOk r (λ p. p.0 ≡ o) → IfOk r (λ p. (s, p.0) ≡ is)
answers_same r s o is e h = IfOk-weaker r (λ p. p.0 ≡ o) (λ p. (s, p.0) ≡ is) (λ p f. ap (λ k. (s, k)) f ∙ e) h

-- a chunk without a header has no item
pub no_item : (o : Option PlainItem) → option_map header_of o ≡ None → o ≡ None
no_item None e = refl
no_item (Some i) e = absurd (cc)

-- the header tells whether the item is dead
pub death : (g h : Globals) (i : PlainItem) (k : ItemHeader) (b : Bool) → g ≡ h → header_of i ≡ k → is_past g.clock g.flush_limit k.moment k.cas ≡ b → is_dead h i ≡ b
death g h i k b same is e = ap (λ (j : Globals). is_dead j i) (sym same) ∙ ap (λ (j : ItemHeader). is_past g.clock g.flush_limit j.moment j.cas) is ∙ e

module _ (s : State) (c : ℕ) (q : Queue) (x : ChunkRef) where
  pub crawl_none : item_at s x ≡ None → (s, outcome.Idle) ≡ crawl_item s c q x (item_at s x)
  crawl_none e = rw e refl

  pub crawl_none-told : item_at s x ≡ None → [] ≡ crawl_item_removals s (item_at s x)
  crawl_none-told e = rw e refl

  pub crawl_dead : (i : PlainItem) → item_at s x ≡ Some i → is_dead s.globals i ≡ true → (counted c CrawlerReclaimed (dropped c q x i s), outcome.Reclaimed) ≡ crawl_item s c q x (item_at s x)
  crawl_dead i e dead = rw (e, dead) refl

  pub crawl_dead-told : (i : PlainItem) → item_at s x ≡ Some i → is_dead s.globals i ≡ true → removal (item_at s x) (Some ReclaimedByCrawler) ≡ crawl_item_removals s (item_at s x)
  crawl_dead-told i e dead = rw (e, dead) refl

  pub crawl_alive : (i : PlainItem) → item_at s x ≡ Some i → is_dead s.globals i ≡ false → (passed s c q (Chunk x) (without same_entry Mark (queue_of s c q)), outcome.Passed) ≡ crawl_item s c q x (item_at s x)
  crawl_alive i e alive = rw (e, alive) refl

  pub crawl_alive-told : (i : PlainItem) → item_at s x ≡ Some i → is_dead s.globals i ≡ false → [] ≡ crawl_item_removals s (item_at s x)
  crawl_alive-told i e alive = rw (e, alive) refl

-- ---- the cases of a crawl

pub case_one : {X : Type 0} (b : Bool) (x y : X) → b ≡ true → x ≡ cond b x y
case_one b x y e = sym (ap (λ k. cond k x y) e)

pub case_two : {X : Type 0} (b d : Bool) (x y z : X) → b ≡ false → d ≡ true → y ≡ cond b x (cond d y z)
case_two b d x y z e f = sym (ap (λ k. cond k x (cond d y z)) e ∙ ap (λ k. cond k y z) f)

pub case_three : {X : Type 0} (b d : Bool) (x y z : X) → b ≡ false → d ≡ false → z ≡ cond b x (cond d y z)
case_three b d x y z e f = sym (ap (λ k. cond k x (cond d y z)) e ∙ ap (λ k. cond k y z) f)

module _ (s : State) (c : ℕ) (q : Queue) where
  pub crawl_bad : is_class s c ≡ false → (s, outcome.BadClass) ≡ crawl s c q
  crawl_bad e = sym (ap (λ b. cond b (cond (has same_entry Mark (queue_of s c q)) (crawl_entry s c q (before same_entry Mark (queue_of s c q))) (s, outcome.Idle)) (s, outcome.BadClass)) e)

  pub crawl_bad-told : is_class s c ≡ false → [] ≡ crawl_removals s c q
  crawl_bad-told e = sym (ap (λ b. cond b (cond (has same_entry Mark (queue_of s c q)) (crawl_entry_removals s (before same_entry Mark (queue_of s c q))) []) []) e)

  module _ (class : is_class s c ≡ true) where
    in_class : crawl s c q ≡ cond (has same_entry Mark (queue_of s c q)) (crawl_entry s c q (before same_entry Mark (queue_of s c q))) (s, outcome.Idle)
    in_class = ap (λ b. cond b (cond (has same_entry Mark (queue_of s c q)) (crawl_entry s c q (before same_entry Mark (queue_of s c q))) (s, outcome.Idle)) (s, outcome.BadClass)) class

    in_class-told : crawl_removals s c q ≡ cond (has same_entry Mark (queue_of s c q)) (crawl_entry_removals s (before same_entry Mark (queue_of s c q))) []
    in_class-told = ap (λ b. cond b (cond (has same_entry Mark (queue_of s c q)) (crawl_entry_removals s (before same_entry Mark (queue_of s c q))) []) []) class

    pub crawl_idle : has same_entry Mark (queue_of s c q) ≡ false → (s, outcome.Idle) ≡ crawl s c q
    crawl_idle e = sym (in_class ∙ ap (λ b. cond b (crawl_entry s c q (before same_entry Mark (queue_of s c q))) (s, outcome.Idle)) e)

    pub crawl_idle-told : has same_entry Mark (queue_of s c q) ≡ false → [] ≡ crawl_removals s c q
    crawl_idle-told e = sym (in_class-told ∙ ap (λ b. cond b (crawl_entry_removals s (before same_entry Mark (queue_of s c q))) []) e)

    module _ (mark : has same_entry Mark (queue_of s c q) ≡ true) (o : Option Entry) (e : before same_entry Mark (queue_of s c q) ≡ o) where
      pub crawl_is : crawl_entry s c q o ≡ crawl s c q
      crawl_is = sym (in_class ∙ (ap (λ b. cond b (crawl_entry s c q (before same_entry Mark (queue_of s c q))) (s, outcome.Idle)) mark ∙ ap (crawl_entry s c q) e))

      pub crawl_is-told : crawl_entry_removals s o ≡ crawl_removals s c q
      crawl_is-told = sym (in_class-told ∙ (ap (λ b. cond b (crawl_entry_removals s (before same_entry Mark (queue_of s c q))) []) mark ∙ ap (crawl_entry_removals s) e))
