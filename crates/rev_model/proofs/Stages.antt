-- What becomes of a key as a step's parts go one after another, and that the removals which the step's record tells
-- say so, with the cause that is read off the states of the parts.
use Rattle.std.specs.Prelude.{ℕ, ◌≡◌, Bool, true, false, cond, not, ◌&&◌, List, [], ◌∷◌, ◌++◌, Option, None, Some, is_some, refl}
use Rattle.std.proofs.Common.{sym, ◌∙◌, ap, subst}
use Rattle.std.proofs.lemmas.Bool.{false≢true}
use Rattle.rev_items.specs.Plain.{PlainItem}
use Rattle.rev_model.specs.State.{State, item_at, find, owner_of}
use Rattle.rev_model.specs.Words.{is_dead, dropped, queue_with}
use Rattle.rev_model.specs.Client.{lookup, looked_at, looked_item, removed}
use Rattle.rev_model.specs.Track.{held, Removal, removal}
use Rattle.rev_model.proofs.Track.{key_removals}
use Rattle.rev_model.specs.Causes.{dead_removals, looked_removals, look_removals, found_removals}
use Rattle.rev_model.specs.Events.{Part, ByLookup, Stage, cause_by, cause_among, is_stored}
use Rattle.rev_model.proofs.Fates.{Indexed, fate, fate-held, fate-none, stays}
use Rattle.rev_model.proofs.Leaving.{Does, keeps, takes, removal_of, Goes, goes_stays, goes_drops, key_removals-append}
use Rattle.rev_model.specs.declared.ChunkRef.{ChunkRef}
use Rattle.rev_model.specs.declared.Cause.{Cause}
use Rattle.rev_model.specs.declared.Cause.TheVariants.{ReclaimedByHit}
use Rattle.rev_model.specs.declared.Outcome.{Outcome}

-- ---- a lookup, and what it found

module _ (k : List ℕ) (s : State) (d : Indexed s) where
  looked_goes : (x : ChunkRef) (o : Option PlainItem) → item_at s x ≡ o → Goes (cause_by ByLookup) k s (looked_item s x o).0 (dead_removals s o)
  looked_goes x None e = goes_stays (cause_by ByLookup) k s s d (stays s)
  looked_goes x (Some i) e = go (is_dead s.globals i) where
    go : (b : Bool) → Goes (cause_by ByLookup) k s (cond {A = State × Option (ChunkRef × PlainItem)} b (dropped (owner_of s x.page) (queue_with s (owner_of s x.page) x) x i s, None) (s, Some (x, i))).0 (cond b (removal (Some i) (Some ReclaimedByHit)) [])
    go true = goes_drops (cause_by ByLookup) k s (dropped (owner_of s x.page) (queue_with s (owner_of s x.page) x) x i s) x i ReclaimedByHit d record { there = e; content = refl; index = refl; clock = refl; flush_limit = refl } refl
    go false = goes_stays (cause_by ByLookup) k s s d (stays s)

  look_at_goes : (o : Option ChunkRef) → Goes (cause_by ByLookup) k s (looked_at s o).0 (looked_removals s o)
  look_at_goes None = goes_stays (cause_by ByLookup) k s s d (stays s)
  look_at_goes (Some x) = looked_goes x (item_at s x) refl

  pub look_goes : (l : List ℕ) → Goes (cause_by ByLookup) k s (lookup s l).0 (look_removals s l)
  look_goes l = look_at_goes (find s l)

-- what a lookup found is the key's item, and nothing was changed
pub record Found (s : State) (l : List ℕ) (x : ChunkRef) (i : PlainItem) : Type 0 where
  pub there : item_at (lookup s l).0 x ≡ Some i
  pub key : i.key ≡ l

one_item : (i j : PlainItem) → Some i ≡ Some j → i ≡ j
one_item i j e = cc

pub some_pair : (p q : ChunkRef × PlainItem) → Some p ≡ Some q → p ≡ q
some_pair p q e = cc

module _ (s : State) (l : List ℕ) (d : Indexed s) (x : ChunkRef) (i : PlainItem) where
  abbrev FoundIn : State × Option (ChunkRef × PlainItem) → Type 0
  FoundIn r = r.1 ≡ Some (x, i) → (item_at r.0 x ≡ Some i) × (i.key ≡ l)

  found_item : (y : ChunkRef) (o : Option PlainItem) → item_at s y ≡ o → find s l ≡ Some y → FoundIn (looked_item s y o)
  found_item y None e f h = absurd (false≢true (ap is_some h))
  found_item y (Some j) e f h = go (is_dead s.globals j) h where
    w : (i : PlainItem) × (item_at s y ≡ Some i) × (i.key ≡ l)
    w = d.item l y f

    go : (b : Bool) → FoundIn (cond b (dropped (owner_of s y.page) (queue_with s (owner_of s y.page) y) y j s, None) (s, Some (y, j)))
    go true h = absurd (false≢true (ap is_some h))
    go false h =
        let same : (y, j) ≡ (x, i) = some_pair (y, j) (x, i) h in
        let own : w.0 ≡ j = one_item w.0 j (sym w.1 ∙ e) in
        (subst (λ (p : ChunkRef × PlainItem). item_at s p.0 ≡ Some p.1) same e, ap (λ (p : ChunkRef × PlainItem). p.1.key) (sym same) ∙ ap (λ (n : PlainItem). n.key) (sym own) ∙ w.2)

  found_at : (o : Option ChunkRef) → find s l ≡ o → FoundIn (looked_at s o)
  found_at None e h = absurd (false≢true (ap is_some h))
  found_at (Some y) e h = found_item y (item_at s y) refl e h

  pub found_is : (lookup s l).1 ≡ Some (x, i) → Found s l x i
  found_is h = let w = found_at (find s l) refl h in record { there = w.0; key = w.1 }

-- it goes
pub cleared_goes : (f : Bool → Cause) (c : Cause) (k : List ℕ) (s : State) → Indexed s → ((a : Bool) → c ≡ f a) → (o : Option (ChunkRef × PlainItem)) → ((x : ChunkRef) (i : PlainItem) → o ≡ Some (x, i) → item_at s x ≡ Some i) → Goes f k s (removed o s) (found_removals (Some c) o)
cleared_goes f c k s d e None h = goes_stays f k s s d (stays s)
cleared_goes f c k s d e (Some (x, i)) h =
    goes_drops f k s (dropped (owner_of s x.page) (queue_with s (owner_of s x.page) x) x i s) x i c d record { there = h x i refl; content = refl; index = refl; clock = refl; flush_limit = refl } (e (not (is_dead s.globals i)))

-- ---- from parts to the cause

-- what stands behind the last part of a step, of a key that the step may store or not: where it does not, the key is
-- held as it was, and nothing is told of it
abbrev pub Ends : List ℕ → Bool → State → List Removal → State × Outcome → Type 0
Ends k own s rs r = own && is_stored r.1 ≡ false → (held r.0 k ≡ held s k) × (key_removals k rs ≡ [])

-- the parts of a step with their removals, and what stands behind them
abbrev pub Walked : List ℕ → Bool → State → List Stage → List Removal → State × Outcome → Type 0
Walked k own s [] rs r = Ends k own s rs r
Walked k own s (g ∷ gs) rs r = (first : List Removal) × (later : List Removal) × (rs ≡ first ++ later) × Goes (cause_by g.part) k s g.after first × Walked k own g.after gs later r

-- a key is held as it was, and nothing is told of it, or it left, which is told once, with the cause
pub data Leaves (k : List ℕ) (s t : State) (rs : List Removal) (cause : Option Cause) : Type 0 where
  stays_so : held t k ≡ held s k → key_removals k rs ≡ [] → Leaves k s t rs cause
  leaves : (c : Cause) → held s k ≡ true → held t k ≡ false → key_removals k rs ≡ removal_of k c → cause ≡ Some c → Leaves k s t rs cause

-- the life of the key's item, where it is held
abbrev Lives : List ℕ → State → Bool → Type 0
Lives k s a = (b : Bool) → fate s k ≡ Some b → b ≡ a

-- after one part, which took nothing out
left_later : (k : List ℕ) (p : Part) (s t u : State) (xs ys : List Removal) (later : Option Cause) (a : Bool) → held t k ≡ held s k → key_removals k xs ≡ [] → Leaves k t u ys later → Leaves k s u (xs ++ ys) (cond (held t k) later (Some (cause_by p a)))
left_later k p s t u xs ys later a same n (stays_so h m) = stays_so (h ∙ same) (key_removals-append k xs ys ∙ ap (λ l. l ++ key_removals k ys) n ∙ m)
left_later k p s t u xs ys later a same n (leaves c was gone told is) =
    leaves c (sym same ∙ was) gone (key_removals-append k xs ys ∙ ap (λ l. l ++ key_removals k ys) n ∙ told) (ap (λ b. cond b later (Some (cause_by p a))) was ∙ is)

-- after one part, which took the key out
left_here : (k : List ℕ) (p : Part) (s t u : State) (xs ys : List Removal) (later : Option Cause) (a : Bool) → held s k ≡ true → held t k ≡ false → key_removals k xs ≡ removal_of k (cause_by p a) → Leaves k t u ys later → Leaves k s u (xs ++ ys) (cond (held t k) later (Some (cause_by p a)))
left_here k p s t u xs ys later a was gone told (stays_so h m) =
    leaves (cause_by p a) was (h ∙ gone) (key_removals-append k xs ys ∙ ap (λ l. l ++ key_removals k ys) told ∙ ap (λ l. removal_of k (cause_by p a) ++ l) m)
    (ap (λ b. cond b later (Some (cause_by p a))) gone)
left_here k p s t u xs ys later a was gone told (leaves c held_there g n is) = absurd (false≢true (sym gone ∙ held_there))

left_on : (k : List ℕ) (p : Part) (s t u : State) (xs ys : List Removal) (later : Option Cause) (a : Bool) → Indexed s → Indexed t → Lives k s a → Does (cause_by p) k s t xs → (Lives k t a → Leaves k t u ys later) → Leaves k s u (xs ++ ys) (cond (held t k) later (Some (cause_by p a)))
left_on k p s t u xs ys later a d e l (keeps n f) h =
    left_later k p s t u xs ys later a (sym (fate-held t k e) ∙ ap is_some f ∙ fate-held s k d) n (h (λ b g. l b (sym f ∙ g)))
left_on k p s t u xs ys later a d e l (takes b w f n) h =
    left_here k p s t u xs ys later a (sym (fate-held s k d) ∙ ap is_some w) (fate-none t k e f) (n ∙ ap (λ v. removal_of k (cause_by p v)) (l b w))
    (h (λ v g. absurd (false≢true (ap is_some (sym f ∙ g)))))

-- what becomes of a key that the step does not store
pub walked_leaves : (k : List ℕ) (own : Bool) (s : State) (gs : List Stage) (rs : List Removal) (r : State × Outcome) (a : Bool) → Indexed s → Lives k s a → Walked k own s gs rs r → own && is_stored r.1 ≡ false → Leaves k s r.0 rs (cause_among a k gs)
walked_leaves k own s [] rs r a d l w h = let e = w h in stays_so e.0 e.1
walked_leaves k own s (g ∷ gs) rs r a d l w h =
    subst (λ q. Leaves k s r.0 q (cause_among a k (g ∷ gs))) (sym w.2)
    (left_on k g.part s g.after r.0 w.0 w.1 (cause_among a k gs) a d w.3.indexed l w.3.does (λ m. walked_leaves k own g.after gs w.1 r a w.3.indexed m w.4 h))
