-- What befell a key, and what mentions it, as the tree grows and is pruned.
use Rattle.std.proofs.Common.{◌≡◌, ℕ, suc, zero, ◌+◌, ◌<◌, ◌≤◌, Bool, true, false, cond, List, [], ◌∷◌, ◌++◌, length, get_or, refl, ap, sym, ◌∙◌, subst, arith, Option, Some, None, ◌⊎◌, inl, inr, ⊎_elim}
use Rattle.std.specs.Prelude.{nat_eq}
use Rattle.std.proofs.lemmas.List.{length_push}
use Rattle.std.proofs.lemmas.Bool.{true≢false}
use Rattle.rev_items.specs.Hash.{hash_of}
use Rattle.rev_tree.specs.declared.mention.Mention.{Mention}
use Rattle.rev_tree.specs.Mentions.{Holds, Within}
use Rattle.rev_model.specs.Events.{event}
use Rattle.rev_model.specs.Track.{key_place_of}
use Rattle.rev_tree.specs.Steps.{State, Step, Outcome, PlainRecord, next}
use Rattle.rev_tree.specs.Tree.{PlainBranch}
use Rattle.rev_tree.specs.Index.{PlainIndex}
use Rattle.rev_tree.specs.Leading.{IsIndex}
use Rattle.rev_tree.specs.Rows.{Row, RowsFall, row_of, row, rows_of, number_at, at, at_within, state_from}
use Rattle.rev_tree.specs.Machine.{lineage}
use Rattle.rev_tree.specs.Prunes.{is_among, is_below, spared, pruned}
use Rattle.rev_tree.specs.Positions.{Kept}
use Rattle.rev_tree.proofs.Named.{is_named}
use Rattle.rev_undotree.proofs.Recalled.{Recalled, unnamed_still}
use Rattle.rev_tree.specs.Mentioned.{Still, Mentioned, Noted}
use Rattle.rev_tree.proofs.Fits.{row_of-within}
use Rattle.rev_tree.proofs.Growth.{row_of-last, row_of-older, length_rows, number_at_le, le_cases}
use Rattle.rev_tree.proofs.Positions.{stands_at}
use Rattle.rev_tree.proofs.Rows.{at-step}
use Rattle.rev_tree.proofs.Trips.{lineage-step}
use Rattle.rev_tree.specs.declared.junction.Junction.{Junction}

-- ---- the state at a node does not see later rows, nor those that are pruned beside it

state_same : (q : Option Row) (s : State) (f g : Row → State) → ((r : Row) → q ≡ Some r → f r ≡ g r) → state_from q s f ≡ state_from q s g
state_same None s f g h = refl
state_same (Some r) s f g h = h r refl

within_more : (root : State) (rows : List (Option Row)) (o : Option Row) → RowsFall rows → (k n : ℕ) → n ≤ length rows → at_within k root (rows ++ o ∷ []) n ≡ at_within k root rows n
within_more root rows o f zero n l = refl
within_more root rows o f (suc k) n l =
    ap (λ q. state_from q root (λ r. next (at_within k root (rows ++ o ∷ []) r.parent) r.step)) (row_of-older rows o n l)
    ∙ state_same (row_of rows n) root (λ r. next (at_within k root (rows ++ o ∷ []) r.parent) r.step) (λ r. next (at_within k root rows r.parent) r.step)
    (λ r e. let h = f n r e in ap (λ s. next s r.step) (within_more root rows o f k r.parent (omega (arith, h, l))))

pub at_more : (root : State) (rows : List (Option Row)) (o : Option Row) → RowsFall rows → (n : ℕ) → n ≤ length rows → at root (rows ++ o ∷ []) n ≡ at root rows n
unfolding at
at_more root rows o f n l = within_more root rows o f n n l

none_either : (b : Bool) → ◌≡◌ {A = Option Row} (cond b None None) None
none_either true = refl
none_either false = refl

spared_get : (rows : List (Option Row)) (n k : ℕ) (qs : List (Option Row)) (m : ℕ) → get_or (spared rows n k qs) m None ≡ cond (is_below rows n (suc (k + m))) None (get_or qs m None)
spared_get rows n k [] m = sym (none_either (is_below rows n (suc (k + m))))
spared_get rows n k (q ∷ qs) zero = ap (λ j. cond (is_below rows n (suc j)) None q) (let e : k ≡ k + 0 = omega arith in e)
spared_get rows n k (q ∷ qs) (suc m) = spared_get rows n (suc k) qs m ∙ ap (λ j. cond (is_below rows n (suc j)) None (get_or qs m None)) (let e : suc k + m ≡ k + suc m = omega arith in e)

pruned_row : (rows : List (Option Row)) (n m : ℕ) → row_of (pruned rows n) m ≡ cond (is_below rows n m) None (row_of rows m)
pruned_row rows n zero = sym (none_either (is_below rows n 0))
pruned_row rows n (suc m) = spared_get rows n 0 rows m ∙ ap (λ j. cond (is_below rows n (suc j)) None (get_or rows m None)) (let e : 0 + m ≡ m = omega arith in e)

cond_false : (b c : Bool) → cond b true c ≡ false → (b ≡ false) × (c ≡ false)
cond_false true c e = absurd (true≢false e)
cond_false false c e = (refl, e)

not_among : (n m : ℕ) (l : List ℕ) → is_among n (l ++ m ∷ []) ≡ false → is_among n l ≡ false
not_among n m [] e = refl
not_among n m (x ∷ xs) e = let h = cond_false (nat_eq x n) (is_among n (xs ++ m ∷ [])) e in rw h.0 (not_among n m xs h.1)

-- a node that is not below another has its parent not below it
parent_beside : (rows : List (Option Row)) → RowsFall rows → (n m : ℕ) (r : Row) → row_of rows m ≡ Some r → is_below rows n m ≡ false → is_below rows n r.parent ≡ false
parent_beside rows f n m r e b = not_among n m (lineage rows r.parent) (sym (ap (is_among n) (lineage-step rows f m r e)) ∙ b)

row_beside : (rows : List (Option Row)) (n m : ℕ) → is_below rows n m ≡ false → row_of (pruned rows n) m ≡ row_of rows m
row_beside rows n m b = pruned_row rows n m ∙ ap (λ z. cond z None (row_of rows m)) b

within_pruned : (root : State) (rows : List (Option Row)) → RowsFall rows → (n k m : ℕ) → is_below rows n m ≡ false → at_within k root (pruned rows n) m ≡ at_within k root rows m
within_pruned root rows f n zero m b = refl
within_pruned root rows f n (suc k) m b =
    ap (λ q. state_from q root (λ r. next (at_within k root (pruned rows n) r.parent) r.step)) (row_beside rows n m b)
    ∙ state_same (row_of rows m) root (λ r. next (at_within k root (pruned rows n) r.parent) r.step) (λ r. next (at_within k root rows r.parent) r.step)
    (λ r e. ap (λ s. next s r.step) (within_pruned root rows f n k r.parent (parent_beside rows f n m r e b)))

at_pruned : (root : State) (rows : List (Option Row)) → RowsFall rows → (n m : ℕ) → is_below rows n m ≡ false → at root (pruned rows n) m ≡ at root rows m
unfolding at
at_pruned root rows f n m b = within_pruned root rows f n m m b

-- ---- what befell a key

-- the same states at both ends
still_same : (root : State) (rows more : List (Option Row)) (n : ℕ) (r : Row) (k : List ℕ) → at root more r.parent ≡ at root rows r.parent → at root more n ≡ at root rows n → Still root rows n r k → Still root more n r k
still_same root rows more n r k p q h = record {
  quiet = ap (λ s. event s r.step k) p ∙ h.quiet;
  stays = ap (λ s. key_place_of s k) p ∙ h.stays ∙ sym (ap (λ s. key_place_of s k) q);
}

pub mentioned_same : (root again : State) (rows more : List (Option Row)) (ms : List Mention) → again ≡ root → more ≡ rows → Mentioned root rows ms → Mentioned again more ms
mentioned_same root again rows more ms e f h = rw (e, f) h

no_row : (r : Row) → None ≡ Some r → ⊥
no_row r e = cc

pruned_case : (root : State) (rows : List (Option Row)) (ms : List Mention) (n : ℕ) → RowsFall rows → Mentioned root rows ms → (m : ℕ) (r : Row) (k : List ℕ) → row_of (pruned rows n) m ≡ Some r → (b : Bool) → is_below rows n m ≡ b →
    Still root (pruned rows n) m r k ⊎ Holds ms (hash_of k) m
pruned_case root rows ms n f h m r k e true b = absurd (no_row r (sym (pruned_row rows n m ∙ ap (λ z. cond z None (row_of rows m)) b) ∙ e))
pruned_case root rows ms n f h m r k e false b =
    let g : row_of rows m ≡ Some r = sym (row_beside rows n m b) ∙ e in
    let p = at_pruned root rows f n r.parent (parent_beside rows f n m r g b) in
    let q = at_pruned root rows f n m b in
    ⊎_elim (λ s. inl (still_same root rows (pruned rows n) m r k p q s)) (λ s. inr s) (h m r k g)

pub mentioned_pruned : (root : State) (rows : List (Option Row)) (ms : List Mention) (n : ℕ) → RowsFall rows → Mentioned root rows ms → Mentioned root (pruned rows n) ms
mentioned_pruned root rows ms n f h m r k e = pruned_case root rows ms n f h m r k e (is_below rows n m) refl

-- a session after a prune
pub prune_noted : (root t again : State) (b c : PlainBranch) (w : List Junction) (here issued n : ℕ) (ms : List Mention) (i : PlainIndex) → Noted root t b w here issued ms i → Kept again t c w here issued → again ≡ root → rows_of issued c ≡ pruned (rows_of issued b) n → IsIndex i c issued → Noted again t c w here issued ms i
prune_noted root t again b c w here issued n ms i h g e f x = record {
  kept = g;
  mentioned = mentioned_same root again (pruned (rows_of issued b) n) (rows_of issued c) ms e f (mentioned_pruned root (rows_of issued b) ms n h.kept.falls h.mentioned);
  within = h.within;
  indexed = x;
}

-- a session after a move
pub moved_noted : (root t u again : State) (b c : PlainBranch) (w v : List Junction) (j k issued : ℕ) (ms : List Mention) (i l : PlainIndex) → Noted root t b w j issued ms i → Kept again u c v k issued → again ≡ root → rows_of issued c ≡ rows_of issued b → IsIndex l c issued → Noted again u c v k issued ms l
moved_noted root t u again b c w v j k issued ms i l h g e f x = record { kept = g; mentioned = mentioned_same root again (rows_of issued b) (rows_of issued c) ms e f h.mentioned; within = h.within; indexed = x }

-- ---- a play

recalled_next : (t u : State) (d : Step) (o : Outcome) (x : PlainRecord) → Recalled t u d o x → u ≡ next t d
unfolding next
recalled_next t u d o x h = h.stepped

one_row : (q r : Row) → Some q ≡ Some r → q ≡ r
one_row q r e = cc

module _ (root t u : State) (rows : List (Option Row)) (falls : RowsFall rows) (p n : ℕ) (d : Step) (g : Bool) (o : Outcome) (x : PlainRecord) (ms l : List Mention)
    (above : p ≤ length rows) (numbered : n ≡ suc (length rows)) (here : t ≡ at root rows p) (old : Mentioned root rows ms) (recalled : Recalled t u d o x)
    (named : (h : ℕ) → is_named h u d o x.moves ≡ true → Holds l h n) (kept : (h m : ℕ) → Holds ms h m → Holds l h m) where
  abbrev more : List (Option Row)
  more = rows ++ Some (row p d g) ∷ []

  last : row_of more n ≡ Some (row p d g)
  last = ap (row_of more) numbered ∙ row_of-last rows (Some (row p d g))

  up : at root more p ≡ t
  up = at_more root rows (Some (row p d g)) falls p above ∙ sym here

  older : (m : ℕ) (r : Row) (k : List ℕ) → row_of more m ≡ Some r → m ≤ length rows → Still root more m r k ⊎ Holds l (hash_of k) m
  older m r k e a =
      let f : row_of rows m ≡ Some r = sym (row_of-older rows (Some (row p d g)) m a) ∙ e in
      let w = falls m r f in
      ⊎_elim (λ s. inl (still_same root rows more m r k (at_more root rows (Some (row p d g)) falls r.parent (omega (arith, w, a))) (at_more root rows (Some (row p d g)) falls m a) s)) (λ s. inr (kept (hash_of k) m s)) (old m r k f)

  module _ (falls_more : RowsFall more) where
    down : at root more n ≡ u
    down = at-step root more falls_more n (row p d g) last ∙ ap (λ s. next s d) up ∙ sym (recalled_next t u d o x recalled)

    fresh : (k : List ℕ) (b : Bool) → is_named (hash_of k) u d o x.moves ≡ b → Still root more n (row p d g) k ⊎ Holds l (hash_of k) n
    fresh k true e = inr (named (hash_of k) e)
    fresh k false e =
        let s = unnamed_still t u d o x recalled k e in
        inl (record {
          quiet = ap (λ s. event s d k) up ∙ s.0;
          stays = ap (λ s. key_place_of s k) up ∙ s.1 ∙ sym (ap (λ s. key_place_of s k) down);
        })

    newest : (m : ℕ) (r : Row) (k : List ℕ) → row_of more m ≡ Some r → length rows < m → Still root more m r k ⊎ Holds l (hash_of k) m
    newest m r k e a =
        let i = row_of-within more m r e in
        let j = length_push rows (Some (row p d g)) in
        let f : n ≡ m = omega (arith, i, j, a, numbered) in
        let q : row p d g ≡ r = one_row (row p d g) r (sym last ∙ ap (row_of more) f ∙ e) in
        subst (λ z. Still root more m z k ⊎ Holds l (hash_of k) m) q (subst (λ z. Still root more z (row p d g) k ⊎ Holds l (hash_of k) z) f (fresh k (is_named (hash_of k) u d o x.moves) refl))

    pub mentioned_more : Mentioned root more l
    mentioned_more m r k e = ⊎_elim (λ a. older m r k e a) (λ a. newest m r k e a) (le_cases m (length rows))

-- a session after a play
pub play_noted : (root t u v again : State) (b c : PlainBranch) (w y : List Junction) (k j issued n : ℕ) (d : Step) (g : Bool) (o : Outcome) (x : PlainRecord) (ms l : List Mention) (f s : PlainIndex) → Noted root t b w k issued ms f → Kept again v c y j n → n ≡ suc issued →
    again ≡ root → rows_of n c ≡ rows_of issued b ++ (Some (row (number_at b w k) d g) ∷ []) → Recalled t u d o x → ((h : ℕ) → is_named h u d o x.moves ≡ true → Holds l h n) → ((h m : ℕ) → Holds ms h m → Holds l h m) → Within l n → IsIndex s c n → Noted again v c y j n l s
play_noted root t u v again b c w y k j issued n d g o x ms l first second h z e er ew q named kept within index =
    let rows = rows_of issued b in
    let i = length_rows issued b in
    let p = number_at_le rows root 0 k true b w h.kept.stands.holds.context (omega arith) h.kept.known in
    let f : RowsFall (rows ++ Some (row (number_at b w k) d g) ∷ []) = subst RowsFall ew z.falls in
    record {
      kept = z;
      mentioned = mentioned_same root again (rows ++ Some (row (number_at b w k) d g) ∷ []) (rows_of n c) l er ew
          (mentioned_more root t u rows h.kept.falls (number_at b w k) n d g o x ms l p (omega (arith, i, e)) (stands_at root t b w k issued h.kept) h.mentioned q named kept f);
      within = λ i m f. let a = within i m f in omega (arith, a);
      indexed = index;
    }

-- a session opened
no_row_of : (n : ℕ) (r : Row) → row_of [] n ≡ Some r → ⊥
no_row_of zero r e = cc
no_row_of (suc n) r e = cc

no_mention : (i : ℕ) (m : Mention) → ◌≡◌ {A = Option Mention} None (Some m) → ⊥
no_mention i m e = cc

pub open_noted : (root t : State) (b : PlainBranch) (w : List Junction) (ms : List Mention) (i : PlainIndex) → Kept root t b w 0 0 → ms ≡ [] → IsIndex i b 0 → Noted root t b w 0 0 ms i
unfolding rows_of
open_noted root t b w ms i h e x = rw e (record { kept = h; mentioned = λ n r k f. absurd (no_row_of n r f); within = λ i m f. absurd (no_mention i m f); indexed = x })

-- a session whose play was refused: it may have more mentions
pub noted_more : (root t : State) (b : PlainBranch) (w : List Junction) (k issued : ℕ) (ms l : List Mention) (i : PlainIndex) → Noted root t b w k issued ms i → ((h m : ℕ) → Holds ms h m → Holds l h m) → Within l (issued + 1) → Noted root t b w k issued l i
noted_more root t b w k issued ms l i h kept within = record {
  kept = h.kept;
  mentioned = λ m r k g. ⊎_elim (λ s. inl s) (λ s. inr (kept (hash_of k) m s)) (h.mentioned m r k g);
  within = within;
  indexed = h.indexed;
}
