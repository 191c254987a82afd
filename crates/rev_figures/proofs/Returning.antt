-- The way back to where the session stood.
use Rattle.std.proofs.Common.{◌≡◌, ℕ, zero, suc, ◌↔◌, Bool, true, false, List, [], ◌∷◌, ◌++◌, Option, None, Some, is_some, length, Result, Ok, Err, IsTrue, ◌<◌, refl, sym, ◌∙◌, ap, subst, arith}
use Rattle.std.specs.Result.{IsOk, OnOk, OnErr}
use Rattle.std.proofs.lemmas.Bool.{false≢true, true≢false}
use Rattle.std.proofs.lemmas.List.{append-nil}
use Rattle.rev_tree.specs.Finds.{is_held}
use Rattle.rev_tree.specs.Rows.{Row, row_of, at}
use Rattle.rev_tree.specs.Machine.{nodes_from, lineage_within, lineage}
use Rattle.rev_tree.specs.Positions.{SessionState}
use Rattle.rev_explain.proofs.Timing.{clock_root}
use Rattle.rev_figures.specs.Climbing.{HasClimbed}

lineage_none : (rows : List (Option Row)) (n : ℕ) → row_of rows n ≡ None → lineage rows n ≡ []
unfolding lineage
lineage_none rows zero e = refl
lineage_none rows (suc m) e = ap (λ z. nodes_from z (λ q. lineage_within m rows q.parent ++ suc m ∷ [])) e

none_of : {X : Type 0} (o : Option X) → is_some o ≡ false → o ≡ None
none_of None e = refl
none_of (Some x) e = absurd (true≢false e)

unheld : (rows : List (Option Row)) (n : ℕ) → is_held rows n ≡ false → lineage rows n ≡ []
unheld rows zero e = absurd (true≢false e)
unheld rows (suc m) e = lineage_none rows (suc m) (none_of (row_of rows (suc m)) e)

none_behind : (xs ys : List ℕ) → [] ≡ xs ++ ys → ys ≡ []
none_behind [] ys e = sym e
none_behind (x ∷ xs) ys e = absurd (let l = ap length e in omega (arith, l))

-- a session that stands at another node
abbrev sent : ℕ → SessionState → SessionState
sent c s = record s { current = c }

abbrev standing : SessionState → ℕ → SessionState
standing v c = record v { current = c }

-- a session that stays has gone up no node
pub stays_put : (v : SessionState) → HasClimbed v v
stays_put v = record { node = v.current; below = []; stands = refl; splits = sym (append-nil (lineage v.rows v.current)); stays = λ e. refl }

module _ (v now later : SessionState) (climbed : HasClimbed v now) where
  unmoved : is_held v.rows v.current ≡ false → now ≡ v
  unmoved f =
      let none : climbed.below ≡ [] = none_behind (lineage v.rows climbed.node) climbed.below (sym (unheld v.rows v.current f) ∙ climbed.splits) in
      climbed.stands ∙ ap (standing v) (climbed.stays none)

  returned-at : {T E : Type 0} (r : Result T E) → (IsOk r ↔ IsTrue (is_held now.rows v.current)) → OnOk r (later ≡ record now { current = v.current }) → OnErr r (later ≡ now) → later ≡ v
  returned-at (Ok x) held ok err = ok ∙ ap (sent v.current) climbed.stands
  returned-at (Err e) held ok err = by (is_held v.rows v.current) refl where
    by : (b : Bool) → is_held v.rows v.current ≡ b → later ≡ v
    by false f = err ∙ unmoved f
    by true f = absurd (false≢true (held.1 (ap (λ s. is_held s.rows v.current) climbed.stands ∙ f)))

  -- where the session is sent back, it is as it was
  pub returned : {T E : Type 0} (r : Result T E) (p : ℕ) → p ≡ v.current → (IsOk r ↔ IsTrue (is_held now.rows p)) → OnOk r (later ≡ record now { current = p }) → OnErr r (later ≡ now) → later ≡ v
  returned r p same =
      subst (λ (q : ℕ). (IsOk r ↔ IsTrue (is_held now.rows q)) → OnOk r (later ≡ record now { current = q }) → OnErr r (later ≡ now) → later ≡ v) (sym same) (returned-at r)

  -- the clock where the way ends is the root's
  pub clock_there : lineage now.rows now.current ≡ [] → (clock : ℕ) → clock ≡ (at now.root now.rows now.current).globals.clock → clock ≡ v.root.globals.clock
  clock_there top clock e =
      clock_root now 0 clock record { climb = record { node = now.current; below = []; splits = sym (append-nil (lineage now.rows now.current)); deep = ap length top }; told = e } refl
      ∙ ap (λ s. s.root.globals.clock) climbed.stands

-- a session that has gone elsewhere, and is sent back to where a way led to it
module _ (v now later : SessionState) (moved : now ≡ record v { current = now.current }) (some : 0 < length (lineage v.rows v.current)) where
  sent-at : {T E : Type 0} (r : Result T E) → (IsOk r ↔ IsTrue (is_held now.rows v.current)) → OnOk r (later ≡ record now { current = v.current }) → later ≡ v
  sent-at (Ok x) held ok = ok ∙ ap (sent v.current) moved
  sent-at (Err e) held ok = by (is_held v.rows v.current) refl where
    by : (b : Bool) → is_held v.rows v.current ≡ b → later ≡ v
    by false f = absurd (let none = ap length (unheld v.rows v.current f) in omega (arith, none, some))
    by true f = absurd (false≢true (held.1 (ap (λ s. is_held s.rows v.current) moved ∙ f)))

  pub sent_back : {T E : Type 0} (r : Result T E) (p : ℕ) → p ≡ v.current → (IsOk r ↔ IsTrue (is_held now.rows p)) → OnOk r (later ≡ record now { current = p }) → later ≡ v
  sent_back r p same = subst (λ (q : ℕ). (IsOk r ↔ IsTrue (is_held now.rows q)) → OnOk r (later ≡ record now { current = q }) → later ≡ v) (sym same) (sent-at r)
