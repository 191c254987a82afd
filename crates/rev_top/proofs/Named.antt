-- A table of names, after one of its names got figures.
use Rattle.std.proofs.Common.{◌≡◌, ℕ, Bool, true, false, cond, List, [], ◌∷◌, Option, Some, refl, sym, ◌∙◌, ap}
use Rattle.std.proofs.lemmas.Bool.{true≢false, false≢true}
use Rattle.std.proofs.lemmas.Slice.Eq.{bytes_eq-Decides}
use Rattle.std.specs.Map.{lookup}
use Rattle.std.specs.Option.{unwrap_or}
use Rattle.std.specs.Str.{bytes_eq}
use Rattle.std.specs.declared.vec.Vec.{Vec}
use Rattle.indexmap.specs.IndexMap.{insert_entry}
use Rattle.rev_top.specs.Figures.{nothing}
use Rattle.rev_top.specs.Tables.{figures_in, put_in}
use Rattle.rev_top.specs.declared.figures.Figures.{Figures}

module _ {X : Type 0} where
  first_again : (a b : Bool) (x y z : X) → a ≡ b → cond b x z ≡ cond a x (cond b y z)
  first_again true true x y z e = refl
  first_again false false x y z e = refl
  first_again true false x y z e = absurd (true≢false e)
  first_again false true x y z e = absurd (false≢true e)

  -- two tests of which at most one holds
  turned_round : (a b : Bool) (x y z : X) → (a ≡ true → b ≡ true → ⊥) → cond b y (cond a x z) ≡ cond a x (cond b y z)
  turned_round true true x y z h = absurd (h refl refl)
  turned_round true false x y z h = refl
  turned_round false true x y z h = refl
  turned_round false false x y z h = refl

known-cond : (b : Bool) (v : Figures) (o : Option Figures) → unwrap_or (cond b (Some v) o) nothing ≡ cond b v (unwrap_or o nothing)
known-cond true v o = refl
known-cond false v o = refl

module _ {A : Type 0} (k : List ℕ) where
  abbrev find_name : List (Vec ℕ A × Figures) → Option Figures
  find_name es = lookup (λ e. bytes_eq k e.items) es

  find-insert : (name : Vec ℕ A) (v : Figures) (es : List (Vec ℕ A × Figures)) → find_name (insert_entry (λ x y. bytes_eq x.items y.items) es name v) ≡ cond (bytes_eq k name.items) (Some v) (find_name es)
  find-insert name v [] = refl
  find-insert name v (e ∷ es) = by (bytes_eq name.items e.0.items) refl (find-insert name v es)
    where
      by : (b : Bool) → bytes_eq name.items e.0.items ≡ b → find_name (insert_entry (λ x y. bytes_eq x.items y.items) es name v) ≡ cond (bytes_eq k name.items) (Some v) (find_name es)
          → find_name (cond b ((e.0, v) ∷ es) (e ∷ insert_entry (λ x y. bytes_eq x.items y.items) es name v)) ≡ cond (bytes_eq k name.items) (Some v) (cond (bytes_eq k e.0.items) (Some e.1) (find_name es))
      by true t rest = first_again (bytes_eq k name.items) (bytes_eq k e.0.items) (Some v) (Some e.1) (find_name es) (ap (bytes_eq k) ((bytes_eq-Decides name.items e.0.items).0 t))
      by false t rest =
          ap (λ o. cond (bytes_eq k e.0.items) (Some e.1) o) rest
          ∙ turned_round (bytes_eq k name.items) (bytes_eq k e.0.items) (Some v) (Some e.1) (find_name es)
          (λ a b. false≢true (sym t ∙ (bytes_eq-Decides name.items e.0.items).1 (sym ((bytes_eq-Decides k name.items).0 a) ∙ (bytes_eq-Decides k e.0.items).0 b)))

  -- the figures of a name once one got some
  pub figures-insert : (name : Vec ℕ A) (v : Figures) (es : List (Vec ℕ A × Figures)) → figures_in (insert_entry (λ x y. bytes_eq x.items y.items) es name v) k ≡ put_in es name.items v k
  figures-insert name v es = ap (λ o. unwrap_or o nothing) (find-insert name v es) ∙ known-cond (bytes_eq k name.items) v (find_name es)
