-- A map of keys, after one of its keys got a value.
use Rattle.std.proofs.Common.{◌≡◌, ℕ, Bool, true, false, cond, List, [], ◌∷◌, Option, Some, refl, sym, ◌∙◌, ap}
use Rattle.std.proofs.lemmas.Bool.{true≢false, false≢true}
use Rattle.std.proofs.lemmas.Slice.Eq.{bytes_eq-Decides}
use Rattle.std.specs.Map.{lookup}
use Rattle.std.specs.Option.{unwrap_or}
use Rattle.std.specs.Str.{bytes_eq}
use Rattle.std.specs.declared.vec.Vec.{Vec}
use Rattle.indexmap.specs.IndexMap.{insert_entry}
use Rattle.rev_model.specs.Track.{same_key}
use Rattle.rev_model.proofs.Laws.{same_key-self, same_key-exact}
use Rattle.rev_figures.specs.Asks.{no_ask}
use Rattle.rev_figures.specs.Asking.{ask_in}
use Rattle.rev_figures.specs.declared.asks.Ask.{Ask}

-- two keys are the same where their bytes are
pub same_bytes : (k l : List ℕ) → bytes_eq k l ≡ same_key k l
same_bytes k l = by (bytes_eq k l) refl (same_key k l) refl where
  by : (b : Bool) → bytes_eq k l ≡ b → (c : Bool) → same_key k l ≡ c → b ≡ c
  by true t true s = refl
  by false t false s = refl
  by true t false s = absurd (true≢false (sym (same_key-self k) ∙ ap (same_key k) ((bytes_eq-Decides k l).0 t) ∙ s))
  by false t true s = absurd (false≢true (sym t ∙ (bytes_eq-Decides k l).1 (same_key-exact k l s)))

module _ {X : Type 0} where
  first_again : (a b : Bool) (x y z : X) → a ≡ b → cond b x z ≡ cond a x (cond b y z)
  first_again true true x y z e = refl
  first_again false false x y z e = refl
  first_again true false x y z e = absurd (true≢false e)
  first_again false true x y z e = absurd (false≢true e)

  -- two tests of which at most one holds
  turned_round : (a b : Bool) (x y z : X) → (a ≡ true → b ≡ true → ⊥) → cond b y (cond a x z) ≡ cond a x (cond b y z)
  turned_round true true x y z h = absurd (h refl refl)
  turned_round true false x y z h = refl
  turned_round false true x y z h = refl
  turned_round false false x y z h = refl

known-cond : (b : Bool) (v : Ask) (o : Option Ask) → unwrap_or (cond b (Some v) o) no_ask ≡ cond b v (unwrap_or o no_ask)
known-cond true v o = refl
known-cond false v o = refl

module _ {A : Type 0} (k : List ℕ) where
  abbrev find_key : List (Vec ℕ A × Ask) → Option Ask
  find_key es = lookup (λ e. bytes_eq k e.items) es

  find-insert : (key : Vec ℕ A) (v : Ask) (es : List (Vec ℕ A × Ask)) → find_key (insert_entry (λ x y. bytes_eq x.items y.items) es key v) ≡ cond (bytes_eq k key.items) (Some v) (find_key es)
  find-insert key v [] = refl
  find-insert key v (e ∷ es) = by (bytes_eq key.items e.0.items) refl (find-insert key v es)
    where
      by : (b : Bool) → bytes_eq key.items e.0.items ≡ b → find_key (insert_entry (λ x y. bytes_eq x.items y.items) es key v) ≡ cond (bytes_eq k key.items) (Some v) (find_key es)
          → find_key (cond b ((e.0, v) ∷ es) (e ∷ insert_entry (λ x y. bytes_eq x.items y.items) es key v)) ≡ cond (bytes_eq k key.items) (Some v) (cond (bytes_eq k e.0.items) (Some e.1) (find_key es))
      by true t rest = first_again (bytes_eq k key.items) (bytes_eq k e.0.items) (Some v) (Some e.1) (find_key es) (ap (bytes_eq k) ((bytes_eq-Decides key.items e.0.items).0 t))
      by false t rest =
          ap (λ o. cond (bytes_eq k e.0.items) (Some e.1) o) rest
          ∙ turned_round (bytes_eq k key.items) (bytes_eq k e.0.items) (Some v) (Some e.1) (find_key es)
          (λ a b. false≢true (sym t ∙ (bytes_eq-Decides key.items e.0.items).1 (sym ((bytes_eq-Decides k key.items).0 a) ∙ (bytes_eq-Decides k e.0.items).0 b)))

  -- what is told of a key once one got a value
  pub ask-insert : (key : Vec ℕ A) (v : Ask) (es : List (Vec ℕ A × Ask)) → ask_in (insert_entry (λ x y. bytes_eq x.items y.items) es key v) k ≡ cond (same_key k key.items) v (ask_in es k)
  ask-insert key v es =
      ap (λ o. unwrap_or o no_ask) (find-insert key v es)
      ∙ known-cond (bytes_eq k key.items) v (find_key es)
      ∙ ap (λ b. cond b v (ask_in es k)) (same_bytes k key.items)

-- what a key has may be said by the other, where the two are the same
pub said_again : (f : List ℕ → Ask) (g : Ask → Ask) (k key : List ℕ) → cond (same_key k key) (g (f key)) (f k) ≡ cond (same_key k key) (g (f k)) (f k)
said_again f g k key = by (same_key k key) refl where
  by : (b : Bool) → same_key k key ≡ b → cond b (g (f key)) (f k) ≡ cond b (g (f k)) (f k)
  by true e = ap (λ l. g (f l)) (sym (same_key-exact k key e))
  by false e = refl

-- a key that nothing is told of stays so
pub said_none : (f : List ℕ → Ask) (k key : List ℕ) → f key ≡ no_ask → f k ≡ cond (same_key k key) no_ask (f k)
said_none f k key n = by (same_key k key) refl where
  by : (b : Bool) → same_key k key ≡ b → f k ≡ cond b no_ask (f k)
  by true e = ap f (same_key-exact k key e) ∙ n
  by false e = refl

pub said_same : (b : Bool) (a : Ask) → a ≡ cond b a a
said_same true a = refl
said_same false a = refl
