-- What the map of keys gives for a key: what a search along the key's chain finds.
use Rattle.std.proofs.Common.{◌≡◌, ◌≢◌, ℕ, suc, zero, ◌<◌, Bool, true, false, cond, Option, Some, None, List, [], ◌∷◌, inl, inr, refl, sym, ◌∙◌, ap, arith}
use Rattle.std.proofs.lemmas.Bool.{cases_Bool, cases_eq, false≢true}
use Rattle.std.specs.Ordering.{nat_cmp, eq_by_cmp}
use Rattle.std.specs.Cmp.Lexicographic.{slice_cmp, nat_list_cmp_total}
use Rattle.std.specs.Cmp.{eq_by_cmp_equiv}
use Rattle.std.specs.FinMap as map
use Rattle.rev_links.specs.Rings.{In}
use Rattle.rev_links.proofs.Members.{without, Tells}
use Rattle.rev_items.specs.Plain.{PlainItem}
use Rattle.rev_model.proofs.Undo.{tied}
use Rattle.rev_model.specs.State.{Keys}
use Rattle.rev_model.specs.declared.ChunkRef.{ChunkRef}
use Rattle.rev_index.specs.Chains.{bucket_of}
use Rattle.rev_index.specs.Index.{bound, unbound, bound_all, bound_below, is_named, find_in, IsHome}

pub key_exact : map.IsAntisymmetric (slice_cmp nat_cmp)
key_exact = map.slice_cmp-IsAntisymmetric map.nat_cmp-IsAntisymmetric

pub same_key : (k q : List ℕ) → eq_by_cmp (slice_cmp nat_cmp) k q ≡ true → k ≡ q
same_key k q h = tied nat_list_cmp_total key_exact k q h

pub key_self : (k : List ℕ) → eq_by_cmp (slice_cmp nat_cmp) k k ≡ true
key_self k = (eq_by_cmp_equiv nat_list_cmp_total).refl k

-- a key that the item has belongs to the item's bucket
pub named_home : (n b : ℕ) (k : List ℕ) (o : Option PlainItem) → IsHome n b o → is_named k o ≡ true → bucket_of n k ≡ b
named_home n b k None h e = absurd h
named_home n b k (Some i) h e = ap (bucket_of n) (same_key k i.key e) ∙ h

pub get-bound : (x : ChunkRef) (o : Option PlainItem) (m : Keys) (k : List ℕ) → map.get (bound x o m) k ≡ cond (is_named k o) (Some x) (map.get m k)
get-bound x None m k = refl
get-bound x (Some i) m k = map.get-insert nat_list_cmp_total m i.key x k

module _ (item : ChunkRef → Option PlainItem) (k : List ℕ) where
  pub get-bound_all : (xs : List ChunkRef) (m : Keys) → map.get (bound_all item xs m) k ≡ find_in item k xs (map.get m k)
  get-bound_all [] m = refl
  get-bound_all (x ∷ xs) m = get-bound x (item x) (bound_all item xs m) k ∙ ap (cond (is_named k (item x)) (Some x)) (get-bound_all xs m)

  -- where no item has the key
  pub find_none : (xs : List ChunkRef) (o : Option ChunkRef) → ((x : ChunkRef) → In x xs → is_named k (item x) ≡ true → ⊥) → find_in item k xs o ≡ o
  find_none [] o none = refl
  find_none (x ∷ xs) o none = elim (cases_Bool (is_named k (item x))) [
    | inl e ↦ absurd (none x (inl refl) e)
    | inr e ↦ ap (λ b. cond b (Some x) (find_in item k xs o)) e ∙ find_none xs o (λ y i. none y (inr i))
  ]

  -- where one has it
  pub find_member : (xs : List ChunkRef) (o : Option ChunkRef) (x : ChunkRef) → In x xs → is_named k (item x) ≡ true
      → ((y : ChunkRef) → In y xs → is_named k (item y) ≡ true → y ≡ x) → find_in item k xs o ≡ Some x
  find_member [] o x i n alone = absurd i
  find_member (y ∷ ys) o x i n alone = elim (cases_Bool (is_named k (item y))) [
    | inl e ↦ ap (λ b. cond b (Some y) (find_in item k ys o)) e ∙ ap Some (alone y (inl refl) e)
    | inr e ↦ ap (λ b. cond b (Some y) (find_in item k ys o)) e
        ∙ find_member ys o x (elim i [ inl u ↦ absurd (false≢true (sym e ∙ (ap (λ z. is_named k (item z)) u ∙ n))) | inr j ↦ j ]) n (λ z j. alone z (inr j))
  ]

  -- what is found has the key
  pub found : (xs : List ChunkRef) (x : ChunkRef) → find_in item k xs None ≡ Some x → In x xs × (is_named k (item x) ≡ true)
  found [] x e = cc
  found (y ∷ ys) x e = elim (cases_Bool (is_named k (item y))) [
    | inl n ↦
        let s : Some y ≡ Some x = ap (λ b. cond b (Some y) (find_in item k ys None)) (sym n) ∙ e in
        let w : y ≡ x = cc in
        (inl w, ap (λ z. is_named k (item z)) (sym w) ∙ n)
    | inr n ↦
        let r = found ys x (ap (λ b. cond b (Some y) (find_in item k ys None)) (sym n) ∙ e) in
        (inr r.0, r.1)
  ]

  -- without a chunk
  pub find_without : (eq : ChunkRef → ChunkRef → Bool) → Tells eq → (xs : List ChunkRef) (o : Option ChunkRef) (x : ChunkRef) → (is_named k (item x) ≡ true → ⊥) → find_in item k (without eq x xs) o ≡ find_in item k xs o
  find_without eq tells [] o x n = refl
  find_without eq tells (y ∷ ys) o x n = go (eq x y) refl (find_without eq tells ys o x n)
    where
      go : (b : Bool) → eq x y ≡ b → find_in item k (without eq x ys) o ≡ find_in item k ys o → find_in item k (cond b ys (y ∷ without eq x ys)) o ≡ find_in item k (y ∷ ys) o
      go true t ih = elim (cases_Bool (is_named k (item y))) [
        | inl e ↦ absurd (n (ap (λ z. is_named k (item z)) (tells.same x y t) ∙ e))
        | inr e ↦ sym (ap (λ b. cond b (Some y) (find_in item k ys o)) e)
      ]
      go false t ih = ap (cond (is_named k (item y)) (Some y)) ih

module _ (chain : ℕ → List ChunkRef) (item : ChunkRef → Option PlainItem) (k : List ℕ) where
  pub none_below : (n : ℕ) → ((b : ℕ) (x : ChunkRef) → b < n → In x (chain b) → is_named k (item x) ≡ true → ⊥) → map.get (bound_below chain item n) k ≡ None
  none_below zero none = map.get-empty (slice_cmp nat_cmp) k
  none_below (suc n) none =
      get-bound_all item k (chain n) (bound_below chain item n)
      ∙ (find_none item k (chain n) (map.get (bound_below chain item n) k) (λ x i. none n x (omega arith) i)
      ∙ none_below n (λ b x l i. none b x (omega arith) i))

  -- where each chain has only keys of its bucket, h is the bucket of k
  pub get-bound_below : (n h : ℕ) → h < n → ((b : ℕ) (x : ChunkRef) → b < n → In x (chain b) → is_named k (item x) ≡ true → h ≡ b) → map.get (bound_below chain item n) k ≡ find_in item k (chain h) None
  get-bound_below zero h l home = absurd (omega arith)
  get-bound_below (suc n) h l home = elim (cases_eq h n) [
    | inl e ↦
        get-bound_all item k (chain n) (bound_below chain item n)
        ∙ (ap (find_in item k (chain n)) (none_below n (λ b x m i t. let w = home b x (omega arith) i t in absurd (omega arith)))
        ∙ ap (λ c. find_in item k (chain c) None) (sym e))
    | inr e ↦
        get-bound_all item k (chain n) (bound_below chain item n)
        ∙ (find_none item k (chain n) (map.get (bound_below chain item n) k) (λ x i t. e (home n x (omega arith) i t))
        ∙ get-bound_below n h (let d : h ≢ n = e in omega arith) (λ b x m i t. home b x (omega arith) i t))
  ]

-- where other items have the same keys
pub find_same : (item item' : ChunkRef → Option PlainItem) (k : List ℕ) (xs : List ChunkRef) (o : Option ChunkRef) → ((x : ChunkRef) → In x xs → is_named k (item' x) ≡ is_named k (item x)) → find_in item' k xs o ≡ find_in item k xs o
find_same item item' k [] o same = refl
find_same item item' k (x ∷ xs) o same =
    ap (λ b. cond b (Some x) (find_in item' k xs o)) (same x (inl refl)) ∙ ap (cond (is_named k (item x)) (Some x)) (find_same item item' k xs o (λ y i. same y (inr i)))

pub get-unbound : (o : Option PlainItem) (m : Keys) (k : List ℕ) → map.get (unbound o m) k ≡ cond (is_named k o) None (map.get m k)
get-unbound None m k = refl
get-unbound (Some i) m k = map.get-remove nat_list_cmp_total m i.key k

-- a test of bytes decides whether an item has a key
pub same_named : (r : Bool) (k : List ℕ) (i : PlainItem) → (r ≡ true → i.key ≡ k) → (i.key ≡ k → r ≡ true) → r ≡ is_named k (Some i)
same_named true k i a b = sym (ap (λ q. eq_by_cmp (slice_cmp nat_cmp) k q) (a refl) ∙ key_self k)
same_named false k i a b = elim (cases_Bool (is_named k (Some i))) [
  | inl t ↦ absurd (false≢true (b (sym (same_key k i.key t))))
  | inr t ↦ sym t
]
