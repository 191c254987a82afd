-- Lists of hashes that lack one.
use Rattle.std.specs.Prelude.{ℕ, zero, suc, ◌≡◌, ◌+◌, ◌<◌, ◌≤◌, Bool, true, false, cond, nat_eq, List, [], ◌∷◌, ◌++◌, Option, None, Some, drop, length, slice_get, slice_index_or, refl}
use Rattle.std.specs.Option.{option_map}
use Rattle.std.proofs.Common.{sym, ◌∙◌, ap, subst, eq-eqb, inl, inr}
use Rattle.std.proofs.lemmas.Bool.{cases_Bool, true≢false, eqb-true}
use Rattle.std.proofs.lemmas.List.{drop_all, at_drop_more, append_assoc}
use Rattle.rev_items.specs.Plain.{PlainItem}
use Rattle.rev_items.specs.Hash.{hash_of}
use Rattle.rev_model.specs.Lists.{has}
use Rattle.rev_model.specs.Track.{has_key, same_key}
use Rattle.rev_model.specs.Events.{is_key}
use Rattle.rev_model.specs.Move.{Move}
use Rattle.rev_model.specs.State.{State}
use Rattle.rev_inverse.specs.Record.{PlainChange, PlainRecord, IsWhole, moves_in}
use Rattle.rev_model.proofs.Laws.{same_key-exact}
use Rattle.rev_model.proofs.Place.{key_item}
use Rattle.rev_tree.specs.Named.{none_or, hashed, named_by, named}
use Rattle.rev_evidence.specs.Heard.{is_named}
use Rattle.rev_lives.specs.Hashes.{Gathers}

-- the list lacks this number
abbrev pub Lacks : ℕ → List ℕ → Type 0
Lacks n l = has nat_eq n l ≡ false

pub lacks_both : (n : ℕ) (xs ys : List ℕ) → Lacks n (xs ++ ys) → Lacks n xs × Lacks n ys
lacks_both n [] ys h = (refl, h)
lacks_both n (x ∷ xs) ys h = elim (cases_Bool (nat_eq n x)) [
  | inl e ↦ absurd (true≢false (rw e at h))
  | inr e ↦ let both : Lacks n xs × Lacks n ys = lacks_both n xs ys (rw e at h) in (rw e both.0, both.1)
]

pub lacks_each : (n : ℕ) (xs ys : List ℕ) → Lacks n xs → Lacks n ys → Lacks n (xs ++ ys)
lacks_each n [] ys h g = g
lacks_each n (x ∷ xs) ys h g = elim (cases_Bool (nat_eq n x)) [
  | inl e ↦ absurd (true≢false (rw e at h))
  | inr e ↦ rw e (lacks_each n xs ys (rw e at h) g)
]

has_one : (n : ℕ) → has nat_eq n (n ∷ []) ≡ true
has_one n = ap (λ b. cond b true false) (eq-eqb n n refl)

same_named : (k l : List ℕ) → k ≡ l → has nat_eq (hash_of k) (hash_of l ∷ []) ≡ true
same_named k l e = subst (λ m. has nat_eq (hash_of k) (hash_of m ∷ []) ≡ true) e (has_one (hash_of k))

-- an item whose hash is not the key's does not have the key
pub lacks_key : (k : List ℕ) (o : Option PlainItem) → Lacks (hash_of k) (hashed o) → has_key k o ≡ false
lacks_key k o h = elim (cases_Bool (has_key k o)) [
  | inl e ↦ let w = key_item k o e in
      absurd (true≢false (sym (same_named k w.0.key w.2) ∙ sym (ap (λ p. has nat_eq (hash_of k) (hashed p)) w.1) ∙ h))
  | inr e ↦ e
]

-- a key of another hash is not the key
pub other_key : (k : List ℕ) (l : Option (List ℕ)) → Lacks (hash_of k) (none_or (option_map hash_of l)) → is_key k l ≡ false
other_key k None h = refl
other_key k (Some l) h = go (same_key k l) refl where
  go : (b : Bool) → same_key k l ≡ b → b ≡ false
  go false e = refl
  go true e = absurd (true≢false (sym (same_named k l (same_key-exact k l e)) ∙ h))

pub other_named : (k : List ℕ) (l : Option (List ℕ)) → Lacks (hash_of k) (none_or (option_map hash_of l)) → is_named l k ≡ false
other_named k None h = refl
other_named k (Some l) h = go (same_key l k) refl where
  go : (b : Bool) → same_key l k ≡ b → b ≡ false
  go false e = refl
  go true e = absurd (true≢false (sym (same_named k l (sym (same_key-exact l k e))) ∙ h))

-- ---- what a list gathers

no_number : (n : ℕ) → ◌≡◌ {A = Option ℕ} None (Some n) → ⊥
no_number n e = cc

one_number : (m n : ℕ) → Some m ≡ Some n → m ≡ n
one_number m n e = cc

-- what stands at a place is there
pub has_at : (xs : List ℕ) (i n : ℕ) → slice_get xs i ≡ Some n → has nat_eq n xs ≡ true
has_at [] i n e = absurd (no_number n e)
has_at (x ∷ xs) zero n e = ap (λ b. cond b true (has nat_eq n xs)) (eq-eqb n x (sym (one_number x n e)))
has_at (x ∷ xs) (suc i) n e = elim (cases_Bool (nat_eq n x)) [
  | inl f ↦ rw f refl
  | inr f ↦ rw f (has_at xs i n e)
]

-- the one at a place is there
pub last_has : (xs : List ℕ) (i m n : ℕ) → Some m ≡ slice_get xs i → nat_eq m n ≡ true → has nat_eq n xs ≡ true
last_has xs i m n e t = has_at xs i n (sym e ∙ ap Some (eqb-true m n t))

pub gathers_none : (old : List ℕ) → Gathers old old []
gathers_none old h l = (l, refl)

pub gathers_pushed : (old : List ℕ) (n : ℕ) → Gathers old (old ++ n ∷ []) (n ∷ [])
gathers_pushed old n h l = lacks_both h old (n ∷ []) l

-- it has that one already
pub gathers_known : (old : List ℕ) (n : ℕ) → has nat_eq n old ≡ true → Gathers old old (n ∷ [])
gathers_known old n known h l = elim (cases_Bool (nat_eq h n)) [
  | inl e ↦ absurd (true≢false (sym known ∙ subst (λ m. has nat_eq m old ≡ false) (eqb-true h n e) l))
  | inr e ↦ (l, rw e refl)
]

pub gathers_more : (old now new xs ys : List ℕ) → Gathers old now xs → Gathers now new ys → Gathers old new (xs ++ ys)
gathers_more old now new xs ys p q h l =
    let second = q h l in
    let first = p h second.0 in
    (first.0, lacks_each h xs ys first.1 second.1)

-- and so others that have no more
pub gathers_others : (old new xs ys : List ℕ) → Gathers old new xs → ((h : ℕ) → Lacks h xs → Lacks h ys) → Gathers old new ys
gathers_others old new xs ys p f h l = let both = p h l in (both.0, f h both.1)

-- ---- along a record: of what the list lacks, what is still to come tells whether the record names it

named-append : (t : State) (ms more : List Move) → named t (ms ++ more) ≡ named t ms ++ named t more
named-append t [] more = refl
named-append t (m ∷ ms) more = ap (λ l. named_by t m ++ l) (named-append t ms more) ∙ sym (append_assoc (named_by t m) (named t ms) (named t more))

abbrev pub IsSoFar : (old now : List ℕ) → State → List PlainChange → ℕ → Type 0
IsSoFar old now t gs i = (h : ℕ) → Lacks h now → Lacks h old × (Lacks h (named t (moves_in (drop i gs))) → Lacks h (named t (moves_in gs)))

pub so_far_starts : (old : List ℕ) (t : State) (gs : List PlainChange) → IsSoFar old old t gs 0
so_far_starts old t gs h l = (l, λ rest. rest)

so_far_next : (t : State) (gs : List PlainChange) (i h : ℕ) (g : PlainChange) → i < length gs → g ≡ slice_index_or gs i g → has nat_eq h (named t (moves_in (drop i gs))) ≡ has nat_eq h (named t g.moves ++ named t (moves_in (drop (i + 1) gs)))
so_far_next t gs i h g lt e =
    at_drop_more (λ l. has nat_eq h (named t (moves_in l))) gs i g lt
    ∙ ap (λ z. has nat_eq h (named t (moves_in (z ∷ drop (i + 1) gs)))) (sym e)
    ∙ ap (has nat_eq h) (named-append t g.moves (moves_in (drop (i + 1) gs)))

pub so_far_more : (old now new : List ℕ) (t : State) (gs : List PlainChange) (i : ℕ) (g : PlainChange) → i < length gs → g ≡ slice_index_or gs i g → Gathers now new (named t g.moves) → IsSoFar old now t gs i → IsSoFar old new t gs (i + 1)
so_far_more old now new t gs i g lt e gathers before h l =
    let both = gathers h l in
    let so_far = before h both.0 in (
      so_far.0,
      λ rest. so_far.1 (so_far_next t gs i h g lt e ∙ lacks_each h (named t g.moves) (named t (moves_in (drop (i + 1) gs))) both.1 rest),
    )

pub so_far_ends : (old now : List ℕ) (t : State) (r : PlainRecord) (i : ℕ) → IsWhole r → length r.changes ≤ i → IsSoFar old now t r.changes i → Gathers old now (named t r.moves)
so_far_ends old now t r i whole le so_far h l =
    let both = so_far h l in
    (both.0, ap (λ l. has nat_eq h (named t l)) whole.moves ∙ both.1 (ap (λ l. has nat_eq h (named t (moves_in l))) (drop_all i r.changes le)))

pub gathers_one : (old new there : List ℕ) → Gathers old new there → Gathers old new (there ++ [])
gathers_one old new there gathers = gathers_others old new there (there ++ []) gathers (λ h l. lacks_each h there [] l refl)
