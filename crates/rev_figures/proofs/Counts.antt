-- Pages of a class, the rows of classes from the last one on, and the first elements of a list.
use Rattle.std.proofs.Common.{◌≡◌, ℕ, zero, suc, ◌+◌, ◌-◌, ◌<◌, cond, nat_eq, List, [], ◌∷◌, ◌++◌, Bool, true, false, length, take, map, reverse, get_or, slice_index, refl, sym, ◌∙◌, ap, arith}
use Rattle.std.proofs.lemmas.List.{take_more, append_assoc, append-nil, map-append, reverse-append}
use Rattle.rev_model.specs.State.{State}
use Rattle.rev_model.specs.Actor.{owned_pages}
use Rattle.rev_figures.specs.Rows.{class_bytes, bytes_to}
use Rattle.rev_figures.specs.declared.path.QueueBytes.{QueueBytes}

owned_more : (c : ℕ) (ds : List ℕ) (d : ℕ) → owned_pages c (ds ++ d ∷ []) ≡ owned_pages c ds + cond (nat_eq d c) 1 0
owned_more c [] d = omega arith
owned_more c (x ∷ xs) d = let m : owned_pages c (xs ++ d ∷ []) ≡ owned_pages c xs + cond (nat_eq d c) 1 0 = owned_more c xs d in omega (arith, m)

-- one page more
pub owned_next : (c : ℕ) (owner : List ℕ) (n d : ℕ) → n < length owner → d ≡ slice_index owner n → owned_pages c (take (n + 1) owner) ≡ owned_pages c (take n owner) + cond (nat_eq d c) 1 0
owned_next c owner n d l e = ap (owned_pages c) (take_more owner n 0 l ∙ ap (λ x. take n owner ++ x ∷ []) (sym e)) ∙ owned_more c (take n owner) d

one_turned : {X : Type 0} (b : Bool) (x : X) → reverse (cond b [] (x ∷ [])) ≡ cond b [] (x ∷ [])
one_turned true x = refl
one_turned false x = refl

-- one class less is left
pub bytes_less : (t : State) (i c : ℕ) (now more whole : List QueueBytes) → 0 < c → more ≡ now ++ class_bytes t i c → now ++ reverse (bytes_to t i c) ≡ whole → more ++ reverse (bytes_to t i (c - 1)) ≡ whole
bytes_less t i zero now more whole l me we = absurd (omega (arith, l))
bytes_less t i (suc n) now more whole l me we =
    let down : suc n - 1 ≡ n = omega arith in
    ap (λ m. more ++ reverse (bytes_to t i m)) down
    ∙ ap (λ l. l ++ reverse (bytes_to t i n)) me
    ∙ append_assoc now (class_bytes t i (suc n)) (reverse (bytes_to t i n))
    ∙ ap (λ l. now ++ (l ++ reverse (bytes_to t i n))) (sym (turned))
    ∙ ap (λ l. now ++ l) (sym (reverse-append (bytes_to t i n) (class_bytes t i (suc n))))
    ∙ we
  where
    turned : reverse (class_bytes t i (suc n)) ≡ class_bytes t i (suc n)
    turned = one_turned (nat_eq (owned_pages (suc n) t.owner) 0) _

-- no class is left
pub bytes_whole : (t : State) (i c : ℕ) (now whole : List QueueBytes) → c ≡ 0 → now ++ reverse (bytes_to t i c) ≡ whole → now ≡ whole
bytes_whole t i c now whole z we = sym (append-nil now) ∙ ap (λ m. now ++ reverse (bytes_to t i m)) (sym z) ∙ we

-- a row more
pub map_next : {X Y : Type 0} (f : X → Y) (xs : List X) (i : ℕ) (x : X) (old now more : List Y) → i < length xs → x ≡ get_or xs i x → now ≡ old ++ map f (take i xs) → more ≡ now ++ f x ∷ [] → more ≡ old ++ map f (take (i + 1) xs)
map_next f xs i x old now more l e ne me =
    me ∙ ap (λ l. l ++ f x ∷ []) ne ∙ append_assoc old (map f (take i xs)) (f x ∷ [])
    ∙ ap (λ l. old ++ l) (sym (map-append f (take i xs) (x ∷ [])))
    ∙ ap (λ l. old ++ map f l) (ap (λ y. take i xs ++ y ∷ []) e ∙ sym (take_more xs i x l))
