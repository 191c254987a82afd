-- What words ask for, where the first of them says it.
use Rattle.std.proofs.Common.{◌≡◌, ◌∙◌, ℕ, List, [], ◌∷◌, Bool, None, Some, map, slice_get, unwrap_or, ap, sym}
use Rattle.std.specs.Str.{bytes_eq}

-- words ask for something just where the first of them is its name: so of words that have a first one
pub of_first : {S : Type 0} (asks : List (List ℕ) → Bool) (name : List ℕ) (says : (word : List ℕ) (words : List (List ℕ)) → asks (word ∷ words) ≡ bytes_eq word name) (text : S → List ℕ) (words : List S) (word : S) → Some word ≡ slice_get words 0 → asks (map text words) ≡ bytes_eq (text word) name
of_first asks name says text [] word h = absurd (let e : Some word ≡ None = h in cc)
of_first asks name says text (first ∷ words) word h = says (text first) (map text words) ∙ ap (λ w. bytes_eq (text w) name) (sym (ap (λ o. unwrap_or o word) h))
