-- What stands behind a name and a sign.
use Rattle.std.proofs.Common.{◌≡◌, ℕ, ◌+◌, ◌-◌, ◌<◌, ◌≤◌, ◌==◌, Bool, true, false, cond, Option, None, Some, List, [], ◌∷◌, length, take, drop, get_or, refl, arith, take_all, length-drop}
use Rattle.std.proofs.lemmas.Bool.Decides.{nat_tests}
use Rattle.std.proofs.lemmas.List.{drop_more, drop_all}
use Rattle.std.specs.Option.{option_and_then}
use Rattle.std.specs.Str.{bytes_eq}
use Rattle.rev_watch.specs.Words.{value_behind, rest_behind_sign}

-- a text that is no longer than the name has nothing there
pub behind_end : (name : List ℕ) (sign : ℕ) (text : List ℕ) → length text ≤ length name → None ≡ value_behind name sign text
unfolding value_behind
behind_end name sign text h = rw (drop_all (length name) text h) (either (bytes_eq (take (length name) text) name))
  where
    either : (b : Bool) → None ≡ option_and_then (rest_behind_sign sign) (cond b (Some []) None)
    either true = refl
    either false = refl

-- in a longer text the byte behind the name decides, and the name
behind_at : (name : List ℕ) (sign : ℕ) (text : List ℕ) (d : ℕ) → length name < length text →
    value_behind name sign text ≡ cond (bytes_eq (take (length name) text) name) (cond (get_or text (length name) d == sign) (Some (drop (length name + 1) text)) None) None
unfolding value_behind
behind_at name sign text d h = rw (drop_more text (length name) d h) (either (bytes_eq (take (length name) text) name) (get_or text (length name) d) (drop (length name + 1) text))
  where
    either : (b : Bool) (x : ℕ) (rest : List ℕ) → option_and_then (rest_behind_sign sign) (cond b (Some (x ∷ rest)) None) ≡ cond b (cond (x == sign) (Some rest) None) None
    either true x rest = refl
    either false x rest = refl

pub behind_both : (name : List ℕ) (sign : ℕ) (text : List ℕ) (d : ℕ) → length name < length text → get_or text (length name) d ≡ sign → bytes_eq (take (length name) text) name ≡ true →
    Some (take (length text - (length name + 1)) (drop (length name + 1) text)) ≡ value_behind name sign text
behind_both name sign text d h s b =
    let rest = drop (length name + 1) text in
    let all : take (length text - (length name + 1)) rest ≡ rest = take_all (length text - (length name + 1)) rest (omega (arith, length-drop (length name + 1) text)) in
    let is : (get_or text (length name) d == sign) ≡ true = grind (arith, nat_tests) in
    let at : value_behind name sign text ≡ cond (bytes_eq (take (length name) text) name) (cond (get_or text (length name) d == sign) (Some rest) None) None = behind_at name sign text d h in
    rw (all, at, b, is) refl

pub behind_no_name : (name : List ℕ) (sign : ℕ) (text : List ℕ) → length name < length text → bytes_eq (take (length name) text) name ≡ false → None ≡ value_behind name sign text
behind_no_name name sign text h b = rw (behind_at name sign text 0 h, b) refl

pub behind_no_sign : (name : List ℕ) (sign : ℕ) (text : List ℕ) (d : ℕ) → length name < length text → (get_or text (length name) d ≡ sign → ⊥) → None ≡ value_behind name sign text
behind_no_sign name sign text d h s =
    let not : (get_or text (length name) d == sign) ≡ false = grind (arith, nat_tests, s) in
    rw (behind_at name sign text d h, not) (either (bytes_eq (take (length name) text) name))
  where
    either : (b : Bool) → ◌≡◌ {A = Option (List ℕ)} None (cond b None None)
    either true = refl
    either false = refl
