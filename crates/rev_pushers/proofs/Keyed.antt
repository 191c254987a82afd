-- The tokens of a key, by whether it is UTF-8.
use Rattle.std.proofs.Common.{◌≡◌, ℕ, List, [], ◌∷◌, true, false, cond, ap, ◌⊎◌, inl, inr}
use Rattle.std.proofs.lemmas.Str.{is_utf8-from_IsUtf8, IsUtf8-from_is_utf8}
use Rattle.std.proofs.lemmas.Bool.{cases_Bool}
use Rattle.std.specs.Prelude.{codes}
use Rattle.std.specs.Str.{IsUtf8, is_utf8}
use Rattle.json.specs.Token.{begin_object, end_object, key, string}
use Rattle.rev_pushers.specs.Parts.{key_tokens, hex}

pub text_tokens : (k : List ℕ) → IsUtf8 k → key_tokens k ≡ string k ∷ []
text_tokens k u = ap (λ b. cond b (string k ∷ []) (begin_object ∷ key (codes "hex") ∷ string (hex k) ∷ end_object ∷ [])) (is_utf8-from_IsUtf8 k u)

pub hex_tokens : (k : List ℕ) → ¬ IsUtf8 k → key_tokens k ≡ begin_object ∷ key (codes "hex") ∷ string (hex k) ∷ end_object ∷ []
hex_tokens k other = go (cases_Bool (is_utf8 k))
  where
    go : (is_utf8 k ≡ true) ⊎ (is_utf8 k ≡ false) → key_tokens k ≡ begin_object ∷ key (codes "hex") ∷ string (hex k) ∷ end_object ∷ []
    go (inl e) = absurd (other (IsUtf8-from_is_utf8 k e))
    go (inr e) = ap (λ b. cond b (string k ∷ []) (begin_object ∷ key (codes "hex") ∷ string (hex k) ∷ end_object ∷ [])) e
