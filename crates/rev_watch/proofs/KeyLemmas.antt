-- What is decoded of a key, step by step.
use Rattle.std.proofs.Common.{◌≡◌, ℕ, ◌+◌, ◌*◌, ◌<◌, ◌≤◌, ◌&&◌, nat_lt, true, false, List, [], ◌∷◌, ◌++◌, length, drop, get_or, refl, sym, ◌∙◌, ap, subst, arith, Err, append-nil, append_assoc, length-append}
use Rattle.std.proofs.lemmas.Bool.{and_from, lt-ltb, ne_eqb}
use Rattle.std.proofs.lemmas.Bool.Decides.{nat_tests}
use Rattle.std.specs.Char.{digit_value}
use Rattle.percent_encoding.specs.Percent.{percent_decode}
use Rattle.percent_encoding.proofs.PercentLemmas.{percent_decode-nil, percent_decode_escape, percent_decode_not_percent, length-percent_decode}
use Rattle.rev_items.specs.Keys.{is_key}
use Rattle.rev_watch.specs.Keys.{IsEscape, are_digits, is_encoded, key_of}
use Rattle.rev_watch.specs.declared.fault.LineFault.TheVariants.{BadEscape, BadKey}

-- no two digits stand in front
pub no_digits : (text : List ℕ) → (2 ≤ length text → digit_value (get_or text 0 0) < 16 → digit_value (get_or text 1 0) < 16 → ⊥) → are_digits text ≡ false
no_digits [] never = refl
no_digits (a ∷ []) never = refl
no_digits (a ∷ b ∷ rest) never = elsewise (digit_value a) (digit_value b) (never (omega arith))
  where
    elsewise : (x y : ℕ) → (x < 16 → y < 16 → ⊥) → nat_lt x 16 && nat_lt y 16 ≡ false
    elsewise x y h = grind (arith, nat_tests)

-- a digit is no `%`
digit_apart : (a : ℕ) → digit_value a < 16 → a ≡ 37 → ⊥
digit_apart a h e = let q : 36 < 16 = subst (λ x. digit_value x < 16) e h in omega (arith, q)

other : (b : ℕ) (rest : List ℕ) → (b ≡ 37 → ⊥) → is_encoded (b ∷ rest) ≡ is_encoded rest
other b rest n = rw (ne_eqb b 37 n) refl

-- two digits stand in front
pub two_digits : (text : List ℕ) (byte : ℕ) → 2 ≤ length text → digit_value (get_or text 0 0) < 16 → digit_value (get_or text 1 0) < 16 →
    byte ≡ 16 * digit_value (get_or text 0 0) + digit_value (get_or text 1 0) → IsEscape text byte (drop 2 text)
two_digits [] byte l high low e = absurd (omega (arith, l))
two_digits (a ∷ []) byte l high low e = absurd (omega (arith, l))
two_digits (a ∷ b ∷ rest) byte l high low e = record {
  digits = and_from _ _ (lt-ltb _ 16 high) (lt-ltb _ 16 low);
  stands_for = percent_decode_escape 37 a b rest refl high low ∙ ap (λ x. x ∷ percent_decode rest) (sym e);
  encoded = other a (b ∷ rest) (digit_apart a high) ∙ other b rest (digit_apart b low);
  shorter = omega arith;
}

-- so much of a text is decoded, and this is left
pub record IsDecoded (text bytes rest : List ℕ) : Type 0 where
  pub bytes_are : percent_decode text ≡ bytes ++ percent_decode rest
  pub encoded : is_encoded text ≡ is_encoded rest

pub none_decoded : (text bytes : List ℕ) → bytes ≡ [] → IsDecoded text bytes text
none_decoded text bytes e = record { bytes_are = ap (λ b. b ++ percent_decode text) (sym e); encoded = refl }

further : (before bytes pushed rest : List ℕ) (b : ℕ) → before ≡ bytes ++ (b ∷ percent_decode rest) → pushed ≡ bytes ++ b ∷ [] → before ≡ pushed ++ percent_decode rest
further before bytes pushed rest b e p = e ∙ sym (append_assoc bytes (b ∷ []) (percent_decode rest)) ∙ ap (λ t. t ++ percent_decode rest) (sym p)

pub byte_decoded : (text bytes rest pushed behind : List ℕ) (b : ℕ) → IsDecoded text bytes rest → rest ≡ b ∷ behind → (b ≡ 37 → ⊥) → pushed ≡ bytes ++ b ∷ [] → IsDecoded text pushed behind
byte_decoded text bytes rest pushed behind b d r n p = record {
  bytes_are = further (percent_decode text) bytes pushed behind b
      (d.bytes_are ∙ ap (λ t. bytes ++ percent_decode t) r ∙ ap (λ t. bytes ++ t) (percent_decode_not_percent b behind n)) p;
  encoded = d.encoded ∙ ap is_encoded r ∙ other b behind n;
}

escape : (behind : List ℕ) → is_encoded (37 ∷ behind) ≡ are_digits behind && is_encoded behind
escape behind = refl

pub escape_decoded : (text bytes rest pushed behind more : List ℕ) (b byte : ℕ) → IsDecoded text bytes rest → rest ≡ b ∷ behind → b ≡ 37 → IsEscape behind byte more → pushed ≡ bytes ++ byte ∷ [] → IsDecoded text pushed more
escape_decoded text bytes rest pushed behind more b byte d r s e p =
    let is : rest ≡ 37 ∷ behind = r ∙ ap (λ x. x ∷ behind) s in
    record {
      bytes_are = further (percent_decode text) bytes pushed more byte
          (d.bytes_are ∙ ap (λ t. bytes ++ percent_decode t) is ∙ ap (λ t. bytes ++ t) e.stands_for) p;
      encoded = d.encoded ∙ ap is_encoded is ∙ escape behind ∙ ap (λ x. x && is_encoded behind) e.digits ∙ e.encoded;
    }

pub all_decoded : (text bytes rest : List ℕ) → IsDecoded text bytes rest → rest ≡ [] → bytes ≡ percent_decode text
all_decoded text bytes rest d r = sym (d.bytes_are ∙ ap (λ t. bytes ++ percent_decode t) r ∙ ap (λ t. bytes ++ t) percent_decode-nil ∙ append-nil bytes)

pub all_encoded : (text bytes rest : List ℕ) → IsDecoded text bytes rest → rest ≡ [] → is_encoded text ≡ true
all_encoded text bytes rest d r = d.encoded ∙ ap is_encoded r

pub more_decoded : (text bytes rest behind : List ℕ) (b : ℕ) → IsDecoded text bytes rest → rest ≡ b ∷ behind → length bytes ≡ 250 → 250 < length (percent_decode text)
more_decoded text bytes rest behind b d r n =
    let some = (length-percent_decode rest).1 in
    omega (arith, ap length d.bytes_are, length-append bytes (percent_decode rest), some, ap length r, n)

pub not_encoded : (text bytes rest behind : List ℕ) (b : ℕ) → IsDecoded text bytes rest → rest ≡ b ∷ behind → b ≡ 37 → are_digits behind ≡ false → is_encoded text ≡ false
not_encoded text bytes rest behind b d r s n =
    d.encoded ∙ ap is_encoded (r ∙ ap (λ x. x ∷ behind) s) ∙ escape behind ∙ ap (λ x. x && is_encoded behind) n

-- ---- the key

not_key : (bytes : List ℕ) → 250 < length bytes → is_key bytes ≡ false
not_key bytes long = grind (arith, nat_tests)

-- what stands for more bytes than a key has is none
pub key_too_long : (text : List ℕ) → is_encoded text ≡ true → 250 < length (percent_decode text) → key_of text ≡ Err BadKey
unfolding key_of
key_too_long text e long =
    let fewer = (length-percent_decode text).0 in
    rw (e, not_key (percent_decode text) long, not_key text (omega (arith, fewer, long))) refl

pub no_escape : (text : List ℕ) → is_encoded text ≡ false → key_of text ≡ Err BadEscape
unfolding key_of
no_escape text e = rw e refl

-- what a text stands for is no longer
pub decoded_is_shorter : (text bytes : List ℕ) → bytes ≡ percent_decode text → length bytes ≤ length text
decoded_is_shorter text bytes e = omega (arith, (length-percent_decode text).0, ap length e)
