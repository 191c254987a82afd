-- Fields in the order in which the server writes them.
use Rattle.std.proofs.Common.{◌≡◌, ℕ, pos, ◌≤◌, nat_le, ◌&&◌, Bool, true, false, cond, Option, None, Some, List, [], ◌∷◌, ◌++◌, length, take, drop, refl, sym, ◌∙◌, ap, inl, inr, arith, codes, IfSome}
use Rattle.std.proofs.lemmas.Bool.Decides.{eqb_tells, nat_tests}
use Rattle.std.proofs.lemmas.List.{take-append-drop}
use Rattle.std.proofs.lemmas.Slice.Eq.{bytes_eq-Decides}
use Rattle.std.specs.Borrow.{Bor}
use Rattle.std.specs.List.{list_all}
use Rattle.std.specs.Option.{option_and_then}
use Rattle.std.specs.Str.{bytes_eq}
use Rattle.rev_script.specs.Number.{number, signed, is_digit, has, until, past}
use Rattle.rev_script.proofs.Places.{split_has, split_none}
use Rattle.rev_watch.specs.Field.{name_of}
use Rattle.rev_watch.specs.Fields.{value_in, optional_in, number_in, signed_in}
use Rattle.rev_watch.specs.Usual.{StandsFirst, StandsLast, IsLookUp, IsStore}
use Rattle.rev_watch.specs.Words.{words, value_behind, rest_behind_sign}
use Rattle.rev_watch.specs.declared.fault.Field.{Field}
use Rattle.rev_watch.specs.declared.fault.Field.TheVariants as fields
use Rattle.rev_watch.proofs.NumberLemmas.{are_digits, no_sign}
use Rattle.rev_watch.proofs.WordLemmas.{all_few}

-- ---- a name in front

sign_is : (sign : ℕ) (rest v : List ℕ) → rest_behind_sign sign rest ≡ Some v → rest ≡ sign ∷ v
sign_is sign [] v e = absurd (cc)
sign_is sign (b ∷ rest) v e = elim (eqb_tells b sign) [
  | inl p ↦ let q : Some rest ≡ Some v = rw p.0 at e in ap (λ x. x ∷ rest) p.1 ∙ ap (λ t. sign ∷ t) (cc (q))
  | inr p ↦ absurd (let q = rw p.0 at e in cc)
]

name_is : (b : Bool) (sign : ℕ) (rest v : List ℕ) → option_and_then (rest_behind_sign sign) (cond b (Some rest) None) ≡ Some v → (b ≡ true) × (rest ≡ sign ∷ v)
name_is true sign rest v e = (refl, sign_is sign rest v e)
name_is false sign rest v e = absurd (cc)

pub behind_is : (name : List ℕ) (sign : ℕ) (text v : List ℕ) → value_behind name sign text ≡ Some v → text ≡ name ++ sign ∷ v
unfolding value_behind
behind_is name sign text v e =
    let f = name_is (bytes_eq (take (length name) text) name) sign (drop (length name) text) v e in
    let front : take (length name) text ≡ name = (bytes_eq-Decides (take (length name) text) name).0 f.0 in
    sym (take-append-drop (length name) text) ∙ ap (λ t. t ++ drop (length name) text) front ∙ ap (λ t. name ++ t) f.1

-- a byte that is not in the front is sought behind it
pub passed : (b : ℕ) (name text : List ℕ) → has b name ≡ false → (has b (name ++ text) ≡ has b text) × (until b (name ++ text) ≡ name ++ until b text) × (past b (name ++ text) ≡ past b text)
passed b [] text h = (refl, refl, refl)
passed b (x ∷ xs) text h = elim (eqb_tells x b) [
  | inl p ↦ absurd (let q = rw p.0 at h in cc)
  | inr p ↦
      let r = passed b xs text (rw p.0 at h) in
      (rw p.0 r.0, rw p.0 (ap (λ t. x ∷ t) r.1), rw p.0 r.2)
]

one_word : (field : Field) → has 32 (name_of field) ≡ false
one_word fields.Ts = refl
one_word fields.Gid = refl
one_word fields.Kind = refl
one_word fields.Key = refl
one_word fields.Status = refl
one_word fields.Cmd = refl
one_word fields.Ttl = refl
one_word fields.Clsid = refl
one_word fields.Cfd = refl
one_word fields.Size = refl
one_word fields.Fetch = refl
one_word fields.La = refl
one_word fields.Src = refl
one_word fields.Dst = refl
one_word fields.Crawler = refl
one_word fields.Lru = refl
one_word fields.Elapsed = refl
one_word fields.Examined = refl
one_word fields.Reclaimed = refl
one_word fields.Skipped = refl

-- the first word of a text that begins with a field's name and `=`
pub first_of : (field : Field) (nm text v value rest : List ℕ) → nm ≡ name_of field → Some v ≡ value_behind nm 61 text → has 32 v ≡ true → value ≡ until 32 v → rest ≡ past 32 v →
    words text ≡ (name_of field ++ 61 ∷ value) ∷ words rest
first_of field nm text v value rest n e h u p =
    let name : List ℕ = name_of field in
    let is : text ≡ name ++ 61 ∷ v = behind_is nm 61 text v (sym e) ∙ ap (λ m. m ++ 61 ∷ v) n in
    let f = passed 32 name (61 ∷ v) (one_word field) in
    ap words is ∙ split_has 32 (name ++ 61 ∷ v) (f.0 ∙ h)
    ∙ ap (λ w. w ∷ words (past 32 (name ++ 61 ∷ v))) (f.1 ∙ ap (λ t. name ++ 61 ∷ t) (sym u))
    ∙ ap (λ t. (name ++ 61 ∷ value) ∷ words t) (f.2 ∙ sym p)

pub first_number_of : (limit : ℕ) (field : Field) (nm text v : List ℕ) (r : Option (ℕ × Bor (List ℕ))) → nm ≡ name_of field → Some v ≡ value_behind nm 61 text →
    IfSome r (λ r. (has 32 v ≡ true) × (number limit (until 32 v) ≡ Some r.0) × (r.1.now ≡ past 32 v) × (r.0 ≤ limit)) → IfSome r (λ r. StandsFirst limit field text r.0 r.1.now)
first_number_of limit field nm text v None m e h = tt
first_number_of limit field nm text v (Some r) m e h = record {
  value = until 32 v;
  first = first_of field nm text v (until 32 v) r.1.now m e h.0 refl h.2;
  number_is = h.1;
}

pub last_number_of : (limit : ℕ) (field : Field) (nm text v : List ℕ) (r : Option ℕ) → nm ≡ name_of field → Some v ≡ value_behind nm 61 text → r ≡ number limit v →
    IfSome r (λ n. StandsLast limit field text n)
last_number_of limit field nm text v None m e u = tt
last_number_of limit field nm text v (Some n) m e u =
    let name : List ℕ = name_of field in
    let is : text ≡ name ++ 61 ∷ v = behind_is nm 61 text v (sym e) ∙ ap (λ m. m ++ 61 ∷ v) m in
    let none = (passed 32 name (61 ∷ v) (one_word field)).0 ∙ no_sign limit 32 v n (omega arith) (sym u) in
    record {
      value = v;
      only = ap words is ∙ split_none 32 (name ++ 61 ∷ v) none;
      number_is = sym u;
    }

-- ---- a number without a sign is one with a sign

digit_no_minus : (b : ℕ) → is_digit b ≡ true → (nat_le 45 b && nat_le b 45) ≡ false
digit_no_minus b h = grind (arith, nat_tests, h)

first_digit : (b : ℕ) (bs : List ℕ) → list_all is_digit (b ∷ bs) ≡ true → is_digit b ≡ true
first_digit b bs h = either (is_digit b) (list_all is_digit bs) h
  where
    either : (x y : Bool) → (x && y) ≡ true → x ≡ true
    either true y e = refl
    either false y e = absurd (cc)

no_empty : (n : ℕ) → number 2147483647 [] ≡ Some n → ⊥
unfolding number
no_empty n e = absurd (cc)

pub signed_of : (w : List ℕ) (n : ℕ) → number 2147483647 w ≡ Some n → signed w ≡ Some (pos n)
unfolding signed
signed_of [] n e = absurd (no_empty n e)
signed_of (b ∷ bs) n e =
    let d = digit_no_minus b (first_digit b bs (are_digits 2147483647 (b ∷ bs) n e)) in
    rw (d, e) refl

-- ---- all fields of an event

five : (a b c d e : List ℕ) → length (a ∷ b ∷ c ∷ d ∷ e ∷ []) ≤ 32
five a b c d e = omega arith

pub look_up_of : (text key r1 outcome r2 r3 r4 : List ℕ) (class connection size : ℕ) → words text ≡ (name_of fields.Key ++ 61 ∷ key) ∷ words r1 →
    words r1 ≡ (name_of fields.Status ++ 61 ∷ outcome) ∷ words r2 → StandsFirst 4294967295 fields.Clsid r2 class r3 → StandsFirst 2147483647 fields.Cfd r3 connection r4 →
    StandsLast 4294967295 fields.Size r4 size → IsLookUp text key outcome class (pos connection) size
unfolding value_in optional_in number_in signed_in value_behind
look_up_of text key r1 outcome r2 r3 r4 class connection size k s c f z =
    let w1 : List ℕ = codes "key=" ++ key in
    let w2 : List ℕ = codes "status=" ++ outcome in
    let w3 : List ℕ = codes "clsid=" ++ c.value in
    let w4 : List ℕ = codes "cfd=" ++ f.value in
    let w5 : List ℕ = codes "size=" ++ z.value in
    let all : words text ≡ w1 ∷ w2 ∷ w3 ∷ w4 ∷ w5 ∷ [] =
    k ∙ ap (λ t. w1 ∷ t) (s ∙ ap (λ t. w2 ∷ t) (c.first ∙ ap (λ t. w3 ∷ t) (f.first ∙ ap (λ t. w4 ∷ t) z.only))) in
    record {
      ws = w1 ∷ w2 ∷ w3 ∷ w4 ∷ w5 ∷ [];
      all = all_few text (w1 ∷ w2 ∷ w3 ∷ w4 ∷ w5 ∷ []) all (five w1 w2 w3 w4 w5);
      key_is = refl;
      outcome_is = refl;
      class_is = rw c.number_is refl;
      connection_is = rw (signed_of f.value connection f.number_is) refl;
      size_is = rw z.number_is refl;
    }

seven : (a b c d e f g : List ℕ) → length (a ∷ b ∷ c ∷ d ∷ e ∷ f ∷ g ∷ []) ≤ 32
seven a b c d e f g = omega arith

pub store_of : (text key r1 outcome r2 command r3 r4 r5 r6 : List ℕ) (ttl class connection size : ℕ) → words text ≡ (name_of fields.Key ++ 61 ∷ key) ∷ words r1 →
    words r1 ≡ (name_of fields.Status ++ 61 ∷ outcome) ∷ words r2 → words r2 ≡ (name_of fields.Cmd ++ 61 ∷ command) ∷ words r3 →
    StandsFirst 4294967295 fields.Ttl r3 ttl r4 → StandsFirst 4294967295 fields.Clsid r4 class r5 → StandsFirst 2147483647 fields.Cfd r5 connection r6 →
    StandsLast 4294967295 fields.Size r6 size → IsStore text key outcome command ttl class (pos connection) size
unfolding value_in optional_in number_in signed_in value_behind
store_of text key r1 outcome r2 command r3 r4 r5 r6 ttl class connection size k s m t c f z =
    let w1 : List ℕ = codes "key=" ++ key in
    let w2 : List ℕ = codes "status=" ++ outcome in
    let w3 : List ℕ = codes "cmd=" ++ command in
    let w4 : List ℕ = codes "ttl=" ++ t.value in
    let w5 : List ℕ = codes "clsid=" ++ c.value in
    let w6 : List ℕ = codes "cfd=" ++ f.value in
    let w7 : List ℕ = codes "size=" ++ z.value in
    let all : words text ≡ w1 ∷ w2 ∷ w3 ∷ w4 ∷ w5 ∷ w6 ∷ w7 ∷ [] =
    k ∙ ap (λ ws. w1 ∷ ws) (s ∙ ap (λ ws. w2 ∷ ws) (m ∙ ap (λ ws. w3 ∷ ws) (t.first ∙ ap (λ ws. w4 ∷ ws) (c.first ∙ ap (λ ws. w5 ∷ ws) (f.first ∙ ap (λ ws. w6 ∷ ws) z.only))))) in
    record {
      ws = w1 ∷ w2 ∷ w3 ∷ w4 ∷ w5 ∷ w6 ∷ w7 ∷ [];
      all = all_few text (w1 ∷ w2 ∷ w3 ∷ w4 ∷ w5 ∷ w6 ∷ w7 ∷ []) all (seven w1 w2 w3 w4 w5 w6 w7);
      key_is = refl;
      outcome_is = refl;
      command_is = refl;
      ttl_is = rw t.number_is refl;
      class_is = rw c.number_is refl;
      connection_is = rw (signed_of f.value connection f.number_is) refl;
      size_is = rw z.number_is refl;
    }
