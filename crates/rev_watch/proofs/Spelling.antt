-- A key that stands as the log spells it, and its data: together they take what key and data took on the server.
use Rattle.std.proofs.Common.{◌≡◌, ℕ, ◌+◌, ◌-◌, ◌≤◌, List, length, Result, Ok, inl, inr, refl, subst, arith}
use Rattle.std.proofs.lemmas.Bool.{cases_Bool}
use Rattle.percent_encoding.specs.Percent.{percent_decode}
use Rattle.percent_encoding.proofs.PercentLemmas.{length-percent_decode}
use Rattle.rev_items.specs.Keys.{is_key}
use Rattle.rev_items.specs.Rules.{footprint}
use Rattle.rev_watch.specs.Keys.{is_encoded, key_of}
use Rattle.rev_watch.specs.declared.fault.LineFault.{LineFault}

key_is : {E : Type 0} (a k : List ℕ × ℕ) → (x y : Result (List ℕ × ℕ) E) → x ≡ Ok a → y ≡ Ok k → x ≡ y → a ≡ k
key_is a k x y p q e = cc

-- so much longer than what the text stands for
longer : (text : List ℕ) (k : List ℕ × ℕ) → key_of text ≡ Ok k → length k.0 ≡ length (percent_decode text) + k.1
unfolding key_of
longer text k e = elim (cases_Bool (is_encoded text)) [
  | inr n ↦ absurd (let r = rw n at e in cc)
  | inl c ↦
      elim (cases_Bool (is_key (percent_decode text))) [
        | inl d ↦
            let r = key_is {E = LineFault} (percent_decode text, 0) k _ _ refl refl (rw (c, d) at e) in
            subst (λ x. length x.0 ≡ length (percent_decode text) + x.1) r (omega arith)
        | inr d ↦
            elim (cases_Bool (is_key text)) [
              | inl s ↦
                  let r = key_is {E = LineFault} (text, length text - length (percent_decode text)) k _ _ refl refl (rw (c, d, s) at e) in
                  subst (λ x. length x.0 ≡ length (percent_decode text) + x.1) r (omega (arith, (length-percent_decode text).0))
              | inr s ↦ absurd (let r = rw (c, d, s) at e in cc)
            ]
      ]
]

-- where the data have as many bytes as the spelling has more
pub same_footprint : (text : List ℕ) (k : List ℕ × ℕ) (flags size : ℕ) → key_of text ≡ Ok k → k.1 ≤ size →
    footprint (length k.0) flags (size - k.1) ≡ footprint (length (percent_decode text)) flags size
same_footprint text k flags size e enough = let l = longer text k e in omega (arith, l, enough)
