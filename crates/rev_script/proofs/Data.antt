-- A data block, piece by piece.
use Rattle.std.proofs.Common.{◌≡◌, ℕ, ◌+◌, ◌-◌, ◌<◌, ◌≤◌, List, [], ◌++◌, length, take, sym, ◌∙◌, ap, subst, inl, inr, arith, length-append, length-take, append-nil, take_all}
use Rattle.std.proofs.lemmas.List.{length-take-le}
use Rattle.std.proofs.lemmas.Bool.Decides.{leb_tells}
use Rattle.rev_script.specs.ByteReader.{PlainReader, Took, Broke, front}
use Rattle.rev_script.specs.declared.byte_reader.LineFault.{LineFault}
use Rattle.rev_script.proofs.Known.{Took-then, Took-broke}

take_length : (k : ℕ) (xs : List ℕ) → take (length (take k xs)) xs ≡ take k xs
take_length k xs = elim (leb_tells k (length xs)) [
  | inl p ↦ ap (λ n. take n xs) (length-take-le k xs p.1)
  | inr p ↦
      let all : take k xs ≡ xs = take_all k xs (omega arith) in
      ap (λ t. take (length t) xs) all ∙ take_all (length xs) xs (omega arith) ∙ sym all
]

pub part_none : {old b m : PlainReader} {taken : List ℕ} → Took old b taken → Took b m [] → Took old m taken
part_none {old} {b} {m} {taken} t k = subst (λ l. Took old m l) (append-nil taken) (Took-then t k)

pub part_broke : {old b m : PlainReader} {taken : List ℕ} {e : LineFault} → Took old b taken → Broke b m [] e → Broke old m taken e
part_broke {old} {b} {m} {taken} {e} t k = subst (λ l. Broke old m l e) (append-nil taken) (Took-broke t k)

pub part_taken : {old b m new : PlainReader} {taken : List ℕ} (left : ℕ) (fr part : List ℕ) →
    Took old b taken → Took b m [] → fr ≡ front m → part ≡ take left fr → Took m new (take (length part) (front m)) → Took old new (taken ++ part)
part_taken {old} {b} {m} {new} {taken} left fr part t k is p q =
    let e : take (length part) (front m) ≡ part = ap (λ l. take (length part) l) (sym is) ∙ ap (λ l. take (length l) fr) p ∙ take_length left fr ∙ sym p in
    subst (λ l. Took old new l) (ap (λ l. taken ++ l) e) (Took-then t (Took-then k q))

pub part_size : (taken part fr : List ℕ) (left n : ℕ) → part ≡ take left fr → length taken + left ≡ n → length (taken ++ part) + (left - length part) ≡ n
part_size taken part fr left n p e = omega (arith, length-append taken part, length-take left fr, ap (λ l. length l) p)

pub part_some : (part fr : List ℕ) (left : ℕ) → part ≡ take left fr → 0 < length fr → 0 < left → 0 < length part
part_some part fr left p f l = omega (arith, length-take left fr, ap (λ l. length l) p)

pub part_few : (part fr : List ℕ) (left : ℕ) → part ≡ take left fr → (length part ≤ length fr) × (length part ≤ left)
part_few part fr left p = (omega (arith, length-take left fr, ap (λ l. length l) p), omega (arith, length-take left fr, ap (λ l. length l) p))
