-- How takings of known bytes join.
use Rattle.std.proofs.Common.{◌≡◌, ℕ, ◌+◌, ◌<◌, ◌≤◌, List, [], ◌∷◌, ◌++◌, length, get_or, refl, sym, ◌∙◌, ap, append_assoc, suc, subst, ◌-◌, take, drop, drop-cons, length-take, length-drop, add-one, arith, Option, None, Some, slice_range}
use Rattle.std.specs.Io.KnownBytes.{Consumes, Keeps, prepend_known}
use Rattle.std.proofs.Common.{length-append}
use Rattle.std.proofs.lemmas.List.{take-append-drop, take-take, drop-take, drop-drop}
use Rattle.rev_script.specs.ByteReader.{PlainReader, Passed, Took, Broke, StoppedBy, ahead}
use Rattle.rev_script.specs.Source.{one_more}
use Rattle.rev_script.specs.declared.byte_reader.LineFault.{LineFault}
use Rattle.rev_script.specs.declared.byte_reader.LineFault.TheVariants as faults

pub Consumes-then : (a b c : Option (List ℕ)) (xs ys : List ℕ) → Consumes a b xs → Consumes b c ys → Consumes a c (xs ++ ys)
Consumes-then None b c xs ys p q = tt
Consumes-then (Some ks) None c xs ys p q = absurd p
Consumes-then (Some ks) (Some ls) None xs ys p q = absurd q
Consumes-then (Some ks) (Some ls) (Some ms) xs ys p q = p ∙ ap (λ t. xs ++ t) q ∙ sym (append_assoc xs ys ms)

pub Consumes-none : (a b : Option (List ℕ)) → Keeps a b → Consumes a b []
Consumes-none None b k = tt
Consumes-none (Some ks) None k = absurd k
Consumes-none (Some ks) (Some ls) k = sym k

pub Keeps-Consumes : (a b c : Option (List ℕ)) (xs : List ℕ) → Keeps a b → Consumes b c xs → Consumes a c xs
Keeps-Consumes a b c xs k p = Consumes-then a b c [] xs (Consumes-none a b k) p

pub Consumes-Keeps : (a b c : Option (List ℕ)) (xs : List ℕ) → Consumes a b xs → Keeps b c → Consumes a c xs
Consumes-Keeps None b c xs p k = tt
Consumes-Keeps (Some ks) None c xs p k = absurd p
Consumes-Keeps (Some ks) (Some ls) None xs p k = absurd k
Consumes-Keeps (Some ks) (Some ls) (Some ms) xs p k = p ∙ ap (λ t. xs ++ t) (sym k)

pub first-known : (x : ℕ) (xs : List ℕ) (rest : Option (List ℕ)) → Consumes (prepend_known (x ∷ xs) rest) (prepend_known xs rest) (x ∷ [])
first-known x xs None = tt
first-known x xs (Some ys) = refl

pub range-first : (piece : List ℕ) (from to : ℕ) → from < to → to ≤ length piece → slice_range piece from to ≡ get_or piece from 0 ∷ slice_range piece (from + 1) to
range-first piece from to below within =
    let here : from < length piece = omega arith in
    let step : to - from ≡ suc (to - (from + 1)) = omega arith in
    ap (λ n. take n (drop from piece)) step ∙ ap (λ l. take (suc (to - (from + 1))) l) (drop-cons piece from 0 here) ∙ ap (λ n. get_or piece from 0 ∷ take (to - (from + 1)) (drop n piece)) (sym (add-one from))

pub range-length : (piece : List ℕ) (from to : ℕ) → to ≤ length piece → length (slice_range piece from to) ≡ to - from
range-length piece from to within = simp (length-take, length-drop) (omega arith)

pub first-of_range : (piece : List ℕ) (from to : ℕ) (rest : Option (List ℕ)) → from < to → to ≤ length piece → Consumes (prepend_known (slice_range piece from to) rest) (prepend_known (slice_range piece (from + 1) to) rest) (get_or piece from 0 ∷ [])
first-of_range piece from to rest below within =
    let P : List ℕ → Type 0 = λ l. Consumes (prepend_known l rest) (prepend_known (slice_range piece (from + 1) to) rest) (get_or piece from 0 ∷ []) in
    subst P (sym (range-first piece from to below within)) (first-known (get_or piece from 0) (slice_range piece (from + 1) to) rest)

pub Passed-then : {a b c : PlainReader} {xs ys : List ℕ} → Passed a b xs → Passed b c ys → Passed a c (xs ++ ys)
Passed-then {a} {b} {c} {xs} {ys} p q = record {
  bytes = Consumes-then (ahead a) (ahead b) (ahead c) xs ys p.bytes q.bytes;
  count = omega (arith, p.count, q.count, length-append xs ys);
  same = q.same ∙ p.same;
}

pub Took-then : {a b c : PlainReader} {xs ys : List ℕ} → Took a b xs → Took b c ys → Took a c (xs ++ ys)
Took-then p q = record { passed = Passed-then p.passed q.passed; steady = q.steady ∙ p.steady; beside = q.beside ∙ p.beside }

pub stopped_then : (a b c : PlainReader) (e : LineFault) → b.source.failures ≡ a.source.failures → StoppedBy b c e → StoppedBy a c e
stopped_then a b c faults.Memory same s = tt
stopped_then a b c faults.Read same s = (s.0 ∙ ap one_more same, s.1, s.2)
stopped_then a b c faults.TooLong same s = s

pub Took-broke : {a b c : PlainReader} {xs ys : List ℕ} {e : LineFault} → Took a b xs → Broke b c ys e → Broke a c (xs ++ ys) e
Took-broke {a} {b} {c} {xs} {ys} {e} p q = record { passed = Passed-then p.passed q.passed; beside = q.beside ∙ p.beside; stopped = stopped_then a b c e p.steady q.stopped }

-- no memory for what was taken
pub Took-memory : {a b : PlainReader} {xs : List ℕ} → Took a b xs → Broke a b xs faults.Memory
Took-memory t = record { passed = t.passed; beside = t.beside; stopped = tt }

keep_all : (a : Option (List ℕ)) → Consumes a a []
keep_all None = tt
keep_all (Some xs) = refl

-- nothing was taken yet
pub Took-refl : {a : PlainReader} → Took a a []
Took-refl {a} = record { passed = record { bytes = keep_all (ahead a); count = omega arith; same = refl }; steady = refl; beside = refl }

-- a front of the piece is handed out
pub parted-known : (xs ys : List ℕ) (rest : Option (List ℕ)) → Consumes (prepend_known (xs ++ ys) rest) (prepend_known ys rest) xs
parted-known xs ys None = tt
parted-known xs ys (Some zs) = append_assoc xs ys zs

pub range-parted : (piece : List ℕ) (from n to : ℕ) → from + n ≤ to → slice_range piece from to ≡ take n (slice_range piece from to) ++ slice_range piece (from + n) to
range-parted piece from n to below =
    let size : to - from ≡ n + (to - (from + n)) = omega arith in
    sym (take-append-drop n (slice_range piece from to))
    ∙ ap (λ t. take n (slice_range piece from to) ++ t) (ap (λ k. drop n (take k (drop from piece))) size ∙ drop-take n (to - (from + n)) (drop from piece) ∙ ap (λ l. take (to - (from + n)) l) (drop-drop n from piece))

pub passed-known : (piece : List ℕ) (from to n room : ℕ) (rest : Option (List ℕ)) → from ≤ to → to ≤ length piece → n ≤ length (take room (slice_range piece from to)) →
    Consumes (prepend_known (slice_range piece from to) rest) (prepend_known (slice_range piece (from + n) to) rest) (take n (take room (slice_range piece from to)))
passed-known piece from to n room rest ordered within few =
    let r : List ℕ = slice_range piece from to in
    let s : List ℕ = slice_range piece (from + n) to in
    let small : n ≤ room = omega (arith, length-take room (slice_range piece from to)) in
    let below : from + n ≤ to = omega (arith, length-take room (slice_range piece from to), range-length piece from to within) in
    subst (λ t. Consumes (prepend_known r rest) (prepend_known s rest) t) (sym (take-take n room r small))
    (subst (λ l. Consumes (prepend_known l rest) (prepend_known s rest) (take n r)) (sym (range-parted piece from n to below)) (parted-known (take n r) s rest))

pub take-one : (l : List ℕ) → 0 < length l → take 1 l ≡ get_or l 0 0 ∷ []
take-one [] h = absurd (omega arith)
take-one (x ∷ xs) h = refl

pub take-two : (l : List ℕ) → 2 ≤ length l → take 2 l ≡ get_or l 0 0 ∷ get_or l 1 0 ∷ []
take-two [] h = absurd (omega arith)
take-two (x ∷ []) h = absurd (omega arith)
take-two (x ∷ y ∷ ys) h = refl
