-- What is at hand of a log, as bytes are read, moved and handed out.
use Rattle.std.proofs.Common.{◌≡◌, ℕ, ◌+◌, ◌-◌, ◌^◌, ◌<◌, ◌≤◌, min, false, Option, None, Some, List, [], ◌∷◌, ◌++◌, length, take, drop, slice_range, refl, sym, ◌∙◌, ap, subst, arith, append_assoc, append-nil, length-take}
use Rattle.std.specs.Io.KnownBytes.{Consumes, Keeps, prepend_known}
use Rattle.std.proofs.lemmas.List.{take-take}
use Rattle.rev_script.proofs.Known.{range-parted, range-length, parted-known}
use Rattle.rev_script.proofs.Pieces.{feed_some, feed_none}
use Rattle.memchr.specs.Find.{IsFirstByte, is_byte}
use Rattle.std.proofs.Common.{Ok, Err, inr}
use Rattle.std.proofs.lemmas.List.{take-append-drop}
use Rattle.rev_script.specs.Script.{has_lf}
use Rattle.rev_script.specs.Source.{Told}
use Rattle.rev_watch.specs.Reader.{in_piece, next_number, source_in, Took, Grew, Kept, IsAhead, IsTooLong, IsText, IsEnd, IsNext, IsFault, log_fault}
use Rattle.rev_watch.specs.Line.{line_of}
use Rattle.rev_watch.specs.declared.fault.LineFault.{LineFault}
use Rattle.rev_watch.specs.declared.fault.LineFault.TheVariants as line_faults
use Rattle.rev_watch.specs.declared.fault.LogFault.TheVariants as faults
use Rattle.rev_watch.specs.declared.event.Line.{Line}
use Rattle.rev_watch.specs.declared.reader.LogReader.{LogReader}
use Rattle.rev_watch.specs.declared.reader.NextLine.TheVariants.{Whole}

pub Keeps-prepend : (a b : Option (List ℕ)) (p : List ℕ) → Keeps a b → Keeps (prepend_known p a) (prepend_known p b)
Keeps-prepend None b p k = tt
Keeps-prepend (Some xs) None p k = absurd k
Keeps-prepend (Some xs) (Some ys) p k = ap (λ l. p ++ l) k

-- what was read stands behind what was at hand
pub Keeps-more : (a b : Option (List ℕ)) (p t : List ℕ) → Consumes a b t → Keeps (prepend_known p a) (prepend_known (p ++ t) b)
Keeps-more None b p t c = tt
Keeps-more (Some xs) None p t c = absurd c
Keeps-more (Some xs) (Some ys) p t c = append_assoc p t ys ∙ ap (λ l. p ++ l) (sym c)

-- a line's bytes are handed out
pub passed : (piece : List ℕ) (from n to : ℕ) (rest : Option (List ℕ)) → from + n ≤ to →
    Consumes (prepend_known (slice_range piece from to) rest) (prepend_known (slice_range piece (from + n) to) rest) (take n (slice_range piece from to))
passed piece from n to rest below =
    let r : List ℕ = slice_range piece from to in
    let s : List ℕ = slice_range piece (from + n) to in
    subst (λ (l : List ℕ). Consumes (prepend_known l rest) (prepend_known s rest) (take n r)) (sym (range-parted piece from n to below)) (parted-known (take n r) s rest)

-- what is at hand is ahead
pub hand-ahead : {S : Type 0} (told : S → Told) (r : LogReader S) (front back : List ℕ) → in_piece r ≡ front ++ back → IsAhead told r front
hand-ahead {S} told r front back e = (
  prepend_known back (told (source_in r)).remaining,
  subst (λ (l : List ℕ). Consumes (prepend_known l (told (source_in r)).remaining) (prepend_known back (told (source_in r)).remaining) front) (sym e)
      (parted-known front back (told (source_in r)).remaining),
)

-- ---- where a line ends

pub hand-length : {S : Type 0} (r : LogReader S) → length (in_piece r) ≡ r.to - r.from
hand-length r =
    let within : r.to ≤ length r.piece = omega (arith, r.within, r.whole) in
    range-length r.piece r.from r.to within

pub long-feed : {S : Type 0} (told : S → Told) (r : LogReader S) (front : List ℕ) (end : ℕ) → front ≡ in_piece r → IsFirstByte (is_byte 10) front (Some end) → 4096 < end → IsTooLong told r
long-feed told r front end e first long =
    let f = feed_some front (Some end) first in
    let size : length (take end front) ≡ end = omega (arith, length-take end front, f.0) in
    (take end front, f.1, omega (arith, size, long), hand-ahead told r (take end front) (drop end front) (sym e ∙ sym (take-append-drop end front)))

pub long-none : {S : Type 0} (told : S → Told) (r : LogReader S) (front : List ℕ) → front ≡ in_piece r → IsFirstByte (is_byte 10) front None → 4096 < length front → IsTooLong told r
long-none told r front e first long =
    (front, feed_none front None first, long, hand-ahead told r front [] (sym e ∙ sym (append-nil front)))

pub end-found : {S : Type 0} (told : S → Told) (r : LogReader S) (front : List ℕ) (end : ℕ) → front ≡ in_piece r → IsFirstByte (is_byte 10) front (Some end) → end ≤ 4096 → IsEnd told r (Some end)
end-found told r front end e first short =
    let P : List ℕ → Type 0 = λ l. (end < length l) × (end ≤ 4096) × (has_lf (take end l) ≡ false) × (take (end + 1) l ≡ take end l ++ 10 ∷ []) in
    let f = feed_some front (Some end) first in
    subst P e (f.0, short, f.1, f.2)

-- no LF is at hand, and nothing more came
pub end-none : {S : Type 0} (told : S → Told) (r new : LogReader S) (front more : List ℕ) → front ≡ in_piece r → IsFirstByte (is_byte 10) front None → length front ≤ 4096 →
    Grew told r new more → more ≡ [] → IsText (in_piece new)
end-none told r new front more e first short g none =
    let same : front ≡ in_piece new = e ∙ sym (g.piece ∙ ap (λ t. in_piece r ++ t) none ∙ append-nil (in_piece r)) in
    subst IsText same (feed_none front None first, short)

-- the bytes of a line, cut out of the piece
pub text-at-hand : (piece : List ℕ) (from to end : ℕ) → end ≤ to - from → take ((from + end) - from) (drop from piece) ≡ take end (slice_range piece from to)
text-at-hand piece from to end h =
    ap (λ k. take k (drop from piece)) (omega arith) ∙ sym (take-take end (to - from) (drop from piece) h)

-- the next line is no line of a log
pub bad-line : {S A : Type 0} (told : S → Told) (r : LogReader S) (end : ℕ) (text : List ℕ) (fault : LineFault) → IsEnd told r (Some end) → text ≡ take end (in_piece r) →
    line_of {A = A} text ≡ Err fault → IsFault A told r (faults.Line (next_number r) fault)
bad-line {S} {A} told r end text fault found is bad =
    let ends : take end (in_piece r) ++ 10 ∷ [] ≡ take (end + 1) (in_piece r) = sym found.3 in
    let ahead_of : IsAhead told r (take end (in_piece r) ++ 10 ∷ []) =
    hand-ahead told r (take end (in_piece r) ++ 10 ∷ []) (drop (end + 1) (in_piece r))
    (sym (take-append-drop (end + 1) (in_piece r)) ∙ ap (λ t. t ++ drop (end + 1) (in_piece r)) (sym ends)) in
    let size : length (take end (in_piece r)) ≤ 4096 = omega (arith, length-take end (in_piece r), found.1) in
    let P : List ℕ → Type 0 = λ l. IsText l × IsAhead told r (l ++ 10 ∷ []) in
    (refl, inr (text, subst P (sym is) ((found.2, size), ahead_of), bad))

pub other-fault : (line : ℕ) (fault : LineFault) → (fault ≡ line_faults.Memory → ⊥) → log_fault line fault ≡ faults.Line line fault
other-fault line line_faults.Memory n = absurd (n refl)
other-fault line fault n = refl

pub told-fault : {S A : Type 0} (told : S → Told) (r : LogReader S) (end : ℕ) (text : List ℕ) (fault : LineFault) → IsEnd told r (Some end) → text ≡ take end (in_piece r) →
    ((fault ≡ line_faults.Memory → ⊥) → line_of {A = A} text ≡ Err fault) → IsFault A told r (log_fault (next_number r) fault)
told-fault told r end text line_faults.Memory found is bad = tt
told-fault {S} {A} told r end text fault found is bad = bad-line {S = S} {A = A} told r end text fault found is (bad (λ e. cc))

-- ---- the next line

Keeps-Consumes : (a b c : Option (List ℕ)) (t : List ℕ) → Keeps a b → Consumes b c t → Consumes a c t
Keeps-Consumes None b c t k d = tt
Keeps-Consumes (Some xs) None c t k d = absurd k
Keeps-Consumes (Some xs) (Some ys) None t k d = absurd d
Keeps-Consumes (Some xs) (Some ys) (Some zs) t k d = sym k ∙ d

kept-took : {S : Type 0} (told : S → Told) (old mid new : LogReader S) (t : List ℕ) → Kept told old mid → Took told mid new t (next_number mid) → Took told old new t (next_number old)
kept-took told old mid new t k h = record {
  bytes = Keeps-Consumes _ _ _ t k.bytes h.bytes;
  lines = h.lines ∙ ap (λ n. min (n + 1) (2 ^ 64 - 1)) k.lines;
  same = h.same ∙ k.same;
}

-- a line and its LF are handed out
pub whole-next : {S A : Type 0} (told : S → Told) (old mid new : LogReader S) (end : ℕ) (text : List ℕ) (line : Line A) → Kept told old mid → IsEnd told mid (Some end) →
    text ≡ take end (in_piece mid) → line_of {A = A} text ≡ Ok line → Took told mid new (take (end + 1) (in_piece mid)) (next_number mid) → IsNext told old new (Some (Whole line))
whole-next told old mid new end text line kept found is says took =
    let size : length (take end (in_piece mid)) ≤ 4096 = omega (arith, length-take end (in_piece mid), found.1) in
    let ends : take (end + 1) (in_piece mid) ≡ text ++ 10 ∷ [] = found.3 ∙ ap (λ t. t ++ 10 ∷ []) (sym is) in (
      text,
      subst IsText (sym is) (found.2, size),
      says,
      kept-took told old mid new (text ++ 10 ∷ []) kept (subst (λ t. Took told mid new t (next_number mid)) ends took),
    )
