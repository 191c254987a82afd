-- What is at hand after a read.
use Rattle.std.proofs.Common.{◌≡◌, ℕ, ◌+◌, ◌<◌, ◌≤◌, true, false, nat_lt, inl, inr, Option, List, [], ◌++◌, length, take, drop, slice_range, refl, sym, ◌∙◌, ap, subst, arith, append-nil, take-add, length-take}
use Rattle.std.proofs.Math.Seq.{take-append_seam, drop-append_seam}
use Rattle.std.proofs.lemmas.List.{take-append-le, length-take-le}
use Rattle.std.specs.Io.KnownBytes.{Consumes, Keeps, IsAtEnd, prepend_known}
use Rattle.std.proofs.lemmas.Bool.Decides.{leb_tells}
use Rattle.std.proofs.KnownBytes.{Keeps-trans}
use Rattle.std.proofs.Common.{Result, Ok, Err}
use Rattle.rev_script.specs.Source.{Told, last_of}
use Rattle.rev_script.specs.declared.source.LastRead.{LastRead}
use Rattle.rev_script.specs.declared.source.LastRead.TheVariants.{Gave, Ended, Failed}
use Rattle.rev_watch.specs.Reader.{in_piece, ahead, line_count, source_in, identity, Grew, Kept}
use Rattle.rev_watch.specs.declared.reader.LogReader.{LogReader}
use Rattle.rev_watch.proofs.ReaderLemmas.{Keeps-more, Keeps-prepend}

front-read : (piece buf post : List ℕ) (to n : ℕ) → to ≤ length piece → n ≤ length buf → take (to + n) (take to piece ++ (buf ++ post)) ≡ take to piece ++ take n buf
front-read piece buf post to n w h =
    let front : List ℕ = take to piece in
    let size : length front ≡ to = length-take-le to piece w in
    ap (λ k. take (k + n) (front ++ (buf ++ post))) (sym size)
    ∙ take-add (length front) n (front ++ (buf ++ post))
    ∙ ap (λ t. t ++ take n (drop (length front) (front ++ (buf ++ post)))) (take-append_seam front (buf ++ post))
    ∙ ap (λ t. front ++ take n t) (drop-append_seam front (buf ++ post))
    ∙ ap (λ t. front ++ t) (take-append-le n buf post h)

-- the bytes that were read stand behind those at hand, which are the front of the piece
pub read-behind : (piece buf post : List ℕ) (from to n : ℕ) → from ≡ 0 → to ≤ length piece → n ≤ length buf →
    slice_range (take to piece ++ (buf ++ post)) from (to + n) ≡ slice_range piece from to ++ take n buf
read-behind piece buf post from to n z w h =
    let all : List ℕ = take to piece ++ (buf ++ post) in
    ap (λ f. slice_range all f (to + n)) z
    ∙ ap (λ k. take k all) (omega arith)
    ∙ front-read piece buf post to n w h
    ∙ ap (λ k. take k piece ++ take n buf) (omega arith)
    ∙ ap (λ f. slice_range piece f to ++ take n buf) (sym z)

pub grown : {S : Type 0} (told : S → Told) (old mid new : LogReader S) (more : List ℕ) → Grew told old mid [] → in_piece new ≡ in_piece mid ++ more →
    Consumes (told (source_in mid)).remaining (told (source_in new)).remaining more → line_count new ≡ line_count mid → identity told new ≡ identity told mid → Grew told old new more
grown {S} told old mid new more g e c l i = record {
  piece = e ∙ ap (λ t. t ++ more) (g.piece ∙ append-nil (in_piece old));
  bytes = Keeps-trans (ahead told old) (ahead told mid) (ahead told new) g.bytes
      (subst (λ (t : List ℕ). Keeps (ahead told mid) (prepend_known t (told (source_in new)).remaining)) (sym e)
      (Keeps-more (told (source_in mid)).remaining (told (source_in new)).remaining (in_piece mid) more c));
  lines = l ∙ g.lines;
  same = i ∙ g.same;
}

-- a read that failed
pub stayed : {S : Type 0} (told : S → Told) (old mid new : LogReader S) → Grew told old mid [] → in_piece new ≡ in_piece mid →
    Keeps (told (source_in mid)).remaining (told (source_in new)).remaining → line_count new ≡ line_count mid → identity told new ≡ identity told mid → Kept told old new
stayed {S} told old mid new g e k l i = record {
  bytes = Keeps-trans (ahead told old) (ahead told mid) (ahead told new) g.bytes
      (subst (λ (t : List ℕ). Keeps (ahead told mid) (prepend_known t (told (source_in new)).remaining)) (sym e)
      (Keeps-prepend (told (source_in mid)).remaining (told (source_in new)).remaining (in_piece mid) k));
  lines = l ∙ g.lines;
  same = i ∙ g.same;
}

-- the bytes of a read that gave some
pub some-read : (n : ℕ) (buf : List ℕ) → n ≤ length buf → nat_lt 0 n ≡ true → 0 < length (take n buf)
some-read n buf h e = elim (leb_tells 1 n) [
  | inl p ↦ omega (arith, p.1, h, length-take n buf)
  | inr p ↦ absurd (let q = rw p.0 at e in cc)
]

-- a read that gave none, where there was room
pub none-read : (n : ℕ) (buf : List ℕ) (rest : Option (List ℕ)) → (n ≡ 0 → 0 < length buf → IsAtEnd rest) → 0 < length buf → nat_lt 0 n ≡ false → (take n buf ≡ []) × IsAtEnd rest
none-read n buf rest h room e = elim (leb_tells 1 n) [
  | inl p ↦ absurd (let q = rw p.0 at e in cc)
  | inr p ↦ let z : n ≡ 0 = omega (arith, p.1) in (ap (λ k. take k buf) z, h z room)
]

-- nothing was read
pub read-none : (piece rest : List ℕ) (from to : ℕ) → from ≡ 0 → to ≤ length piece → slice_range (take to piece ++ rest) from to ≡ slice_range piece from to
read-none piece rest from to z w =
    let front : List ℕ = take to piece in
    let size : length front ≡ to = length-take-le to piece w in
    ap (λ f. slice_range (front ++ rest) f to) z
    ∙ ap (λ k. take k (front ++ rest)) (omega (arith, size))
    ∙ take-append_seam front rest
    ∙ ap (λ k. take k piece) (omega arith)
    ∙ ap (λ f. slice_range piece f to) (sym z)

pub failed-read : {E : Type 0} (old new : LastRead) (r : Result ℕ E) (e : E) (room : ℕ) → r ≡ Err e → (old ≡ Ended → r ≡ Ok 0) → new ≡ last_of old r room → new ≡ Failed
failed-read Gave new r e room is stays l = l ∙ ap (λ x. last_of Gave x room) is
failed-read Ended new r e room is stays l = absurd (let q = stays refl in cc)
failed-read Failed new r e room is stays l = l ∙ ap (λ x. last_of Failed x room) is
