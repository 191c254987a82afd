-- The lines of bytes, one after another.
use Rattle.std.proofs.Common.{◌≡◌, ℕ, zero, suc, ◌+◌, ◌==◌, ◌<◌, ◌≤◌, Bool, true, false, cond, ◌&&◌, nat_le, List, [], ◌∷◌, ◌++◌, length, take, drop, refl, sym, ◌∙◌, ap, append_assoc, append-nil, arith, length-append, length-drop, count_by, lit≤}
use Rattle.std.specs.Io.BufRead.{strip_last}
use Rattle.rev_script.specs.Words.{words}
use Rattle.rev_script.specs.Commands.{asked}
use Rattle.rev_script.specs.Script.{before_lf, after_lf, has_lf, ScriptLine, cut_of, line_of, is_ending, is_passed, ending_size, block_size, passes, onwards, behind_block, first, behind, cuts_up_to, cuts, whole_lines, IsWhole, IsLast}
use Rattle.std.proofs.Common.{take_all}
use Rattle.std.proofs.lemmas.List.{nil_from_length, drop-append-le}
use Rattle.std.proofs.lemmas.Bool.{le-leb, lt-leb}
use Rattle.rev_script.specs.declared.command.Command.{Command}
use Rattle.rev_script.specs.declared.command.Command.TheVariants.{Storage, Retrieval, Update, FlushAll, Actor, Tune, Debug, Query, Bookmark, Bad}
use Rattle.rev_script.specs.declared.dialect.Dialect.{Dialect}
use Rattle.rev_script.specs.declared.dialect.Dialect.TheVariants.{CrLf, AnyFeed}
use Rattle.rev_script.proofs.Front.{take_front, drop_front}
use Rattle.rev_script.proofs.Text.{has_lf-append, before_lf-append, after_lf-append, length-after_lf, length-after_lf-cons}

-- ---- what stands behind a block

length-onwards : (pass : Bool) (bytes : List ℕ) → length (onwards pass bytes) ≤ length bytes
length-onwards true bytes = length-after_lf bytes
length-onwards false bytes = omega arith

pub onwards-nil : (pass : Bool) → onwards pass [] ≡ []
onwards-nil true = refl
onwards-nil false = refl

length-behind_block : (d : Dialect) (c : Command) (rest : List ℕ) → length (behind_block d c rest) ≤ length rest
length-behind_block d c rest =
    omega (arith, length-onwards (passes d c (take (block_size d c rest) rest)) (drop (block_size d c rest) rest), length-drop (block_size d c rest) rest)

length-behind : (d : Dialect) (b : ℕ) (bs : List ℕ) → length (behind d (b ∷ bs)) ≤ length bs
length-behind d b bs = omega (arith, length-after_lf-cons b bs, length-behind_block d (asked (strip_last 13 (before_lf (b ∷ bs)))) (after_lf (b ∷ bs)))

pub cuts_up_to-enough : (d : Dialect) (n m : ℕ) (bytes : List ℕ) → length bytes ≤ n → length bytes ≤ m → cuts_up_to d n bytes ≡ cuts_up_to d m bytes
cuts_up_to-enough d zero zero bytes p q = refl
cuts_up_to-enough d zero (suc m) [] p q = refl
cuts_up_to-enough d zero (suc m) (b ∷ bs) p q = absurd (omega arith)
cuts_up_to-enough d (suc n) zero [] p q = refl
cuts_up_to-enough d (suc n) zero (b ∷ bs) p q = absurd (omega arith)
cuts_up_to-enough d (suc n) (suc m) [] p q = refl
cuts_up_to-enough d (suc n) (suc m) (b ∷ bs) p q =
    ap (λ t. first d (b ∷ bs) ∷ t) (cuts_up_to-enough d n m (behind d (b ∷ bs)) (omega (arith, length-behind d b bs)) (omega (arith, length-behind d b bs)))

pub cuts-cons : (d : Dialect) (b : ℕ) (bs : List ℕ) → cuts d (b ∷ bs) ≡ first d (b ∷ bs) ∷ cuts d (behind d (b ∷ bs))
unfolding cuts
cuts-cons d b bs = ap (λ t. first d (b ∷ bs) ∷ t) (cuts_up_to-enough d (length bs) (length (behind d (b ∷ bs))) (behind d (b ∷ bs)) (length-behind d b bs) (omega arith))

pub cuts-first : (d : Dialect) (bytes : List ℕ) → 0 < length bytes → cuts d bytes ≡ first d bytes ∷ cuts d (behind d bytes)
cuts-first d [] h = absurd (omega arith)
cuts-first d (b ∷ bs) h = cuts-cons d b bs

pub cuts-nil : (d : Dialect) → cuts d [] ≡ []
unfolding cuts
cuts-nil d = refl

-- ---- a first line that LF ends

first-feed : (d : Dialect) (text rest : List ℕ) → has_lf text ≡ false → first d (text ++ 10 ∷ rest) ≡ cut_of d (asked (strip_last 13 text)) (words (strip_last 13 text)) rest true
first-feed d text rest h =
    let e : before_lf (text ++ 10 ∷ rest) ≡ text = before_lf-append text (10 ∷ rest) h ∙ append-nil text in
    ap (λ t. cut_of d (asked (strip_last 13 t)) (words (strip_last 13 t)) (after_lf (text ++ 10 ∷ rest)) (has_lf (text ++ 10 ∷ rest))) e
    ∙ ap (λ t. cut_of d (asked (strip_last 13 text)) (words (strip_last 13 text)) t (has_lf (text ++ 10 ∷ rest))) (after_lf-append text (10 ∷ rest) h)
    ∙ ap (λ t. cut_of d (asked (strip_last 13 text)) (words (strip_last 13 text)) rest t) (has_lf-append text (10 ∷ rest) h)

behind-feed : (d : Dialect) (text rest : List ℕ) → has_lf text ≡ false → behind d (text ++ 10 ∷ rest) ≡ behind_block d (asked (strip_last 13 text)) rest
behind-feed d text rest h =
    let e : before_lf (text ++ 10 ∷ rest) ≡ text = before_lf-append text (10 ∷ rest) h ∙ append-nil text in
    ap (λ t. behind_block d (asked (strip_last 13 t)) (after_lf (text ++ 10 ∷ rest))) e
    ∙ ap (λ t. behind_block d (asked (strip_last 13 text)) t) (after_lf-append text (10 ∷ rest) h)

pub cuts-feed : (d : Dialect) (text rest : List ℕ) → has_lf text ≡ false →
    cuts d (text ++ 10 ∷ rest) ≡ cut_of d (asked (strip_last 13 text)) (words (strip_last 13 text)) rest true ∷ cuts d (behind_block d (asked (strip_last 13 text)) rest)
cuts-feed d text rest h =
    cuts-first d (text ++ 10 ∷ rest) (omega (arith, length-append text (10 ∷ rest)))
    ∙ ap (λ f. f ∷ cuts d (behind d (text ++ 10 ∷ rest))) (first-feed d text rest h)
    ∙ ap (λ t. cut_of d (asked (strip_last 13 text)) (words (strip_last 13 text)) rest true ∷ cuts d t) (behind-feed d text rest h)

-- ---- how a block ends is told by its own bytes

pub no_ending : (d : Dialect) → is_ending d [] ≡ false
no_ending CrLf = refl
no_ending AnyFeed = refl

pub none_passed : (d : Dialect) → is_passed d true ≡ false
none_passed CrLf = refl
none_passed AnyFeed = refl

one_or_two : (b : Bool) → 1 ≤ cond b 2 1
one_or_two true = lit≤ tt
one_or_two false = lit≤ tt

pub ending_size-some : (d : Dialect) (bytes : List ℕ) → 1 ≤ ending_size d bytes
ending_size-some CrLf bytes = lit≤ tt
ending_size-some AnyFeed [] = lit≤ tt
ending_size-some AnyFeed (b ∷ bs) = one_or_two (b == 13)

ending_size-append : (d : Dialect) (bytes more : List ℕ) → 1 ≤ length bytes → ending_size d (bytes ++ more) ≡ ending_size d bytes
ending_size-append CrLf bytes more some = refl
ending_size-append AnyFeed [] more some = absurd (omega arith)
ending_size-append AnyFeed (b ∷ bs) more some = refl

storage_size-append : (d : Dialect) (size : ℕ) (block more : List ℕ) → length block ≡ size + ending_size d (drop size block) →
    size + ending_size d (drop size (block ++ more)) ≡ size + ending_size d (drop size block)
storage_size-append d size block more e =
    let some : 1 ≤ length (drop size block) = omega (arith, e, ending_size-some d (drop size block), length-drop size block) in
    ap (λ t. size + ending_size d t) (drop-append-le size block more (omega (arith, e)))
    ∙ ap (λ n. size + n) (ending_size-append d (drop size block) more some)

block_size-append : (d : Dialect) (c : Command) (block more : List ℕ) → length block ≡ block_size d c block → block_size d c (block ++ more) ≡ block_size d c block
block_size-append d (Storage c flags exptime size noreply) block more e = storage_size-append d size block more e
block_size-append d (Retrieval with_cas) block more e = refl
block_size-append d (Update c noreply) block more e = refl
block_size-append d (FlushAll delay noreply) block more e = refl
block_size-append d (Actor a) block more e = refl
block_size-append d (Tune t) block more e = refl
block_size-append d (Debug c) block more e = refl
block_size-append d (Query q) block more e = refl
block_size-append d (Bookmark c) block more e = refl
block_size-append d (Bad a) block more e = refl

-- ---- the next line, whole or the last

whole_cut : (d : Dialect) (c : Command) (ws : List (List ℕ)) (block more : List ℕ) → length block ≡ block_size d c block →
    (cut_of d c ws (block ++ more) true ∷ cuts d (behind_block d c (block ++ more))) ≡ (record { line = line_of d c ws block; whole = true } ∷ cuts d (onwards (passes d c block) more))
whole_cut d c ws block more e =
    let n = block_size d c block in
    let all : List ℕ = block ++ more in
    let fits : nat_le n (length all) ≡ true = le-leb n (length all) (omega (arith, length-append block more, e)) in
    ap (λ k. record { line = line_of d c ws (take k all); whole = true && nat_le k (length all) } ∷ cuts d (onwards (passes d c (take k all)) (drop k all))) (block_size-append d c block more e)
    ∙ ap (λ t. record { line = line_of d c ws t; whole = true && nat_le n (length all) } ∷ cuts d (onwards (passes d c t) (drop n all))) (take_front n block more e)
    ∙ ap (λ b. record { line = line_of d c ws block; whole = b } ∷ cuts d (onwards (passes d c block) (drop n all))) fits
    ∙ ap (λ t. record { line = line_of d c ws block; whole = true } ∷ cuts d (onwards (passes d c block) t)) (drop_front n block more e)

-- the block is whole
pub whole_block : (d : Dialect) (text block : List ℕ) → has_lf text ≡ false → length block ≡ block_size d (asked (strip_last 13 text)) block →
    IsWhole d false (passes d (asked (strip_last 13 text)) block) (text ++ 10 ∷ block) (line_of d (asked (strip_last 13 text)) (words (strip_last 13 text)) block)
whole_block d text block no_lf e = record {
  cut = λ more.
      ap (cuts d) (append_assoc text (10 ∷ block) more)
      ∙ cuts-feed d text (block ++ more) no_lf
      ∙ whole_cut d (asked (strip_last 13 text)) (words (strip_last 13 text)) block more e;
}

-- nothing is left behind a block that is cut off
short_rest : (d : Dialect) (c : Command) (block taken : List ℕ) → length block ≤ block_size d c block → onwards (passes d c taken) (drop (block_size d c block) block) ≡ []
short_rest d c block taken above =
    ap (λ t. onwards (passes d c taken) t) (nil_from_length (drop (block_size d c block) block) (omega (arith, length-drop (block_size d c block) block)))
    ∙ onwards-nil (passes d c taken)

short_cut : (d : Dialect) (c : Command) (ws : List (List ℕ)) (block : List ℕ) → length block < block_size d c block →
    (cut_of d c ws block true ∷ cuts d (behind_block d c block)) ≡ (record { line = line_of d c ws block; whole = false } ∷ [])
short_cut d c ws block e =
    let n = block_size d c block in
    let above : length block ≤ n = omega arith in
    let fits : nat_le n (length block) ≡ false = lt-leb n (length block) e in
    ap (λ t. record { line = line_of d c ws (take n block); whole = true && nat_le n (length block) } ∷ cuts d t) (short_rest d c block (take n block) above)
    ∙ ap (λ t. record { line = line_of d c ws t; whole = true && nat_le n (length block) } ∷ cuts d []) (take_all n block above)
    ∙ ap (λ b. record { line = line_of d c ws block; whole = b } ∷ cuts d []) fits
    ∙ ap (λ t. record { line = line_of d c ws block; whole = false } ∷ t) (cuts-nil d)

-- the block is cut off by the end
pub last_block : (d : Dialect) (text block : List ℕ) → has_lf text ≡ false → length block < block_size d (asked (strip_last 13 text)) block →
    IsLast d false (text ++ 10 ∷ block) (line_of d (asked (strip_last 13 text)) (words (strip_last 13 text)) block)
last_block d text block no_lf e = record {
  cut =
      cuts-feed d text block no_lf ∙ short_cut d (asked (strip_last 13 text)) (words (strip_last 13 text)) block e;
}

no_feed_cut : (d : Dialect) (c : Command) (ws : List (List ℕ)) →
    (cut_of d c ws [] false ∷ cuts d (behind_block d c [])) ≡ (record { line = line_of d c ws []; whole = false } ∷ [])
no_feed_cut d c ws =
    let n = block_size d c [] in
    ap (λ t. record { line = line_of d c ws (take n []); whole = false } ∷ cuts d t) (short_rest d c [] (take n []) (omega arith))
    ∙ ap (λ t. record { line = line_of d c ws t; whole = false } ∷ cuts d []) (take_all n [] (omega arith))
    ∙ ap (λ t. record { line = line_of d c ws []; whole = false } ∷ t) (cuts-nil d)

-- no byte stands behind an LF that is not there
pub no_lf_after : (text : List ℕ) → has_lf text ≡ false → after_lf text ≡ []
no_lf_after text no_lf = ap after_lf (sym (append-nil text)) ∙ after_lf-append text [] no_lf

-- the line has no LF
pub last_text : (d : Dialect) (text : List ℕ) → has_lf text ≡ false → 0 < length text →
    IsLast d false text (line_of d (asked (strip_last 13 text)) (words (strip_last 13 text)) [])
last_text d text no_lf some =
    let b : before_lf text ≡ text = ap before_lf (sym (append-nil text)) ∙ before_lf-append text [] no_lf ∙ append-nil text in
    let a : after_lf text ≡ [] = no_lf_after text no_lf in
    record {
      cut =
          cuts-first d text some
          ∙ ap (λ t. cut_of d (asked (strip_last 13 t)) (words (strip_last 13 t)) (after_lf text) (has_lf text) ∷ cuts d (behind_block d (asked (strip_last 13 t)) (after_lf text))) b
          ∙ ap (λ t. cut_of d (asked (strip_last 13 text)) (words (strip_last 13 text)) t (has_lf text) ∷ cuts d (behind_block d (asked (strip_last 13 text)) t)) a
          ∙ ap (λ t. cut_of d (asked (strip_last 13 text)) (words (strip_last 13 text)) [] t ∷ cuts d (behind_block d (asked (strip_last 13 text)) [])) no_lf
          ∙ no_feed_cut d (asked (strip_last 13 text)) (words (strip_last 13 text));
    }

pub none_whole : (d : Dialect) (taken : List ℕ) (line : ScriptLine) → IsLast d false taken line → whole_lines d taken ≡ 0
unfolding whole_lines
none_whole d taken line l = ap (λ t. count_by (λ c. c.whole) t) l.cut

pub none_whole-nil : (d : Dialect) → whole_lines d [] ≡ 0
unfolding whole_lines
none_whole-nil d = ap (λ t. count_by (λ c. c.whole) t) (cuts-nil d)

pub none_whole-text : (d : Dialect) (text : List ℕ) → has_lf text ≡ false → whole_lines d text ≡ 0
none_whole-text d [] h = none_whole-nil d
none_whole-text d (b ∷ bs) h = none_whole d (b ∷ bs) _ (last_text d (b ∷ bs) h (omega arith))
