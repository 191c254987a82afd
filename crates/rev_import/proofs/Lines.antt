-- The lines that were written are the lines that are read.
use Rattle.std.proofs.Common.{◌≡◌, ℕ, ◌-◌, ◌≤◌, ◌==◌, ◌||◌, true, false, List, [], ◌∷◌, ◌++◌, length, refl, sym, ◌∙◌, ap, subst, arith, nat_lt, cond, append_assoc, length-append, Bool, codes, take, get_or}
use Rattle.std.proofs.lemmas.Bool.Decides.{nat_tests}
use Rattle.std.specs.Str.{bytes_eq}
use Rattle.std.proofs.Math.Seq.{get_or-append_seam}
use Rattle.std.proofs.lemmas.Bool.{le-leb}
use Rattle.std.specs.Io.BufRead.{strip_last, ends_with_byte}
use Rattle.std.specs.List.{list_all}
use Rattle.rev_script.specs.declared.dialect.Dialect.TheVariants.{CrLf}
use Rattle.rev_script.specs.declared.command.Command.{Command}
use Rattle.rev_script.specs.declared.command.Command.TheVariants.{Storage, Retrieval, Update, FlushAll, Actor, Tune, Debug, Query, Bookmark, Bad}
use Rattle.rev_script.specs.Words.{words, word}
use Rattle.rev_script.specs.Commands.{asked, command, longest}
use Rattle.rev_script.specs.Script.{ScriptLine, block_size, passes, onwards, line_of, cuts}
use Rattle.rev_script.proofs.Cuts.{whole_block}
use Rattle.rev_script.proofs.Front.{take_front}
use Rattle.rev_script.proofs.Text.{has_lf-more}
use Rattle.rev_import.specs.Writing.{IsLine, Adds, is_word, spaced, line_text, whole_line}
use Rattle.rev_import.proofs.Words.{either, words-spaced, has_lf-line}

-- CR in front of LF is no part of a line
strip_last-cr : (body : List ℕ) → strip_last 13 (body ++ 13 ∷ []) ≡ body
strip_last-cr body =
    let n : length (body ++ 13 ∷ []) - 1 ≡ length body = omega (arith, length-append body (13 ∷ [])) in
    let some : nat_lt 0 (length (body ++ 13 ∷ [])) ≡ true = le-leb 1 (length (body ++ 13 ∷ [])) (omega (arith, length-append body (13 ∷ []))) in
    let at : get_or (body ++ 13 ∷ []) (length (body ++ 13 ∷ []) - 1) 0 ≡ 13 = ap (λ i. get_or (body ++ 13 ∷ []) i 0) n ∙ get_or-append_seam body 13 [] 0 in
    let t : ends_with_byte 13 (body ++ 13 ∷ []) ≡ true = either _ _ some (ap (λ b. b == 13) at) in
    ap (λ b. cond b (take (length (body ++ 13 ∷ []) - 1) (body ++ 13 ∷ [])) (body ++ 13 ∷ [])) t
    ∙ ap (λ i. take i (body ++ 13 ∷ [])) n
    ∙ take_front (length body) body (13 ∷ []) refl

either_limit : (b : Bool) → 2048 ≤ cond b 65536 2048
either_limit true = omega arith
either_limit false = omega arith

-- a line of at most 2048 bytes is looked at
asked-short : (body : List ℕ) → length body ≤ 2048 → asked body ≡ command (words body)
unfolding asked
asked-short body h =
    let l = either_limit (bytes_eq (word (words body) 0) (codes "get") || bytes_eq (word (words body) 0) (codes "gets")) in
    let t : nat_lt (longest (words body)) (length body) ≡ false = grind (arith, nat_tests) in
    rw t refl

-- with CR LF behind data no line is passed over
never_passes : (c : Command) (block : List ℕ) → passes CrLf c block ≡ false
never_passes (Storage c flags exptime size noreply) block = refl
never_passes (Retrieval with_cas) block = refl
never_passes (Update c noreply) block = refl
never_passes (FlushAll delay noreply) block = refl
never_passes (Actor a) block = refl
never_passes (Tune t) block = refl
never_passes (Debug c) block = refl
never_passes (Query q) block = refl
never_passes (Bookmark c) block = refl
never_passes (Bad a) block = refl

-- the words of a line, what they ask for, and the data block behind it
pub line_whole : (first : List ℕ) (rest : List (List ℕ)) (block : List ℕ) → is_word first ≡ true → list_all is_word rest ≡ true → length (first ++ spaced rest) ≤ 2048 →
    length block ≡ block_size CrLf (command (first ∷ rest)) block → IsLine (line_text first rest ++ block) (line_of CrLf (command (first ∷ rest)) (first ∷ rest) block)
line_whole first rest block p q short size =
    let body : List ℕ = first ++ spaced rest in
    let s = strip_last-cr body in
    let w : words (strip_last 13 (body ++ 13 ∷ [])) ≡ first ∷ rest = ap words s ∙ words-spaced first rest p q in
    let c : asked (strip_last 13 (body ++ 13 ∷ [])) ≡ command (first ∷ rest) = ap asked s ∙ asked-short body short ∙ ap command (words-spaced first rest p q) in
    let whole = whole_block CrLf (body ++ 13 ∷ []) block (has_lf-more body 13 (has_lf-line first rest p q) (λ e. omega (arith, e))) (size ∙ ap (λ a. block_size CrLf a block) (sym c)) in
    let text : (body ++ 13 ∷ []) ++ 10 ∷ block ≡ line_text first rest ++ block = append_assoc body (13 ∷ []) (10 ∷ block) ∙ sym (append_assoc body (13 ∷ 10 ∷ []) block) in
    let line : line_of CrLf (asked (strip_last 13 (body ++ 13 ∷ []))) (words (strip_last 13 (body ++ 13 ∷ []))) block ≡ line_of CrLf (command (first ∷ rest)) (first ∷ rest) block =
    ap (λ a. line_of CrLf a (words (strip_last 13 (body ++ 13 ∷ []))) block) c ∙ ap (λ v. line_of CrLf (command (first ∷ rest)) v block) w in
    subst (λ l. IsLine (line_text first rest ++ block) l) line
    (subst (λ t. IsLine t (line_of CrLf (asked (strip_last 13 (body ++ 13 ∷ []))) (words (strip_last 13 (body ++ 13 ∷ []))) block)) text
    (record { cut = λ more. whole.cut more ∙ ap (λ b. whole_line (line_of CrLf (asked (strip_last 13 (body ++ 13 ∷ []))) (words (strip_last 13 (body ++ 13 ∷ []))) block) ∷ cuts CrLf (onwards b more)) (never_passes (asked (strip_last 13 (body ++ 13 ∷ []))) block) }))

-- such a line behind what was written
pub adds_line : (old new : List ℕ) (text : List ℕ) (line : ScriptLine) → new ≡ old ++ text → IsLine text line → Adds old new (line ∷ [])
adds_line old new text line e whole = record { text = text; behind = e; lines_are = record { cut = whole.cut } }
