-- The next line, from what was read of it.
use Rattle.std.proofs.Common.{◌≡◌, ◌≢◌, ℕ, ◌+◌, ◌-◌, ◌<◌, ◌≤◌, ◌⊎◌, inl, inr, Bool, true, false, cond, nat_lt, List, [], ◌∷◌, ◌++◌, length, take, drop, Some, refl, sym, ◌∙◌, ap, subst, arith, append_assoc, append-nil, take_all}
use Rattle.std.proofs.lemmas.List.{nil_from_length, take-take}
use Rattle.std.proofs.lemmas.Bool.Decides.{nat_tests}
use Rattle.std.specs.Io.BufRead.{strip_last}
use Rattle.rev_script.specs.ByteReader.{PlainReader, Took, Broke, AtEnd}
use Rattle.rev_script.specs.RawLine.{IsText, IsPart, IsRest, ending}
use Rattle.rev_script.specs.DataBlock.{IsBroken}
use Rattle.std.specs.Str.{bytes_eq}
use Rattle.std.proofs.Common.{length-drop, length-take, lit≤, codes}
use Rattle.std.specs.Io.BufRead.{ends_with_byte}
use Rattle.rev_script.specs.Commands.{command, asked, longest}
use Rattle.rev_script.specs.Words.{words, word}
use Rattle.rev_script.specs.declared.command.StorageCommand.{StorageCommand}
use Rattle.std.proofs.Common.{ℤ, ◌||◌, Option, None, Result, Ok, Err, IfOk, IfErr}
use Rattle.rev_script.specs.Script.{StorageLine, payload_of, has_lf, after_lf, ScriptLine, BadLine, line_of, storage_line_of, is_ending, block_size, is_passed, passes, onwards, cuts, whole_lines, IsWhole, IsLast}
use Rattle.rev_script.specs.Line.{PlainInput, has_block, IsNext, IsBehindRest, IsFault, IsStorageLine, IsStorageNext}
use Rattle.rev_script.specs.declared.dialect.Dialect.{Dialect}
use Rattle.rev_script.specs.declared.byte_reader.LineFault.{LineFault}
use Rattle.rev_script.specs.declared.byte_reader.LineFault.TheVariants as faults
use Rattle.rev_script.specs.declared.raw_line.RawLine.{RawLine}
use Rattle.rev_script.specs.declared.command.Command.{Command}
use Rattle.rev_script.specs.declared.command.Command.TheVariants.{Storage, Retrieval, Update, FlushAll, Actor, Tune, Debug, Query, Bookmark, Bad}
use Rattle.rev_script.specs.declared.command.BadAnswer.TheVariants.{LineTooLong, BadChunk}
use Rattle.rev_script.proofs.Known.{Took-then, Took-broke}
use Rattle.rev_script.proofs.Text.{after_lf-append}
use Rattle.rev_script.proofs.Cuts.{cuts-nil, no_ending, no_lf_after, whole_block, last_block, last_text, none_whole, none_whole-nil, none_whole-text}

less : (a b : ℕ) → a < b → nat_lt a b ≡ true
less a b h = grind (arith, nat_tests)

-- a line without a data block: none of it is passed over
no_block : (d : Dialect) (c : Command) → has_block c ≡ false → (block_size d c [] ≡ 0) × (passes d c [] ≡ false)
no_block d (Storage c flags exptime size noreply) e = absurd (cc)
no_block d (Retrieval with_cas) e = (refl, refl)
no_block d (Update c noreply) e = (refl, refl)
no_block d (FlushAll delay noreply) e = (refl, refl)
no_block d (Actor a) e = (refl, refl)
no_block d (Tune t) e = (refl, refl)
no_block d (Debug c) e = (refl, refl)
no_block d (Query q) e = (refl, refl)
no_block d (Bookmark c) e = (refl, refl)
no_block d (Bad a) e = (refl, refl)

plain_or : (d : Dialect) (text : List ℕ) (feed : Bool) (End : Type 0) → has_lf text ≡ false → (feed ≡ false → 0 < length text) → (feed ≡ false → End) →
    has_block (asked (strip_last 13 text)) ≡ false →
    IsWhole d false false (text ++ ending feed) (line_of d (asked (strip_last 13 text)) (words (strip_last 13 text)) [])
    ⊎ (IsLast d false (text ++ ending feed) (line_of d (asked (strip_last 13 text)) (words (strip_last 13 text)) []) × End)
plain_or d text true End n some at_end none =
    let b = no_block d (asked (strip_last 13 text)) none in
    inl (subst (λ p. IsWhole d false p (text ++ 10 ∷ []) (line_of d (asked (strip_last 13 text)) (words (strip_last 13 text)) [])) b.1 (whole_block d text [] n (sym b.0)))
plain_or d text false End n some at_end none =
    inr (subst (λ t. IsLast d false t (line_of d (asked (strip_last 13 text)) (words (strip_last 13 text)) [])) (sym (append-nil text)) (last_text d text n (some refl)), at_end refl)

-- what is read at a line's first byte, behind which no line is passed over
abbrev pub here : Dialect → PlainReader → PlainInput
here d b = record { bytes = b; dialect = d; passes = false }

pub next_plain : {old new : PlainReader} {raw : RawLine} {kept : List ℕ} (d : Dialect) →
    (t : IsText old new raw kept) (e : ScriptLine) → (raw.feed ≡ false → 0 < raw.length) →
    has_block (asked (strip_last 13 t.text)) ≡ false → e ≡ line_of d (asked (strip_last 13 t.text)) (words (strip_last 13 t.text)) [] →
    IsNext (here d old) (here d new) (Some e)
next_plain {old} {new} {raw} {kept} d t e some none is =
    subst (λ x. IsNext (here d old) (here d new) (Some x)) (sym is) (
      t.text ++ ending raw.feed,
      t.took,
      refl,
      plain_or d t.text raw.feed (AtEnd new) t.no_lf (λ f. omega (arith, some f, t.size)) t.at_end none,
    )

-- a line that is too long
either_limit : (b : Bool) → cond b 65536 2048 ≤ 65536
either_limit true = lit≤ tt
either_limit false = lit≤ tt

either_end : (b : Bool) (text : List ℕ) → length text ≤ length (cond b (take (length text - 1) text) text) + 1
either_end true text = omega (arith, length-take (length text - 1) text)
either_end false text = omega arith

asked-over : (x : List ℕ) → longest (words x) < length x → asked x ≡ Bad LineTooLong
unfolding asked
asked-over x h =
    let t : nat_lt (longest (words x)) (length x) ≡ true = less (longest (words x)) (length x) h in
    ap (λ b. cond b (Bad LineTooLong) (command (words x))) t

pub asked-long : (text : List ℕ) → 65537 < length text → asked (strip_last 13 text) ≡ Bad LineTooLong
asked-long text h =
    asked-over (strip_last 13 text)
    (omega (arith, either_limit (bytes_eq (word (words (strip_last 13 text)) 0) (codes "get") || bytes_eq (word (words (strip_last 13 text)) 0) (codes "gets")), either_end (ends_with_byte 13 text) text))

-- a line that was kept whole
pub kept_text : {old new : PlainReader} {raw : RawLine} {kept : List ℕ} →
    (t : IsText old new raw kept) → raw.length ≤ 65537 → kept ≡ t.text
kept_text t h = t.kept_is ∙ take_all 65537 t.text (omega (arith, t.size))

pub next_done : {old new : PlainReader} {raw : RawLine} {kept : List ℕ} (d : Dialect) →
    (t : IsText old new raw kept) (b : List ℕ) → b ≡ strip_last 13 t.text → (e : ScriptLine) → (raw.feed ≡ false → 0 < raw.length) →
    has_block (asked b) ≡ false → e ≡ line_of d (asked b) (words b) [] → IsNext (here d old) (here d new) (Some e)
next_done {old} {new} {raw} {kept} d t b is e some none line =
    let P : List ℕ → Type 0 = λ x. has_block (asked x) ≡ false → e ≡ line_of d (asked x) (words x) [] → IsNext (here d old) (here d new) (Some e) in
    subst P (sym is) (λ n i. next_plain d t e some n i) none line

-- a storage line with its data block
block_or : (d : Dialect) (text block : List ℕ) (c : Command) (End : Type 0) → has_lf text ≡ false → asked (strip_last 13 text) ≡ c →
    (length block ≡ block_size d c block) ⊎ ((length block < block_size d c block) × End) →
    IsWhole d false (passes d c block) (text ++ 10 ∷ block) (line_of d c (words (strip_last 13 text)) block)
    ⊎ (IsLast d false (text ++ 10 ∷ block) (line_of d c (words (strip_last 13 text)) block) × End)
block_or d text block c End n e (inl p) =
    inl (subst (λ a. IsWhole d false (passes d a block) (text ++ 10 ∷ block) (line_of d a (words (strip_last 13 text)) block)) e
    (whole_block d text block n (p ∙ ap (λ a. block_size d a block) (sym e))))
block_or d text block c End n e (inr p) =
    inr (
      subst (λ a. IsLast d false (text ++ 10 ∷ block) (line_of d a (words (strip_last 13 text)) block)) e
          (last_block d text block n (subst (λ a. length block < block_size d a block) (sym e) p.0)),
      p.1,
    )

pub next_block : {old mid : PlainReader} {new : PlainInput} {raw : RawLine} {kept key : List ℕ} {storage : StorageCommand} {flags : ℕ} {exptime : ℤ} {size : ℕ} {noreply : Bool} {line : ScriptLine} (d : Dialect) →
    (t : IsText old mid raw kept) → raw.feed ≡ true → asked (strip_last 13 t.text) ≡ Storage storage flags exptime size noreply → key ≡ word (words (strip_last 13 t.text)) 1 →
    IsStorageLine (here d mid) new storage key flags exptime size noreply line → IsNext (here d old) new (Some line)
next_block {old} {mid} {new} {raw} {kept} {key} {storage} {flags} {exptime} {size} {noreply} {line} d t feed c k s =
    let first : Took old mid (t.text ++ 10 ∷ []) = subst (λ f. Took old mid (t.text ++ ending f)) feed t.took in
    let both : Took old new.bytes (t.text ++ 10 ∷ s.block) = subst (λ l. Took old new.bytes l) (append_assoc t.text (10 ∷ []) s.block) (Took-then first s.took) in
    let is : storage_line_of d storage (word (words (strip_last 13 t.text)) 1) flags exptime size noreply s.block ≡ line =
    ap (λ w. storage_line_of d storage w flags exptime size noreply s.block) (sym k) ∙ sym s.line_is in
    let which = block_or d t.text s.block (Storage storage flags exptime size noreply) (AtEnd new.bytes) t.no_lf c s.size_is in (
      t.text ++ 10 ∷ s.block,
      both,
      s.dialect_is,
      elim which [
        | inl w ↦ inl (subst (λ p. IsWhole d false p (t.text ++ 10 ∷ s.block) line) (sym s.passes_is)
            (subst (λ x. IsWhole d false (is_passed d (is_ending d (drop size s.block))) (t.text ++ 10 ∷ s.block) x) is w))
        | inr l ↦ inr (subst (λ x. IsLast d false (t.text ++ 10 ∷ s.block) x) is l.0, l.1)
      ],
    )

-- the same, of the answer of the function that takes the block
next_stored : {old mid : PlainReader} {raw : RawLine} {kept key : List ℕ} {storage : StorageCommand} {flags : ℕ} {exptime : ℤ} {size : ℕ} {noreply : Bool} (new : PlainInput) (d : Dialect) (line : Option ScriptLine) →
    (t : IsText old mid raw kept) → raw.feed ≡ true → asked (strip_last 13 t.text) ≡ Storage storage flags exptime size noreply → key ≡ word (words (strip_last 13 t.text)) 1 →
    IsStorageNext (here d mid) new storage key flags exptime size noreply line → IsNext (here d old) new line
next_stored new d None t feed c k s = absurd s
next_stored new d (Some line) t feed c k s = next_block d t feed c k s

pub stored_ok : {A : Type 0} {old mid : PlainReader} {raw : RawLine} {kept key : List ℕ} {storage : StorageCommand} {flags : ℕ} {exptime : ℤ} {size : ℕ} {noreply : Bool} (new : PlainInput) (f : A → Option ScriptLine) (d : Dialect) (r : Result A LineFault) →
    (t : IsText old mid raw kept) → raw.feed ≡ true → asked (strip_last 13 t.text) ≡ Storage storage flags exptime size noreply → key ≡ word (words (strip_last 13 t.text)) 1 →
    IfOk r (λ a. IsStorageNext (here d mid) new storage key flags exptime size noreply (f a)) → IfOk r (λ a. IsNext (here d old) new (f a))
stored_ok new f d (Ok a) t feed c k s = next_stored new d (f a) t feed c k s
stored_ok new f d (Err e) t feed c k s = tt

-- a storage line that the end cuts off before its LF
pub storage_line_of-nil : (d : Dialect) (storage : StorageCommand) (key : List ℕ) (flags : ℕ) (exptime : ℤ) (size : ℕ) (noreply : Bool) → storage_line_of d storage key flags exptime size noreply [] ≡ BadLine BadChunk
storage_line_of-nil d storage key flags exptime size noreply =
    ap (λ t. cond (is_ending d t) (StorageLine storage key flags exptime (payload_of size []) noreply) (BadLine BadChunk)) (nil_from_length (drop size []) (omega (arith, length-drop {A = ℕ} size [])))
    ∙ ap (λ b. cond b (StorageLine storage key flags exptime (payload_of size []) noreply) (BadLine BadChunk)) (no_ending d)

pub next_cut_storage : {old new : PlainReader} {raw : RawLine} {kept : List ℕ} {storage : StorageCommand} {flags : ℕ} {exptime : ℤ} {size : ℕ} {noreply : Bool} (d : Dialect) →
    (t : IsText old new raw kept) → raw.feed ≡ false → 0 < raw.length → asked (strip_last 13 t.text) ≡ Storage storage flags exptime size noreply →
    IsNext (here d old) (here d new) (Some (BadLine BadChunk))
next_cut_storage {old} {new} {raw} {kept} {storage} {flags} {exptime} {size} {noreply} d t feed some c =
    let took : Took old new t.text = subst (λ l. Took old new l) (append-nil t.text) (subst (λ f. Took old new (t.text ++ ending f)) feed t.took) in
    let is : line_of d (asked (strip_last 13 t.text)) (words (strip_last 13 t.text)) [] ≡ BadLine BadChunk =
    ap (λ a. line_of d a (words (strip_last 13 t.text)) []) c ∙ storage_line_of-nil d storage (word (words (strip_last 13 t.text)) 1) flags exptime size noreply in
    (t.text, took, refl, inr (subst (λ x. IsLast d false t.text x) is (last_text d t.text t.no_lf (omega (arith, t.size, some))), t.at_end feed))

-- a fault in the line's text
pub fault_text : {old new : PlainReader} {e : LineFault} (d : Dialect) → IsPart old new e → IsFault (here d old) (here d new) e
fault_text d p = (p.text, p.broke, (λ _. none_whole-text d p.text p.no_lf))

-- a fault in its data block
pub fault_block : {old mid new : PlainReader} {raw : RawLine} {kept : List ℕ} {storage : StorageCommand} {flags : ℕ} {exptime : ℤ} {size : ℕ} {noreply : Bool} {e : LineFault} (d : Dialect) →
    (t : IsText old mid raw kept) → raw.feed ≡ true → asked (strip_last 13 t.text) ≡ Storage storage flags exptime size noreply →
    IsBroken d mid new size e → IsFault (here d old) (here d new) e
fault_block {old} {mid} {new} {raw} {kept} {storage} {flags} {exptime} {size} {noreply} {e} d t feed c s =
    let first : Took old mid (t.text ++ 10 ∷ []) = subst (λ f. Took old mid (t.text ++ ending f)) feed t.took in
    let both : Broke old new (t.text ++ 10 ∷ s.taken) e = subst (λ l. Broke old new l e) (append_assoc t.text (10 ∷ []) s.taken) (Took-broke first s.broke) in
    let short : e ≢ faults.Memory → length s.taken < block_size d (asked (strip_last 13 t.text)) s.taken =
    λ other. subst (λ a. length s.taken < block_size d a s.taken) (sym c) (s.short other) in
    (t.text ++ 10 ∷ s.taken, both, (λ other. none_whole d (t.text ++ 10 ∷ s.taken) _ (last_block d t.text s.taken t.no_lf (short other))))

pub stored_err : {A : Type 0} {old mid : PlainReader} {raw : RawLine} {kept : List ℕ} {storage : StorageCommand} {flags : ℕ} {exptime : ℤ} {size : ℕ} {noreply : Bool} (new : PlainReader) (d : Dialect) (r : Result A LineFault) →
    (t : IsText old mid raw kept) → raw.feed ≡ true → asked (strip_last 13 t.text) ≡ Storage storage flags exptime size noreply →
    IfErr r (λ e. IsBroken d mid new size e) → IfErr r (λ e. IsFault (here d old) (here d new) e)
stored_err new d (Ok a) t feed c s = tt
stored_err new d (Err e) t feed c s = fault_block d t feed c s

-- a fault before any byte of the line
pub fault_none : {old new : PlainReader} {e : LineFault} (d : Dialect) → Broke old new [] e → IsFault (here d old) (here d new) e
fault_none d k = ([], k, (λ _. none_whole-text d [] refl))

-- ---- behind the rest of a line that is passed over

-- what is read where such a rest is in front
abbrev pub within : Dialect → PlainReader → PlainInput
within d b = record { bytes = b; dialect = d; passes = true }

after-rest : (text taken : List ℕ) → has_lf text ≡ false → onwards true ((text ++ 10 ∷ []) ++ taken) ≡ taken
after-rest text taken n = ap after_lf (append_assoc text (10 ∷ []) taken) ∙ after_lf-append text (10 ∷ taken) n

rest_next : {old mid : PlainReader} (new : PlainInput) (d : Dialect) (line : Option ScriptLine) → IsRest old mid true → IsNext (here d mid) new line → IsNext (within d old) new line
rest_next new d None r n = (
  (r.text ++ 10 ∷ []) ++ n.0,
  Took-then r.took n.1,
  n.2,
  ap (cuts d) (after-rest r.text n.0 r.no_lf) ∙ n.3,
  n.4,
)
rest_next new d (Some line) r n = (
  (r.text ++ 10 ∷ []) ++ n.0,
  Took-then r.took n.1,
  n.2,
  elim n.3 [
    | inl w ↦ inl (record { cut = λ more. ap (λ t. cuts d (onwards true t)) (append_assoc (r.text ++ 10 ∷ []) n.0 more) ∙ ap (cuts d) (after-rest r.text (n.0 ++ more) r.no_lf) ∙ w.cut more })
    | inr l ↦ inr (record { cut = ap (cuts d) (after-rest r.text n.0 r.no_lf) ∙ l.0.cut }, l.1)
  ],
)

-- the end comes before its LF
pub rest_end : {old new : PlainReader} (d : Dialect) → IsRest old new false → IsNext (within d old) (within d new) None
rest_end {old} {new} d r = (
  r.text ++ [],
  r.took,
  refl,
  ap (λ t. cuts d (after_lf t)) (append-nil r.text) ∙ ap (cuts d) (no_lf_after r.text r.no_lf) ∙ cuts-nil d,
  r.at_end refl,
)

-- a fault in it
pub fault_rest : {old new : PlainReader} {e : LineFault} (d : Dialect) → IsPart old new e → IsFault (within d old) (within d new) e
fault_rest d p = (p.text, p.broke, λ _. ap (whole_lines d) (no_lf_after p.text p.no_lf) ∙ none_whole-nil d)

-- what comes behind it
pub rested : {A : Type 0} {old mid : PlainReader} (new : PlainReader) (d : Dialect) (r : Result A LineFault) → IsRest old mid true →
    IfErr r (λ e. IsFault (here d mid) (here d new) e) → IfErr r (λ e. IsFault (within d old) (here d new) e)
rested new d (Ok a) t f = tt
rested new d (Err e) t f = (
  (t.text ++ 10 ∷ []) ++ f.0,
  Took-broke t.took f.1,
  λ other. ap (whole_lines d) (after-rest t.text f.0 t.no_lf) ∙ f.2 other,
)

pub rested_ok : {A : Type 0} {old mid : PlainReader} (new : PlainInput) (f : A → Option ScriptLine) (d : Dialect) (r : Result A LineFault) → IsRest old mid true →
    IfOk r (λ a. IsNext (here d mid) new (f a)) → IfOk r (λ a. IsNext (within d old) new (f a))
rested_ok new f d (Ok a) k n = rest_next new d (f a) k n
rested_ok new f d (Err e) k n = tt

-- the same, whether there is a rest or not
pub onward_ok : {A : Type 0} {old mid : PlainReader} {d e : Dialect} (p q : Bool) (new : PlainInput) (f : A → Option ScriptLine) (r : Result A LineFault) →
    IsBehindRest (record { bytes = old; dialect = d; passes = p }) (record { bytes = mid; dialect = e; passes = q }) →
    IfOk r (λ a. IsNext (record { bytes = mid; dialect = e; passes = q }) new (f a)) → IfOk r (λ a. IsNext (record { bytes = old; dialect = d; passes = p }) new (f a))
onward_ok {d = d} true q new f r b n =
    let m = rw (b.begins, b.dialect_is) at n in
    rested_ok new f d r (b.rest refl) m
onward_ok false q new f r b n = rw (b.begins, b.dialect_is, b.none refl) at n

pub onward_err : {A : Type 0} {old mid : PlainReader} {d e : Dialect} (p q : Bool) (new : PlainReader) (r : Result A LineFault) →
    IsBehindRest (record { bytes = old; dialect = d; passes = p }) (record { bytes = mid; dialect = e; passes = q }) →
    IfErr r (λ f. IsFault (record { bytes = mid; dialect = e; passes = q }) (here d new) f) → IfErr r (λ f. IsFault (record { bytes = old; dialect = d; passes = p }) (here d new) f)
onward_err {d = d} true q new r b n =
    let m = rw (b.begins, b.dialect_is) at n in
    rested new d r (b.rest refl) m
onward_err false q new r b n = rw (b.begins, b.dialect_is, b.none refl) at n

-- ---- behind a look at the piece, which takes nothing

look_next : {old mid : PlainReader} (new : PlainInput) (d : Dialect) (line : Option ScriptLine) → Took old mid [] → IsNext (here d mid) new line → IsNext (here d old) new line
look_next new d None k n = (n.0, Took-then k n.1, n.2, n.3, n.4)
look_next new d (Some line) k n = (n.0, Took-then k n.1, n.2, n.3)

pub looked : {A : Type 0} {old mid : PlainReader} (new : PlainReader) (d : Dialect) (r : Result A LineFault) → Took old mid [] →
    IfErr r (λ e. IsFault (here d mid) (here d new) e) → IfErr r (λ e. IsFault (here d old) (here d new) e)
looked new d (Ok a) k f = tt
looked new d (Err e) k f = (f.0, Took-broke k f.1, f.2)

pub looked_ok : {A : Type 0} {old mid : PlainReader} (new : PlainInput) (f : A → Option ScriptLine) (d : Dialect) (r : Result A LineFault) → Took old mid [] →
    IfOk r (λ a. IsNext (here d mid) new (f a)) → IfOk r (λ a. IsNext (here d old) new (f a))
looked_ok new f d (Ok a) k n = look_next new d (f a) k n
looked_ok new f d (Err e) k n = tt

-- there is no line at the end, where a line has no byte
pub no_text : {old new : PlainReader} {raw : RawLine} {kept : List ℕ} (t : IsText old new raw kept) → raw.feed ≡ false → raw.length ≡ 0 → Took old new [] × AtEnd new
no_text {old} {new} t feed none =
    let took : Took old new (t.text ++ []) = subst (λ f. Took old new (t.text ++ ending f)) feed t.took in
    (subst (λ l. Took old new l) (append-nil t.text ∙ nil_from_length t.text (t.size ∙ none)) took, t.at_end feed)

pub no_line : {old new : PlainReader} (d : Dialect) → Took old new [] → AtEnd new → IsNext (here d old) (here d new) None
no_line d k e = ([], k, refl, cuts-nil d, e)

-- the line's bytes without their ending are a front of the piece
stripped : (b : Bool) (text : List ℕ) → take (length (cond b (take (length text - 1) text) text)) text ≡ cond b (take (length text - 1) text) text
stripped true text = ap (λ n. take n text) (omega (arith, length-take (length text - 1) text))
stripped false text = take_all (length text) text (omega arith)

shorter : (b : Bool) (text : List ℕ) → length (cond b (take (length text - 1) text) text) ≤ length text
shorter true text = omega (arith, length-take (length text - 1) text)
shorter false text = omega arith

pub front_body : (i : ℕ) (front : List ℕ) → strip_last 13 (take i front) ≡ take (length (strip_last 13 (take i front))) front
front_body i front =
    let text = take i front in
    let b = ends_with_byte 13 text in
    let few : length (strip_last 13 text) ≤ i = omega (arith, shorter b text, length-take i front) in
    sym (stripped b text) ∙ take-take (length (strip_last 13 text)) i front few
