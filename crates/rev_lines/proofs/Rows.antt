-- What the lines ask for that an import of the rules alone does not write.
use Rattle.std.proofs.Common.{◌≡◌, ℕ, ℤ, pos, negsuc, Bool, get_or, ◌<◌, ◌≤◌, ◌^◌, true, false, List, [], ◌∷◌, ◌++◌, length, take, nat_lt, cond, length-append, append-nil, refl, sym, ◌∙◌, ap, subst, arith, codes, Some}
use Rattle.std.specs.Fmt.{decimal, signed_decimal}
use Rattle.std.proofs.lemmas.Bool.{le-ltb}
use Rattle.std.proofs.lemmas.Fmt.{length-decimal-le, digits_decimal}
use Rattle.std.proofs.lemmas.Slice.Eq.{bytes_eq-Decides}
use Rattle.std.specs.List.{list_all}
use Rattle.std.specs.Str.{bytes_eq}
use lib.Signed.{mag}
use Rattle.rev_items.specs.Keys.{is_key}
use Rattle.rev_model.specs.Client.{Bytes, Skipped}
use Rattle.rev_model.specs.declared.ClassSet.TheVariants.{All}
use Rattle.rev_requests.specs.declared.clients.Arithmetic.TheVariants as sums
use Rattle.rev_requests.specs.declared.clients.StoreVerb.TheVariants as verbs
use Rattle.rev_requests.specs.declared.clients.JoinSide.TheVariants as sides
use Rattle.rev_requests.specs.declared.clients.KeyCommand.TheVariants as keyed
use Rattle.rev_requests.specs.declared.actors.ActorStep.TheVariants as actors
use Rattle.rev_script.specs.Number.{number, number_u32, signed, is_digit}
use Rattle.rev_script.specs.Commands.{command, verb_of, side_of, other_command, memory_command, storage_command, storage_line, cas_command, cas_of, touch_command, touch_of, increment_command, increment_of, decrement_command, decrement_of, flush_command, flush_of, crawler_command, actor_command, evict_command}
use Rattle.rev_script.specs.Commands as commands
use Rattle.rev_script.specs.declared.dialect.Dialect.TheVariants.{CrLf}
use Rattle.rev_script.specs.declared.command.BadAnswer.TheVariants.{BadFormat, BadChunk}
use Rattle.rev_script.specs.declared.command.StorageCommand.{StorageCommand}
use Rattle.rev_script.specs.declared.command.StorageCommand.TheVariants.{Store, Join}
use Rattle.rev_script.specs.declared.command.Command.{Command}
use Rattle.rev_script.specs.declared.command.Command.TheVariants.{Storage, Update, FlushAll, Actor, Bad}
use Rattle.rev_script.specs.Script.{UpdateLine, FlushLine, ActorLine, StorageLine, BadLine, storage_line_of, payload_of, block_size, line_of}
use Rattle.rev_script.proofs.Front.{take_front, drop_front}
use Rattle.rev_import.specs.Writing.{IsLine, is_word, spaced, line_text}
use Rattle.rev_import.proofs.Words.{either}
use Rattle.rev_import.proofs.Numerals.{script_numerals, number-decimal, number_u32-decimal, signed-signed_decimal, is_word-decimal, is_word-signed, is_word-key}
use Rattle.rev_import.proofs.Lines.{line_whole}
use Rattle.rev_lines.specs.Lines.{storage_text}

-- a line without a data block
plain_row : (first : List ℕ) (rest : List (List ℕ)) (c : Command) → is_word first ≡ true → list_all is_word rest ≡ true → length (first ++ spaced rest) ≤ 2048 →
    command (first ∷ rest) ≡ c → block_size CrLf c [] ≡ 0 → IsLine (line_text first rest) (line_of CrLf c (first ∷ rest) [])
plain_row first rest c p q short is none =
    let whole = line_whole first rest [] p q short (sym none ∙ ap (λ a. block_size CrLf a []) (sym is)) in
    let P : List ℕ → Command → Type 0 = λ t d. IsLine t (line_of CrLf d (first ∷ rest) []) in
    subst (λ t. P t c) (append-nil (line_text first rest)) (subst (λ d. P (line_text first rest ++ []) d) is whole)

pub touch_row : (key : List ℕ) (z : ℤ) → is_key key ≡ true → mag z < 2 ^ 31 → IsLine (line_text (codes "touch") (key ∷ signed_decimal z ∷ [])) (UpdateLine (keyed.Touch z) key false)
unfolding command other_command verb_of side_of touch_command
touch_row key z h m =
    let w = is_word-key key h in
    let s = is_word-signed z m in
    plain_row (codes "touch") (key ∷ signed_decimal z ∷ []) (Update (keyed.Touch z) false) refl (either _ _ w.0 (either _ _ s.0 refl))
    (omega (arith, length-append key (32 ∷ (signed_decimal z ++ [])), length-append (signed_decimal z) [], w.1, s.1))
    (rw h (ap (λ x. touch_of x false) (signed-signed_decimal z m))) refl

pub evict_row : (key : List ℕ) → is_key key ≡ true → IsLine (line_text (codes "~evict") (key ∷ [])) (UpdateLine keyed.Evict key false)
unfolding command actor_command evict_command
evict_row key h =
    let w = is_word-key key h in
    plain_row (codes "~evict") (key ∷ []) (Update keyed.Evict false) refl (either _ _ w.0 refl)
    (omega (arith, length-append key [], w.1))
    (rw h refl) refl

pub increment_row : (key : List ℕ) (n : ℕ) → is_key key ≡ true → n < 2 ^ 64 → IsLine (line_text (codes "incr") (key ∷ decimal n ∷ [])) (UpdateLine (keyed.Count (sums.Increment n)) key false)
unfolding command other_command verb_of side_of increment_command
increment_row key n h m =
    let w = is_word-key key h in
    plain_row (codes "incr") (key ∷ decimal n ∷ []) (Update (keyed.Count (sums.Increment n)) false) refl (either _ _ w.0 (either _ _ (is_word-decimal n m) refl))
    (omega (arith, length-append key (32 ∷ (decimal n ++ [])), length-append (decimal n) [], w.1, length-decimal-le 20 n))
    (rw h (ap (λ x. increment_of x false) (number-decimal 18446744073709551615 n (omega arith) m))) refl

pub decrement_row : (key : List ℕ) (n : ℕ) → is_key key ≡ true → n < 2 ^ 64 → IsLine (line_text (codes "decr") (key ∷ decimal n ∷ [])) (UpdateLine (keyed.Count (sums.Decrement n)) key false)
unfolding command other_command verb_of side_of decrement_command
decrement_row key n h m =
    let w = is_word-key key h in
    plain_row (codes "decr") (key ∷ decimal n ∷ []) (Update (keyed.Count (sums.Decrement n)) false) refl (either _ _ w.0 (either _ _ (is_word-decimal n m) refl))
    (omega (arith, length-append key (32 ∷ (decimal n ++ [])), length-append (decimal n) [], w.1, length-decimal-le 20 n))
    (rw h (ap (λ x. decrement_of x false) (number-decimal 18446744073709551615 n (omega arith) m))) refl

-- the first byte of a number is no `n`, so it is not `noreply`
no_true : (b : Bool) → (b ≡ true → ⊥) → b ≡ false
no_true true h = absurd (h refl)
no_true false h = refl

no_word : (z : ℤ) → mag z < 2 ^ 31 → bytes_eq (signed_decimal z) (codes "noreply") ≡ false
no_word (pos n) m =
    let digits = digits_decimal script_numerals n (omega arith) in
    no_true (bytes_eq (decimal n) (codes "noreply")) (λ t. let e = ap (list_all is_digit) ((bytes_eq-Decides (decimal n) (codes "noreply")).0 t) in cc)
no_word (negsuc n) m =
    no_true (bytes_eq (signed_decimal (negsuc n)) (codes "noreply"))
    (λ t. let e = ap (λ (l : List ℕ). get_or l 0 0) ((bytes_eq-Decides (signed_decimal (negsuc n)) (codes "noreply")).0 t) in omega (arith, e))

pub flush_row : (z : ℤ) → mag z < 2 ^ 31 → IsLine (line_text (codes "flush_all") (signed_decimal z ∷ [])) (FlushLine z false)
unfolding command other_command verb_of side_of memory_command flush_command
flush_row z m =
    let s = is_word-signed z m in
    plain_row (codes "flush_all") (signed_decimal z ∷ []) (FlushAll z false) refl (either _ _ s.0 refl)
    (omega (arith, length-append (signed_decimal z) [], s.1))
    (rw (no_word z m) (ap (λ x. flush_of x false) (signed-signed_decimal z m))) refl

pub crawl_all_row : IsLine (line_text (codes "lru_crawler") (codes "crawl" ∷ codes "all" ∷ [])) (ActorLine (actors.StartCrawl All))
unfolding command other_command verb_of side_of memory_command crawler_command
crawl_all_row = plain_row (codes "lru_crawler") (codes "crawl" ∷ codes "all" ∷ []) (Actor (actors.StartCrawl All)) refl refl (omega arith) refl refl

-- ---- a store and its data

-- the data are there, with their ending
stored_line : (c : StorageCommand) (key : List ℕ) (flags : ℕ) (z : ℤ) (size : ℕ) (d : List ℕ) → length d ≡ size → size ≤ 1048576 →
    storage_line_of CrLf c key flags z size false (d ++ 13 ∷ 10 ∷ []) ≡ StorageLine c key flags z (Bytes d) false
stored_line c key flags z size d e l =
    let block : List ℕ = d ++ 13 ∷ 10 ∷ [] in
    let few : nat_lt 1048576 size ≡ false = le-ltb 1048576 size l in
    ap (λ t. cond (bytes_eq t (13 ∷ 10 ∷ [])) (StorageLine c key flags z (payload_of size block) false) (BadLine BadChunk)) (drop_front size d (13 ∷ 10 ∷ []) e)
    ∙ ap (λ b. StorageLine c key flags z (cond b (Skipped size) (Bytes (take size block))) false) few
    ∙ ap (λ t. StorageLine c key flags z (Bytes t) false) (take_front size d (13 ∷ 10 ∷ []) e)

-- the words of a storage command, read in order
words_read : (c : StorageCommand) (flags : ℕ) (z : ℤ) (size : ℕ) → flags < 2 ^ 32 → mag z < 2 ^ 31 → size ≤ 1048576 →
    storage_line c (number_u32 (decimal flags)) (signed (signed_decimal z)) (number 2147483645 (decimal size)) false ≡ Storage c flags z size false
words_read c flags z size f m l =
    ap (λ x. storage_line c x (signed (signed_decimal z)) (number 2147483645 (decimal size)) false) (number_u32-decimal flags f)
    ∙ ap (λ x. storage_line c (Some flags) x (number 2147483645 (decimal size)) false) (signed-signed_decimal z m)
    ∙ ap (λ x. storage_line c (Some flags) (Some z) x false) (number-decimal 2147483645 size (omega arith) (omega arith))

-- a storage command and its data, by what its words ask for
storage_row : (name : List ℕ) (c : StorageCommand) (key : List ℕ) (flags : ℕ) (z : ℤ) (d : List ℕ) (more : List (List ℕ)) → is_word name ≡ true → length name ≤ 7 →
    list_all is_word more ≡ true → length (spaced more) ≤ 21 → is_key key ≡ true → flags < 2 ^ 32 → mag z < 2 ^ 31 → length d ≤ 1048576 →
    command (name ∷ key ∷ decimal flags ∷ signed_decimal z ∷ decimal (length d) ∷ more) ≡ Storage c flags z (length d) false →
    IsLine (storage_text name key flags z d more) (StorageLine c key flags z (Bytes d) false)
storage_row name c key flags z d more nw ns mw ms h f m l is =
    let block : List ℕ = d ++ 13 ∷ 10 ∷ [] in
    let ws : List (List ℕ) = key ∷ decimal flags ∷ signed_decimal z ∷ decimal (length d) ∷ more in
    let kw = is_word-key key h in
    let zw = is_word-signed z m in
    let whole : IsLine (line_text name ws ++ block) (line_of CrLf (command (name ∷ ws)) (name ∷ ws) block) =
    line_whole name ws block nw
    (either _ _ kw.0 (either _ _ (is_word-decimal flags (omega arith)) (either _ _ zw.0 (either _ _ (is_word-decimal (length d) (omega arith)) mw))))
    (omega (arith, length-append name (spaced ws), length-append key (spaced (decimal flags ∷ signed_decimal z ∷ decimal (length d) ∷ more)), length-append (decimal flags) (spaced (signed_decimal z ∷ decimal (length d) ∷ more)), length-append (signed_decimal z) (spaced (decimal (length d) ∷ more)), length-append (decimal (length d)) (spaced more), length-decimal-le 20 flags, length-decimal-le 20 (length d), ns, ms, kw.1, zw.1, f, l))
    (length-append d (13 ∷ 10 ∷ []) ∙ sym (ap (λ a. block_size CrLf a block) is)) in
    subst (λ x. IsLine (line_text name ws ++ block) x) (ap (λ a. line_of CrLf a (name ∷ ws) block) is ∙ stored_line c key flags z (length d) d refl l) whole

module _ (key : List ℕ) (flags : ℕ) (z : ℤ) (d : List ℕ) (h : is_key key ≡ true) (f : flags < 2 ^ 32) (m : mag z < 2 ^ 31) (l : length d ≤ 1048576) where
  -- five words, of which the second is a key
  asked_five : (name : List ℕ) (c : StorageCommand) → storage_command c (name ∷ key ∷ decimal flags ∷ signed_decimal z ∷ decimal (length d) ∷ []) ≡ Storage c flags z (length d) false
  unfolding storage_command commands.storage
  asked_five name c = ap (λ b. cond b (storage_line c (number_u32 (decimal flags)) (signed (signed_decimal z)) (number 2147483645 (decimal (length d))) false) (Bad BadFormat)) h ∙ words_read c flags z (length d) f m l

  pub set_row : IsLine (storage_text (codes "set") key flags z d []) (StorageLine (Store verbs.Set) key flags z (Bytes d) false)
  unfolding command verb_of
  set_row = storage_row (codes "set") (Store verbs.Set) key flags z d [] refl (omega arith) refl (omega arith) h f m l (asked_five (codes "set") (Store verbs.Set))

  pub add_row : IsLine (storage_text (codes "add") key flags z d []) (StorageLine (Store verbs.Add) key flags z (Bytes d) false)
  unfolding command verb_of
  add_row = storage_row (codes "add") (Store verbs.Add) key flags z d [] refl (omega arith) refl (omega arith) h f m l (asked_five (codes "add") (Store verbs.Add))

  pub replace_row : IsLine (storage_text (codes "replace") key flags z d []) (StorageLine (Store verbs.Replace) key flags z (Bytes d) false)
  unfolding command verb_of
  replace_row = storage_row (codes "replace") (Store verbs.Replace) key flags z d [] refl (omega arith) refl (omega arith) h f m l (asked_five (codes "replace") (Store verbs.Replace))

  pub append_row : IsLine (storage_text (codes "append") key flags z d []) (StorageLine (Join sides.Append) key flags z (Bytes d) false)
  unfolding command verb_of side_of
  append_row = storage_row (codes "append") (Join sides.Append) key flags z d [] refl (omega arith) refl (omega arith) h f m l (asked_five (codes "append") (Join sides.Append))

  pub prepend_row : IsLine (storage_text (codes "prepend") key flags z d []) (StorageLine (Join sides.Prepend) key flags z (Bytes d) false)
  unfolding command verb_of side_of
  prepend_row = storage_row (codes "prepend") (Join sides.Prepend) key flags z d [] refl (omega arith) refl (omega arith) h f m l (asked_five (codes "prepend") (Join sides.Prepend))

  -- with the number behind them
  asked_six : (n : ℕ) → n < 2 ^ 64 → cas_command (codes "cas" ∷ key ∷ decimal flags ∷ signed_decimal z ∷ decimal (length d) ∷ decimal n ∷ []) ≡ Storage (Store (verbs.Cas n)) flags z (length d) false
  unfolding cas_command commands.storage
  asked_six n u =
      ap (λ x. cas_of x (codes "cas" ∷ key ∷ decimal flags ∷ signed_decimal z ∷ decimal (length d) ∷ decimal n ∷ [])) (number-decimal 18446744073709551615 n (omega arith) u)
      ∙ ap (λ b. cond b (storage_line (Store (verbs.Cas n)) (number_u32 (decimal flags)) (signed (signed_decimal z)) (number 2147483645 (decimal (length d))) false) (Bad BadFormat)) h
      ∙ words_read (Store (verbs.Cas n)) flags z (length d) f m l

  pub cas_row : (n : ℕ) → n < 2 ^ 64 → IsLine (storage_text (codes "cas") key flags z d (decimal n ∷ [])) (StorageLine (Store (verbs.Cas n)) key flags z (Bytes d) false)
  unfolding command verb_of side_of other_command
  cas_row n u =
      storage_row (codes "cas") (Store (verbs.Cas n)) key flags z d (decimal n ∷ []) refl (omega arith) (either _ _ (is_word-decimal n u) refl)
      (omega (arith, length-append (decimal n) [], length-decimal-le 20 n)) h f m l (asked_six n u)
