-- What each line that is written asks for.
use Rattle.std.proofs.Common.{◌≡◌, ℕ, ◌+◌, ◌<◌, ◌≤◌, ◌^◌, ◌==◌, ◌&&◌, ℤ, ◌⊎◌, inl, inr, true, false, List, [], ◌∷◌, ◌++◌, length, take, nat_lt, cond, append_assoc, length-append, append-nil, refl, sym, ◌∙◌, ap, subst, arith, Bool, codes, Some, Result, Ok, Err, OnOk}
use Rattle.std.specs.Fmt.{decimal, signed_decimal}
use Rattle.std.proofs.Math.ListN.{replicate}
use Rattle.std.proofs.lemmas.List.{length-replicate}
use Rattle.std.specs.Bool.{if◌then◌else◌}
use Rattle.std.specs.Result.{is_ok}
use Rattle.std.proofs.lemmas.Slice.Eq.{bytes_eq-Decides}
use Rattle.std.proofs.lemmas.Bool.{ne_eqb, le-ltb}
use Rattle.std.proofs.lemmas.Bool.Decides.{nat_tests}
use Rattle.std.proofs.lemmas.Fmt.{length-decimal-le, digits_decimal}
use Rattle.std.specs.Int.Bits.{bit_or, or_zero_l}
use Rattle.std.specs.List.{list_all, slice_split}
use Rattle.std.specs.Str.{bytes_eq}
use lib.Signed.{mag}
use Rattle.rev_items.specs.Keys.{is_key}
use Rattle.rev_model.specs.declared.Queue.{Queue}
use Rattle.rev_model.specs.declared.Queue.TheVariants.{Hot, Warm, Cold, Temp}
use Rattle.rev_model.specs.declared.ClassSet.TheVariants.{These, All}
use Rattle.rev_script.specs.Number.{number, number_u32, signed, is_digit, is_factor, factor, has, ids, id_or_0}
use Rattle.rev_script.specs.Commands.{command, clock_of, verb_of, side_of, actor_command, other_command, memory_command, retrieval_command, delete_command, increment_command, decrement_command, storage_command, storage_line, queue_of, with_queue, crawler_command, slabs_command, reassign_of, lru_command, temp_ttl_of, tune_command, tune_percent, tune_of}
use Rattle.rev_requests.specs.declared.clients.Arithmetic.TheVariants as sums
use Rattle.rev_requests.specs.declared.clients.KeyCommand.TheVariants as keyed
use Rattle.rev_requests.specs.declared.actors.ActorStep.{ActorStep}
use Rattle.rev_requests.specs.declared.actors.ActorStep.TheVariants as actors
use Rattle.rev_requests.specs.Limits.{is_tune}
use Rattle.rev_script.proofs.Places.{split_none}
use Rattle.rev_script.proofs.Front.{take_front, drop_front}
use Rattle.rev_script.specs.Commands as commands
use Rattle.rev_script.specs.declared.dialect.Dialect.TheVariants.{CrLf}
use Rattle.rev_script.specs.declared.command.StorageCommand.{StorageCommand}
use Rattle.rev_script.specs.declared.command.BadAnswer.TheVariants.{BadFormat, BadChunk, SharesOver80}
use Rattle.rev_model.specs.Client.{Bytes, Skipped}
use Rattle.rev_import.specs.declared.writing.Storing.{Storing}
use Rattle.rev_import.specs.declared.writing.Storing.TheVariants.{Set, Add, Replace, Append, Prepend}
use Rattle.rev_script.specs.declared.command.Command.{Command}
use Rattle.rev_script.specs.declared.command.Command.TheVariants.{Retrieval, Update, Actor, Storage, Tune, Bad}
use Rattle.rev_script.specs.Script.{ScriptLine, RetrievalLine, UpdateLine, ActorLine, StorageLine, TuneLine, BadLine, storage_line_of, payload_of, block_size, line_of}
use Rattle.rev_import.specs.Writing.{Adds, IsLine, is_word, spaced, line_text, factor_text, queue_name, storage, storage_name}
use Rattle.rev_import.proofs.Words.{both, either}
use Rattle.rev_import.proofs.Numerals.{script_numerals, digits_lack, number-decimal, number_u32-decimal, signed-signed_decimal, is_word-decimal, is_word-signed, is_word-key}
use Rattle.rev_import.proofs.Factors.{within, is_word-factor, length-factor, is_factor-text, factor-text}
use Rattle.rev_import.proofs.Lines.{line_whole, adds_line}

-- a line without a data block
plain_row : (first : List ℕ) (rest : List (List ℕ)) (c : Command) → is_word first ≡ true → list_all is_word rest ≡ true → length (first ++ spaced rest) ≤ 2048 →
    command (first ∷ rest) ≡ c → block_size CrLf c [] ≡ 0 → IsLine (line_text first rest) (line_of CrLf c (first ∷ rest) [])
plain_row first rest c p q short is none =
    let whole = line_whole first rest [] p q short (sym none ∙ ap (λ a. block_size CrLf a []) (sym is)) in
    let P : List ℕ → Command → Type 0 = λ t d. IsLine t (line_of CrLf d (first ∷ rest) []) in
    subst (λ t. P t c) (append-nil (line_text first rest)) (subst (λ d. P (line_text first rest ++ []) d) is whole)

-- ---- the clock and the lines of clients

pub clock_row : (n : ℕ) (w : List ℕ) → n < 2 ^ 32 → w ≡ decimal n → IsLine (line_text (codes "@") (w ∷ [])) (ActorLine (actors.Clock n))
unfolding command actor_command
clock_row n w h e =
    let row =
    plain_row (codes "@") (decimal n ∷ []) (Actor (actors.Clock n)) refl (either _ _ (is_word-decimal n (omega arith)) refl)
    (omega (arith, length-append (decimal n) [], length-decimal-le 20 n))
    (ap clock_of (number_u32-decimal n h)) refl in
    subst (λ v. IsLine (line_text (codes "@") (v ∷ [])) (ActorLine (actors.Clock n))) (sym e) row

pub get_row : (key : List ℕ) → is_key key ≡ true → IsLine (line_text (codes "get") (key ∷ [])) (RetrievalLine (key ∷ []) false)
unfolding command other_command verb_of side_of retrieval_command
get_row key h =
    let w = is_word-key key h in
    plain_row (codes "get") (key ∷ []) (Retrieval false) refl (either _ _ w.0 refl)
    (omega (arith, length-append key [], w.1))
    (rw h refl) refl

pub delete_row : (key : List ℕ) → is_key key ≡ true → IsLine (line_text (codes "delete") (key ∷ [])) (UpdateLine keyed.Delete key false)
unfolding command other_command verb_of side_of delete_command
delete_row key h =
    let w = is_word-key key h in
    plain_row (codes "delete") (key ∷ []) (Update keyed.Delete false) refl (either _ _ w.0 refl)
    (omega (arith, length-append key [], w.1))
    (rw h refl) refl

pub increment_row : (key : List ℕ) → is_key key ≡ true → IsLine (line_text (codes "incr") (key ∷ codes "1" ∷ [])) (UpdateLine (keyed.Count (sums.Increment 1)) key false)
unfolding command other_command verb_of side_of increment_command number
increment_row key h =
    let w = is_word-key key h in
    plain_row (codes "incr") (key ∷ codes "1" ∷ []) (Update (keyed.Count (sums.Increment 1)) false) refl (either _ _ w.0 refl)
    (omega (arith, length-append key (32 ∷ codes "1"), w.1))
    (rw h refl) refl

pub decrement_row : (key : List ℕ) → is_key key ≡ true → IsLine (line_text (codes "decr") (key ∷ codes "1" ∷ [])) (UpdateLine (keyed.Count (sums.Decrement 1)) key false)
unfolding command other_command verb_of side_of decrement_command number
decrement_row key h =
    let w = is_word-key key h in
    plain_row (codes "decr") (key ∷ codes "1" ∷ []) (Update (keyed.Count (sums.Decrement 1)) false) refl (either _ _ w.0 refl)
    (omega (arith, length-append key (32 ∷ codes "1"), w.1))
    (rw h refl) refl

-- ---- the lines of actors

-- a line without a number
pub bare_row : (first : List ℕ) (a : ActorStep) → is_word first ≡ true → length first ≤ 2048 → command (first ∷ []) ≡ Actor a → IsLine (line_text first []) (ActorLine a)
bare_row first a p short is = plain_row first [] (Actor a) p refl (omega (arith, length-append first [])) is refl

pub bump_row : IsLine (line_text (codes "~bump") []) (ActorLine actors.Bump)
unfolding command actor_command
bump_row = bare_row (codes "~bump") actors.Bump refl (omega arith) refl

pub move_row : IsLine (line_text (codes "~move") []) (ActorLine actors.Advance)
unfolding command actor_command
move_row = bare_row (codes "~move") actors.Advance refl (omega arith) refl

queue_of-name : (q : Queue) → queue_of (queue_name q) ≡ Some q
unfolding queue_of
queue_of-name Hot = refl
queue_of-name Warm = refl
queue_of-name Cold = refl
queue_of-name Temp = refl

is_word-queue : (q : Queue) → (is_word (queue_name q) ≡ true) × (length (queue_name q) ≡ 4 ⊎ length (queue_name q) ≡ 3)
is_word-queue Hot = (refl, inr refl)
is_word-queue Warm = (refl, inl refl)
is_word-queue Cold = (refl, inl refl)
is_word-queue Temp = (refl, inl refl)

-- a command with a class and a queue
class_row : (first : List ℕ) (f : ℕ → Queue → ActorStep) (n : ℕ) (q : Queue) (w v : List ℕ) → is_word first ≡ true → length first ≤ 16 → n < 2 ^ 32 →
    w ≡ decimal n → v ≡ queue_name q →
    command (first ∷ decimal n ∷ queue_name q ∷ []) ≡ with_queue (λ m r. Actor (f m r)) (number_u32 (decimal n)) (queue_of (queue_name q)) →
    IsLine (line_text first (w ∷ v ∷ [])) (ActorLine (f n q))
class_row first f n q w v p short h e1 e2 is =
    let qw = is_word-queue q in
    let to : with_queue (λ m r. Actor (f m r)) (number_u32 (decimal n)) (queue_of (queue_name q)) ≡ Actor (f n q) =
    ap (λ m. with_queue (λ m r. Actor (f m r)) m (queue_of (queue_name q))) (number_u32-decimal n h)
    ∙ ap (λ r. with_queue (λ m r. Actor (f m r)) (Some n) r) (queue_of-name q) in
    let row =
    plain_row first (decimal n ∷ queue_name q ∷ []) (Actor (f n q)) p (either _ _ (is_word-decimal n (omega arith)) (either _ _ qw.0 refl))
    (elim qw.1 [
      | inl l ↦ omega (arith, length-append first (32 ∷ (decimal n ++ 32 ∷ (queue_name q ++ []))), length-append (decimal n) (32 ∷ (queue_name q ++ [])), length-append (queue_name q) [], length-decimal-le 20 n, l)
      | inr l ↦ omega (arith, length-append first (32 ∷ (decimal n ++ 32 ∷ (queue_name q ++ []))), length-append (decimal n) (32 ∷ (queue_name q ++ [])), length-append (queue_name q) [], length-decimal-le 20 n, l)
    ])
    (is ∙ to) refl in
    subst (λ x. IsLine (line_text first (w ∷ x ∷ [])) (ActorLine (f n q))) (sym e2)
    (subst (λ x. IsLine (line_text first (x ∷ queue_name q ∷ [])) (ActorLine (f n q))) (sym e1) row)

pub pull_row : (n : ℕ) (q : Queue) (w v : List ℕ) → n < 2 ^ 32 → w ≡ decimal n → v ≡ queue_name q → IsLine (line_text (codes "~pull") (w ∷ v ∷ [])) (ActorLine (actors.Pull n q))
unfolding command actor_command
pull_row n q w v h e1 e2 = class_row (codes "~pull") (λ m r. actors.Pull m r) n q w v refl (omega arith) h e1 e2 refl

pub crawl_row : (n : ℕ) (q : Queue) (w v : List ℕ) → n < 2 ^ 32 → w ≡ decimal n → v ≡ queue_name q → IsLine (line_text (codes "~crawl") (w ∷ v ∷ [])) (ActorLine (actors.Crawl n q))
unfolding command actor_command
crawl_row n q w v h e1 e2 = class_row (codes "~crawl") (λ m r. actors.Crawl m r) n q w v refl (omega arith) h e1 e2 refl

no_true : (b : Bool) → (b ≡ true → ⊥) → b ≡ false
no_true true h = absurd (h refl)
no_true false h = refl

digits_not_all : (w : List ℕ) → list_all is_digit w ≡ true → bytes_eq w (codes "all") ≡ false
digits_not_all w h = no_true (bytes_eq w (codes "all")) (λ t. let e = ap (list_all is_digit) ((bytes_eq-Decides w (codes "all")).0 t) in cc)

one_id : (n : ℕ) → n < 64 → ids (slice_split (λ b. b == 44) (decimal n)) ≡ 2 ^ n
one_id n h =
    ap ids (split_none 44 (decimal n) (digits_lack 44 (omega arith) (decimal n) (digits_decimal script_numerals n (omega arith))))
    ∙ ap (λ m. bit_or 0 (2 ^ id_or_0 m)) (number-decimal 63 n (omega arith) (omega arith))
    ∙ or_zero_l (2 ^ n)

pub crawl_start_row : (n : ℕ) (w : List ℕ) → n < 64 → w ≡ decimal n → IsLine (line_text (codes "lru_crawler") (codes "crawl" ∷ w ∷ [])) (ActorLine (actors.StartCrawl (These (2 ^ n))))
unfolding command other_command verb_of side_of memory_command crawler_command
crawl_start_row n w h e =
    let many = digits_not_all (decimal n) (digits_decimal script_numerals n (omega arith)) in
    let row =
    plain_row (codes "lru_crawler") (codes "crawl" ∷ decimal n ∷ []) (Actor (actors.StartCrawl (These (2 ^ n)))) refl (either _ _ (is_word-decimal n (omega arith)) refl)
    (omega (arith, length-append (decimal n) [], length-decimal-le 20 n))
    (ap (λ b. cond b (Actor (actors.StartCrawl All)) (Actor (actors.StartCrawl (These (ids (slice_split (λ b. b == 44) (decimal n))))))) many
    ∙ ap (λ s. Actor (actors.StartCrawl (These s))) (one_id n h)) refl in
    subst (λ x. IsLine (line_text (codes "lru_crawler") (codes "crawl" ∷ x ∷ [])) (ActorLine (actors.StartCrawl (These (2 ^ n))))) (sym e) row

pub reassign_row : (n m : ℕ) (w v : List ℕ) → n < 2 ^ 32 → m < 2 ^ 32 → w ≡ decimal n → v ≡ decimal m → IsLine (line_text (codes "slabs") (codes "reassign" ∷ w ∷ v ∷ [])) (ActorLine (actors.Reassign n m))
unfolding command other_command verb_of side_of memory_command slabs_command
reassign_row n m w v h k e1 e2 =
    let row =
    plain_row (codes "slabs") (codes "reassign" ∷ decimal n ∷ decimal m ∷ []) (Actor (actors.Reassign n m)) refl
    (either _ _ (is_word-decimal n (omega arith)) (either _ _ (is_word-decimal m (omega arith)) refl))
    (omega (arith, length-append (decimal n) (32 ∷ (decimal m ++ [])), length-append (decimal m) [], length-decimal-le 20 n, length-decimal-le 20 m))
    (ap (λ x. reassign_of x (number_u32 (decimal m))) (number_u32-decimal n h) ∙ ap (λ x. reassign_of (Some n) x) (number_u32-decimal m k)) refl in
    subst (λ x. IsLine (line_text (codes "slabs") (codes "reassign" ∷ w ∷ x ∷ [])) (ActorLine (actors.Reassign n m))) (sym e2)
    (subst (λ x. IsLine (line_text (codes "slabs") (codes "reassign" ∷ x ∷ decimal m ∷ [])) (ActorLine (actors.Reassign n m))) (sym e1) row)

pub temp_ttl_row : (z : ℤ) (w : List ℕ) → mag z < 2 ^ 31 → w ≡ signed_decimal z →
    IsLine (line_text (codes "lru") (codes "temp_ttl" ∷ w ∷ [])) (ActorLine (actors.TempTtl z))
unfolding command other_command verb_of side_of memory_command lru_command
temp_ttl_row z w h e =
    let s = is_word-signed z h in
    let row =
    plain_row (codes "lru") (codes "temp_ttl" ∷ signed_decimal z ∷ []) (Actor (actors.TempTtl z)) refl (either _ _ s.0 refl)
    (omega (arith, length-append (signed_decimal z) [], s.1))
    (ap temp_ttl_of (signed-signed_decimal z h)) refl in
    subst (λ x. IsLine (line_text (codes "lru") (codes "temp_ttl" ∷ x ∷ [])) (ActorLine (actors.TempTtl z))) (sym e) row

pub tune_row : (h w f v : ℕ) (hw ww fw vw : List ℕ) → is_tune h w f v ≡ true → hw ≡ decimal h → ww ≡ decimal w → fw ≡ factor_text f → vw ≡ factor_text v →
    IsLine (line_text (codes "lru") (codes "tune" ∷ hw ∷ ww ∷ fw ∷ vw ∷ [])) (TuneLine (record { hot_share = h; warm_share = w; hot_factor = f; warm_factor = v }))
unfolding command other_command verb_of side_of memory_command lru_command tune_command
tune_row h w f v hw ww fw vw t e1 e2 e3 e4 =
    let k = within h w f v t in
    let ws : List (List ℕ) = codes "lru" ∷ codes "tune" ∷ decimal h ∷ decimal w ∷ factor_text f ∷ factor_text v ∷ [] in
    let sum : nat_lt 80 (h + w) ≡ false = grind (arith, nat_tests, k.sum) in
    let row =
    plain_row (codes "lru") (codes "tune" ∷ decimal h ∷ decimal w ∷ factor_text f ∷ factor_text v ∷ []) (Tune (record { hot_share = h; warm_share = w; hot_factor = f; warm_factor = v })) refl
    (either _ _ (is_word-decimal h (omega (arith, k.hot))) (either _ _ (is_word-decimal w (omega (arith, k.warm))) (either _ _ (is_word-factor f (omega (arith, k.hot_most))) (either _ _ (is_word-factor v (omega (arith, k.warm_most))) refl))))
    (omega (arith, length-append (decimal h) (spaced (decimal w ∷ factor_text f ∷ factor_text v ∷ [])), length-append (decimal w) (spaced (factor_text f ∷ factor_text v ∷ [])), length-append (factor_text f) (spaced (factor_text v ∷ [])), length-append (factor_text v) [], length-decimal-le 20 h, length-decimal-le 20 w, length-factor f (omega (arith, k.hot_most)), length-factor v (omega (arith, k.warm_most)), k.hot, k.warm, k.hot_most, k.warm_most))
    (ap (λ b. cond (b && is_factor (factor_text v)) (tune_percent (number_u32 (decimal h)) (number_u32 (decimal w)) ws) (Bad BadFormat)) (is_factor-text f (omega (arith, k.hot_most)))
    ∙ ap (λ b. cond b (tune_percent (number_u32 (decimal h)) (number_u32 (decimal w)) ws) (Bad BadFormat)) (is_factor-text v (omega (arith, k.warm_most)))
    ∙ ap (λ x. tune_percent x (number_u32 (decimal w)) ws) (number_u32-decimal h (omega (arith, k.hot)))
    ∙ ap (λ x. tune_percent (Some h) x ws) (number_u32-decimal w (omega (arith, k.warm)))
    ∙ ap (λ b. cond b (Bad SharesOver80) (tune_of h w (factor (factor_text f)) (factor (factor_text v)))) sum
    ∙ ap (λ x. tune_of h w x (factor (factor_text v))) (factor-text f k.hot_most k.hot_least)
    ∙ ap (λ x. tune_of h w (Some f) x) (factor-text v k.warm_most k.warm_least)
    ∙ ap (λ b. cond b (Tune (record { hot_share = h; warm_share = w; hot_factor = f; warm_factor = v })) (Bad BadFormat)) t) refl in
    let words : decimal h ∷ decimal w ∷ factor_text f ∷ factor_text v ∷ [] ≡ hw ∷ ww ∷ fw ∷ vw ∷ [] = cc in
    subst (λ ws. IsLine (line_text (codes "lru") (codes "tune" ∷ ws)) (TuneLine (record { hot_share = h; warm_share = w; hot_factor = f; warm_factor = v }))) words row

six_parts : (old f a0 a1 a2 a3 a4 e : List ℕ) → ((((((old ++ f) ++ a0) ++ a1) ++ a2) ++ a3) ++ a4) ++ e ≡ old ++ ((f ++ (a0 ++ (a1 ++ (a2 ++ (a3 ++ a4))))) ++ e)
six_parts old f a0 a1 a2 a3 a4 e = simp append_assoc

-- a line of five words behind its name that was written piece by piece
pub five_behind : {E : Type 0} (r : Result (Unit {0}) E) (old z a b c d e new first w0 w1 w2 w3 w4 : List ℕ) → z ≡ old ++ first → a ≡ z ++ 32 ∷ w0 → b ≡ a ++ 32 ∷ w1 → c ≡ b ++ 32 ∷ w2 → d ≡ c ++ 32 ∷ w3 → e ≡ d ++ 32 ∷ w4 →
    new ≡ (if is_ok r then e ++ codes "\r\n" else e) → OnOk r (new ≡ old ++ line_text first (w0 ∷ w1 ∷ w2 ∷ w3 ∷ w4 ∷ []))
five_behind (Ok x) old z a b c d e new first w0 w1 w2 w3 w4 e0 e1 e2 e3 e4 e5 e6 =
    e6 ∙ ap (λ t. t ++ codes "\r\n") (e5 ∙ ap (λ t. t ++ 32 ∷ w4) (e4 ∙ ap (λ t. t ++ 32 ∷ w3) (e3 ∙ ap (λ t. t ++ 32 ∷ w2) (e2 ∙ ap (λ t. t ++ 32 ∷ w1) (e1 ∙ ap (λ t. t ++ 32 ∷ w0) e0)))))
    ∙ six_parts old first (32 ∷ w0) (32 ∷ w1) (32 ∷ w2) (32 ∷ w3) (32 ∷ w4) (codes "\r\n")
    ∙ ap (λ t. old ++ ((first ++ ((32 ∷ w0) ++ ((32 ∷ w1) ++ ((32 ∷ w2) ++ ((32 ∷ w3) ++ t))))) ++ codes "\r\n")) (sym (append-nil (32 ∷ w4)))
five_behind (Err x) old z a b c d e new first w0 w1 w2 w3 w4 e0 e1 e2 e3 e4 e5 e6 = tt

-- ---- a store and its data

store_named : (s : Storing) (ws : List (List ℕ)) → command (storage_name s ∷ ws) ≡ storage_command (storage s) (storage_name s ∷ ws)
unfolding command verb_of side_of
store_named Set ws = refl
store_named Add ws = refl
store_named Replace ws = refl
store_named Append ws = refl
store_named Prepend ws = refl

store_command : (s : Storing) (key : List ℕ) (flags : ℕ) (z : ℤ) (size : ℕ) → is_key key ≡ true → flags < 2 ^ 32 → mag z < 2 ^ 31 → size ≤ 1048576 →
    command (storage_name s ∷ key ∷ decimal flags ∷ signed_decimal z ∷ decimal size ∷ []) ≡ Storage (storage s) flags z size false
unfolding storage_command commands.storage
store_command s key flags z size k f m l =
    store_named s (key ∷ decimal flags ∷ signed_decimal z ∷ decimal size ∷ [])
    ∙ ap (λ b. cond b (storage_line (storage s) (number_u32 (decimal flags)) (signed (signed_decimal z)) (number 2147483645 (decimal size)) false) (Bad BadFormat)) k
    ∙ ap (λ x. storage_line (storage s) x (signed (signed_decimal z)) (number 2147483645 (decimal size)) false) (number_u32-decimal flags f)
    ∙ ap (λ x. storage_line (storage s) (Some flags) x (number 2147483645 (decimal size)) false) (signed-signed_decimal z m)
    ∙ ap (λ x. storage_line (storage s) (Some flags) (Some z) x false) (number-decimal 2147483645 size (omega arith) (omega arith))

is_word-storage : (s : Storing) → (is_word (storage_name s) ≡ true) × (length (storage_name s) ≤ 7)
is_word-storage Set = (refl, omega arith)
is_word-storage Add = (refl, omega arith)
is_word-storage Replace = (refl, omega arith)
is_word-storage Append = (refl, omega arith)
is_word-storage Prepend = (refl, omega arith)

-- the data are there, with their ending
stored_line : (c : StorageCommand) (key : List ℕ) (flags : ℕ) (z : ℤ) (size : ℕ) (d : List ℕ) → length d ≡ size → size ≤ 1048576 →
    storage_line_of CrLf c key flags z size false (d ++ 13 ∷ 10 ∷ []) ≡ StorageLine c key flags z (Bytes d) false
stored_line c key flags z size d e l =
    let block : List ℕ = d ++ 13 ∷ 10 ∷ [] in
    let few : nat_lt 1048576 size ≡ false = le-ltb 1048576 size l in
    ap (λ t. cond (bytes_eq t (13 ∷ 10 ∷ [])) (StorageLine c key flags z (payload_of size block) false) (BadLine BadChunk)) (drop_front size d (13 ∷ 10 ∷ []) e)
    ∙ ap (λ b. StorageLine c key flags z (cond b (Skipped size) (Bytes (take size block))) false) few
    ∙ ap (λ t. StorageLine c key flags z (Bytes t) false) (take_front size d (13 ∷ 10 ∷ []) e)

pub store_row : (s : Storing) (key : List ℕ) (flags : ℕ) (z : ℤ) (size : ℕ) (name k w1 w2 w3 : List ℕ) → is_key key ≡ true → flags < 2 ^ 32 → mag z < 2 ^ 31 → size ≤ 1048576 →
    name ≡ storage_name s → k ≡ key → w1 ≡ decimal flags → w2 ≡ signed_decimal z → w3 ≡ decimal size →
    IsLine (line_text name (k ∷ w1 ∷ w2 ∷ w3 ∷ []) ++ (replicate size 120 ++ 13 ∷ 10 ∷ [])) (StorageLine (storage s) key flags z (Bytes (replicate size 120)) false)
store_row s key flags z size name k w1 w2 w3 h f m l e0 e1 e2 e3 e4 =
    let block : List ℕ = replicate size 120 ++ 13 ∷ 10 ∷ [] in
    let ws : List (List ℕ) = key ∷ decimal flags ∷ signed_decimal z ∷ decimal size ∷ [] in
    let n = is_word-storage s in
    let kw = is_word-key key h in
    let zw = is_word-signed z m in
    let c = store_command s key flags z size h f m l in
    let whole : IsLine (line_text (storage_name s) ws ++ block) (line_of CrLf (command (storage_name s ∷ ws)) (storage_name s ∷ ws) block) =
    line_whole (storage_name s) ws block n.0
    (either _ _ kw.0 (either _ _ (is_word-decimal flags (omega arith)) (either _ _ zw.0 (either _ _ (is_word-decimal size (omega arith)) refl))))
    (omega (arith, length-append (storage_name s) (spaced ws), length-append key (spaced (decimal flags ∷ signed_decimal z ∷ decimal size ∷ [])), length-append (decimal flags) (spaced (signed_decimal z ∷ decimal size ∷ [])), length-append (signed_decimal z) (spaced (decimal size ∷ [])), length-append (decimal size) [], length-decimal-le 20 flags, length-decimal-le 20 size, n.1, kw.1, zw.1))
    (length-append (replicate size 120) (13 ∷ 10 ∷ []) ∙ ap (λ x. x + 2) (length-replicate size 120) ∙ sym (ap (λ a. block_size CrLf a block) c)) in
    let line : line_of CrLf (command (storage_name s ∷ ws)) (storage_name s ∷ ws) block ≡ StorageLine (storage s) key flags z (Bytes (replicate size 120)) false =
    ap (λ a. line_of CrLf a (storage_name s ∷ ws) block) c ∙ stored_line (storage s) key flags z size (replicate size 120) (length-replicate size 120) l in
    let words : line_text (storage_name s) ws ≡ line_text name (k ∷ w1 ∷ w2 ∷ w3 ∷ []) = cc in
    subst (λ t. IsLine (t ++ block) (StorageLine (storage s) key flags z (Bytes (replicate size 120)) false)) words
    (subst (λ x. IsLine (line_text (storage_name s) ws ++ block) x) line whole)

-- what was written piece by piece
pub three_behind : {E : Type 0} (r : Result (Unit {0}) E) (old mid low new a b t : List ℕ) → mid ≡ old ++ a → low ≡ mid ++ b → new ≡ (if is_ok r then low ++ t else low) → OnOk r (new ≡ old ++ (a ++ (b ++ t)))
three_behind (Ok v) old mid low new a b t e1 e2 e3 = e3 ∙ ap (λ x. x ++ t) (e2 ∙ ap (λ x. x ++ b) e1) ∙ simp append_assoc
three_behind (Err e) old mid low new a b t e1 e2 e3 = tt

-- a line that was written, where its memory was there
pub adds_row : {E : Type 0} (r : Result (Unit {0}) E) (old new text : List ℕ) (line : ScriptLine) → OnOk r (new ≡ old ++ text) → IsLine text line → OnOk r (Adds old new (line ∷ []))
adds_row (Ok v) old new text line e whole = adds_line old new text line e whole
adds_row (Err e) old new text line h whole = tt
