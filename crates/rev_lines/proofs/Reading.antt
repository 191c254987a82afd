-- What is read of the lines of steps is the steps.
use Rattle.std.proofs.Common.{◌≡◌, ℕ, ℤ, pos, negsuc, ◌<◌, ◌≤◌, ◌^◌, Bool, true, cond, List, [], ◌∷◌, ◌++◌, length, map, append_assoc, append-nil, refl, sym, ◌∙◌, ap, subst, arith, Option, None, Some}
use Rattle.std.specs.List.{list_all}
use Rattle.std.proofs.lemmas.Bool.{leb-true}
use Rattle.std.proofs.lemmas.Bool.Decides.{nat_tests}
use Rattle.std.proofs.lemmas.List.{map-append}
use lib.Signed.{mag}
use Rattle.rev_items.specs.Keys.{is_key}
use Rattle.rev_model.specs.Client.{ClientStep, Bytes, Skipped, Verb, Sets, Adds, Replaces, Cases, Side, Appends, Prepends, Increases, Decreases, Stores, Joins, Gets, Touches, Deletes, Evicts, Flushes, Counts}
use Rattle.rev_model.specs.Actor.{Step, Client, Pull, Bump, CrawlStart, Crawl, Schedule, Advance, Clock, Tune, TempTtl}
use Rattle.rev_model.specs.declared.ClassSet.TheVariants.{All, These}
use Rattle.rev_script.specs.declared.dialect.Dialect.TheVariants.{CrLf}
use Rattle.rev_script.specs.Script.{ScriptLine, cuts, lines}
use Rattle.rev_script.specs.Steps.{steps_of, joined, all_steps}
use Rattle.rev_import.specs.Writing.{IsLine, AreLines, whole_line}
use Rattle.rev_import.proofs.Words.{both}
use Rattle.rev_import.proofs.Rows.{clock_row, get_row, delete_row, bump_row, move_row, pull_row, crawl_row, reassign_row, temp_ttl_row, tune_row}
use Rattle.rev_lines.specs.Lines.{is_u32, is_u64, is_i32, is_verb, has_client_line, has_line, store_text, join_text, client_text, text_of, written, script_of, Asks}
use Rattle.rev_lines.proofs.Rows.{touch_row, evict_row, increment_row, decrement_row, flush_row, crawl_all_row, set_row, add_row, replace_row, append_row, prepend_row, cas_row}

-- ---- what the tests say

below_32 : (n : ℕ) → is_u32 n ≡ true → n < 2 ^ 32
below_32 n h = grind (arith, nat_tests)

below_64 : (n : ℕ) → is_u64 n ≡ true → n < 2 ^ 64
below_64 n h = grind (arith, nat_tests)

below_31 : (z : ℤ) → is_i32 z ≡ true → mag z < 2 ^ 31
below_31 (pos n) h = grind (arith, nat_tests)
below_31 (negsuc n) h = grind (arith, nat_tests)

-- ---- a line of a step

one_line : (text : List ℕ) (line : ScriptLine) (s : Step) → IsLine text line → steps_of line ≡ Some (s ∷ []) → Asks text (s ∷ [])
one_line text line s whole e = record { lines = line ∷ []; are = record { cut = whole.cut }; make = ap (λ o. joined o (Some [])) e }

stores : (v : Verb) (k : List ℕ) (flags : ℕ) (e : ℤ) (d : List ℕ) → is_verb v ≡ true → is_key k ≡ true → flags < 2 ^ 32 → mag e < 2 ^ 31 → length d ≤ 1048576 →
    Asks (store_text v k flags e d) (Client (Stores v k flags e (Bytes d)) ∷ [])
stores Sets k flags e d q h f m l = one_line _ _ _ (set_row k flags e d h f m l) refl
stores Adds k flags e d q h f m l = one_line _ _ _ (add_row k flags e d h f m l) refl
stores Replaces k flags e d q h f m l = one_line _ _ _ (replace_row k flags e d h f m l) refl
stores (Cases n) k flags e d q h f m l = one_line _ _ _ (cas_row k flags e d h f m l n (below_64 n q)) refl

joins : (side : Side) (k : List ℕ) (d : List ℕ) → is_key k ≡ true → length d ≤ 1048576 → Asks (join_text side k d) (Client (Joins side k (Bytes d)) ∷ [])
joins Appends k d h l = one_line _ _ _ (append_row k 0 (pos 0) d h (omega arith) (omega arith) l) refl
joins Prepends k d h l = one_line _ _ _ (prepend_row k 0 (pos 0) d h (omega arith) (omega arith) l) refl

client_asks : (e : ClientStep) → has_client_line e ≡ true → Asks (client_text e) (Client e ∷ [])
client_asks (Stores v k flags e (Bytes d)) h =
    let a = both (is_verb v) _ h in
    let b = both (is_key k) _ a.1 in
    let c = both (is_u32 flags) _ b.1 in
    let t = both (is_i32 e) _ c.1 in
    stores v k flags e d a.0 b.0 (below_32 flags c.0) (below_31 e t.0) (leb-true (length d) 1048576 t.1)
client_asks (Stores v k flags e (Skipped n)) h =
    let a = both (is_verb v) _ h in
    let b = both (is_key k) _ a.1 in
    let c = both (is_u32 flags) _ b.1 in
    let t = both (is_i32 e) _ c.1 in
    absurd (let no = t.1 in cc)
client_asks (Joins side k (Bytes d)) h =
    let a = both (is_key k) _ h in
    joins side k d a.0 (leb-true (length d) 1048576 a.1)
client_asks (Joins side k (Skipped n)) h =
    let a = both (is_key k) _ h in
    absurd (let no = a.1 in cc)
client_asks (Gets k) h = one_line _ _ _ (get_row k h) refl
client_asks (Touches k e) h =
    let a = both (is_key k) _ h in
    one_line _ _ _ (touch_row k e a.0 (below_31 e a.1)) refl
client_asks (Deletes k) h = one_line _ _ _ (delete_row k h) refl
client_asks (Evicts k) h = one_line _ _ _ (evict_row k h) refl
client_asks (Flushes None) h = absurd (cc)
client_asks (Flushes (Some z)) h = one_line _ _ _ (flush_row z (below_31 z h)) refl
client_asks (Counts Increases k n) h =
    let a = both (is_key k) _ h in
    one_line _ _ _ (increment_row k n a.0 (below_64 n a.1)) refl
client_asks (Counts Decreases k n) h =
    let a = both (is_key k) _ h in
    one_line _ _ _ (decrement_row k n a.0 (below_64 n a.1)) refl

asks_text : (s : Step) → has_line s ≡ true → Asks (text_of s) (s ∷ [])
unfolding has_line
asks_text (Client e) h = client_asks e h
asks_text (Pull class queue) h = one_line _ _ _ (pull_row class queue _ _ (below_32 class h) refl refl) refl
asks_text Bump h = one_line _ _ _ bump_row refl
asks_text (CrawlStart All) h = one_line _ _ _ crawl_all_row refl
asks_text (CrawlStart (These set)) h = absurd (cc)
asks_text (Crawl class queue) h = one_line _ _ _ (crawl_row class queue _ _ (below_32 class h) refl refl) refl
asks_text (Schedule source target) h =
    let a = both (is_u32 source) _ h in
    one_line _ _ _ (reassign_row source target _ _ (below_32 source a.0) (below_32 target a.1) refl refl) refl
asks_text Advance h = one_line _ _ _ move_row refl
asks_text (Clock now) h = one_line _ _ _ (clock_row now _ (below_32 now h) refl) refl
asks_text (Tune hot warm hot_factor warm_factor) h = one_line _ _ _ (tune_row hot warm hot_factor warm_factor _ _ _ _ h refl refl refl refl) refl
asks_text (TempTtl seconds) h = one_line _ _ _ (temp_ttl_row seconds _ (below_31 seconds h) refl) refl

-- the line of a step asks for just this step
pub asks : (s : Step) → has_line s ≡ true → Asks (written s) (s ∷ [])
unfolding written
asks s h = subst (λ (b : Bool). Asks (cond b (text_of s) []) (s ∷ [])) (sym h) (asks_text s h)

-- ---- lines of steps, one behind another

are_more : (t u : List ℕ) (ls ms : List ScriptLine) → AreLines t ls → AreLines u ms → AreLines (t ++ u) (ls ++ ms)
are_more t u ls ms a b = record {
  cut = λ more.
      ap (cuts CrLf) (append_assoc t u more)
      ∙ a.cut (u ++ more)
      ∙ ap (λ x. map whole_line ls ++ x) (b.cut more)
      ∙ sym (append_assoc (map whole_line ls) (map whole_line ms) (cuts CrLf more))
      ∙ ap (λ x. x ++ cuts CrLf more) (sym (map-append whole_line ls ms));
}

joined_more : (a b c : Option (List Step)) → joined (joined a b) c ≡ joined a (joined b c)
joined_more None b c = refl
joined_more (Some x) None c = refl
joined_more (Some x) (Some y) None = refl
joined_more (Some x) (Some y) (Some z) = ap (λ l. Some l) (append_assoc x y z)

joined_none : (a : Option (List Step)) → joined (Some []) a ≡ a
joined_none None = refl
joined_none (Some x) = refl

steps_more : (ls ms : List ScriptLine) → all_steps (ls ++ ms) ≡ joined (all_steps ls) (all_steps ms)
steps_more [] ms = sym (joined_none (all_steps ms))
steps_more (l ∷ ls) ms = ap (joined (steps_of l)) (steps_more ls ms) ∙ sym (joined_more (steps_of l) (all_steps ls) (all_steps ms))

pub asks_none : Asks [] []
asks_none = record { lines = []; are = record { cut = λ more. refl }; make = refl }

pub asks_more : (t u : List ℕ) (es fs : List Step) → Asks t es → Asks u fs → Asks (t ++ u) (es ++ fs)
asks_more t u es fs a b = record {
  lines = a.lines ++ b.lines;
  are = are_more t u a.lines b.lines a.are b.are;
  make = steps_more a.lines b.lines ∙ ap (λ o. joined o (all_steps b.lines)) a.make ∙ ap (joined (Some es)) b.make;
}

pub asks_script : (steps : List Step) → list_all has_line steps ≡ true → Asks (script_of steps) steps
asks_script [] h = asks_none
asks_script (s ∷ ss) h =
    let k = both (has_line s) (list_all has_line ss) h in
    asks_more (written s) (script_of ss) (s ∷ []) ss (asks s k.0) (asks_script ss k.1)

-- ---- the law

lines_back : (ls : List ScriptLine) → map (λ c. c.line) (map whole_line ls) ≡ ls
lines_back [] = refl
lines_back (l ∷ ls) = ap (λ m. l ∷ m) (lines_back ls)

lines_read : (text : List ℕ) (ls : List ScriptLine) → AreLines text ls → lines CrLf text ≡ ls
unfolding lines cuts
lines_read text ls are =
    ap (lines CrLf) (sym (append-nil text)) ∙ ap (map (λ c. c.line)) (are.cut [] ∙ append-nil (map whole_line ls)) ∙ lines_back ls

-- what is read of bytes that ask for steps is these steps
pub read_back : (text : List ℕ) (steps : List Step) → Asks text steps → all_steps (lines CrLf text) ≡ Some steps
read_back text steps a = ap all_steps (lines_read text a.lines a.are) ∙ a.make

-- what is read of the script of steps that have lines is these steps
pub script_read_back : (steps : List Step) → list_all has_line steps ≡ true → all_steps (lines CrLf (script_of steps)) ≡ Some steps
script_read_back steps h = read_back (script_of steps) steps (asks_script steps h)
