-- What was written is the line of a step.
use Rattle.std.proofs.Common.{◌≡◌, ℕ, ℤ, pos, negsuc, ◌<◌, ◌^◌, true, false, Bool, ◌&&◌, List, [], ◌++◌, cond, append-nil, refl, sym, ◌∙◌, ap, Some}
use Rattle.std.proofs.lemmas.Bool.{lt-ltb}
use lib.Signed.{mag}
use Rattle.rev_items.specs.Keys.{is_key}
use Rattle.rev_model.specs.Client.{ClientStep, Payload, Bytes, Verb, Side, Stores, Joins, Flushes}
use Rattle.rev_model.specs.Actor.{Step, Client, Pull, Bump, CrawlStart, Crawl, Schedule, Advance, Clock, TempTtl}
use Rattle.rev_model.specs.declared.ClassSet.TheVariants.{All, These}
use Rattle.rev_model.specs.declared.Queue.{Queue}
use Rattle.rev_requests.specs.Limits.{PlainTune, is_tune}
use Rattle.rev_script.specs.Steps.{tune_step}
use Rattle.rev_import.proofs.Words.{either}
use Rattle.rev_lines.specs.Lines.{is_u32, is_i32, is_data, is_verb, has_client_line, has_line, known, store_text, join_text, text_of, written, Put}
use Rattle.rev_lines.proofs.Reading.{asks}

-- the line of a step that has one
pub puts : (old new : List ℕ) (s : Step) → has_line s ≡ true → new ≡ old ++ text_of s → Put old new true s
unfolding written
puts old new s h e = record {
  tells = sym h;
  behind = e ∙ ap (λ (b : Bool). old ++ cond b (text_of s) []) (sym h);
  reads = λ t. asks s h;
}

-- nothing for a step that has none
pub lacks : (old : List ℕ) (s : Step) → has_line s ≡ false → Put old old false s
unfolding written
lacks old s h = record {
  tells = sym h;
  behind = sym (append-nil old) ∙ ap (λ (b : Bool). old ++ cond b (text_of s) []) (sym h);
  reads = λ t. absurd (cc);
}

-- ---- which steps have a line

no_end : (b : Bool) → b && false ≡ false
no_end true = refl
no_end false = refl

in_i32 : (z : ℤ) → mag z < 2 ^ 31 → is_i32 z ≡ true
in_i32 (pos n) h = lt-ltb n (2 ^ 31) h
in_i32 (negsuc n) h = lt-ltb n (2 ^ 31) h

pub store_has : (v : Verb) (k : List ℕ) (flags : ℕ) (e : ℤ) (d : Payload) → is_verb v ≡ true → is_key k ≡ true → flags < 2 ^ 32 → mag e < 2 ^ 31 → is_data d ≡ true → has_line (Client (Stores v k flags e d)) ≡ true
unfolding has_line
store_has v k flags e d p h f m q = either _ _ p (either _ _ h (either _ _ (lt-ltb flags (2 ^ 32) f) (either _ _ (in_i32 e m) q)))

pub store_lacks : (v : Verb) (k : List ℕ) (flags : ℕ) (e : ℤ) (d : Payload) → is_data d ≡ false → has_line (Client (Stores v k flags e d)) ≡ false
unfolding has_line
store_lacks v k flags e d q =
    ap (λ b. is_verb v && (is_key k && (is_u32 flags && (is_i32 e && b)))) q
    ∙ ap (λ b. is_verb v && (is_key k && (is_u32 flags && b))) (no_end (is_i32 e))
    ∙ ap (λ b. is_verb v && (is_key k && b)) (no_end (is_u32 flags))
    ∙ ap (λ b. is_verb v && b) (no_end (is_key k))
    ∙ no_end (is_verb v)

pub join_has : (side : Side) (k : List ℕ) (d : Payload) → is_key k ≡ true → is_data d ≡ true → has_line (Client (Joins side k d)) ≡ true
unfolding has_line
join_has side k d h q = either _ _ h q

pub join_lacks : (side : Side) (k : List ℕ) (d : Payload) → is_data d ≡ false → has_line (Client (Joins side k d)) ≡ false
unfolding has_line
join_lacks side k d q = ap (λ b. is_key k && b) q ∙ no_end (is_key k)

pub client_has : (e : ClientStep) → has_client_line e ≡ true → has_line (Client e) ≡ true
unfolding has_line
client_has e h = h

pub flush_has : (z : ℤ) → mag z < 2 ^ 31 → has_line (Client (Flushes (Some z))) ≡ true
unfolding has_line
flush_has z m = in_i32 z m

pub pull_has : (n : ℕ) (q : Queue) → n < 2 ^ 32 → has_line (Pull n q) ≡ true
unfolding has_line
pull_has n q h = lt-ltb n (2 ^ 32) h

pub bump_has : has_line Bump ≡ true
unfolding has_line
bump_has = refl

pub all_has : has_line (CrawlStart All) ≡ true
unfolding has_line
all_has = refl

pub some_lack : (n : ℕ) → has_line (CrawlStart (These n)) ≡ false
unfolding has_line
some_lack n = refl

pub crawl_has : (n : ℕ) (q : Queue) → n < 2 ^ 32 → has_line (Crawl n q) ≡ true
unfolding has_line
crawl_has n q h = lt-ltb n (2 ^ 32) h

pub schedule_has : (n m : ℕ) → n < 2 ^ 32 → m < 2 ^ 32 → has_line (Schedule n m) ≡ true
unfolding has_line
schedule_has n m h k = either _ _ (lt-ltb n (2 ^ 32) h) (lt-ltb m (2 ^ 32) k)

pub advance_has : has_line Advance ≡ true
unfolding has_line
advance_has = refl

pub clock_has : (n : ℕ) → n < 2 ^ 32 → has_line (Clock n) ≡ true
unfolding has_line
clock_has n h = lt-ltb n (2 ^ 32) h

pub tune_has : (t : PlainTune) → is_tune t.hot_share t.warm_share t.hot_factor t.warm_factor ≡ true → has_line (tune_step t) ≡ true
unfolding has_line
tune_has t h = h

pub temp_ttl_has : (z : ℤ) → mag z < 2 ^ 31 → has_line (TempTtl z) ≡ true
unfolding has_line
temp_ttl_has z m = in_i32 z m

-- the data of a store and of a join
pub store_put : (old new : List ℕ) (v : Verb) (k key : List ℕ) (flags : ℕ) (e : ℤ) (d : Payload) (bytes : List ℕ) → has_line (Client (Stores v key flags e d)) ≡ true → d ≡ Bytes bytes → k ≡ key →
    new ≡ old ++ store_text v k flags e bytes → Put old new true (Client (Stores v key flags e d))
store_put old new v k key flags e d bytes h is same w =
    puts old new (Client (Stores v key flags e d)) h (w ∙ ap (λ x. old ++ store_text v x flags e bytes) same ∙ ap (λ p. old ++ store_text v key flags e (known p)) (sym is))

pub join_put : (old new : List ℕ) (side : Side) (k key : List ℕ) (d : Payload) (bytes : List ℕ) → has_line (Client (Joins side key d)) ≡ true → d ≡ Bytes bytes → k ≡ key →
    new ≡ old ++ join_text side k bytes → Put old new true (Client (Joins side key d))
join_put old new side k key d bytes h is same w =
    puts old new (Client (Joins side key d)) h (w ∙ ap (λ x. old ++ join_text side x bytes) same ∙ ap (λ p. old ++ join_text side key (known p)) (sym is))
