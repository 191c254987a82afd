-- One form more of a command.
use Rattle.std.proofs.Common.{◌≡◌, ◌<◌, ℕ, zero, suc, ◌+◌, Bool, true, false, codes, List, [], ◌∷◌, ◌++◌, length, map, take, slice_index_or, refl, sym, ◌∙◌, ap, arith, append_assoc, append-nil, ◌||◌}
use Rattle.std.specs.List.{list_any}
use Rattle.rev_texts.specs.Help.{PlainTopic, topic_of, topics, is_of, line_text, lines_text, topic_text, topics_text, help_on_text}
use Rattle.rev_texts.specs.Texts.{output}
use Rattle.rev_texts.specs.declared.help.Topic.{Topic}

lines-suc : (ts : List Topic) (n : ℕ) (d : Topic) → n < length ts → lines_text (map topic_of (take (suc n) ts)) ≡ lines_text (map topic_of (take n ts)) ++ line_text (topic_of (slice_index_or ts n d))
lines-suc [] n d lt = absurd (omega (arith, lt))
lines-suc (t ∷ ts) zero d lt = append-nil (line_text (topic_of t))
lines-suc (t ∷ ts) (suc n) d lt =
    ap (λ l. line_text (topic_of t) ++ l) (lines-suc ts n d (omega (arith, lt)))
    ∙ sym (append_assoc (line_text (topic_of t)) (lines_text (map topic_of (take n ts))) (line_text (topic_of (slice_index_or ts n d))))

-- the lines with a form more
pub lines-next : (start now new : List ℕ) (ts : List Topic) (n : ℕ) (d : Topic) → n < length ts → now ≡ start ++ lines_text (map topic_of (take n ts)) → new ≡ now ++ line_text (topic_of (slice_index_or ts n d)) →
    new ≡ start ++ lines_text (map topic_of (take (n + 1) ts))
lines-next start now new ts n d lt i w =
    let e : n + 1 ≡ suc n = omega arith in
    rw e
    (w ∙ ap (λ l. l ++ line_text (topic_of (slice_index_or ts n d))) i
    ∙ append_assoc start (lines_text (map topic_of (take n ts))) (line_text (topic_of (slice_index_or ts n d)))
    ∙ ap (λ l. start ++ l) (sym (lines-suc ts n d lt)))

topics-suc : (word : List ℕ) (ts : List Topic) (n : ℕ) (d : Topic) → n < length ts →
    topics_text word (map topic_of (take (suc n) ts)) ≡ topics_text word (map topic_of (take n ts)) ++ topic_text word (topic_of (slice_index_or ts n d))
topics-suc word [] n d lt = absurd (omega (arith, lt))
topics-suc word (t ∷ ts) zero d lt = append-nil (topic_text word (topic_of t))
topics-suc word (t ∷ ts) (suc n) d lt =
    ap (λ l. topic_text word (topic_of t) ++ l) (topics-suc word ts n d (omega (arith, lt)))
    ∙ sym (append_assoc (topic_text word (topic_of t)) (topics_text word (map topic_of (take n ts))) (topic_text word (topic_of (slice_index_or ts n d))))

-- what there is to say with a form more
pub topics-next : (word start now new : List ℕ) (ts : List Topic) (n : ℕ) (d : Topic) → n < length ts → now ≡ start ++ topics_text word (map topic_of (take n ts)) →
    new ≡ now ++ topic_text word (topic_of (slice_index_or ts n d)) → new ≡ start ++ topics_text word (map topic_of (take (n + 1) ts))
topics-next word start now new ts n d lt i w =
    let e : n + 1 ≡ suc n = omega arith in
    rw e
    (w ∙ ap (λ l. l ++ topic_text word (topic_of (slice_index_or ts n d))) i
    ∙ append_assoc start (topics_text word (map topic_of (take n ts))) (topic_text word (topic_of (slice_index_or ts n d)))
    ∙ ap (λ l. start ++ l) (sym (topics-suc word ts n d lt)))

-- a test of some forms, and of what they are
any-plain : (p : PlainTopic → Bool) (ts : List Topic) → list_any (λ t. p (topic_of t)) ts ≡ list_any p (map topic_of ts)
any-plain p [] = refl
any-plain p (t ∷ ts) = ap (λ b. p (topic_of t) || b) (any-plain p ts)

known-plain : (word : List ℕ) (ts : List Topic) (known : Bool) → known ≡ list_any (λ t. is_of word (topic_of t)) ts → map topic_of ts ≡ topics → list_any (is_of word) topics ≡ known
known-plain word ts known is all = sym (is ∙ any-plain (is_of word) ts ∙ ap (list_any (is_of word)) all)

-- no command has the word
pub none-known : (word : List ℕ) (ts : List Topic) (known : Bool) → known ≡ list_any (λ t. is_of word (topic_of t)) ts → map topic_of ts ≡ topics → known ≡ false →
    output (codes "NOHELP") ≡ help_on_text word
none-known word ts known is all off = let e : list_any (is_of word) topics ≡ false = known-plain word ts known is all ∙ off in rw e refl

-- a command has it, and all is written
pub some-known : (word : List ℕ) (ts : List Topic) (known : Bool) → known ≡ list_any (λ t. is_of word (topic_of t)) ts → map topic_of ts ≡ topics → known ≡ true →
    (start mid new : List ℕ) → mid ≡ start ++ topics_text word (map topic_of ts) → new ≡ mid ++ output (codes "END") → new ≡ start ++ help_on_text word
some-known word ts known is all on start mid new m n =
    let e : list_any (is_of word) topics ≡ true = known-plain word ts known is all ∙ on in
    rw e
    (n ∙ ap (λ l. l ++ output (codes "END")) (m ∙ ap (λ l. start ++ topics_text word l) all) ∙ append_assoc start (topics_text word topics) (output (codes "END")))
