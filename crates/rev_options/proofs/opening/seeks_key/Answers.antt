use Rattle.std.proofs.Common.{◌≡◌, ℕ, ◌+◌, ◌<◌, List, length, get_or, drop, map, false, refl, ◌∙◌, codes}
use Rattle.std.proofs.lemmas.List.{at_drop_more}
use Rattle.rev_options.specs.Request.{begins_with, seeks_key}
use Rattle.rev_options.proofs.opening.seeks_key.Goals as goal

-- a word that asks for no key is passed over
passed : {S : Type 0} (text : S → List ℕ) (words : List S) (i : ℕ) (word : S) → i < length words → word ≡ get_or words i word → begins_with (codes "--until-gone") (text word) ≡ false → seeks_key (map text (drop (i + 1) words)) ≡ seeks_key (map text (drop i words))
passed text words i word within is no_key =
    rw (at_drop_more (λ rest. seeks_key (map text rest)) words i word within, ← is, no_key) refl

pub loop-word-preserved : goal.loop-word-preserved
loop-word-preserved g c =
    passed g.S.AsStr.text c.args.words.now c.loop-word.word-index c.word-item.result c.loop-word-test.true c.word-item.is
    (rw (← c.as_str.ensures, ← c.begins_with.ensures) c.if-begins_with.false)
    ∙ c.loop-word.invariant
