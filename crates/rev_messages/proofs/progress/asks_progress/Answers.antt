use Rattle.std.proofs.Common.{◌≡◌, ℕ, ◌+◌, ◌<◌, List, length, get_or, drop, map, false, refl, ◌∙◌, codes}
use Rattle.std.proofs.lemmas.List.{at_drop_more}
use Rattle.std.specs.Str.{bytes_eq}
use Rattle.rev_messages.specs.Progress.{asks_progress}
use Rattle.rev_messages.proofs.progress.asks_progress.Goals as goal

-- a word that asks for nothing is passed over
passed : {S : Type 0} (text : S → List ℕ) (words : List S) (i : ℕ) (word : S) → i < length words → word ≡ get_or words i word → bytes_eq (text word) (codes "--progress") ≡ false → asks_progress (map text (drop (i + 1) words)) ≡ asks_progress (map text (drop i words))
passed text words i word within is other =
    rw (at_drop_more (λ rest. asks_progress (map text rest)) words i word within, ← is, other) refl

pub loop-word-preserved : goal.loop-word-preserved
loop-word-preserved g c =
    passed g.S.AsStr.text c.args.words.now c.loop-word.word-index c.word-item.result c.loop-word-test.true c.word-item.is
    (rw (← c.as_str.ensures, ← c.eq.ensures) c.if-eq.false)
    ∙ c.loop-word.invariant
