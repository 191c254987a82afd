use Rattle.std.proofs.Common.{◌++◌, map, sym, ◌∙◌, ap, append_assoc, take, drop, ◌+◌, ◌-◌, ◌<◌, length, arith}
use Rattle.rev_script.specs.Words.{words, word_or_none}
use Rattle.rev_script.proofs.Split.{ordered, left_of, part, last}
use Rattle.rev_script.proofs.words.few_words_by.Goals as goal

pub returns-then-end-text : goal.returns-then-end-text
returns-then-end-text c _ =
    let s = c.words.invariant.0 in
    let end = c.first_place-end.result in
    let o = ordered end s c.first_place-end.ensures.bound c.first_place-end.ensures.set in
    c.keep_word.ensures c.if-not-keep_word.false
    ∙ ap (λ ws. map (λ x. x.now) c.words.few.items ++ ws) (sym (last end s c.if-end-text.true o c.first_place-end.ensures.below)) ∙ c.words.invariant.1

pub words-preserved : goal.words-preserved
words-preserved c =
    let s = c.words.invariant.0 in
    let end = c.first_place-end.result in
    let text = c.args.text.now in
    let o = ordered end s c.first_place-end.ensures.bound c.first_place-end.ensures.set in
    let l : end < length text = omega (arith, c.first_place-end.ensures.bound, c.if-end-text.false) in (
      left_of end c.without-left.result s c.requires.short l o c.first_place-end.ensures.below c.without-left.ensures.gone c.without-left.ensures.kept,
      ap (λ ws. ws ++ words (drop (end + 1) text)) (c.keep_word.ensures c.if-not-keep_word.false)
          ∙ append_assoc (map (λ x. x.now) c.words.few.items) (word_or_none (take (end - c.words.from) (drop c.words.from text))) (words (drop (end + 1) text))
          ∙ ap (λ ws. map (λ x. x.now) c.words.few.items ++ ws) (sym (part end s l o c.first_place-end.ensures.below (c.first_place-end.ensures.set l)))
          ∙ c.words.invariant.1,
    )
