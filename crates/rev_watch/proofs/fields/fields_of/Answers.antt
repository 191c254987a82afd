use Rattle.std.proofs.Common.{◌∙◌, map, sym, ap, length, arith}
use Rattle.std.proofs.lemmas.Bool.{eqb-true, eqb-false}
use Rattle.std.proofs.lemmas.List.{length-map}
use Rattle.rev_watch.proofs.WordLemmas.{past-shorter, too_many, all_few, words_push, words_end}
use Rattle.rev_watch.proofs.fields.fields_of.Goals as goal

pub returns-then-is_full : goal.returns-then-is_full
returns-then-is_full c =
    too_many c.args.words.now c.words.words (map (λ w. w.now) c.words.fields.items) c.words.invariant
    (length-map c.words.fields.items (λ w. w.now) ∙ eqb-true _ _ (sym c.is_full.ensures.value ∙ c.if-is_full.true))

pub words-smaller : goal.words-smaller
words-smaller c =
    omega (arith, past-shorter 32 c.words.words (sym c.next-more.ensures.more ∙ c.if-not-more.false), ap length c.next-more.ensures.rest)

pub words-preserved : goal.words-preserved
words-preserved c =
    words_push c.args.words.now c.words.words c.words.fields.items c.push.new.self.items c.next-more.result.0 c.next-more.new.self c.words.invariant c.push.ensures.items
    (sym c.next-more.ensures.more ∙ c.if-not-more.false) c.next-more.ensures.word c.next-more.ensures.rest

pub returns-then-not-more : goal.returns-then-not-more
returns-then-not-more c =
    let some = eqb-false _ _ (sym c.is_full.ensures.value ∙ c.if-is_full.false) in
    all_few c.args.words.now (map (λ w. w.now) c.push.new.self.items)
    (words_end c.args.words.now c.words.words c.words.fields.items c.push.new.self.items c.next-more.result.0 c.words.invariant c.push.ensures.items (sym c.next-more.ensures.more ∙ c.if-not-more.true) c.next-more.ensures.word)
    (omega (arith, length-map c.push.new.self.items (λ w. w.now), c.push.ensures.len, c.is_full.ensures.fits, some))
