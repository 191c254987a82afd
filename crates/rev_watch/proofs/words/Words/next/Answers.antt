use Rattle.std.proofs.Common.{ap, ◌∙◌, arith}
use Rattle.rev_script.specs.Number.{has, until, past}
use Rattle.rev_watch.proofs.SpaceLemmas.{cut_off, last_word}
use Rattle.rev_watch.proofs.words.Words.next.Goals as goal

-- a space stands behind the word

pub slice_bounds-word-count : goal.slice_bounds-word-count
slice_bounds-word-count c =
    omega (arith, (cut_off c.self.inside.text.now c.self.inside.from c.in-Some.space c.self.inside.spaces _ c.self.invariant c.in-Some.ensures.steps).low)

pub slice_bounds-word-start : goal.slice_bounds-word-start
slice_bounds-word-start c =
    omega (arith, (cut_off c.self.inside.text.now c.self.inside.from c.in-Some.space c.self.inside.spaces _ c.self.invariant c.in-Some.ensures.steps).low)

pub slice_bounds-word-end : goal.slice_bounds-word-end
slice_bounds-word-end c =
    omega (arith, (cut_off c.self.inside.text.now c.self.inside.from c.in-Some.space c.self.inside.spaces _ c.self.invariant c.in-Some.ensures.steps).high)

pub overflow_add-self : goal.overflow_add-self
overflow_add-self c =
    omega (arith, (cut_off c.self.inside.text.now c.self.inside.from c.in-Some.space c.self.inside.spaces _ c.self.invariant c.in-Some.ensures.steps).high)

pub invariant_of-self : goal.invariant_of-self
invariant_of-self c =
    (cut_off c.self.inside.text.now c.self.inside.from c.in-Some.space c.self.inside.spaces _ c.self.invariant c.in-Some.ensures.steps).after

pub returns-in-Some-clause-word : goal.returns-in-Some-clause-word
returns-in-Some-clause-word c =
    (cut_off c.self.inside.text.now c.self.inside.from c.in-Some.space c.self.inside.spaces _ c.self.invariant c.in-Some.ensures.steps).word ∙ ap (until 32) c.self.view_is

pub returns-in-Some-clause-more : goal.returns-in-Some-clause-more
returns-in-Some-clause-more c =
    (cut_off c.self.inside.text.now c.self.inside.from c.in-Some.space c.self.inside.spaces _ c.self.invariant c.in-Some.ensures.steps).more ∙ ap (has 32) c.self.view_is

pub returns-in-Some-clause-rest : goal.returns-in-Some-clause-rest
returns-in-Some-clause-rest c =
    (cut_off c.self.inside.text.now c.self.inside.from c.in-Some.space c.self.inside.spaces _ c.self.invariant c.in-Some.ensures.steps).left ∙ ap (past 32) c.self.view_is

-- none does

pub invariant_of-self-in-None : goal.invariant_of-self-in-None
invariant_of-self-in-None c =
    (last_word c.self.inside.text.now c.self.inside.from c.self.inside.spaces _ c.self.invariant c.in-None.ensures.steps.0 c.in-None.ensures.steps.1).after

pub returns-in-None-clause-word : goal.returns-in-None-clause-word
returns-in-None-clause-word c =
    (last_word c.self.inside.text.now c.self.inside.from c.self.inside.spaces _ c.self.invariant c.in-None.ensures.steps.0 c.in-None.ensures.steps.1).word ∙ ap (until 32) c.self.view_is

pub returns-in-None-clause-more : goal.returns-in-None-clause-more
returns-in-None-clause-more c =
    (last_word c.self.inside.text.now c.self.inside.from c.self.inside.spaces _ c.self.invariant c.in-None.ensures.steps.0 c.in-None.ensures.steps.1).more ∙ ap (has 32) c.self.view_is

pub returns-in-None-clause-rest : goal.returns-in-None-clause-rest
returns-in-None-clause-rest c =
    (last_word c.self.inside.text.now c.self.inside.from c.self.inside.spaces _ c.self.invariant c.in-None.ensures.steps.0 c.in-None.ensures.steps.1).left ∙ ap (past 32) c.self.view_is
