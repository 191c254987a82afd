use Rattle.std.proofs.Common.{sym, ◌∙◌, ap, arith, take_all}
use Rattle.std.proofs.lemmas.List.Folds.{list_all-map, list_all_at}
use Rattle.std.specs.List.{list_all}
use Rattle.rev_items.specs.Keys.{is_key}
use Rattle.rev_script.proofs.words.are_keys.Goals as goal

pub returns-then-not-is_key : goal.returns-then-not-is_key
returns-then-not-is_key c = sym (list_all-map is_key _ c.args.words.now ∙ list_all_at _ c.args.words.now c.loop-w.w-index _ c.loop-w-test.true (sym c.is_key.ensures ∙ c.if-not-is_key.true))

pub returns : goal.returns
returns c = sym (list_all-map is_key _ c.args.words.now ∙ ap (λ t. list_all (λ x. is_key x.now) t) (sym (take_all c.loop-w.w-index c.args.words.now (omega (arith, c.loop-w-test.false)))) ∙ c.loop-w.invariant)
