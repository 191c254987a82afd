use Rattle.std.proofs.Common.{sym, ◌∙◌}
use Rattle.std.proofs.lemmas.List.Folds.{list_all-map}
use Rattle.rev_items.specs.Keys.{is_key}
use Rattle.rev_script.proofs.Each.{list_all-get_or}
use Rattle.rev_script.proofs.lines.keys_of.Goals as goal

pub of-requires : goal.of-requires
of-requires g c =
    record { rule = list_all-get_or (λ x. is_key x.now) c.args.words.now c.loop-w.w-index _ c.loop-w-test.true (sym (list_all-map is_key _ c.args.words.now) ∙ c.requires) }
