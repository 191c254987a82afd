use Rattle.std.proofs.Common.{◌∙◌, ap}
use Rattle.std.specs.Fmt.{decimal}
use Rattle.rev_import.specs.Writing.{factor_text}
use Rattle.rev_import.proofs.Rows.{adds_row, tune_row, five_behind}
use Rattle.rev_import.proofs.writing.put_tune.Goals as goal

pub returns : goal.returns
returns g c =
    adds_row c.extend_from_slice-2.result _ _ _ _
    (five_behind c.extend_from_slice-2.result _ _ _ _ _ _ _ _ _ _ _ _ _ _ c.in_ok-extend_from_slice.ensures.items c.in_ok-put_word.ensures c.in_ok-put_word-2.ensures c.in_ok-put_word-3.ensures c.in_ok-put_factor.ensures c.in_ok-put_factor-2.ensures c.extend_from_slice-2.ensures.items)
    (tune_row c.args.tune.hot_share c.args.tune.warm_share c.args.tune.hot_factor c.args.tune.warm_factor _ _ _ _ c.hot_share.ensures.within
    (c.as_bytes.ensures.value ∙ c.format.ensures.text ∙ ap decimal c.hot_share.ensures.value) (c.as_bytes-2.ensures.value ∙ c.format-2.ensures.text ∙ ap decimal c.warm_share.ensures)
    (ap factor_text c.hot_factor.ensures) (ap factor_text c.warm_factor.ensures))
