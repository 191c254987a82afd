use Rattle.std.proofs.Common.{◌≡◌, IfOk, subst, ap, ◌∙◌}
use Rattle.rev_life.specs.Lines.{with_all_ended, with_rest}
use Rattle.rev_life.proofs.lines.lives_lines.Goals as goal

pub returns : goal.returns
returns g c =
    subst (λ x. IfOk c.rest_lines.result (λ lines. lines.items ≡ with_rest x c.args.key.now c.args.now c.args.key.now.held))
    (c.in_ok-lines.ensures ∙ ap (with_all_ended c.args.out.items c.args.key.now.key) c.as_slice.ensures.value) c.rest_lines.ensures
