use Rattle.std.proofs.Common.{◌≡◌, ap, sym, ◌∙◌}
use Rattle.std.specs.Option.{option_map}
use Rattle.rev_tree.proofs.Children.{child_held}
use Rattle.std.proofs.Common.{Result, Err, Ok, is_ok, true}
use Rattle.rev_undotree.proofs.session.Session.forward.Goals as goal

err_not : {T E : Type 0} (r : Result T E) (e : E) → r ≡ Err e → is_ok r ≡ true → ⊥
err_not (Ok x) e h k = cc
err_not (Err f) e h k = cc

pub returns-in-Err-clause-err : goal.returns-in-Err-clause-err
returns-in-Err-clause-err g c =
    let h = c.go.ensures.held.1 (child_held c.args.self.now.rows c.current.result.0 c.args.index c.in-Some.node.0 (sym c.child.ensures ∙ ap (option_map (λ n. n.0)) c.in-Some.is)) in
    let e = c.in-Err.is in
    absurd (err_not _ c.in-Err.field-0 e h)
