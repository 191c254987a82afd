use Rattle.std.proofs.Common.{◌++◌, ◌∷◌, [], ap, sym, ◌∙◌}
use Rattle.std.specs.Option.{option_map}
use Rattle.rev_requests.specs.Plain.{plain_step}
use Rattle.rev_tree.specs.Runs.{PlainHead, node_of}
use Rattle.rev_tree.proofs.Runs.{pushed_run}
use Rattle.rev_tree.proofs.run.Run.push.Goals as goal

pub returns-clause-ok : goal.returns-clause-ok
returns-clause-ok g c = λ n held.
    let i = c.node.inside in
    let h : PlainHead = record { number = i.number; step = plain_step c.in-Some.step; outcome = i.outcome } in
    pushed_run c.self.inside.heads.items c.push-2.new.self.items c.self.inside.records c.push.new.self h i.undo c.args.self.now c.args.node.now n c.self.view_is c.self.invariant
    (c.in-Ok.ensures.items ∙ ap (λ l. l ++ h ∷ []) c.in_ok-reserve.ensures.items) c.in_ok-push.ensures.ok
    (sym c.node.view_is ∙ ap (option_map (λ s. node_of record { number = i.number; step = plain_step s; outcome = i.outcome } i.undo)) (sym c.in-Some.ensures.value)) held
