use Rattle.std.specs.Option.{option_copied, option_map}
use Rattle.std.proofs.Common.{◌++◌, sym, ap, ◌∙◌, subst}
use Rattle.rev_tree.proofs.Runs.{some_inj}
use Rattle.rev_steps.specs.Plain.{plain_step}
use Rattle.rev_tree.specs.Tree.{PlainNode}
use Rattle.rev_tree.specs.Runs.{node_of}
use Rattle.rev_tree.specs.Named.{stored_keys, named}
use Rattle.rev_tree.specs.Mentioned.{AreMentioned}
use Rattle.rev_tree.proofs.Named.{ok_any}
use Rattle.rev_undotree.proofs.session.add.Goals as goal

pub returns-clause-named : goal.returns-clause-named
returns-clause-named g c = ok_any c.grow.result _ (λ n held.
    let i = c.held.inside in
    let w = ap (option_map (λ s. node_of record { number = i.number; step = plain_step s; outcome = i.outcome } i.undo)) (sym (ap option_copied c.in-Some.is) ∙ c.as_ref.ensures.value) ∙ c.held.view_is ∙ held in
    subst (λ (m : PlainNode). AreMentioned c.mention.new.mentions (stored_keys m.step m.outcome ++ named c.args.position.now.store m.undo.moves) m.number) (some_inj _ _ w) c.in_ok-mention-in-Some.ensures.named)
