use Rattle.std.proofs.Common.{◌++◌, subst}
use Rattle.std.proofs.lemmas.Result.{on_ok_weaker}
use Rattle.rev_tree.specs.Named.{named}
use Rattle.rev_tree.specs.Mentioned.{AreMentioned}
use Rattle.rev_tree.proofs.Named.{both_mentioned}
use Rattle.rev_tree.proofs.naming.mention.Goals as goal

pub returns-clause-named : goal.returns-clause-named
returns-clause-named g c =
    let x = c.mention_record in
    on_ok_weaker x.result
    (λ a.
    subst (λ z. AreMentioned x.new.mentions (z ++ named c.args.store.now c.args.undo.now.moves) c.args.number) c.stored_hash.ensures
    (both_mentioned _ _ _ _ _ c.in_ok-mention_hash.ensures.named x.ensures.grows a))
    x.ensures.named
