use Rattle.std.proofs.Common.{◌%◌, length, ◌∙◌, ap}
use Rattle.rev_tree.specs.declared.mention.Mention.{Mention}
use Rattle.rev_tree.proofs.Linking.{mentions_kept, entry_linked}
use Rattle.rev_tree.proofs.links.link.Goals as goal

pub returns-clause-mentions : goal.returns-clause-mentions
returns-clause-mentions c =
    mentions_kept c.args.heads.now c.args.entries.now c.args.at c.bucket-place.result c.in_front.result.0 (c.in_front.ensures.mention ∙ c.mention-mention.ensures)

pub returns-clause-linked : goal.returns-clause-linked
returns-clause-linked c =
    entry_linked c.args.heads.now c.args.entries.now c.args.at c.bucket-place.result c.in_front.result.0 (c.in_front.ensures.mention ∙ c.mention-mention.ensures)
    c.in_front.result.1 c.requires.linked c.requires.within (c.bucket-place.ensures.value ∙ ap (λ (m : Mention). m.hash % length c.args.heads.now) c.mention-mention.ensures) c.bucket-place.ensures.within c.in_front.ensures.earlier c.in_front.ensures.last
