use Rattle.rev_tree.proofs.Logs.{sound_again}
use Rattle.rev_tree.proofs.mentions.Mentions.replace_heads.Goals as goal

pub invariant_of-self : goal.invariant_of-self
invariant_of-self g c =
    sound_again c.replace-old.new.dest c.self.inside.entries c.self.inside.heads.items c.deref_mut.result.now c.relink.new.heads c.deref_mut-2.result.now c.relink.new.entries
    c.deref_mut.ensures.value c.relink.auto.heads c.deref_mut-2.ensures.value c.relink.auto.entries c.relink.ensures.mentions c.self.invariant c.relink.ensures.linked
