use Rattle.std.proofs.Common.{rules, ◌<◌, length, refl, sym, subst}
use Rattle.rev_tree.proofs.Linking.{no_head, unlinked}
use Rattle.rev_tree.proofs.links.relink.Goals as goal

pub loop-at-init : goal.loop-at-init
loop-at-init c = record {
  same = refl;
  linked = unlinked c.fill.new.self c.args.entries.now (length c.args.heads.now) no_head (subst (λ n. 0 < n) (sym c.fill.ensures.len) c.requires.some) (c.fill.ensures.after (λ y e. search rules)) refl;
}
