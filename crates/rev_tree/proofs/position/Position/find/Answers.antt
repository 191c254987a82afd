use Rattle.std.proofs.Common.{[], refl, subst, ◌∙◌}
use Rattle.rev_tree.specs.Finds.{FoundAt, IsElsewhere}
use Rattle.rev_tree.proofs.Fits.{found_placed, root_placed}
use Rattle.rev_tree.proofs.Held.{if_some_weaker}
use Rattle.rev_tree.proofs.Elsewhere.{if_none_weaker}
use Rattle.rev_tree.proofs.Indexes.{missing_elsewhere}
use Rattle.rev_tree.proofs.position.Position.find.Goals as goal

pub returns-then-number-eq0-clause-some : goal.returns-then-number-eq0-clause-some
returns-then-number-eq0-clause-some g c = root_placed c.args.number c.args.self.now.base c.args.way.now.items c.if-number-eq0.true c.requires.empty

pub returns-clause-some : goal.returns-clause-some
returns-clause-some g c =
    if_some_weaker c.spot.result _ _ (λ at h. subst (λ z. FoundAt c.args.number c.args.self.now.base z at) c.as_slice.ensures.value (found_placed c.args.number c.args.self.now.base [] c.as_slice.result.now at refl c.requires.fitted h)) c.spot.ensures.some

pub returns-clause-missing : goal.returns-clause-missing
returns-clause-missing g c =
    if_none_weaker c.spot.result _ _ (λ h. missing_elsewhere c.args.self.now.index c.args.self.now.base c.args.number c.requires.fitted c.requires.leads (subst (λ z. IsElsewhere c.args.number c.args.self.now.base z) (c.as_slice.ensures.value ∙ c.lead.ensures) h)) c.spot.ensures.none
