use Rattle.rev_undotree.proofs.session.Session.play_narrowed.Goals as goal

pub returns-else-narrow-clause-many : goal.returns-else-narrow-clause-many
returns-else-narrow-clause-many g c = (λ e. cc, λ p. absurd (c.requires.many p))

pub returns-else-narrow-clause-deep : goal.returns-else-narrow-clause-deep
returns-else-narrow-clause-deep g c = (λ e. cc, λ p. absurd (c.requires.deep p))
