use Rattle.std.proofs.Common.{◌∙◌, sym, ap, subst, ◌<◌}
use Rattle.std.specs.List.{All}
use Rattle.rev_log.specs.Seconds.{aged, counted}
use Rattle.rev_log.proofs.Votes.{few-counted, few-aged}
use Rattle.rev_log.proofs.seconds.Seconds.vote.Goals as goal

pub invariant_of-self : goal.invariant_of-self
invariant_of-self c = (
  subst (λ l. All (λ n. n < 65536) l) (sym (c.age.ensures ∙ ap aged c.count_all.ensures))
      (few-aged (counted c.args.stored c.args.evicted c.args.elapsed 0 c.self.inside.votes) (few-counted c.args.stored c.args.evicted c.args.elapsed c.self.inside.votes c.self.invariant.0)),
  c.best-self-inside.ensures,
)
