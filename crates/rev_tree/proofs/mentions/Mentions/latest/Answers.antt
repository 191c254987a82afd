use Rattle.std.proofs.Common.{ℕ, ◌<◌, ◌≤◌, ap, ◌∙◌, subst}
use Rattle.rev_tree.specs.Mentions.{Holds}
use Rattle.rev_tree.specs.Links.{mentions_of}
use Rattle.rev_tree.proofs.mentions.Mentions.latest.Goals as goal

pub returns-clause-latest : goal.returns-clause-latest
returns-clause-latest g c =
    subst (λ ms. (n : ℕ) → Holds ms c.args.hash n → n ≤ c.args.bound → n ≤ c.seek.result) (ap mentions_of c.deref-2.ensures.value ∙ c.self.view_is) c.seek.ensures.latest

pub returns-clause-held : goal.returns-clause-held
returns-clause-held g c =
    subst (λ ms. 0 < c.seek.result → Holds ms c.args.hash c.seek.result) (ap mentions_of c.deref-2.ensures.value ∙ c.self.view_is) c.seek.ensures.held
