use Rattle.std.proofs.Common.{◌≡◌, ◌⊎◌, ℕ, subst}
use Rattle.rev_tree.specs.Mentions.{Holds}
use Rattle.rev_tree.proofs.mentions.Mentions.note.Goals as goal

pub returns-clause-only : goal.returns-clause-only
returns-clause-only g c =
    subst (λ ms. (h n : ℕ) → Holds c.add.new.self h n → Holds ms h n ⊎ ((h ≡ c.args.hash) × (n ≡ c.args.node))) c.make_room.ensures c.add.ensures.only
