use Rattle.std.proofs.Common.{sym, subst, List, ℕ, ◌∷◌, []}
use Rattle.rev_lives.specs.Hashes.{Gathers}
use Rattle.rev_lives.proofs.Lacks.{gathers_pushed}
use Rattle.rev_lives.proofs.hashes.note.Goals as goal

pub returns : goal.returns
returns g c =
    subst (λ (l : List ℕ). Gathers c.args.hashes.now.items l (c.args.hash ∷ [])) (sym c.in_ok-push.ensures.items)
    (gathers_pushed c.args.hashes.now.items c.args.hash)
