-- The event's own store behind a node.
use Rattle.std.proofs.Common.{◌≡◌, ℕ, suc, ◌+◌, ◌-◌, ◌<◌, List, Option, None, ap, sym, ◌∙◌, arith}
use Rattle.rev_model.specs.State.{State}
use Rattle.rev_tree.specs.Rows.{Row}
use Rattle.rev_lead.specs.declared.role.Role.{Role}
use Rattle.rev_evidence.specs.Blame.{first_store, stored_at, blamed_at, or_else}

-- where the next node is none, it is one of those behind that
pub first_store-none : (root : State) (rows : List (Option Row)) (rs : List Role) (total before : ℕ) → before < total → None ≡ stored_at root rows rs (before + 1)
    → first_store root rows rs (total - before) before ≡ first_store root rows rs (total - (before + 1)) (before + 1)
first_store-none root rows rs total before lt none =
    let more : total - before ≡ suc (total - (before + 1)) = omega arith in
    ap (λ n. first_store root rows rs n before) more
    ∙ ap (λ o. or_else (blamed_at (before + 1) o) (first_store root rows rs (total - (before + 1)) (before + 1))) (sym none)
