use Rattle.std.proofs.Common.{◌≡◌, ◌-◌, length}
use Rattle.rev_evidence.specs.Blame.{first_store, store_behind}
use Rattle.rev_evidence.proofs.blame.store_behind.Given as goal

-- no node up to here is such a store
abbrev pub invariant-loop-before : goal.invariant-loop-before
invariant-loop-before g l =
    store_behind l.session.root l.session.rows l.roles l.fn.node.0 ≡ first_store l.session.root l.session.rows l.roles (length l.session.rows - l.before) l.before
