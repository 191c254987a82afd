use Rattle.std.proofs.Common.{◌≡◌, [], sym, ◌∙◌, ap, subst}
use Rattle.rev_tree.specs.Steps.{Sound, State}
use Rattle.rev_tree.specs.Rows.{rows_of, number_at, at}
use Rattle.rev_tree.specs.States.{rewind}
use Rattle.rev_tree.specs.Positions.{SessionState}
use Rattle.rev_tree.proofs.Positions.{stands_at}
use Rattle.rev_tree.proofs.Growth.{kept_sound, open_kept, open_state}
use Rattle.rev_tree.proofs.Indexes.{index_opened}
use Rattle.rev_undotree.proofs.Mentioned.{open_noted}
use Rattle.rev_undotree.proofs.session.Session.restart.Goals as goal

pub invariant_of-self : goal.invariant_of-self
invariant_of-self g c =
    let u = c.uproot.ensures in
    let sound = subst Sound (sym u.store) (kept_sound _ _ _ _ _ _ c.self.invariant.kept) in
    rw u.here (open_noted _ _ _ _ _ _ (open_kept c.uproot.new.self.store c.uproot.new.self.base c.uproot.new.self.way.items sound u.base u.way) c.clear.ensures
    (index_opened c.uproot.new.self.index c.uproot.new.self.base u.index u.base))

pub returns : goal.returns
returns g c =
    let u = c.uproot.ensures in
    let p = c.self.inside.position in
    let stands : p.store ≡ at c.args.self.now.root c.args.self.now.rows c.args.self.now.current = rw (← c.self.view_is) (stands_at _ p.store p.base p.way.items p.here c.self.inside.issued c.self.invariant.kept) in
    let here : ◌≡◌ {A = SessionState} (record { root = rewind c.uproot.new.self.base c.uproot.new.self.way.items c.uproot.new.self.here c.uproot.new.self.store; rows = rows_of 0 c.uproot.new.self.base; current = number_at c.uproot.new.self.base c.uproot.new.self.way.items c.uproot.new.self.here }) (record { root = c.uproot.new.self.store; rows = []; current = 0 }) =
    rw u.here (open_state c.uproot.new.self.store c.uproot.new.self.base c.uproot.new.self.way.items u.base u.way) in
    here ∙ ap (λ (s : State). let m : SessionState = record { root = s; rows = []; current = 0 } in m) (u.store ∙ stands)
