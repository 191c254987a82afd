use Rattle.std.proofs.Common.{◌≡◌, IfSome, sym, subst}
use Rattle.rev_model.specs.Move.{touched_of}
use Rattle.rev_index.proofs.Fills.{touch_cell, touch_chained, touch_value}
use Rattle.rev_index.proofs.index.Index.touch.Goals as goal

pub touch-requires : goal.touch-requires
touch-requires g c =
    let s = c.self.inside in
    let r = c.requires in
    (r.0, touch_cell s.chains.ends.items s.chains.links s.items c.self.invariant c.args.self.now c.self.view_is c.args.chunk r.0 r.1)

pub invariant_of-self : goal.invariant_of-self
invariant_of-self g c =
    let s = c.self.inside in
    let r = c.requires in
    touch_chained s.chains.ends.items s.chains.links s.items c.self.invariant c.args.self.now c.self.view_is c.args.chunk r.0 r.1 c.args.to c.touch.new.self
    (c.touch.ensures.after r.0 (touch_cell s.chains.ends.items s.chains.links s.items c.self.invariant c.args.self.now c.self.view_is c.args.chunk r.0 r.1))

pub returns-clause-before : goal.returns-clause-before
returns-clause-before g c =
    let s = c.self.inside in
    let r = c.requires in
    subst (λ o. IfSome o (λ i. c.touch.result ≡ touched_of i)) (sym r.1)
    (c.touch.ensures.before r.0 (touch_cell s.chains.ends.items s.chains.links s.items c.self.invariant c.args.self.now c.self.view_is c.args.chunk r.0 r.1))

pub returns-clause-after : goal.returns-clause-after
returns-clause-after g c =
    let s = c.self.inside in
    let r = c.requires in
    touch_value s.chains.ends.items s.chains.links s.items c.self.invariant c.args.self.now c.self.view_is c.args.chunk r.0 r.1 c.args.to c.touch.new.self
    (c.touch.ensures.after r.0 (touch_cell s.chains.ends.items s.chains.links s.items c.self.invariant c.args.self.now c.self.view_is c.args.chunk r.0 r.1))
