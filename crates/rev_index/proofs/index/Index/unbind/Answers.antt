use Rattle.rev_index.proofs.Moves.{unbind_between, unbind_chained, unbind_value}
use Rattle.rev_index.proofs.index.Index.unbind.Goals as goal

pub remove-requires : goal.remove-requires
remove-requires g c =
    let s = c.self.inside in
    let r = c.requires in
    unbind_between s.chains.ends.items s.chains.links s.items c.self.invariant c.args.self.now c.self.view_is c.args.chunk r.0 r.1 r.2

pub invariant_of-self : goal.invariant_of-self
invariant_of-self g c =
    let s = c.self.inside in
    let r = c.requires in
    unbind_chained s.chains.ends.items s.chains.links s.items c.self.invariant c.args.self.now c.self.view_is c.args.chunk r.0 r.1 r.2 _ _ c.remove.ensures.shape c.remove.ensures.value

pub returns : goal.returns
returns g c =
    let s = c.self.inside in
    let r = c.requires in
    unbind_value s.chains.ends.items s.chains.links s.items c.self.invariant c.args.self.now c.self.view_is c.args.chunk r.0 r.1 r.2 _ _ c.remove.ensures.shape c.remove.ensures.value
