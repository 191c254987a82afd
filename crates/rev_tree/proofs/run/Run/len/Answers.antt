use Rattle.std.proofs.Common.{◌≡◌, length, ap, sym, ◌∙◌, arith}
use Rattle.rev_tree.proofs.Runs.{length_nodes}
use Rattle.rev_tree.proofs.run.Run.len.Goals as goal

pub returns-clause-value : goal.returns-clause-value
returns-clause-value g c =
    let i = c.self.inside in
    c.len.ensures ∙ i.heads.ok.0 ∙ sym (length_nodes i.heads.items i.records c.self.invariant) ∙ ap length c.self.view_is

pub returns-clause-small : goal.returns-clause-small
returns-clause-small g c =
    let i = c.self.inside in
    let n : length c.args.self.now ≡ length i.heads.items = ap length (sym c.self.view_is) ∙ length_nodes i.heads.items i.records c.self.invariant in
    let l = i.heads.ok.0 in
    let m = i.heads.ok.1 in
    let s = i.heads.small in
    omega (arith, n, l, m, s)
