use Rattle.std.proofs.Common.{ℕ, zero, suc, ◌≡◌, ◌<◌, List, [], ◌∷◌, Some, length, get_or, slice_get, sym, ap, arith}
use Rattle.rev_tree.specs.declared.links.Entry.{Entry}
use Rattle.rev_tree.proofs.Logs.{entry_holds}
use Rattle.rev_tree.proofs.mentions.Mentions.says.Goals as goal

got : (es : List Entry) (i : ℕ) (x : Entry) → i < length es → x ≡ get_or es i x → slice_get es i ≡ Some x
got [] i x l e = absurd (omega (arith, l))
got (y ∷ ys) zero x l e = ap Some (sym e)
got (y ∷ ys) (suc i) x l e = got ys i x (omega (arith, l)) e

pub returns-in-Some : goal.returns-in-Some
returns-in-Some g c =
    let x = c.in-Some.entry.now in
    let l = c.in-Some.ensures.lookup in
    entry_holds c.self.inside.entries.items c.deref.result.now c.args.self.now c.args.at x c.mention.result c.args.hash c.args.node c.eq.result
    c.deref.ensures.value c.self.view_is (got c.deref.result.now c.args.at x l.3.0 l.1) c.mention.ensures c.eq.ensures
