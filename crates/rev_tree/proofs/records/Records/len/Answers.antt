use Rattle.std.proofs.Common.{rules, ◌≡◌, ◌<◌, length, map, sym, ◌∙◌, subst}
use Rattle.rev_inverse.specs.Record.{plain_change}
use Rattle.rev_tree.proofs.Cuts.{length-cut}
use Rattle.rev_tree.proofs.records.Records.len.Goals as goal

pub returns-clause-value : goal.returns-clause-value
returns-clause-value g c =
    let e : c.len.result ≡ length c.self.inside.extents.items = search rules in
    rw (← c.self.view_is) (e ∙ sym (length-cut c.self.inside.extents.items (map plain_change c.self.inside.changes.items)))

pub returns-clause-small : goal.returns-clause-small
returns-clause-small g c =
    let s : length c.self.inside.extents.items < 9223372036854775808 = search rules in
    rw (← c.self.view_is) (subst (λ n. n < 9223372036854775808) (sym (length-cut c.self.inside.extents.items (map plain_change c.self.inside.changes.items))) s)
