use Rattle.std.proofs.Common.{rules, ◌≡◌, ◌+◌, ◌++◌, ◌∷◌, [], false, length, map, ap, refl, subst, arith}
use Rattle.std.proofs.lemmas.List.{length-map, length-append}
use Rattle.rev_inverse.specs.Record.{plain_change}
use Rattle.rev_tree.specs.declared.records.Extent.{Extent}
use Rattle.rev_tree.specs.Cuts.{Tiles}
use Rattle.rev_tree.proofs.Cuts.{tiles_more, pushed}
use Rattle.rev_tree.proofs.records.Records.push.Goals as goal

pub invariant_of-self-2 : goal.invariant_of-self-2
invariant_of-self-2 g c =
    let old = c.self.inside.changes.items in
    let start : c.in-Ok.start ≡ length old = search rules in
    let count : c.in-Ok-try_from.count ≡ length c.args.undo.now.changes = search rules in
    let e : Extent = record { start = c.in-Ok.start; count = c.in-Ok-try_from.count; is_turned = false } in
    let items : c.push.new.self.items ≡ c.self.inside.extents.items ++ e ∷ [] = search rules in
    let changes : map plain_change c.append_to.new.list.items ≡ map plain_change old ++ c.args.undo.now.changes = c.in_ok-append_to.ensures.ok in
    let long : length old + e.count ≡ length c.append_to.new.list.items = omega (
      arith,
      count,
      ap length changes,
      length-map old plain_change,
      length-map c.append_to.new.list.items plain_change,
      length-append (map plain_change old) c.args.undo.now.changes,
    ) in
    rw items (subst (λ n. Tiles 0 (c.self.inside.extents.items ++ e ∷ []) n) long (tiles_more 0 c.self.inside.extents.items (length old) e c.self.invariant start))

pub returns-clause-ok : goal.returns-clause-ok
returns-clause-ok g c =
    let count : c.in-Ok-try_from.count ≡ length c.args.undo.now.changes = search rules in
    let e : Extent = record { start = c.in-Ok.start; count = c.in-Ok-try_from.count; is_turned = false } in
    let items : c.push.new.self.items ≡ c.self.inside.extents.items ++ e ∷ [] = search rules in
    rw (items, c.in_ok-append_to.ensures.ok, ← c.self.view_is)
    (pushed c.self.inside.extents.items c.self.inside.changes.items c.args.undo.now e c.self.invariant c.len-2.ensures.whole count refl)
