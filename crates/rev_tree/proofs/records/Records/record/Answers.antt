use Rattle.std.proofs.Common.{rules, ◌<◌, length, map, take, drop, get_or, ap, sym, subst, ◌∙◌, arith}
use Rattle.std.proofs.lemmas.List.{length-map}
use Rattle.rev_inverse.specs.Record.{plain_change, in_order, whole, no_record}
use Rattle.rev_tree.specs.declared.records.Extent.{Extent}
use Rattle.rev_tree.proofs.Cuts.{length-cut, found, part_of}
use Rattle.rev_tree.proofs.records.Records.record.Goals as goal

pub index-extent-requires : goal.index-extent-requires
index-extent-requires g c =
    let es = c.self.inside.extents.items in
    let lt : c.args.i < length es = subst (λ n. c.args.i < n) (ap length (sym c.self.view_is) ∙ length-cut es (map plain_change c.self.inside.changes.items)) c.requires in
    search rules

pub split_at-requires : goal.split_at-requires
split_at-requires g c =
    let es = c.self.inside.extents.items in
    let items = c.self.inside.changes.items in
    let e : Extent = c.index-extent.result.now in
    let lt : c.args.i < length es = subst (λ n. c.args.i < n) (ap length (sym c.self.view_is) ∙ length-cut es (map plain_change items)) c.requires in
    let f = found es items c.args.i e c.self.invariant lt c.index-extent.ensures in
    omega (arith, f.within, length-map items plain_change, ap length c.as_slice.ensures.value)

pub split_at-requires-2 : goal.split_at-requires-2
split_at-requires-2 g c =
    let es = c.self.inside.extents.items in
    let items = c.self.inside.changes.items in
    let e : Extent = c.index-extent.result.now in
    let lt : c.args.i < length es = subst (λ n. c.args.i < n) (ap length (sym c.self.view_is) ∙ length-cut es (map plain_change items)) c.requires in
    let f = found es items c.args.i e c.self.invariant lt c.index-extent.ensures in
    omega (arith, f.within, length-map items plain_change, ap length c.as_slice.ensures.value, c.split_at.ensures.back_len)

pub returns : goal.returns
returns g c =
    let es = c.self.inside.extents.items in
    let items = c.self.inside.changes.items in
    let e : Extent = c.index-extent.result.now in
    let lt : c.args.i < length es = subst (λ n. c.args.i < n) (ap length (sym c.self.view_is) ∙ length-cut es (map plain_change items)) c.requires in
    let f = found es items c.args.i e c.self.invariant lt c.index-extent.ensures in
    c.new.ensures
    ∙ ap (λ l. whole (in_order e.is_turned (map plain_change l))) (c.split_at-2.ensures.front ∙ ap (take e.count) (c.split_at.ensures.back ∙ ap (drop e.start) c.as_slice.ensures.value))
    ∙ ap (λ l. whole (in_order e.is_turned l)) (part_of items e.start e.count)
    ∙ sym f.is
    ∙ ap (λ l. get_or l c.args.i no_record) c.self.view_is
