use Rattle.std.proofs.Common.{rules, ◌≡◌, ◌<◌, ◌≤◌, ◌+◌, length, map, set, get_or, reverse, ap, sym, subst, ◌∙◌, arith}
use Rattle.std.proofs.lemmas.List.{length-map, with_items_is}
use Rattle.rev_model.specs.Move.{Fits, turned}
use Rattle.rev_inverse.specs.Record.{PlainRecord, plain_change, in_order, moves_in, notes_in, no_record}
use Rattle.rev_inverse.proofs.TurningRecord.{length-turned}
use Rattle.rev_tree.specs.declared.records.Extent.{Extent}
use Rattle.rev_tree.specs.Cuts.{cut_by}
use Rattle.rev_tree.proofs.Cuts.{length-cut, found, there, long_part, turns}
use Rattle.rev_tree.proofs.records.Records.turn.Goals as goal

pub index_mut-extent-requires : goal.index_mut-extent-requires
index_mut-extent-requires g c =
    let es = c.self.inside.extents.items in
    let lt : c.args.i < length es = subst (λ n. c.args.i < n) (ap length (sym c.self.view_is) ∙ length-cut es (map plain_change c.self.inside.changes.items)) c.requires.within in
    search rules

pub slice_mut-requires-clause-in_bounds : goal.slice_mut-requires-clause-in_bounds
slice_mut-requires-clause-in_bounds g c =
    let es = c.self.inside.extents.items in
    let items = c.self.inside.changes.items in
    let e : Extent = c.index_mut-extent.result.now in
    let lt : c.args.i < length es = subst (λ n. c.args.i < n) (ap length (sym c.self.view_is) ∙ length-cut es (map plain_change items)) c.requires.within in
    let f = found es items c.args.i e c.self.invariant lt c.index_mut-extent.ensures.value in
    let le : e.start + e.count ≤ length items = omega (arith, f.within, length-map items plain_change) in
    search rules

pub turn_changes-requires-clause-fits : goal.turn_changes-requires-clause-fits
turn_changes-requires-clause-fits g c =
    let es = c.self.inside.extents.items in
    let items = c.self.inside.changes.items in
    let e : Extent = c.index_mut-extent.result.now in
    let lt : c.args.i < length es = subst (λ n. c.args.i < n) (ap length (sym c.self.view_is) ∙ length-cut es (map plain_change items)) c.requires.within in
    let old = ap (λ l. get_or l c.args.i no_record) (sym c.self.view_is) ∙ there es items c.args.i e c.self.invariant lt c.index_mut-extent.ensures.value in
    rw c.slice_mut.ensures.value (subst (λ (r : PlainRecord). Fits r.moves c.args.store.now) old c.requires.fits)

pub invariant_of-self : goal.invariant_of-self
invariant_of-self g c =
    let es = c.self.inside.extents.items in
    let items = c.self.inside.changes.items in
    let e : Extent = c.index_mut-extent.result.now in
    let lt : c.args.i < length es = subst (λ n. c.args.i < n) (ap length (sym c.self.view_is) ∙ length-cut es (map plain_change items)) c.requires.within in
    let few : length c.turn_changes.new.changes ≡ e.count = omega (arith, c.turn_changes.ensures.length, c.slice_mut.ensures.len) in
    let t = turns es items c.args.i e c.turn_changes.new.changes _ c.self.invariant lt c.index_mut-extent.ensures.value few (with_items_is c.self.inside.changes _ (long_part es items c.args.i e c.turn_changes.new.changes c.self.invariant lt c.index_mut-extent.ensures.value few ∙ sym c.self.inside.changes.ok.0)) in
    t.tiles

pub returns-clause-state : goal.returns-clause-state
returns-clause-state g c =
    let es = c.self.inside.extents.items in
    let items = c.self.inside.changes.items in
    let e : Extent = c.index_mut-extent.result.now in
    let lt : c.args.i < length es = subst (λ n. c.args.i < n) (ap length (sym c.self.view_is) ∙ length-cut es (map plain_change items)) c.requires.within in
    let old = ap (λ l. get_or l c.args.i no_record) (sym c.self.view_is) ∙ there es items c.args.i e c.self.invariant lt c.index_mut-extent.ensures.value in
    c.turn_changes.ensures.state
    ∙ ap (λ l. (turned (moves_in (in_order e.is_turned (map plain_change l))) c.args.store.now).0) c.slice_mut.ensures.value
    ∙ ap (λ (r : PlainRecord). (turned r.moves c.args.store.now).0) (sym old)

pub returns-clause-others : goal.returns-clause-others
returns-clause-others g c =
    let es = c.self.inside.extents.items in
    let items = c.self.inside.changes.items in
    let e : Extent = c.index_mut-extent.result.now in
    let lt : c.args.i < length es = subst (λ n. c.args.i < n) (ap length (sym c.self.view_is) ∙ length-cut es (map plain_change items)) c.requires.within in
    let few : length c.turn_changes.new.changes ≡ e.count = omega (arith, c.turn_changes.ensures.length, c.slice_mut.ensures.len) in
    let t = turns es items c.args.i e c.turn_changes.new.changes _ c.self.invariant lt c.index_mut-extent.ensures.value few (with_items_is c.self.inside.changes _ (long_part es items c.args.i e c.turn_changes.new.changes c.self.invariant lt c.index_mut-extent.ensures.value few ∙ sym c.self.inside.changes.ok.0)) in
    rw (← c.self.view_is) (t.all ∙ ap (set (cut_by es (map plain_change items)) c.args.i) (sym t.here))

pub returns-clause-moves : goal.returns-clause-moves
returns-clause-moves g c =
    let es = c.self.inside.extents.items in
    let items = c.self.inside.changes.items in
    let e : Extent = c.index_mut-extent.result.now in
    let lt : c.args.i < length es = subst (λ n. c.args.i < n) (ap length (sym c.self.view_is) ∙ length-cut es (map plain_change items)) c.requires.within in
    let few : length c.turn_changes.new.changes ≡ e.count = omega (arith, c.turn_changes.ensures.length, c.slice_mut.ensures.len) in
    let t = turns es items c.args.i e c.turn_changes.new.changes _ c.self.invariant lt c.index_mut-extent.ensures.value few (with_items_is c.self.inside.changes _ (long_part es items c.args.i e c.turn_changes.new.changes c.self.invariant lt c.index_mut-extent.ensures.value few ∙ sym c.self.inside.changes.ok.0)) in
    let old = ap (λ l. get_or l c.args.i no_record) (sym c.self.view_is) ∙ there es items c.args.i e c.self.invariant lt c.index_mut-extent.ensures.value in
    ap (λ (r : PlainRecord). r.moves) t.here
    ∙ c.turn_changes.ensures.moves
    ∙ ap (λ l. (turned (moves_in (in_order e.is_turned (map plain_change l))) c.args.store.now).1) c.slice_mut.ensures.value
    ∙ ap (λ (r : PlainRecord). (turned r.moves c.args.store.now).1) (sym old)

pub returns-clause-notes : goal.returns-clause-notes
returns-clause-notes g c =
    let es = c.self.inside.extents.items in
    let items = c.self.inside.changes.items in
    let e : Extent = c.index_mut-extent.result.now in
    let lt : c.args.i < length es = subst (λ n. c.args.i < n) (ap length (sym c.self.view_is) ∙ length-cut es (map plain_change items)) c.requires.within in
    let few : length c.turn_changes.new.changes ≡ e.count = omega (arith, c.turn_changes.ensures.length, c.slice_mut.ensures.len) in
    let t = turns es items c.args.i e c.turn_changes.new.changes _ c.self.invariant lt c.index_mut-extent.ensures.value few (with_items_is c.self.inside.changes _ (long_part es items c.args.i e c.turn_changes.new.changes c.self.invariant lt c.index_mut-extent.ensures.value few ∙ sym c.self.inside.changes.ok.0)) in
    let old = ap (λ l. get_or l c.args.i no_record) (sym c.self.view_is) ∙ there es items c.args.i e c.self.invariant lt c.index_mut-extent.ensures.value in
    ap (λ (r : PlainRecord). r.notes) t.here
    ∙ c.turn_changes.ensures.notes
    ∙ ap (λ l. reverse (notes_in (in_order e.is_turned (map plain_change l)))) c.slice_mut.ensures.value
    ∙ ap (λ (r : PlainRecord). reverse r.notes) (sym old)

pub returns-clause-room : goal.returns-clause-room
returns-clause-room g c =
    let es = c.self.inside.extents.items in
    let items = c.self.inside.changes.items in
    let e : Extent = c.index_mut-extent.result.now in
    let lt : c.args.i < length es = subst (λ n. c.args.i < n) (ap length (sym c.self.view_is) ∙ length-cut es (map plain_change items)) c.requires.within in
    let few : length c.turn_changes.new.changes ≡ e.count = omega (arith, c.turn_changes.ensures.length, c.slice_mut.ensures.len) in
    let t = turns es items c.args.i e c.turn_changes.new.changes _ c.self.invariant lt c.index_mut-extent.ensures.value few (with_items_is c.self.inside.changes _ (long_part es items c.args.i e c.turn_changes.new.changes c.self.invariant lt c.index_mut-extent.ensures.value few ∙ sym c.self.inside.changes.ok.0)) in
    let old = ap (λ l. get_or l c.args.i no_record) (sym c.self.view_is) ∙ there es items c.args.i e c.self.invariant lt c.index_mut-extent.ensures.value in
    let was = moves_in (in_order e.is_turned (map plain_change c.slice_mut.result.now)) in
    ap (λ (r : PlainRecord). r.room) t.here
    ∙ ap length c.turn_changes.ensures.moves
    ∙ length-turned was c.args.store.now
    ∙ ap (λ l. length (moves_in (in_order e.is_turned (map plain_change l)))) c.slice_mut.ensures.value
    ∙ ap (λ (r : PlainRecord). r.room) (sym old)
