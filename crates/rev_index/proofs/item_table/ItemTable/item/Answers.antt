use Rattle.std.proofs.Common.{◌∙◌, ap}
use Rattle.std.specs.Option.{option_copied}
use Rattle.rev_index.proofs.ItemTables.{no_slot, slot_holds}
use Rattle.rev_index.proofs.item_table.ItemTable.item.Goals as goal

pub returns-in_err-get-2 : goal.returns-in_err-get-2
returns-in_err-get-2 g c =
    let page = c.in_ok-get.ensures.lookup.3 in
    let slot = c.in_err-get-2.ensures.lookup.3 in
    ap option_copied c.from_residual-in_err-get-2.ensures
    ∙ no_slot (λ v. v.items) c.self.inside.pages.items c.args.self.now c.self.view_is c.deref.result.now c.deref.ensures.value c.args.chunk.page c.from.result c.from.ensures
    c.in_ok-get.field-0.now page.0 page.1 c.in_ok-items.items.now c.in_ok-items.ensures.value c.deref-2.result.now c.deref-2.ensures.value c.args.chunk.slot c.from-2.result c.from-2.ensures slot

pub returns : goal.returns
returns g c =
    let page = c.in_ok-get.ensures.lookup.3 in
    let slot = c.in_ok-get-2.ensures.lookup.3 in
    c.as_ref-2.ensures.value
    ∙ slot_holds (λ v. v.items) c.self.inside.pages.items c.args.self.now c.self.view_is c.deref.result.now c.deref.ensures.value c.args.chunk.page c.from.result c.from.ensures
    c.in_ok-get.field-0.now page.0 page.1 c.in_ok-items.items.now c.in_ok-items.ensures.value c.deref-2.result.now c.deref-2.ensures.value c.args.chunk.slot c.from-2.result c.from-2.ensures
    c.in_ok-get-2.field-0.now slot.1
