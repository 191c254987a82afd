use Rattle.std.proofs.Common.{◌≡◌, arith, refl, Some, IsSome, sym, ◌∙◌, ap, subst}
use Rattle.rev_links.proofs.Grids.{within_at, read_at, written_at}
use Rattle.rev_index.proofs.item_table.ItemTable.touch.Goals as goal

pub index_mut-requires-in-Some : goal.index_mut-requires-in-Some
index_mut-requires-in-Some g c =
    let t = subst IsSome (sym c.requires.1) refl in
    let l = within_at c.self.inside.pages.items (λ v. v.items) c.args.self.now c.self.view_is c.args.chunk.page c.args.chunk.slot c.from.result c.from-in-Some.result c.from.ensures c.from-in-Some.ensures t _ c.index_mut.ensures.value c.in-Some.items c.in-Some.is in
    omega (arith, l, c.in-Some.items.ok.0)

pub unreachable-requires : goal.unreachable-requires
unreachable-requires g c =
    let t = subst IsSome (sym c.requires.1) refl in
    let k = read_at c.self.inside.pages.items (λ v. v.items) c.args.self.now c.self.view_is c.args.chunk.page c.args.chunk.slot c.from.result c.from-in-Some.result c.from.ensures c.from-in-Some.ensures t _ c.index_mut.ensures.value c.in-Some.items c.in-Some.is _ c.index_mut-in-Some.ensures.value in
    let w = sym c.requires.1 ∙ (k ∙ ap Some c.in-None-index_mut.is) in
    cc

pub returns-clause-before : goal.returns-clause-before
returns-clause-before g c i e =
    let t = subst IsSome (sym c.requires.1) refl in
    let k = read_at c.self.inside.pages.items (λ v. v.items) c.args.self.now c.self.view_is c.args.chunk.page c.args.chunk.slot c.from.result c.from-in-Some.result c.from.ensures c.from-in-Some.ensures t _ c.index_mut.ensures.value c.in-Some.items c.in-Some.is _ c.index_mut-in-Some.ensures.value in
    let w = sym e ∙ (k ∙ ap Some c.in-Some-index_mut.is) in
    let same : i ≡ c.in-Some-index_mut.item = cc in
    rw (c.touch-time.ensures.old, same) refl

pub returns-clause-after : goal.returns-clause-after
returns-clause-after g c i e =
    let t = subst IsSome (sym c.requires.1) refl in
    let k = read_at c.self.inside.pages.items (λ v. v.items) c.args.self.now c.self.view_is c.args.chunk.page c.args.chunk.slot c.from.result c.from-in-Some.result c.from.ensures c.from-in-Some.ensures t _ c.index_mut.ensures.value c.in-Some.items c.in-Some.is _ c.index_mut-in-Some.ensures.value in
    let w = sym e ∙ (k ∙ ap Some c.in-Some-index_mut.is) in
    let same : i ≡ c.in-Some-index_mut.item = cc in
    rw (c.touch-time.ensures.new, same) (written_at c.self.inside.pages.items (λ v. v.items) c.args.self.now c.self.view_is c.args.chunk.page c.args.chunk.slot c.from.result c.from-in-Some.result c.from.ensures c.from-in-Some.ensures t _ c.index_mut.ensures.value c.in-Some.items c.in-Some.is _ _ refl)
