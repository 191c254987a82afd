use Rattle.std.proofs.Common.{◌∙◌, arith}
use Rattle.std.proofs.lemmas.Bool.{le-ltb}
use Rattle.rev_pages.proofs.Giving.{owns_counted, owns_past}
use Rattle.rev_pages.proofs.pages.Pages.owns_page.Goals as goal

pub returns-then-class-len : goal.returns-then-class-len
returns-then-class-len g c =
    let s = c.self.inside in
    let l = c.if-class-len.true in
    owns_counted s.owners.items s.made s.owned.items s.table.ends s.table.links c.self.invariant c.args.self.now c.self.view_is c.args.class _ (omega (arith, l, s.owned.ok.0, c.len.ensures)) c.index.ensures

pub returns-else-class-len : goal.returns-else-class-len
returns-else-class-len g c =
    let s = c.self.inside in
    let l = c.if-class-len.false in
    le-ltb c.args.class c.len.result l
    ∙ owns_past s.owners.items s.made s.owned.items s.table.ends s.table.links c.self.invariant c.args.self.now c.self.view_is c.args.class (omega (arith, l, s.owned.ok.0, c.len.ensures))
