use Rattle.std.proofs.Common.{◌≡◌, length, get_or, slice_set, refl, ap, subst}
use Rattle.std.proofs.lemmas.Option.{slice_get_read}
use Rattle.rev_links.proofs.cells.Cells.edit.Goals as goal

pub returns : goal.returns
returns g c =
    let is = c.self.view_is in (
      (refl, λ w. ap (λ xs. slice_set xs c.args.at w) is),
      record {
        writes_back = tt;
        value = slice_get_read c.args.self.now (length c.args.self.now) c.args.at c.index_mut.result.now refl c.requires (subst (λ xs. c.index_mut.result.now ≡ get_or xs c.args.at c.index_mut.result.now) is c.index_mut.ensures.value);
        cost = c.tick_by.ensures;
      },
    )
