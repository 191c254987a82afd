use Rattle.std.proofs.Common.{◌≡◌, ◌+◌, ℕ, List, Some, None, Option, nat_le, sym, ◌∙◌, ap}
use Rattle.std.specs.List.{position}
use Rattle.std.specs.Option.{option_map}
use Rattle.rev_classes.specs.Sizes.{class_from}
use Rattle.rev_classes.proofs.Laws.{IsFound, class_of-position, class_from-found}
use Rattle.rev_classes.proofs.ClassTable.class_of.Goals as goal

class_at : (o : Option ℕ) (n i : ℕ) (zs : List ℕ) → o ≡ position (λ z. nat_le n z) zs → o ≡ Some i → Some (i + 1) ≡ class_from 1 zs n
class_at o n i zs e f = ap (λ p. option_map (λ i. i + 1) p) (sym f ∙ e) ∙ sym (class_of-position n zs)

no_class : (o : Option ℕ) (n : ℕ) (zs : List ℕ) → o ≡ position (λ z. nat_le n z) zs → o ≡ None → None ≡ class_from 1 zs n
no_class o n zs e f = ap (λ p. option_map (λ i. i + 1) p) (sym f ∙ e) ∙ sym (class_of-position n zs)

found : (c : goal.In_ok-index) → IsFound 1 c.args.footprint c.args.self.now.sizes (c.in_ok-index.index + 1)
found c = class_from-found 1 c.args.footprint c.args.self.now.sizes (c.in_ok-index.index + 1) (sym (class_at c.index_of.result c.args.footprint c.in_ok-index.index c.args.self.now.sizes c.index_of.ensures.place c.in_ok-index.was))

pub returns-in_err-index-clause-class : goal.returns-in_err-index-clause-class
returns-in_err-index-clause-class c = c.from_residual.ensures ∙ no_class c.index_of.result c.args.footprint c.args.self.now.sizes c.index_of.ensures.place c.in_err-index.was

pub returns-clause-class : goal.returns-clause-class
returns-clause-class c = class_at c.index_of.result c.args.footprint c.in_ok-index.index c.args.self.now.sizes c.index_of.ensures.place c.in_ok-index.was

pub returns-clause-fits : goal.returns-clause-fits
returns-clause-fits c = (found c).fits
