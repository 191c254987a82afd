use Rattle.std.proofs.Common.{rules, ◌≡◌, ◌<◌, ◌≤◌, ◌∙◌, ap, arith, length, subst, slice_index_or, MatchOption}
use Rattle.rev_inverse.proofs.Lists.{found}
use Rattle.rev_inverse.specs.Record.{PlainRecord, plain_change, place_in}
use Rattle.rev_inverse.proofs.record.Record.change.Goals as goal

pub returns : goal.returns
returns g c =
    let items = c.self.inside.moves.items in
    let turned = c.self.inside.is_turned in
    let at = c.place_of.result in
    let whole : c.deref.result.now ≡ items = c.deref.ensures.value in
    let n : c.len-count.result ≡ length items = search rules in
    let is : at ≡ place_in turned c.args.i (length items) = c.place_of.ensures.place ∙ ap (place_in turned c.args.i) n in
    let lt : c.args.i < length items = omega (arith, c.if-i-count.false, n) in
    let there : at < length items = omega (arith, c.place_of.ensures.within, n) in
    subst (λ (r : PlainRecord). MatchOption c.get.result (length r.changes ≤ c.args.i) (λ m. (c.args.i < length r.changes) × (plain_change m.now ≡ slice_index_or r.changes c.args.i (plain_change m.now)))) c.self.view_is
    (found turned items c.args.i at c.get.result lt there is (rw whole at c.get.ensures.lookup.0) (rw whole at c.get.ensures.lookup.1))
