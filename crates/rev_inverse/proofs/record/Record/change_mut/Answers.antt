use Rattle.std.proofs.Common.{rules, ◌≡◌, ◌+◌, ◌-◌, ◌<◌, ◌≤◌, ap, map, sym, ◌∙◌, arith, refl, length, slice_set, subst}
use Rattle.std.proofs.lemmas.List.{length-map}
use Rattle.rev_inverse.proofs.Lists.{length-in_order, shown, written}
use Rattle.rev_inverse.specs.Record.{PlainRecord, plain_change, in_order, place_in, moves_in, notes_in}
use Rattle.rev_inverse.proofs.record.Record.change_mut.Goals as goal

pub returns : goal.returns
returns g c =
    let items = c.self.inside.moves.items in
    let turned = c.self.inside.is_turned in
    let spare = c.self.inside.spare in
    let at = c.place_of-at.result in
    let changes = in_order turned (map plain_change items) in
    let long = length (moves_in changes) in
    let few : long ≤ long + spare = omega arith in
    let rest : spare ≡ (long + spare) - long = omega arith in
    let there : c.args.place < length changes = subst (λ (r : PlainRecord). c.args.place < length r.changes) (sym c.self.view_is) c.requires in
    let n : c.len.result ≡ length items = search rules in
    let place : at ≡ place_in turned c.args.place (length items) = c.place_of-at.ensures.place ∙ ap (place_in turned c.args.place) n in
    let lt : c.args.place < length items = omega (arith, there, length-in_order turned (map plain_change items), length-map items plain_change) in (
      (
        refl,
        λ w. let e = written turned items c.args.place at w lt place in rw (← c.self.view_is) (λ i. record {
          moves = ap moves_in e i;
          notes = ap notes_in e i;
          room = (ap (λ n. length (moves_in (in_order turned (map plain_change (slice_set items at w)))) + n) rest ∙ ap (λ l. length (moves_in l) + ((long + spare) - long)) e) i;
          changes = e i;
        }),
      ),
      record {
        writes_back = tt;
        room = subst (λ (r : PlainRecord). length r.moves ≤ r.room) c.self.view_is few;
        value = rw (← c.self.view_is) (shown turned items c.args.place at c.index_mut.result.now lt place c.index_mut.ensures.value);
      },
    )
