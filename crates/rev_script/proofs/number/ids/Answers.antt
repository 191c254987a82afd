use Rattle.std.proofs.Common.{◌==◌, ◌+◌, ◌-◌, ◌^◌, ◌*◌, ◌%◌, length, take, drop, sym, ◌∙◌, ap, arith, take_all, bit_or, length-drop, length-take}
use Rattle.std.proofs.lemmas.List.{take_rest}
use Rattle.std.specs.List.{slice_split, fold}
use Rattle.rev_script.specs.Number.{with_id}
use Rattle.rev_script.proofs.Places.{ids_last, ids_next, with_bit}
use Rattle.rev_script.proofs.number.ids.Goals as goal

pub returns-then-p-rest : goal.returns-then-p-rest
returns-then-p-rest c =
    let r = c.parts.rest.now in
    let p = c.place_of-p.result in
    with_bit c.parts.set c.id_of.result (take p r) c.id_of.ensures.value c.id_of.ensures.bound
    ∙ ap (λ w. with_id c.parts.set w) (take_all p r c.if-p-rest.true)
    ∙ sym (ids_last c.parts.set p r c.if-p-rest.true c.place_of-p.ensures.has)
    ∙ c.parts.invariant.1

pub parts-preserved : goal.parts-preserved
parts-preserved c =
    let r = c.parts.rest.now in
    let p = c.place_of-p.result in (
      omega (arith, length-take (length r - (p + 1)) (drop (p + 1) r), length-drop (p + 1) r, c.parts.invariant.0),
      ap (λ t. fold with_id (bit_or c.parts.set ((1 * 2 ^ c.id_of.result) % 18446744073709551616)) (slice_split (λ b. b == 44) t)) (take_rest r (p + 1))
          ∙ ap (λ s. fold with_id s (slice_split (λ b. b == 44) (drop (p + 1) r))) (with_bit c.parts.set c.id_of.result (take p r) c.id_of.ensures.value c.id_of.ensures.bound)
          ∙ ids_next c.parts.set p r c.if-p-rest.false c.place_of-p.ensures.has c.place_of-p.ensures.before c.place_of-p.ensures.after
          ∙ c.parts.invariant.1,
    )
