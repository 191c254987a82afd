use Rattle.std.proofs.Common.{◌+◌, ◌<◌, ◌++◌, ◌∙◌, refl, sym, ap, arith, map, drop, length}
use Rattle.std.specs.List.{concat}
use Rattle.rev_output.specs.Sink as failures
use Rattle.rev_messages.proofs.Parts.{concat-next, none_yet, one_more, told_front}
use Rattle.rev_messages.proofs.telling.tell_parts.Goals as goal

pub loop-part-init : goal.loop-part-init
loop-part-init g c = record { so_far = none_yet (λ p. p.now) c.args.parts.now _; none_failed = refl }

pub loop-part-preserved : goal.loop-part-preserved
loop-part-preserved g c =
    let lt : c.loop-part.part-index < length c.args.parts.now = omega (arith, c.loop-part-test.true) in
    record {
      so_far =
          one_more _ _ _ _ _ _ _ c.loop-part.invariant.so_far
          (concat-next (λ p. p.now) c.args.parts.now c.loop-part.part-index _ lt
          ∙ ap (λ l. l ++ concat (map (λ p. p.now) (drop (c.loop-part.part-index + 1) c.args.parts.now))) (sym c.as_bytes.ensures.value))
          c.in_ok-write_all.ensures.ok.0;
      none_failed = c.in_ok-write_all.ensures.ok.1 ∙ c.loop-part.invariant.none_failed;
    }

pub returns-in_err-write_all-clause-told : goal.returns-in_err-write_all-clause-told
returns-in_err-write_all-clause-told g c =
    let lt : c.loop-part.part-index < length c.args.parts.now = omega (arith, c.loop-part-test.true) in
    told_front _ _ _ _ _ _ _ _ _ c.loop-part.invariant.so_far
    (concat-next (λ p. p.now) c.args.parts.now c.loop-part.part-index _ lt
    ∙ ap (λ l. l ++ concat (map (λ p. p.now) (drop (c.loop-part.part-index + 1) c.args.parts.now))) (sym c.as_bytes.ensures.value))
    c.in_err-write_all.ensures.err.0 (c.in_err-write_all.ensures.err.1 ∙ ap failures.one_more c.loop-part.invariant.none_failed)
