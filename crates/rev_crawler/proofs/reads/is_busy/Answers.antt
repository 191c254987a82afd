use Rattle.std.proofs.Common.{sym, ◌∙◌, ap, arith, ◌≡◌}
use Rattle.rev_model.specs.Actor.{is_busy}
use Rattle.rev_crawler.proofs.Marking.{class_is, named_class, busy_unnamed, busy_unmarked, busy_found}
use Rattle.rev_crawler.proofs.reads.is_busy.Goals.{else-is_named-via-then-is_named+else-has_mark, else-is_named-via-else-is_named}
use Rattle.rev_crawler.proofs.reads.is_busy.Goals as goal

pub has_mark-requires-clause-class : goal.has_mark-requires-clause-class
has_mark-requires-clause-class g c = class_is c.args.store.now c.loop-class.class (named_class c.args.store.now c.args.set 64 c.loop-class.class c.requires.classes c.loop-class-test.true (sym c.is_named.ensures ∙ c.if-is_named.true))

pub returns-then-has_mark : goal.returns-then-has_mark
returns-then-has_mark g c = sym (busy_found c.args.store.now c.args.set 64 c.loop-class.class c.loop-class-test.true (sym c.is_named.ensures ∙ c.if-is_named.true) (sym c.has_mark.ensures ∙ c.if-has_mark.true))

pub loop-class-preserved : goal.loop-class-preserved
loop-class-preserved g c = elim c.else-is_named.branch [
  | else-is_named-via-then-is_named+else-has_mark w ↦ busy_unmarked c.args.store.now c.args.set c.loop-class.class c.loop-class.invariant (sym w.has_mark.ensures ∙ w.if-has_mark.false)
  | else-is_named-via-else-is_named w ↦ busy_unnamed c.args.store.now c.args.set c.loop-class.class c.loop-class.invariant (sym c.is_named.ensures ∙ w.if-is_named.false)
]

pub returns : goal.returns
returns g c =
    let end : c.loop-class.class ≡ 64 = omega (arith, c.loop-class-test.false, c.loop-class.auto.class-end) in
    sym (ap (λ n. is_busy n c.args.store.now c.args.set) (sym end) ∙ c.loop-class.invariant)
