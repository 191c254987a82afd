use Rattle.std.proofs.Common.{sym, ◌∙◌, ap, arith, ◌≡◌}
use Rattle.rev_model.specs.Move.{names_other}
use Rattle.rev_crawler.proofs.Marking.{other_unnamed, other_class, other_found}
use Rattle.rev_crawler.proofs.reads.names_other.Goals.{else-is_named-via-then-is_named+else-not-is_class, else-is_named-via-else-is_named}
use Rattle.rev_crawler.proofs.reads.names_other.Goals as goal

pub returns-then-not-is_class : goal.returns-then-not-is_class
returns-then-not-is_class g c = sym (other_found c.args.store.now c.args.set 64 c.loop-class.class c.loop-class-test.true (sym c.is_named.ensures ∙ c.if-is_named.true) (sym c.is_class.ensures ∙ c.if-not-is_class.true))

pub loop-class-preserved : goal.loop-class-preserved
loop-class-preserved g c = elim c.else-is_named.branch [
  | else-is_named-via-then-is_named+else-not-is_class w ↦ other_class c.args.store.now c.args.set c.loop-class.class c.loop-class.invariant (sym w.is_class.ensures ∙ w.if-not-is_class.false)
  | else-is_named-via-else-is_named w ↦ other_unnamed c.args.store.now c.args.set c.loop-class.class c.loop-class.invariant (sym c.is_named.ensures ∙ w.if-is_named.false)
]

pub returns : goal.returns
returns g c =
    let end : c.loop-class.class ≡ 64 = omega (arith, c.loop-class-test.false, c.loop-class.auto.class-end) in
    sym (ap (λ n. names_other n c.args.store.now c.args.set) (sym end) ∙ c.loop-class.invariant)
