use Rattle.std.proofs.Common.{◌≡◌, true, IfSome, nat_eq, subst}
use Rattle.std.specs.List.{starts_with}
use Rattle.rev_life.proofs.filter.Filter.passes.Goals as goal

pub returns-then-to : goal.returns-then-to
returns-then-to g c = (
  λ t. record {
    class = c.is_class-class.ensures.0 c.if-to.true.0;
    reason = c.is_reason-reason.ensures.0 c.if-to.true.1;
    prefix = subst (λ k. IfSome c.args.self.now.prefix (λ p. starts_with nat_eq k p.now ≡ true)) c.bytes.ensures.same
        (c.begins-prefix.ensures.0 c.if-to.true.2);
    from = c.is_from-from.ensures.0 c.if-to.true.3;
    to = c.is_up_to-to.ensures.0 c.if-to.true.4;
    life = c.is_life-life.ensures.0 t;
  },
  λ p. c.is_life-life.ensures.1 p.life,
)
