use Rattle.std.proofs.Common.{sym, ◌∙◌}
use Rattle.std.proofs.lemmas.Bool.{eqb-true}
use Rattle.std.proofs.lemmas.List.{nil_from_length}
use Rattle.rev_watch.proofs.KeyLemmas.{none_decoded, byte_decoded, all_decoded, more_decoded}
use Rattle.rev_watch.proofs.key.decode.Goals as goal

pub front-init : goal.front-init
front-init c = none_decoded _ _ c.requires

pub returns-in_default-clause-all : goal.returns-in_default-clause-all
returns-in_default-clause-all c done =
    all_decoded c.args.text.now c.front.bytes.items c.front.rest.now c.front.invariant (nil_from_length c.front.rest.now c.in_default.ensures.cases)

pub returns-then-is_full-clause-none : goal.returns-then-is_full-clause-none
returns-then-is_full-clause-none c fails encoded =
    more_decoded c.args.text.now c.front.bytes.items c.front.rest.now c.in-Some.behind.now c.in-Some.first.now c.front.invariant c.in-Some.ensures.cases.0
    (eqb-true _ _ (sym c.is_full.ensures.value ∙ c.if-is_full.true))

pub front-preserved : goal.front-preserved
front-preserved c =
    byte_decoded c.args.text.now c.front.bytes.items c.front.rest.now c.push-else-first-eq37.new.self.items c.in-Some.behind.now c.in-Some.first.now
    c.front.invariant c.in-Some.ensures.cases.0 c.if-first-eq37.false c.push-else-first-eq37.ensures.items
