use Rattle.std.proofs.Common.{rules, ◌≡◌, [], ◌∷◌, map, true, false, length, subst, arith}
use Rattle.std.proofs.lemmas.List.{nil_from_length}
use Rattle.rev_script.specs.Steps.{get}
use Rattle.rev_rules.specs.Grown.{GoesOn, Fills}
use Rattle.rev_rules.proofs.Keeping.{goes_none, goes_more, fills_more, fills_front}
use Rattle.rev_rules.proofs.grown.Growing.play_gets.Goals as goal

pub loop-key-init : goal.loop-key-init
loop-key-init g c =
    let same : c.into_iter-key-iterator.result.rest.items ≡ c.args.keys.items = search rules in
    record {
      goes = λ t p. subst (λ xs. GoesOn c.args.self.now (map get xs) t) same p;
      fills = λ t p. subst (λ xs. Fills c.args.self.now (map get xs) t) same p;
    }

pub returns-then-not-branch : goal.returns-then-not-branch
returns-then-not-branch g c =
    let e : c.loop-key.key-iterator.rest.items ≡ c.in-Some.key ∷ c.next.new.self.rest.items = c.in-Some.ensures.steps.0 in
    let none : c.in_ok-play_step.field-0 ≡ false = search rules in
    let f = rw none at (rw c.get_step.ensures at c.in_ok-play_step.ensures) in
    c.loop-key.invariant.fills c.play_step.new.self (rw e (fills_front c.loop-key.self c.play_step.new.self (get c.in-Some.key ∷ []) (map get c.next.new.self.rest.items) f))

pub loop-key-preserved : goal.loop-key-preserved
loop-key-preserved g c =
    let e : c.loop-key.key-iterator.rest.items ≡ c.in-Some.key ∷ c.next.new.self.rest.items = c.in-Some.ensures.steps.0 in
    let one : c.in_ok-play_step.field-0 ≡ true = search rules in
    let p = rw one at (rw c.get_step.ensures at c.in_ok-play_step.ensures) in
    record {
      goes = λ t q. c.loop-key.invariant.goes t (rw e (goes_more c.loop-key.self c.play_step.new.self t (get c.in-Some.key ∷ []) (map get c.next.new.self.rest.items) p q));
      fills = λ t q. c.loop-key.invariant.fills t (rw e (fills_more c.loop-key.self c.play_step.new.self t (get c.in-Some.key ∷ []) (map get c.next.new.self.rest.items) p q));
    }

pub returns : goal.returns
returns g c =
    let over : length c.loop-key.key-iterator.rest.items ≡ 0 = omega (arith, c.in-None.ensures.steps.0, c.loop-key.key-iterator.rest.ok) in
    let none : c.loop-key.key-iterator.rest.items ≡ [] = nil_from_length _ over in
    c.loop-key.invariant.goes c.loop-key.self (rw none (goes_none c.loop-key.self))
