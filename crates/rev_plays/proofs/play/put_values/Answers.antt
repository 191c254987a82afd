use Rattle.std.proofs.lemmas.Grind.{common_steps}
use Rattle.std.proofs.Common.{◌∙◌, ap, arith}
use Rattle.std.proofs.lemmas.Result.{on_ok_weaker, IfOk-from_err}
use Rattle.rev_plays.specs.Replies.{state_of, or_refused, value_of, if_played}
use Rattle.rev_plays.specs.declared.play.Reply.{Reply}
use Rattle.rev_plays.proofs.Plays.{refused_values, refused_gets, played_values, played_gets}
use Rattle.rev_plays.proofs.play.put_values.Goals as goal

pub returns-in-TooManyNodes-clause-text : goal.returns-in-TooManyNodes-clause-text
returns-in-TooManyNodes-clause-text g c =
    let s = c.loop-key.session in
    let is = c.in-TooManyNodes.is in
    let got = c.in_ok-get_one.ensures in
    on_ok_weaker c.put_output.result
    (λ p. p ∙ refused_values c.args.with_cas s c.loop-key.answer.items _ _ _ c.in-Some.key _ _ c.in_ok-get_one.field-0
    (ap (λ (r : Reply). value_of c.args.with_cas r (state_of s) c.in-Some.key) is) (λ later. ap (λ (r : Reply). or_refused r later) is) got.reply got.text c.in-Some.ensures.steps.0 c.loop-key.invariant.text)
    c.put_output.ensures

pub returns-in-TooDeep-clause-text : goal.returns-in-TooDeep-clause-text
returns-in-TooDeep-clause-text g c =
    let s = c.loop-key.session in
    let is = c.in-TooDeep.is in
    let got = c.in_ok-get_one.ensures in
    on_ok_weaker c.put_output-in-TooDeep.result
    (λ p. p ∙ refused_values c.args.with_cas s c.loop-key.answer.items _ _ _ c.in-Some.key _ _ c.in_ok-get_one.field-0
    (ap (λ (r : Reply). value_of c.args.with_cas r (state_of s) c.in-Some.key) is) (λ later. ap (λ (r : Reply). or_refused r later) is) got.reply got.text c.in-Some.ensures.steps.0 c.loop-key.invariant.text)
    c.put_output-in-TooDeep.ensures

pub returns-clause-text : goal.returns-clause-text
returns-clause-text g c = grind (arith, common_steps)

pub returns-in_err-get_one-clause-text : goal.returns-in_err-get_one-clause-text
returns-in_err-get_one-clause-text g c = IfOk-from_err c.from_residual.result _ c.from_residual.ensures.0

pub returns-in_err-get_one-clause-session : goal.returns-in_err-get_one-clause-session
returns-in_err-get_one-clause-session g c = IfOk-from_err c.from_residual.result _ c.from_residual.ensures.0

pub returns-in-TooManyNodes-clause-session : goal.returns-in-TooManyNodes-clause-session
returns-in-TooManyNodes-clause-session g c =
    let got = c.in_ok-get_one.ensures in
    on_ok_weaker c.put_output.result
    (λ p. refused_gets c.loop-key.session c.get_one.new.session _ c.in-Some.key _ _ c.in_ok-get_one.field-0
    (λ a b. ap (λ (r : Reply). if_played r a b) c.in-TooManyNodes.is) got.reply got.session c.in-Some.ensures.steps.0 c.loop-key.invariant.session)
    c.put_output.ensures

pub returns-in-TooDeep-clause-session : goal.returns-in-TooDeep-clause-session
returns-in-TooDeep-clause-session g c =
    let got = c.in_ok-get_one.ensures in
    on_ok_weaker c.put_output-in-TooDeep.result
    (λ p. refused_gets c.loop-key.session c.get_one.new.session _ c.in-Some.key _ _ c.in_ok-get_one.field-0
    (λ a b. ap (λ (r : Reply). if_played r a b) c.in-TooDeep.is) got.reply got.session c.in-Some.ensures.steps.0 c.loop-key.invariant.session)
    c.put_output-in-TooDeep.ensures

pub loop-key-preserved : goal.loop-key-preserved
loop-key-preserved g c =
    let got = c.in_ok-get_one.ensures in
    record {
      text = played_values c.args.with_cas c.loop-key.session c.get_one.new.session c.loop-key.answer.items c.get_one.new.answer.items _ c.in-Some.key _ _ c.in_ok-get_one.field-0
          (λ later. ap (λ (r : Reply). or_refused r later) c.in-Played.is) got.reply got.session got.text c.in-Some.ensures.steps.0 c.loop-key.invariant.text;
      session = played_gets c.loop-key.session c.get_one.new.session _ c.in-Some.key _ _ c.in_ok-get_one.field-0
          (λ a b. ap (λ (r : Reply). if_played r a b) c.in-Played.is) got.reply got.session c.in-Some.ensures.steps.0 c.loop-key.invariant.session;
    }
