use Rattle.std.proofs.Common.{◌≡◌, ◌∙◌, ap, rules}
use Rattle.rev_plays.specs.Replies.{state_of}
use Rattle.rev_plays.proofs.Tracing.{through_told}
use Rattle.rev_rules.specs.Rules.{RulesState, behind, Went}
use Rattle.rev_rules.proofs.Going.{behind_all, fresh_again}
use Rattle.rev_rules.proofs.rules.Rules.take_script.Goals as goal

pub play_lines-played-requires-clause-fresh : goal.play_lines-played-requires-clause-fresh
play_lines-played-requires-clause-fresh g c = fresh_again c.restart.new.self (state_of c.self.inside.session) c.restart.ensures

pub returns-in-Ok-clause-ok : goal.returns-in-Ok-clause-ok
returns-in-Ok-clause-ok g c =
    let n = c.self.inside.steps in
    let first : RulesState = record { session = c.self.inside.session; steps = n } in
    let gone : RulesState = record { session = c.restart.new.self; steps = n } in
    let l = rw c.of-lines.ensures at c.in-Ok.ensures.ok in
    let m = rw (← c.into_source-reader.ensures) at l in
    let t =
    through_told (λ steps. Went gone steps c.play_lines-played.new.self) (λ steps. c.play_lines-played.new.self ≡ behind c.args.self.now steps) (g.S.Source.told c.args.reader.now) (g.S.Source.told c.into_source-reader.result.now) _ _ m
    (λ steps p. behind_all first gone c.play_lines-played.new.self steps (ap (λ s. record { session = s; steps = n }) c.restart.ensures) p c.in-Ok.ensures.fresh ∙ ap (λ r. behind r steps) c.self.view_is) in
    search rules
