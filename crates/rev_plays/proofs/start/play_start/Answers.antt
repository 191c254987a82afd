use Rattle.std.proofs.Common.{◌≡◌, sym, ◌∙◌, ap, rules}
use Rattle.rev_plays.specs.Replies.{state_of}
use Rattle.rev_plays.specs.Start.{from_state, run_forward}
use Rattle.rev_plays.proofs.Starting.{fresh_state}
use Rattle.rev_plays.proofs.Tracing.{through_told}
use Rattle.rev_plays.proofs.start.play_start.Goals as goal

pub returns-in-Ok-played-clause-ok : goal.returns-in-Ok-played-clause-ok
returns-in-Ok-played-clause-ok g c =
    let l = rw c.of-lines.ensures at c.in-Ok-played.ensures.ok in
    let m = rw (← c.into_source-reader.ensures) at l in
    let t =
    through_told _ (λ steps. c.restart-2.new.self ≡ from_state (run_forward (state_of c.args.session.now) steps)) (g.S.Source.told c.args.reader.now) (g.S.Source.told c.into_source-reader.result.now) _ _ m
    (λ steps p. c.restart-2.ensures ∙ ap from_state (p ∙ ap (λ s. run_forward s steps) (fresh_state c.restart.new.self _ c.restart.ensures))) in
    search rules
