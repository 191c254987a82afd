use Rattle.rev_lead.proofs.Leading.{led_played}
use Rattle.rev_lead.proofs.stage.Stage.play.Goals as goal

pub returns-clause-led : goal.returns-clause-led
returns-clause-led g c =
    led_played _ _ _ c.play_alone.result c.play_alone.ensures.ok c.play_alone.ensures.err
