use Rattle.std.proofs.Common.{◌≡◌, List, ap, map, ◌∙◌}
use Rattle.std.proofs.lemmas.Result.{IfOk-weaker}
use Rattle.rev_classes.specs.declared.Config.{Config}
use Rattle.rev_model.specs.Actor.{Step}
use Rattle.rev_whatif.specs.Trials.{courses_of, trial_by, trial_of}
use Rattle.rev_whatif.specs.declared.setting.Setting.{Setting}
use Rattle.rev_whatif.proofs.Feeding.{courses_told}
use Rattle.rev_whatif.proofs.course.Trials.told.Goals as goal

pub returns : goal.returns
returns c =
    IfOk-weaker c.told_each.result (λ trials. trials.items ≡ map trial_by c.deref.result.now)
    (λ trials. (config : Config) (fed : List Step) (settings : List Setting) → c.args.self.now ≡ courses_of config fed settings → trials.items ≡ map (trial_of config fed) settings)
    (λ trials told config fed settings e. told ∙ ap (map trial_by) (c.deref.ensures.value ∙ c.self.view_is ∙ e) ∙ courses_told config fed settings)
    c.told_each.ensures
