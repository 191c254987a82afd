use Rattle.std.proofs.Common.{rules, tests, ap, ◌≡◌, ◌∙◌, map, ◌++◌, OnOk, subst}
use Rattle.std.proofs.lemmas.Iterator.Consumers.{YieldsList-from_filter}
use Rattle.std.proofs.lemmas.Iterator.Splits.{YieldsList-from_slice_split}
use Rattle.rev_script.specs.Words.{words}
use Rattle.rev_script.proofs.Extending.{from_extend}
use Rattle.rev_script.proofs.words.few_words.Goals as goal

pub returns-in-Ok : goal.returns-in-Ok
returns-in-Ok c _ =
    subst (λ r. OnOk r (map (λ x. x.now) c.extend.new.self.items ≡ words c.args.text.now)) c.in-Ok.is
    (from_extend {v = λ x. x.now} {all = words c.args.text.now} _ c.extend.ensures.ran
    (YieldsList-from_filter _ _
    (YieldsList-from_slice_split _ _ c.args.text.now (cc) (cc) (cc) (λ x r q k. search (rules, tests)))
    c.filter.ensures.closure (λ x r q k. search (rules, tests)))
    (λ xs e h. ap (map (λ x. x.now)) (h ∙ ap (λ l. l ++ xs) c.requires) ∙ e))
