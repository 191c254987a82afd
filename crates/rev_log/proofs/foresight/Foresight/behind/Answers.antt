use Rattle.std.proofs.Common.{◌∙◌, sym, ap}
use Rattle.std.specs.Option.{option_copied}
use Rattle.rev_log.proofs.Finding.{at_any}
use Rattle.rev_log.proofs.Sound.{found-next}
use Rattle.rev_log.proofs.foresight.Foresight.behind.Goals as goal

pub returns-in_err-next : goal.returns-in_err-next
returns-in_err-next g c h =
    ap option_copied c.from_residual-in_err-next.ensures
    ∙ ap (at_any c.self.inside.first c.self.inside.waiting.items) (sym c.in_err-next.was ∙ c.next_in.ensures)
    ∙ found-next c.self.invariant c.args.self.now (sym (ap (λ f. f.first) c.self.view_is)) (sym (ap (λ f. f.waiting) c.self.view_is)) c.args.coming.now c.if-coming-self.false h

pub returns : goal.returns
returns g c h =
    c.at_number.ensures
    ∙ ap (at_any c.self.inside.first c.self.inside.waiting.items) (sym c.in_ok-next.was ∙ c.next_in.ensures)
    ∙ found-next c.self.invariant c.args.self.now (sym (ap (λ f. f.first) c.self.view_is)) (sym (ap (λ f. f.waiting) c.self.view_is)) c.args.coming.now c.if-coming-self.false h
