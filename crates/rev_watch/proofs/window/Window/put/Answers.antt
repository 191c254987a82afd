use Rattle.std.proofs.Common.{sym, ◌∙◌, ap}
use Rattle.rev_watch.specs.Window.{is_late}
use Rattle.rev_watch.proofs.HeldLemmas.{first-given}
use Rattle.rev_watch.proofs.window.Window.put.Goals as goal

pub returns-in-Some-clause-ok : goal.returns-in-Some-clause-ok
returns-in-Some-clause-ok g c =
    rw (← c.self.view_is)
    (first-given c.self.inside.held c.self.inside.last c.args.gid c.args.line c.insert.new.self c.len.result c.in-Some.gid c.in-Some.line c.pop_first.new.self
    (ap (λ w. is_late c.args.gid w.last) c.self.view_is ∙ sym c.is_late.ensures ∙ c.if-is_late.false) (sym c.in_ok-insert.ensures.had ∙ c.if-branch.false)
    c.in_ok-insert.ensures.ok c.len.ensures c.if-len-le-MOST_HELD.false c.in-Some.ensures.some)
