use Rattle.std.proofs.Common.{rules, ◌≡◌, ◌<◌, false, length, Ok, Err, sym, ◌∙◌, ap, subst, arith}
use Rattle.std.proofs.lemmas.List.Sorted.{answers_always}
use Rattle.std.proofs.lemmas.Result.{on_ok_weaker}
use Rattle.std.specs.BTreeMap.{insert_entry}
use Rattle.std.specs.Ordering.{nat_cmp}
use Rattle.rev_watch.specs.Held.{together, IsRun}
use Rattle.rev_watch.specs.Window.{is_held}
use Rattle.rev_watch.proofs.HeldLemmas.{AreBelow, IsGap, below-last, run-push, push-together, new-together, searched, gap-not_held, gap-together, run-gap, run-set, set-together, old-together, insert-together, stray-together, near, had-as, run-strays}
use Rattle.rev_watch.proofs.held.HeldLines.insert.Goals as goal

-- a line behind all others goes to the end of the run

pub invariant_of-self-then-are_below : goal.invariant_of-self-then-are_below
invariant_of-self-then-are_below g c =
    let run = c.self.inside.run.items in
    let strays = c.self.inside.strays in
    let below : AreBelow c.args.number run = below-last run strays c.args.number c.self.invariant (c.is_above.ensures c.if-is_above.true) in
    subst (λ l. IsRun l strays) (sym c.in_ok-push_back.ensures.items) (run-push run strays c.args.number c.args.line c.self.invariant below (c.are_below.ensures c.if-are_below.true))

pub returns-then-are_below-clause-had : goal.returns-then-are_below-clause-had
returns-then-are_below-clause-had g c =
    let run = c.self.inside.run.items in
    let strays = c.self.inside.strays in
    let below : AreBelow c.args.number run = below-last run strays c.args.number c.self.invariant (c.is_above.ensures c.if-is_above.true) in
    sym (ap (is_held c.args.number) (sym c.self.view_is) ∙ new-together run strays c.args.number below (c.are_below.ensures c.if-are_below.true))

pub returns-then-are_below-clause-ok : goal.returns-then-are_below-clause-ok
returns-then-are_below-clause-ok g c =
    let run = c.self.inside.run.items in
    let strays = c.self.inside.strays in
    let below : AreBelow c.args.number run = below-last run strays c.args.number c.self.invariant (c.is_above.ensures c.if-is_above.true) in
    ap (λ l. together l strays) c.in_ok-push_back.ensures.items ∙ push-together run strays c.args.number c.args.line below
    ∙ ap (λ l. insert_entry nat_cmp l c.args.number c.args.line) c.self.view_is

-- a line of the run is exchanged

pub invariant_of-self-in-Ok : goal.invariant_of-self-in-Ok
invariant_of-self-in-Ok g c =
    let run = c.self.inside.run.items in
    let strays = c.self.inside.strays in
    let bound : c.in-Ok.place < length run = omega (arith, c.in-Ok.ensures.bound, c.self.inside.run.ok.0) in
    let found = searched run strays c.args.number c.self.invariant (Ok c.in-Ok.place) bound (c.in-Ok.ensures.position (λ held. held.0) (answers_always _ _ _ (λ f a r called. search rules))) in
    run-set run strays c.in-Ok.place (c.args.number, c.args.line) c.args.number c.args.line c.self.invariant found.0 (found.1 (c.args.number, c.args.line))

pub returns-in-Ok-clause-had : goal.returns-in-Ok-clause-had
returns-in-Ok-clause-had g c =
    let run = c.self.inside.run.items in
    let strays = c.self.inside.strays in
    let bound : c.in-Ok.place < length run = omega (arith, c.in-Ok.ensures.bound, c.self.inside.run.ok.0) in
    let found = searched run strays c.args.number c.self.invariant (Ok c.in-Ok.place) bound (c.in-Ok.ensures.position (λ held. held.0) (answers_always _ _ _ (λ f a r called. search rules))) in
    sym (ap (is_held c.args.number) (sym c.self.view_is) ∙ old-together run strays c.in-Ok.place (c.args.number, c.args.line) c.args.number found.0 (found.1 (c.args.number, c.args.line)))

pub returns-in-Ok-clause-ok : goal.returns-in-Ok-clause-ok
returns-in-Ok-clause-ok g c =
    let run = c.self.inside.run.items in
    let strays = c.self.inside.strays in
    let bound : c.in-Ok.place < length run = omega (arith, c.in-Ok.ensures.bound, c.self.inside.run.ok.0) in
    let found = searched run strays c.args.number c.self.invariant (Ok c.in-Ok.place) bound (c.in-Ok.ensures.position (λ held. held.0) (answers_always _ _ _ (λ f a r called. search rules))) in
    set-together run strays c.in-Ok.place (c.args.number, c.args.line) c.args.number c.args.line c.self.invariant found.0 (found.1 (c.args.number, c.args.line))
    ∙ ap (λ l. insert_entry nat_cmp l c.args.number c.args.line) c.self.view_is

-- a stray few places back is exchanged

pub invariant_of-self-then-has : goal.invariant_of-self-then-has
invariant_of-self-then-has g c =
    let run = c.self.inside.run.items in
    let strays = c.self.inside.strays in
    let gap : IsGap run c.args.number c.in-Some.place = near run strays c.args.number c.in-Some.place c.self.invariant c.in-Some.ensures in
    let apart = gap-not_held run c.args.number c.in-Some.place gap in
    run-strays c.insert.result run strays c.insert.new.self c.args.number c.args.line c.self.invariant apart c.insert.ensures.ok c.insert.ensures.err

pub returns-then-has-clause-had : goal.returns-then-has-clause-had
returns-then-has-clause-had g c =
    let run = c.self.inside.run.items in
    let strays = c.self.inside.strays in
    let gap : IsGap run c.args.number c.in-Some.place = near run strays c.args.number c.in-Some.place c.self.invariant c.in-Some.ensures in
    let apart = gap-not_held run c.args.number c.in-Some.place gap in
    had-as c.insert.result (is_held c.args.number strays) (is_held c.args.number c.args.self.now)
    (sym (ap (is_held c.args.number) (sym c.self.view_is) ∙ stray-together run strays c.args.number apart)) c.insert.ensures.had

pub returns-then-has-clause-ok : goal.returns-then-has-clause-ok
returns-then-has-clause-ok g c =
    let run = c.self.inside.run.items in
    let strays = c.self.inside.strays in
    let gap : IsGap run c.args.number c.in-Some.place = near run strays c.args.number c.in-Some.place c.self.invariant c.in-Some.ensures in
    let apart = gap-not_held run c.args.number c.in-Some.place gap in
    on_ok_weaker c.insert.result
    (λ e. ap (together run) e ∙ insert-together run strays c.args.number c.args.line apart ∙ ap (λ l. insert_entry nat_cmp l c.args.number c.args.line) c.self.view_is)
    c.insert.ensures.ok

-- a line goes back a few places in the run

pub invariant_of-self-in-Some : goal.invariant_of-self-in-Some
invariant_of-self-in-Some g c =
    let run = c.self.inside.run.items in
    let strays = c.self.inside.strays in
    let gap : IsGap run c.args.number c.in-Some.place = near run strays c.args.number c.in-Some.place c.self.invariant c.in-Some.ensures in
    let apart = gap-not_held run c.args.number c.in-Some.place gap in
    let none : is_held c.args.number strays ≡ false = sym c.has.ensures ∙ c.if-has.false in
    subst (λ l. IsRun l strays) (sym c.in_ok-insert.ensures.items) (run-gap run strays c.in-Some.place c.args.number c.args.line c.self.invariant gap none)

pub returns-in-Some-clause-had : goal.returns-in-Some-clause-had
returns-in-Some-clause-had g c =
    let run = c.self.inside.run.items in
    let strays = c.self.inside.strays in
    let gap : IsGap run c.args.number c.in-Some.place = near run strays c.args.number c.in-Some.place c.self.invariant c.in-Some.ensures in
    let apart = gap-not_held run c.args.number c.in-Some.place gap in
    let none : is_held c.args.number strays ≡ false = sym c.has.ensures ∙ c.if-has.false in
    sym (ap (is_held c.args.number) (sym c.self.view_is) ∙ stray-together run strays c.args.number apart ∙ none)

pub returns-in-Some-clause-ok : goal.returns-in-Some-clause-ok
returns-in-Some-clause-ok g c =
    let run = c.self.inside.run.items in
    let strays = c.self.inside.strays in
    let gap : IsGap run c.args.number c.in-Some.place = near run strays c.args.number c.in-Some.place c.self.invariant c.in-Some.ensures in
    let apart = gap-not_held run c.args.number c.in-Some.place gap in
    ap (λ l. together l strays) c.in_ok-insert.ensures.items ∙ gap-together run strays c.in-Some.place c.args.number c.args.line gap
    ∙ ap (λ l. insert_entry nat_cmp l c.args.number c.args.line) c.self.view_is

-- a line goes to the strays, or in the place of one

pub invariant_of-self-in-Err : goal.invariant_of-self-in-Err
invariant_of-self-in-Err g c =
    let run = c.self.inside.run.items in
    let strays = c.self.inside.strays in
    let gap : IsGap run c.args.number c.in-Err.field-0 = searched run strays c.args.number c.self.invariant (Err c.in-Err.field-0) (omega (arith, c.in-Err.ensures.bound, c.self.inside.run.ok.0)) (c.in-Err.ensures.position (λ held. held.0) (answers_always _ _ _ (λ f a r called. search rules))) in
    let apart = gap-not_held run c.args.number c.in-Err.field-0 gap in
    run-strays c.insert-in-Err.result run strays c.insert-in-Err.new.self c.args.number c.args.line c.self.invariant apart c.insert-in-Err.ensures.ok c.insert-in-Err.ensures.err

pub returns-in-Err-clause-had : goal.returns-in-Err-clause-had
returns-in-Err-clause-had g c =
    let run = c.self.inside.run.items in
    let strays = c.self.inside.strays in
    let gap : IsGap run c.args.number c.in-Err.field-0 = searched run strays c.args.number c.self.invariant (Err c.in-Err.field-0) (omega (arith, c.in-Err.ensures.bound, c.self.inside.run.ok.0)) (c.in-Err.ensures.position (λ held. held.0) (answers_always _ _ _ (λ f a r called. search rules))) in
    let apart = gap-not_held run c.args.number c.in-Err.field-0 gap in
    had-as c.insert-in-Err.result (is_held c.args.number strays) (is_held c.args.number c.args.self.now)
    (sym (ap (is_held c.args.number) (sym c.self.view_is) ∙ stray-together run strays c.args.number apart)) c.insert-in-Err.ensures.had

pub returns-in-Err-clause-ok : goal.returns-in-Err-clause-ok
returns-in-Err-clause-ok g c =
    let run = c.self.inside.run.items in
    let strays = c.self.inside.strays in
    let gap : IsGap run c.args.number c.in-Err.field-0 = searched run strays c.args.number c.self.invariant (Err c.in-Err.field-0) (omega (arith, c.in-Err.ensures.bound, c.self.inside.run.ok.0)) (c.in-Err.ensures.position (λ held. held.0) (answers_always _ _ _ (λ f a r called. search rules))) in
    let apart = gap-not_held run c.args.number c.in-Err.field-0 gap in
    on_ok_weaker c.insert-in-Err.result
    (λ e. ap (together run) e ∙ insert-together run strays c.args.number c.args.line apart ∙ ap (λ l. insert_entry nat_cmp l c.args.number c.args.line) c.self.view_is)
    c.insert-in-Err.ensures.ok
