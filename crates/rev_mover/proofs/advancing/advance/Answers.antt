use Rattle.std.specs.Prelude.{◌≡◌, Some, IfOk, List}
use Rattle.std.proofs.Common.{sym, ◌∙◌, ap, subst}
use Rattle.rev_model.specs.State.{State}
use Rattle.rev_model.specs.Track.{Removal}
use Rattle.rev_model.specs.declared.Globals.{Globals}
use Rattle.rev_model.specs.declared.Outcome.{Outcome}
use Rattle.rev_inverse.specs.Telling.{TellsAll}
use Rattle.rev_mover.specs.Moving.{IsDone, IsLeft}
use Rattle.rev_mover.proofs.Steps.{not_done, advance_left, advance_done, left_removals, done_removals}
use Rattle.rev_mover.proofs.advancing.advance.Goals as goal

pub returns-then-from-slots_of-clause-step : goal.returns-then-from-slots_of-clause-step
returns-then-from-slots_of-clause-step g c =
    let s = c.args.store.now in
    let m = c.in-Some.mover in
    let is : s.globals.mover ≡ Some m = ap (λ (g : Globals). g.mover) (sym c.globals.ensures) ∙ c.in-Some.is in
    let done : IsDone s m = record { is = is; slot = sym c.from.ensures ∙ c.if-from-slots_of.true ∙ c.slots_of.ensures } in
    subst (λ (z : State × Outcome). IfOk c.finish.result (λ p. (c.finish.new.store, p.0) ≡ z)) (advance_done s m done) c.finish.ensures.step

pub returns-then-from-slots_of-clause-told : goal.returns-then-from-slots_of-clause-told
returns-then-from-slots_of-clause-told g c =
    let s = c.args.store.now in
    let m = c.in-Some.mover in
    let is : s.globals.mover ≡ Some m = ap (λ (g : Globals). g.mover) (sym c.globals.ensures) ∙ c.in-Some.is in
    let done : IsDone s m = record { is = is; slot = sym c.from.ensures ∙ c.if-from-slots_of.true ∙ c.slots_of.ensures } in
    subst (λ (l : List Removal). IfOk c.finish.result (λ p. TellsAll p.1 c.finish.new.store l)) (done_removals s m done) c.finish.ensures.told

pub returns-else-from-slots_of-clause-step : goal.returns-else-from-slots_of-clause-step
returns-else-from-slots_of-clause-step g c =
    let s = c.args.store.now in
    let m = c.in-Some.mover in
    let is : s.globals.mover ≡ Some m = ap (λ (g : Globals). g.mover) (sym c.globals.ensures) ∙ c.in-Some.is in
    let left : IsLeft s m = not_done s c.requires m is (λ e. c.if-from-slots_of.false (c.from.ensures ∙ e ∙ sym c.slots_of.ensures)) in
    subst (λ (z : State × Outcome). IfOk c.advance_slot.result (λ p. (c.advance_slot.new.store, p.0) ≡ z)) (advance_left s m left) c.advance_slot.ensures.step

pub returns-else-from-slots_of-clause-told : goal.returns-else-from-slots_of-clause-told
returns-else-from-slots_of-clause-told g c =
    let s = c.args.store.now in
    let m = c.in-Some.mover in
    let is : s.globals.mover ≡ Some m = ap (λ (g : Globals). g.mover) (sym c.globals.ensures) ∙ c.in-Some.is in
    let left : IsLeft s m = not_done s c.requires m is (λ e. c.if-from-slots_of.false (c.from.ensures ∙ e ∙ sym c.slots_of.ensures)) in
    subst (λ (l : List Removal). IfOk c.advance_slot.result (λ p. TellsAll p.1 c.advance_slot.new.store l)) (left_removals s m left) c.advance_slot.ensures.told
