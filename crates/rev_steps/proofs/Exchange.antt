-- The timing at a clock is the one that the step of the clock makes.
use Rattle.std.specs.Prelude.{ℕ, ◌≡◌, refl}
use Rattle.std.proofs.Common.{inl, inr}
use Rattle.std.proofs.lemmas.Bool.{cases_Bool}
use Rattle.rev_model.specs.Actor.{at_clock, is_due}
use Rattle.rev_model.specs.Move.{with_part}
use Rattle.rev_model.specs.declared.GlobalPart.TheVariants as part
use Rattle.rev_model.specs.declared.Globals.{Globals}
use Rattle.rev_steps.specs.Exchange.{timing_at}

pub timing_is : (n : ℕ) (g : Globals) → with_part (part.Timing (timing_at n g)) g ≡ at_clock n g
timing_is n g = elim (cases_Bool (is_due g.flush n)) [ inl e ↦ rw e refl | inr e ↦ rw e refl ]
