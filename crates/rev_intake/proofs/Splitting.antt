-- Where a start ends.
use Rattle.std.proofs.Common.{◌≡◌, true, false, [], None, refl}
use Rattle.rev_import.specs.Becoming.{first_second}
use Rattle.rev_intake.specs.Intake.{PlainIntake}
use Rattle.rev_intake.specs.Splitting.{is_due, start_ended, split_off}

-- one that was sent whole has ended
pub ended_of : {A : Type 0} {now sent : PlainIntake A} (old : PlainIntake A) → now ≡ sent → sent ≡ record old { waits = [] } →
    record now { split = None; start_lines = now.figures.lines } ≡ start_ended old
ended_of old p q = rw (p, q) refl

-- it ends in front of the first event that waits
pub split_due : {A : Type 0} (i : PlainIntake A) → is_due i.split (first_second i.waiting) ≡ true → split_off i ≡ start_ended i
split_due i e = rw e refl

-- it does not
pub split_not_due : {A : Type 0} (i : PlainIntake A) → is_due i.split (first_second i.waiting) ≡ false → split_off i ≡ i
split_not_due i e = rw e refl
