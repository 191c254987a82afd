-- What tells of the keys that left, summed over all causes.
-- Rule of this project: a sum stops at the highest number of 64 bits.
use Rattle.rev_figures.specs.Classes.{plus}
use Rattle.rev_report.specs.declared.evidence.LeftBy.{LeftBy}
use Rattle.rev_report.specs.declared.evidence.LeftInAll.{LeftInAll}

-- of no cause
abbrev pub none : LeftInAll
none = record { logged = 0; replayed = 0; inferred = 0 }

-- the sums with those of a cause
abbrev pub with_cause : LeftInAll → LeftBy → LeftInAll
with_cause all left = record {
  logged = plus all.logged left.logged;
  replayed = plus all.replayed left.replayed;
  inferred = plus all.inferred left.inferred;
}
