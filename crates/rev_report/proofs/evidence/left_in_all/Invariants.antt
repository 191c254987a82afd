use Rattle.std.proofs.Common.{◌≡◌, drop, fold}
use Rattle.rev_report.specs.Evidence.{none, with_cause}
use Rattle.rev_report.proofs.evidence.left_in_all.Given as goal

-- what is added up, with the causes that are left, is all
abbrev pub invariant-loop-left : goal.invariant-loop-left
invariant-loop-left l = fold with_cause l.all (drop l.left-index l.evidence) ≡ fold with_cause none l.evidence
