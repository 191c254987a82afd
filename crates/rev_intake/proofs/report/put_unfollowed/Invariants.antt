use Rattle.std.proofs.Common.{◌≡◌, drop}
use Rattle.rev_intake.specs.Report.{settings_text}
use Rattle.rev_intake.proofs.report.put_unfollowed.Given as goal

-- with the settings that are left, what was written is the whole text
abbrev pub invariant-loop-setting : goal.invariant-loop-setting
invariant-loop-setting g l = settings_text l.out.items (drop l.setting-index l.unfollowed) ≡ settings_text l.fn.out.items l.unfollowed
