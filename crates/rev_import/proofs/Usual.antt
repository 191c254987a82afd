-- The configuration with the usual factor breaks no limit.
use Rattle.std.proofs.Common.{ℕ, ℤ, ◌≡◌, ◌≤◌, true, not, cond, ap, refl, Some, None}
use Rattle.std.proofs.lemmas.Bool.{le-leb}
use Rattle.rev_classes.specs.Sizes.{most_classes}
use Rattle.rev_classes.specs.Limits.{fault_of, are_limits}
use Rattle.rev_classes.specs.declared.ConfigFault.TheVariants.{BadLimit}
use Rattle.rev_import.specs.Setup.{config_of, usual_factor}
use Rattle.rev_import.proofs.Words.{either}

pub usual_is_sound : (pages : ℕ) (seconds : ℤ) → 1 ≤ pages → pages ≤ 4096 → fault_of (config_of pages usual_factor seconds) ≡ None
unfolding most_classes
usual_is_sound pages seconds least most =
    let limits : are_limits (config_of pages usual_factor seconds) ≡ true = either _ _ (either _ _ (le-leb 1 pages least) (le-leb pages 4096 most)) refl in
    ap (λ b. cond (not b) (Some BadLimit) None) limits
