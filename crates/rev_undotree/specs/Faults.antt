-- Why a play was refused.
-- Rule of this project: a tree that is full, a tree that is too deep, or memory; and nothing has changed.
use Rattle.std.specs.Prelude.{◌≡◌, Result, IsErrAnd}
use Rattle.rev_undotree.specs.declared.session.PlayFault.{PlayFault}
pub use Rattle.rev_undotree.specs.declared.session.PlayFault.TheVariants.{TooManyNodes, TooDeep, Memory}

-- the call was refused, and this is why
abbrev pub IsFault : {T S : Type 0} → Result T (PlayFault × S) → PlayFault → Type 0
IsFault r f = IsErrAnd r (λ e. e.0 ≡ f)
