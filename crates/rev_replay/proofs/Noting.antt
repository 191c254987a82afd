-- What was noted of a replay.
use Rattle.std.proofs.Common.{◌≡◌, ℕ, ◌-◌, List, ◌++◌, length, take, replicate, Result, Ok, Err, OnOk, is_ok, if◌then◌else◌, ◌∙◌, ap}
use Rattle.rev_evidence.specs.declared.notes.Moment.{Moment}
use Rattle.rev_replay.specs.Moments.{PlainNoting, noted}

-- the list of moments was made so many long
pub noted_all : {T E : Type 0} (r : Result T E) (n : PlainNoting) (new : List Moment) (nodes len : ℕ) (m : Moment) → len ≡ length n.moments →
    new ≡ (if is_ok r then take nodes n.moments ++ replicate (nodes - len) m else n.moments) → OnOk r (record n { moments = new } ≡ noted n nodes m)
noted_all (Ok v) n new nodes len m e s = ap (λ ms. record n { moments = ms }) (s ∙ ap (λ l. take nodes n.moments ++ replicate (nodes - l) m) e)
noted_all (Err f) n new nodes len m e s = tt
