-- Acts, one behind another.
use Rattle.std.specs.Prelude.{◌≡◌, refl, List, [], ◌∷◌, ◌++◌, Result, Ok, Err, OnOk, OnErr}
use Rattle.std.proofs.Common.{sym}
use Rattle.rev_lead.specs.Acts.{StageState, Act, after, Acts, Led}

-- nothing was played
pub led_same : (s t : StageState) → t ≡ s → Led s t
unfolding Led
led_same s t e = ([], e)

-- an act alone
pub led_act : (s t : StageState) (a : Act) → t ≡ after s a → Led s t
unfolding Led
led_act s t a e = (a ∷ [], e)

acts_more : (s t u : StageState) (first second : List Act) → Acts s first t → Acts t second u → Acts s (first ++ second) u
acts_more s t u [] second e f = rw (sym e) f
acts_more s t u (a ∷ first) second e f = acts_more (after s a) t u first second e f

-- one behind the other
pub led_more : (s t u : StageState) → Led t u → Led s t → Led s u
unfolding Led
led_more s t u b a = (a.0 ++ b.0, acts_more s t u a.0 b.0 a.1 b.1)

-- an act that was played or refused
pub led_played : {T E : Type 0} (s t : StageState) (a : Act) (r : Result T E) → OnOk r (t ≡ after s a) → OnErr r (t ≡ s) → Led s t
led_played s t a (Ok x) done kept = led_act s t a done
led_played s t a (Err e) done kept = led_same s t kept
