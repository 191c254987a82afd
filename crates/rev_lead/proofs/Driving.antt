-- Deeds, one behind another.
use Rattle.std.specs.Prelude.{◌≡◌, refl, ℕ, ℤ, List, [], ◌∷◌, ◌++◌, Result, Ok, Err, OnOk, OnErr, IfOk}
use Rattle.std.proofs.Common.{sym, ◌∙◌, ap, subst}
use Rattle.rev_model.specs.Client.{Verb, Payload, Stores}
use Rattle.rev_model.specs.Actor.{Step, Client}
use Rattle.rev_lead.specs.declared.tally.Tally.{Tally}
use Rattle.rev_lead.specs.declared.role.Role.{Role}
use Rattle.rev_lead.specs.declared.role.Role.TheVariants as roles
use Rattle.rev_lead.specs.declared.agreeing.Agreement.{Agreement}
use Rattle.rev_lead.specs.Acts.{StageState, Act, after, Acts, Led}
use Rattle.rev_lead.specs.Agreed.{StoresKey}
use Rattle.rev_lead.specs.Counts.{counted}
use Rattle.rev_lead.specs.Deeds.{Deed, says, evicts, works, restores, act_of, told_of, Deeds, Driven, Tells}

-- nothing was done
pub driven_same : (a b : Tally) (s t : StageState) → b ≡ a → t ≡ s → Driven a b s t
unfolding Driven
driven_same a b s t e f = ([], (e, f))

-- a deed alone
pub driven_deed : (a b : Tally) (s t : StageState) (d : Deed) → b ≡ told_of d a → t ≡ after s (act_of d) → Driven a b s t
unfolding Driven
driven_deed a b s t d e f = (d ∷ [], (e, f))

-- a deed whose step has another name
pub driven_act : (a b : Tally) (s t : StageState) (d : Deed) (e : Step) → e ≡ (act_of d).step → b ≡ told_of d a → t ≡ after s (record { step = e; role = (act_of d).role }) → Driven a b s t
driven_act a b s t d e is told played = driven_deed a b s t d told (played ∙ ap (λ x. after s (record { step = x; role = (act_of d).role })) is)

deeds_more : (a b c : Tally) (s t u : StageState) (first second : List Deed) → Deeds a s first b t → Deeds b t second c u → Deeds a s (first ++ second) c u
deeds_more a b c s t u [] second e f = subst (λ v. Deeds v s second c u) e.0 (subst (λ v. Deeds b v second c u) e.1 f)
deeds_more a b c s t u (d ∷ first) second e f = deeds_more (told_of d a) b c (after s (act_of d)) t u first second e f

-- one behind the other
pub driven_more : (a b c : Tally) (s t u : StageState) → Driven b c t u → Driven a b s t → Driven a c s u
unfolding Driven
driven_more a b c s t u g f = (f.0 ++ g.0, deeds_more a b c s t u f.0 g.0 f.1 g.1)

abbrev acts_in : List Deed → List Act
acts_in [] = []
acts_in (d ∷ ds) = act_of d ∷ acts_in ds

deeds_lead : (a b : Tally) (s t : StageState) (deeds : List Deed) → Deeds a s deeds b t → Acts s (acts_in deeds) t
deeds_lead a b s t [] e = e.1
deeds_lead a b s t (d ∷ deeds) e = deeds_lead (told_of d a) b (after s (act_of d)) t deeds e

-- what was done is plays alone
pub led_of : (a b : Tally) (s t : StageState) → Driven a b s t → Led s t
unfolding Driven Led
led_of a b s t f = (acts_in f.0, deeds_lead a b s t f.0 f.1)

-- a step that is played or refused, and not counted
pub driven_said : {T E : Type 0} (a : Tally) (s t : StageState) (e : Step) (r : Result T E) → OnOk r (t ≡ after s (record { step = e; role = roles.Event })) → OnErr r (t ≡ s) → Driven a a s t
driven_said a s t e (Ok x) done kept = driven_deed a a s t (says e) refl done
driven_said a s t e (Err x) done kept = driven_same a a s t refl kept

pub driven_worked : {T E : Type 0} (a : Tally) (s t : StageState) (e : Step) (r : Result T E) → OnOk r (t ≡ after s (record { step = e; role = roles.Actor })) → OnErr r (t ≡ s) → Driven a a s t
driven_worked a s t e (Ok x) done kept = driven_deed a a s t (works e) refl done
driven_worked a s t e (Err x) done kept = driven_same a a s t refl kept

-- an event was played, and counted
pub tells_counted : (E : Type 0) (a m b : Tally) (s t : StageState) (g : Agreement) → Driven a m s t → b ≡ counted g m → Tells {E = E} a b s t (Ok g)
tells_counted E a m b s t g f e = (m, f, e)
