-- A deletion that was played, with a step of the bump queue behind it.
use Rattle.std.specs.Prelude.{◌≡◌, ℕ, List, None, refl}
use Rattle.std.proofs.Common.{sym, ◌∙◌, ap, subst}
use Rattle.rev_model.specs.Actor.{Step, Client, Bump}
use Rattle.rev_model.specs.Client.{Deletes}
use Rattle.rev_tree.specs.Steps.{next}
use Rattle.rev_lead.specs.Acts.{StageState, Act, after, Led, state_of_stage}
use Rattle.rev_lead.specs.Agreed.{Deleted}
use Rattle.rev_lead.specs.Agrees.{holding_of}
use Rattle.rev_lead.specs.declared.role.Role.TheVariants as roles
use Rattle.rev_lead.proofs.Gone.{deleted_gone, bumped_gone}
use Rattle.rev_lead.proofs.Leading.{led_same}

-- a step of the bump queue takes nothing in
pub bumped_stage : (s t : StageState) (e : Step) → e ≡ Bump → state_of_stage t ≡ next (state_of_stage s) e → (k : List ℕ) → holding_of (state_of_stage s) k ≡ None → holding_of (state_of_stage t) k ≡ None
bumped_stage s t e is to k h = subst (λ u. holding_of u k ≡ None) (sym (to ∙ ap (next (state_of_stage s)) is)) (bumped_gone (state_of_stage s) k h)

-- the delete of a key was played, and nothing came behind it
pub deleted_stage : (s t u : StageState) (k : List ℕ) (e : Step) → e ≡ Client (Deletes k) → t ≡ after s (record { step = e; role = roles.Event }) → state_of_stage t ≡ next (state_of_stage s) e
    → ((l : List ℕ) → holding_of (state_of_stage t) l ≡ None → holding_of (state_of_stage u) l ≡ None) → Led t u → Deleted s u k
deleted_stage s t u k e is played to later behind = record {
  front = s;
  before = led_same s s refl;
  behind = subst (λ v. Led v u) (played ∙ ap (λ d. after s (record { step = d; role = roles.Event })) is) behind;
  gone = later k (subst (λ v. holding_of v k ≡ None) (sym (to ∙ ap (next (state_of_stage s)) is)) (deleted_gone (state_of_stage s) k));
}
