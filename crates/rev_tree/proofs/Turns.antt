-- What the contracts of `apply` and `turn` say of a record.
use Rattle.std.proofs.Common.{◌≡◌, refl, ap, ◌∙◌, subst}
use Rattle.std.specs.Prelude.{reverse, length}
use Rattle.std.proofs.lemmas.List.{reverse-reverse}
use Rattle.rev_model.specs.State.{WellFormed}
use Rattle.rev_model.specs.Move as moves
use Rattle.rev_model.specs.Actor as actor
use Rattle.rev_model.specs.Causes.{step_removals}
use Rattle.rev_model.specs.Move.{LeadsBack}
use Rattle.rev_model.proofs.Undo.{turns_back}
use Rattle.rev_inverse.specs.Record.{flat}
use Rattle.rev_inverse.proofs.TurningRecord.{length-turned}
use Rattle.rev_inverse.specs.Telling.{TellsAll}
use Rattle.rev_tree.specs.Steps.{State, Step, Outcome, PlainRecord, Sound, next, outcome_of, Fits, turned, Leads, Recalls, Undoes}

-- what a turn needs
pub fits_well : (r : PlainRecord) (s : State) → Fits r s → WellFormed s
unfolding Fits
fits_well r s h = h.0.well

-- also where the tree's node tells less of the record
pub fits_flat : (r q : PlainRecord) (s : State) → q ≡ flat r → Fits q s → moves.Fits r.moves s
unfolding Fits
fits_flat r q s e h = subst (λ (z : PlainRecord). moves.Fits z.moves s) e h.1

-- what it gives
pub turned_state : (r : PlainRecord) (s t : State) → t ≡ (moves.turned r.moves s).0 → t ≡ (turned (flat r) s).0
unfolding turned
turned_state r s t e = e

pub turned_record : (r x : PlainRecord) (s : State) → x.moves ≡ (moves.turned r.moves s).1 → x.notes ≡ reverse r.notes → flat x ≡ (turned (flat r) s).1
unfolding turned
turned_record r x s em en =
    ap (λ z. record (flat x) { moves = z; room = length z }) em
    ∙ ap (λ z. record (flat x) { moves = (moves.turned r.moves s).1; notes = z; room = length (moves.turned r.moves s).1 }) en
    ∙ ap (λ z. record (flat r) { moves = (moves.turned r.moves s).1; notes = reverse r.notes; room = z }) (length-turned r.moves s)

-- what a step gives
pub step_next : (s u : State) (e : Step) (o : Outcome) → (u, o) ≡ actor.step s e → u ≡ next s e
unfolding next
step_next s u e o h = ap (λ p. p.0) h

pub step_outcome : (s u : State) (e : Step) (o : Outcome) → (u, o) ≡ actor.step s e → o ≡ outcome_of s e
unfolding outcome_of
step_outcome s u e o h = ap (λ p. p.1) h

-- a record that leads back from a sound state to a sound state leads both ways
back_pair : (r : PlainRecord) (t : State) → moves.turned (moves.turned r.moves t).1 (moves.turned r.moves t).0 ≡ (t, r.moves) → turned (turned r t).1 (turned r t).0 ≡ (t, r)
unfolding turned
back_pair r t h =
    ap (λ z. let p : State × PlainRecord = (z.0, record r { moves = z.1; notes = reverse (reverse r.notes) }) in p) h
    ∙ ap (λ z. let p : State × PlainRecord = (t, record r { notes = z }) in p) (reverse-reverse r.notes)

pub leads_applied : (r : PlainRecord) (t s : State) → Sound t → Sound s → LeadsBack r.moves t s → Leads r t s
unfolding Fits turned
leads_applied r t s ht hs l =
    let b = turns_back r.moves t ht.well l.fits in
    record {
      fits = (ht, l.fits);
      there = l.there;
      fits_back = (hs, subst (λ z. moves.Fits (moves.turned r.moves t).1 z) l.there b.fits);
      back = subst (λ z. turned (turned r t).1 z ≡ (t, r)) l.there (back_pair r t b.back);
    }

-- the states at both ends of a record are sound
pub leads_sound : {r : PlainRecord} {t s : State} → Leads r t s → Sound t × Sound s
unfolding Fits
leads_sound h = (h.fits.0, h.fits_back.0)

pub leads_moves : {r : PlainRecord} {t s : State} → Leads r t s → LeadsBack r.moves t s
unfolding Fits turned
leads_moves h = record { fits = h.fits.1; there = h.there }

-- what the contract of `apply` says of the record
recalls_applied : (r : PlainRecord) (s : State) (e : Step) → TellsAll r (next s e) (step_removals s e) → Recalls (flat r) s e
unfolding Recalls
recalls_applied r s e h = record { beside = h.beside; told = h.told }

pub undoes_applied : (r : PlainRecord) (s u : State) (e : Step) (o : Outcome) → Sound u → Sound s → (u, o) ≡ actor.step s e → LeadsBack r.moves u s → TellsAll r u (step_removals s e) → Undoes (flat r) s e
undoes_applied r s u e o hu hs h l t =
    let n = step_next s u e o h in
    record {
      leads = subst (λ z. Leads (flat r) z s) n (leads_applied (flat r) u s hu hs l);
      recalls = recalls_applied r s e (subst (λ z. TellsAll r z (step_removals s e)) n t);
    }

-- what a record tells
pub undoes_tells : {r : PlainRecord} {s : State} {e : Step} → Undoes r s e → TellsAll r (next s e) (step_removals s e)
unfolding Recalls
undoes_tells h = h.recalls

pub next_step : (s : State) (e : Step) → next s e ≡ (actor.step s e).0
unfolding next
next_step s e = refl
