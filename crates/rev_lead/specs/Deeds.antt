-- What a driver does on a stage, and what it counts of that.
-- Rule of this project: each adjustment is a step of its kind in the role of its kind, and is counted once, as what it
-- is, where it was played. Nothing else is played, and nothing else is counted.
use Rattle.std.specs.Prelude.{◌≡◌, ℕ, ℤ, negsuc, Bool, List, [], ◌∷◌, Result, Ok, Err}
use Rattle.rev_model.specs.Client.{Verb, Payload, Stores, Gets, Touches, Deletes, Evicts}
use Rattle.rev_model.specs.Actor.{Step, Client}
use Rattle.rev_watch.specs.declared.event.Timestamp.{Timestamp}
use Rattle.rev_lead.specs.declared.role.Role.TheVariants as roles
use Rattle.rev_lead.specs.declared.tally.Tally.{Tally}
use Rattle.rev_lead.specs.declared.tally.Adjustment.TheVariants as adjustments
use Rattle.rev_lead.specs.declared.tally.Inference.{Inference}
use Rattle.rev_lead.specs.declared.agreeing.Agreement.{Agreement}
use Rattle.rev_lead.specs.Acts.{StageState, Act, after}
use Rattle.rev_lead.specs.Counts.{adjusted, counted}

-- what a driver may do
pub data Deed : Type 0 where
  -- what the line itself says
  says : Step → Deed
  -- the line's own store, by which the rules evict the key that the log evicts
  evicts : Verb → List ℕ → ℕ → ℤ → Payload → Deed
  -- the maintainer, the page mover or the clock do a step
  works : Step → Deed
  -- a key goes where the log evicts it
  lets_evicted_go : List ℕ → Deed
  -- a key goes without a line
  infers : Inference → List ℕ → Timestamp → Bool → Deed
  -- a key goes whose lifetime is over
  lets_expired_go : List ℕ → Deed
  -- a key gets a lifetime
  gives_lifetime : List ℕ → ℤ → Deed
  -- a key's item is dead from here on, since a flush let it go, and it is looked up, so that it leaves
  flushes : List ℕ → Deed
  drops_flushed : List ℕ → Deed
  -- a key is stored that the log shows, and what is held of it goes in front
  restores : Verb → List ℕ → ℕ → ℤ → Payload → Deed
  makes_way : List ℕ → Deed

-- the step that is played, and its role
abbrev pub act_of : Deed → Act
act_of (says e) = record { step = e; role = roles.Event }
act_of (evicts v k f e d) = record { step = Client (Stores v k f e d); role = roles.Evicting }
act_of (works e) = record { step = e; role = roles.Actor }
act_of (lets_evicted_go k) = record { step = Client (Evicts k); role = roles.Eviction }
act_of (infers i k shown moved) = record { step = Client (Deletes k); role = roles.Inferred shown moved }
act_of (lets_expired_go k) = record { step = Client (Deletes k); role = roles.Expiry }
act_of (gives_lifetime k n) = record { step = Client (Touches k n); role = roles.Lifetime }
act_of (flushes k) = record { step = Client (Touches k (negsuc 0)); role = roles.Flush }
act_of (drops_flushed k) = record { step = Client (Gets k); role = roles.Flush }
act_of (restores v k f e d) = record { step = Client (Stores v k f e d); role = roles.Restore }
act_of (makes_way k) = record { step = Client (Deletes k); role = roles.Restore }

-- what was counted behind it
abbrev pub told_of : Deed → Tally → Tally
told_of (says e) t = t
told_of (evicts v k f e d) t = adjusted adjustments.ByRules t
told_of (works e) t = t
told_of (lets_evicted_go k) t = adjusted adjustments.Evicted t
told_of (infers i k shown moved) t = adjusted (adjustments.Inferred i) t
told_of (lets_expired_go k) t = adjusted adjustments.Expired t
told_of (gives_lifetime k n) t = adjusted adjustments.Lifetime t
told_of (flushes k) t = adjusted adjustments.Flushed t
told_of (drops_flushed k) t = t
told_of (restores v k f e d) t = adjusted adjustments.Restored t
told_of (makes_way k) t = t

-- the deeds, one behind another, lead from the stage s to t, and from what was counted, a, to b
abbrev pub Deeds : Tally → StageState → List Deed → Tally → StageState → Type 0
Deeds a s [] b t = (b ≡ a) × (t ≡ s)
Deeds a s (d ∷ later) b t = Deeds (told_of d a) (after s (act_of d)) later b t

-- some deeds do
unfoldable pub Driven : Tally → Tally → StageState → StageState → Type 0
Driven a b s t = (deeds : List Deed) × Deeds a s deeds b t

-- what was played of an event is counted, and then the event, by whether the replay agrees with it; where memory was
-- refused, or the tree is full, only what was played is counted
abbrev pub Tells : {E : Type 0} → Tally → Tally → StageState → StageState → Result Agreement E → Type 0
Tells a b s t (Ok g) = (played : Tally) × Driven a played s t × (b ≡ counted g played)
Tells a b s t (Err e) = Driven a b s t
