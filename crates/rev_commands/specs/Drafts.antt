-- What a plan is to do, and that it does what the command says.
-- Rule of this project: append, prepend, incr and decr are planned by one look-up and carried out behind a second one.
use Rattle.std.specs.Prelude.{ℕ, ◌≡◌, List, [], None, Some}
use Rattle.rev_items.specs.Plain.{PlainItem}
use Rattle.rev_items.specs.Rules.{footprint_of}
use Rattle.rev_model.specs.State.{State, IsClass}
use Rattle.rev_model.specs.Words.{class_of, new_item}
use Rattle.rev_model.specs.declared.Outcome.{Outcome}
use Rattle.rev_model.specs.declared.Outcome.TheVariants.{TooLarge}
use Rattle.rev_model.specs.Client.{Payload, bytes_of, class_for, lookup}
use Rattle.rev_model.specs.Causes.{look_removals, rewrite_in_removals}
use Rattle.rev_model.specs.Track.{Removal}
use Rattle.rev_commands.specs.Rewriting.{rewritten_in}
use Rattle.rev_commands.specs.declared.plan.Draft.{Draft}
use Rattle.rev_commands.specs.declared.plan.Plan.{Plan}
use Rattle.rev_commands.specs.declared.plan.Plan.TheVariants.{Missing, Refused, Replaced}

-- no live item: a dead one leaves
abbrev pub missed : State → List ℕ → Outcome → State × Outcome
missed s k gone = ((lookup s k).0, gone)

-- nothing is done
abbrev pub unchanged : State → Outcome → State × Outcome
unchanged s o = (s, o)

-- the step's end by its plan; an item that room evicted is answered as one that is missing
abbrev pub carried : {A : Type 0} → State → List ℕ → Outcome → Plan A → State × Outcome
carried s k gone Missing = missed s k gone
carried s k gone (Refused o) = unchanged s o
carried s k gone (Replaced d) = rewritten_in s d.class k d.item.value d.item.flags d.item.moment gone d.answer

-- what it takes out of the index
abbrev pub carried_removals : {A : Type 0} → State → List ℕ → Plan A → List Removal
carried_removals s k Missing = look_removals s k
carried_removals s k (Refused o) = []
carried_removals s k (Replaced d) = rewrite_in_removals s d.class k

-- the draft is a new item of the key, in its class
pub record Drafted {A : Type 0} (s : State) (k : List ℕ) (d : Draft A) : Type 0 where
  pub class : IsClass s.fixed d.class
  pub item : d.item ≡ new_item s k d.item.value d.item.flags d.item.moment
  pub fits : class_of s.fixed (footprint_of d.item) ≡ Some d.class

-- a draft is one of the key
abbrev pub Fits : {A : Type 0} → State → List ℕ → Plan A → Type 0
Fits s k Missing = Unit {0}
Fits s k (Refused o) = Unit {0}
Fits s k (Replaced d) = Drafted s k d

-- the plan leads to this end, and takes these keys out
pub record IsPlan {A : Type 0} (s : State) (k : List ℕ) (gone : Outcome) (end : State × Outcome) (removals : List Removal) (plan : Plan A) : Type 0 where
  pub done : carried s k gone plan ≡ end
  pub told : carried_removals s k plan ≡ removals
  pub fits : Fits s k plan

-- the draft gives the item i these data
pub record Renews {A : Type 0} (s : State) (i : PlainItem) (p : Payload) (done : Outcome) (d : Draft A) : Type 0 where
  pub class : class_for s i.key i.flags p ≡ Some d.class
  pub within : IsClass s.fixed d.class
  pub item : d.item ≡ new_item s i.key (bytes_of p) i.flags i.moment
  pub answer : d.answer ≡ done

-- the plan to give the item i these data: no class holds them, or there is a draft
abbrev pub IsDraft : {A : Type 0} → State → PlainItem → Payload → Outcome → Plan A → Type 0
IsDraft s i p done Missing = ⊥
IsDraft s i p done (Refused o) = (o ≡ TooLarge) × (class_for s i.key i.flags p ≡ None)
IsDraft s i p done (Replaced d) = Renews s i p done d
