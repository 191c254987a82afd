-- When what was played of an event agrees with its line.
-- Rule of this project: a look-up finds its key just where it is held alive, in its class, in front of what the look-up
-- itself does; a store is answered as its line says; a deleted key is gone; an evicted key is held in its class until
-- its store comes, or is gone; a page of the one class went to the other.
use Rattle.std.specs.Prelude.{◌≡◌, ◌⊎◌, ℕ, ℤ, Bool, true, false, List, Option, None, Some}
use Rattle.rev_model.specs.State.{State}
use Rattle.rev_model.specs.Client.{Verb, Payload, Stores, Deletes}
use Rattle.rev_model.specs.Actor.{Step, Client}
use Rattle.rev_tree.specs.Steps.{outcome_of}
use Rattle.rev_watch.specs.declared.event.Event.{Event}
use Rattle.rev_watch.specs.declared.event.Event.TheVariants.{LookUp, Store, Deletion, Eviction, PageMove, CrawlEnd, ConnectionOpened, ConnectionClosed, Unknown}
use Rattle.rev_watch.specs.declared.event.LookUpOutcome.{LookUpOutcome}
use Rattle.rev_watch.specs.declared.event.LookUpOutcome.TheVariants as look_ups
use Rattle.rev_watch.specs.declared.event.StoreOutcome.{StoreOutcome}
use Rattle.rev_watch.specs.declared.event.StoreOutcome.TheVariants as stores
use Rattle.rev_lead.specs.Acts.{StageState, Act, after, Led, state_of_stage}
use Rattle.rev_lead.specs.declared.role.Role.TheVariants as roles
use Rattle.rev_lead.specs.Pages.{PageMoved}
use Rattle.rev_lead.specs.Agrees.{is_alive, is_found, is_in_class, is_stored_as, holding_of}

-- the step stores an item of the key, or is a storage command that may be refused
pub record StoresKey (k : List ℕ) (e : Step) : Type 0 where
  pub verb : Verb
  pub flags : ℕ
  pub exptime : ℤ
  pub value : Payload
  pub step_is : e ≡ Client (Stores verb k flags exptime value)

-- an act stores the key and leads from s to t, and is answered as the line says
pub record StoredBy (s t : StageState) (k : List ℕ) (c : ℕ) (logged : StoreOutcome) : Type 0 where
  pub act : Act
  pub stores : StoresKey k act.step
  pub after_is : t ≡ after s act
  pub alike : is_stored_as (state_of_stage t) k c logged (outcome_of (state_of_stage s) act.step) ≡ true

-- the same, with what stands in front of it and behind it
pub record Stored (s t : StageState) (k : List ℕ) (c : ℕ) (logged : StoreOutcome) : Type 0 where
  pub front : StageState
  pub done : StageState
  pub before : Led s front
  pub stored : StoredBy front done k c logged
  pub behind : Led done t

-- a storage command found no memory, or no class
abbrev pub is_failed : StoreOutcome → Bool
is_failed stores.TooLarge = true
is_failed stores.NoMemory = true
is_failed o = false

-- such a command plays nothing by itself
abbrev pub AgreedStore : StageState → StageState → List ℕ → ℕ → StoreOutcome → Type 0
AgreedStore s t k c stores.TooLarge = Unit {0}
AgreedStore s t k c stores.NoMemory = Unit {0}
AgreedStore s t k c o = Stored s t k c o

-- a look-up finds the key in this class, in front of what it does
pub record Found (s t : StageState) (k : List ℕ) (c : ℕ) : Type 0 where
  pub front : StageState
  pub before : Led s front
  pub found : is_found (state_of_stage front) k c ≡ true
  pub behind : Led front t

-- a look-up does not find the key, in front of what it does
pub record Missed (s t : StageState) (k : List ℕ) : Type 0 where
  pub front : StageState
  pub before : Led s front
  pub missed : is_alive (state_of_stage front) k ≡ false
  pub behind : Led front t

abbrev pub AgreedLookUp : StageState → StageState → List ℕ → ℕ → LookUpOutcome → Type 0
AgreedLookUp s t k c look_ups.Found = Found s t k c
AgreedLookUp s t k c o = Missed s t k

-- the key's delete is played as what the line itself says, and nothing is held of the key behind it
pub record Deleted (s t : StageState) (k : List ℕ) : Type 0 where
  pub front : StageState
  pub before : Led s front
  pub behind : Led (after front (record { step = Client (Deletes k); role = roles.Event })) t
  pub gone : holding_of (state_of_stage t) k ≡ None

-- the key is held in its class, or gone
abbrev pub AgreedEviction : State → List ℕ → ℕ → Type 0
AgreedEviction s k c = (is_in_class s k c ≡ true) ⊎ (holding_of s k ≡ None)

-- what was played from s to t agrees with the event
abbrev pub Agreed : {A : Type 0} → Event A → StageState → StageState → Type 0
Agreed (LookUp k o c n z) s t = AgreedLookUp s t k c o
Agreed (Store k w o l c n z) s t = AgreedStore s t k c o
Agreed (Deletion k n) s t = Deleted s t k
Agreed (Eviction k f l a c z) s t = AgreedEviction (state_of_stage t) k c
Agreed (PageMove a b) s t = PageMoved (state_of_stage s) (state_of_stage t) a b
Agreed (CrawlEnd c q l x r) s t = Unit {0}
Agreed (ConnectionOpened n) s t = Unit {0}
Agreed (ConnectionClosed n) s t = Unit {0}
Agreed (Unknown k) s t = Unit {0}
