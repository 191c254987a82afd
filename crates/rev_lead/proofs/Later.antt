-- What was played before an event leaves its agreement as it is.
use Rattle.std.specs.Prelude.{◌≡◌, ℕ, Bool, true, false, not, List, Result, Ok, Err, OnOk, IfOk}
use Rattle.std.proofs.Common.{sym}
use Rattle.std.proofs.lemmas.Bool.{false≢true}
use Rattle.rev_model.specs.Actor.{Step}
use Rattle.rev_model.specs.declared.Outcome.{Outcome}
use Rattle.rev_tree.specs.Steps.{outcome_of}
use Rattle.rev_watch.specs.declared.event.Event.{Event}
use Rattle.rev_watch.specs.declared.event.Event.TheVariants.{LookUp, Store, Deletion, Eviction, PageMove, CrawlEnd, ConnectionOpened, ConnectionClosed, Unknown}
use Rattle.rev_watch.specs.declared.event.LookUpOutcome.{LookUpOutcome}
use Rattle.rev_watch.specs.declared.event.LookUpOutcome.TheVariants as look_ups
use Rattle.rev_watch.specs.declared.event.StoreOutcome.{StoreOutcome}
use Rattle.rev_watch.specs.declared.event.StoreOutcome.TheVariants as stores
use Rattle.rev_lead.specs.Acts.{StageState, Act, after, Led, state_of_stage}
use Rattle.rev_lead.specs.Agreed.{StoresKey, Stored, Found, Missed, Deleted, is_failed, AgreedStore, AgreedLookUp, Agreed}
use Rattle.rev_lead.specs.declared.role.Role.{Role}
use Rattle.rev_lead.specs.declared.agreeing.Agreement.{Agreement}
use Rattle.rev_lead.specs.declared.agreeing.Agreement.TheVariants.{Agrees}
use Rattle.rev_lead.proofs.Leading.{led_more}
use Rattle.rev_lead.proofs.Carrying.{page_moved_more}

found_more : (r s t : StageState) (k : List ℕ) (c : ℕ) → Led r s → Found s t k c → Found r t k c
found_more r s t k c l f = record { front = f.front; before = led_more r s f.front f.before l; found = f.found; behind = f.behind }

missed_more : (r s t : StageState) (k : List ℕ) → Led r s → Missed s t k → Missed r t k
missed_more r s t k l f = record { front = f.front; before = led_more r s f.front f.before l; missed = f.missed; behind = f.behind }

stored_more : (r s t : StageState) (k : List ℕ) (c : ℕ) (o : StoreOutcome) → Led r s → Stored s t k c o → Stored r t k c o
stored_more r s t k c o l f = record { front = f.front; done = f.done; before = led_more r s f.front f.before l; stored = f.stored; behind = f.behind }

pub deleted_more : (r s t : StageState) (k : List ℕ) → Led r s → Deleted s t k → Deleted r t k
deleted_more r s t k l f = record { front = f.front; before = led_more r s f.front f.before l; behind = f.behind; gone = f.gone }

pub look_up_more : (r s t : StageState) (k : List ℕ) (c : ℕ) (o : LookUpOutcome) → Led r s → AgreedLookUp s t k c o → AgreedLookUp r t k c o
look_up_more r s t k c look_ups.Found l a = found_more r s t k c l a
look_up_more r s t k c look_ups.NotFound l a = missed_more r s t k l a
look_up_more r s t k c look_ups.Expired l a = missed_more r s t k l a
look_up_more r s t k c look_ups.Flushed l a = missed_more r s t k l a
look_up_more r s t k c look_ups.Other l a = missed_more r s t k l a

pub store_more : (r s t : StageState) (k : List ℕ) (c : ℕ) (o : StoreOutcome) → Led r s → AgreedStore s t k c o → AgreedStore r t k c o
store_more r s t k c stores.TooLarge l a = a
store_more r s t k c stores.NoMemory l a = a
store_more r s t k c stores.Stored l a = stored_more r s t k c stores.Stored l a
store_more r s t k c stores.NotStored l a = stored_more r s t k c stores.NotStored l a
store_more r s t k c stores.Exists l a = stored_more r s t k c stores.Exists l a
store_more r s t k c stores.NotFound l a = stored_more r s t k c stores.NotFound l a
store_more r s t k c stores.Other l a = stored_more r s t k c stores.Other l a

pub agreed_more : {A : Type 0} (e : Event A) (r s t : StageState) → Led r s → (state_of_stage s).owner ≡ (state_of_stage r).owner → Agreed e s t → Agreed e r t
agreed_more (LookUp k o c n z) r s t l p a = look_up_more r s t k c o l a
agreed_more (Store k w o m c n z) r s t l p a = store_more r s t k c o l a
agreed_more (Deletion k n) r s t l p a = deleted_more r s t k l a
agreed_more (Eviction k f m b c z) r s t l p a = a
agreed_more (PageMove x y) r s t l p a = page_moved_more (state_of_stage r) (state_of_stage s) (state_of_stage t) x y p a
agreed_more (CrawlEnd c q m x y) r s t l p a = a
agreed_more (ConnectionOpened n) r s t l p a = a
agreed_more (ConnectionClosed n) r s t l p a = a
agreed_more (Unknown k) r s t l p a = a

-- a storage command that failed agrees
pub failed_agrees : (s t : StageState) (k : List ℕ) (c : ℕ) (o : StoreOutcome) → is_failed o ≡ true → AgreedStore s t k c o
failed_agrees s t k c stores.TooLarge e = record {}
failed_agrees s t k c stores.NoMemory e = record {}
failed_agrees s t k c stores.Stored e = absurd (false≢true e)
failed_agrees s t k c stores.NotStored e = absurd (false≢true e)
failed_agrees s t k c stores.Exists e = absurd (false≢true e)
failed_agrees s t k c stores.NotFound e = absurd (false≢true e)
failed_agrees s t k c stores.Other e = absurd (false≢true e)

-- one that was played as its line says agrees
pub stored_agrees : (s t : StageState) (k : List ℕ) (c : ℕ) (o : StoreOutcome) → Stored s t k c o → AgreedStore s t k c o
stored_agrees s t k c stores.TooLarge a = record {}
stored_agrees s t k c stores.NoMemory a = record {}
stored_agrees s t k c stores.Stored a = a
stored_agrees s t k c stores.NotStored a = a
stored_agrees s t k c stores.Exists a = a
stored_agrees s t k c stores.NotFound a = a
stored_agrees s t k c stores.Other a = a

-- the act of a step that was played
pub act_played : {E : Type 0} (s t : StageState) (k : List ℕ) (e : Step) (role : Role) (r : Result Outcome E) → StoresKey k e → OnOk r (t ≡ after s (record { step = e; role = role })) → IfOk r (λ o. o ≡ outcome_of (state_of_stage s) e) → IfOk r (λ o. (act : Act) × StoresKey k act.step × (t ≡ after s act) × (o ≡ outcome_of (state_of_stage s) act.step))
act_played s t k e role (Ok o) stores done told = (record { step = e; role = role }, stores, done, told)
act_played s t k e role (Err f) stores done told = record {}

-- a test that fails
pub not_true : (b : Bool) → not b ≡ true → b ≡ false
not_true true e = absurd (false≢true e)
not_true false e = cc

-- what an answer promises, promised of more
pub promised_more : {E : Type 0} (r : Result Agreement E) (P Q : Type 0) → (P → Q) → IfOk r (λ a. a ≡ Agrees → P) → IfOk r (λ a. a ≡ Agrees → Q)
promised_more (Ok a) P Q f told = λ e. f (told e)
promised_more (Err x) P Q f told = record {}

-- a store by another name of its class and of what its line says
pub store_as : (r s t : StageState) (k : List ℕ) (c d : ℕ) (o p : StoreOutcome) → d ≡ c → p ≡ o → Led r s → AgreedStore s t k d p → AgreedStore r t k c o
store_as r s t k c d o p e f l a = rw (sym e, sym f) (store_more r s t k d p l a)
