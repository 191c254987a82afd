-- Lines that were written, one behind another.
use Rattle.std.proofs.Common.{◌≡◌, ℕ, ℤ, zero, suc, ◌<◌, ◌≤◌, Bool, true, false, List, [], ◌∷◌, ◌++◌, length, map, append_assoc, append-nil, refl, sym, ◌∙◌, ap, subst, arith, Some, None, Option, Result, OnOk}
use Rattle.std.specs.List.{All, filter}
use Rattle.std.specs.Prelude.{slice_index_or, if◌then◌else◌}
use Rattle.std.proofs.lemmas.List.{map-append}
use Rattle.std.proofs.lemmas.List.Elements.{All-append, filter-append}
use Rattle.rev_script.specs.Script.{ScriptLine, ActorLine, TuneLine, RetrievalLine, UpdateLine, StorageLine, cuts}
use Rattle.rev_script.specs.declared.dialect.Dialect.TheVariants.{CrLf}
use Rattle.rev_requests.specs.declared.actors.ActorStep.{ActorStep}
use Rattle.rev_requests.specs.declared.actors.ActorStep.TheVariants.{Clock, TempTtl}
use Rattle.rev_requests.specs.declared.clients.KeyCommand.{KeyCommand}
use Rattle.rev_script.specs.declared.command.StorageCommand.{StorageCommand}
use Rattle.rev_model.specs.Client.{Payload}
use Rattle.rev_watch.specs.declared.event.Event.{Event}
use Rattle.rev_watch.specs.declared.event.LogLine.{LogLine}
use Rattle.rev_import.specs.Becoming.{Becomes, event_lines, store_lines}
use Rattle.rev_import.specs.Requests.{row_lines}
use Rattle.rev_import.specs.declared.writing.Storing.{Storing}
use Rattle.rev_trace.specs.declared.row.Row.{Row}
use Rattle.rev_requests.specs.Limits.{PlainTune}
use Rattle.rev_import.specs.Setup.{tune_lines, temp_ttl_lines, setup_lines}
use Rattle.rev_import.specs.Writing.{Adds, AreLines, Writes, IsStep, is_client, whole_line}

are_more : (t u : List ℕ) (ls ms : List ScriptLine) → AreLines t ls → AreLines u ms → AreLines (t ++ u) (ls ++ ms)
are_more t u ls ms a b = record {
  cut = λ more.
      ap (cuts CrLf) (append_assoc t u more)
      ∙ a.cut (u ++ more)
      ∙ ap (λ x. map whole_line ls ++ x) (b.cut more)
      ∙ sym (append_assoc (map whole_line ls) (map whole_line ms) (cuts CrLf more))
      ∙ ap (λ x. x ++ cuts CrLf more) (sym (map-append whole_line ls ms));
}

pub adds_more : {a b c : List ℕ} {ls ms : List ScriptLine} → Adds a b ls → Adds b c ms → Adds a c (ls ++ ms)
adds_more {a} {b} {c} {ls} {ms} x y = record {
  text = x.text ++ y.text;
  behind = y.behind ∙ ap (λ z. z ++ y.text) x.behind ∙ append_assoc a x.text y.text;
  lines_are = are_more x.text y.text ls ms x.lines_are y.lines_are;
}

no_step : All IsStep []
no_step k d h = absurd (omega (arith, h))

one_step : (l : ScriptLine) → IsStep l → All IsStep (l ∷ [])
one_step l s zero d h = s
one_step l s (suc k) d h = absurd (omega (arith, h))

pub adds_none : (a : List ℕ) → Adds a a []
adds_none a = record { text = []; behind = sym (append-nil a); lines_are = record { cut = λ more. refl } }

-- nothing was written
pub writes_none : (a : List ℕ) → Writes a a []
writes_none a = record {
  lines = [];
  adds = adds_none a;
  steps = no_step;
  of_clients = refl;
}

setup_steps : (tune : Option PlainTune) (ttl : Option ℤ) → All IsStep (setup_lines tune ttl)
setup_steps None None = no_step
setup_steps None (Some n) = one_step (ActorLine (TempTtl n)) (_, refl)
setup_steps (Some t) None = one_step (TuneLine t) (_, refl)
setup_steps (Some t) (Some n) = All-append IsStep (TuneLine t ∷ []) (ActorLine (TempTtl n) ∷ []) (one_step (TuneLine t) (_, refl)) (one_step (ActorLine (TempTtl n)) (_, refl))

setup_clients : (tune : Option PlainTune) (ttl : Option ℤ) → filter is_client (setup_lines tune ttl) ≡ []
setup_clients None None = refl
setup_clients None (Some n) = refl
setup_clients (Some t) None = refl
setup_clients (Some t) (Some n) = refl

-- the lines of a setup, of which none is a client's
pub setup_writes : (a b : List ℕ) (tune : Option PlainTune) (ttl : Option ℤ) → Adds a b (setup_lines tune ttl) → Writes a b []
setup_writes a b tune ttl h = record {
  lines = setup_lines tune ttl;
  adds = h;
  steps = setup_steps tune ttl;
  of_clients = setup_clients tune ttl;
}

-- first the ones, then the others
pub more : {a b c : List ℕ} {cs ds : List ScriptLine} → Writes a b cs → Writes b c ds → Writes a c (cs ++ ds)
more {a} {b} {c} {cs} {ds} x y = record {
  lines = x.lines ++ y.lines;
  adds = adds_more x.adds y.adds;
  steps = All-append IsStep x.lines y.lines x.steps y.steps;
  of_clients = filter-append is_client x.lines y.lines ∙ ap (λ z. z ++ filter is_client y.lines) x.of_clients ∙ ap (λ z. cs ++ z) y.of_clients;
}

-- lines of actors behind lines of clients
pub then_quiet : {a b c : List ℕ} {cs : List ScriptLine} → Writes a b cs → Writes b c [] → Writes a c cs
then_quiet {a} {b} {c} {cs} x y = subst (λ z. Writes a c z) (append-nil cs) (more x y)

one : {a b : List ℕ} (l : ScriptLine) → IsStep l → Adds a b (l ∷ []) → Writes a b (filter is_client (l ∷ []))
one l s x = record { lines = l ∷ []; adds = x; steps = one_step l s; of_clients = refl }

pub clock : {a b : List ℕ} (n : ℕ) → Adds a b (ActorLine (Clock n) ∷ []) → Writes a b []
clock n x = one (ActorLine (Clock n)) (_, refl) x

pub actor : {a b : List ℕ} (c : ActorStep) → Adds a b (ActorLine c ∷ []) → Writes a b []
actor c x = one (ActorLine c) (_, refl) x

pub got : {a b : List ℕ} (key : List ℕ) → Adds a b (RetrievalLine (key ∷ []) false ∷ []) → Writes a b (RetrievalLine (key ∷ []) false ∷ [])
got key x = one (RetrievalLine (key ∷ []) false) (_, refl) x

pub updated : {a b : List ℕ} {c : KeyCommand} {key : List ℕ} → Adds a b (UpdateLine c key false ∷ []) → Writes a b (UpdateLine c key false ∷ [])
updated x = one (UpdateLine _ _ false) (_, refl) x

pub stored : {a b : List ℕ} {c : StorageCommand} {key : List ℕ} {flags : ℕ} {payload : Payload} (given exptime : ℤ) → given ≡ exptime →
    Adds a b (StorageLine c key flags given payload false ∷ []) → Writes a b (StorageLine c key flags exptime payload false ∷ [])
stored {a} {b} {c} {key} {flags} {payload} given exptime e x =
    subst (λ z. Writes a b (StorageLine c key flags z payload false ∷ [])) e (one (StorageLine c key flags given payload false) (_, refl) x)

-- behind the clock's line stand those of an event
pub wrote : {A : Type 0} {a b c : List ℕ} (line : LogLine A) (event : Event A) (own deletes : Bool) (flags : ℕ) → line.event ≡ event → flags ≤ 1 →
    Writes a b [] → Writes b c (event_lines line.time.seconds event own deletes flags) →
    (clients : List ScriptLine) × Becomes line clients × Writes a c clients
wrote line event own deletes flags is few x y = (
  event_lines line.time.seconds event own deletes flags,
  record { own = own; deletes = deletes; flags = flags; few = few; same = ap (λ e. event_lines line.time.seconds e own deletes flags) (sym is) },
  more x y,
)

-- data that can't be stored, and data that can
pub when : {a b : List ℕ} (test : Bool) (xs ys : List ScriptLine) → test ≡ true → Writes a b xs → Writes a b (if test then xs else ys)
when {a} {b} test xs ys e x = subst (λ t. Writes a b (if t then xs else ys)) (sym e) x

pub unless : {a b : List ℕ} (test : Bool) (xs ys : List ScriptLine) → test ≡ false → Writes a b ys → Writes a b (if test then xs else ys)
unless {a} {b} test xs ys e y = subst (λ t. Writes a b (if t then xs else ys)) (sym e) y

-- the same store, by another spelling
pub respelled : {a b : List ℕ} (key : List ℕ) (flags size : ℕ) (s t : Storing) (e f : ℤ) → s ≡ t → e ≡ f → Writes a b (store_lines s key flags e size) → Writes a b (store_lines t key flags f size)
respelled {a} {b} key flags size s t e f x y w =
    subst (λ z. Writes a b (store_lines t key flags z size)) y (subst (λ z. Writes a b (store_lines z key flags e size)) x w)

-- behind the clock's line stand those of a row, by another name of the clock
pub row_at : {a b c : List ℕ} {now other : ℕ} (row : Row) → now ≡ other → Writes a b [] → Writes b c (row_lines now row) → Writes a c (row_lines other row)
row_at {a} {b} {c} row e x y = subst (λ n. Writes a c (row_lines n row)) e (more x y)
