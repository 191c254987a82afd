-- Whether the rules cover the item that an event of a log stored.
-- Rule of this project: no rule is there for an item in several chunks: one with more bytes, header, key and data together,
-- than `slab_chunk_max`. Nor is there one for a server whose classes are others than its settings give, which its first
-- hundred stores show.
use Rattle.std.specs.Prelude.{ℕ, nat_lt, Bool, true, false, ◌&&◌, if◌then◌else◌, List, length, Option, Some, None}
use Rattle.rev_items.specs.Rules.{footprint}
use Rattle.rev_lead.specs.declared.agreeing.Agreement.{Agreement}
use Rattle.rev_lead.specs.declared.agreeing.Agreement.TheVariants.{Agrees, Disagrees}
use Rattle.rev_lead.specs.declared.agreeing.Disagreement.{Disagreement}
use Rattle.rev_lead.specs.declared.agreeing.Disagreement.TheVariants as kinds
use Rattle.rev_watch.specs.declared.event.Event.{Event}
use Rattle.rev_watch.specs.declared.event.Event.TheVariants.{Store}
use Rattle.rev_watch.specs.declared.event.StoreOutcome.{StoreOutcome}
use Rattle.rev_watch.specs.declared.event.StoreOutcome.TheVariants as stored
use Rattle.rev_replay.specs.declared.coverage.Coverage.{Coverage}
use Rattle.rev_replay.specs.declared.coverage.Coverage.TheVariants.{Checked, Anyway}
use Rattle.rev_replay.specs.declared.fault.ReplayFault.{ReplayFault}
use Rattle.rev_replay.specs.declared.fault.ReplayFault.TheVariants.{Chunked, OtherClass}

-- an item of this key and so many bytes of data has more bytes than fit a chunk
abbrev pub is_chunked : List ℕ → (size most : ℕ) → Bool
is_chunked k size most = nat_lt most (footprint (length k) 0 size)

-- the replay has another class for an item, or none
abbrev pub is_other : Disagreement → Bool
is_other kinds.OtherClass = true
is_other d = false

abbrev pub has_other_class : Agreement → Bool
has_other_class Agrees = false
has_other_class (Disagrees d) = is_other d

-- what is not covered of an item, behind so many stores
abbrev pub of_item : (most stores : ℕ) → Agreement → List ℕ → (size class : ℕ) → Option ReplayFault
of_item most n a k size class =
    if is_chunked k size most then Some (Chunked most)
    else (if nat_lt n 100 && has_other_class a then Some (OtherClass size class) else None)

-- the same of a storage command that ended so
abbrev pub of_store : (most stores : ℕ) → Agreement → StoreOutcome → List ℕ → (size class : ℕ) → Option ReplayFault
of_store most n a stored.Stored k size class = of_item most n a k size class
of_store most n a o k size class = None

-- the same of an event
abbrev pub of_event : {A : Type 0} → (most stores : ℕ) → Agreement → Event A → Option ReplayFault
of_event most n a (Store k v o t c con s) = of_store most n a o k s c
of_event most n a e = None

-- what is not covered of an event; nothing where logs are replayed anyway
abbrev pub uncovered : {A : Type 0} → Coverage → (stores : ℕ) → Agreement → Event A → Option ReplayFault
uncovered (Checked most) n a e = of_event most n a e
uncovered Anyway n a e = None
