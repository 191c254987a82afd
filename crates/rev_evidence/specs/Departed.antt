-- The keys that left in front of the root of a session, with what is told of the last leaving of each.
-- Rule of this project: at least the latest 1,048,576 of them are remembered. They stand in two parts, and a key that
-- left is noted in the later one. Once that is full it becomes the earlier part, whose keys are forgotten. A start of the
-- server makes no room: all keys that it lost are noted.
use Rattle.std.specs.Prelude.{ℕ, nat_le, cond, List, [], length, Option, None, Some}
use Rattle.std.specs.Map.{lookup}
use Rattle.std.specs.Str.{bytes_eq}
use Rattle.indexmap.specs.IndexMap.{insert_entry}
use Rattle.rev_watch.specs.declared.event.Timestamp.{Timestamp}
use Rattle.rev_evidence.specs.Verdicts.{told}
use Rattle.rev_evidence.specs.declared.departed.Told.{Told}
use Rattle.rev_evidence.specs.declared.verdict.Reason.TheVariants as reasons
use Rattle.rev_evidence.specs.declared.verdict.Evidence.TheVariants as evidence

-- the keys of the two parts, each with what is told of it
pub record PlainDeparted : Type 0 where
  pub late : List (List ℕ × Told)
  pub early : List (List ℕ × Told)

-- no key left
abbrev pub nobody : PlainDeparted
nobody = record { late = []; early = [] }

-- the later part has room for one more
abbrev pub with_room : PlainDeparted → PlainDeparted
with_room d = cond (nat_le 1048576 (length d.late)) (record { late = []; early = d.late }) d

-- a key is in the later part, with what is told of it
abbrev pub with_key : PlainDeparted → List ℕ → Told → PlainDeparted
with_key d k t = record { late = insert_entry bytes_eq d.late k t; early = d.early }

-- a key left, and this is told of it
abbrev pub with_left : PlainDeparted → List ℕ → Told → PlainDeparted
with_left d k t = with_key (with_room d) k t

-- what is told of a key that the server held when it was started anew
abbrev pub restarted : Timestamp → Told
restarted time = record { verdict = told reasons.Restarted evidence.Logged; time = time; after = None }

-- the server was started anew, and held a key
abbrev pub with_lost : PlainDeparted → List ℕ → Timestamp → PlainDeparted
with_lost d k time = with_key d k (restarted time)

-- what is known first, and else what is known then
abbrev pub or_then : Option Told → Option Told → Option Told
or_then None t = t
or_then (Some t) u = Some t

-- what a part has of a key
abbrev pub told_in : List (List ℕ × Told) → List ℕ → Option Told
told_in part k = lookup (bytes_eq k) part

-- what is told of the last leaving of a key
abbrev pub told_of : PlainDeparted → List ℕ → Option Told
told_of d k = or_then (told_in d.late k) (told_in d.early k)
