-- The values of fields, each by its name, wherever it stands. The first fault decides, in the order in which a line's
-- event asks for its fields.
-- Rule of memcached: how each value is written.
-- Rule of this project: which fault is told.
use Rattle.std.specs.Prelude.{ℕ, ℤ, if◌then◌else◌, nat_le, List, [], ◌∷◌, length, Option, None, Some, Result, Ok, Err, Bool, true, false, codes}
use Rattle.std.specs.Option.{ok_or, option_map}
use Rattle.std.specs.Str.{bytes_eq}
use Rattle.rev_model.specs.declared.Queue.{Queue}
use Rattle.rev_model.specs.declared.Queue.TheVariants as queues
use Rattle.rev_script.specs.Number.{number, number_u32, signed}
use Rattle.rev_watch.specs.Field.{name_of}
use Rattle.rev_watch.specs.Keys.{key_of}
use Rattle.rev_watch.specs.Words.{words, values}
use Rattle.rev_watch.specs.declared.event.LookUpOutcome.{LookUpOutcome}
use Rattle.rev_watch.specs.declared.event.LookUpOutcome.TheVariants as look_ups
use Rattle.rev_watch.specs.declared.event.StoreCommand.{StoreCommand}
use Rattle.rev_watch.specs.declared.event.StoreCommand.TheVariants as commands
use Rattle.rev_watch.specs.declared.event.StoreOutcome.{StoreOutcome}
use Rattle.rev_watch.specs.declared.event.StoreOutcome.TheVariants as stores
use Rattle.rev_watch.specs.declared.fault.Field.{Field}
use Rattle.rev_watch.specs.declared.fault.Field.TheVariants as fields
use Rattle.rev_watch.specs.declared.fault.LineFault.{LineFault}
use Rattle.rev_watch.specs.declared.fault.LineFault.TheVariants.{Missing, Twice, BadValue, TooManyFields}

-- what follows from a value, or the fault
abbrev pub and_then : {T U E : Type 0} → Result T E → (T → Result U E) → Result U E
and_then (Ok x) f = f x
and_then (Err e) f = Err e

-- the only value of a field, or none
abbrev pub at_most_one : Field → List (List ℕ) → Result (Option (List ℕ)) LineFault
at_most_one field [] = Ok None
at_most_one field (v ∷ []) = Ok (Some v)
at_most_one field (v ∷ w ∷ vs) = Err (Twice field)

-- what a field's word says, where it stands in the line
unfoldable pub optional_in : Field → List (List ℕ) → Result (Option (List ℕ)) LineFault
optional_in field ws = at_most_one field (values (name_of field) ws)

-- what a field's word says
unfoldable pub value_in : Field → List (List ℕ) → Result (List ℕ) LineFault
value_in field ws = and_then (optional_in field ws) (λ v. ok_or v (Missing field))

-- ---- numbers: decimal digits, for a signed one with a `-` in front or without a sign

-- the number of a field, at most the limit
unfoldable pub number_in : ℕ → Field → List (List ℕ) → Result ℕ LineFault
number_in limit field ws = and_then (value_in field ws) (λ v. ok_or (number limit v) (BadValue field))

-- the signed number of a field
unfoldable pub signed_in : Field → List (List ℕ) → Result ℤ LineFault
signed_in field ws = and_then (value_in field ws) (λ v. ok_or (signed v) (BadValue field))

-- a signed number, or none
abbrev pub signed_or_none : Field → Option (List ℕ) → Result (Option ℤ) LineFault
signed_or_none field None = Ok None
signed_or_none field (Some v) = ok_or (option_map (λ z. Some z) (signed v)) (BadValue field)

-- a signed number of a field, or none
unfoldable pub optional_signed_in : Field → List (List ℕ) → Result (Option ℤ) LineFault
optional_signed_in field ws = and_then (optional_in field ws) (signed_or_none field)

-- ---- words

-- of a look-up; any word is one
unfoldable pub look_up_outcome : List ℕ → LookUpOutcome
look_up_outcome w =
    if bytes_eq w (codes "found") then look_ups.Found
    else (if bytes_eq w (codes "not_found") then look_ups.NotFound
    else (if bytes_eq w (codes "expired") then look_ups.Expired
    else (if bytes_eq w (codes "flushed") then look_ups.Flushed
    else look_ups.Other)))

-- of a storage command; any word is one
unfoldable pub store_command : List ℕ → StoreCommand
store_command w =
    if bytes_eq w (codes "set") then commands.Set
    else (if bytes_eq w (codes "add") then commands.Add
    else (if bytes_eq w (codes "replace") then commands.Replace
    else (if bytes_eq w (codes "append") then commands.Append
    else (if bytes_eq w (codes "prepend") then commands.Prepend
    else (if bytes_eq w (codes "cas") then commands.Cas
    else commands.Other)))))

-- what became of a storage command
unfoldable pub store_outcome : List ℕ → StoreOutcome
store_outcome w =
    if bytes_eq w (codes "stored") then stores.Stored
    else (if bytes_eq w (codes "not_stored") then stores.NotStored
    else (if bytes_eq w (codes "exists") then stores.Exists
    else (if bytes_eq w (codes "not_found") then stores.NotFound
    else (if bytes_eq w (codes "too_large") then stores.TooLarge
    else (if bytes_eq w (codes "no_memory") then stores.NoMemory
    else stores.Other)))))

-- whether an evicted item had been fetched: `yes` or `no`
unfoldable pub fetched : List ℕ → Result Bool LineFault
fetched w =
    if bytes_eq w (codes "yes") then Ok true
    else (if bytes_eq w (codes "no") then Ok false
    else Err (BadValue fields.Fetch))

-- the seconds that an evicted item had left; `-1`: it has no time to live
unfoldable pub time_left : List ℕ → Result (Option ℕ) LineFault
time_left w =
    if bytes_eq w (codes "-1") then Ok None
    else ok_or (option_map (λ n. Some n) (number_u32 w)) (BadValue fields.Ttl)

-- a queue, by its name
unfoldable pub queue : List ℕ → Result Queue LineFault
queue w =
    if bytes_eq w (codes "hot") then Ok queues.Hot
    else (if bytes_eq w (codes "warm") then Ok queues.Warm
    else (if bytes_eq w (codes "cold") then Ok queues.Cold
    else (if bytes_eq w (codes "temp") then Ok queues.Temp
    else Err (BadValue fields.Lru))))

-- the word of this field, looked at
abbrev pub word_in : {T : Type 0} → (List ℕ → Result T LineFault) → Field → List (List ℕ) → Result T LineFault
word_in f field ws = and_then (value_in field ws) f

-- the key, and by how many bytes it is longer than the server's
unfoldable pub key_in : List (List ℕ) → Result (List ℕ × ℕ) LineFault
key_in ws = word_in key_of fields.Key ws

-- the words of the text behind an event's kind: at most 32
unfoldable pub fields_of : List ℕ → Result (List (List ℕ)) LineFault
fields_of text = if nat_le (length (words text)) 32 then Ok (words text) else Err TooManyFields
