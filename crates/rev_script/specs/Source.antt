-- What a source tells of itself.
-- Rule of this project: reads that fail are counted, and after the end comes nothing.
use Rattle.std.specs.Prelude.{ℕ, ◌+◌, ◌%◌, List, [], Option, None, Some, ◌==◌, ◌&&◌, nat_lt, if◌then◌else◌, Result, Ok, Err}
use Rattle.rev_output.specs.Sink.{PlainSink, sink_at}
use Rattle.rev_script.specs.declared.source.LastRead.{LastRead}
use Rattle.rev_script.specs.declared.source.LastRead.TheVariants.{Gave, Ended, Failed}

-- what a source is written to, where it is a writer too: a read leaves it alone
pub record Beside : Type 0 where
  pub sink : PlainSink  -- the bytes that it holds, where they are known, and how many writes failed
  pub writer : ℕ  -- which writer it is: its ghost name

-- nothing is known of a writer
abbrev pub unwritten : Beside
unwritten = record { sink = sink_at None 0; writer = 0 }

-- what a contract sees of a source
pub record Told : Type 0 where
  pub remaining : Option (List ℕ)  -- the bytes that reads will give, where they are known
  pub last : LastRead  -- what the last read did
  pub failures : ℕ  -- how many reads failed, counted modulo 2 ^ 64
  pub identity : ℕ  -- which reader it is: of a `&mut` its ghost name
  pub beside : Beside  -- what it is written to

-- after the end nothing is left
abbrev pub left_of : LastRead → Option (List ℕ) → Option (List ℕ)
left_of Gave bytes = bytes
left_of Ended bytes = Some []
left_of Failed bytes = bytes

-- what a reader of std tells, where its last read and the count of its failures are known
abbrev pub told_of : Option (List ℕ) → LastRead → ℕ → Told
told_of bytes last failures = record { remaining = left_of last bytes; last = last; failures = failures; identity = 0; beside = unwritten }

-- what a `&mut` to a source tells
abbrev pub told_by : Told → ℕ → Told
told_by t name = record { remaining = t.remaining; last = t.last; failures = t.failures; identity = name; beside = t.beside }

-- what a read did, by its answer and the room in its buffer: after the end, the end; none where there was room is the
-- end
abbrev pub last_of : {E : Type 0} → LastRead → Result ℕ E → ℕ → LastRead
last_of Ended result room = Ended
last_of Gave (Ok n) room = if (n == 0) && nat_lt 0 room then Ended else Gave
last_of Gave (Err e) room = Failed
last_of Failed (Ok n) room = if (n == 0) && nat_lt 0 room then Ended else Gave
last_of Failed (Err e) room = Failed

-- one failure more, so that the count is never the same behind it
abbrev pub one_more : ℕ → ℕ
one_more n = (n + 1) % 18446744073709551616

-- the count behind a read
abbrev pub failures_after : {E : Type 0} → ℕ → Result ℕ E → ℕ
failures_after n (Ok k) = n
failures_after n (Err e) = one_more n

-- the same source, which was written to so
abbrev pub with_sink : Told → PlainSink → Told
with_sink t sink = record t { beside = record t.beside { sink = sink } }

-- a source beside a writer
abbrev pub told_beside : Told → Beside → Told
told_beside t beside = record t { beside = beside }
