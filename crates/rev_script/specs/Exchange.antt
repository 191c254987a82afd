-- What a contract sees of a reader and a writer that belong together.
-- Rule of this project: what is read and what was written are told apart, and a read leaves alone what was written.
use Rattle.std.specs.Prelude.{ℕ, List, Option}
use Rattle.rev_output.specs.Sink.{sink_at}
use Rattle.rev_output.specs.Outbox.{PlainOutbox, contents, outbox_at}
use Rattle.rev_script.specs.Source.{Told, told_of, told_beside}
use Rattle.rev_script.specs.declared.source.LastRead.{LastRead}
use Rattle.rev_script.specs.declared.source.LastRead.TheVariants.{Gave}

-- a reader, and a writer whose bytes wait until they are sent
pub record PlainExchange : Type 0 where
  pub remaining : Option (List ℕ)  -- the bytes that the reader will give, where they are known
  pub last : LastRead  -- what the last read did
  pub failures : ℕ  -- how many reads failed, counted modulo 2 ^ 64
  pub outbox : PlainOutbox  -- what was written and what was sent

-- a reader that gives these bytes and a writer that holds those, both where they are known: nothing was read or written
abbrev pub exchange_at : Option (List ℕ) → Option (List ℕ) → ℕ → PlainExchange
exchange_at remaining held writer = record { remaining = remaining; last = Gave; failures = 0; outbox = outbox_at held writer }

-- what it tells as a source
abbrev pub told_in : PlainExchange → Told
told_in e = told_beside (told_of e.remaining e.last e.failures) (record { sink = sink_at (contents e.outbox) e.outbox.failures; writer = e.outbox.writer })
