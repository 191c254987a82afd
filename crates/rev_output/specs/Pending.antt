-- What waits for a writer, and what the writer holds.
-- Rule of this project: small writes are kept together.
use Rattle.std.specs.Prelude.{ℕ, List, Option}
use Rattle.std.specs.Io.KnownBytes.{append_known}
use Rattle.rev_output.specs.declared.outbox.Pending.{Pending}

-- the bytes that the writer holds, and then those that wait for it, where the former are known
abbrev pub held : {W : Type 0} → (W → Option (List ℕ)) → Pending W → Option (List ℕ)
held contents p = append_known (contents p.writer.now) p.unsent.items
