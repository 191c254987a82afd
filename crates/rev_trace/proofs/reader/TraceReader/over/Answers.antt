use Rattle.std.proofs.Common.{inr, refl}
use Rattle.rev_trace.proofs.reader.TraceReader.over.Goals as goal

pub returns-clause-steady : goal.returns-clause-steady
returns-clause-steady g c = (
  rw (c.from_reader-rows.ensures.config, c.quoting.ensures, c.flexible.ensures, c.has_headers.ensures, c.new.ensures.config) refl,
  rw (c.from_reader-rows.ensures.trim, c.quoting.ensures, c.flexible.ensures, c.has_headers.ensures, c.new.ensures.trim) refl,
  inr (inr (rw (c.from_reader-rows.ensures.has_headers, c.quoting.ensures, c.flexible.ensures, c.has_headers.ensures) refl, c.from_reader-rows.ensures.headers)),
)

pub returns-clause-starts : goal.returns-clause-starts
returns-clause-starts g c = (c.from_reader-rows.ensures.source, c.from_reader-rows.ensures.state, refl)
