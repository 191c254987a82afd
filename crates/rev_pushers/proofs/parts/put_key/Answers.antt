use Rattle.rev_pushers.proofs.Keyed.{text_tokens, hex_tokens}
use Rattle.rev_pushers.proofs.parts.put_key.Goals as goal

pub returns-in-Ok-clause-tokens : goal.returns-in-Ok-clause-tokens
returns-in-Ok-clause-tokens g c = rw (text_tokens c.args.key.now c.in-Ok.ensures.cases.1, ← c.in-Ok.ensures.cases.0) c.string.ensures.ok

pub returns-in-Err-clause-tokens : goal.returns-in-Err-clause-tokens
returns-in-Err-clause-tokens g c = rw (hex_tokens c.args.key.now c.in-Err.ensures.cases.0) c.put_hex.ensures.tokens
