use Rattle.std.proofs.Common.{sym, ◌∙◌}
use Rattle.rev_model.specs.Chunk.{same_chunk}
use Rattle.rev_model.specs.State.{free_of}
use Rattle.rev_model.proofs.Undo.{tells_chunk}
use Rattle.rev_tests.proofs.memory.Walk.{next-has}
use Rattle.rev_tests.proofs.memory.pictures.Picture.put_free.Goals as goal

pub chunks-preserved : goal.chunks-preserved
chunks-preserved g c = next-has same_chunk tells_chunk.self c.chunks.behind (free_of c.args.store.now c.args.class) c.in-Some.chunk (sym c.free_at.ensures ∙ c.in-Some.is)
