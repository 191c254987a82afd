use Rattle.std.proofs.Common.{sym, ◌∙◌}
use Rattle.rev_model.specs.Chunk.{same_entry}
use Rattle.rev_model.specs.State.{queue_of}
use Rattle.rev_model.proofs.Undo.{tells_entry}
use Rattle.rev_tests.proofs.memory.Walk.{next-has}
use Rattle.rev_tests.proofs.memory.pictures.Picture.put_queue.Goals as goal

pub entries-preserved : goal.entries-preserved
entries-preserved g c = next-has same_entry tells_entry.self c.entries.behind (queue_of c.args.store.now c.args.class c.args.queue) c.in-Some.entry (sym c.queue_entry.ensures ∙ c.in-Some.is)
