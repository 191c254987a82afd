use Rattle.std.proofs.Common.{◌++◌}
use Rattle.std.proofs.lemmas.Result.{on_ok_weaker}
use Rattle.rev_model.specs.State.{item_at}
use Rattle.rev_tree.specs.Named.{hashed}
use Rattle.rev_lives.specs.Hashes.{Gathers}
use Rattle.rev_lives.proofs.Lacks.{gathers_more, gathers_one}
use Rattle.rev_lives.proofs.hashes.note_change.Goals as goal

pub returns-in_ok-note_chunk-in-Shift : goal.returns-in_ok-note_chunk-in-Shift
returns-in_ok-note_chunk-in-Shift g c =
    let old = c.args.hashes.now.items in
    let now = c.note_chunk.new.hashes.items in
    let new = c.note_chunk-in-Shift.new.hashes.items in
    let from = hashed (item_at c.args.store.now c.in-Shift.from) in
    let to = hashed (item_at c.args.store.now c.in-Shift.to) in
    rw c.in-Shift.is (on_ok_weaker c.note_chunk-in-Shift.result
    (λ (b : Gathers now new to). gathers_one old new (from ++ to) (gathers_more old now new from to c.in_ok-note_chunk-in-Shift.ensures b))
    c.note_chunk-in-Shift.ensures)
