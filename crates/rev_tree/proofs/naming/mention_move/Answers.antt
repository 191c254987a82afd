use Rattle.std.proofs.Common.{OnOk, inl, inr, [], ◌++◌}
use Rattle.std.proofs.lemmas.Result.{on_ok_weaker}
use Rattle.rev_model.specs.State.{item_at}
use Rattle.rev_tree.specs.Named.{hashed}
use Rattle.rev_tree.specs.Mentioned.{AreMentioned}
use Rattle.rev_tree.proofs.Named.{none_mentioned, each_mentioned, both_mentioned, left_mentioned}
use Rattle.rev_tree.proofs.naming.mention_move.Goals as goal

pub returns-in-Leave-clause-named : goal.returns-in-Leave-clause-named
returns-in-Leave-clause-named g c =
    let n = c.args.node in
    let now = c.mention_both.new.mentions in
    let there = hashed (item_at c.args.store.now c.in-Leave.chunk) in
    let item = hashed c.in-Leave.under in
    let done : OnOk c.mention_both.result (AreMentioned now ((item ++ there) ++ (there ++ (there ++ []))) n) = on_ok_weaker c.mention_both.result
    (λ (a : AreMentioned now item n × AreMentioned now there n). left_mentioned now item there n a)
    (rw c.as_ref.ensures.value at c.mention_both.ensures.named) in
    elim c.in-Leave.is [
      | inl e ↦ rw e.3 done
      | inr e ↦ rw e.3 done
    ]

pub returns-in_ok-mention_chunk-in-Shift-clause-named : goal.returns-in_ok-mention_chunk-in-Shift-clause-named
returns-in_ok-mention_chunk-in-Shift-clause-named g c =
    let n = c.args.node in
    let now = c.mention_chunk-in-Shift.new.mentions in
    let from = hashed (item_at c.args.store.now c.in-Shift.from) in
    let to = hashed (item_at c.args.store.now c.in-Shift.to) in
    rw c.in-Shift.is (on_ok_weaker c.mention_chunk-in-Shift.result
    (λ (b : AreMentioned now to n). each_mentioned now (from ++ to) [] n
    (both_mentioned c.mention_chunk.new.mentions now from to n c.in_ok-mention_chunk-in-Shift.ensures.named c.mention_chunk-in-Shift.ensures.grows b)
    (none_mentioned now n))
    c.mention_chunk-in-Shift.ensures.named)
