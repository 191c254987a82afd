use Rattle.std.proofs.Common.{◌∙◌, sym}
use Rattle.rev_watch.proofs.WordLemmas.{stands_twice, keeps_value, keeps_none, all_looked_at}
use Rattle.rev_watch.specs.Field.{name_of}
use Rattle.rev_watch.proofs.fields.optional_in.Goals as goal
use Rattle.rev_watch.proofs.fields.optional_in.Goals.{in-Some+else-is_some, in_default}

pub returns-then-is_some : goal.returns-then-is_some
returns-then-is_some c =
    stands_twice c.args.field c.as_bytes-name.result.now c.args.fields.now c.loop-word.word-index _ c.loop-word.found c.value_behind.result c.in-Some.value c.loop-word-test.true
    (c.as_bytes-name.ensures.value ∙ c.name.ensures) c.loop-word.invariant c.value_behind.ensures (sym c.is_some.ensures ∙ c.if-is_some.true) c.in-Some.is

pub loop-word-preserved : goal.loop-word-preserved
loop-word-preserved c =
    elim c.match-value_behind.branch [
      | in-Some+else-is_some w ↦
          keeps_value (name_of c.args.field) c.as_bytes-name.result.now c.args.fields.now c.loop-word.word-index _ c.loop-word.found c.value_behind.result c.match-value_behind.found w.in-Some.value c.loop-word-test.true
          (c.as_bytes-name.ensures.value ∙ c.name.ensures) c.loop-word.invariant c.value_behind.ensures (sym w.is_some.ensures ∙ w.if-is_some.false) w.in-Some.is w.found-is
      | in_default w ↦
          keeps_none (name_of c.args.field) c.as_bytes-name.result.now c.args.fields.now c.loop-word.word-index _ c.loop-word.found c.value_behind.result c.match-value_behind.found c.loop-word-test.true
          (c.as_bytes-name.ensures.value ∙ c.name.ensures) c.loop-word.invariant c.value_behind.ensures w.in_default.is w.found-is
    ]

pub returns : goal.returns
returns c = all_looked_at c.args.field c.args.fields.now c.loop-word.word-index c.loop-word.found c.loop-word-test.false c.loop-word.invariant
