use Rattle.std.proofs.Common.{◌≡◌, ◌++◌, map, take}
use Rattle.rev_texts.specs.Help.{lines_text, topic_of}
use Rattle.rev_texts.proofs.help.put_lines.Given as goal

-- the lines of the forms before this one are written
abbrev pub invariant-loop-topic : goal.invariant-loop-topic
invariant-loop-topic g l = l.out.items ≡ l.fn.out.items ++ lines_text (map topic_of (take l.topic-index l.topics))
