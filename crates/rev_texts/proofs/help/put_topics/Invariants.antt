use Rattle.std.proofs.Common.{◌≡◌, ◌++◌, map, take}
use Rattle.rev_texts.specs.Help.{topics_text, topic_of}
use Rattle.rev_texts.proofs.help.put_topics.Given as goal

-- what there is to say of the forms before this one is written
abbrev pub invariant-loop-topic : goal.invariant-loop-topic
invariant-loop-topic g l = l.out.items ≡ l.fn.out.items ++ topics_text l.word (map topic_of (take l.topic-index l.topics))
