use Rattle.std.proofs.Common.{◌≡◌, ◌++◌}
use Rattle.rev_explain.specs.Story.{story}
use Rattle.rev_views.specs.Reasons.{events_text}
use Rattle.rev_views.proofs.reasons.put_story.Given as goal

-- with the events that are left, what was written becomes the whole
abbrev pub invariant-loop-event : goal.invariant-loop-event
invariant-loop-event g l = l.out.items ++ events_text l.log l.key l.event-iterator.rest.items ≡ l.fn.out.items ++ events_text l.fn.log l.key (story l.session.root l.session.rows l.session.current l.key)
