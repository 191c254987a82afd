use Rattle.std.proofs.Common.{rules}
use Rattle.rev_model.specs.Actor.{Pull, Bump, Crawl, Schedule, Advance, Clock}
use Rattle.rev_lines.proofs.Putting.{puts, pull_has, bump_has, crawl_has, schedule_has, advance_has, clock_has}
use Rattle.rev_lines.proofs.line.put_actor.Goals as goal

pub returns-in_ok-put_queue-in-Pull : goal.returns-in_ok-put_queue-in-Pull
returns-in_ok-put_queue-in-Pull g c = rw c.in-Pull.is (puts _ _ (Pull c.in-Pull.class c.in-Pull.queue) (pull_has _ _ (search rules)) c.in_ok-put_queue-in-Pull.ensures)

pub returns-in_ok-put_words-in-Bump : goal.returns-in_ok-put_words-in-Bump
returns-in_ok-put_words-in-Bump g c = rw c.in-Bump.is (puts _ _ (Bump) (bump_has) c.in_ok-put_words-in-Bump.ensures)

pub returns-in_ok-put_queue-in-Crawl : goal.returns-in_ok-put_queue-in-Crawl
returns-in_ok-put_queue-in-Crawl g c = rw c.in-Crawl.is (puts _ _ (Crawl c.in-Crawl.class c.in-Crawl.queue) (crawl_has _ _ (search rules)) c.in_ok-put_queue-in-Crawl.ensures)

pub returns-in_ok-put_two_numbers-in-Reassign : goal.returns-in_ok-put_two_numbers-in-Reassign
returns-in_ok-put_two_numbers-in-Reassign g c = rw c.in-Reassign.is (puts _ _ (Schedule c.in-Reassign.source c.in-Reassign.target) (schedule_has _ _ (search rules) (search rules)) c.in_ok-put_two_numbers-in-Reassign.ensures)

pub returns-in_ok-put_words-in-Advance : goal.returns-in_ok-put_words-in-Advance
returns-in_ok-put_words-in-Advance g c = rw c.in-Advance.is (puts _ _ (Advance) (advance_has) c.in_ok-put_words-in-Advance.ensures)

pub returns-in_ok-put_number-in-Clock : goal.returns-in_ok-put_number-in-Clock
returns-in_ok-put_number-in-Clock g c = rw c.in-Clock.is (puts _ _ (Clock c.in-Clock.now) (clock_has _ (search rules)) c.in_ok-put_number-in-Clock.ensures)
