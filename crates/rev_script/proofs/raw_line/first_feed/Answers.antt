use Rattle.rev_script.proofs.Pieces.{feed_some, feed_none}
use Rattle.rev_script.proofs.raw_line.first_feed.Goals as goal

pub returns-clause-some : goal.returns-clause-some
returns-clause-some c = feed_some c.args.front.now c.memchr.result c.memchr.ensures

pub returns-clause-none : goal.returns-clause-none
returns-clause-none c = feed_none c.args.front.now c.memchr.result c.memchr.ensures
