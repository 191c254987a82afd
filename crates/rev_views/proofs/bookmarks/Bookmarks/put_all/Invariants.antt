use Rattle.std.proofs.Common.{◌≡◌, ◌++◌}
use Rattle.rev_views.specs.Bookmarks.{bookmarks_text}
use Rattle.rev_views.specs.Bookmarked.{plain_bookmarks}
use Rattle.rev_views.proofs.bookmarks.Bookmarks.put_all.Given as goal

-- with the bookmarks that are left, what was written becomes the whole
abbrev pub invariant-loop-name : goal.invariant-loop-name
invariant-loop-name g l = l.out.items ++ bookmarks_text (plain_bookmarks l.name-iterator) ≡ l.fn.out.items ++ bookmarks_text l.self
