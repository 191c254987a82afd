use Rattle.std.proofs.Common.{◌≡◌, false}
use Rattle.std.specs.Io.KnownBytes.{IsAtEnd}
use Rattle.rev_import_commands.specs.Feeding.{Feeds}
use Rattle.rev_import_commands.proofs.imported.refill.Given as goal

-- what the feed gave stands in the piece; and where it has no more, it is at its end
abbrev pub invariant-loop : goal.invariant-loop
invariant-loop g l = record {
  bytes : Feeds (g.T.Feed.script l.fn.feed) (g.T.Feed.script l.feed) l.fn.piece.items l.piece.items;
  end : (l.fn.has_more ≡ false → IsAtEnd (g.T.Feed.script l.fn.feed)) → l.has_more ≡ false → IsAtEnd (g.T.Feed.script l.feed);
}
