use Rattle.std.proofs.Common.{◌∙◌, ap}
use Rattle.rev_views.specs.Bookmarks.{with_bookmark}
use Rattle.rev_views.specs.Bookmarked.{plain_bookmarks}
use Rattle.rev_views.proofs.Bookmarked.{with_bookmark-insert}
use Rattle.rev_views.proofs.bookmarks.Bookmarks.set.Goals as goal

pub returns-clause-ok : goal.returns-clause-ok
returns-clause-ok g c =
    ap (λ es. plain_bookmarks es) c.in_ok-insert.ensures.entries
    ∙ with_bookmark-insert c.args.name c.args.node c.self.inside.nodes.entries
    ∙ ap (λ m. with_bookmark m c.args.name.items c.args.node.0) c.self.view_is
