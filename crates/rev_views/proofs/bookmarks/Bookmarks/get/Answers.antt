use Rattle.std.proofs.Common.{◌∙◌, ap}
use Rattle.std.specs.Option.{option_map}
use Rattle.rev_views.specs.Bookmarks.{bookmarked}
use Rattle.rev_views.proofs.Bookmarked.{bookmarked-lookup}
use Rattle.rev_views.proofs.bookmarks.Bookmarks.get.Goals as goal

pub returns : goal.returns
returns g c =
    ap (option_map (λ n. n.0)) (c.copied.ensures ∙ c.get.ensures.value)
    ∙ bookmarked-lookup c.args.name.now c.self.inside.nodes.entries
    ∙ ap (λ m. bookmarked m c.args.name.now) c.self.view_is
