use Rattle.std.proofs.Common.{◌∙◌, ap, ◌%◌, length}
use Rattle.rev_index.proofs.Moves.{find_value}
use Rattle.rev_index.proofs.index.Index.find.Goals as goal

pub returns : goal.returns
returns g c =
    let s = c.self.inside in
    find_value s.chains.ends.items s.chains.links s.items c.self.invariant c.args.self.now c.self.view_is c.args.key.now c.bucket-bucket.result.number (c.bucket-bucket.ensures ∙ ap (λ h. h % length s.chains.ends.items) c.hash.ensures) c.seek.result c.seek.ensures
