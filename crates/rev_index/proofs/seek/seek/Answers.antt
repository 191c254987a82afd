use Rattle.std.proofs.Common.{sym, ◌∙◌}
use Rattle.rev_index.proofs.Kept.{leads_there, seek_init, seek_end, seek_found, seek_smaller, seek_more}
use Rattle.rev_index.proofs.seek.seek.Goals as goal

pub walk-init : goal.walk-init
walk-init g c =
    let s = c.args.chains.now in
    seek_init s.ends.items s.links c.args.items.now c.requires.kept c.args.bucket c.requires.bucket c.args.key.now

pub link-requires : goal.link-requires
link-requires g c = leads_there _ _ _ c.walk.invariant.leads

pub returns-in-End : goal.returns-in-End
returns-in-End g c =
    let s = c.args.chains.now in
    seek_end s.ends.items s.links c.args.items.now c.requires.kept c.args.bucket c.requires.bucket c.args.key.now c.walk.place c.walk.invariant c.link.result c.link.ensures c.in-End.field-0 c.in-End.is

pub walk-preserved : goal.walk-preserved
walk-preserved g c =
    let s = c.args.chains.now in
    seek_more s.ends.items s.links c.args.items.now c.requires.kept c.args.bucket c.requires.bucket c.args.key.now c.walk.place c.walk.invariant c.link.result c.link.ensures c.in-At.chunk c.in-At.is (sym c.has_key.ensures ∙ c.if-has_key.false)

pub walk-smaller : goal.walk-smaller
walk-smaller g c =
    let s = c.args.chains.now in
    seek_smaller s.ends.items s.links c.args.items.now c.requires.kept c.args.bucket c.requires.bucket c.args.key.now c.walk.place c.walk.invariant c.link.result c.link.ensures c.in-At.chunk c.in-At.is

pub returns-then-has_key : goal.returns-then-has_key
returns-then-has_key g c =
    let s = c.args.chains.now in
    seek_found s.ends.items s.links c.args.items.now c.requires.kept c.args.bucket c.requires.bucket c.args.key.now c.walk.place c.walk.invariant c.link.result c.link.ensures c.in-At.chunk c.in-At.is (sym c.has_key.ensures ∙ c.if-has_key.true)
