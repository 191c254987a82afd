use Rattle.std.proofs.Common.{refl}
use Rattle.rev_index.specs.Index.{index_of}
use Rattle.rev_links.specs.declared.places.RingPlace.TheVariants.{At}
use Rattle.rev_index.proofs.Widening.{at_inj}
use Rattle.rev_index.proofs.Moves.{item_there, bind_there, bind_gap, bind_chained, bind_value}
use Rattle.rev_index.proofs.growth.enter.Goals as goal

pub home-bucket-requires-clause-item : goal.home-bucket-requires-clause-item
home-bucket-requires-clause-item g c =
    let s = c.args.chains.now in
    let r = c.requires.item in
    item_there s.ends.items s.links c.args.items.now c.requires.kept (index_of s.ends.items s.links c.args.items.now) refl c.args.chunk r.0 r.1

pub insert-requires-clause-there : goal.insert-requires-clause-there
insert-requires-clause-there g c =
    let s = c.args.chains.now in
    let r = c.requires.item in
    bind_there s.ends.items s.links c.args.items.now c.requires.kept (index_of s.ends.items s.links c.args.items.now) refl c.args.chunk r.0 r.1 r.2 c.home-bucket.result c.home-bucket.ensures

pub insert-requires-clause-gap : goal.insert-requires-clause-gap
insert-requires-clause-gap g c =
    let s = c.args.chains.now in
    let r = c.requires.item in
    bind_gap s.ends.items s.links c.args.items.now c.requires.kept (index_of s.ends.items s.links c.args.items.now) refl c.args.chunk r.0 r.1 r.2 c.home-bucket.result c.home-bucket.ensures

pub returns-clause-kept : goal.returns-clause-kept
returns-clause-kept g c =
    let s = c.args.chains.now in
    let r = c.requires.item in
    bind_chained s.ends.items s.links c.args.items.now c.requires.kept (index_of s.ends.items s.links c.args.items.now) refl c.args.chunk r.0 r.1 r.2 c.home-bucket.result c.home-bucket.ensures _ _ c.insert.ensures.shape c.insert.ensures.value

pub returns-clause-value : goal.returns-clause-value
returns-clause-value g c =
    let s = c.args.chains.now in
    let r = c.requires.item in
    bind_value s.ends.items s.links c.args.items.now c.requires.kept (index_of s.ends.items s.links c.args.items.now) refl c.args.chunk r.0 r.1 r.2 c.home-bucket.result c.home-bucket.ensures _ _ c.insert.ensures.shape c.insert.ensures.value

pub returns-clause-others : goal.returns-clause-others
returns-clause-others g c = λ other apart. c.insert.ensures.value.opened.next_same (At other) (λ e. cc) (λ e. apart (at_inj other c.args.chunk e))
