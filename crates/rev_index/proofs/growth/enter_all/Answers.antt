use Rattle.std.proofs.Common.{◌-◌, refl, arith}
use Rattle.rev_index.proofs.Widening.{moves_init, moves_bucket, moves_there, moves_item, moves_smaller, moves_chunk, moves_end}
use Rattle.rev_index.proofs.growth.enter_all.Goals as goal

pub chunks-init : goal.chunks-init
chunks-init g c =
    let s = c.args.chains.now in
    moves_init c.args.ends.now s.links c.args.items.now c.requires.from _ s.ends.items c.requires.kept _ _ refl c.requires.new refl

pub link-place-requires : goal.link-place-requires
link-place-requires g c =
    let s = c.chunks.chains in
    moves_there c.args.ends.now c.args.chains.now.links c.args.items.now c.requires.from _ s.ends.items s.links c.chunks.place c.chunks.number c.chunks.invariant c.in-At.chunk c.in-At.is

pub enter-requires-clause-item : goal.enter-requires-clause-item
enter-requires-clause-item g c =
    let s = c.chunks.chains in
    moves_item c.args.ends.now c.args.chains.now.links c.args.items.now c.requires.from _ s.ends.items s.links c.chunks.place c.chunks.number c.chunks.invariant c.in-At.chunk c.in-At.is
    c.link-place.result c.link-place.ensures

pub chunks-smaller-in-At : goal.chunks-smaller-in-At
chunks-smaller-in-At g c =
    let s = c.chunks.chains in
    moves_smaller c.args.ends.now c.args.chains.now.links c.args.items.now c.requires.from _ s.ends.items s.links c.chunks.place c.chunks.number c.chunks.invariant c.in-At.chunk c.in-At.is
    c.link-place.result c.link-place.ensures

pub chunks-preserved-in-At : goal.chunks-preserved-in-At
chunks-preserved-in-At g c =
    let s = c.chunks.chains in
    moves_chunk c.args.ends.now c.args.chains.now.links c.args.items.now c.requires.from _ s.ends.items s.links c.chunks.place c.chunks.number c.chunks.invariant c.in-At.chunk c.in-At.is
    c.link-place.result c.link-place.ensures c.enter.new.chains.ends.items c.enter.new.chains.links c.enter.ensures.kept c.enter.ensures.value c.enter.ensures.others

pub returns-then-number-eq0-clause-value : goal.returns-then-number-eq0-clause-value
returns-then-number-eq0-clause-value g c =
    let s = c.chunks.chains in
    moves_end c.args.ends.now c.args.chains.now.links c.args.items.now c.requires.from _ s.ends.items s.links c.chunks.place c.chunks.number c.chunks.invariant c.in-End.field-0 c.in-End.is (omega (arith, c.if-number-eq0.true))

pub chunks-smaller : goal.chunks-smaller
chunks-smaller g c =
    let s = c.chunks.chains in
    (moves_bucket c.args.ends.now c.args.chains.now.links c.args.items.now c.requires.from _ s.ends.items s.links c.chunks.place c.chunks.number c.chunks.invariant c.in-End.field-0 c.in-End.is (c.chunks.number - 1) (omega (arith, c.if-number-eq0.false)) _).1

pub chunks-preserved : goal.chunks-preserved
chunks-preserved g c =
    let s = c.chunks.chains in
    (moves_bucket c.args.ends.now c.args.chains.now.links c.args.items.now c.requires.from _ s.ends.items s.links c.chunks.place c.chunks.number c.chunks.invariant c.in-End.field-0 c.in-End.is (c.chunks.number - 1) (omega (arith, c.if-number-eq0.false)) _).0
