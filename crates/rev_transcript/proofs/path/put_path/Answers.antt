use Rattle.std.proofs.Common.{◌+◌, sym, subst, arith}
use Rattle.rev_requests.specs.Plain.{plain_step}
use Rattle.rev_transcript.proofs.Walking.{Walked, walk_starts, walk_more, walk_ends}
use Rattle.rev_transcript.proofs.path.put_path.Goals as goal

pub loop-depth-init : goal.loop-depth-init
loop-depth-init g c = walk_starts c.args.session.now c.args.out.now.items

pub loop-depth-preserved : goal.loop-depth-preserved
loop-depth-preserved g c =
    let v = c.args.session.now in
    subst (λ t. Walked v (c.loop-depth.depth + 1) c.args.out.now.items c.put_step.new.out.items t) (sym c.both-all_told.ensures)
    (walk_more v c.loop-depth.depth c.in-Some.field-0-0.0 (plain_step c.in-Some.step.now) c.in-Some.field-0-2 c.in-Some.field-0-3 _ _ _ _ _
    c.loop-depth.invariant c.in-Some.ensures.some c.in_ok-told.ensures)

pub returns : goal.returns
returns g c = walk_ends c.args.session.now c.loop-depth.depth _ _ _ c.loop-depth.invariant (omega arith)
