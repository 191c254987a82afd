use Rattle.std.proofs.Common.{sym, subst, length, refl}
use Rattle.rev_requests.specs.Plain.{plain_step}
use Rattle.rev_tree.specs.Machine.{lineage}
use Rattle.rev_explain.proofs.Climbs.{above_root}
use Rattle.rev_lives.proofs.Aside.{AreAside, aside_starts, aside_more, aside_ends}
use Rattle.rev_lives.proofs.hashes.note_steps.Goals as goal

pub nodes-init : goal.nodes-init
nodes-init g c =
    subst (λ d. AreAside c.args.session.now d c.args.hashes.now.items c.args.hashes.now.items) (sym c.depth-depth.ensures)
    (aside_starts c.args.session.now c.args.hashes.now.items)

pub nodes-preserved : goal.nodes-preserved
nodes-preserved g c =
    aside_more c.args.session.now c.nodes.depth c.in-Some.field-0-0.0 (plain_step c.in-Some.step.now) c.in-Some.outcome c.in-Some.trace c.store.result.now c.args.hashes.now.items c.nodes.hashes.items c.note_step.new.hashes.items
    c.nodes.invariant (above_root c.nodes.depth (length (lineage c.args.session.now.rows c.args.session.now.current)) c.in-Some.ensures.none.1) c.in-Some.ensures.some
    c.store.ensures.sound c.store.ensures.state c.in_ok-note_step.ensures

pub returns : goal.returns
returns g c = aside_ends c.args.session.now c.nodes.depth c.args.hashes.now.items c.nodes.hashes.items c.nodes.invariant (c.in_default.ensures.none.0 refl)
