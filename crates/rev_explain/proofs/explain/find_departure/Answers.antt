use Rattle.std.proofs.Common.{sym, ◌∙◌, ◌-◌, subst, length}
use Rattle.rev_requests.specs.Plain.{plain_step}
use Rattle.rev_tree.specs.Machine.{lineage}
use Rattle.rev_explain.proofs.Climbs.{above_root}
use Rattle.rev_explain.proofs.Searches.{Searching, search_starts, search_skip, search_more, search_found}
use Rattle.rev_explain.proofs.explain.find_departure.Goals as goal

pub loop-node-init : goal.loop-node-init
loop-node-init g c =
    search_skip c.args.session.now c.args.key.now c.last_mention-depth.result c.depth.result c.last_mention-depth.ensures.falls
    (subst (Searching c.args.session.now c.args.key.now) (sym c.depth.ensures) (search_starts c.args.session.now c.args.key.now c.requires)) c.last_mention-depth.ensures.within c.last_mention-depth.ensures.still

pub returns-in-Some-find_left : goal.returns-in-Some-find_left
returns-in-Some-find_left g c =
    search_found c.args.session.now c.args.key.now c.loop-node.depth c.in-Some.node.0 (plain_step c.in-Some.field-0-1.now) c.in-Some.field-0-2 c.in-Some.trace c.loop-node.invariant
    (above_root c.loop-node.depth (length (lineage c.args.session.now.rows c.args.session.now.current)) c.in-Some.ensures.none.1) c.in-Some.ensures.some
    c.in-Some-find_left.cause (sym c.find_left.ensures ∙ c.in-Some-find_left.is)

pub loop-node-preserved : goal.loop-node-preserved
loop-node-preserved g c =
    search_skip c.args.session.now c.args.key.now c.last_mention-depth-in-Some.result (c.loop-node.depth - 1) c.last_mention-depth-in-Some.ensures.falls
    (search_more c.args.session.now c.args.key.now c.loop-node.depth c.in-Some.node.0 (plain_step c.in-Some.field-0-1.now) c.in-Some.field-0-2 c.in-Some.trace c.loop-node.invariant
    (above_root c.loop-node.depth (length (lineage c.args.session.now.rows c.args.session.now.current)) c.in-Some.ensures.none.1) c.in-Some.ensures.some
    (sym c.find_left.ensures ∙ c.in-None.is)) c.last_mention-depth-in-Some.ensures.within c.last_mention-depth-in-Some.ensures.still
