use Rattle.std.proofs.Common.{ℕ, List, ◌≡◌, ◌≤◌, ⊎_elim, length-append, refl, arith, rules, sym, ◌∙◌, ◌-◌, ap, subst, length}
use Rattle.rev_model.specs.Track.{key_place_of, key_change}
use Rattle.rev_model.specs.Events.{event_by}
use Rattle.rev_requests.specs.Plain.{plain_step}
use Rattle.rev_tree.specs.Machine.{lineage}
use Rattle.rev_explain.proofs.Climbs.{Climbs, above_root}
use Rattle.rev_explain.specs.declared.events.Event.{Event}
use Rattle.rev_tree.specs.Positions.{SessionState}
use Rattle.rev_explain.proofs.Searches.{Telling, tell_starts, tell_skip, tell_more, tell_ends}
use Rattle.rev_explain.proofs.explain.story.Goals as goal

pub loop-node-init : goal.loop-node-init
loop-node-init g c =
    tell_skip c.args.session.now c.args.key.now c.last_mention-depth.result c.depth.result c.find_place-place.result c.new-events.result.items c.last_mention-depth.ensures.falls
    (subst (λ d. Telling c.args.session.now c.args.key.now d c.find_place-place.result c.new-events.result.items) (sym c.depth.ensures)
    (tell_starts c.args.session.now c.args.key.now c.find_place-place.result c.new-events.result.items
    (c.find_place-place.ensures ∙ ap (λ s. key_place_of s c.args.key.now) c.store-2.ensures.state) c.new-events.ensures.items))
    c.last_mention-depth.ensures.within c.last_mention-depth.ensures.still

pub loop-node-preserved : goal.loop-node-preserved
loop-node-preserved g c =
    tell_skip c.args.session.now c.args.key.now c.last_mention-depth-in-Some.result (c.loop-node.depth - 1) c.find_before-before.result c.add.new.events.items c.last_mention-depth-in-Some.ensures.falls
    (tell_more c.args.session.now c.args.key.now c.loop-node.depth c.in-Some.node.0 (plain_step c.in-Some.step.now) c.in-Some.outcome c.in-Some.trace c.loop-node.place c.loop-node.events.items c.loop-node.invariant
    (above_root c.loop-node.depth (length (lineage c.args.session.now.rows c.args.session.now.current)) c.in-Some.ensures.none.1) c.in-Some.ensures.some
    c.find_change-change.result (c.find_change-change.ensures ∙ ap (λ h. key_change c.args.key.now h c.in-Some.trace.moves c.in-Some.trace.notes) c.home_of.ensures)
    c.find_before-before.result c.find_before-before.ensures
    c.has_stored-stored.result c.has_stored-stored.ensures
    c.find_event-kind.result (c.find_event-kind.ensures ∙ ap (λ n. event_by c.has_stored-stored.result c.find_before-before.result c.loop-node.place n) c.note_of.ensures)
    c.add.new.events.items c.in_ok-add.ensures)
    c.last_mention-depth-in-Some.ensures.within c.last_mention-depth-in-Some.ensures.still

deep_within : (v : SessionState) (d : ℕ) → Climbs v d → d ≤ length (lineage v.rows v.current)
deep_within v d h =
    let s = ap length h.splits in
    let a = length-append (lineage v.rows h.node) h.below in
    let e = h.deep in
    omega (arith, s, a, e)

pub returns : goal.returns
returns g c =
    let l = deep_within c.args.session.now c.loop-node.depth c.loop-node.invariant.climb in
    let z : c.loop-node.depth ≡ 0 = ⊎_elim (λ e. e) (λ o. absurd (omega (arith, l, o))) (c.in_default.ensures.none.0 refl) in
    ◌∙◌ {A = List Event} (search rules steps 150000) (tell_ends c.args.session.now c.args.key.now c.loop-node.depth c.loop-node.place c.loop-node.events.items c.loop-node.invariant z)
