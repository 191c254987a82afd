use Rattle.std.proofs.Common.{◌++◌, ◌∷◌, [], ◌∙◌, refl, sym, ap, subst, cond, length, reverse}
use Rattle.rev_model.specs.Track.{removals}
use Rattle.rev_requests.specs.Plain.{plain_step}
use Rattle.rev_tree.specs.Rows.{at}
use Rattle.rev_tree.specs.Machine.{lineage}
use Rattle.rev_explain.specs.Departures.{departures_in}
use Rattle.rev_explain.proofs.Climbs.{above_root}
use Rattle.rev_figures.specs.Asking.{ask_in}
use Rattle.rev_figures.specs.Paths.{ends_slot}
use Rattle.rev_figures.specs.Rows.{step_row, leaving_rows, move_rows, bytes_rows}
use Rattle.rev_figures.proofs.Climbing.{Climbing, read_of, climbing_starts, climbing_up, has_climbed_up, is_below, bytes_read}
use Rattle.rev_figures.proofs.Returning.{stays_put}
use Rattle.rev_figures.proofs.walk.climb.Goals as goal

pub nodes-init : goal.nodes-init
nodes-init g c =
    subst (λ d. Climbing c.args.session.now c.args.session.now d c.args.slot_length c.depth-steps.result (read_of c.args.path.now) (read_of c.args.path.now) (λ k. ask_in c.args.asks.now.keys.entries k)) (sym c.depth-steps.ensures)
    (climbing_starts c.args.session.now c.args.slot_length c.depth-steps.result (read_of c.args.path.now) (λ k. ask_in c.args.asks.now.keys.entries k) (λ k. ap (λ es. ask_in es k) c.requires.asks))

pub nodes-preserved : goal.nodes-preserved
nodes-preserved g c =
    let v = c.args.session.now in
    let d = c.nodes.depth in
    let n = c.in-Some.node.0 in
    let o = c.in-Some.outcome in
    let r = c.in-Some.trace in
    let now = c.nodes.session in
    let later = c.back.new.self in
    climbing_up v now d c.args.slot_length c.depth-steps.result (read_of c.args.path.now) (read_of c.nodes.path) (λ k. ask_in c.nodes.asks.keys.entries k) c.nodes.invariant
    n (plain_step c.in-Some.step.now) o r
    (above_root d (length (lineage now.rows now.current)) c.in-Some.ensures.none.1) c.in-Some.ensures.some
    c.in-Ok.field-0.0 later c.in-Ok.ensures.ok.0 c.in-Ok.ensures.ok.1
    (at now.root now.rows now.current) (at later.root later.rows later.current) c.globals-second.result.clock c.add_gone.new.gone.items
    record {
      steps = c.add_step.new.steps.items;
      leavings = c.add_leavings.new.leavings.items;
      moves = c.add_move.new.moves.items;
      bytes = c.add_slot_end.new.bytes.items;
    }
    (λ k. ask_in c.note_step.new.asks.keys.entries k)
    refl refl (ap (λ g. g.clock) c.globals-second.ensures ∙ ap (λ s. s.globals.clock) c.store.ensures.state)
    (c.in_ok-add_step.ensures ∙ ap (λ s. c.nodes.path.steps.items ++ step_row n s (plain_step c.in-Some.step.now) o ∷ []) c.store-in-Some.ensures.state)
    c.in_ok-note_step.ensures
    (c.in_ok-add_gone.ensures (at v.root v.rows n) ∙ ap (λ l. l ++ reverse (departures_in n (plain_step c.in-Some.step.now) o (removals r.moves r.notes (at v.root v.rows n)))) c.clear.ensures.items)
    (c.in_ok-add_slot_end.ensures ∙ ap (λ s. c.nodes.path.bytes.items ++ reverse (cond (ends_slot d c.args.slot_length c.depth-steps.result) (bytes_rows s d) [])) c.store-in-Some-2.ensures.state)
    (c.in_ok-add_move.ensures ∙ ap (λ s. c.nodes.path.moves.items ++ move_rows s d c.globals-second.result.clock o) c.store-in-Some-3.ensures.state)
    (c.in_ok-add_leavings.ensures
    ∙ ap (λ s. c.nodes.path.leavings.items ++ leaving_rows s d c.globals-second.result.clock (λ k. ask_in c.note_step.new.asks.keys.entries k) c.deref.result.now) c.store-in-Some-4.ensures.state
    ∙ ap (λ ds. c.nodes.path.leavings.items ++ leaving_rows (at later.root later.rows later.current) d c.globals-second.result.clock (λ k. ask_in c.note_step.new.asks.keys.entries k) ds) c.deref.ensures.value)

pub returns-in_err-clone-clause-climbed : goal.returns-in_err-clone-clause-climbed
returns-in_err-clone-clause-climbed g c = stays_put c.args.session.now

pub unreachable-requires : goal.unreachable-requires
unreachable-requires g c =
    is_below c.args.session.now c.nodes.session c.nodes.depth c.args.slot_length c.depth-steps.result (read_of c.args.path.now) (read_of c.nodes.path) (λ k. ask_in c.nodes.asks.keys.entries k) c.nodes.invariant
    c.in-Some.node.0 (plain_step c.in-Some.step.now) c.in-Some.outcome c.in-Some.trace
    (above_root c.nodes.depth (length (lineage c.nodes.session.rows c.nodes.session.current)) c.in-Some.ensures.none.1) c.in-Some.ensures.some
    c.in-Err.ensures.err.0

pub returns-in_err-add_move-clause-climbed : goal.returns-in_err-add_move-clause-climbed
returns-in_err-add_move-clause-climbed g c =
    has_climbed_up c.args.session.now c.nodes.session c.nodes.depth c.args.slot_length c.depth-steps.result (read_of c.args.path.now) (read_of c.nodes.path) (λ k. ask_in c.nodes.asks.keys.entries k) c.nodes.invariant
    c.in-Some.node.0 (plain_step c.in-Some.step.now) c.in-Some.outcome c.in-Some.trace
    (above_root c.nodes.depth (length (lineage c.nodes.session.rows c.nodes.session.current)) c.in-Some.ensures.none.1) c.in-Some.ensures.some
    c.in-Ok.field-0.0 c.back.new.self c.in-Ok.ensures.ok.0 c.in-Ok.ensures.ok.1

pub returns-in_err-add_leavings-clause-climbed : goal.returns-in_err-add_leavings-clause-climbed
returns-in_err-add_leavings-clause-climbed g c =
    has_climbed_up c.args.session.now c.nodes.session c.nodes.depth c.args.slot_length c.depth-steps.result (read_of c.args.path.now) (read_of c.nodes.path) (λ k. ask_in c.nodes.asks.keys.entries k) c.nodes.invariant
    c.in-Some.node.0 (plain_step c.in-Some.step.now) c.in-Some.outcome c.in-Some.trace
    (above_root c.nodes.depth (length (lineage c.nodes.session.rows c.nodes.session.current)) c.in-Some.ensures.none.1) c.in-Some.ensures.some
    c.in-Ok.field-0.0 c.back.new.self c.in-Ok.ensures.ok.0 c.in-Ok.ensures.ok.1

pub returns-clause-bytes : goal.returns-clause-bytes
returns-clause-bytes g c = λ le.
    bytes_read c.args.session.now c.nodes.session c.nodes.depth c.args.slot_length c.depth-steps.result (read_of c.args.path.now) (read_of c.nodes.path) (λ k. ask_in c.nodes.asks.keys.entries k) c.nodes.invariant
    (c.in_default.ensures.none.0 refl) c.depth-steps.ensures le
