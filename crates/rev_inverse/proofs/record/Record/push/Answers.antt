use Rattle.std.proofs.Common.{◌≡◌, ◌+◌, ◌≤◌, ◌++◌, ◌∷◌, [], length, map, ap, sym, subst, ◌∙◌, arith}
use Rattle.std.proofs.lemmas.List.{length-append, map-append}
use Rattle.rev_inverse.specs.Seen.{plain_moves}
use Rattle.rev_inverse.specs.Record.{PlainRecord, plain_change, in_order, moves_in, notes_in}
use Rattle.rev_inverse.proofs.TurningRecord.{moves-more, notes-more}
use Rattle.rev_inverse.proofs.record.Record.push.Goals as goal

pub returns-clause-changes : goal.returns-clause-changes
returns-clause-changes g c =
    rw (c.in-Ok.ensures.items, ← c.self.view_is, c.straighten.ensures.order)
    (map-append plain_change c.straighten.new.moves.items (c.args.undo ∷ []) ∙ ap (λ l. l ++ plain_change c.args.undo ∷ []) c.straighten.ensures.changes)

pub returns-clause-moves : goal.returns-clause-moves
returns-clause-moves g c =
    let items = c.straighten.new.moves.items in
    rw (c.in-Ok.ensures.items, ← c.self.view_is, c.straighten.ensures.order)
    (ap moves_in (map-append plain_change items (c.args.undo ∷ [])) ∙ moves-more (map plain_change items) (plain_change c.args.undo) ∙ ap (λ l. moves_in l ++ plain_moves c.args.undo) c.straighten.ensures.changes)

pub returns-clause-notes : goal.returns-clause-notes
returns-clause-notes g c =
    let items = c.straighten.new.moves.items in
    rw (c.in-Ok.ensures.items, ← c.self.view_is, c.straighten.ensures.order)
    (ap notes_in (map-append plain_change items (c.args.undo ∷ [])) ∙ notes-more (map plain_change items) (plain_change c.args.undo) ∙ ap (λ l. notes_in l ++ (plain_change c.args.undo).notes) c.straighten.ensures.changes)

pub returns-clause-room : goal.returns-clause-room
returns-clause-room g c =
    let items = c.straighten.new.moves.items in
    let old = moves_in (in_order c.self.inside.is_turned (map plain_change c.self.inside.moves.items)) in
    let new = moves_in (map plain_change c.push.new.self.items) in
    let e : new ≡ old ++ plain_moves c.args.undo =
    ap (λ l. moves_in (map plain_change l)) c.in-Ok.ensures.items ∙ ap moves_in (map-append plain_change items (c.args.undo ∷ [])) ∙ moves-more (map plain_change items) (plain_change c.args.undo)
    ∙ ap (λ l. moves_in l ++ plain_moves c.args.undo) c.straighten.ensures.changes in
    let more : length new ≡ length old + length (plain_moves c.args.undo) = ap length e ∙ length-append old (plain_moves c.args.undo) in
    let few : length old + length (plain_moves c.args.undo) ≤ length old + c.self.inside.spare = subst (λ (r : PlainRecord). length r.moves + length (plain_moves c.args.undo) ≤ r.room) (sym c.self.view_is) c.requires in
    rw (← c.self.view_is, c.straighten.ensures.order) (omega (arith, more, few, c.count-count.ensures.value))
