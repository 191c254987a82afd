use Rattle.std.specs.Prelude.{None, ◌≡◌, ◌++◌, ◌∷◌, [], length, reverse}
use Rattle.std.proofs.Common.{ap, sym, subst, ◌∙◌, arith}
use Rattle.std.proofs.lemmas.List.{length-append}
use Rattle.rev_model.specs.Move.{Fits, turned, reverse as back}
use Rattle.rev_inverse.specs.Seen.{plain_moves, plain_move}
use Rattle.rev_edits.proofs.Telling.{tells_made}
use Rattle.rev_edits.proofs.moving.change.Goals as goal

pub make-requires-clause-possible : goal.make-requires-clause-possible
make-requires-clause-possible g c = subst (λ l. Fits l c.args.store.now) (sym c.requires.single.0) (tt, c.requires.possible)

pub make-requires-clause-room : goal.make-requires-clause-room
make-requires-clause-room g c =
    let one : length (plain_moves c.args.next) ≡ 1 = ap length c.requires.single.0 in
    omega (arith, one, c.requires.room)

pub returns-clause-state : goal.returns-clause-state
returns-clause-state g c = c.make.ensures.state ∙ ap (λ l. (turned l c.args.store.now).0) c.requires.single.0

pub returns-clause-moves : goal.returns-clause-moves
returns-clause-moves g c = c.make.ensures.moves ∙ ap (λ l. c.args.undo.now.moves ++ (turned l c.args.store.now).1) c.requires.single.0

pub returns-clause-notes : goal.returns-clause-notes
returns-clause-notes g c = c.make.ensures.notes ∙ ap (λ l. c.args.undo.now.notes ++ reverse l) c.requires.single.1

pub returns-clause-made : goal.returns-clause-made
returns-clause-made g c =
    let e = c.make.ensures.moves ∙ ap (λ l. c.args.undo.now.moves ++ (turned l c.args.store.now).1) c.requires.single.0 in
    ap length e ∙ length-append c.args.undo.now.moves (back (plain_move c.args.next) c.args.store.now ∷ [])

pub returns-clause-told : goal.returns-clause-told
returns-clause-told g c =
    tells_made _ _ _ None _ _ c.requires.well c.requires.possible
    (c.make.ensures.state ∙ ap (λ l. (turned l c.args.store.now).0) c.requires.single.0)
    (c.make.ensures.moves ∙ ap (λ l. c.args.undo.now.moves ++ (turned l c.args.store.now).1) c.requires.single.0)
    (c.make.ensures.notes ∙ ap (λ l. c.args.undo.now.notes ++ reverse l) c.requires.single.1)
