use Rattle.std.proofs.Common.{rules, w32, SFits, ◌≡◌, refl, take, sym, ◌∙◌, ap}
use Rattle.std.proofs.lemmas.Int.{to_z-of_z}
use Rattle.std.specs.Io.BufRead.{strip_last}
use Rattle.rev_script.specs.Words.{words, word}
use Rattle.rev_script.specs.Commands.{asked}
use Rattle.rev_script.specs.Line.{view}
use Rattle.std.specs.Option.{option_map}
use Rattle.rev_script.proofs.Pieces.{text_at_hand}
use Rattle.rev_script.proofs.Next.{next_done, stored_ok, stored_err}
use Rattle.rev_script.proofs.lines.many_at_hand.Goals as goal

pub returns-in-Done-clause-ok : goal.returns-in-Done-clause-ok
returns-in-Done-clause-ok g c =
    let t = text_at_hand c.args.i c.requires.feed c.pass.ensures.taken in
    let is : c.body.result.now ≡ strip_last 13 t.text = c.body.ensures ∙ ap (λ x. strip_last 13 (take c.args.i x)) c.front.ensures in
    let a = rw c.in-Done.is at c.in-Ok-asked.ensures in
    rw c.requires.here (next_done c.args.input.now.dialect t c.body.result.now is _ (λ f. absurd (cc)) a.0 (a.1 c.args.input.now.dialect))

pub returns-in-Storage-clause-err : goal.returns-in-Storage-clause-err
returns-in-Storage-clause-err g c =
    let t = text_at_hand c.args.i c.requires.feed c.pass.ensures.taken in
    let is : c.body.result.now ≡ strip_last 13 t.text = c.body.ensures ∙ ap (λ x. strip_last 13 (take c.args.i x)) c.front.ensures in
    let a = rw c.in-Storage.is at c.in-Ok-asked.ensures in
    rw c.requires.here (stored_err _ c.args.input.now.dialect c.storage_line.result t refl (ap asked (sym is) ∙ a.0) c.storage_line.ensures.err)

pub returns-in-Storage-clause-ok : goal.returns-in-Storage-clause-ok
returns-in-Storage-clause-ok g c =
    let t = text_at_hand c.args.i c.requires.feed c.pass.ensures.taken in
    let is : c.body.result.now ≡ strip_last 13 t.text = c.body.ensures ∙ ap (λ x. strip_last 13 (take c.args.i x)) c.front.ensures in
    let a = rw c.in-Storage.is at c.in-Ok-asked.ensures in
    let fits : SFits w32 c.in-Storage.exptime = search rules in
    let e = to_z-of_z w32 c.in-Storage.exptime fits in
    let s = rw (e, c.requires.here) at c.storage_line.ensures.ok in
    rw c.requires.here (stored_ok _ (λ line. option_map view line) c.args.input.now.dialect c.storage_line.result t refl (ap asked (sym is) ∙ a.0) (a.1 ∙ ap (λ x. word (words x) 1) is) s)
