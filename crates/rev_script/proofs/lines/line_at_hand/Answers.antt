use Rattle.std.proofs.Common.{rules, w32, SFits, ◌≡◌, refl, false, ℕ, List, length, subst, map, take, [], sym, ◌∙◌, ap}
use Rattle.std.proofs.lemmas.Int.{to_z-of_z}
use Rattle.std.specs.Io.BufRead.{strip_last}
use Rattle.rev_script.specs.Words.{words, word}
use Rattle.rev_script.specs.Commands.{asked}
use Rattle.rev_script.specs.Script.{line_of, RetrievalLine}
use Rattle.rev_script.specs.Line.{view, has_block}
use Rattle.std.specs.Option.{option_map}
use Rattle.rev_script.specs.declared.command.Command.TheVariants.{Retrieval, Update}
use Rattle.rev_script.proofs.Pieces.{text_at_hand}
use Rattle.rev_script.proofs.Next.{next_done, stored_ok, stored_err, front_body}
use Rattle.rev_script.proofs.lines.line_at_hand.Goals as goal

pub few_words_in-requires-clause-begins : goal.few_words_in-requires-clause-begins
few_words_in-requires-clause-begins g c =
    let P : List ℕ → Type 0 = λ b. b ≡ take (length b) c.front-front.result.now in
    subst P (sym c.body-body.ensures) (front_body c.args.i c.front-front.result.now)

pub returns-in-Storage-clause-err : goal.returns-in-Storage-clause-err
returns-in-Storage-clause-err g c =
    let t = text_at_hand c.args.i c.requires.feed c.pass.ensures.taken in
    let is : c.body-body.result.now ≡ strip_last 13 t.text = c.body-body.ensures ∙ ap (λ x. strip_last 13 (take c.args.i x)) c.front-front.ensures in
    rw c.requires.here (stored_err _ c.args.input.now.dialect c.storage_line.result t refl (ap asked (sym is) ∙ sym c.in-Storage.ensures.value) c.storage_line.ensures.err)

pub returns-in-Storage-clause-ok : goal.returns-in-Storage-clause-ok
returns-in-Storage-clause-ok g c =
    let t = text_at_hand c.args.i c.requires.feed c.pass.ensures.taken in
    let is : c.body-body.result.now ≡ strip_last 13 t.text = c.body-body.ensures ∙ ap (λ x. strip_last 13 (take c.args.i x)) c.front-front.ensures in
    let ws : map (λ x. x.now) c.as_slice-parts.result.now ≡ words c.body-body.result.now = search rules in
    let fits : SFits w32 c.in-Storage.exptime = search rules in
    let e = to_z-of_z w32 c.in-Storage.exptime fits in
    let s = rw (e, c.requires.here) at c.storage_line.ensures.ok in
    rw c.requires.here (stored_ok _ (λ line. option_map view line) c.args.input.now.dialect c.storage_line.result t refl (ap asked (sym is) ∙ sym c.in-Storage.ensures.value)
    (c.in-Ok-key.ensures.ok ∙ c.word.ensures ∙ ap (λ l. word l 1) (ws ∙ ap words is)) s)

pub returns-clause-ok : goal.returns-clause-ok
returns-clause-ok g c =
    let t = text_at_hand c.args.i c.requires.feed c.pass-in_default.ensures.taken in
    let is : c.body-body.result.now ≡ strip_last 13 t.text = c.body-body.ensures ∙ ap (λ x. strip_last 13 (take c.args.i x)) c.front-front.ensures in
    let ws : map (λ x. x.now) c.as_slice-parts.result.now ≡ words c.body-body.result.now = search rules in
    let n : has_block c.asked.result ≡ false = search rules in
    let v : c.asked.result ≡ asked c.body-body.result.now = c.asked.ensures.value in
    rw c.requires.here (next_done c.args.input.now.dialect t c.body-body.result.now is _ (λ f. absurd (cc)) (ap has_block (sym v) ∙ n)
    (c.in-Ok-line-2.ensures c.args.input.now.dialect ∙ ap (λ l. line_of c.args.input.now.dialect c.asked.result l []) ws ∙ ap (λ a. line_of c.args.input.now.dialect a (words c.body-body.result.now) []) v))

pub returns-in-Retrieval-clause-ok : goal.returns-in-Retrieval-clause-ok
returns-in-Retrieval-clause-ok g c =
    let t = text_at_hand c.args.i c.requires.feed c.pass-in-Retrieval.ensures.taken in
    let is : c.body-body.result.now ≡ strip_last 13 t.text = c.body-body.ensures ∙ ap (λ x. strip_last 13 (take c.args.i x)) c.front-front.ensures in
    let ws : map (λ x. x.now) c.as_slice-parts.result.now ≡ words c.body-body.result.now = search rules in
    let v : Retrieval c.in-Retrieval.with_cas ≡ asked c.body-body.result.now = c.in-Retrieval.ensures.value in
    rw c.requires.here (next_done c.args.input.now.dialect t c.body-body.result.now is _ (λ f. absurd (cc)) (ap has_block (sym v))
    (ap (λ l. RetrievalLine l c.in-Retrieval.with_cas) c.in-Ok-keys.ensures ∙ ap (λ l. line_of c.args.input.now.dialect (Retrieval c.in-Retrieval.with_cas) l []) ws ∙ ap (λ a. line_of c.args.input.now.dialect a (words c.body-body.result.now) []) v))

pub returns-in-Update-clause-ok : goal.returns-in-Update-clause-ok
returns-in-Update-clause-ok g c =
    let t = text_at_hand c.args.i c.requires.feed c.pass-in-Update.ensures.taken in
    let is : c.body-body.result.now ≡ strip_last 13 t.text = c.body-body.ensures ∙ ap (λ x. strip_last 13 (take c.args.i x)) c.front-front.ensures in
    let ws : map (λ x. x.now) c.as_slice-parts.result.now ≡ words c.body-body.result.now = search rules in
    let v : Update c.in-Update.command c.in-Update.noreply ≡ asked c.body-body.result.now = c.in-Update.ensures.value in
    rw c.requires.here (next_done c.args.input.now.dialect t c.body-body.result.now is _ (λ f. absurd (cc)) (ap has_block (sym v))
    (c.in-Ok-line.ensures c.args.input.now.dialect ∙ ap (λ l. line_of c.args.input.now.dialect (Update c.in-Update.command c.in-Update.noreply) l []) ws ∙ ap (λ a. line_of c.args.input.now.dialect a (words c.body-body.result.now) []) v))
