use Rattle.std.proofs.Common.{◌++◌, ◌∙◌, ap, refl, w32}
use Rattle.std.proofs.lemmas.Int.{to_z-of_z}
use Rattle.rev_requests.specs.Plain.{plain_verb}
use Rattle.rev_lines.specs.Lines.{store_text}
use Rattle.rev_lines.proofs.Putting.{lacks, store_has, store_lacks, store_put}
use Rattle.rev_lines.proofs.client.put_store.Goals as goal

pub returns-in-None : goal.returns-in-None
returns-in-None g c = lacks _ _ (store_lacks _ _ _ _ _ (c.in-None.ensures.none refl))

pub returns-in_ok-put_verb-in-Some : goal.returns-in_ok-put_verb-in-Some
returns-in_ok-put_verb-in-Some g c =
    let known = c.in-Some.ensures.some in
    let has = store_has _ c.args.key.now c.args.flags c.args.exptime _ c.put_verb.ensures.line c.bytes.ensures.rule c.ranges.flags.fits c.ranges.exptime.sfits known.1 in
    store_put _ _ _ _ _ _ _ _ _ has known.0 c.bytes.ensures.same
    (c.in_ok-put_verb-in-Some.ensures.text
    ∙ ap (λ z. c.args.out.now.items ++ store_text (plain_verb c.args.verb) c.bytes.result.now c.args.flags z c.in-Some.bytes.now) (to_z-of_z w32 c.args.exptime c.ranges.exptime))
