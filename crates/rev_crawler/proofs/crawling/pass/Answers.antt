use Rattle.std.specs.Prelude.{None, refl, length}
use Rattle.std.proofs.Common.{ap, sym, ◌∙◌, subst, arith}
use Rattle.rev_model.specs.State.{State, queue_of}
use Rattle.rev_model.specs.Chunk.{same_entry}
use Rattle.rev_model.specs.Lists.{before}
use Rattle.rev_model.specs.Move.{Puts, moved}
use Rattle.rev_model.proofs.Undo.{leads_none}
use Rattle.rev_model.specs.declared.Entry.TheVariants.{Chunk, Mark}
use Rattle.rev_model.specs.declared.Placed.TheVariants.{ToQueue}
use Rattle.rev_edits.proofs.Rest.{Rest, sound_of, rest_of}
use Rattle.rev_crawler.proofs.Passing.{before_there, take_mark, chunk_left, put_mark, passed_is, rest-passed}
use Rattle.rev_inverse.specs.Record.{PlainRecord}
use Rattle.rev_edits.proofs.Telling.{tells_all, tells_still}
use Rattle.rev_crawler.proofs.crawling.pass.Goals as goal

pub change-requires-clause-possible : goal.change-requires-clause-possible
change-requires-clause-possible g c = take_mark c.args.store.now c.requires.sound.well c.args.class c.requires.class c.args.queue c.requires.mark

pub before-ahead-requires-clause-there : goal.before-ahead-requires-clause-there
before-ahead-requires-clause-there g c =
    rw c.change.ensures.state
    (chunk_left c.args.store.now c.requires.sound.well c.args.class c.requires.class c.args.queue c.requires.mark c.args.chunk (before_there Mark (Chunk c.args.chunk) (queue_of c.args.store.now c.args.class c.args.queue) c.requires.entry))

pub change-requires-2-clause-possible : goal.change-requires-2-clause-possible
change-requires-2-clause-possible g c =
    let ahead = c.before-ahead.ensures ∙ ap (λ (s : State). before same_entry (Chunk c.args.chunk) (queue_of s c.args.class c.args.queue)) c.change.ensures.state in
    rw c.change.ensures.state (put_mark c.args.store.now c.requires.sound.well c.args.class c.requires.class c.args.queue c.requires.mark c.args.chunk c.before-ahead.result ahead)

pub returns-clause-step : goal.returns-clause-step
returns-clause-step g c =
    let ahead = c.before-ahead.ensures ∙ ap (λ (s : State). before same_entry (Chunk c.args.chunk) (queue_of s c.args.class c.args.queue)) c.change.ensures.state in (
      c.change-2.ensures.state
          ∙ ap (moved (Puts (ToQueue c.args.class c.args.queue Mark c.before-ahead.result))) c.change.ensures.state
          ∙ passed_is c.args.store.now c.requires.sound.well c.args.class c.requires.class c.args.queue c.requires.mark c.args.chunk c.before-ahead.result ahead,
      refl,
    )

pub returns-clause-sound : goal.returns-clause-sound
returns-clause-sound g c =
    let ahead = c.before-ahead.ensures ∙ ap (λ (s : State). before same_entry (Chunk c.args.chunk) (queue_of s c.args.class c.args.queue)) c.change.ensures.state in
    let is = c.change-2.ensures.state
    ∙ ap (moved (Puts (ToQueue c.args.class c.args.queue Mark c.before-ahead.result))) c.change.ensures.state
    ∙ passed_is c.args.store.now c.requires.sound.well c.args.class c.requires.class c.args.queue c.requires.mark c.args.chunk c.before-ahead.result ahead in
    sound_of None c.change-2.new.store c.change-2.ensures.well
    (subst (Rest None) (sym is) (rest-passed c.args.store.now c.requires.sound.well c.args.class c.requires.class c.args.queue c.requires.mark None c.args.chunk (rest_of None c.args.store.now c.requires.sound)))

pub returns-clause-leads : goal.returns-clause-leads
returns-clause-leads g c = c.change-2.ensures.leads c.args.store.now (c.change.ensures.leads c.args.store.now (rw c.in_ok-undo.ensures (leads_none c.args.store.now)))

pub returns-clause-few : goal.returns-clause-few
returns-clause-few g c = omega (arith, c.change.ensures.made, c.change-2.ensures.made, ap (λ (r : PlainRecord). length r.moves) c.in_ok-undo.ensures)

pub returns-clause-told : goal.returns-clause-told
returns-clause-told g c = tells_all _ _ _ _ _ (ap (λ (r : PlainRecord). r.moves) c.in_ok-undo.ensures) (ap (λ (r : PlainRecord). r.notes) c.in_ok-undo.ensures) (tells_still _ _ _ _ _ _ _ c.change.ensures.told c.change-2.ensures.told)
