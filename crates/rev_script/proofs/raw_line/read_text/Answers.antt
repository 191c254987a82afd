use Rattle.rev_script.proofs.Pieces.{kept_few, text_feed, text_part, text_stop, text_memory}
use Rattle.rev_script.proofs.raw_line.read_text.Goals as goal

pub keep_text-requires : goal.keep_text-requires
keep_text-requires g c = kept_few c.pieces.invariant.0

pub keep_text-requires-in-None : goal.keep_text-requires-in-None
keep_text-requires-in-None g c = kept_few c.pieces.invariant.0

pub returns-in-Some-clause-ok : goal.returns-in-Some-clause-ok
returns-in-Some-clause-ok g c =
    text_feed c.in-Some.i _ _ c.pieces.invariant.0 c.in-Ok.ensures.ok c.front-front.ensures c.in-Some.ensures.some c.in-Ok-keep_text.ensures c.pass.ensures.taken

pub returns-in-Err-clause-err : goal.returns-in-Err-clause-err
returns-in-Err-clause-err g c = text_stop c.pieces.invariant.0 c.in-Err.ensures.err.1

pub returns-in-Err-keep_text-clause-err : goal.returns-in-Err-keep_text-clause-err
returns-in-Err-keep_text-clause-err g c = text_memory c.pieces.invariant.0 c.in-Ok.ensures.ok

pub returns-in-Err-keep_text-2-clause-err : goal.returns-in-Err-keep_text-2-clause-err
returns-in-Err-keep_text-2-clause-err g c = text_memory c.pieces.invariant.0 c.in-Ok.ensures.ok

pub pieces-preserved : goal.pieces-preserved
pieces-preserved g c = (
  text_part _ _ c.pieces.invariant.0 c.in-Ok.ensures.ok c.front-front.ensures c.in-None.ensures.none c.in-Ok-keep_text-2.ensures c.pass-in-None.ensures.taken,
  λ h. absurd (let stays = c.in-Ok.ensures.stays (c.pieces.invariant.1 h).0 in cc),
)
