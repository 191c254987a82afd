use Rattle.std.proofs.Common.{not, refl, ap, length, ◌≡◌, arith, List}
use Rattle.std.proofs.Math.Seq.{take-length}
use Rattle.rev_requests.specs.Plain.{plain_step}
use Rattle.rev_tree.specs.Rows.{row}
use Rattle.rev_tree.specs.Machine.{is_continued}
use Rattle.rev_tree.specs.Positions.{SessionState}
use Rattle.rev_recorder.specs.declared.hand.Call.TheVariants.{Many, Deep}
use Rattle.rev_recorder.proofs.Legal.{legal-call, legal-play}
use Rattle.rev_recorder.specs.Log.{PlainRecording}
use Rattle.rev_recorder.specs.declared.hand.LogRow.{LogRow}
use Rattle.rev_recorder.proofs.Calls.{played_is, refused_is, kept_is, legal_kept}
use Rattle.rev_recorder.proofs.recording.Recording.play.Goals as goal

pub invariant_of-self-in-Ok : goal.invariant_of-self-in-Ok
invariant_of-self-in-Ok c =
    let ok = c.in-Ok.ensures.ok in
    let old = c.self.inside.session in
    legal-play _ c.self.inside.log.items _ old c.play.new.self c.args.player (row old.current (plain_step c.args.step) (not (is_continued old.rows old.current))) c.in-Ok.done.node c.self.invariant (ap (λ (t : SessionState). t.rows) ok) (ap (λ (t : SessionState). t.current) ok) c.in-Ok.ensures.node refl (rw c.reserve.ensures.items at c.push_reserved.ensures.items)

pub invariant_of-self-in-Err-TooManyNodes-default : goal.invariant_of-self-in-Err-TooManyNodes-default
invariant_of-self-in-Err-TooManyNodes-default c =
    let err = c.in-Err-TooManyNodes-default.ensures.err in
    let many = c.in-Err-TooManyNodes-default.ensures.many.0 c.in-Err-TooManyNodes-default.field-0-0-is in
    legal-call _ c.self.inside.log.items _ c.self.inside.session c.play.new.self c.args.player Many c.self.invariant (ap (λ (t : SessionState). t.rows) err) (ap (λ (t : SessionState). t.current) err) many refl (rw c.reserve.ensures.items at c.push_reserved-in-Err-TooManyNodes-default.ensures.items)

pub invariant_of-self-in-Err-TooDeep-default : goal.invariant_of-self-in-Err-TooDeep-default
invariant_of-self-in-Err-TooDeep-default c =
    let err = c.in-Err-TooDeep-default.ensures.err in
    let deep = c.in-Err-TooDeep-default.ensures.deep.0 c.in-Err-TooDeep-default.field-0-0-is in
    legal-call _ c.self.inside.log.items _ c.self.inside.session c.play.new.self c.args.player Deep c.self.invariant (ap (λ (t : SessionState). t.rows) err) (ap (λ (t : SessionState). t.current) err) (deep.0, rw take-length deep.1) refl (rw c.reserve.ensures.items at c.push_reserved-in-Err-TooDeep-default.ensures.items)

pub returns-in-Ok-clause-ok : goal.returns-in-Ok-clause-ok
returns-in-Ok-clause-ok c =
    let old : PlainRecording = record { session = c.self.inside.session; log = c.self.inside.log.items; opening = record { count = c.self.inside.first_count; node = c.self.inside.first_node.0 } } in
    let e = c.in-Ok.ensures in
    let place : c.len-place.result ≡ length c.self.inside.log.items = omega (arith, c.len-place.ensures, c.reserve.new.self.ok.0, ap (λ (l : List LogRow). length l) c.reserve.ensures.items) in
    rw (← c.self.view_is) (played_is old (plain_step c.args.step) c.play.new.self c.push_reserved.new.self.items c.args.player c.len-place.result c.in-Ok.done.node c.in-Ok.done.outcome e.ok e.node e.outcome place (rw c.reserve.ensures.items at c.push_reserved.ensures.items))

pub returns-in-Err-TooManyNodes-default-clause-err : goal.returns-in-Err-TooManyNodes-default-clause-err
returns-in-Err-TooManyNodes-default-clause-err c =
    let old : PlainRecording = record { session = c.self.inside.session; log = c.self.inside.log.items; opening = record { count = c.self.inside.first_count; node = c.self.inside.first_node.0 } } in
    let e = c.in-Err-TooManyNodes-default.ensures in
    let place : c.len-place.result ≡ length c.self.inside.log.items = omega (arith, c.len-place.ensures, c.reserve.new.self.ok.0, ap (λ (l : List LogRow). length l) c.reserve.ensures.items) in
    let is = refused_is old c.play.new.self c.push_reserved-in-Err-TooManyNodes-default.new.self.items c.args.player c.len-place.result Many e.err place (rw c.reserve.ensures.items at c.push_reserved-in-Err-TooManyNodes-default.ensures.items) in
    rw (c.refused.ensures, ← c.self.view_is) (e.returned, (e.many.0 c.in-Err-TooManyNodes-default.field-0-0-is, is.0, is.1))

pub returns-in-Err-TooDeep-default-clause-err : goal.returns-in-Err-TooDeep-default-clause-err
returns-in-Err-TooDeep-default-clause-err c =
    let old : PlainRecording = record { session = c.self.inside.session; log = c.self.inside.log.items; opening = record { count = c.self.inside.first_count; node = c.self.inside.first_node.0 } } in
    let e = c.in-Err-TooDeep-default.ensures in
    let place : c.len-place.result ≡ length c.self.inside.log.items = omega (arith, c.len-place.ensures, c.reserve.new.self.ok.0, ap (λ (l : List LogRow). length l) c.reserve.ensures.items) in
    let is = refused_is old c.play.new.self c.push_reserved-in-Err-TooDeep-default.new.self.items c.args.player c.len-place.result Deep e.err place (rw c.reserve.ensures.items at c.push_reserved-in-Err-TooDeep-default.ensures.items) in
    let deep = e.deep.0 c.in-Err-TooDeep-default.field-0-0-is in
    rw (c.refused-in-Err-TooDeep-default.ensures, ← c.self.view_is) (e.returned, (deep.0, deep.1, is.0, is.1))

pub returns-in-Err-Memory-default-clause-err : goal.returns-in-Err-Memory-default-clause-err
returns-in-Err-Memory-default-clause-err c =
    let old : PlainRecording = record { session = c.self.inside.session; log = c.self.inside.log.items; opening = record { count = c.self.inside.first_count; node = c.self.inside.first_node.0 } } in
    let e = c.in-Err-Memory-default.ensures in
    rw (← c.self.view_is) (e.returned, (refl, kept_is old c.play.new.self c.reserve.new.self.items e.err c.reserve.ensures.items))

pub invariant_of-self-in-Err-Memory-default : goal.invariant_of-self-in-Err-Memory-default
invariant_of-self-in-Err-Memory-default c = legal_kept _ c.self.inside.log.items c.reserve.new.self.items c.self.inside.session c.play.new.self c.self.invariant c.in-Err-Memory-default.ensures.err c.reserve.ensures.items
