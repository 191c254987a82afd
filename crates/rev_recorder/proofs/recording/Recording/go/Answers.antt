use Rattle.std.proofs.Common.{◌≡◌, true, refl, ap}
use Rattle.std.proofs.Math.Seq.{take-length}
use Rattle.rev_tree.specs.Finds.{is_held}
use Rattle.rev_tree.specs.Positions.{SessionState}
use Rattle.rev_recorder.specs.declared.hand.Call.TheVariants.{Go, Lost}
use Rattle.rev_recorder.proofs.Legal.{legal-call, refuted}
use Rattle.rev_recorder.proofs.recording.Recording.go.Goals as goal

pub invariant_of-self-in-Ok : goal.invariant_of-self-in-Ok
invariant_of-self-in-Ok c =
    let ok = c.in-Ok.ensures.ok in
    let held : is_held c.self.inside.session.rows c.args.node.0 ≡ true = c.in-Ok.ensures.held.0 refl in
    legal-call _ c.self.inside.log.items _ c.self.inside.session c.go.new.self c.args.player (Go c.args.node) c.self.invariant (ap (λ (t : SessionState). t.rows) ok) (ap (λ (t : SessionState). t.current) ok) (rw take-length held) refl (rw c.reserve.ensures.items at c.push_reserved.ensures.items)

pub invariant_of-self-in-Err : goal.invariant_of-self-in-Err
invariant_of-self-in-Err c =
    let err = c.in-Err.ensures.err in
    let lost = refuted (is_held c.self.inside.session.rows c.args.node.0) (λ held. let never = c.in-Err.ensures.held.1 held in cc) in
    legal-call _ c.self.inside.log.items _ c.self.inside.session c.go.new.self c.args.player (Lost c.args.node) c.self.invariant (ap (λ (t : SessionState). t.rows) err) (ap (λ (t : SessionState). t.current) err) (rw take-length lost) refl (rw c.reserve.ensures.items at c.push_reserved-in-Err.ensures.items)
