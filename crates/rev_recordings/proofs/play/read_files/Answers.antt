use Rattle.std.proofs.Common.{rules, ◌≡◌, ◌++◌, ◌∷◌, [], append-nil, append_assoc, sym, ◌∙◌, ap, subst}
use Rattle.rev_recordings.specs.Recordings.{AreScripts, IsSpoilt}
use Rattle.rev_recordings.specs.declared.fault.RecordingFault.TheVariants.{Memory}
use Rattle.rev_recordings.proofs.Scripts.{spoilt_here, spoilt_behind}
use Rattle.rev_recordings.proofs.play.read_files.Goals as goal

pub returns-clause-steps : goal.returns-clause-steps
returns-clause-steps g c =
    let none : c.loop-name.rest.items ≡ [] = search rules in
    subst (λ l. AreScripts c.args.dialect g.F.Read.remaining c.args.files.items l) (append-nil c.loop-name.scripts.items) (c.loop-name.invariant.steps [] (rw none tt))

pub returns-in_err-steps-clause-err : goal.returns-in_err-steps-clause-err
returns-in_err-steps-clause-err g c =
    let e = c.in-Some.ensures.items in
    let h : IsSpoilt c.args.dialect g.F.Read.remaining c.args.files.items c.in_err-steps.field-0.0 =
    c.loop-name.invariant.spoilt c.in_err-steps.field-0.0 (rw e (spoilt_here c.args.dialect g.F.Read.remaining (c.in-Some.name, c.in-Some.reader) c.pop_front.new.self.items c.in_err-steps.field-0.0 c.in_err-steps.ensures.err)) in
    search rules

pub returns-then-is_err-clause-err : goal.returns-then-is_err-clause-err
returns-then-is_err-clause-err g c =
    let e = c.in-Some.ensures.items in
    c.loop-name.invariant.spoilt Memory (rw e (spoilt_here c.args.dialect g.F.Read.remaining (c.in-Some.name, c.in-Some.reader) _ Memory tt))

pub loop-name-preserved : goal.loop-name-preserved
loop-name-preserved g c =
    let e = c.in-Some.ensures.items in
    let p : c.push.new.self.items ≡ c.loop-name.scripts.items ++ c.in_ok-steps.steps ∷ [] = search rules in
    record {
      count = search rules;
      steps = λ more are. subst (λ l. AreScripts c.args.dialect g.F.Read.remaining c.args.files.items l)
          (sym (ap (λ l. l ++ more) p ∙ append_assoc c.loop-name.scripts.items (c.in_ok-steps.steps ∷ []) more))
          (c.loop-name.invariant.steps (c.in_ok-steps.steps ∷ more) (rw e (c.in_ok-steps.ensures.ok, are)));
      spoilt = λ f s. c.loop-name.invariant.spoilt f (rw e (spoilt_behind c.args.dialect g.F.Read.remaining (c.in-Some.name, c.in-Some.reader) c.in_ok-steps.steps _ f c.in_ok-steps.ensures.ok s));
    }
