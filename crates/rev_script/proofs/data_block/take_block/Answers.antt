use Rattle.std.proofs.Common.{◌≡◌, [], ◌++◌, length, drop, arith, length-append, length-drop, inl, inr, sym, ◌∙◌, ap}
use Rattle.std.proofs.lemmas.List.{nil_from_length}
use Rattle.rev_script.specs.Script.{is_ending, ending_size}
use Rattle.rev_script.proofs.Known.{Took-then, Took-broke}
use Rattle.rev_script.proofs.Front.{take_front, drop_front}
use Rattle.rev_script.proofs.Cuts.{no_ending, ending_size-some}
use Rattle.rev_script.proofs.data_block.take_block.Goals as goal

pub returns-in-Err-clause-err : goal.returns-in-Err-clause-err
returns-in-Err-clause-err g c =
    let s = c.in-Err.ensures.err in
    record {
      taken = s.taken;
      broke = s.broke;
      short = λ _. omega (arith, s.short, ending_size-some c.args.dialect (drop c.args.size s.taken));
    }

pub returns-in-Err-take_ending-clause-err : goal.returns-in-Err-take_ending-clause-err
returns-in-Err-take_ending-clause-err g c =
    let s = c.in-Err-take_ending.ensures.err in
    let d = c.in-Ok-true.ensures.ok in
    let n : length d.0 ≡ c.args.size = d.1.all_of c.in-Ok-true.field-0-test in
    record {
      taken = d.0 ++ s.taken;
      broke = Took-broke d.1.took s.broke;
      short = λ _. omega (arith, length-append d.0 s.taken, s.short, n, ap (ending_size c.args.dialect) (drop_front c.args.size d.0 s.taken n));
    }

pub returns-in-Ok-clause-ok : goal.returns-in-Ok-clause-ok
returns-in-Ok-clause-ok g c =
    let d = c.in-Ok-true.ensures.ok in
    let e = c.in-Ok.ensures.ok in
    let n : length d.0 ≡ c.args.size = d.1.all_of c.in-Ok-true.field-0-test in
    let behind : drop c.args.size (d.0 ++ e.taken) ≡ e.taken = drop_front c.args.size d.0 e.taken n in
    let told = ap (ending_size c.args.dialect) behind in
    record {
      block = d.0 ++ e.taken;
      took = Took-then d.1.took e.took;
      size_is = elim e.size_is [
        | inl p ↦ inl (omega (arith, length-append d.0 e.taken, n, p, told))
        | inr p ↦ inr (omega (arith, length-append d.0 e.taken, n, p.0, told), p.1)
      ];
      sound_is = e.sound_is ∙ ap (is_ending c.args.dialect) (sym behind);
      kept = λ small _. d.2 small ∙ sym (take_front c.args.size d.0 e.taken n);
    }

pub returns-in-Ok-false-clause-ok : goal.returns-in-Ok-false-clause-ok
returns-in-Ok-false-clause-ok g c =
    let d = c.in-Ok-false.ensures.ok in
    let s = d.1.short c.in-Ok-false.field-0-test in
    let none : drop c.args.size d.0 ≡ [] = nil_from_length (drop c.args.size d.0) (omega (arith, length-drop c.args.size d.0, s.0)) in
    record {
      block = d.0;
      took = d.1.took;
      size_is = inr (omega (arith, s.0), s.1);
      sound_is = sym (ap (is_ending c.args.dialect) none ∙ no_ending c.args.dialect);
      kept = λ _ e. absurd (cc);
    }
