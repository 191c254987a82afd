-- What was written, line by line.
use Rattle.std.proofs.Common.{◌≡◌, ℕ, suc, ◌+◌, ◌-◌, List, [], ◌++◌, Option, refl, sym, subst, arith}
use Rattle.std.specs.Io.KnownBytes.{Appends}
use Rattle.rev_output.specs.Sink.{WroteFront}
use Rattle.rev_output.proofs.Written.{Appends-then, Appends-none}
use Rattle.rev_script.specs.declared.byte_reader.LineFault.{LineFault}
use Rattle.rev_script.specs.declared.byte_reader.LineFault.TheVariants as faults
use Rattle.rev_script.specs.Source.{Told, Beside, told_by}
use Rattle.rev_script.specs.declared.dialect.Dialect.{Dialect}
use Rattle.rev_output.specs.Sink.{PlainSink}
use Rattle.rev_shell.specs.Answers.{BookmarkedSession}
use Rattle.rev_shell.specs.Run.{run_fault}
use Rattle.rev_shell.specs.declared.run.Summary.{Summary}
use Rattle.rev_shell.proofs.Runs.{left_told}
use Rattle.rev_json.specs.Told.{IsTold, IsStoppedTelling}
use Rattle.rev_shell.specs.declared.run.RunFault.{RunFault}
use Rattle.rev_shell.specs.declared.run.RunFault.TheVariants.{Write}
use Rattle.rev_json.specs.JsonLines.{IsJsonLine, AreJsonLines, WroteLines, WroteAt}

-- none was written yet
pub no_lines : (a : Option (List ℕ)) → WroteLines 0 a a
no_lines a = ([], refl, Appends-none a)

-- one more was written
pub one_more_line : (n : ℕ) (a b c : Option (List ℕ)) (line : List ℕ) → WroteLines n a b → IsJsonLine line → Appends b c line → WroteLines (n + 1) a c
one_more_line n a b c line w j p =
    let lines : AreJsonLines (suc n) (w.0 ++ line) = (w.0, line, w.1, j, refl) in
    let e : suc n ≡ n + 1 = omega arith in
    (w.0 ++ line, subst (λ k. AreJsonLines k (w.0 ++ line)) e lines, Appends-then a b c w.0 line w.2 p)

-- those in front of the next line
pub before_line : (n : ℕ) (a b : Option (List ℕ)) → WroteLines n a b → WroteLines (n + 1 - 1) a b
before_line n a b w =
    let e : n ≡ n + 1 - 1 = omega arith in
    subst (λ k. WroteLines k a b) e w

-- at a reader's fault at the next line
pub at_fault : (f : LineFault) (n : ℕ) (a b : Option (List ℕ)) → WroteLines n a b → WroteAt (run_fault f (n + 1)) a b
at_fault faults.Memory n a b w = before_line n a b w
at_fault faults.Read n a b w = (n, w)
at_fault faults.TooLong n a b w = (n, w)

-- of the next line a part was written
pub part_of_line : (n : ℕ) (a b c : Option (List ℕ)) (line : List ℕ) → WroteLines n a b → WroteFront b c line → WroteAt Write a c
part_of_line n a b c line w f = (n, w.0, f.0, w.1, Appends-then a b c w.0 f.0 w.2 f.2)

-- ---- a run on a reader that is lent: it tells the same, but for which reader it is

pub told_of_lent : {d : Dialect} {old new : PlainSink} {start left : BookmarkedSession} {sum : Summary} (a b : Told) (n m : ℕ) → IsTold d (told_by a n) (told_by b m) old new start left sum →
    IsTold d a b old new start left sum
told_of_lent a b n m x = record { ended = left_told a b n m x.ended; wrote = x.wrote }

-- ---- where nothing was written meanwhile

pub same_told : {d : Dialect} {a b : Told} {old : PlainSink} {start left : BookmarkedSession} {sum : Summary} (x y : Beside) → y ≡ x → IsTold d a b old x.sink start left sum → IsTold d a b old y.sink start left sum
same_told {d} {a} {b} {old} {start} {left} {sum} x y same t = subst (λ k. IsTold d a b old k.sink start left sum) (sym same) t

pub same_telling : {d : Dialect} {a b : Told} {old : PlainSink} {start : BookmarkedSession} {e : RunFault} (x y : Beside) → y ≡ x → IsStoppedTelling d a b old x.sink start e → IsStoppedTelling d a b old y.sink start e
same_telling {d} {a} {b} {old} {start} {e} x y same t = subst (λ k. IsStoppedTelling d a b old k.sink start e) (sym same) t
