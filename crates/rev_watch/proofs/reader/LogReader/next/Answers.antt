use Rattle.std.proofs.Common.{arith}
use Rattle.rev_watch.proofs.ReaderLemmas.{hand-length, text-at-hand, told-fault, whole-next}
use Rattle.rev_watch.proofs.reader.LogReader.next.Goals as goal

pub returns-in-Err-parse-clause-err : goal.returns-in-Err-parse-clause-err
returns-in-Err-parse-clause-err g c =
    let mid = c.line_end.new.self in
    let found = rw c.in-Ok-Some.field-0-is at c.in-Ok-Some.ensures.ok in (
      c.line_end.ensures.kept,
      rw c.log_fault.ensures
          (told-fault g.S.Source.told mid c.in-Ok-Some.end _ c.in-Err-parse.fault found
          (text-at-hand mid.piece mid.from mid.to c.in-Ok-Some.end (omega (arith, found.0, hand-length mid))) c.in-Err-parse.ensures),
    )

pub returns-in-Ok-clause-ok : goal.returns-in-Ok-clause-ok
returns-in-Ok-clause-ok g c =
    let mid = c.line_end.new.self in
    let found = rw c.in-Ok-Some.field-0-is at c.in-Ok-Some.ensures.ok in
    whole-next g.S.Source.told c.args.self.now mid c.pass.new.self c.in-Ok-Some.end _ c.in-Ok.line c.line_end.ensures.kept found
    (text-at-hand mid.piece mid.from mid.to c.in-Ok-Some.end (omega (arith, found.0, hand-length mid))) c.in-Ok.ensures c.pass.ensures.took
