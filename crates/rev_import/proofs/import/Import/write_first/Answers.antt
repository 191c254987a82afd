use Rattle.std.proofs.Common.{sym, ◌∙◌}
use Rattle.std.proofs.lemmas.Result.{on_ok_weaker}
use Rattle.rev_import.proofs.Moved.{moves_none, moves_one, waiting_of}
use Rattle.rev_import.proofs.import.Import.write_first.Goals as goal

pub returns-in-None-clause-moves : goal.returns-in-None-clause-moves
returns-in-None-clause-moves g c = moves_none _ _ _ (sym (waiting_of c.self.view_is) ∙ c.in-None.ensures.items)

pub returns-clause-moves : goal.returns-clause-moves
returns-clause-moves g c = on_ok_weaker c.write.result (λ x. moves_one _ _ _ (sym (waiting_of c.self.view_is) ∙ c.in-Some.ensures.items) x) c.write.ensures
