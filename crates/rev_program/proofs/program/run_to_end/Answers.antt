use Rattle.rev_messages.specs.Stop.{stop_of_config}
use Rattle.rev_program.proofs.Running.{ends_answering}
use Rattle.rev_program.proofs.program.run_to_end.Goals as goal

pub returns-clause-answers : goal.returns-clause-answers
returns-clause-answers g c =
    ends_answering _ _ _ _ _ _ _ _ _ c.args.config c.args.json c.args.dialect c.args.starts.items stop_of_config c.run_asked-done.result c.run_asked-done.ensures.config c.run_asked-done.ensures.ok c.run_asked-done.ensures.err
    c.ended_run.ensures.done c.ended_run.ensures.stopped
