use Rattle.std.proofs.Common.{◌≡◌, length, sym, ◌∙◌}
use Rattle.std.proofs.Math.Seq.{take-append_seam}
use Rattle.rev_recorder.proofs.Runs.{all-ran}
use Rattle.rev_recorder.proofs.run.run_actors.Goals as goal

pub returns-clause-ok : goal.returns-clause-ok
returns-clause-ok g c =
    let kept : length c.run_jobs.new.jobs ≡ length c.as_mut_slice.result.now = c.run_jobs.auto.jobs in
    let len : c.into_jobs-jobs.result.len ≡ length c.run_jobs.new.jobs = sym (kept ∙ c.as_mut_slice.ensures.len) in
    let done = rw (len, take-append_seam) at c.into_results.ensures in
    rw done (all-ran _ _ c.as_mut_slice.result.now c.run_jobs.new.jobs (rw c.as_mut_slice.ensures.value c.into_jobs-jobs.ensures) kept c.run_jobs.ensures)
