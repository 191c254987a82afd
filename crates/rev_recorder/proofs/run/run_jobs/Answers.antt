use Rattle.rev_recorder.proofs.Sends.{recorder_sync}
use Rattle.rev_recorder.proofs.run.run_jobs.Goals as goal

pub for_each_mut-requires-sync-F : goal.for_each_mut-requires-sync-F
for_each_mut-requires-sync-F g c κs within =
    let runtime = c.type_bounds.sync-R in
    let gate = c.type_bounds.sync-G in
    record {
      shared = λ x b o κ. (
        (
          ((λ _. tt), runtime.shared x.0.now x.0.ref_ptr.0 x.0.ref_ptr.1 _),
          (
            ((λ _. tt), recorder_sync.shared x.1.now x.1.ref_ptr.0 x.1.ref_ptr.1 _),
            (((λ _. tt), gate.shared x.2.now x.2.ref_ptr.0 x.2.ref_ptr.1 _), tt),
          ),
        ),
        (λ _. tt),
      );
    }
