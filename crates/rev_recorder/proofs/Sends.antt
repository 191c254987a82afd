-- A recording may cross threads, and so threads may share its recorder.
use denote.Param.Send.{IsSend, IsSync, sendable}
use Rattle.std.proofs.Crossing.{crosses, frees, send, sync, Box-send, Vec-send}
use Rattle.std.specs.contracts.alloc.Global as Heap
use Rattle.std.specs.contracts.impls.GlobalAllocator.TheImpl.{ghosts}
use Rattle.rev_inverse.specs.contracts.store.Store as store
use Rattle.rev_inverse.proofs.store.Store.TheSendSync as sent_store
use Rattle.rev_undotree.specs.contracts.session.Session as session
use Rattle.rev_tree.specs.contracts.branch.Branch as branch
use Rattle.rev_tree.specs.contracts.run.Run as run
use Rattle.rev_tree.specs.contracts.index.Index as index
use Rattle.rev_tree.proofs.run.Run.TheSendSync as sent_run
use Rattle.rev_tree.proofs.branch.Branch.TheLaws.TheKnot as sent_branch
use Rattle.rev_tree.proofs.index.Index.TheSendSync as sent_index
use Rattle.rev_recorder.specs.contracts.recording.Recording as recording
use Rattle.rev_recorder.specs.contracts.recorder.Recorder as recorder

-- a store
store_send : IsSend (store.the_row Heap.the_row ghosts)
store_send = sent_store.the_send Heap.the_row ghosts send sync frees

-- a run of nodes
run_send : IsSend (run.the_row Heap.the_row ghosts)
run_send = sent_run.the_send Heap.the_row ghosts send sync frees

-- the index of a tree
index_send : IsSend (index.the_row Heap.the_row ghosts)
index_send = sent_index.the_send Heap.the_row ghosts send frees

-- a branch, which holds its forks, each with the place where it leaves the run and with a branch behind a box
branch_send : IsSend (branch.the_row Heap.the_row ghosts)
branch_send = sent_branch.send-Branch Heap.the_row ghosts run_send (λ h s. Vec-send h s) (search sendable) (λ h s. Box-send h s)

-- a session
session_send : IsSend (session.the_row Heap.the_row ghosts)
session_send = search (sendable, crosses, store_send, index_send, branch_send) depth 40

-- a recording
recording_send : IsSend recording.the_row
recording_send = search (sendable, crosses, session_send) depth 40

-- a recorder
pub recorder_sync : IsSync recorder.the_row
recorder_sync = search (sendable, crosses, recording_send) depth 20
