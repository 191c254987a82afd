use Rattle.rev_options.proofs.heap_of.Goals as goal

pub returns-in-Some : goal.returns-in-Some
returns-in-Some c = (c.if-bytes-ge-MIN_HEAP.true, c.if-bytes-le-MAX_HEAP.true)
