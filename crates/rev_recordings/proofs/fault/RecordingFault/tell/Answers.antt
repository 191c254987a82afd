use Rattle.rev_recordings.proofs.fault.RecordingFault.tell.Goals as goal

pub returns-in-CannotRead-clause-told : goal.returns-in-CannotRead-clause-told
returns-in-CannotRead-clause-told g c =
    let t = rw c.as_str.ensures.value at c.tell_parts-in-CannotRead.ensures.told in
    rw c.in-CannotRead.is t

pub returns-in-TooLong-clause-told : goal.returns-in-TooLong-clause-told
returns-in-TooLong-clause-told g c = rw c.in-TooLong.is c.tell_parts-in-TooLong.ensures.told

pub returns-in-Memory-clause-told : goal.returns-in-Memory-clause-told
returns-in-Memory-clause-told g c = rw c.in-Memory.is c.tell_parts-in-Memory.ensures.told

pub returns-in-CannotWrite-clause-told : goal.returns-in-CannotWrite-clause-told
returns-in-CannotWrite-clause-told g c = rw c.in-CannotWrite.is c.tell_parts-in-CannotWrite.ensures.told

pub returns-in-LogDiffers-clause-told : goal.returns-in-LogDiffers-clause-told
returns-in-LogDiffers-clause-told g c = rw c.in-LogDiffers.is c.tell_parts-in-LogDiffers.ensures.told

pub returns-in-CannotRead-clause-ok : goal.returns-in-CannotRead-clause-ok
returns-in-CannotRead-clause-ok g c =
    let t = rw c.as_str.ensures.value at c.tell_parts-in-CannotRead.ensures.ok in
    rw c.in-CannotRead.is t

pub returns-in-TooLong-clause-ok : goal.returns-in-TooLong-clause-ok
returns-in-TooLong-clause-ok g c = rw c.in-TooLong.is c.tell_parts-in-TooLong.ensures.ok

pub returns-in-Memory-clause-ok : goal.returns-in-Memory-clause-ok
returns-in-Memory-clause-ok g c = rw c.in-Memory.is c.tell_parts-in-Memory.ensures.ok

pub returns-in-CannotWrite-clause-ok : goal.returns-in-CannotWrite-clause-ok
returns-in-CannotWrite-clause-ok g c = rw c.in-CannotWrite.is c.tell_parts-in-CannotWrite.ensures.ok

pub returns-in-LogDiffers-clause-ok : goal.returns-in-LogDiffers-clause-ok
returns-in-LogDiffers-clause-ok g c = rw c.in-LogDiffers.is c.tell_parts-in-LogDiffers.ensures.ok
