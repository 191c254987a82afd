use Rattle.rev_messages.proofs.stop.Stop.tell.Goals as goal

pub returns-in-Usage-clause-told : goal.returns-in-Usage-clause-told
returns-in-Usage-clause-told g c =
    let t = rw c.as_str.ensures.value at c.tell_parts.ensures.told in
    rw c.in-Usage.is t

pub returns-in-BadPage-clause-told : goal.returns-in-BadPage-clause-told
returns-in-BadPage-clause-told g c = rw c.in-BadPage.is c.tell_page.ensures.told

pub returns-in-BadFactor-clause-told : goal.returns-in-BadFactor-clause-told
returns-in-BadFactor-clause-told g c = rw c.in-BadFactor.is c.tell_factor.ensures.told

pub returns-in-TooManyClasses-clause-told : goal.returns-in-TooManyClasses-clause-told
returns-in-TooManyClasses-clause-told g c = rw c.in-TooManyClasses.is c.tell_classes.ensures.told

pub returns-in-BadLimit-clause-told : goal.returns-in-BadLimit-clause-told
returns-in-BadLimit-clause-told g c = rw c.in-BadLimit.is c.tell_limits.ensures.told

pub returns-in-Memory-clause-told : goal.returns-in-Memory-clause-told
returns-in-Memory-clause-told g c = rw c.in-Memory.is c.tell_parts-in-Memory.ensures.told

pub returns-in-CannotRead-clause-told : goal.returns-in-CannotRead-clause-told
returns-in-CannotRead-clause-told g c = rw c.in-CannotRead.is c.tell_parts-in-CannotRead.ensures.told

pub returns-in-CannotWrite-clause-told : goal.returns-in-CannotWrite-clause-told
returns-in-CannotWrite-clause-told g c = rw c.in-CannotWrite.is c.tell_parts-in-CannotWrite.ensures.told

pub returns-in-TooLong-clause-told : goal.returns-in-TooLong-clause-told
returns-in-TooLong-clause-told g c = rw c.in-TooLong.is c.tell_parts-in-TooLong.ensures.told

pub returns-in-CannotOpen-clause-told : goal.returns-in-CannotOpen-clause-told
returns-in-CannotOpen-clause-told g c =
    let t = rw c.as_str-in-CannotOpen.ensures.value at c.tell_parts-in-CannotOpen.ensures.told in
    rw c.in-CannotOpen.is t

pub returns-in-Usage-clause-ok : goal.returns-in-Usage-clause-ok
returns-in-Usage-clause-ok g c =
    let t = rw c.as_str.ensures.value at c.tell_parts.ensures.ok in
    rw c.in-Usage.is t

pub returns-in-BadPage-clause-ok : goal.returns-in-BadPage-clause-ok
returns-in-BadPage-clause-ok g c = rw c.in-BadPage.is c.tell_page.ensures.ok

pub returns-in-BadFactor-clause-ok : goal.returns-in-BadFactor-clause-ok
returns-in-BadFactor-clause-ok g c = rw c.in-BadFactor.is c.tell_factor.ensures.ok

pub returns-in-TooManyClasses-clause-ok : goal.returns-in-TooManyClasses-clause-ok
returns-in-TooManyClasses-clause-ok g c = rw c.in-TooManyClasses.is c.tell_classes.ensures.ok

pub returns-in-BadLimit-clause-ok : goal.returns-in-BadLimit-clause-ok
returns-in-BadLimit-clause-ok g c = rw c.in-BadLimit.is c.tell_limits.ensures.ok

pub returns-in-Memory-clause-ok : goal.returns-in-Memory-clause-ok
returns-in-Memory-clause-ok g c = rw c.in-Memory.is c.tell_parts-in-Memory.ensures.ok

pub returns-in-CannotRead-clause-ok : goal.returns-in-CannotRead-clause-ok
returns-in-CannotRead-clause-ok g c = rw c.in-CannotRead.is c.tell_parts-in-CannotRead.ensures.ok

pub returns-in-CannotWrite-clause-ok : goal.returns-in-CannotWrite-clause-ok
returns-in-CannotWrite-clause-ok g c = rw c.in-CannotWrite.is c.tell_parts-in-CannotWrite.ensures.ok

pub returns-in-TooLong-clause-ok : goal.returns-in-TooLong-clause-ok
returns-in-TooLong-clause-ok g c = rw c.in-TooLong.is c.tell_parts-in-TooLong.ensures.ok

pub returns-in-CannotOpen-clause-ok : goal.returns-in-CannotOpen-clause-ok
returns-in-CannotOpen-clause-ok g c =
    let t = rw c.as_str-in-CannotOpen.ensures.value at c.tell_parts-in-CannotOpen.ensures.ok in
    rw c.in-CannotOpen.is t

pub returns-in-CannotWriteFile-clause-told : goal.returns-in-CannotWriteFile-clause-told
returns-in-CannotWriteFile-clause-told g c =
    let t = rw c.as_str-in-CannotWriteFile.ensures.value at c.tell_parts-in-CannotWriteFile.ensures.told in
    rw c.in-CannotWriteFile.is t

pub returns-in-NoEvent-clause-told : goal.returns-in-NoEvent-clause-told
returns-in-NoEvent-clause-told g c =
    let t = rw c.as_str-in-NoEvent.ensures.value at c.tell_parts-in-NoEvent.ensures.told in
    rw c.in-NoEvent.is t

pub returns-in-CannotWriteFile-clause-ok : goal.returns-in-CannotWriteFile-clause-ok
returns-in-CannotWriteFile-clause-ok g c =
    let t = rw c.as_str-in-CannotWriteFile.ensures.value at c.tell_parts-in-CannotWriteFile.ensures.ok in
    rw c.in-CannotWriteFile.is t

pub returns-in-NoEvent-clause-ok : goal.returns-in-NoEvent-clause-ok
returns-in-NoEvent-clause-ok g c =
    let t = rw c.as_str-in-NoEvent.ensures.value at c.tell_parts-in-NoEvent.ensures.ok in
    rw c.in-NoEvent.is t

pub returns-in-BadLine-clause-told : goal.returns-in-BadLine-clause-told
returns-in-BadLine-clause-told g c =
    let t = rw c.as_str-in-BadLine.ensures.value at c.tell_line.ensures.told in
    rw c.in-BadLine.is t

pub returns-in-BadStats-clause-told : goal.returns-in-BadStats-clause-told
returns-in-BadStats-clause-told g c =
    let t = rw c.as_str-in-BadStats.ensures.value at c.tell_stats.ensures.told in
    rw c.in-BadStats.is t

pub returns-in-BadLine-clause-ok : goal.returns-in-BadLine-clause-ok
returns-in-BadLine-clause-ok g c =
    let t = rw c.as_str-in-BadLine.ensures.value at c.tell_line.ensures.ok in
    rw c.in-BadLine.is t

pub returns-in-BadStats-clause-ok : goal.returns-in-BadStats-clause-ok
returns-in-BadStats-clause-ok g c =
    let t = rw c.as_str-in-BadStats.ensures.value at c.tell_stats.ensures.ok in
    rw c.in-BadStats.is t

pub returns-in-NoRow-clause-told : goal.returns-in-NoRow-clause-told
returns-in-NoRow-clause-told g c =
    let t = rw c.as_str-in-NoRow.ensures.value at c.tell_parts-in-NoRow.ensures.told in
    rw c.in-NoRow.is t

pub returns-in-BadRow-clause-told : goal.returns-in-BadRow-clause-told
returns-in-BadRow-clause-told g c =
    let t = rw c.as_str-in-BadRow.ensures.value at c.tell_row.ensures.told in
    rw c.in-BadRow.is t

pub returns-in-NoRow-clause-ok : goal.returns-in-NoRow-clause-ok
returns-in-NoRow-clause-ok g c =
    let t = rw c.as_str-in-NoRow.ensures.value at c.tell_parts-in-NoRow.ensures.ok in
    rw c.in-NoRow.is t

pub returns-in-BadRow-clause-ok : goal.returns-in-BadRow-clause-ok
returns-in-BadRow-clause-ok g c =
    let t = rw c.as_str-in-BadRow.ensures.value at c.tell_row.ensures.ok in
    rw c.in-BadRow.is t

pub returns-in-BadImport-clause-told : goal.returns-in-BadImport-clause-told
returns-in-BadImport-clause-told g c =
    let t = rw c.as_str-in-BadImport.ensures.value at c.tell_parts-in-BadImport.ensures.told in
    rw c.in-BadImport.is t

pub returns-in-BadImport-clause-ok : goal.returns-in-BadImport-clause-ok
returns-in-BadImport-clause-ok g c =
    let t = rw c.as_str-in-BadImport.ensures.value at c.tell_parts-in-BadImport.ensures.ok in
    rw c.in-BadImport.is t
