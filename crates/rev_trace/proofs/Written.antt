-- Rows as they are published, and what the rules make of their columns, computed. What a script does not show of them
-- stands here alone.
use Rattle.std.specs.Prelude.{◌≡◌, [], ◌∷◌, Ok, codes, refl}
use Rattle.csv.specs.Records.{field_at}
use Rattle.rev_script.specs.Number.{number}
use Rattle.rev_trace.specs.Row.{operation_of, rare_operation_of, key_of, row_of}
use Rattle.rev_trace.specs.declared.row.Operation.TheVariants as operations

-- bytes of data that a client only asked for
pub asking_row : row_of (codes "0" ∷ codes "q:q:1:8WTfjZU14ee" ∷ codes "17" ∷ codes "213" ∷ codes "4" ∷ codes "get" ∷ codes "0" ∷ [])
    ≡ Ok record { time = 0; key = codes "q:q:1:8WTfjZU14ee"; size = 213; operation = operations.Get; ttl = 0 }
unfolding row_of field_at key_of number operation_of rare_operation_of
asking_row = refl

-- a key that is shorter than it was
pub short_key_row : row_of (codes "7" ∷ codes "a\"b" ∷ codes "5" ∷ codes "0" ∷ codes "1" ∷ codes "cas" ∷ codes "3600" ∷ [])
    ≡ Ok record { time = 7; key = codes "a\"b.."; size = 0; operation = operations.Cas; ttl = 3600 }
unfolding row_of field_at key_of number operation_of rare_operation_of
short_key_row = refl

-- another operation, of which a script shows no more than the second, and the largest number
pub unknown_row : row_of (codes "8" ∷ codes "k" ∷ codes "1" ∷ codes "4294967295" ∷ codes "1" ∷ codes "touch" ∷ codes "0" ∷ [])
    ≡ Ok record { time = 8; key = codes "k"; size = 4294967295; operation = operations.Unknown; ttl = 0 }
unfolding row_of field_at key_of number operation_of rare_operation_of
unknown_row = refl
