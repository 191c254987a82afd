-- A flush changes only the timing, and keeps a store sound.
use Rattle.std.specs.Prelude.{ℕ, ◌≡◌, None, nat_le, refl}
use Rattle.std.proofs.Common.{inl, inr}
use Rattle.std.proofs.lemmas.Bool.{cases_Bool}
use Rattle.rev_model.specs.State.{State}
use Rattle.rev_model.specs.Client.{flush_at}
use Rattle.rev_model.specs.Move.{with_part}
use Rattle.rev_model.specs.declared.GlobalPart.TheVariants as part
use Rattle.rev_model.specs.declared.Timing.{Timing}
use Rattle.rev_edits.proofs.Rest.{Rest}
use Rattle.rev_commands.specs.Flushing.{flushed}

-- the state with the timing of a flush at this moment
abbrev pub flush_to : State → Timing → State
flush_to s t = record s { globals = with_part (part.Timing t) s.globals }

pub flushed_at : (s : State) (m : ℕ) → flush_to s (flushed s.globals m) ≡ flush_at s m
flushed_at s m = elim (cases_Bool (nat_le m s.globals.clock)) [ inl e ↦ rw e refl | inr e ↦ rw e refl ]

-- neither the settings nor the page mover's place changes
pub rest-flushed : (s : State) (m : ℕ) → Rest None s → Rest None (flush_to s (flushed s.globals m))
rest-flushed s m r = elim (cases_Bool (nat_le m s.globals.clock)) [
  | inl e ↦ rw e (record { placed = r.placed; filed = r.filed; kept = r.kept })
  | inr e ↦ rw e (record { placed = r.placed; filed = r.filed; kept = r.kept })
]
