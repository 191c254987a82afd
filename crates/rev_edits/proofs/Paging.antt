-- A page that is planned is one of few.
use Rattle.std.specs.Prelude.{◌<◌, length}
use Rattle.std.proofs.Common.{arith}
use Rattle.rev_model.specs.State.{State}
use Rattle.rev_model.specs.Sound.{Sound}

-- a page's number is small
pub few_pages : (s : State) → Sound s → length s.owner < 65536
few_pages s sound = omega (arith, sound.well.owned.pages, sound.kept.table.limit)
