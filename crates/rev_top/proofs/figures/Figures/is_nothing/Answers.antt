use Rattle.std.proofs.Common.{◌≡◌, ◌==◌, refl}
use Rattle.rev_top.specs.Figures.{is_nothing}
use Rattle.rev_top.specs.declared.figures.Figures.{Figures}
use Rattle.rev_top.proofs.figures.Figures.is_nothing.Goals as goal

-- where the first four are none, the last one decides
last_decides : (f : Figures) → f.stores ≡ 0 → f.hits ≡ 0 → f.misses ≡ 0 → f.evictions ≡ 0 → (f.asked_again == 0) ≡ is_nothing f
last_decides f s h m e = rw (s, h, m, e) refl

pub returns-then-self-eq0-4 : goal.returns-then-self-eq0-4
returns-then-self-eq0-4 c = let t = c.if-self-eq0-4.true in last_decides c.args.self t.0 t.1 t.2 t.3
