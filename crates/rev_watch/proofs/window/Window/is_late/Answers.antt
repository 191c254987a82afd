use Rattle.std.proofs.Common.{refl}
use Rattle.rev_watch.proofs.window.Window.is_late.Goals as goal

pub returns-in-Some : goal.returns-in-Some
returns-in-Some g c = rw (← c.self.view_is, c.in-Some.is) refl
