-- Ages read at a header_of.
use Rattle.std.specs.Prelude.{◌≡◌, ◌-◌, Option, None, Some, refl}
use Rattle.std.specs.Option.{option_map}
use Rattle.std.proofs.Common.{ap}
use Rattle.rev_items.specs.Plain.{PlainItem}
use Rattle.rev_model.specs.State.{State}
use Rattle.rev_model.specs.Words.{age, header_of}
use Rattle.rev_model.specs.declared.ItemHeader.{ItemHeader}

some_inj : {X : Type 0} (x y : X) → Some x ≡ Some y → x ≡ y
some_inj x y e = cc

pub age_glanced : (s : State) (o : Option PlainItem) (g : ItemHeader) → Some g ≡ option_map header_of o → s.globals.clock - g.time ≡ age s o
age_glanced s None g e = absurd (cc)
age_glanced s (Some i) g e = ap (λ (h : ItemHeader). s.globals.clock - h.time) (some_inj g (header_of i) e)

pub age_none : (s : State) (o : Option PlainItem) → None ≡ option_map header_of o → 0 ≡ age s o
age_none s None e = refl
age_none s (Some i) e = absurd (cc)
