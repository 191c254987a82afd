use Rattle.std.proofs.Common.{◌≡◌, Bool, true, false, Option, None, Some, is_some, refl, sym, ◌∙◌}
use Rattle.rev_options.proofs.run.Goals as goal
use Rattle.rev_options.proofs.run.Goals.{else-json-via-then-json+else-is_some, else-json-via-else-json}

-- what is not there is none
none_of : {A : Type 0} (heap : Option A) (is_there : Bool) → is_there ≡ is_some heap → is_there ≡ false → heap ≡ None
none_of None is_there is unset = refl
none_of (Some bytes) is_there is unset = absurd (let e : true ≡ false = sym is ∙ unset in cc)

pub returns-clause-range : goal.returns-clause-range
returns-clause-range c = (
  c.config_of-config.ensures,
  c.in_ok-heap.ensures,
  elim c.else-json.branch [
    | else-json-via-then-json+else-is_some w ↦ λ json. none_of c.in_ok-heap.heap w.is_some.result w.is_some.ensures w.if-is_some.false
    | else-json-via-else-json w ↦ λ json. absurd (let e : true ≡ false = sym json ∙ w.if-json.false in cc)
  ],
)
