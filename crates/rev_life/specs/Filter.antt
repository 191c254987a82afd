-- Which keys that left are told.
-- Rule of this project: those that pass each test that is there.
use Rattle.std.specs.Prelude.{◌≡◌, ℕ, ◌≤◌, true, nat_eq, Some, IfSome}
use Rattle.std.specs.List.{starts_with}
use Rattle.rev_life.specs.Leaving.{PlainLeaving}
use Rattle.rev_life.specs.declared.filter.Filter.{Filter}

-- a key that left is told, in this life of the server
pub record Passes (f : Filter) (server : ℕ) (l : PlainLeaving) : Type 0 where
  -- by its slab class, by why it left, by how it begins
  pub class : IfSome f.class (λ c. l.class ≡ Some c)
  pub reason : IfSome f.reason (λ r. l.verdict.reason ≡ r)
  pub prefix : IfSome f.prefix (λ p. starts_with nat_eq l.key p.now ≡ true)
  -- from the first second to the last one, by the Unix clock
  pub from : IfSome f.from (λ s. s ≤ l.time.seconds)
  pub to : IfSome f.to (λ s. l.time.seconds ≤ s)
  -- in this life of the server
  pub life : IfSome f.life (λ n. server ≡ n)
