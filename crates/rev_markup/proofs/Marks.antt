-- Marks along a line reach its last number.
use Rattle.std.proofs.Common.{◌≡◌, ℕ, ◌+◌, ◌*◌, ◌/◌, ◌%◌, ◌<◌, ◌≤◌, min, max, ⊎_elim, arith}
use Rattle.std.proofs.lemmas.Bool.{cases_lt}
use Rattle.std.proofs.lemmas.Grind.{div_ceil_times, common_steps}
use Rattle.std.proofs.Math.Nat.{mul-le-mul_left, le-max_left, mul_comm}

-- so many steps as it takes, but at least one
steps : ℕ → ℕ → ℕ
steps last step = max (last / step + min 1 (last % step)) 1

steps_reach : (last step : ℕ) → 0 < step → last ≤ step * steps last step
unfolding steps
steps_reach last step some =
    let count = last / step + min 1 (last % step) in
    let reach : last ≤ count * step = (div_ceil_times last step some).0 in
    let more : step * count ≤ step * max count 1 = mul-le-mul_left step (le-max_left count 1) in
    let turn : count * step ≡ step * count = mul_comm count step in
    omega (arith, reach, more, turn)

min_reaches : (last step a b : ℕ) → last ≤ step * a → last ≤ step * b → last ≤ step * min a b
min_reaches last step a b x y = ⊎_elim (λ l. let e : min a b ≡ a = omega (arith, l) in rw e x) (λ l. let e : min a b ≡ b = omega (arith, l) in rw e y) (cases_lt a b)

pub marks_reach : (last step most : ℕ) → 0 < step → last ≤ step * most → last ≤ step * min (max (last / step + min 1 (last % step)) 1) most
unfolding steps
marks_reach last step most some enough = min_reaches last step (steps last step) most (steps_reach last step some) enough

pub more_reaches : (last step most : ℕ) → last ≤ step * most → last ≤ max step 1 * most
more_reaches last step most h = grind (arith, common_steps)
