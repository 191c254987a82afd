-- The limits of `lru tune`.
-- Rule of this project: shares and factors beyond these are refused.
use Rattle.std.specs.Prelude.{ℕ, ◌+◌, Bool, ◌&&◌, nat_le}
use Rattle.rev_model.specs.declared.Settings.{Settings}

-- shares of HOT and WARM in per cent, their age factors in thousandths
pub record PlainTune : Type 0 where
  pub hot_share : ℕ
  pub warm_share : ℕ
  pub hot_factor : ℕ
  pub warm_factor : ℕ

-- from the least to the most
abbrev pub is_within : ℕ → ℕ → ℕ → Bool
is_within least most n = nat_le least n && nat_le n most

-- the most that both shares may be together, in per cent
abbrev pub most_shares : ℕ
most_shares = 80

-- each share is 1 to 79 and both together at most 80, and each factor is 1 to 1000000
abbrev pub is_tune : ℕ → ℕ → ℕ → ℕ → Bool
is_tune hot warm hot_factor warm_factor =
    is_within 1 79 hot && (is_within 1 79 warm && (nat_le (hot + warm) most_shares && (is_within 1 1000000 hot_factor && is_within 1 1000000 warm_factor)))

-- the settings with the four numbers
abbrev pub tuned : PlainTune → Settings → Settings
tuned t g = record g { hot_share = t.hot_share; warm_share = t.warm_share; hot_factor = t.hot_factor; warm_factor = t.warm_factor }
