-- The order of chunks is total, and exact.
use Rattle.std.specs.Prelude.{ℕ}
use Rattle.std.specs.Ordering.{nat_cmp}
use Rattle.std.specs.Cmp.{IsTotalOrder, nat_cmp_total}
use Rattle.std.specs.FinMap.{IsAntisymmetric}
use Rattle.std.proofs.Common.{ap}
use Rattle.std.proofs.lemmas.Cmp.{on_total, then_total}
use Rattle.std.proofs.lemmas.Map.Lookups.{exact_pairs, exact_unsigned}
use Rattle.rev_model.specs.Chunk.{chunk_cmp}

pub chunk_cmp_exact : IsAntisymmetric chunk_cmp
chunk_cmp_exact a b h = ap (λ (p : ℕ × ℕ). record { page = p.0; slot = p.1 }) (exact_pairs nat_cmp nat_cmp exact_unsigned exact_unsigned (a.page, a.slot) (b.page, b.slot) h)

pub chunk_cmp_total : IsTotalOrder chunk_cmp
chunk_cmp_total = then_total (on_total (λ c. c.page) nat_cmp_total) (on_total (λ c. c.slot) nat_cmp_total)
