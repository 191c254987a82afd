-- A store that has just been opened is sound.
use Rattle.std.specs.Prelude.{ℕ, zero, suc, ◌≡◌, ◌≤◌, ◌+◌, ◌*◌, true, is_some, List, [], None, Some, length, nat_lt, replicate, slice_index_or, refl}
use Rattle.std.specs.FinMap as map
use Rattle.std.specs.List.{sum_by}
use Rattle.std.specs.Ordering.{nat_cmp}
use Rattle.std.specs.Cmp.Lexicographic.{slice_cmp}
use Rattle.std.proofs.Common.{sym, ◌∙◌, ap, inl, inr, arith}
use Rattle.std.proofs.lemmas.Bool.{cases_Bool, true≢false}
use Rattle.std.proofs.lemmas.Grind.{common_steps}
use Rattle.std.proofs.lemmas.List.{length-replicate}
use Rattle.std.proofs.lemmas.List.Folds.{sum_by-replicate}
use Rattle.rev_classes.specs.Sizes.{most_classes}
use Rattle.rev_classes.specs.Limits.{is_page_size, is_growth_factor, are_limits, class_sizes, fault_of}
use Rattle.rev_classes.proofs.Laws.{class_sizes-law}
use Rattle.rev_classes.specs.declared.Config.{Config}
use Rattle.rev_model.specs.Chunk.{same_chunk, same_entry, chunk_cmp}
use Rattle.rev_model.specs.Lists.{has, count}
use Rattle.rev_model.specs.State.{WellFormed, stands_in, queue_place}
use Rattle.rev_model.specs.Sound.{Sound}
use Rattle.rev_model.specs.declared.ChunkRef.{ChunkRef}
use Rattle.rev_model.specs.declared.Entry.{Entry}
use Rattle.rev_model.specs.declared.Entry.TheVariants.{Chunk, Mark}
use Rattle.rev_inverse.specs.Empty.{empty_state}

pub none_at : {X : Type 0} (n i : ℕ) → slice_index_or {A = List X} (replicate n []) i [] ≡ []
none_at zero i = refl
none_at (suc n) zero = refl
none_at (suc n) (suc i) = none_at n i

nothing_has_chunk : (n i : ℕ) (x : ChunkRef) → has same_chunk x (slice_index_or (replicate n []) i []) ≡ true → ⊥
nothing_has_chunk n i x h = true≢false (sym h ∙ ap (has same_chunk x) (none_at n i))

nothing_has_entry : (n i : ℕ) (e : Entry) → has same_entry e (slice_index_or (replicate n []) i []) ≡ true → ⊥
nothing_has_entry n i e h = true≢false (sym h ∙ ap (has same_entry e) (none_at n i))

none_stand : (m n : ℕ) (x : ChunkRef) → stands_in (replicate m []) (replicate n []) x ≡ 0
none_stand m n x =
    let a : sum_by (count same_chunk x) (replicate m []) ≡ m * 0 = sum_by-replicate (count same_chunk x) m [] in
    let b : sum_by (count same_entry (Chunk x)) (replicate n []) ≡ n * 0 = sum_by-replicate (count same_entry (Chunk x)) n [] in
    omega (arith, a, b)

-- what a configuration without a fault has
pub record HasLimits (c : Config) : Type 0 where
  pub pages : c.pages ≤ 4096
  pub bump : c.bump ≤ 4096
  pub power : c.hash_power ≤ 20

pub has_limits : (c : Config) → fault_of c ≡ None → HasLimits c
has_limits c e = elim (cases_Bool (is_page_size c.page_size)) [
  | inl p ↦ elim (cases_Bool (is_growth_factor c.num c.den)) [
    | inl f ↦ elim (cases_Bool (nat_lt most_classes (length (class_sizes c)))) [
      | inl many ↦ let h = rw (p, f, many) at e in cc
      | inr few ↦ elim (cases_Bool (are_limits c)) [
        | inl l ↦ record { pages = grind (arith, common_steps); bump = grind (arith, common_steps); power = grind (arith, common_steps) }
        | inr l ↦ let h = rw (p, f, few, l) at e in cc
      ]
    ]
    | inr f ↦ let h = rw (p, f) at e in cc
  ]
  | inr p ↦ let h = rw p at e in cc
]

empty_well : (c : Config) → fault_of c ≡ None → WellFormed (empty_state c)
empty_well c e =
    let last = length (class_sizes c) in
    record {
      lists = record {
        free_length = length-replicate (last + 1) [];
        queues_length = length-replicate (4 * (last + 1)) [];
        free_of_class = λ d x h. absurd (nothing_has_chunk (last + 1) d x h);
        queued_of_class = λ d q x h. absurd (nothing_has_entry (4 * (last + 1)) (queue_place d q) (Chunk x) h);
        once = λ x. omega (arith, none_stand (last + 1) (4 * (last + 1)) x);
        one_mark = λ p. let h : count same_entry Mark (slice_index_or (replicate (4 * (last + 1)) []) p []) ≡ 0 = ap (count same_entry Mark) (none_at (4 * (last + 1)) p) in omega (arith, h);
      };
      filled = record {
        queued_items = λ p x h. absurd (nothing_has_entry (4 * (last + 1)) p (Chunk x) h);
        items = λ x h. absurd (true≢false (sym h ∙ ap is_some (map.get-empty chunk_cmp x)));
      };
      index = record {
        indexed = λ k x h. let f : None ≡ Some x = sym (map.get-empty (slice_cmp nat_cmp) k) ∙ h in absurd cc;
      };
      owned = record {
        owners = λ p. omega arith;
        pages = omega arith;
      };
      bump = omega arith;
      counters = length-replicate (7 * (last + 1)) 0;
    }

-- a store that has just been opened is sound
pub empty_sound : (c : Config) → fault_of c ≡ None → Sound (empty_state c)
empty_sound c e =
    let last = length (class_sizes c) in
    let limits = has_limits c e in
    record {
      well = empty_well c e;
      placed = record { once = λ x h. omega (arith, h.page) };
      filed = record {
        queued = λ x i h. let f : None ≡ Some i = sym (map.get-empty chunk_cmp x) ∙ h in absurd cc;
        keyed = λ x i h. let f : None ≡ Some i = sym (map.get-empty chunk_cmp x) ∙ h in absurd cc;
        class = λ x i h. let f : None ≡ Some i = sym (map.get-empty chunk_cmp x) ∙ h in absurd cc;
      };
      kept = record {
        mover = tt;
        pages = omega arith;
        settings = record { hot = (omega arith, omega arith); warm = (omega arith, omega arith); both = omega arith; factors = (omega arith, omega arith, omega arith, omega arith) };
        table = record { sizes = class_sizes-law c e; limit = limits.pages; bump = limits.bump };
      };
    }
