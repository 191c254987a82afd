-- Which texts end with a refusal of the tree.
use Rattle.std.proofs.Common.{◌≡◌, ◌≤◌, ◌-◌, ◌+◌, ℕ, false, inl, inr, codes, List, ◌++◌, length, take, get_or, refl, ◌∙◌, ap, arith, length-append, eqb}
use Rattle.std.proofs.lemmas.Bool.{cases_Bool}
use Rattle.std.specs.List.{ends_with}
use Rattle.std.proofs.lemmas.Bool.Decides.{Decides-eqb}
use Rattle.std.proofs.lemmas.List.{get_or-append-add}
use Rattle.std.proofs.lemmas.Slice.Eq.{ends_is}
use Rattle.rev_shell.specs.Run.{is_refusal}
use Rattle.rev_texts.specs.Texts.{output}

third : (front end : List ℕ) → 3 ≤ length end → get_or (front ++ end) (length (front ++ end) - 3) 0 ≡ get_or end (length end - 3) 0
third front end few =
    let e : length (front ++ end) - 3 ≡ length front + (length end - 3) = omega (arith, length-append front end, few) in
    rw e (get_or-append-add front end (length end - 3) 0)

-- a text whose last but two byte is another
no_end : (text end : List ℕ) → 3 ≤ length end → (get_or text (length text - 3) 0 ≡ get_or end (length end - 3) 0 → ⊥) → ends_with eqb text end ≡ false
no_end text end few differs = elim (cases_Bool (ends_with eqb text end)) [
  | inl e ↦
      let s = (ends_is Decides-eqb text end _ refl).0 e in
      absurd (differs (ap (λ t. get_or t (length t - 3) 0) s ∙ third (take (length text - length end) text) end few))
  | inr e ↦ e
]

pub other_text : (text : List ℕ) → (get_or text (length text - 3) 0 ≡ 115 → ⊥) → is_refusal text ≡ false
other_text text differs = rw (no_end text (output (codes "SERVER_ERROR too many nodes")) (omega arith) differs, no_end text (output (codes "SERVER_ERROR too many nested forks")) (omega arith) differs) refl
