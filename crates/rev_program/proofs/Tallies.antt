-- What is told at a run's end.
use Rattle.std.proofs.Common.{◌≡◌, ℕ, false, nat_eq, inl, inr, List, [], ◌∷◌, Option, codes, decimal, refl, sym, ◌∙◌, subst, arith, eqb-true}
use Rattle.std.proofs.lemmas.Bool.{cases_Bool}
use Rattle.rev_shell.specs.declared.run.Tally.{Tally}
use Rattle.rev_shell.specs.declared.run.Summary.{Summary}
use Rattle.rev_messages.specs.Ends.{IsStatus}
use Rattle.rev_program.specs.Program.{EndsRun, IsCounted, tally_text}
use Rattle.rev_messages.specs.Stop.{status, text}
use Rattle.rev_messages.specs.Telling.{Told, joined}
use Rattle.rev_messages.specs.declared.stop.Stop.{Stop}
use Rattle.rev_program.proofs.Ends.{stop_status}

other : (n m : ℕ) → (n ≡ m → ⊥) → nat_eq n m ≡ false
other n m differs = elim (cases_Bool (nat_eq n m)) [
  | inl e ↦ absurd (differs (eqb-true n m e))
  | inr e ↦ e
]

-- one command was so
pub one_told : (P : List ℕ → Type 0) (t : Tally) (so first : List ℕ) → t.count ≡ 1 → first ≡ decimal t.first →
    P (joined (codes "lrudb: 1 command was " ∷ so ∷ codes ", it is command " ∷ first ∷ codes "\n" ∷ [])) → P (tally_text t so)
one_told P t so first is digits told = rw is (subst (λ d. P (joined (codes "lrudb: 1 command was " ∷ so ∷ codes ", it is command " ∷ d ∷ codes "\n" ∷ []))) digits told)

-- more were
pub more_told : (P : List ℕ → Type 0) (t : Tally) (so count first : List ℕ) → (t.count ≡ 0 → ⊥) → (t.count ≡ 1 → ⊥) → count ≡ decimal t.count → first ≡ decimal t.first →
    P (joined (codes "lrudb: " ∷ count ∷ codes " commands were " ∷ so ∷ codes ", the first is command " ∷ first ∷ codes "\n" ∷ [])) → P (tally_text t so)
more_told P t so count first some many number digits told =
    rw (other t.count 0 some, other t.count 1 many)
    (subst (λ n. P (joined (codes "lrudb: " ∷ n ∷ codes " commands were " ∷ so ∷ codes ", the first is command " ∷ decimal t.first ∷ codes "\n" ∷ []))) number
    (subst (λ d. P (joined (codes "lrudb: " ∷ count ∷ codes " commands were " ∷ so ∷ codes ", the first is command " ∷ d ∷ codes "\n" ∷ []))) digits told))

-- a program that is stopped does not end with 0
pub some_status : (s : Stop) → status s ≡ 0 → ⊥
some_status s e = let least = stop_status s in omega (arith, least, e)

-- a run that was stopped
pub run_stopped : (told tells : Option (List ℕ)) (before after : ℕ) (s : Stop) (n : ℕ) → IsStatus n → n ≡ status s → Told told tells before after (text s) → EndsRun told tells before after n
run_stopped told tells before after s n range is t = record {
  status_is = range;
  done = λ nothing. absurd (some_status s (sym is ∙ nothing));
  early = λ some. inl (s, record { status_is = is; text_is = t });
}

-- a run of which the user was told
pub run_done : (told tells : Option (List ℕ)) (before after : ℕ) (sum : Summary) → IsCounted told tells before after sum → EndsRun told tells before after 0
run_done told tells before after sum counted = record {
  status_is = (omega arith, λ e. omega (arith, e));
  done = λ nothing. (sum, counted);
  early = λ some. absurd (some refl);
}
