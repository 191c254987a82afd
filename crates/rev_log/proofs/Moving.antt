-- Page moves that wait, where events come and go.
use Rattle.std.proofs.Common.{◌≡◌, ℕ, suc, ◌+◌, Bool, true, false, ◌&&◌, ◌||◌, eqb, ltb, List, [], ◌∷◌, ◌++◌, length, Option, Some, None, refl, sym, ◌∙◌, ap, arith}
use Rattle.std.specs.List.{list_any}
use Rattle.rev_watch.specs.declared.event.Event.{Event}
use Rattle.rev_log.specs.declared.coming.Coming.{Coming}
use Rattle.rev_log.specs.Events.{move_source, is_class, moves_from}
use Rattle.rev_log.specs.Foresight.{Numbered, moves_before}
use Rattle.rev_log.specs.Waiting.{events, move_here, moves_at, moves_behind}

move-append : (o : Option ℕ) (n : ℕ) (xs ys : List (ℕ × ℕ)) → move_here o n xs ++ ys ≡ move_here o n (xs ++ ys)
move-append None n xs ys = refl
move-append (Some source) n xs ys = refl

module _ {A : Type 0} where
  pub moves-push : (n : ℕ) (es : List (Event A)) (e : Event A) → moves_at n (es ++ e ∷ []) ≡ moves_at n es ++ move_here (move_source e) (n + length es) []
  moves-push n [] e = let z : n ≡ n + 0 = omega arith in ap (λ m. move_here (move_source e) m []) z
  moves-push n (x ∷ es) e =
      ap (move_here (move_source x) n) (moves-push (suc n) es e ∙ (let number : suc n + length es ≡ n + suc (length es) = omega arith in ap (λ m. moves_at (suc n) es ++ move_here (move_source e) m []) number))
      ∙ sym (move-append (move_source x) n (moves_at (suc n) es) (move_here (move_source e) (n + suc (length es)) []))

  pub moves-pop : (n : ℕ) (es : List (Event A)) (e : Event A) → moves_behind (move_source e) (moves_at n (e ∷ es)) ≡ moves_at (suc n) es
  moves-pop n es e = by (move_source e) where
    by : (o : Option ℕ) → moves_behind o (move_here o n (moves_at (suc n) es)) ≡ moves_at (suc n) es
    by None = refl
    by (Some source) = refl

  -- the list of moves tells what the events tell
  pub before-moves : (class number n : ℕ) (xs : List (Coming A)) → Numbered n xs → list_any (λ m. ltb m.0 number && eqb m.1 class) (moves_at n (events xs)) ≡ moves_before class number xs
  before-moves class number n [] h = refl
  before-moves class number n (x ∷ xs) h =
      by (move_source x.line.event) (before-moves class number (suc n) xs h.1) ∙ ap (λ m. (ltb m number && moves_from class x.line.event) || moves_before class number xs) (sym h.0)
    where
      none : (a c : Bool) → c ≡ ((a && false) || c)
      none true c = refl
      none false c = refl

      by : (o : Option ℕ) → list_any (λ m. ltb m.0 number && eqb m.1 class) (moves_at (suc n) (events xs)) ≡ moves_before class number xs
          → list_any (λ m. ltb m.0 number && eqb m.1 class) (move_here o n (moves_at (suc n) (events xs))) ≡ ((ltb n number && is_class class o) || moves_before class number xs)
      by None rest = rest ∙ none (ltb n number) (moves_before class number xs)
      by (Some source) rest = ap (λ b. (ltb n number && eqb source class) || b) rest
