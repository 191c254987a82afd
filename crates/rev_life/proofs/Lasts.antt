-- The last life of a key that has ended.
use Rattle.std.proofs.Common.{◌≡◌, ◌-◌, true, false, cond, not, List, [], ◌∷◌, ◌++◌, length, take, map, Some, None, ap, ◌∙◌, refl, arith, take_at, length-append}
use Rattle.std.specs.List.{slice_get}
use Rattle.std.specs.Option.{option_map}
use Rattle.std.proofs.lemmas.Option.{slice_get-map, slice_get-get_or}
use Rattle.std.proofs.lemmas.List.{length-map, get_or_push}
use Rattle.rev_life.specs.Lives.{PlainKey, PlainEnded, is_unlogged, last_ended, is_doubtful, gone_on, reopened, noted_of, noted}
use Rattle.rev_pushers.specs.Pushed.{PlainPushed}
use Rattle.rev_evidence.specs.Verdicts.{is_logged}

pub last-map : {X Y : Type 0} (f : X → Y) (xs : List X) → slice_get (map f xs) (length (map f xs) - 1) ≡ option_map f (slice_get xs (length xs - 1))
last-map f xs = slice_get-map f xs (length (map f xs) - 1) ∙ ap (λ n. option_map f (slice_get xs (n - 1))) (length-map xs f)

-- whether the last one ended by what the log does not say
pub doubt : (k : PlainKey) (e : PlainEnded) → k.held ≡ None → slice_get k.ended (length k.ended - 1) ≡ Some e → is_doubtful k ≡ not (is_logged e.left.verdict.evidence)
doubt k e h s = ap (λ o. is_unlogged (last_ended k o)) h ∙ ap is_unlogged s

-- where there is none, it did not
pub no_doubt : (k : PlainKey) → k.held ≡ None → slice_get k.ended (length k.ended - 1) ≡ None → is_doubtful k ≡ false
no_doubt k h s = ap (λ o. is_unlogged (last_ended k o)) h ∙ ap is_unlogged s

-- of a list with one more behind it
before_last : {X : Type 0} (ys : List X) (x : X) → length (ys ++ x ∷ []) - 1 ≡ length ys
before_last ys x = omega (arith, length-append ys (x ∷ []))

last-push : {X : Type 0} (ys : List X) (x : X) → slice_get (ys ++ x ∷ []) (length (ys ++ x ∷ []) - 1) ≡ Some x
last-push ys x =
    ap (slice_get (ys ++ x ∷ [])) (before_last ys x) ∙ slice_get-get_or (ys ++ x ∷ []) (length ys) x (omega (arith, length-append ys (x ∷ [])))
    ∙ ap Some (get_or_push ys x x (length ys) refl)

others-push : {X : Type 0} (ys : List X) (x : X) → take (length (ys ++ x ∷ []) - 1) (ys ++ x ∷ []) ≡ ys
others-push ys x = ap (λ n. take n (ys ++ x ∷ [])) (before_last ys x) ∙ take_at ys (x ∷ []) (length ys) refl

-- the last one goes on
pub reopened-push : (k : PlainKey) (ys : List PlainEnded) (e : PlainEnded) → k.ended ≡ ys ++ e ∷ [] → is_doubtful k ≡ true → reopened k ≡ record k { ended = ys; held = Some e.life }
reopened-push k ys e is d =
    ap (λ b. cond b (gone_on k (slice_get k.ended (length k.ended - 1))) k) d
    ∙ ap (gone_on k) (ap (λ xs. slice_get xs (length xs - 1)) is ∙ last-push ys e)
    ∙ ap (λ xs. record k { ended = xs; held = Some e.life }) (ap (λ xs. take (length xs - 1) xs) is ∙ others-push ys e)

-- who pushed it out is noted at the last one
pub noted-push : (p : PlainPushed) (k : PlainKey) (ys : List PlainEnded) (e : PlainEnded) → k.ended ≡ ys ++ e ∷ [] → noted p k ≡ record k { ended = ys ++ record e { pushed = Some p } ∷ [] }
noted-push p k ys e is =
    ap (noted_of p k) (ap (λ xs. slice_get xs (length xs - 1)) is ∙ last-push ys e)
    ∙ ap (λ xs. record k { ended = xs ++ record e { pushed = Some p } ∷ [] }) (ap (λ xs. take (length xs - 1) xs) is ∙ others-push ys e)
