-- Single steps, as the code makes them.
use Rattle.std.proofs.Common.{◌≡◌, ℕ, ◌≤◌, Bool, true, ◌&&◌, cond, List, set, Option, Some, sym, ◌∙◌, ap, ap₂}
use Rattle.std.proofs.lemmas.Bool.{le-leb}
use Rattle.std.specs.List.{slice_get}
use Rattle.rev_watch.specs.declared.event.LogLine.{LogLine}
use Rattle.rev_log.specs.declared.coming.Coming.{Coming}
use Rattle.rev_log.specs.declared.order.Greatest.{Greatest}
use Rattle.rev_log.specs.Events.{is_look_up, names}
use Rattle.rev_log.specs.Order.{is_much_later, is_restart}
use Rattle.rev_log.specs.Waiting.{place_of, mark_here, mark_place, mark_number}

-- the line's number is no greater one
pub restart-then : {A : Type 0} (greatest : Option Greatest) (g : Greatest) (line : LogLine A) (b : Bool) → greatest ≡ Some g → line.gid ≤ g.gid → b ≡ is_much_later g.time line.time → b ≡ is_restart greatest line
restart-then greatest g line b e h r = r ∙ ap (λ t. t && is_much_later g.time line.time) (sym (le-leb line.gid g.gid h)) ∙ ap (λ o. is_restart o line) (sym e)

-- an event is marked
pub mark-is : {A : Type 0} (xs : List (Coming A)) (first : ℕ) (number : Option ℕ) (n place : ℕ) (x : Coming A) (key : List ℕ) → number ≡ Some n → place_of first n ≡ Some place → slice_get xs place ≡ Some x
    → is_look_up x.line.event ≡ true → names key x.line.event ≡ true → set xs place (record x { own = true }) ≡ mark_number first key number xs
mark-is xs first number n place x key a p h l k =
    ap (λ b. set xs place (cond b (record x { own = true }) x)) (sym (ap₂ (λ c d. c && d) l k))
    ∙ ap (λ o. mark_here key o place xs) (sym h)
    ∙ ap (λ o. mark_place key o xs) (sym p)
    ∙ ap (λ o. mark_number first key o xs) (sym a)
