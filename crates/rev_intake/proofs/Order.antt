-- The order in which events become lines is that of rev_watch's window, so its laws hold of it: the numbers rise
-- strictly, and no event is lost or made.
use Rattle.std.proofs.Common.{◌≡◌, ℕ, None, List, [], ◌∷◌, ◌++◌, map, append_assoc, refl, sym, ◌∙◌, ap}
use Rattle.std.proofs.lemmas.List.{map-append}
use Rattle.rev_watch.proofs.Order.{given_line, given, Ascends}
use Rattle.rev_watch.proofs.Ordered.{all-ascend}
use Rattle.rev_watch.specs.Window.{PlainWindow, put_of, empty_window}
use Rattle.rev_watch.specs.declared.window.Put.{Put}
use Rattle.rev_watch.specs.declared.window.Put.TheVariants.{Held, Given, Late, Repeated}
use Rattle.rev_intake.specs.Events.{given_of, given_out, window_after, held_in, ordered}

given_one : {T : Type 0} (p : Put T) → given_of p ≡ map (λ e. e.1) (given_line p)
given_one Held = refl
given_one (Given gid line) = refl
given_one Late = refl
given_one Repeated = refl

pub ordered_given : {T : Type 0} (w : PlainWindow T) (lines : List (ℕ × T)) → ordered w lines ≡ map (λ e. e.1) (given w lines)
ordered_given w [] = refl
ordered_given w (line ∷ rest) =
    let next = put_of w line.0 line.1 in
    append_assoc (given_of next.1) (given_out next.0 rest) (held_in (window_after next.0 rest))
    ∙ ap (λ z. given_of next.1 ++ z) (ordered_given next.0 rest)
    ∙ ap (λ z. z ++ map (λ e. e.1) (given next.0 rest)) (given_one next.1)
    ∙ sym (map-append (λ e. e.1) (given_line next.1) (given next.0 rest))

-- the numbers of the events of all logs rise strictly
pub ordered_ascends : {T : Type 0} (lines : List (ℕ × T)) → Ascends None (given empty_window lines)
ordered_ascends lines = all-ascend lines
