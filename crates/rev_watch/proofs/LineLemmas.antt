-- What a line is told by.
use Rattle.std.proofs.Common.{◌≡◌, true, Option, None, Some, List, ℕ, codes, sym, ◌∙◌, ap, is_some}
use Rattle.std.specs.Borrow.{Bor}
use Rattle.std.specs.Io.BufRead.{strip_last}
use Rattle.std.specs.Option.{option_copied}
use Rattle.rev_watch.specs.Field.{name_of}
use Rattle.rev_watch.specs.Line.{line_of, line_in, log_line, told_behind}
use Rattle.rev_watch.specs.Words.{value_behind}
use Rattle.rev_watch.specs.declared.fault.Field.TheVariants as fields

-- a text that begins with `ts=` is told as a line of the log
pub told-as-log : {A : Type 0} (line text : List ℕ) (time : Option (Bor (List ℕ))) → text ≡ strip_last 13 line → option_copied time ≡ value_behind (codes "ts") 61 text →
    is_some time ≡ true → line_of {A = A} line ≡ log_line text
unfolding line_in
told-as-log line text None e t s = absurd (cc)
told-as-log {A} line text (Some time) e t s =
    ap (line_in {A = A}) (sym e) ∙ ap (λ v. told_behind {A = A} v (value_behind (name_of fields.Skipped) 61 text) text) (sym t)
