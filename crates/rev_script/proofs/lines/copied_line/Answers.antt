use Rattle.std.proofs.Common.{rules, w32, SFits}
use Rattle.std.proofs.lemmas.Int.{to_z-of_z}
use Rattle.std.proofs.Common.{◌≡◌, refl, not, Bool, [], true, false, arith, sym, ◌∙◌, ap}
use Rattle.std.specs.Io.BufRead.{strip_last}
use Rattle.rev_script.specs.Words.{words, word}
use Rattle.rev_script.specs.Commands.{asked}
use Rattle.rev_script.specs.Script.{line_of}
use Rattle.rev_script.specs.Line.{view, has_block}
use Rattle.std.specs.Option.{option_map}
use Rattle.rev_script.proofs.Next.{next_plain, next_done, next_cut_storage, stored_ok, stored_err, fault_text, no_text, no_line, asked-long, kept_text}
use Rattle.rev_script.proofs.lines.copied_line.Goals as goal
use Rattle.rev_script.proofs.lines.copied_line.Goals.{else-not-raw-via-then-not-raw+else-raw-eq0, else-not-raw-via-else-not-raw}

is_false : (b : Bool) → not b ≡ true → b ≡ false
is_false true p = sym p
is_false false p = refl

is_true : (b : Bool) → not b ≡ false → b ≡ true
is_true true p = refl
is_true false p = sym p

opposite : (b : Bool) → b ≡ false → not b ≡ false → ⊥
opposite b p q = cc (p, is_true b q)

pub returns-in-Err-clause-err : goal.returns-in-Err-clause-err
returns-in-Err-clause-err g c = rw c.requires (fault_text c.args.input.now.dialect c.in-Err.ensures.err)

pub returns-then-raw-eq0-clause-ok : goal.returns-then-raw-eq0-clause-ok
returns-then-raw-eq0-clause-ok g c =
    let n = no_text c.in-Ok.ensures.ok (is_false _ c.if-not-raw.true) c.if-raw-eq0.true in
    rw c.requires (no_line c.args.input.now.dialect n.0 n.1)

pub returns-then-raw-gt-MOST_KEPT-clause-ok : goal.returns-then-raw-gt-MOST_KEPT-clause-ok
returns-then-raw-gt-MOST_KEPT-clause-ok g c =
    let t = c.in-Ok.ensures.ok in
    let long = asked-long t.text (omega (arith, t.size, c.if-raw-gt-MOST_KEPT.true)) in
    rw c.requires (next_plain c.args.input.now.dialect t _ (λ f. elim c.else-not-raw.branch [
      | else-not-raw-via-then-not-raw+else-raw-eq0 w ↦ omega (arith, w.if-raw-eq0.false)
      | else-not-raw-via-else-not-raw w ↦ absurd (opposite _ f w.if-not-raw.false)
    ]) (ap has_block long) (ap (λ a. line_of c.args.input.now.dialect a (words (strip_last 13 t.text)) []) (sym long)))

pub returns-then-not-raw-2-clause-ok : goal.returns-then-not-raw-2-clause-ok
returns-then-not-raw-2-clause-ok g c =
    let t = c.in-Ok.ensures.ok in
    let is : c.body.result.now ≡ strip_last 13 t.text = c.body.ensures ∙ ap (λ x. strip_last 13 x) (c.as_slice.ensures.value ∙ kept_text t c.if-raw-gt-MOST_KEPT.false) in
    let a = rw c.in-Storage.is at c.in-Ok-asked_line.ensures in
    rw c.requires (next_cut_storage c.args.input.now.dialect t (is_false _ c.if-not-raw-2.true) (elim c.else-not-raw.branch [
      | else-not-raw-via-then-not-raw+else-raw-eq0 w ↦ omega (arith, w.if-raw-eq0.false)
      | else-not-raw-via-else-not-raw w ↦ absurd (opposite _ (is_false _ c.if-not-raw-2.true) w.if-not-raw.false)
    ]) (ap asked (sym is) ∙ a.0))

pub returns-in-Done-clause-ok : goal.returns-in-Done-clause-ok
returns-in-Done-clause-ok g c =
    let t = c.in-Ok.ensures.ok in
    let is : c.body.result.now ≡ strip_last 13 t.text = c.body.ensures ∙ ap (λ x. strip_last 13 x) (c.as_slice.ensures.value ∙ kept_text t c.if-raw-gt-MOST_KEPT.false) in
    let a = rw c.in-Done.is at c.in-Ok-asked_line.ensures in
    rw c.requires (next_done c.args.input.now.dialect t c.body.result.now is _ (λ f. elim c.else-not-raw.branch [
      | else-not-raw-via-then-not-raw+else-raw-eq0 w ↦ omega (arith, w.if-raw-eq0.false)
      | else-not-raw-via-else-not-raw w ↦ absurd (opposite _ f w.if-not-raw.false)
    ]) a.0 (a.1 c.args.input.now.dialect))

pub returns-else-not-raw-2-clause-err : goal.returns-else-not-raw-2-clause-err
returns-else-not-raw-2-clause-err g c =
    let t = c.in-Ok.ensures.ok in
    let is : c.body.result.now ≡ strip_last 13 t.text = c.body.ensures ∙ ap (λ x. strip_last 13 x) (c.as_slice.ensures.value ∙ kept_text t c.if-raw-gt-MOST_KEPT.false) in
    let a = rw c.in-Storage.is at c.in-Ok-asked_line.ensures in
    rw c.requires (stored_err _ c.args.input.now.dialect c.storage_line.result t (is_true _ c.if-not-raw-2.false) (ap asked (sym is) ∙ a.0) c.storage_line.ensures.err)

pub returns-else-not-raw-2-clause-ok : goal.returns-else-not-raw-2-clause-ok
returns-else-not-raw-2-clause-ok g c =
    let t = c.in-Ok.ensures.ok in
    let is : c.body.result.now ≡ strip_last 13 t.text = c.body.ensures ∙ ap (λ x. strip_last 13 x) (c.as_slice.ensures.value ∙ kept_text t c.if-raw-gt-MOST_KEPT.false) in
    let a = rw c.in-Storage.is at c.in-Ok-asked_line.ensures in
    let fits : SFits w32 c.in-Storage.exptime = search rules in
    let e = to_z-of_z w32 c.in-Storage.exptime fits in
    let s = rw (e, c.requires) at c.storage_line.ensures.ok in
    rw c.requires (stored_ok _ (λ line. option_map view line) c.args.input.now.dialect c.storage_line.result t (is_true _ c.if-not-raw-2.false) (ap asked (sym is) ∙ a.0) (a.1 ∙ ap (λ x. word (words x) 1) is) s)
