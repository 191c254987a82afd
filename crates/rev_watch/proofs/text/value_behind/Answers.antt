use Rattle.std.proofs.Common.{sym, ◌∙◌}
use Rattle.rev_watch.proofs.Behind.{behind_end, behind_both, behind_no_name, behind_no_sign}
use Rattle.rev_watch.proofs.text.value_behind.Goals as goal
use Rattle.rev_watch.proofs.text.value_behind.Goals.{else-end-text-via-then-end-text+then-text-end+else-is_word, else-end-text-via-then-end-text+else-text-end, else-end-text-via-else-end-text}

pub returns-then-is_word : goal.returns-then-is_word
returns-then-is_word c =
    behind_both c.args.name.now c.args.sign c.args.text.now _ c.if-end-text.true c.if-text-end.true (sym c.is_word.ensures ∙ c.if-is_word.true)

pub returns-else-end-text : goal.returns-else-end-text
returns-else-end-text c =
    elim c.else-end-text.branch [
      | else-end-text-via-then-end-text+then-text-end+else-is_word w ↦
          behind_no_name c.args.name.now c.args.sign c.args.text.now w.if-end-text.true (sym w.is_word.ensures ∙ w.if-is_word.false)
      | else-end-text-via-then-end-text+else-text-end w ↦
          behind_no_sign c.args.name.now c.args.sign c.args.text.now _ w.if-end-text.true w.if-text-end.false
      | else-end-text-via-else-end-text w ↦
          behind_end c.args.name.now c.args.sign c.args.text.now w.if-end-text.false
    ]
