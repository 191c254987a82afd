use Rattle.std.proofs.Common.{◌∙◌, false}
use Rattle.std.proofs.lemmas.Result.{IfOk-weaker, IfErr-weaker}
use Rattle.rev_script.specs.Exchange.{told_in}
use Rattle.rev_shell.specs.Run.{without_bookmarks}
use Rattle.rev_program.proofs.Running.{answered, run_behind, stopped_behind}
use Rattle.rev_program.proofs.program.run_on.Goals as goal

pub returns-clause-ok : goal.returns-clause-ok
returns-clause-ok g c =
    let old = c.args.exchange.now in
    let mid = c.run_at_last-done.new.streams in
    let x = answered c.args.dialect c.args.prompts (told_in old) (told_in mid) (told_in old).beside.sink (told_in mid).beside.sink (without_bookmarks c.args.session c.args.log.now) c.run_at_last-done.result c.run_at_last-done.ensures.ok c.run_at_last-done.ensures.err in
    IfOk-weaker c.sent_behind.result _ _
    (λ sum h. run_behind false c.args.dialect c.args.prompts old mid c.sent_behind.new.exchange (without_bookmarks c.args.session c.args.log.now) c.run_at_last-done.result sum c.sent_behind.ensures.kept x h.0 h.1) c.sent_behind.ensures.ok

pub returns-clause-err : goal.returns-clause-err
returns-clause-err g c =
    let old = c.args.exchange.now in
    let mid = c.run_at_last-done.new.streams in
    let x = answered c.args.dialect c.args.prompts (told_in old) (told_in mid) (told_in old).beside.sink (told_in mid).beside.sink (without_bookmarks c.args.session c.args.log.now) c.run_at_last-done.result c.run_at_last-done.ensures.ok c.run_at_last-done.ensures.err in
    IfErr-weaker c.sent_behind.result _ _
    (λ stop h. stopped_behind false c.args.dialect c.args.prompts old mid c.sent_behind.new.exchange (without_bookmarks c.args.session c.args.log.now) c.run_at_last-done.result stop c.sent_behind.ensures.kept x h) c.sent_behind.ensures.err

pub returns-clause-same : goal.returns-clause-same
returns-clause-same g c = c.sent_behind.ensures.same ∙ c.run_at_last-done.ensures.writer
