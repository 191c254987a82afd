use Rattle.std.proofs.Common.{◌≡◌, IfOk, map, length, slice_index_or, subst, sym, ◌∙◌, ap}
use Rattle.rev_requests.specs.Plain.{plain_step}
use Rattle.rev_whatif.specs.Trials.{path_steps, course_by}
use Rattle.rev_whatif.proofs.Trying.{all_told}
use Rattle.rev_whatif.proofs.Feeding.{courses_more}
use Rattle.rev_whatif.proofs.course.Trials.feed.Goals as goal

pub returns : goal.returns
returns g c = λ config fed settings e.
    let path = path_steps c.args.session.now.rows c.args.session.now.current in
    let by = course_by (map (λ step. plain_step step.now) c.as_slice.result.now) in
    let old = c.replace-courses.result.items in
    let same = c.in_ok-self-inside.ensures in
    all_told by old c.in_ok-self-inside.field-0.items (ap length same ∙ c.in_ok-results.ensures.count)
    (λ i r x lt. subst (λ l. IfOk (slice_index_or l i r) (λ t. t ≡ by (slice_index_or old i x))) (sym same) (c.in_ok-results.ensures.each i r x lt))
    ∙ ap (λ l. map (course_by (map (λ step. plain_step step.now) l)) old) c.as_slice.ensures.value
    ∙ ap (λ es. map (course_by es) old) c.in_ok-steps.ensures
    ∙ ap (λ v. map (course_by path) v.items) c.replace-courses.ensures.value
    ∙ ap (map (course_by path)) (c.self.view_is ∙ e)
    ∙ courses_more config fed path settings
