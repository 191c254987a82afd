-- Trials that are fed a trace in parts, one behind another.
use Rattle.std.proofs.Common.{◌≡◌, List, [], ◌∷◌, ◌++◌, Result, Ok, Err, map, refl, sym, ◌∙◌, ap}
use Rattle.std.proofs.lemmas.List.Sums.{fold-append}
use Rattle.rev_classes.specs.declared.Config.{Config}
use Rattle.rev_model.specs.Actor.{Step}
use Rattle.rev_whatif.specs.Runs.{PlainRun}
use Rattle.rev_whatif.specs.Settings.{fault_with}
use Rattle.rev_whatif.specs.Trials.{tried, first_run, run_by, course_by, course_of, courses_of, trial_by, trial_of}
use Rattle.rev_whatif.specs.declared.setting.Setting.{Setting}
use Rattle.rev_whatif.specs.declared.setting.SettingFault.{SettingFault}

-- steps behind others
run_more : (es fs : List Step) (r : Result PlainRun SettingFault) → run_by fs (run_by es r) ≡ run_by (es ++ fs) r
run_more es fs (Ok r) = ap Ok (sym (fold-append tried r es fs))
run_more es fs (Err f) = refl

-- the trials of a trace that goes on are those of the whole of it
pub courses_more : (c : Config) (es fs : List Step) (xs : List Setting) → map (course_by fs) (courses_of c es xs) ≡ courses_of c (es ++ fs) xs
courses_more c es fs [] = refl
courses_more c es fs (x ∷ xs) =
    ap (λ r. record { setting = x; run = r } ∷ map (course_by fs) (courses_of c es xs)) (run_more es fs (first_run c x (fault_with c x)))
    ∙ ap (λ ks. course_of c (es ++ fs) x ∷ ks) (courses_more c es fs xs)

-- what is told of all trials is told of that of each setting
pub courses_told : (c : Config) (es : List Step) (xs : List Setting) → map trial_by (courses_of c es xs) ≡ map (trial_of c es) xs
courses_told c es [] = refl
courses_told c es (x ∷ xs) = ap (λ ts. trial_of c es x ∷ ts) (courses_told c es xs)
