-- The words for a run.
-- Rule of this project: the options of `lrudb run`, on one line.
use Rattle.std.specs.Prelude.{ℕ, ℤ, pos, negsuc, List, [], ◌∷◌, ◌++◌, codes, decimal}
use Rattle.rev_classes.specs.declared.Config.{Config}
use Rattle.rev_intake.specs.Report.{behind}

-- an option and its number
abbrev pub option : List ℕ → ℕ → List ℕ
option name n = name ++ decimal n

-- pages, their size and the growth factor
abbrev pub options_text : Config → List ℕ
options_text config =
    option (codes "--page-size ") config.page_size ++ option (codes " --pages ") config.pages ++ option (codes " --num ") config.num ++ option (codes " --den ") config.den
    ++ codes "\n"

-- all that a configuration has: pages, their size and the growth factor, the bump queue's capacity, the buckets of the
-- index and where the clock begins, and TEMP, where it is in use
abbrev pub size_parts : Config → List (List ℕ)
size_parts config =
    option (codes "--page-size ") config.page_size ∷ option (codes " --pages ") config.pages ∷ option (codes " --num ") config.num ∷ option (codes " --den ") config.den ∷ []

abbrev pub more_parts : Config → List (List ℕ)
more_parts config = option (codes " --bump ") config.bump ∷ option (codes " --hash-power ") config.hash_power ∷ option (codes " --now ") config.now ∷ []

abbrev pub temp_ttl_text : ℤ → List ℕ
temp_ttl_text (pos seconds) = option (codes " --temp-ttl ") seconds
temp_ttl_text (negsuc n) = []

abbrev pub all_options_text : List ℕ → Config → List ℕ
all_options_text old config = behind old (size_parts config ++ (more_parts config ++ (temp_ttl_text config.temp_ttl ∷ codes "\n" ∷ [])))
