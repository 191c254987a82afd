-- The keys of a line that is not malformed: the words that stand for keys meet the rule of keys.
-- Rule of this project: no step has a key that is none.
use Rattle.std.specs.Prelude.{◌≡◌, ℕ, List, drop, true}
use Rattle.std.specs.List.{list_all}
use Rattle.rev_items.specs.Keys.{is_key}
use Rattle.rev_script.specs.Words.{word, is_name}
use Rattle.rev_script.specs.declared.command.Command.{Command}
use Rattle.rev_script.specs.declared.command.Command.TheVariants.{Storage, Retrieval, Update, FlushAll, Actor, Tune, Debug, Query, Bookmark, Bad}

-- by the second word, and by all words from there on
abbrev pub IsKeyed : Command → List ℕ → List (List ℕ) → Type 0
IsKeyed (Storage c flags exptime size noreply) w ws = is_key w ≡ true
IsKeyed (Retrieval with_cas) w ws = list_all is_key ws ≡ true
IsKeyed (Update c noreply) w ws = is_key w ≡ true
IsKeyed (FlushAll delay noreply) w ws = Unit {0}
IsKeyed (Actor a) w ws = Unit {0}
IsKeyed (Tune t) w ws = Unit {0}
IsKeyed (Debug c) w ws = Unit {0}
IsKeyed (Query q) w ws = is_key w ≡ true
IsKeyed (Bookmark c) w ws = is_name w ≡ true
IsKeyed (Bad a) w ws = Unit {0}

abbrev pub HasKeys : Command → List (List ℕ) → Type 0
HasKeys c ws = IsKeyed c (word ws 1) (drop 1 ws)
