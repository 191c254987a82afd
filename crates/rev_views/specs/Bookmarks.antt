-- Names for nodes, in the order in which they were first given.
-- Rule of this project: `:mark`, `:marks` and `:goto`.
use Rattle.std.specs.Prelude.{ℕ, cond, List, [], ◌∷◌, ◌++◌, Option, None, Some, codes, decimal}
use Rattle.std.specs.Str.{bytes_eq}
use Rattle.rev_tree.specs.Positions.{SessionState}
use Rattle.rev_texts.specs.Texts.{output}
use Rattle.rev_views.specs.Trees.{go_text, gone}

-- the node of a name
abbrev pub bookmarked : List (List ℕ × ℕ) → List ℕ → Option ℕ
bookmarked [] name = None
bookmarked (b ∷ bs) name = cond (bytes_eq name b.0) (Some b.1) (bookmarked bs name)

-- a name that is there keeps its place and takes the new node, and another goes last
abbrev pub with_bookmark : List (List ℕ × ℕ) → List ℕ → ℕ → List (List ℕ × ℕ)
with_bookmark [] name n = (name, n) ∷ []
with_bookmark (b ∷ bs) name n = cond (bytes_eq name b.0) ((b.0, n) ∷ bs) (b ∷ with_bookmark bs name n)

-- the line of a bookmark
abbrev pub bookmarked_text : List ℕ → ℕ → List ℕ
bookmarked_text name n = output (codes "MARK " ++ name ++ codes " " ++ decimal n)

-- the lines of all, and END
abbrev pub bookmarks_text : List (List ℕ × ℕ) → List ℕ
bookmarks_text [] = output (codes "END")
bookmarks_text (b ∷ bs) = bookmarked_text b.0 b.1 ++ bookmarks_text bs

-- to the node of a name; a bookmark stays where its node was pruned, and is then not gone to
abbrev pub goto_text : SessionState → Option ℕ → List ℕ
goto_text m None = output (codes "NOMARK")
goto_text m (Some n) = go_text m n

-- the session at the node, if there is one
abbrev pub gone_by : SessionState → Option ℕ → SessionState
gone_by m None = m
gone_by m (Some n) = gone m n
