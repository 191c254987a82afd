-- The page that a class gets.
-- Rule of this project: a page is planned, and its memory taken, before the first change.
use Rattle.std.specs.Prelude.{ℕ, ◌≡◌, Option, None, Some}
use Rattle.rev_model.specs.State.{State, per_page}
use Rattle.rev_model.specs.Pull.{page_of}
use Rattle.rev_model.specs.declared.Form.{Form}
use Rattle.rev_edits.specs.declared.page.NewPage.{NewPage}

-- which page, and how it is laid
abbrev pub page_planned : {A : Type 0} → Option (NewPage A) → Option (ℕ × Form)
page_planned None = None
page_planned (Some n) = Some (n.page, n.form)

-- each part of a new page has the slots of a page of the class
abbrev pub HasParts : {A : Type 0} → State → ℕ → Option (NewPage A) → Type 0
HasParts s c None = Unit {0}
HasParts s c (Some n) = n.parts ≡ per_page s.fixed c

-- the plan is the page that the class gets
pub record IsPlan {A : Type 0} (s : State) (c : ℕ) (plan : Option (NewPage A)) : Type 0 where
  pub page : page_planned plan ≡ page_of s c
  pub parts : HasParts s c plan
