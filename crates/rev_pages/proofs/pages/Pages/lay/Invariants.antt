use Rattle.rev_pages.proofs.pages.Pages.lay.Given as goal

abbrev pub ghosts-lay_by : goal.ghosts-lay_by
ghosts-lay_by g a = record { name = a.blank.name; parts = a.blank.parts }
