use Rattle.rev_pages.proofs.pages.Pages.lift.Given as goal

abbrev pub ghosts-lift_by : goal.ghosts-lift_by
ghosts-lift_by g a = record { name = a.blank.name; parts = a.blank.parts }
