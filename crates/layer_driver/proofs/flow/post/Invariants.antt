use Rattle.layer_driver.proofs.flow.post.Given as goal

abbrev pub ghosts-post_counted : goal.ghosts-post_counted
ghosts-post_counted g a = record { name = a.blank.name; parts = a.blank.parts }
