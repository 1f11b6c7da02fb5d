use Rattle.cell_laws.proofs.Sound.{items_are_sound}
use Rattle.cell_laws.proofs.cell_facts.items_are_sound.Goals as goal

pub returns : goal.returns
returns c = items_are_sound
