use Rattle.pack_laws.proofs.Kept.{lesser_stands}
use Rattle.pack_laws.proofs.laws.lesser_words_keep_values.Goals as goal

pub returns : goal.returns
returns c = lesser_stands
