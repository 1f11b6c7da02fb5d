use Rattle.commands.proofs.Profile.{profile_or_not}
use Rattle.commands.proofs.laws.bytes_are_of_the_profile_or_not.Goals as goal

pub returns : goal.returns
returns c = profile_or_not
