use Rattle.std.proofs.Common.{ap, ◌∙◌}
use Rattle.std.specs.Option.{option_map}
use Rattle.edge_parts.specs.PartView.{plain_reference}
use Rattle.edge_parts.proofs.HandingLaws.{found_is, none_is}
use Rattle.edge_parts.proofs.TestLoops.{seen_test}
use Rattle.edge_parts.proofs.tests_of.test_at.Goals as goal

pub returns-in-Continue : goal.returns-in-Continue
returns-in-Continue c = none_is plain_reference _ _ _ c.in-Continue.ensures

pub returns : goal.returns
returns c =
    seen_test c.found.result ∙ ap (option_map plain_reference) c.found.ensures
    ∙ found_is plain_reference _ _ _ c.in-Break.ensures
