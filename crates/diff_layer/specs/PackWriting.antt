-- The items whose numbers an amount's operands are.
use Rattle.std.specs.Prelude.{ℕ, Bool, List, [], ◌∷◌}
use Rattle.std.specs.List.{list_any}
use Rattle.cob_data.specs.declared.extent.Extent.{Extent}
use Rattle.cob_data.specs.declared.layout.Layout.{Layout}
use Rattle.cob_data.specs.declared.layout.Sender.{Sender}
use Rattle.cob_data.specs.declared.layout.Sender.TheVariants as sender
use Rattle.cob_runs.specs.Computing.{items_in}
use Rattle.cob_edge_parts.specs.Parts.{Amount, moved, computed, remaining, augmented}
use Rattle.diff_steps.specs.Moments.{is_written}

abbrev pub sender_items : Sender → List ℕ
sender_items (sender.Item place) = place ∷ []
sender_items x = []

abbrev pub amount_items : Amount → List ℕ
amount_items (moved x) = sender_items x
amount_items (computed s h) = items_in s
amount_items (remaining s scale) = items_in s
amount_items (augmented x) = sender_items x

-- whether the edge has written to bytes of one of them
abbrev pub are_written : Layout → List Extent → List ℕ → Bool
are_written l wrote places = list_any (is_written l wrote) places
