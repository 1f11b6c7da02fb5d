-- Homes, one item after another.
use Rattle.std.proofs.Common.{ℕ, ◌+◌, ◌≡◌, ◌<◌, List, ◌++◌, length, drop, get_or, sym, ap, ◌∙◌, add-one}
use Rattle.cob_data.specs.declared.layout.Item.{Item}
use Rattle.cob_program.proofs.Loops.{item_step}
use Rattle.cob_graph.specs.Homes.{item_homes, if_named, home_of}

pub items_step : (xs : List Item) (i place next : ℕ) (x : Item) → i < length xs → x ≡ get_or xs i x → next ≡ place + 1 →
    item_homes place (drop i xs) ≡ if_named x.name (home_of place x.form) ++ item_homes next (drop (i + 1) xs)
items_step xs i place next x within is following =
    ap (item_homes place) (item_step xs i x within is)
    ∙ ap (λ n. if_named x.name (home_of place x.form) ++ item_homes n (drop (i + 1) xs)) (sym (following ∙ add-one place))
