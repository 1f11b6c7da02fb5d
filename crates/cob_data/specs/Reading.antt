-- Entries read one after another.
use Rattle.std.specs.Prelude.{◌≡◌, List, ◌++◌, length}
use Rattle.cob_tree.specs.declared.form.Form.{Form}
use Rattle.cob_tree.specs.declared.form.Form.TheVariants as form
use Rattle.cob_tree.specs.Pictures.{IsAllowed}
use Rattle.cob_data.specs.declared.entry.Table.{Table}
use Rattle.cob_data.specs.Entries.{Placed, descriptions, conditions}

-- a form with an allowed picture, or a group's
abbrev pub IsFormed : Form → Type 0
IsFormed form.Group = Unit {0}
IsFormed (form.Text n) = IsAllowed (form.Text n)
IsFormed (form.Number digits scale signed usage) = IsAllowed (form.Number digits scale signed usage)
IsFormed (form.Edited picture digits scale) = IsAllowed (form.Edited picture digits scale)

-- what stands in one table, with what these entries say behind it, is what stands in another, with those behind it
pub record Moves (old new : Table) (ps qs : List Placed) : Type 0 where
  pub items : old.items.items ++ descriptions ps ≡ new.items.items ++ descriptions qs
  pub conditions : old.conditions.items ++ conditions (length old.items.items) old.last ps ≡ new.conditions.items ++ conditions (length new.items.items) new.last qs
