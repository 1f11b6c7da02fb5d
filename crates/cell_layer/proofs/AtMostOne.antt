-- What has one proof at most, so that a truncated fact gives it.
use Rattle.std.proofs.Common.{ℕ}
use Rattle.std.specs.Coded.{Unit-prop}
use Rattle.std.proofs.Props.{props}
use Rattle.cob_tree.specs.declared.form.Form.{Form}
use Rattle.cob_tree.specs.declared.form.Form.TheVariants as form
use Rattle.cob_data.specs.declared.layout.Layout.{Layout}
use Rattle.cob_data.specs.declared.layout.Sender.{Sender}
use Rattle.cob_data.specs.declared.layout.Sender.TheVariants as sender
use Rattle.cob_store.specs.WellFormed.{IsShort, IsCountable, IsConstant, IsWellFormedForm, HasWellFormedItems}

pub short_prop : (f : Form) → IsProp (IsShort f)
short_prop form.Group = Unit-prop
short_prop (form.Text n) = hlevel props
short_prop (form.Number digits scale signed usage) = Unit-prop
short_prop (form.Edited picture digits scale) = Unit-prop

countable_prop : (l : Layout) (x : Sender) → IsProp (IsCountable l x)
countable_prop l (sender.Item place) = hlevel (props, short_prop)
countable_prop l (sender.Number n) = hlevel props
countable_prop l (sender.Text text) = hlevel props
countable_prop l (sender.Fill byte) = Unit-prop
countable_prop l sender.Zero = Unit-prop

constant_prop : (x : Sender) → IsProp (IsConstant x)
constant_prop (sender.Item place) = λ a b. absurd a
constant_prop (sender.Number n) = Unit-prop
constant_prop (sender.Text text) = Unit-prop
constant_prop (sender.Fill byte) = Unit-prop
constant_prop sender.Zero = Unit-prop

form_prop : (f : Form) (bytes : ℕ) → IsProp (IsWellFormedForm f bytes)
form_prop form.Group bytes = Unit-prop
form_prop (form.Text n) bytes = hlevel props
form_prop (form.Number digits scale signed usage) bytes = hlevel props
form_prop (form.Edited picture digits scale) bytes = hlevel props

pub items_prop : (l : Layout) → IsProp (HasWellFormedItems l)
items_prop l = hlevel (props, form_prop, constant_prop, countable_prop)
