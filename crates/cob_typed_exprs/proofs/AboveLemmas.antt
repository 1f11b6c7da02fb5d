-- What stands above an item, one group further.
use Rattle.std.proofs.Common.{◌≡◌, ℕ, suc, ◌+◌, add-one, ◌<◌, get_or, Bool, true, false, cond, List, [], ◌∷◌, length, slice_get, Option, Some, None, refl, sym, ap, ◌∙◌, arith}
use Rattle.std.proofs.lemmas.Option.{slice_get-get_or}
use Rattle.cob_data.specs.declared.layout.Flag.{Flag}
use Rattle.cob_data.specs.declared.layout.Layout.{Layout}
use Rattle.cob_typed_exprs.specs.declared.kind.Kind.{Kind}
use Rattle.cob_typed_exprs.specs.declared.kind.Kind.TheVariants as kind
use Rattle.cob_typed_exprs.specs.Names.{is_named, item_name, item_parent, file_above, above, above_at, qualifies}
use Rattle.cob_typed_exprs.specs.Search.{count_in, fits, left_behind}

qualifies_step : (of : List (List ℕ)) (name : Option (List ℕ)) (names : List (Option (List ℕ))) → qualifies of (name ∷ names) ≡ qualifies (left_behind of name) names
qualifies_step [] name names = refl
qualifies_step (q ∷ qs) name names = by (is_named q name) where
  by : (b : Bool) → cond b (qualifies qs names) (qualifies (q ∷ qs) names) ≡ qualifies (cond b qs (q ∷ qs)) names
  by true = refl
  by false = refl

pub group_step : (l : Layout) (of left : List (List ℕ)) (m n place group : ℕ) (parent next : Option ℕ) → m ≡ n + 1 → parent ≡ Some group →
    left ≡ left_behind of (item_name (slice_get l.items group)) → next ≡ item_parent (slice_get l.items group) →
    qualifies left (above_at l n group next) ≡ qualifies of (above_at l m place parent)
group_step l of left m n place group parent next more is behind above = rw (more, add-one, is, behind, above) (sym (qualifies_step of (item_name (slice_get l.items group)) (above_at l n group (item_parent (slice_get l.items group)))))

pub file_step : (l : Layout) (of : List (List ℕ)) (m n place : ℕ) (parent : Option ℕ) → m ≡ n + 1 → parent ≡ None →
    qualifies of (file_above l.files place) ≡ qualifies of (above_at l m place parent)
file_step l of m n place parent more is = rw (more, add-one, is) refl

pub flag_step : (l : Layout) (k : Kind) (of : List (List ℕ)) (place : ℕ) (flags : List Flag) (d : Flag) (b : Bool) → k ≡ kind.Flag → place < count_in l k → flags ≡ l.flags →
    b ≡ qualifies of (item_name (slice_get l.items (get_or flags place d).item) ∷ above l (get_or flags place d).item) → b ≡ fits l k of place
flag_step l k of place flags d b is within same told =
    let inside : place < length l.flags = rw is at within in
    rw (is, slice_get-get_or l.flags place d inside) (rw same at told)
