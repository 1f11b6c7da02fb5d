-- Steps of the loops over factors and over parts.
use Rattle.std.proofs.Common.{◌≡◌, ℕ, pos, Bool, true, false, Option, Some, None, refl, sym, ap, ◌∙◌}
use Rattle.cob_program.specs.Sum.{Parts, more_parts, Part, MkPart, Factors, more_factors, Factor, MkFactor, Atom, item, number, group}
use Rattle.cob_program.specs.Values.{whole_number, ◌>>=◌}
use Rattle.cob_program.specs.Bounds.{Bound, is_small_atom}
use Rattle.diff_bounds.specs.declared.form.lin.Lin.{Lin}
use Rattle.diff_bounds.specs.Forms.{if_small}
use Rattle.diff_bounds.specs.Results.{sum_of}
use Rattle.sum_ranges.specs.declared.ranged.Ranged.{Ranged}
use Rattle.sum_ranges.specs.Ranged.{point}
use Rattle.sum_ranges.specs.SumRanges.{turned, factor_range, atom_range}
use Rattle.sum_ranges.specs.Working.{one_factor_range, HasRoom}
use Rattle.sum_ranges.proofs.Rooms.{atom_has_room}
use Rattle.sum_forms.specs.declared.front.Front.{Front}
use Rattle.sum_forms.specs.declared.front.Front.TheVariants.{Empty}
use Rattle.sum_forms.specs.declared.products.Step.{Step}
use Rattle.sum_forms.specs.Literals.{is_short, are_literals}
use Rattle.sum_forms.specs.SumForms.{turned_if, next_front, next_form, literals_form, sum_form_from, part_form, product_form_from}
use Rattle.sum_forms.specs.Working.{is_small_factor, step_of}

bind_bind : {A B C : Type 0} (x : Option A) (f : A → Option B) (g : B → Option C) → (x >>= λ a. f a >>= g) ≡ ((x >>= f) >>= g)
bind_bind None f g = refl
bind_bind (Some a) f g = refl

module _ (d : ℕ) (cell : ℕ → Option ℕ) (items : ℕ → Ranged) where
  -- what the product is behind a factor, by the range with it
  behind : Front → Option Lin → Factor → Factors → Ranged → Option Lin
  behind front before f fs q =
      product_form_from d cell items (next_front front (step_of d cell items f).whole) q (next_form d front (step_of d cell items f).whole (step_of d cell items f).over q before (step_of d cell items f).own) fs

  factor_first : (front : Front) (a : Ranged) (before : Option Lin) (f : Factor) (fs : Factors) → product_form_from d cell items front a before (more_factors f fs) ≡ (one_factor_range items a f >>= behind front before f fs)
  unfolding behind
  factor_first front a before (MkFactor over minus atom) fs = bind_bind (atom_range items atom) (λ b. factor_range over a (turned minus b)) _

  pub product_goes_on : (front : Front) (a b : Ranged) (before : Option Lin) (f : Factor) (fs : Factors) → Some b ≡ one_factor_range items a f → product_form_from d cell items (next_front front (step_of d cell items f).whole) b (next_form d front (step_of d cell items f).whole (step_of d cell items f).over b before (step_of d cell items f).own) fs ≡ product_form_from d cell items front a before (more_factors f fs)
  unfolding behind
  product_goes_on front a b before f fs some = sym (factor_first front a before f fs ∙ ap (λ o. o >>= behind front before f fs) (sym some))

  -- with what the code works out
  pub product_steps : (front next : Front) (a b : Ranged) (before form : Option Lin) (step : Step) (decimals : ℕ) (f : Factor) (fs : Factors) → Some b ≡ one_factor_range items a f → decimals ≡ d → step ≡ step_of d cell items f → next ≡ next_front front step.whole → form ≡ next_form decimals front step.whole step.over b before step.own → product_form_from d cell items next b form fs ≡ product_form_from d cell items front a before (more_factors f fs)
  product_steps front next a b before form step decimals f fs some e is n m =
      let front_is = n ∙ ap (λ (s : Step). next_front front s.whole) is in
      let form_is = m ∙ ap (λ (k : ℕ). next_form k front step.whole step.over b before step.own) e ∙ ap (λ (s : Step). next_form d front s.whole s.over b before s.own) is in
      ap (λ x. product_form_from d cell items x b form fs) front_is
      ∙ ap (λ x. product_form_from d cell items (next_front front (step_of d cell items f).whole) b x fs) form_is
      ∙ product_goes_on front a b before f fs some

  pub product_ends : (front : Front) (a : Ranged) (before : Option Lin) (f : Factor) (fs : Factors) → None ≡ one_factor_range items a f → None ≡ product_form_from d cell items front a before (more_factors f fs)
  product_ends front a before f fs none = sym (factor_first front a before f fs ∙ ap (λ o. o >>= behind front before f fs) (sym none))

  pub parts_go_on : (a b next : Lin) (p : Part) (ps : Parts) → Some b ≡ part_form d cell items p → Some next ≡ if_small (sum_of a b) → sum_form_from d cell items next ps ≡ sum_form_from d cell items a (more_parts p ps)
  parts_go_on a b next p ps some sum =
      ap (λ o. o >>= λ c. sum_form_from d cell items c ps) sum ∙ ap (λ o. o >>= λ b. if_small (sum_of a b) >>= λ c. sum_form_from d cell items c ps) some

  pub parts_end : (a : Lin) (p : Part) (ps : Parts) → None ≡ part_form d cell items p → None ≡ sum_form_from d cell items a (more_parts p ps)
  parts_end a p ps none = ap (λ o. o >>= λ b. if_small (sum_of a b) >>= λ c. sum_form_from d cell items c ps) none

  pub parts_end_behind : (a b : Lin) (p : Part) (ps : Parts) → Some b ≡ part_form d cell items p → None ≡ if_small (sum_of a b) → None ≡ sum_form_from d cell items a (more_parts p ps)
  parts_end_behind a b p ps some none =
      ap (λ o. o >>= λ c. sum_form_from d cell items c ps) none ∙ ap (λ o. o >>= λ b. if_small (sum_of a b) >>= λ c. sum_form_from d cell items c ps) some

  pub part_of_literals : (minus : Bool) (fs : Factors) (r own : Option Lin) → true ≡ are_literals fs → own ≡ literals_form d cell items fs → r ≡ turned_if minus own → r ≡ part_form d cell items (MkPart minus fs)
  part_of_literals minus fs r own t e is = rw (is, e, ← t) refl

  pub part_of_others : (minus : Bool) (fs : Factors) (r own : Option Lin) → false ≡ are_literals fs → own ≡ product_form_from d cell items Empty (point (whole_number (pos 1))) None fs → r ≡ turned_if minus own → r ≡ part_form d cell items (MkPart minus fs)
  part_of_others minus fs r own t e is = rw (is, e, ← t) refl

-- ---- small operands

pub short_atom : (bound : ℕ → Bound) (a : Atom) → is_small_atom bound a ≡ true → is_short a ≡ true
short_atom bound (item place) e = refl
short_atom bound (number n) e = e
short_atom bound (group s) e = refl

pub factor_small : (bound : ℕ → Bound) (a : Ranged) (f : Factor) (fs : Factors) → HasRoom bound a (more_factors f fs) → is_small_factor bound f ≡ true
factor_small bound a (MkFactor over minus atom) fs h = atom_has_room bound a over minus atom fs h
