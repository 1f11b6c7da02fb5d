-- What a relation of two sums leaves of a pack's matrix is true of the storage in which it came out so.
use Rattle.std.proofs.Common.{◌≡◌, ◌≤◌, ◌<ℤ◌, ℕ, Bool, true, false, ◌&&◌, if◌then◌else◌, Option, Some, None, Ok, Err, List, ℤ, zero, suc, pos, negsuc, neg_ℤ, ◌-ℤ◌, refl, sym, ap, subst, ◌∙◌, arith}
use Rattle.std.specs.Prelude.{IsSomeAnd, nat_le, ◌-◌, ◌^◌}
use Rattle.std.proofs.lemmas.Int.{ints}
use Rattle.std.proofs.lemmas.Bool.Decides.{nat_tests}
use Rattle.dec_num.specs.declared.types.Scaled.{Scaled}
use Rattle.dec_num.specs.Scaled.{units_at, joint_scale}
use Rattle.dec_num.proofs.Signed.{neg_ℤ_times}
use Rattle.cob_tree.specs.declared.fault.Kind.TheVariants as kind
use Rattle.cob_tree.specs.declared.token.Rel.{Rel}
use Rattle.cob_program.specs.Sum.{Sum}
use Rattle.cob_program.specs.Values.{negated, plus, sum_value, ◌>>=◌}
use Rattle.cob_program.specs.Logic.{Test, numbers, texts, member, numeric, always}
use Rattle.cob_program.specs.Act.{Act, Program}
use Rattle.cob_runs.specs.declared.action.Action.{Action}
use Rattle.cob_runs.specs.Faults as fault
use Rattle.cob_runs.specs.Faults.{or_fault}
use Rattle.cob_runs.specs.Computing.{items_in, are_numeric, worth}
use Rattle.cob_runs.specs.Deciding.{below, equal, above, Order, holds, order_of, number_order, decided, compared_numbers, test_holds}
use Rattle.diff_bounds.specs.declared.form.lin.Lin.{Lin}
use Rattle.diff_bounds.specs.Forms.{if_small}
use Rattle.diff_bounds.specs.Results.{sum_of}
use Rattle.sum_ranges.specs.declared.ranged.Ranged.{Ranged}
use Rattle.sum_ranges.specs.Ranged.{IsIn}
use Rattle.sum_ranges.specs.SumRanges.{sum_range}
use Rattle.sum_forms.specs.SumForms.{turned_form, sum_form}
use Rattle.transfer_ranges.specs.Sides.{is_wanted}
use Rattle.transfer_ranges.proofs.InRanges.{ok_same, ok_bound, ok_there, wanted_is}
use Rattle.interval_domain.specs.Known.{Known}
use Rattle.cob_graph.specs.declared.homes.Home.TheVariants.{Item as of_item}
use Rattle.cell_steps.specs.Storages.{storage, StandsIn}
use Rattle.cell_steps.specs.Premises.{HasSoundItems}
use Rattle.cell_steps.specs.Seen.{Seen}
use Rattle.cell_steps.specs.Stores.{range_at}
use Rattle.cell_laws.proofs.PartsDone.{both_true}
use Rattle.diff_steps.specs.Packs.{Pack, size_of, cell_of, pack_decimals, cells_in, PackStands}
use Rattle.diff_steps.specs.Guards.{difference_form, has_decimals, are_fine, related}
use Rattle.diff_steps.specs.Steps.{guarded_pack}
use Rattle.pack_laws.specs.Orders.{IsLeft}
use Rattle.pack_laws.proofs.Orders.{ordered_stands}
use Rattle.pack_laws.proofs.FormsShowValues.{Told, turned_told, added_told, all_shown}
use Rattle.pack_laws.proofs.FormsShowSums.{none_after, sum_told, sum_ranged}

-- ---- orders

is_below : (d : ℤ) → d <ℤ pos 0 → order_of d ≡ below
is_below (pos n) h = absurd (omega (arith, ints, h))
is_below (negsuc n) h = refl

is_above : (d : ℤ) → pos 0 <ℤ d → order_of d ≡ above
is_above (pos zero) h = absurd (omega (arith, ints, h))
is_above (pos (suc n)) h = refl
is_above (negsuc n) h = absurd (omega (arith, ints, h))

-- the left side less the right one, in units of the finer one's scale
difference_is : (x y : Scaled) → units_at x (joint_scale x y) -ℤ units_at y (joint_scale x y) ≡ (plus x (negated true y)).units
difference_is x y =
    let turned : units_at (negated true y) (joint_scale x y) ≡ neg_ℤ (units_at y (joint_scale x y)) = neg_ℤ_times y.units (10 ^ (joint_scale x y - y.scale)) in
    omega (arith, ints, turned)

order_left : (r : Rel) (wanted : Bool) (d : ℤ) (o : Order) → order_of d ≡ o → holds r (order_of d) ≡ wanted → is_wanted wanted (holds r o) ≡ true
order_left r wanted d o e h = wanted_is wanted (holds r o) (subst (λ (k : Order). holds r k ≡ wanted) e h)

sides_left : (r : Rel) (wanted : Bool) (x y : Scaled) → holds r (number_order x y) ≡ wanted
    → IsLeft (is_wanted wanted (holds r below)) (is_wanted wanted (holds r equal)) (is_wanted wanted (holds r above)) (plus x (negated true y))
sides_left r wanted x y h = go (units_at x (joint_scale x y) -ℤ units_at y (joint_scale x y)) (difference_is x y) h
  where
    go : (d : ℤ) → d ≡ (plus x (negated true y)).units → holds r (order_of d) ≡ wanted
        → IsLeft (is_wanted wanted (holds r below)) (is_wanted wanted (holds r equal)) (is_wanted wanted (holds r above)) (plus x (negated true y))
    go d e h = record {
      below = λ l. order_left r wanted d below (is_below d (subst (λ (z : ℤ). z <ℤ pos 0) (sym e) l)) h;
      even = λ l. order_left r wanted d equal (ap order_of (e ∙ l)) h;
      above = λ l. order_left r wanted d above (is_above d (subst (λ (z : ℤ). pos 0 <ℤ z) (sym e) l)) h;
    }

-- no decimals beyond the pack's unit
few_decimals : (f : ℕ) (cell : ℕ → Option ℕ) (range : ℕ → Ranged) (o : Option Ranged) (x : Scaled) → IsSomeAnd o (IsIn x) → has_decimals f cell range o ≡ true → x.scale ≤ f
few_decimals f cell range None x h e = absurd h
few_decimals f cell range (Some r) x h e = let same = h.scale in at_most x.scale r.scale same e
  where
    at_most : (a b : ℕ) → a ≡ b → nat_le b f ≡ true → a ≤ f
    at_most a b same e = grind (arith, nat_tests)

-- ---- the difference of both sides

module _ (cells : ℕ → Option ℤ) (f : ℕ) where
  difference_told : (o q : Option Lin) (x y : Scaled) → Told cells f o x → Told cells f q y → Told cells f (o >>= λ a. q >>= λ b. turned_form true b >>= λ c. if_small (sum_of a c)) (plus x (negated true y))
  difference_told None q x y h k = tt
  difference_told (Some a) None x y h k = tt
  difference_told (Some a) (Some b) x y h k = added_told cells f (Some a) (turned_form true b) x (negated true y) h (turned_told cells f (Some b) y k)

module _ (p : Program) (sound : HasSoundItems p.layout) (known : List Known) (bytes : List ℕ) (counts : List (Option ℤ)) (stands : StandsIn p known (storage bytes counts)) (pack : Pack) (few : size_of pack ≤ 8) where
  abbrev f : ℕ
  f = pack_decimals p.layout pack

  abbrev cell_at : ℕ → Option ℕ
  cell_at place = cell_of pack (of_item place)

  abbrev cells : ℕ → Option ℤ
  cells = cells_in p.layout pack (storage bytes counts)

  relation_keeps : (a b : Sum) (r : Rel) (wanted : Bool) (x y : Scaled) → are_numeric p.layout bytes (items_in a) ≡ true → are_numeric p.layout bytes (items_in b) ≡ true
      → sum_value (worth p.layout bytes) a ≡ Some x → sum_value (worth p.layout bytes) b ≡ Some y → holds r (number_order x y) ≡ wanted
      → (m : List ℤ) → PackStands p.layout pack m (storage bytes counts)
      → PackStands p.layout pack (related f cell_at (range_at p known) (size_of pack) a r b wanted m) (storage bytes counts)
  relation_keeps a b r wanted x y na nb ea eb h m stand =
      ordered_stands (size_of pack) cells few m stand (are_fine f cell_at (range_at p known) a b) (difference_form f cell_at (range_at p known) a b) (plus x (negated true y)) f
      (is_wanted wanted (holds r below)) (is_wanted wanted (holds r equal)) (is_wanted wanted (holds r above))
      (all_shown cells f (size_of pack) few (none_after p sound known bytes counts stands pack few) (difference_form f cell_at (range_at p known) a b) (plus x (negated true y))
      (difference_told cells f (sum_form f cell_at (range_at p known) a) (sum_form f cell_at (range_at p known) b) x y
      (sum_told p sound known bytes counts stands pack few a x na ea) (sum_told p sound known bytes counts stands pack few b y nb eb)))
      (λ e.
      let both = both_true (has_decimals f cell_at (range_at p known) (sum_range (range_at p known) a)) (has_decimals f cell_at (range_at p known) (sum_range (range_at p known) b)) e in
      let one = few_decimals f cell_at (range_at p known) (sum_range (range_at p known) a) x (sum_ranged p sound known bytes counts stands pack few a x na ea) both.0 in
      let other = few_decimals f cell_at (range_at p known) (sum_range (range_at p known) b) y (sum_ranged p sound known bytes counts stands pack few b y nb eb) both.1 in
      omega (arith, one, other))
      (sides_left r wanted x y h)

  numbers_keep : (a b : Sum) (r : Rel) (wanted : Bool) → compared_numbers p.layout bytes a r b ≡ Ok wanted → (m : List ℤ) → PackStands p.layout pack m (storage bytes counts)
      → PackStands p.layout pack (related f cell_at (range_at p known) (size_of pack) a r b wanted m) (storage bytes counts)
  numbers_keep a b r wanted e m stand = go (are_numeric p.layout bytes (items_in a)) (are_numeric p.layout bytes (items_in b)) refl refl e
    where
      go : (u v : Bool) → are_numeric p.layout bytes (items_in a) ≡ u → are_numeric p.layout bytes (items_in b) ≡ v
          → (if u && v then decided p.layout bytes r (sum_value (worth p.layout bytes) a) (sum_value (worth p.layout bytes) b) else Err kind.Class) ≡ Ok wanted
          → PackStands p.layout pack (related f cell_at (range_at p known) (size_of pack) a r b wanted m) (storage bytes counts)
      go true true na nb e =
          let x = ok_bound (or_fault kind.Zero (sum_value (worth p.layout bytes) a)) (λ x. fault.◌>>=◌ (or_fault kind.Zero (sum_value (worth p.layout bytes) b)) (λ y. Ok (holds r (number_order x y)))) wanted e in
          let y = ok_bound (or_fault kind.Zero (sum_value (worth p.layout bytes) b)) (λ y. Ok (holds r (number_order x.0 y))) wanted x.2 in
          relation_keeps a b r wanted x.0 y.0 na nb (ok_there kind.Zero (sum_value (worth p.layout bytes) a) x.0 x.1) (ok_there kind.Zero (sum_value (worth p.layout bytes) b) y.0 y.1)
          (ok_same (holds r (number_order x.0 y.0)) wanted y.2) m stand
      go true false na nb e = absurd cc
      go false v na nb e = absurd cc

  pub test_keeps : (a : Act) (x : Action) (s : Seen) → s.cells ≡ known → (t : Test) (wanted : Bool) → test_holds p.layout bytes t ≡ Ok wanted → (m : List ℤ) → PackStands p.layout pack m (storage bytes counts)
      → PackStands p.layout pack (guarded_pack p a x s t wanted pack m) (storage bytes counts)
  test_keeps a x s same (numbers b r c) wanted e m stand =
      subst (λ (cs : List Known). PackStands p.layout pack (related f cell_at (range_at p cs) (size_of pack) b r c wanted m) (storage bytes counts)) (sym same) (numbers_keep b c r wanted e m stand)
  test_keeps a x s same (texts y r z) wanted e m stand = stand
  test_keeps a x s same (member place ps) wanted e m stand = stand
  test_keeps a x s same (numeric place) wanted e m stand = stand
  test_keeps a x s same always wanted e m stand = stand
