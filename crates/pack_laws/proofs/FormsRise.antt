-- Where less is seen, the forms of amounts, of divisors and of the sides of relations are narrower.
use Rattle.std.proofs.Common.{◌≡◌, ℕ, ◌^◌, Bool, true, false, ◌&&◌, ◌||◌, List, ℤ, pos, ◌≤ℤ◌, Option, Some, None, is_some, refl, sym, ap, ◌∙◌, arith}
use Rattle.std.specs.Prelude.{IsSomeAnd, if◌then◌else◌, neg_ℤ}
use Rattle.std.specs.List.{list_any}
use Rattle.std.proofs.lemmas.Int.{ints}
use Rattle.interval_domain.specs.Corners.{interval}
use Rattle.cob_data.specs.declared.extent.Extent.{Extent}
use Rattle.cob_data.specs.declared.layout.Sender.{Sender}
use Rattle.cob_data.specs.declared.layout.Sender.TheVariants as sender
use Rattle.cob_program.specs.declared.act.How.{How}
use Rattle.cob_program.specs.declared.act.How.TheVariants as how
use Rattle.cob_program.specs.Sum.{Sum, Atom}
use Rattle.cob_program.specs.Values.{◌>>=◌, root_of}
use Rattle.cob_program.specs.Act.{Act, Program}
use Rattle.cob_program.proofs.Steps.{some_bound}
use Rattle.cob_runs.specs.declared.action.Action.{Action}
use Rattle.cob_runs.specs.Computing.{items_in}
use Rattle.cob_edge_parts.specs.Parts.{Amount, moved, computed, remaining, augmented}
use Rattle.diff_bounds.specs.declared.form.lin.Lin.{Lin}
use Rattle.diff_bounds.specs.Forms.{if_small}
use Rattle.diff_bounds.specs.Results.{sum_of}
use Rattle.sum_ranges.specs.declared.ranged.Ranged.{Ranged}
use Rattle.sum_ranges.specs.Ranged as range
use Rattle.sum_ranges.specs.Ranged.{ranged}
use Rattle.sum_ranges.specs.SumRanges.{product_range, sum_range, atom_range}
use Rattle.sum_forms.specs.Constants.{constant_form, range_form}
use Rattle.sum_forms.specs.SumForms.{turned_form, sum_form, atom_form}
use Rattle.sum_forms.specs.Values.{IsNarrowerIfAny}
use Rattle.sum_forms.proofs.Narrower.{range_narrower, item_narrower, sum_there, narrower_then, scaled_narrower, turns_narrower, either_narrower, sum_form_narrower, atom_form_narrower}
use Rattle.transfer_ranges.specs.declared.amounts.Taken.{Taken}
use Rattle.transfer_ranges.specs.declared.amounts.AmountRange.{AmountRange}
use Rattle.transfer_ranges.specs.Amounts as amounts
use Rattle.transfer_ranges.specs.Amounts.{IsNarrowerTaken, IsNarrowerTakenIfAny}
use Rattle.transfer_ranges.specs.Stores.{amount_range}
use Rattle.transfer_ranges.proofs.Narrower.{computed_narrower}
use Rattle.cob_graph.specs.declared.homes.Home.TheVariants.{Item as of_item, Count as of_count}
use Rattle.cob_graph.specs.Homes.{homes_of}
use Rattle.cell_steps.specs.Cells.{units_of}
use Rattle.transfer_ranges.specs.EdgeOperands.{settled, stays_exact, taken_for, amount_of}
use Rattle.cell_steps.specs.Seen.{Seen}
use Rattle.cell_steps.specs.Stores.{range_at, amount_at}
use Rattle.cell_steps.specs.Order.{SeenBelow}
use Rattle.cell_laws.proofs.ItemRanges.{units_below, range_below}
use Rattle.cell_laws.proofs.OperandsRise.{SettledBelow, settled_below}
use Rattle.diff_steps.specs.Packs.{Pack, cell_of, pack_decimals}
use Rattle.diff_steps.specs.Moments.{is_written}
use Rattle.diff_steps.specs.Forms.{is_whole_sender, set_form, whole_sum, added_forms, turned_if, has_operands, own_form, subscript_form, counter_form, kept_form, taken_form, operands_form, item_sent, sender_form, multiplied_form, computed_form, amount_form, lowered_form}
use Rattle.diff_steps.specs.Guards.{difference_form}

-- ---- sums of two forms

added_narrower : (o p q r : Option Lin) → IsNarrowerIfAny o p → IsNarrowerIfAny q r → IsNarrowerIfAny (added_forms o q) (added_forms p r)
added_narrower o p q r n m =
    narrower_then o p (λ x. q >>= λ y. if_small (sum_of x y)) (λ x. r >>= λ y. if_small (sum_of x y)) n
    (λ a b k. narrower_then q r (λ y. if_small (sum_of a y)) (λ y. if_small (sum_of b y)) m (λ c d l. sum_there a c b d k l))

-- a form of a constant is as narrow as itself
itself_narrower : (g : Lin) → g.constant.low ≤ℤ g.constant.high → IsNarrowerIfAny (if_small g) (if_small g)
unfolding if_small
itself_narrower g ordered = either_narrower _ (Some g) (Some g) None None (record { coefs = refl; low = omega (arith, ints); ordered = ordered; high = omega (arith, ints) }) tt

-- ---- what was taken

-- both are there, and the first is narrower
abbrev pub AreTaken : Option Taken → Option Taken → Type 0
AreTaken o q = IsSomeAnd o (λ c. IsSomeAnd q (λ d. IsNarrowerTaken c d))

pub are_taken : (o q : Option Taken) (c : Taken) → o ≡ Some c → IsNarrowerTakenIfAny o q → AreTaken o q
are_taken None q c e n = absurd cc
are_taken (Some a) None c e n = absurd n
are_taken (Some a) (Some b) c e n = n

are_settled : (o q : Option Taken) (c : Taken) → AreTaken o q → (o >>= settled) ≡ Some c → AreTaken (o >>= settled) (q >>= settled)
are_settled None q c n e = absurd n
are_settled (Some a) None c n e = absurd n
are_settled (Some a) (Some b) c n e = there (settled a) (settled b) (settled_below a b n) e
  where
    there : (o q : Option Taken) → SettledBelow a.under o q → o ≡ Some c → AreTaken o q
    there None q k f = absurd cc
    there (Some t) None k f = absurd k
    there (Some t) (Some u) k f = k

-- a quotient that stays exact has no form
top_narrower : (f : ℕ) (c d : Taken) → IsNarrowerTaken c d → IsNarrowerIfAny (if is_some c.under then None else range_form f c.top) (if is_some d.under then None else range_form f d.top)
top_narrower f c d n = by_under c.under d.under n.under
  where
    by_under : (o q : Option Ranged) → amounts.IsNarrowerIfAny o q → IsNarrowerIfAny (if is_some o then None else range_form f c.top) (if is_some q then None else range_form f d.top)
    by_under None None m = range_narrower f c.top d.top n.top
    by_under None (Some v) m = absurd m
    by_under (Some u) None m = absurd m
    by_under (Some u) (Some v) m = tt

module _ (p : Program) (a : Act) (x : Action) (pack : Pack) (less more : Seen) (below : SeenBelow p a x less more) where
  items_narrower : (place : ℕ) → range.IsNarrower (range_at p less.cells place) (range_at p more.cells place)
  items_narrower place = range_below p.layout (homes_of p) less.cells more.cells below.fits below.cells place

  abbrev decimals : ℕ
  decimals = pack_decimals p.layout pack

  abbrev cell : ℕ → Option ℕ
  cell place = cell_of pack (of_item place)

  pub divisor_narrower : (d : Atom) (r : Ranged) → atom_range (range_at p less.cells) d ≡ Some r
      → IsNarrowerIfAny (atom_form decimals cell (range_at p less.cells) d) (atom_form decimals cell (range_at p more.cells) d)
  divisor_narrower d r e = atom_form_narrower decimals cell (range_at p less.cells) (range_at p more.cells) items_narrower d r e

  summed_narrower : (s : Sum) (r : Ranged) → sum_range (range_at p less.cells) s ≡ Some r
      → IsNarrowerIfAny (sum_form decimals cell (range_at p less.cells) s) (sum_form decimals cell (range_at p more.cells) s)
  summed_narrower s r e = sum_form_narrower decimals cell (range_at p less.cells) (range_at p more.cells) items_narrower s r e

  pub difference_narrower : (s t : Sum) (r q : Ranged) → sum_range (range_at p less.cells) s ≡ Some r → sum_range (range_at p less.cells) t ≡ Some q
      → IsNarrowerIfAny (difference_form decimals cell (range_at p less.cells) s t) (difference_form decimals cell (range_at p more.cells) s t)
  difference_narrower s t r q e g =
      narrower_then (sum_form decimals cell (range_at p less.cells) s) (sum_form decimals cell (range_at p more.cells) s)
      (λ b. sum_form decimals cell (range_at p less.cells) t >>= λ c. turned_form true c >>= λ d. if_small (sum_of b d))
      (λ b. sum_form decimals cell (range_at p more.cells) t >>= λ c. turned_form true c >>= λ d. if_small (sum_of b d))
      (summed_narrower s r e)
      (λ b v n. narrower_then (sum_form decimals cell (range_at p less.cells) t) (sum_form decimals cell (range_at p more.cells) t)
      (λ c. turned_form true c >>= λ d. if_small (sum_of b d)) (λ c. turned_form true c >>= λ d. if_small (sum_of v d)) (summed_narrower t q g)
      (λ c w m. narrower_then (turned_form true c) (turned_form true w) (λ d. if_small (sum_of b d)) (λ d. if_small (sum_of v d))
      (turns_narrower true (Some c) (Some w) m) (λ d u k. sum_there b d v u n k)))

  module _ (wrote : List Extent) where
    -- ---- the receiver's own number

    own_narrower : (place : ℕ) → IsNarrowerIfAny (own_form p pack less wrote place) (own_form p pack more wrote place)
    own_narrower place = item_narrower decimals (cell place) (range_at p less.cells place) (range_at p more.cells place) (items_narrower place)

    pub subscript_narrower : (k : ℕ) → IsNarrowerIfAny (subscript_form p pack less wrote k) (subscript_form p pack more wrote k)
    subscript_narrower k = either_narrower (is_whole_sender p.layout (sender.Item k)) (own_form p pack less wrote k) (own_form p pack more wrote k) None None (own_narrower k) tt

    counter_narrower : (statement : ℕ) → IsNarrowerIfAny (counter_form p pack less wrote statement) (counter_form p pack more wrote statement)
    counter_narrower statement =
        let w = units_below p.layout (homes_of p) less.cells more.cells (of_count statement) below.fits below.cells in
        item_narrower decimals (cell_of pack (of_count statement))
        (ranged (units_of p.layout (homes_of p) less.cells (of_count statement)) 0) (ranged (units_of p.layout (homes_of p) more.cells (of_count statement)) 0)
        (record { ordered = w.ordered; low = w.low; high = w.high; scale = refl })

    pub lowered_narrower : (statement : ℕ) → IsNarrowerIfAny (lowered_form p pack less wrote statement) (lowered_form p pack more wrote statement)
    lowered_narrower statement =
        let one = constant_form (interval (neg_ℤ (pos (10 ^ decimals))) (neg_ℤ (pos (10 ^ decimals)))) in
        added_narrower (counter_form p pack less wrote statement) (counter_form p pack more wrote statement) (if_small one) (if_small one)
        (counter_narrower statement) (itself_narrower one (omega (arith, ints)))

    -- ---- operands

    kept_narrower : (o q : Option Taken) → AreTaken o q → IsNarrowerIfAny (kept_form p pack less wrote o) (kept_form p pack more wrote q)
    kept_narrower None q n = absurd n
    kept_narrower (Some c) None n = absurd n
    kept_narrower (Some c) (Some d) n = top_narrower decimals c d n

    operands_narrower : (whole : Bool) (s : Sum) → (list_any (is_written p.layout wrote) (items_in s) || is_some (sum_range (range_at p less.cells) s)) ≡ true
        → IsNarrowerIfAny (taken_form p pack less wrote whole) (taken_form p pack more wrote whole)
        → IsNarrowerIfAny (operands_form p pack less wrote whole s) (operands_form p pack more wrote whole s)
    operands_narrower whole s has taken = by_written (list_any (is_written p.layout wrote) (items_in s)) has
      where
        by_range : (o : Option Ranged) → sum_range (range_at p less.cells) s ≡ o → is_some o ≡ true
            → IsNarrowerIfAny (sum_form decimals cell (range_at p less.cells) s) (sum_form decimals cell (range_at p more.cells) s)
        by_range None e there = absurd cc
        by_range (Some r) e there = summed_narrower s r e

        by_written : (b : Bool) → (b || is_some (sum_range (range_at p less.cells) s)) ≡ true → IsNarrowerIfAny
            (if b then taken_form p pack less wrote whole else (if whole && is_some (root_of s) then None else sum_form decimals cell (range_at p less.cells) s))
            (if b then taken_form p pack more wrote whole else (if whole && is_some (root_of s) then None else sum_form decimals cell (range_at p more.cells) s))
        by_written true e = taken
        by_written false e = either_narrower (whole && is_some (root_of s)) None None _ _ tt (by_range (sum_range (range_at p less.cells) s) refl e)

    pub sender_narrower : (y : Sender) → AreTaken less.common more.common → IsNarrowerIfAny (sender_form p pack less wrote y) (sender_form p pack more wrote y)
    sender_narrower (sender.Item place) n = by_cell (cell place) (is_written p.layout wrote place)
      where
        by_cell : (o : Option ℕ) (b : Bool) → IsNarrowerIfAny (item_sent p pack less wrote place o b) (item_sent p pack more wrote place o b)
        by_cell (Some k) false = own_narrower place
        by_cell (Some k) true = kept_narrower less.common more.common n
        by_cell None b = kept_narrower less.common more.common n
    sender_narrower (sender.Number m) n = kept_narrower less.common more.common n
    sender_narrower (sender.Text text) n = kept_narrower less.common more.common n
    sender_narrower (sender.Fill byte) n = kept_narrower less.common more.common n
    sender_narrower sender.Zero n = kept_narrower less.common more.common n

    -- what a counter is set to
    pub set_narrower : (y : Sender) → AreTaken less.common more.common → IsNarrowerIfAny (set_form p pack less wrote y) (set_form p pack more wrote y)
    set_narrower y n = either_narrower (is_whole_sender p.layout y) (sender_form p pack less wrote y) (sender_form p pack more wrote y) None None (sender_narrower y n) tt

    -- ---- amounts

    module _ (place : ℕ) (y : Amount) (r : AmountRange) (e : amount_at p a x less place y ≡ Some r) where
      its_taken : AreTaken less.common more.common
      its_taken =
          let c = some_bound less.common (amount_of y (range_at p less.cells place)) r e in
          are_taken less.common more.common c.0 c.1 below.common

      its_settled : stays_exact y ≡ false → AreTaken (less.common >>= settled) (more.common >>= settled)
      its_settled f =
          let c = some_bound less.common (amount_of y (range_at p less.cells place)) r e in
          let d = some_bound (taken_for y c.0) (amount_range y (range_at p less.cells place)) r c.2 in
          let is : taken_for y c.0 ≡ settled c.0 = ap (λ (b : Bool). if b then Some c.0 else settled c.0) f in
          are_settled less.common more.common d.0 its_taken (ap (λ (o : Option Taken). o >>= settled) c.1 ∙ sym is ∙ d.1)

    multiplied_narrower : (place : ℕ) (o : Option ℤ) → AreTaken (less.common >>= settled) (more.common >>= settled)
        → IsNarrowerIfAny (multiplied_form p pack less wrote place o) (multiplied_form p pack more wrote place o)
    multiplied_narrower place (Some k) n = scaled_narrower k (own_form p pack less wrote place) (own_form p pack more wrote place) (own_narrower place)
    multiplied_narrower place None n = by_taken (less.common >>= settled) (more.common >>= settled) n
      where
        by_taken : (o q : Option Taken) → AreTaken o q → IsNarrowerIfAny
            (o >>= λ c. range_form decimals (product_range (range_at p less.cells place) c.top)) (q >>= λ c. range_form decimals (product_range (range_at p more.cells place) c.top))
        by_taken None q m = absurd m
        by_taken (Some c) None m = absurd m
        by_taken (Some c) (Some d) m =
            range_narrower decimals (product_range (range_at p less.cells place) c.top) (product_range (range_at p more.cells place) d.top)
            (computed_narrower how.Times (range_at p less.cells place) (range_at p more.cells place) c d (items_narrower place) m)

    worked_narrower : (place : ℕ) (s : Sum) (h : How) (r : AmountRange) → amount_at p a x less place (computed s h) ≡ Some r → has_operands p less wrote (computed s h) ≡ true
        → IsNarrowerIfAny (computed_form p pack less wrote place s h) (computed_form p pack more wrote place s h)
    worked_narrower place s how.Whole r e has =
        operands_narrower true s has (kept_narrower less.common more.common (its_taken place (computed s how.Whole) r e))
    worked_narrower place s how.Plus r e has =
        added_narrower (own_form p pack less wrote place) (own_form p pack more wrote place) (operands_form p pack less wrote false s) (operands_form p pack more wrote false s)
        (own_narrower place)
        (operands_narrower false s has (kept_narrower (less.common >>= settled) (more.common >>= settled) (its_settled place (computed s how.Plus) r e refl)))
    worked_narrower place s how.Minus r e has =
        added_narrower (own_form p pack less wrote place) (own_form p pack more wrote place) (turned_if true (operands_form p pack less wrote false s)) (turned_if true (operands_form p pack more wrote false s))
        (own_narrower place)
        (turns_narrower true (operands_form p pack less wrote false s) (operands_form p pack more wrote false s)
        (operands_narrower false s has (kept_narrower (less.common >>= settled) (more.common >>= settled) (its_settled place (computed s how.Minus) r e refl))))
    worked_narrower place s how.Times r e has = multiplied_narrower place (whole_sum s) (its_settled place (computed s how.Times) r e refl)
    worked_narrower place s how.Under r e has = tt

    pub amount_narrower : (place : ℕ) (y : Amount) (r : AmountRange) → amount_at p a x less place y ≡ Some r → has_operands p less wrote y ≡ true
        → IsNarrowerIfAny (amount_form p pack less wrote place y) (amount_form p pack more wrote place y)
    amount_narrower place (moved z) r e has = sender_narrower z (its_taken place (moved z) r e)
    amount_narrower place (computed s h) r e has = worked_narrower place s h r e has
    amount_narrower place (remaining s scale) r e has = tt
    amount_narrower place (augmented z) r e has =
        added_narrower (own_form p pack less wrote place) (own_form p pack more wrote place) (sender_form p pack less wrote z) (sender_form p pack more wrote z)
        (own_narrower place) (sender_narrower z (its_taken place (augmented z) r e))
