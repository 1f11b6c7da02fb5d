-- What receivers get of a sender can be worked out.
use Rattle.std.proofs.Common.{◌≡◌, ℕ, ◌≤◌, true, List, [], length, Option, Some, None, ℤ, pos, refl, arith}
use Rattle.std.specs.Prelude.{IfSome}
use Rattle.std.specs.Option.{option_map}
use Rattle.std.proofs.lemmas.Bool.{leb-true}
use Rattle.cob_tree.specs.declared.form.Form.TheVariants as form
use Rattle.cob_data.specs.declared.layout.Layout.{Layout}
use Rattle.cob_data.specs.declared.layout.Sender.{Sender}
use Rattle.cob_data.specs.declared.layout.Sender.TheVariants as sender
use Rattle.num_bytes.specs.Reading.{contents_value}
use Rattle.cob_program.specs.Values.{whole_number, literal}
use Rattle.cob_program.specs.Bounds.{Bound, of_digits, exactly, literal_bound}
use Rattle.cob_program.proofs.Steps.{literal_within, whole_within}
use Rattle.cob_runs.specs.Contents.{scaled_by}
use Rattle.cob_runs.specs.Deciding.{is_number_end}
use Rattle.cob_store.specs.WellFormed.{HasWellFormedItems}
use Rattle.cob_store.proofs.ReadBound.{read_within}
use Rattle.cob_calc.specs.Contents.{bound_at}
use Rattle.cob_world.specs.Needs.{IsNumber}
use Rattle.cob_edge_parts.specs.Parts.{moved, augmented}
use Rattle.sum_ranges.specs.declared.ranged.Ranged.{Ranged}
use Rattle.sum_ranges.specs.Ranged.{point}
use Rattle.sum_ranges.specs.Sizes.{IsRangeWithin, IsSmallRange}
use Rattle.sum_ranges.specs.Working.{AreBounded}
use Rattle.sum_ranges.proofs.Bounded.{point_within, small_range_of}
use Rattle.transfer_ranges.specs.declared.amounts.Taken.{Taken}
use Rattle.transfer_ranges.specs.Operands.{alone}
use Rattle.transfer_ranges.specs.Stores.{sender_range}
use Rattle.transfer_ranges.specs.Sizes.{IsSmallAmount}
use Rattle.transfer_ranges.proofs.Bounding.{small_sum}
use Rattle.transfer_ranges.specs.Small.{is_short}
use Rattle.transfer_ranges.specs.SmallAmounts.{is_small_sender}
use Rattle.transfer_ranges.specs.Working.{CanWork, amount_from}
use Rattle.cell_laws.proofs.Short.{digits_are_short, short_is_small, short_sum, end_short}

module _ (bound : ℕ → Bound) (items : ℕ → Ranged) (bounded : AreBounded items bound) where
  text_small : (text : List ℕ) (o : Option ℤ) → length text ≤ 18 → contents_value (form.Text (length text)) text ≡ o →
      IfSome (option_map point (option_map (scaled_by 0) o)) IsSmallRange
  text_small text None short e = tt
  text_small text (Some z) short e =
      let within = read_within (form.Text (length text)) text z (scaled_by 0 z) refl e refl in
      small_range_of (point (scaled_by 0 z)) (of_digits (length text) 0) (point_within (scaled_by 0 z) (of_digits (length text) 0) within)
      (short_is_small (of_digits (length text) 0) (digits_are_short (length text) 0 short (omega arith)))

  sender_small : (y : Sender) → is_small_sender bound y ≡ true → IfSome (sender_range items y) IsSmallRange
  sender_small (sender.Item place) e = small_range_of (items place) (bound place) (bounded.held place) e
  sender_small (sender.Number n) e = small_range_of (point (literal n)) (literal_bound n) (point_within (literal n) (literal_bound n) (literal_within n)) e
  sender_small (sender.Text text) e = text_small text (contents_value (form.Text (length text)) text) (leb-true (length text) 18 e) refl
  sender_small (sender.Fill byte) e = tt
  sender_small sender.Zero e = small_range_of (point (whole_number (pos 0))) (exactly 0) (point_within (whole_number (pos 0)) (exactly 0) (whole_within 0)) refl

  -- ---- MOVE

  pub moved_works : (y : Sender) (own : Ranged) → IfSome (option_map alone (sender_range items y)) (CanWork (moved y) own)
  moved_works y own = go (option_map alone (sender_range items y))
    where
      go : (o : Option Taken) → IfSome o (CanWork (moved y) own)
      go None = tt
      go (Some t) = record { settled = λ e. absurd cc; given = tt }

  pub moved_small : (y : Sender) (own : Ranged) → is_small_sender bound y ≡ true → IfSome (amount_from (option_map alone (sender_range items y)) (moved y) own) IsSmallAmount
  moved_small y own e = go (sender_range items y) (sender_small y e)
    where
      go : (o : Option Ranged) → IfSome o IsSmallRange → IfSome (amount_from (option_map alone o) (moved y) own) IsSmallAmount
      go None h = tt
      go (Some r) h = h

-- ---- VARYING

-- a number of at most 18 digits
pub record IsShortSent (r : Ranged) : Type 0 where
  pub most : Bound
  pub short : is_short most ≡ true
  pub within : IsRangeWithin r most

text_is_none : (l : Layout) (text : List ℕ) → is_number_end l [] (sender.Text text) ≡ true → ⊥
text_is_none l text is = absurd cc

pub number_sent : (l : Layout) → HasWellFormedItems l → (items : ℕ → Ranged) → AreBounded items (bound_at l) → (y : Sender) → IsNumber l y → IfSome (sender_range items y) IsShortSent
number_sent l sound items bounded (sender.Item place) number =
    record { most = bound_at l place; short = end_short l sound (sender.Item place) number.number number.literal; within = bounded.held place }
number_sent l sound items bounded (sender.Number n) number =
    record { most = literal_bound n; short = end_short l sound (sender.Number n) number.number number.literal; within = point_within (literal n) (literal_bound n) (literal_within n) }
number_sent l sound items bounded (sender.Text text) number = absurd (text_is_none l text number.number)
number_sent l sound items bounded (sender.Fill byte) number = tt
number_sent l sound items bounded sender.Zero number = record { most = exactly 0; short = refl; within = point_within (whole_number (pos 0)) (exactly 0) (whole_within 0) }

module _ (own : Ranged) (most : Bound) (mine : IsRangeWithin own most) (short : is_short most ≡ true) (y : Sender) where
  pub augmented_works : (o : Option Ranged) → IfSome o IsShortSent → IfSome (option_map alone o) (CanWork (augmented y) own)
  augmented_works None h = tt
  augmented_works (Some r) h =
      record { settled = λ e. absurd cc; given = (small_sum own r most h.most mine h.within (short_sum most h.most short h.short)).0 }

  pub augmented_small : (o : Option Ranged) → IfSome o IsShortSent → IfSome (amount_from (option_map alone o) (augmented y) own) IsSmallAmount
  augmented_small None h = tt
  augmented_small (Some r) h = (small_sum own r most h.most mine h.within (short_sum most h.most short h.short)).1
