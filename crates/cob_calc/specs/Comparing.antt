-- Comparisons as the code makes them, and what they need.
use Rattle.std.specs.Prelude.{◌≡◌, ◌≤◌, ◌<◌, ℕ, ◌^◌, true, List, [], ◌∷◌, replicate, Option, Some, unsigned_abs}
use Rattle.std.specs.declared.cmp.Ordering.{Ordering}
use Rattle.std.specs.declared.cmp.Ordering.TheVariants.{Less, Equal, Greater}
use Rattle.dec_num.specs.declared.types.Scaled.{Scaled}
use Rattle.dec_num.specs.Scaled.{units_at, joint_scale}
use Rattle.cob_data.specs.declared.layout.Layout.{Layout}
use Rattle.cob_data.specs.declared.layout.Pair.{Pair}
use Rattle.cob_data.specs.declared.layout.Sender.{Sender}
use Rattle.cob_data.specs.declared.layout.Sender.TheVariants as sender
use Rattle.num_bytes.specs.Digits.{last_digits, digit_text}
use Rattle.cob_program.specs.Bounds.{is_small_sides}
use Rattle.cob_program.specs.Logic.{Test, numbers, texts, member, numeric, always, Logic, all_of, any_of, not_, test, Logics, no_logics, more_logics}
use Rattle.cob_runs.specs.Computing.{items_in}
use Rattle.cob_runs.specs.Deciding.{Order, below, equal, above}
use Rattle.cob_store.specs.WellFormed.{IsShortLiteral}
use Rattle.cob_calc.specs.declared.texts.Text.{Text}
use Rattle.cob_calc.specs.declared.texts.Text.TheVariants as text
use Rattle.cob_calc.specs.Contents.{bound_at}
use Rattle.cob_calc.specs.Arithmetic.{are_numbers}

abbrev pub plain_order : Ordering → Order
plain_order Less = below
plain_order Equal = equal
plain_order Greater = above

-- the units of both at the greater scale
pub record CanCompare (a b : Scaled) : Type 0 where
  pub within : joint_scale a b ≤ 37
  pub left : unsigned_abs (units_at a (joint_scale a b)) < 10 ^ 37
  pub right : unsigned_abs (units_at b (joint_scale a b)) < 10 ^ 37

-- Two amounts can be compared where both are there.
abbrev pub AreComparable : Option Scaled → Option Scaled → Type 0
AreComparable (Some a) (Some b) = CanCompare a b
AreComparable _ _ = Unit {0}

-- the bytes of a side of a comparison
abbrev pub plain_text : Text → List ℕ
plain_text (text.Bytes b) = b.now
plain_text (text.Digits count size) = digit_text (last_digits count size)
plain_text (text.Fill byte count) = replicate count byte

-- a number has 18 digits at most
abbrev pub IsShortText : Text → Type 0
IsShortText (text.Digits count size) = count ≤ 18
IsShortText _ = Unit {0}

pub record IsShortNumber (v : Scaled) : Type 0 where
  pub most : unsigned_abs v.units < 10 ^ 18
  pub scale : v.scale ≤ 18

-- ---- what typing gives of conditions

abbrev pub IsShortEnd : Sender → Type 0
IsShortEnd (sender.Number n) = IsShortLiteral n
IsShortEnd _ = Unit {0}

abbrev pub AreShortPairs : List Pair → Type 0
AreShortPairs [] = Unit {0}
AreShortPairs (p ∷ ps) = (IsShortEnd p.low × IsShortEnd p.high) × AreShortPairs ps

abbrev pub CanTest : Layout → Test → Type 0
CanTest l (numbers a r b) =
    (are_numbers l (items_in a) ≡ true) × ((are_numbers l (items_in b) ≡ true) × (is_small_sides (bound_at l) a b ≡ true))
CanTest l (texts a r b) = Unit {0}
CanTest l (member place ps) = AreShortPairs ps
CanTest l (numeric place) = Unit {0}
CanTest l always = Unit {0}

module _ (l : Layout) where
  abbrev mutual
    pub CanDecide : Logic → Type 0
    CanDecide (all_of ls) = CanDecideAll ls
    CanDecide (any_of ls) = CanDecideAll ls
    CanDecide (not_ x) = CanDecide x
    CanDecide (test t) = CanTest l t

    pub CanDecideAll : Logics → Type 0
    CanDecideAll no_logics = Unit {0}
    CanDecideAll (more_logics x xs) = CanDecide x × CanDecideAll xs
