-- Each cell's list of thresholds rises from the low end of its own range to the high end, and has at most 128 numbers.
use Rattle.std.proofs.Common.{◌≡◌, ℕ, zero, suc, ◌<◌, ◌≤◌, List, [], ◌∷◌, length, get_or, map, Bool, true, false, ◌&&◌, ℤ, pos, ◌≤ℤ◌, if◌then◌else◌, refl, sym, ap, ◌∙◌, subst, arith}
use Rattle.std.specs.Prelude.{nat_lt, int_le, Vec}
use Rattle.std.specs.declared.alloc.Global.{Global}
use Rattle.std.specs.List.{fold, AllByRecursion}
use Rattle.std.proofs.lemmas.Bool.Decides.{nat_tests}
use Rattle.std.proofs.lemmas.Int.{ints}
use Rattle.dec_num.proofs.Powers.{ten_positive}
use Rattle.cob_tree.specs.declared.token.Num.{Num}
use Rattle.cob_runs.specs.declared.action.Cell.{Cell}
use Rattle.interval_domain.specs.declared.bounds.Interval.{Interval}
use Rattle.interval_domain.specs.Known.{HasEnds}
use Rattle.interval_domain.specs.Elements.{AreThresholds}
use Rattle.interval_domain.specs.Rows.{lists_of}
use Rattle.cell_steps.specs.OwnRanges.{own_range, picture_range}
use Rattle.analyse_core.specs.Rising.{inserted, Rises}
use Rattle.analyse_core.specs.Thresholds.{lies_in, can_take, noted, all_noted, firsts, beside_literal, noted_beside, cell_thresholds, thresholds_for}
use Rattle.analyse_core.proofs.Rising.{Has, LiesIn, all_inserted, inserted_length, inserted_rises, inserted_has, inserted_keeps, has_ends}

-- ---- lists of a cell

pub record IsCellList (own : Interval) (ts : List ℤ) : Type 0 where
  pub within : AllByRecursion (LiesIn own) ts
  pub rises : Rises ts
  pub short : length ts ≤ 128

both : (a b : Bool) → (a && b) ≡ true → (a ≡ true) × (b ≡ true)
both true b e = (refl, e)
both false b e = absurd (cc e)

pub lies_is : (own : Interval) (z : ℤ) → lies_in own z ≡ true → LiesIn own z
lies_is own z e = let l = both (int_le own.low z) (int_le z own.high) e in (grind (arith, ints, l.0), grind (arith, ints, l.1))

is_lies : (own : Interval) (z : ℤ) → LiesIn own z → lies_in own z ≡ true
is_lies own z (l, h) =
    let a : int_le own.low z ≡ true = grind (arith, ints, l) in
    let b : int_le z own.high ≡ true = grind (arith, ints, h) in
    ap (λ x. x && int_le z own.high) a ∙ b

-- what is taken lies in the range
pub takes_lies : (own : Interval) (ts : List ℤ) (z : ℤ) → can_take own ts z ≡ true → lies_in own z ≡ true
takes_lies own ts z e = (both (lies_in own z) (nat_lt (length ts) 128) e).0

less_is : (a b : ℕ) → nat_lt a b ≡ true → a < b
less_is a b e = grind (arith, nat_tests)

is_less : (a b : ℕ) → a < b → nat_lt a b ≡ true
is_less a b h = grind (arith, nat_tests)

module _ (own : Interval) (ts : List ℤ) (z : ℤ) where
  abbrev can : Bool
  can = lies_in own z && nat_lt (length ts) 128

  pub taken_in : can_take own ts z ≡ true → inserted z ts ≡ noted own ts z
  unfolding noted
  taken_in e = sym (ap (λ b. if b then inserted z ts else ts) e)

  pub left_out : can_take own ts z ≡ false → ts ≡ noted own ts z
  unfolding noted
  left_out e = sym (ap (λ b. if b then inserted z ts else ts) e)

  noted_is_list : IsCellList own ts → IsCellList own (noted own ts z)
  unfolding noted
  noted_is_list is = by_test can refl
    where
      by_test : (b : Bool) → can ≡ b → IsCellList own (if b then inserted z ts else ts)
      by_test true e =
          let l = both (lies_in own z) (nat_lt (length ts) 128) e in
          let less = less_is (length ts) 128 l.1 in
          let long = inserted_length z ts in
          record {
            within = all_inserted (LiesIn own) z ts (lies_is own z l.0) is.within;
            rises = inserted_rises z ts is.rises;
            short = omega (arith, less, long);
          }
      by_test false e = is

  noted_keeps : (u : ℤ) → Has ts u → Has (noted own ts z) u
  unfolding noted
  noted_keeps u h = by_test can
    where
      by_test : (b : Bool) → Has (if b then inserted z ts else ts) u
      by_test true = inserted_keeps z u ts h
      by_test false = h

  noted_length : length (noted own ts z) ≤ suc (length ts)
  unfolding noted
  noted_length = by_test can
    where
      by_test : (b : Bool) → length (if b then inserted z ts else ts) ≤ suc (length ts)
      by_test true = inserted_length z ts
      by_test false = omega arith

  noted_has : LiesIn own z → length ts < 128 → Has (noted own ts z) z
  unfolding noted
  noted_has lies less =
      let e : can ≡ true = ap (λ b. b && nat_lt (length ts) 128) (is_lies own z lies) ∙ is_less (length ts) 128 less in
      subst (λ b. Has (if b then inserted z ts else ts) z) (sym e) (inserted_has z ts)

-- ---- with both ends

pub record HasCellList (own : Interval) (ts : List ℤ) : Type 0 where
  pub list : IsCellList own ts
  pub low : Has ts own.low
  pub high : Has ts own.high

module _ (own : Interval) where
  one_noted : (ts : List ℤ) (z : ℤ) → HasCellList own ts → HasCellList own (noted own ts z)
  one_noted ts z has = record {
    list = noted_is_list own ts z has.list;
    low = noted_keeps own ts z own.low has.low;
    high = noted_keeps own ts z own.high has.high;
  }

  many_noted : (ts zs : List ℤ) → HasCellList own ts → HasCellList own (all_noted own ts zs)
  many_noted ts [] has = has
  many_noted ts (z ∷ zs) has = many_noted (noted own ts z) zs (one_noted ts z has)

  literals_noted : (scale : ℕ) (literals : List Num) (ts : List ℤ) → HasCellList own ts → HasCellList own (fold (noted_beside own scale) ts literals)
  literals_noted scale [] ts has = has
  literals_noted scale (n ∷ literals) ts has =
      literals_noted scale literals (noted_beside own scale ts n) (many_noted ts (beside_literal scale n) has)

  none_noted : IsCellList own []
  none_noted = record { within = tt; rises = tt; short = omega arith }

  firsts_noted : own.low ≤ℤ own.high → HasCellList own (all_noted own [] (firsts own))
  firsts_noted order =
      let first = noted own [] own.low in
      let l : length first ≤ 1 = noted_length own [] own.low in
      let has_low = noted_has own [] own.low (omega (arith, ints), order) (omega arith) in
      let has_high = noted_has own first own.high (order, omega (arith, ints)) (omega (arith, l)) in
      many_noted (noted own first own.high) (pos 0 ∷ []) (record {
        list = noted_is_list own first own.high (noted_is_list own [] own.low none_noted);
        low = noted_keeps own first own.high own.low has_low;
        high = has_high;
      })

range_ordered : (digits : ℕ) (signed : Bool) → (picture_range digits signed).low ≤ℤ (picture_range digits signed).high
range_ordered digits true = let h = ten_positive digits in omega (arith, ints, h)
range_ordered digits false = let h = ten_positive digits in omega (arith, ints, h)

pub cell_list : (literals : List Num) (c : Cell) → HasCellList (own_range c) (cell_thresholds literals c)
cell_list literals c =
    literals_noted (own_range c) c.scale literals (all_noted (own_range c) [] (firsts (own_range c)))
    (firsts_noted (own_range c) (range_ordered c.digits c.signed))

pub list_ends : (own : Interval) (ts : List ℤ) → HasCellList own ts → HasEnds own ts
list_ends own ts has = has_ends own ts has.list.rises has.list.within has.low has.high

-- ---- all cells

module _ (literals : List Num) where
  pub are_thresholds : (cells : List Cell) → AreThresholds (map own_range cells) (thresholds_for literals cells)
  are_thresholds [] = tt
  are_thresholds (c ∷ cells) = (list_ends (own_range c) (cell_thresholds literals c) (cell_list literals c), are_thresholds cells)

-- the numbers of each list lie in its cell's own range
abbrev pub ListsLieIn : List Interval → List (List ℤ) → Type 0
ListsLieIn [] [] = Unit {0}
ListsLieIn (own ∷ owns) (ts ∷ lists) = AllByRecursion (LiesIn own) ts × ListsLieIn owns lists
ListsLieIn _ _ = ⊥

pub lists_lie_in : (literals : List Num) (cells : List Cell) → ListsLieIn (map own_range cells) (thresholds_for literals cells)
lists_lie_in literals [] = tt
lists_lie_in literals (c ∷ cells) = ((cell_list literals c).list.within, lists_lie_in literals cells)

pub lists_rise : (literals : List Num) (cells : List Cell) → AllByRecursion Rises (thresholds_for literals cells)
lists_rise literals [] = tt
lists_rise literals (c ∷ cells) = ((cell_list literals c).list.rises, lists_rise literals cells)

pub lists_short : (literals : List Num) (cells : List Cell) → AllByRecursion (λ (ts : List ℤ). length ts ≤ 128) (thresholds_for literals cells)
lists_short literals [] = tt
lists_short literals (c ∷ cells) = ((cell_list literals c).list.short, lists_short literals cells)

pub each_short : (lists : List (Vec ℤ Global)) (tss : List (List ℤ)) (k : ℕ) (d : Vec ℤ Global) → lists_of lists ≡ tss →
    AllByRecursion (λ (ts : List ℤ). length ts ≤ 128) tss → k < length lists → length (get_or lists k d).items ≤ 128
each_short [] tss k d e h l = absurd (omega (arith, l))
each_short (list ∷ lists) [] k d e h l = absurd (cc e)
each_short (list ∷ lists) (ts ∷ tss) zero d e h l =
    let same : list.items ≡ ts = cc e in subst (λ (xs : List ℤ). length xs ≤ 128) (sym same) h.0
each_short (list ∷ lists) (ts ∷ tss) (suc k) d e h l =
    let rest : lists_of lists ≡ tss = cc e in each_short lists tss k d rest h.1 (omega (arith, l))
