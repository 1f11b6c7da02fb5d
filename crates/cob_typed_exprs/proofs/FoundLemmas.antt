-- A walk over the places of a name, from the last back.
use Rattle.std.proofs.Common.{◌≡◌, ℕ, zero, suc, ◌+◌, ◌<◌, ◌≤◌, Bool, true, false, cond, ◌&&◌, List, [], ◌∷◌, length, slice_get, Option, Some, None, refl, sym, ap, ◌∙◌, ⊎_elim, arith, rules}
use Rattle.std.proofs.lemmas.Bool.{false≢true, cases_lt, cases_order}
use Rattle.std.proofs.lemmas.Option.{slice_get_past}
use Rattle.cob_data.specs.declared.layout.Layout.{Layout}
use Rattle.cob_typed_exprs.specs.declared.found.Found.{Found}
use Rattle.cob_typed_exprs.specs.declared.found.Found.TheVariants as found
use Rattle.cob_typed_exprs.specs.declared.kind.Kind.{Kind}
use Rattle.cob_typed_exprs.specs.declared.kind.Kind.TheVariants as kind
use Rattle.cob_typed_exprs.specs.Names.{is_named, item_name, IsFound}
use Rattle.cob_typed_exprs.specs.Tables.{last_named}
use Rattle.cob_typed_exprs.specs.Search.{name_in, count_in, flag_name, file_name, fits, NamesIn, bound, IsPlace, IsFoundFrom, found_and}

-- ---- the places of a name

module _ (text : List ℕ) (names : ℕ → Option (List ℕ)) where
  -- the last place of a name is one, and no place behind it is
  pub last_is_place : (n count : ℕ) → n ≤ count → IsPlace text names count (last_named text names n)
  last_is_place zero count low = tt
  last_is_place (suc n) count low = by (is_named text (names n)) refl (last_is_place n count (omega arith)) where
    by : (b : Bool) → is_named text (names n) ≡ b → IsPlace text names count (last_named text names n) → IsPlace text names count (cond b (Some n) (last_named text names n))
    by true e before = (omega arith, e)
    by false e before = before

  pub none_behind : (n place : ℕ) → bound (last_named text names n) ≤ place → place < n → is_named text (names place) ≡ true → ⊥
  none_behind zero place from low named = absurd (omega arith)
  none_behind (suc n) place from low named = by (is_named text (names n)) refl from (λ f k. none_behind n place f k named) where
    by : (b : Bool) → is_named text (names n) ≡ b → bound (cond b (Some n) (last_named text names n)) ≤ place → (bound (last_named text names n) ≤ place → place < n → ⊥) → ⊥
    by true e from before = absurd (omega arith)
    by false e from before = ⊎_elim (before from) (λ (at : n ≤ place). let same : place ≡ n = omega arith in let other : is_named text (names n) ≡ true = rw (← same) named in cc) (cases_lt place n)

-- what has a name is there
no_name : (l : Layout) (k : Kind) (place : ℕ) → count_in l k ≤ place → name_in l k place ≡ None
no_name l kind.Item place past = rw slice_get_past refl
no_name l kind.Record place past = rw slice_get_past refl
no_name l kind.Flag place past = rw slice_get_past refl
no_name l kind.File place past = rw slice_get_past refl

pub named_within : (l : Layout) (k : Kind) (text : List ℕ) (place : ℕ) → is_named text (name_in l k place) ≡ true → place < count_in l k
named_within l k text place named = ⊎_elim (λ h. h) (λ (past : count_in l k ≤ place). absurd (false≢true (rw (no_name l k place past) at named))) (cases_lt place (count_in l k))

-- ---- what is found

-- none of what lies between is one
pub found_lower : (N : ℕ → Type 0) (low high : ℕ) (f : Found) → low ≤ high → ((place : ℕ) → low ≤ place → place < high → N place → ⊥) → IsFoundFrom N high f → IsFoundFrom N low f
found_lower N low high found.Nothing le none so_far = λ place from named. ⊎_elim (λ h. none place from h named) (λ h. so_far place h named) (cases_lt place high)
found_lower N low high (found.One p) le none so_far = (omega (arith, so_far.0), so_far.1, λ place from named. ⊎_elim (λ h. absurd (none place from h named)) (λ h. so_far.2 place h named) (cases_lt place high))
found_lower N low high found.Several le none so_far = (so_far.0, so_far.1, omega (arith, so_far.2), so_far.3, so_far.4, so_far.5)

-- the place itself is one
found_one : (N : ℕ → Type 0) (place : ℕ) (f : Found) → N place → IsFoundFrom N (place + 1) f → IsFoundFrom N place (found_and f place)
found_one N place found.Nothing named so_far = (omega arith, named, λ other from also. ⊎_elim (λ (e : place ≡ other). sym e) (λ h. ⊎_elim (λ (m : place < other). absurd (so_far other (omega arith) also)) (λ (m : other < place). absurd (omega arith)) h) (cases_order place other))
found_one N place (found.One p) named so_far = (place, p, omega arith, omega (arith, so_far.0), named, so_far.1)
found_one N place found.Several named so_far = (so_far.0, so_far.1, omega (arith, so_far.2), so_far.3, so_far.4, so_far.5)

-- it is none
found_none : (N : ℕ → Type 0) (place : ℕ) (f : Found) → (N place → ⊥) → IsFoundFrom N (place + 1) f → IsFoundFrom N place f
found_none N place f isnt so_far = found_lower N place (place + 1) f (omega arith) (λ other from below named. let same : other ≡ place = omega arith in isnt (rw (← same) named)) so_far

pub found_count : (N : ℕ → Type 0) (place : ℕ) (b : Bool) (f g : Found) → (b ≡ true → N place) → (N place → b ≡ true) → g ≡ cond b (found_and f place) f →
    IsFoundFrom N (place + 1) f → IsFoundFrom N place g
found_count N place true f g to from is so_far = rw is (found_one N place f (to refl) so_far)
found_count N place false f g to from is so_far = rw is (found_none N place f (λ named. let e = from named in cc) so_far)

pub found_all : (N : ℕ → Type 0) (f : Found) → IsFoundFrom N 0 f → IsFound N f
found_all N found.Nothing so_far = λ place. so_far place (omega arith)
found_all N (found.One p) so_far = (so_far.1, λ place. so_far.2 place (omega arith))
found_all N found.Several so_far = (so_far.0, so_far.1, so_far.3, so_far.4, so_far.5)

pub found_two : (N : ℕ → Type 0) (from : ℕ) (f : Found) → f ≡ found.Several → IsFoundFrom N from f → IsFound N f
found_two N from f is so_far = by f is so_far where
  by : (f : Found) → f ≡ found.Several → IsFoundFrom N from f → IsFound N f
  by found.Nothing e h = absurd (cc)
  by (found.One p) e h = absurd (cc)
  by found.Several e h = (h.0, h.1, h.3, h.4, h.5)

-- ---- the walk

module _ (l : Layout) (k : Kind) (text : List ℕ) (of : List (List ℕ)) where
  pub walk_begins : (next : Option ℕ) → next ≡ last_named text (name_in l k) (count_in l k) →
      IsPlace text (name_in l k) (count_in l k) next × ((place : ℕ) → bound next ≤ place → NamesIn l k text of place → ⊥)
  walk_begins next is = rw is (last_is_place text (name_in l k) (count_in l k) (count_in l k) (omega arith), λ place from named. none_behind text (name_in l k) (count_in l k) place from (named_within l k text place named.0) named.0)

  pub walk_falls : (place : ℕ) (next : Option ℕ) → next ≡ last_named text (name_in l k) place → bound next ≤ place
  walk_falls place next is = rw is (low (last_named text (name_in l k) place) (last_is_place text (name_in l k) place place (omega arith))) where
    low : (o : Option ℕ) → IsPlace text (name_in l k) place o → bound o ≤ place
    low None h = omega arith
    low (Some p) h = omega (arith, h.0)

  pub walk_smaller : (place : ℕ) (next now : Option ℕ) → now ≡ Some place → next ≡ last_named text (name_in l k) place → bound next < bound now
  walk_smaller place next now at is = rw at (omega (arith, walk_falls place next is))

  pub walk_stops : (place : ℕ) (now : Option ℕ) (f g : Found) → now ≡ Some place → IsPlace text (name_in l k) (count_in l k) now →
      g ≡ cond (fits l k of place) (found_and f place) f → IsFoundFrom (NamesIn l k text of) (bound now) f → IsFoundFrom (NamesIn l k text of) place g
  walk_stops place now f g at stands counted so_far =
      let here : (place < count_in l k) × (is_named text (name_in l k place) ≡ true) = rw at at stands in
      let from : IsFoundFrom (NamesIn l k text of) (place + 1) f = rw at at so_far in
      found_count (NamesIn l k text of) place (fits l k of place) f g (λ e. (here.1, e)) (λ n. n.1) counted from

  pub walk_step : (place : ℕ) (next now : Option ℕ) (f g : Found) → now ≡ Some place → IsPlace text (name_in l k) (count_in l k) now → next ≡ last_named text (name_in l k) place →
      g ≡ cond (fits l k of place) (found_and f place) f → IsFoundFrom (NamesIn l k text of) (bound now) f →
      IsPlace text (name_in l k) (count_in l k) next × IsFoundFrom (NamesIn l k text of) (bound next) g
  walk_step place next now f g at stands is counted so_far =
      let here : (place < count_in l k) × (is_named text (name_in l k place) ≡ true) = rw at at stands in
      let counts = walk_stops place now f g at stands counted so_far in
      let falls = walk_falls place next is in (
        rw is (last_is_place text (name_in l k) place (count_in l k) (omega (arith, here.0))),
        found_lower (NamesIn l k text of) (bound next) place g falls (λ other low high named. none_behind text (name_in l k) place other (rw (← is) low) high named.0) counts,
      )
