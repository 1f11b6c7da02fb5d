-- What is known of all cells, changed at a home, forgotten or joined: where less is known before, less is known behind.
use Rattle.std.proofs.Common.{◌≡◌, suc, ℕ, Bool, true, false, if◌then◌else◌, List, [], ◌∷◌, length, Some, None, refl, sym, ap, subst, arith}
use Rattle.std.specs.Prelude.{map}
use Rattle.std.proofs.lemmas.Bool.{eqb-true}
use Rattle.cob_data.specs.declared.layout.Layout.{Layout}
use Rattle.interval_domain.specs.declared.bounds.Interval.{Interval}
use Rattle.interval_domain.specs.Known.{Known, KnownFits, KnownBelow, joined_known}
use Rattle.interval_domain.specs.Elements.{Element, CellsFit, ElementFits, CellsBelow, ElementBelow, joined}
use Rattle.interval_domain.proofs.OneKnown.{known_reflexive, known_transitive, known_join_left, known_join_right, known_join_least}
use Rattle.interval_domain.proofs.AllCells.{element_reflexive, element_transitive, element_join_fits}
use Rattle.cob_graph.specs.declared.homes.Home.{Home}
use Rattle.cob_graph.specs.declared.homes.Home.TheVariants.{Item as of_item, Count as of_count}
use Rattle.cob_graph.specs.Homes.{is_home}
use Rattle.cell_steps.specs.OwnRanges.{home_range}
use Rattle.cell_steps.specs.Storages.{known_of}
use Rattle.cell_steps.specs.Cells.{known_or, with_known, forgotten}
use Rattle.cell_steps.specs.Stores.{stored_element}

-- ---- choices

pub chosen : {A : Type 0} (P : A → Type 0) (b : Bool) (c d : A) → (b ≡ true → P c) → (b ≡ false → P d) → P (if b then c else d)
chosen P true c d f g = f refl
chosen P false c d f g = g refl

pub both_chosen : {A B : Type 0} (P : A → B → Type 0) (b : Bool) (c d : A) (e f : B) → P c e → P d f → P (if b then c else d) (if b then e else f)
both_chosen P true c d e f h k = h
both_chosen P false c d e f h k = k

pub home_is : (g h : Home) → is_home g h ≡ true → g ≡ h
home_is (of_item a) (of_item b) e = ap of_item (eqb-true a b e)
home_is (of_item a) (of_count b) e = absurd cc
home_is (of_count a) (of_item b) e = absurd cc
home_is (of_count a) (of_count b) e = ap of_count (eqb-true a b e)

-- ---- orders of lists

pub cells_reflexive : (cs : List Known) → CellsBelow cs cs
cells_reflexive cs = element_reflexive (Some cs)

pub cells_transitive : (as_ bs cs : List Known) → CellsBelow as_ bs → CellsBelow bs cs → CellsBelow as_ cs
cells_transitive as_ bs cs h k = element_transitive (Some as_) (Some bs) (Some cs) h k

pub below_length : (as_ bs : List Known) → CellsBelow as_ bs → length as_ ≡ length bs
below_length [] [] h = refl
below_length [] (b ∷ bs) h = absurd h
below_length (a ∷ as_) [] h = absurd h
below_length (a ∷ as_) (b ∷ bs) (h, hs) = ap suc (below_length as_ bs hs)

-- ---- what is known of a home

module _ (l : Layout) where
  pub known_fits : (hs : List Home) (cs : List Known) (h : Home) → CellsFit (map (home_range l) hs) cs → KnownFits (home_range l h) (known_of hs cs h)
  known_fits [] cs h f = tt
  known_fits (g ∷ hs) [] h f = absurd f
  known_fits (g ∷ hs) (c ∷ cs) h (f, fs) =
      chosen (λ k. KnownFits (home_range l h) k) (is_home g h) c (known_of hs cs h)
      (λ e. subst (λ k. KnownFits (home_range l k) c) (home_is g h e) f) (λ e. known_fits hs cs h fs)

  pub with_known_fits : (hs : List Home) (cs : List Known) (h : Home) (c : Known) → CellsFit (map (home_range l) hs) cs → KnownFits (home_range l h) c → CellsFit (map (home_range l) hs) (with_known h c hs cs)
  with_known_fits [] cs h c f k = f
  with_known_fits (g ∷ hs) [] h c f k = absurd f
  with_known_fits (g ∷ hs) (d ∷ cs) h c (f, fs) k =
      chosen (λ ds. CellsFit (map (home_range l) (g ∷ hs)) ds) (is_home g h) (c ∷ cs) (d ∷ with_known h c hs cs)
      (λ e. (subst (λ j. KnownFits (home_range l j) c) (sym (home_is g h e)) k, fs)) (λ e. (f, with_known_fits hs cs h c fs k))

  pub forgotten_fits : (gone : Home → Bool) (hs : List Home) (cs : List Known) → CellsFit (map (home_range l) hs) cs → CellsFit (map (home_range l) hs) (forgotten gone hs cs)
  forgotten_fits gone [] cs f = f
  forgotten_fits gone (g ∷ hs) [] f = absurd f
  forgotten_fits gone (g ∷ hs) (d ∷ cs) (f, fs) =
      (chosen (λ k. KnownFits (home_range l g) k) (gone g) None d (λ e. tt) (λ e. f), forgotten_fits gone hs cs fs)

pub known_below : (hs : List Home) (as_ bs : List Known) (h : Home) → CellsBelow as_ bs → KnownBelow (known_of hs as_ h) (known_of hs bs h)
known_below [] as_ bs h f = tt
known_below (g ∷ hs) [] [] h f = tt
known_below (g ∷ hs) [] (b ∷ bs) h f = absurd f
known_below (g ∷ hs) (a ∷ as_) [] h f = absurd f
known_below (g ∷ hs) (a ∷ as_) (b ∷ bs) h (f, fs) =
    both_chosen (λ c d. KnownBelow c d) (is_home g h) a (known_of hs as_ h) b (known_of hs bs h) f (known_below hs as_ bs h fs)

-- ---- changes

pub with_known_below : (hs : List Home) (as_ bs : List Known) (h : Home) (c d : Known) → CellsBelow as_ bs → KnownBelow c d → CellsBelow (with_known h c hs as_) (with_known h d hs bs)
with_known_below [] as_ bs h c d f k = f
with_known_below (g ∷ hs) [] [] h c d f k = tt
with_known_below (g ∷ hs) [] (b ∷ bs) h c d f k = absurd f
with_known_below (g ∷ hs) (a ∷ as_) [] h c d f k = absurd f
with_known_below (g ∷ hs) (a ∷ as_) (b ∷ bs) h c d (f, fs) k =
    both_chosen (λ xs ys. CellsBelow xs ys) (is_home g h) (c ∷ as_) (a ∷ with_known h c hs as_) (d ∷ bs) (b ∷ with_known h d hs bs)
    (k, fs) (f, with_known_below hs as_ bs h c d fs k)

pub forgotten_below : (gone : Home → Bool) (hs : List Home) (as_ bs : List Known) → CellsBelow as_ bs → CellsBelow (forgotten gone hs as_) (forgotten gone hs bs)
forgotten_below gone [] as_ bs f = f
forgotten_below gone (g ∷ hs) [] [] f = tt
forgotten_below gone (g ∷ hs) [] (b ∷ bs) f = absurd f
forgotten_below gone (g ∷ hs) (a ∷ as_) [] f = absurd f
forgotten_below gone (g ∷ hs) (a ∷ as_) (b ∷ bs) (f, fs) =
    (both_chosen (λ c d. KnownBelow c d) (gone g) None a None b tt f, forgotten_below gone hs as_ bs fs)

pub with_known_length : (hs : List Home) (cs : List Known) (h : Home) (c : Known) → length (with_known h c hs cs) ≡ length cs
with_known_length [] cs h c = refl
with_known_length (g ∷ hs) [] h c = refl
with_known_length (g ∷ hs) (d ∷ cs) h c =
    chosen (λ (ds : List Known). length ds ≡ suc (length cs)) (is_home g h) (c ∷ cs) (d ∷ with_known h c hs cs) (λ e. refl) (λ e. ap suc (with_known_length hs cs h c))

pub forgotten_length : (gone : Home → Bool) (hs : List Home) (cs : List Known) → length (forgotten gone hs cs) ≡ length cs
forgotten_length gone [] cs = refl
forgotten_length gone (g ∷ hs) [] = refl
forgotten_length gone (g ∷ hs) (d ∷ cs) = ap suc (forgotten_length gone hs cs)

-- what is unknown becomes known of its own range: no more is known to be possible
pub read_is_below : (own : Interval) (c : Known) → KnownBelow (Some (known_or own c)) c
read_is_below own None = tt
read_is_below own (Some i) = known_reflexive (Some i)

pub read_below : (own : Interval) (hs : List Home) (cs : List Known) (h : Home) → CellsBelow (with_known h (Some (known_or own (known_of hs cs h))) hs cs) cs
read_below own [] cs h = cells_reflexive cs
read_below own (g ∷ hs) [] h = tt
read_below own (g ∷ hs) (c ∷ cs) h = go (is_home g h) (known_of hs cs h) (read_below own hs cs h)
  where
    go : (b : Bool) (k : Known) → CellsBelow (with_known h (Some (known_or own k)) hs cs) cs
        → CellsBelow (if b then Some (known_or own (if b then c else k)) ∷ cs else c ∷ with_known h (Some (known_or own (if b then c else k))) hs cs) (c ∷ cs)
    go true k r = (read_is_below own c, cells_reflexive cs)
    go false k r = (known_reflexive c, r)

-- ---- joins

pub known_joined_below : (a b c d : Known) → KnownBelow a c → KnownBelow b d → KnownBelow (joined_known a b) (joined_known c d)
known_joined_below a b c d h k =
    known_join_least a b (joined_known c d) (known_transitive a c (joined_known c d) h (known_join_left c d)) (known_transitive b d (joined_known c d) k (known_join_right c d))

pub joined_below : (as_ bs cs ds : List Known) → CellsBelow as_ cs → CellsBelow bs ds → CellsBelow (joined as_ bs) (joined cs ds)
joined_below [] bs [] ds h k = tt
joined_below [] bs (c ∷ cs) ds h k = absurd h
joined_below (a ∷ as_) bs [] ds h k = absurd h
joined_below (a ∷ as_) [] (c ∷ cs) [] h k = tt
joined_below (a ∷ as_) [] (c ∷ cs) (d ∷ ds) h k = absurd k
joined_below (a ∷ as_) (b ∷ bs) (c ∷ cs) [] h k = absurd k
joined_below (a ∷ as_) (b ∷ bs) (c ∷ cs) (d ∷ ds) (h, hs) (k, ks) = (known_joined_below a b c d h k, joined_below as_ bs cs ds hs ks)

pub joined_left : (cs ds : List Known) → length cs ≡ length ds → CellsBelow cs (joined cs ds)
joined_left [] [] e = tt
joined_left [] (d ∷ ds) e = absurd (omega (arith, e))
joined_left (c ∷ cs) [] e = absurd (omega (arith, e))
joined_left (c ∷ cs) (d ∷ ds) e = (known_join_left c d, joined_left cs ds (omega (arith, e)))

pub joined_right : (cs ds : List Known) → length cs ≡ length ds → CellsBelow ds (joined cs ds)
joined_right [] [] e = tt
joined_right [] (d ∷ ds) e = absurd (omega (arith, e))
joined_right (c ∷ cs) [] e = absurd (omega (arith, e))
joined_right (c ∷ cs) (d ∷ ds) e = (known_join_right c d, joined_right cs ds (omega (arith, e)))

-- ---- a store

-- as many cells, where there are some
abbrev pub HasLength : ℕ → Element → Type 0
HasLength n None = Unit {0}
HasLength n (Some cs) = n ≡ length cs

pub stored_below : (f g : Bool) (as_ bs : List Known) (o p : Element) → (f ≡ true → g ≡ true) → CellsBelow as_ bs → ElementBelow o p → HasLength (length bs) p → ElementBelow (stored_element f as_ o) (stored_element g bs p)
stored_below false false as_ bs o p fg h k n = k
stored_below false true as_ bs None p fg h k n = tt
stored_below false true as_ bs (Some cs) None fg h k n = absurd k
stored_below false true as_ bs (Some cs) (Some ds) fg h k n = cells_transitive cs ds (joined bs ds) k (joined_right bs ds n)
stored_below true false as_ bs o p fg h k n = absurd (grind (arith, fg refl))
stored_below true true as_ bs None None fg h k n = h
stored_below true true as_ bs None (Some ds) fg h k n = cells_transitive as_ bs (joined bs ds) h (joined_left bs ds n)
stored_below true true as_ bs (Some cs) None fg h k n = absurd k
stored_below true true as_ bs (Some cs) (Some ds) fg h k n = joined_below as_ cs bs ds h k

pub stored_fits : (owns : List Interval) (f : Bool) (cs : List Known) (o : Element) → CellsFit owns cs → ElementFits owns o → ElementFits owns (stored_element f cs o)
stored_fits owns false cs o h k = k
stored_fits owns true cs o h k = element_join_fits owns (Some cs) o h k
