-- What is known of homes stays true where cells change.
use Rattle.std.proofs.Common.{◌≡◌, Bool, true, false, if◌then◌else◌, List, [], ◌∷◌, Option, Some, None, ℤ, refl, sym, subst, ◌∙◌, arith}
use Rattle.std.proofs.lemmas.Int.{ints}
use Rattle.std.proofs.lemmas.Bool.{eq-eqb}
use Rattle.interval_domain.specs.Known.{Known, KnownBelow}
use Rattle.interval_domain.specs.Elements.{CellsBelow}
use Rattle.cob_graph.specs.declared.homes.Home.{Home}
use Rattle.cob_graph.specs.declared.homes.Home.TheVariants.{Item as of_item, Count as of_count}
use Rattle.cob_graph.specs.Homes.{is_home}
use Rattle.dom_laws.specs.Meaning.{Storage}
use Rattle.cob_data.specs.declared.layout.Layout.{Layout}
use Rattle.cell_steps.specs.Storages.{known_of, value_at, KnownStands, HomeStands}
use Rattle.cell_steps.specs.Cells.{with_known, forgotten}
use Rattle.cell_laws.proofs.CellLists.{home_is, known_below}

-- ---- homes

pub same_home : (h : Home) → is_home h h ≡ true
same_home (of_item a) = eq-eqb a a refl
same_home (of_count a) = eq-eqb a a refl

other_home : (g h : Home) → is_home g h ≡ false → ¬ g ≡ h
other_home g h e f = true_isnt (same_home h) (subst (λ (k : Home). is_home k h ≡ false) f e)
  where
    true_isnt : {b : Bool} → b ≡ true → b ≡ false → ⊥
    true_isnt f g = cc

-- ---- one cell is set

module _ (P : Known → Type 0) (none : P None) where
  -- what is known of g once h is known as c
  pub known_after : (hs : List Home) (cs : List Known) (h g : Home) (c : Known) → (g ≡ h → P c) → (¬ g ≡ h → P (known_of hs cs g)) → P (known_of hs (with_known h c hs cs) g)
  known_after [] cs h g c new old = none
  known_after (k ∷ hs) [] h g c new old = none
  known_after (k ∷ hs) (d ∷ cs) h g c new old = go (is_home k h) (is_home k g) refl refl old (λ o. known_after hs cs h g c new o)
    where
      go : (u v : Bool) → is_home k h ≡ u → is_home k g ≡ v → (¬ g ≡ h → P (if v then d else known_of hs cs g)) → ((¬ g ≡ h → P (known_of hs cs g)) → P (known_of hs (with_known h c hs cs) g))
          → P (known_of (k ∷ hs) (if u then c ∷ cs else d ∷ with_known h c hs cs) g)
      go true true e f o rest = subst (λ (w : Bool). P (if w then c else known_of hs cs g)) (sym f) (new (sym (home_is k g f) ∙ home_is k h e))
      go true false e f o rest = subst (λ (w : Bool). P (if w then c else known_of hs cs g)) (sym f) (o (λ same. other_home k g f (home_is k h e ∙ sym same)))
      go false true e f o rest = subst (λ (w : Bool). P (if w then d else known_of hs (with_known h c hs cs) g)) (sym f) (o (λ same. other_home k h e (home_is k g f ∙ same)))
      go false false e f o rest = subst (λ (w : Bool). P (if w then d else known_of hs (with_known h c hs cs) g)) (sym f) (rest o)

  -- what is known of g once some homes are forgotten
  pub known_left : (gone : Home → Bool) (hs : List Home) (cs : List Known) (g : Home) → (gone g ≡ false → P (known_of hs cs g)) → P (known_of hs (forgotten gone hs cs) g)
  known_left gone [] cs g old = none
  known_left gone (k ∷ hs) [] g old = none
  known_left gone (k ∷ hs) (d ∷ cs) g old = go (is_home k g) refl old (λ o. known_left gone hs cs g o)
    where
      lost : (u : Bool) → gone g ≡ u → (gone g ≡ false → P d) → P (if u then None else d)
      lost true e o = none
      lost false e o = o e

      go : (v : Bool) → is_home k g ≡ v → (gone g ≡ false → P (if v then d else known_of hs cs g)) → ((gone g ≡ false → P (known_of hs cs g)) → P (known_of hs (forgotten gone hs cs) g))
          → P (if v then (if gone k then None else d) else known_of hs (forgotten gone hs cs) g)
      go true e o rest = subst (λ (j : Home). P (if gone j then None else d)) (sym (home_is k g e)) (lost (gone g) refl o)
      go false e o rest = rest o

-- ---- less is known above

pub stands_above : (c d : Known) (v : Option ℤ) → KnownBelow c d → KnownStands c v → KnownStands d v
stands_above c None v h s = tt
stands_above None (Some j) v h s = absurd h
stands_above (Some i) (Some j) None h s = s
stands_above (Some i) (Some j) (Some v) (low, high) (a, b) = (omega (arith, ints, low, a), omega (arith, ints, high, b))

pub all_stand_above : (hs : List Home) (cs ds : List Known) (h : Home) (v : Option ℤ) → CellsBelow cs ds → KnownStands (known_of hs cs h) v → KnownStands (known_of hs ds h) v
all_stand_above hs cs ds h v below s = stands_above (known_of hs cs h) (known_of hs ds h) v (known_below hs cs ds h below) s

pub homes_stand_above : (l : Layout) (s : Storage) (hs : List Home) (cs ds : List Known) (h : Home) → CellsBelow cs ds → HomeStands l s (known_of hs cs h) h → HomeStands l s (known_of hs ds h) h
homes_stand_above l s hs cs ds h below stands n less = all_stand_above hs cs ds h (value_at l s h n) below (stands n less)
