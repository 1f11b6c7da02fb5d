-- Where what is printed opens one too many.
use Rattle.std.proofs.Common.{◌≡◌, ℕ, zero, ◌+◌, ◌≤◌, List, [], ◌∷◌, ◌++◌, length, length-append, refl, sym, ap, subst, ◌∙◌, append_assoc, arith}
use Rattle.reading.specs.Printing.{Alphabet, Below}
use Rattle.reading.specs.Law.{OpensAt}
use Rattle.reading.proofs.Texts.{below_join}

module _ {T I M : Type 0} (G : Alphabet T I M) where
  pub below_wider : (top wide : ℕ) (is : List I) → top ≤ wide → Below G top is → Below G wide is
  below_wider top wide [] le b = tt
  below_wider top wide (i ∷ is) le b = (omega (arith, b.0), below_wider top wide is le b.1)

  pub opens_first : (top : ℕ) (i : I) (is : List I) → G.depth i ≡ top → OpensAt G top (i ∷ is) zero
  opens_first top i is e = record { before = []; item = i; after = is; parts = refl; count = refl; below = tt; depth = e }

  pub opens_left : (top : ℕ) (is js : List I) (place : ℕ) → OpensAt G top is place → OpensAt G top (is ++ js) place
  opens_left top is js place o = record {
    before = o.before;
    item = o.item;
    after = o.after ++ js;
    parts = ap (λ (z : List I). z ++ js) o.parts ∙ append_assoc o.before (o.item ∷ o.after) js;
    count = o.count;
    below = o.below;
    depth = o.depth;
  }

  pub opens_right : (top : ℕ) (is js : List I) (place whole : ℕ) → Below G top is → whole ≡ length is + place → OpensAt G top js place → OpensAt G top (is ++ js) whole
  opens_right top is js place whole below e o = record {
    before = is ++ o.before;
    item = o.item;
    after = o.after;
    parts = ap (λ (z : List I). is ++ z) o.parts ∙ sym (append_assoc is o.before (o.item ∷ o.after));
    count = omega (arith, length-append is o.before, o.count, e);
    below = below_join G top is o.before below o.below;
    depth = o.depth;
  }

  -- what lies within opens nowhere
  pub never_below : (top : ℕ) (printed : List I) (place : ℕ) → OpensAt G top printed place → Below G top printed → ⊥
  never_below top printed place o below = go o.before (subst (Below G top) o.parts below)
    where
      go : (is : List I) → Below G top (is ++ o.item ∷ o.after) → ⊥
      go [] b = omega (arith, b.0, o.depth)
      go (i ∷ is) b = go is b.1

  -- nor behind the first place
  pub not_later : (top : ℕ) (printed before after : List I) (place : ℕ) → OpensAt G top printed place → printed ≡ before ++ after → Below G top before → length before ≤ place
  not_later top printed before after place o parts below = omega (arith, o.count, go before o.before below (sym parts ∙ o.parts))
    where
      go : (is js : List I) → Below G top is → is ++ after ≡ js ++ o.item ∷ o.after → length is ≤ length js
      go [] js b e = omega arith
      go (i ∷ is) [] b e =
          let head : i ≡ o.item = cc in
          absurd (omega (arith, b.0, ap G.depth head, o.depth))
      go (i ∷ is) (j ∷ js) b e =
          let tail : is ++ after ≡ js ++ o.item ∷ o.after = cc in
          omega (arith, go is js b.1 tail)

  pub one_place : (top : ℕ) (printed : List I) (place place' : ℕ) → OpensAt G top printed place → OpensAt G top printed place' → place ≡ place'
  one_place top printed place place' o o' =
      omega (arith, o.count, o'.count, not_later top printed o.before (o.item ∷ o.after) place' o' o.parts o.below, not_later top printed o'.before (o'.item ∷ o'.after) place o o'.parts o'.below)
