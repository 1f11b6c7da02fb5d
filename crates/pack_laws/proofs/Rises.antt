-- Stores keep the order of matrices.
use Rattle.std.proofs.Common.{◌≡◌, ◌≢◌, ℕ, ◌+◌, ◌≤◌, Bool, true, false, List, ℤ, pos, neg_ℤ, ◌≤ℤ◌, Option, Some, None, ◌⊎◌, inl, inr, refl, sym, subst, ◌∙◌, arith}
use Rattle.std.specs.Prelude.{if◌then◌else◌, ◌&&◌, ◌||◌}
use Rattle.std.proofs.lemmas.Int.{ints}
use Rattle.std.proofs.lemmas.Bool.{cases_eq, false≢true}
use Rattle.dec_num.specs.declared.types.Mode.{Mode}
use Rattle.dec_num.specs.declared.types.Mode.TheVariants.{Trunc, Round}
use Rattle.cob_program.specs.Values.{◌>>=◌}
use Rattle.diff_bounds.specs.declared.form.lin.Lin.{Lin}
use Rattle.diff_bounds.specs.Forms.{is_small}
use Rattle.diff_bounds.specs.Results.{IsNarrower}
use Rattle.diff_bounds.specs.Matrix.{word, none, IsWord}
use Rattle.diff_bounds.specs.Numbers.{word_of}
use Rattle.diff_bounds.specs.Upper.{upper, coef_at}
use Rattle.diff_bounds.specs.Values.{AreLower}
use Rattle.diff_bounds.proofs.Bounded.{upper_is_word}
use Rattle.diff_bounds.specs.Assigned.{less_place, negated}
use Rattle.diff_bounds.proofs.Assigned.{assigned_lower}
use Rattle.diff_bounds.specs.declared.form.known.Known as sure
use Rattle.diff_bounds.specs.Errors.{one_sided, error_in, IsSurer}
use Rattle.diff_bounds.proofs.Surer.{surer_inside}
use Rattle.sum_forms.specs.Constants.{constant_form}
use Rattle.sum_forms.specs.SumForms.{turned_form}
use Rattle.sum_forms.specs.Values.{IsNarrowerIfAny}
use Rattle.sum_forms.proofs.Narrower.{turns_narrower, sum_there}
use Rattle.diff_steps.specs.Matrices.{forgotten, assigned, lesser}
use Rattle.diff_steps.specs.Stores.{widened_form, assigned_or_forgotten, absolute_stored, form_stored}
use Rattle.pack_laws.specs.Orders.{AreLowerOff}
use Rattle.pack_laws.proofs.Words.{lesser_word, min_left, min_right, min_both}
use Rattle.pack_laws.proofs.Kept.{are_forgotten, are_assigned}

-- no bound is greater than none
top_of : (o : Option ℤ) → IsWord (word_of o) → word_of o ≤ℤ none
top_of o is = is.top

guarded_top : (b : Bool) (o : Option ℤ) → IsWord (word_of o) → word_of (if b then o else None) ≤ℤ none
guarded_top true o is = is.top
guarded_top false o is = omega (arith, ints)

module _ (size to : ℕ) (last : to ≤ size) where
  -- what a change of the place's words makes of a matrix
  pub record IsImage (a x : List ℤ) : Type 0 where
    pub row : (j : ℕ) → j ≤ size → j ≢ to → word (size + 1) x to j ≤ℤ none
    pub column : (i : ℕ) → i ≤ size → i ≢ to → word (size + 1) x i to ≤ℤ none
    pub others : (i j : ℕ) → i ≤ size → j ≤ size → i ≢ to → j ≢ to → word (size + 1) x i j ≤ℤ word (size + 1) a i j

  same_top : (x y : ℤ) → x ≡ y → y ≤ℤ none → x ≤ℤ none
  same_top x y e h = omega (arith, ints, e, h)

  same_below : (x y : ℤ) → x ≡ y → x ≤ℤ y
  same_below x y e = omega (arith, ints, e)

  pub forgotten_image : (a : List ℤ) → IsImage a (forgotten size to a)
  forgotten_image a =
      let are = are_forgotten size to a last in
      record {
        row = λ j h ne. same_below _ _ (are.row j h ne);
        column = λ i h ne. same_below _ _ (are.column i h ne);
        others = λ i j h g off apart. same_below _ _ (are.others i j h g off apart);
      }

  assigned_image : (f : Lin) (a : List ℤ) → IsImage a (assigned size to f a)
  assigned_image f a =
      let are = are_assigned size to f a last in
      let w = word (size + 1) a in
      record {
        row = λ j h ne. same_top _ _ (are.row j h ne) (guarded_top (is_small (less_place j (coef_at f.coefs) j)) (upper (word (size + 1) a) (less_place j (coef_at f.coefs)) f.constant.high size) (upper_is_word (word (size + 1) a) (less_place j (coef_at f.coefs)) f.constant.high size));
        column = λ i h ne. same_top _ _ (are.column i h ne) (guarded_top (is_small (less_place i (coef_at f.coefs) i)) (upper (word (size + 1) a) (negated (less_place i (coef_at f.coefs))) (neg_ℤ f.constant.low) size) (upper_is_word (word (size + 1) a) (negated (less_place i (coef_at f.coefs))) (neg_ℤ f.constant.low) size));
        others = λ i j h g off apart. same_below _ _ (are.others i j h g off apart);
      }

  pub put_image : (o : Option Lin) (a : List ℤ) → IsImage a (assigned_or_forgotten size to o a)
  put_image None a = forgotten_image a
  put_image (Some f) a = assigned_image f a

  lesser_image : (a x y : List ℤ) → IsImage a x → IsImage a (lesser size x y)
  lesser_image a x y is = record {
    row = λ j h ne. min_left _ _ _ none (lesser_word size x y to j last h) (is.row j h ne);
    column = λ i h ne. min_left _ _ _ none (lesser_word size x y i to h last) (is.column i h ne);
    others = λ i j h g off apart. min_left _ _ _ (word (size + 1) a i j) (lesser_word size x y i j h g) (is.others i j h g off apart);
  }

  absolute_image : (o : Option Lin) (n p : Bool) (a : List ℤ) → IsImage a (absolute_stored size to o n p a)
  absolute_image o true true a = lesser_image a (assigned_or_forgotten size to o a) (assigned_or_forgotten size to (o >>= turned_form true) a) (put_image o a)
  absolute_image o true false a = put_image o a
  absolute_image o false true a = put_image (o >>= turned_form true) a
  absolute_image o false false a = forgotten_image a

  pub form_image : (f : Lin) (signed : Bool) (mode : Mode) (u : ℕ) (k : sure.Known) (a : List ℤ) → IsImage a (form_stored size to signed mode u k f a)
  form_image f true mode u k a = put_image (widened_form f (error_in k mode (pos u))) a
  form_image f false mode u k a = absolute_image (widened_form f (error_in k mode (pos u))) k.not_negative k.not_positive a

  module _ (a b : List ℤ) (lower : AreLower (size + 1) (word (size + 1) a) (word (size + 1) b)) where
    -- whatever a change makes of a lower matrix is at most what forgetting leaves
    pub image_below : (x : List ℤ) → IsImage a x → AreLowerOff size x (forgotten size to b)
    image_below x is = record { words = λ i j h g ne. each i j h g ne (cases_eq i to) (cases_eq j to) }
      where
        top_below : (x y : ℤ) → y ≡ none → x ≤ℤ none → x ≤ℤ y
        top_below x y e h = omega (arith, ints, e, h)

        through : (x p q y : ℤ) → x ≤ℤ p → p ≤ℤ q → y ≡ q → x ≤ℤ y
        through x p q y h k e = omega (arith, ints, h, k, e)

        each : (i j : ℕ) → i ≤ size → j ≤ size → i ≢ j → (i ≡ to) ⊎ (i ≡ to → ⊥) → (j ≡ to) ⊎ (j ≡ to → ⊥) → word (size + 1) x i j ≤ℤ word (size + 1) (forgotten size to b) i j
        each i j h g ne (inl e) (inl f) = absurd (ne (e ∙ sym f))
        each i j h g ne (inl e) (inr apart) =
            subst (λ (p : ℕ). word (size + 1) x p j ≤ℤ word (size + 1) (forgotten size to b) p j) (sym e) (top_below (word (size + 1) x to j) (word (size + 1) (forgotten size to b) to j) ((are_forgotten size to b last).row j g apart) (is.row j g apart))
        each i j h g ne (inr off) (inl f) =
            subst (λ (p : ℕ). word (size + 1) x i p ≤ℤ word (size + 1) (forgotten size to b) i p) (sym f) (top_below (word (size + 1) x i to) (word (size + 1) (forgotten size to b) i to) ((are_forgotten size to b last).column i h off) (is.column i h off))
        each i j h g ne (inr off) (inr apart) =
            through (word (size + 1) x i j) (word (size + 1) a i j) (word (size + 1) b i j) (word (size + 1) (forgotten size to b) i j) (is.others i j h g off apart) (lower.words i j (omega arith) (omega arith)) ((are_forgotten size to b last).others i j h g off apart)

    pub put_lower : (o p : Option Lin) → IsNarrowerIfAny o p → AreLowerOff size (assigned_or_forgotten size to o a) (assigned_or_forgotten size to p b)
    put_lower o None h = image_below (assigned_or_forgotten size to o a) (put_image o a)
    put_lower None (Some g) h = absurd h
    put_lower (Some f) (Some g) h = record {
      words = assigned_lower size (word (size + 1) a) (word (size + 1) b) (word (size + 1) (assigned size to f a)) (word (size + 1) (assigned size to g b)) to f g last lower h.coefs h.low h.high (are_assigned size to f a last) (are_assigned size to g b last);
    }

    lesser_left : (x y z : List ℤ) → AreLowerOff size x z → AreLowerOff size (lesser size x y) z
    lesser_left x y z is = record { words = λ i j h g ne. min_left _ _ _ (word (size + 1) z i j) (lesser_word size x y i j h g) (is.words i j h g ne) }

    lesser_right : (x y z : List ℤ) → AreLowerOff size y z → AreLowerOff size (lesser size x y) z
    lesser_right x y z is = record { words = λ i j h g ne. min_right _ _ _ (word (size + 1) z i j) (lesser_word size x y i j h g) (is.words i j h g ne) }

    lesser_both : (x y z t : List ℤ) → AreLowerOff size x z → AreLowerOff size y t → AreLowerOff size (lesser size x y) (lesser size z t)
    lesser_both x y z t is are = record { words = λ i j h g ne. min_both _ _ _ _ _ _ (lesser_word size x y i j h g) (lesser_word size z t i j h g) (is.words i j h g ne) (are.words i j h g ne) }

    absolute_lower : (o p : Option Lin) (n q m r : Bool) → IsNarrowerIfAny o p → (m ≡ true → n ≡ true) → (r ≡ true → q ≡ true) → AreLowerOff size (absolute_stored size to o n q a) (absolute_stored size to p m r b)
    absolute_lower o p n q false false h k l = image_below (absolute_stored size to o n q a) (absolute_image o n q a)
    absolute_lower o p true true true true h k l =
        lesser_both (assigned_or_forgotten size to o a) (assigned_or_forgotten size to (o >>= turned_form true) a) (assigned_or_forgotten size to p b) (assigned_or_forgotten size to (p >>= turned_form true) b)
        (put_lower o p h) (put_lower (o >>= turned_form true) (p >>= turned_form true) (turns_narrower true o p h))
    absolute_lower o p true true true false h k l =
        lesser_left (assigned_or_forgotten size to o a) (assigned_or_forgotten size to (o >>= turned_form true) a) (assigned_or_forgotten size to p b) (put_lower o p h)
    absolute_lower o p true false true false h k l = put_lower o p h
    absolute_lower o p true true false true h k l =
        lesser_right (assigned_or_forgotten size to o a) (assigned_or_forgotten size to (o >>= turned_form true) a) (assigned_or_forgotten size to (p >>= turned_form true) b) (put_lower (o >>= turned_form true) (p >>= turned_form true) (turns_narrower true o p h))
    absolute_lower o p false true false true h k l = put_lower (o >>= turned_form true) (p >>= turned_form true) (turns_narrower true o p h)
    absolute_lower o p true false true true h k l = absurd (false≢true (l refl))
    absolute_lower o p false true true true h k l = absurd (false≢true (k refl))
    absolute_lower o p false false true true h k l = absurd (false≢true (k refl))
    absolute_lower o p false true true false h k l = absurd (false≢true (k refl))
    absolute_lower o p false false true false h k l = absurd (false≢true (k refl))
    absolute_lower o p true false false true h k l = absurd (false≢true (l refl))
    absolute_lower o p false false false true h k l = absurd (false≢true (l refl))

    -- ---- errors

    error_ordered : (k : sure.Known) (mode : Mode) (u : ℕ) → (error_in k mode (pos u)).low ≤ℤ (error_in k mode (pos u)).high
    error_ordered k mode u = by_bool (k.whole || (k.not_negative && k.not_positive))
      where
        sided : (mode : Mode) (n p : Bool) → (one_sided mode n p (pos u)).low ≤ℤ (one_sided mode n p (pos u)).high
        sided Trunc true p = omega (arith, ints)
        sided Trunc false true = omega (arith, ints)
        sided Trunc false false = omega (arith, ints)
        sided Round n p = omega (arith, ints)

        by_bool : (c : Bool) → (if c then record { low = pos 0; high = pos 0 } else one_sided mode k.not_negative k.not_positive (pos u)).low ≤ℤ (if c then record { low = pos 0; high = pos 0 } else one_sided mode k.not_negative k.not_positive (pos u)).high
        by_bool true = omega (arith, ints)
        by_bool false = sided mode k.not_negative k.not_positive

    pub store_lower : (f g : Lin) (signed : Bool) (mode : Mode) (u : ℕ) (k l : sure.Known) → IsNarrower f g → IsSurer k l → AreLowerOff size (form_stored size to signed mode u k f a) (form_stored size to signed mode u l g b)
    store_lower f g signed mode u k l narrower surer = by_sign signed
      where
        widened : IsNarrowerIfAny (widened_form f (error_in k mode (pos u))) (widened_form g (error_in l mode (pos u)))
        widened =
            let inside = surer_inside mode k l u surer in
            sum_there f (constant_form (error_in k mode (pos u))) g (constant_form (error_in l mode (pos u))) narrower
            (record { coefs = refl; low = inside.low; ordered = error_ordered k mode u; high = inside.high })

        by_sign : (s : Bool) → AreLowerOff size (form_stored size to s mode u k f a) (form_stored size to s mode u l g b)
        by_sign true = put_lower (widened_form f (error_in k mode (pos u))) (widened_form g (error_in l mode (pos u))) widened
        by_sign false = absolute_lower (widened_form f (error_in k mode (pos u))) (widened_form g (error_in l mode (pos u))) k.not_negative k.not_positive l.not_negative l.not_positive widened surer.not_negative surer.not_positive
