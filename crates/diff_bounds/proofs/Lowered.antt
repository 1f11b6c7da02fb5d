-- Words lowered by a demand, place after place.
use Rattle.std.proofs.Common.{◌≡◌, ℕ, zero, suc, ◌+◌, ◌*◌, ◌/◌, ◌%◌, ◌^◌, ◌<◌, ◌≤◌, List, length, get_or, set, ℤ, pos, negsuc, neg_ℤ, ◌*ℤ◌, ◌≤ℤ◌, ◌<ℤ◌, Option, Some, None, inl, inr, refl, sym, ap, subst, ◌∙◌, arith}
use Rattle.std.specs.Prelude.{unsigned_abs}
use Rattle.std.specs.Int.{int_min, int_div_euclid}
use Rattle.std.proofs.lemmas.Int.{ints, clamps}
use Rattle.std.proofs.lemmas.Bool.{cases_eq}
use Rattle.std.proofs.lemmas.Nat.{div-mul-add, mod-mul-add}
use Rattle.std.proofs.Math.Nat.{div-le_self}
use Rattle.std.proofs.lemmas.List.{get_or-set_other}
use Rattle.std.proofs.lemmas.Grind.{get_or-set_at}
use Rattle.diff_bounds.specs.declared.form.lin.Lin.{Lin}
use Rattle.diff_bounds.specs.Matrix.{word, none, largest, IsWord, IsMatrix}
use Rattle.diff_bounds.proofs.Places.{place_fits}
use Rattle.diff_bounds.proofs.Ends.{words_of}
use Rattle.diff_bounds.specs.Numbers.{number_of, word_of}
use Rattle.diff_bounds.specs.Upper.{upper, without, coef_at}
use Rattle.diff_bounds.proofs.Numbers.{parts_of_product, number_at, number_beyond}
use Rattle.diff_bounds.proofs.Bounded.{IsNumber, upper_is, upper_is_word, min_word}
use Rattle.diff_bounds.specs.Assigned.{negated}
use Rattle.diff_bounds.specs.Demanded.{divided, if_positive, if_opposite, factor, demanded_by, demanded, lowered, AreDemanded}
use borrow.Author.Differences.{up, down}
use Rattle.diff_bounds.proofs.Demanded.{not_positive, floor_greatest, floor_monotone, positive_factor, positive_factor_is}
use Rattle.diff_bounds.proofs.Matrices.{by_places}

-- ---- one word
none_is_word : IsWord none
none_is_word = record { low = omega (arith, ints); high = λ b. absurd (omega (arith, ints)); top = omega (arith, ints) }

-- a number above none isn't there
number_of_word : (o : Option ℤ) → IsNumber o → number_of (word_of o) ≡ o
number_of_word (Some x) h = number_at x h
number_of_word None h = number_beyond none (omega (arith, ints))

floor_low : (u : ℤ) (d : ℕ) → 0 < d → neg_ℤ largest ≤ℤ u → neg_ℤ largest ≤ℤ int_div_euclid u (pos d)
floor_low u d h k = floor_greatest (neg_ℤ largest) u d h (let parts = parts_of_product d (neg_ℤ largest) in less (d) h parts)
  where
    less : (d : ℕ) → 0 < d → up (pos d *ℤ neg_ℤ largest) + d * down (neg_ℤ largest) ≡ down (pos d *ℤ neg_ℤ largest) + d * up (neg_ℤ largest) → (pos d *ℤ neg_ℤ largest) ≤ℤ u
    less zero h parts = absurd (omega arith)
    less (suc e) h parts = omega (arith, ints, parts, k)

floor_high : (u : ℤ) (d : ℕ) → 0 < d → u ≤ℤ largest → int_div_euclid u (pos d) ≤ℤ largest
floor_high u d h k = let less = floor_monotone u largest d h k in let small = div-le_self (10 ^ 37) d in omega (arith, ints, less, small)

divided_word : (o : Option ℤ) (d : ℕ) → 0 < d → IsNumber o → IsWord (word_of o) → IsWord (word_of (divided o d))
divided_word (Some u) d h b is =
    let low = floor_low u d h is.low in
    let high = floor_high u d h (is.high b) in
    record { low = low; high = λ z. high; top = omega (arith, ints, high) }
divided_word None d h b is = none_is_word

demanded_word : (w : ℕ → ℕ → ℤ) (c : ℕ → ℤ) (low : ℤ) (size i j : ℕ) (o : Option ℕ) → factor c i j ≡ o → IsWord (word_of (demanded_by w c low size i j o))
demanded_word w c low size i j None e = none_is_word
demanded_word w c low size i j (Some d) e =
    divided_word (upper w (negated (without i j c)) (neg_ℤ low) size) d (positive_factor c i j d e) (upper_is w (negated (without i j c)) (neg_ℤ low) size) (upper_is_word w (negated (without i j c)) (neg_ℤ low) size)

-- the code's factor and its bound
pub demanded_none : (w : ℕ → ℕ → ℤ) (c : ℕ → ℤ) (low : ℤ) (size i j : ℕ) (f : ℤ) → if_positive f ≡ factor c i j → f <ℤ pos 1 → none ≡ word_of (demanded w c low size i j)
demanded_none w c low size i j f e h = ap (λ (o : Option ℕ). word_of (demanded_by w c low size i j o)) (sym (not_positive f (omega (arith, ints))) ∙ e)

pub demanded_some : (w : ℕ → ℕ → ℤ) (c : ℕ → ℤ) (low : ℤ) (size i j : ℕ) (f g bound : ℤ) → g ≡ f → if_positive f ≡ factor c i j → pos 1 ≤ℤ f → bound ≡ word_of (upper w (negated (without i j c)) (neg_ℤ low) size) → word_of (divided (number_of bound) (unsigned_abs g)) ≡ word_of (demanded w c low size i j)
demanded_some w c low size i j f g bound same e h is =
    ap (λ (z : ℤ). word_of (divided (number_of bound) (unsigned_abs z))) same ∙ ap (λ (z : ℤ). word_of (divided (number_of z) (unsigned_abs f))) is
    ∙ ap (λ (o : Option ℤ). word_of (divided o (unsigned_abs f))) (number_of_word (upper w (negated (without i j c)) (neg_ℤ low) size) (upper_is w (negated (without i j c)) (neg_ℤ low) size))
    ∙ ap (λ (o : Option ℕ). word_of (demanded_by w c low size i j o)) (sym (positive_factor_is f h) ∙ e)

-- ---- all words
pub record AreLowered (size : ℕ) (old : List ℤ) (form : Lin) (count : ℕ) (m : List ℤ) : Type 0 where
  pub done : (k : ℕ) → k < count → get_or m k (pos 0) ≡ lowered (word (size + 1) old) (coef_at form.coefs) form.constant.low size (k / (size + 1)) (k % (size + 1))
  pub left : (k : ℕ) → count ≤ k → get_or m k (pos 0) ≡ get_or old k (pos 0)

pub lowered_more : (size : ℕ) (old : List ℤ) (form : Lin) (count : ℕ) (m : List ℤ) (x : ℤ) → count < length m → x ≡ lowered (word (size + 1) old) (coef_at form.coefs) form.constant.low size (count / (size + 1)) (count % (size + 1)) → AreLowered size old form count m → AreLowered size old form (count + 1) (set m count x)
lowered_more size old form count m x h e are = record {
  done = λ k lt. elim (cases_eq k count) as (λ _. get_or (set m count x) k (pos 0) ≡ lowered (word (size + 1) old) (coef_at form.coefs) form.constant.low size (k / (size + 1)) (k % (size + 1))) [
    | inl same ↦ get_or-set_at m count k x (pos 0) same h ∙ e ∙ ap (λ (i : ℕ). lowered (word (size + 1) old) (coef_at form.coefs) form.constant.low size (i / (size + 1)) (i % (size + 1))) (sym same)
    | inr ne ↦ get_or-set_other m count k x (pos 0) ne ∙ are.done k (omega arith)
  ];
  left = λ k le. get_or-set_other m count k x (pos 0) (λ e. omega arith) ∙ are.left k (omega arith);
}

pub words_demanded : (size : ℕ) (old new : List ℤ) (form : Lin) → length old ≡ (size + 1) * (size + 1) → ((k : ℕ) → k < length old → get_or new k (pos 0) ≡ lowered (word (size + 1) old) (coef_at form.coefs) form.constant.low size (k / (size + 1)) (k % (size + 1))) → AreDemanded size (word (size + 1) old) form (word (size + 1) new)
words_demanded size old new form width each = record { words = λ i j h g. at i j (omega arith) (omega arith) }
  where
    at : (i j : ℕ) → i < size + 1 → j < size + 1 → word (size + 1) new i j ≡ lowered (word (size + 1) old) (coef_at form.coefs) form.constant.low size i j
    at i j h g =
        each (i * (size + 1) + j) (omega (arith, width, place_fits (size + 1) i j h g))
        ∙ ap (λ (x : ℕ). lowered (word (size + 1) old) (coef_at form.coefs) form.constant.low size x ((i * (size + 1) + j) % (size + 1))) (div-mul-add i (size + 1) j g)
        ∙ ap (λ (x : ℕ). lowered (word (size + 1) old) (coef_at form.coefs) form.constant.low size i x) (mod-mul-add i (size + 1) j g)

-- no form has a value less itself
opposite_self : (x : ℤ) → if_opposite x x ≡ None
opposite_self (pos zero) = refl
opposite_self (pos (suc k)) = refl
opposite_self (negsuc k) = refl

self_factor : (c : ℕ → ℤ) (i : ℕ) → factor c i i ≡ None
self_factor c zero = refl
self_factor c (suc i) = opposite_self (c (suc i))

pub demanded_is_matrix : (size : ℕ) (old new : List ℤ) (form : Lin) → IsMatrix size old → length new ≡ (size + 1) * (size + 1) → AreDemanded size (word (size + 1) old) form (word (size + 1) new) → IsMatrix size new
demanded_is_matrix size old new form is width are = record {
  width = width;
  words = by_places size new width (λ i j h g.
      subst (λ (x : ℤ). IsWord x) (sym (are.words i j (omega arith) (omega arith)))
      (min_word (w i j) (word_of (demanded w c form.constant.low size i j)) ((words_of size old is).words i j h g) (demanded_word w c form.constant.low size i j (factor c i j) refl)));
  diagonal = λ i h.
      let same : demanded w c form.constant.low size i i ≡ None = ap (demanded_by w c form.constant.low size i i) (self_factor c i) in
      are.words i i (omega arith) (omega arith) ∙ ap (λ (o : Option ℤ). int_min (w i i) (word_of o)) same ∙ (let z = is.diagonal i h in omega (arith, ints, clamps, z));
}
  where
    w : ℕ → ℕ → ℤ
    w = word (size + 1) old

    c : ℕ → ℤ
    c = coef_at form.coefs
