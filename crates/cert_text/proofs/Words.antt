-- A line that is read is spelled so, and what is spelled so is read.
use Rattle.std.proofs.Common.{◌≡◌, ℕ, ◌≤◌, eqb, List, [], ◌∷◌, ◌++◌, length, Option, Some, None, ℤ, refl, ap, subst, ◌∙◌}
use Rattle.std.specs.List.{AllByRecursion}
use Rattle.std.proofs.lemmas.Bool.{eqb-true}
use Rattle.std.proofs.lemmas.Option.{same_Some}
use Rattle.cert_text.specs.declared.word.Word.{Word}
use Rattle.cert_text.specs.declared.word.Word.TheVariants as words
use Rattle.cert_text.specs.Text.{name, numbers_text, Entry, entry, entry_line}
use Rattle.cert_text.specs.Reading.{◌▷◌, without, or_other, word_among, all_words, word_at, numbers_at}
use Rattle.cert_text.specs.Draft.{Parts, step, line_read}
use Rattle.cert_text.proofs.Numbers.{guard_some, IsSmall, numbers_take, numbers_again}

-- the value of a step that went on
pub bind_some : {A B : Type 0} (r : Option A) (f : A → Option B) (y : B) → (r ▷ f) ≡ Some y → (x : A) × (r ≡ Some x) × (f x ≡ Some y)
bind_some (Some x) f y e = (x, refl, e)
bind_some None f y e = absurd cc

without_takes : (ws bs rest : List ℕ) → without ws bs ≡ Some rest → bs ≡ ws ++ rest
without_takes [] bs rest e = same_Some bs rest e
without_takes (w ∷ ws) [] rest e = absurd cc
without_takes (w ∷ ws) (b ∷ bs) rest e =
    let g = guard_some (eqb b w) (without ws bs) rest e in
    ap (λ (c : ℕ). c ∷ bs) (eqb-true b w g.0) ∙ ap (λ (t : List ℕ). w ∷ t) (without_takes ws bs rest g.1)

word_among_takes : (ws : List Word) (bs : List ℕ) (x : Word × List ℕ) → word_among ws bs ≡ Some x → bs ≡ name x.0 ++ x.1
word_among_takes [] bs x e = absurd cc
word_among_takes (w ∷ ws) bs x e = by_word (without (name w) bs) refl e (λ h. word_among_takes ws bs x h)
  where
    by_word : (r : Option (List ℕ)) → without (name w) bs ≡ r → or_other w r (word_among ws bs) ≡ Some x → (word_among ws bs ≡ Some x → bs ≡ name x.0 ++ x.1) → bs ≡ name x.0 ++ x.1
    by_word None is h other = other h
    by_word (Some rest) is h other = subst (λ (y : Word × List ℕ). bs ≡ name y.0 ++ y.1) (same_Some (w, rest) x h) (without_takes (name w) bs rest is)

word_again : (w : Word) (zs : List ℤ) → word_at (name w ++ numbers_text zs) ≡ Some (w, numbers_text zs)
unfolding all_words
word_again words.Title [] = refl
word_again words.Title (z ∷ zs) = refl
word_again words.Cells [] = refl
word_again words.Cells (z ∷ zs) = refl
word_again words.Nodes [] = refl
word_again words.Nodes (z ∷ zs) = refl
word_again words.Packs [] = refl
word_again words.Packs (z ∷ zs) = refl
word_again words.Pack [] = refl
word_again words.Pack (z ∷ zs) = refl
word_again words.Never [] = refl
word_again words.Never (z ∷ zs) = refl
word_again words.Node [] = refl
word_again words.Node (z ∷ zs) = refl
word_again words.Claim [] = refl
word_again words.Claim (z ∷ zs) = refl
word_again words.Bound [] = refl
word_again words.Bound (z ∷ zs) = refl
word_again words.End [] = refl
word_again words.End (z ∷ zs) = refl

-- a line that was read
pub record Took (d : Parts) (bytes : List ℕ) (e : Parts) : Type 0 where
  pub read : Entry
  pub spelled : bytes ≡ entry_line read
  pub small : AllByRecursion IsSmall read.numbers
  pub stepped : step d read.word read.numbers ≡ Some e

pub line_takes : (d : Parts) (bs : List ℕ) (e : Parts) → line_read d bs ≡ Some e → Took d bs e
unfolding line_read
line_takes d bs e h =
    let w = bind_some (word_at bs) (λ w. numbers_at 8 w.1 ▷ (λ zs. step d w.0 zs)) e h in
    let n = bind_some (numbers_at 8 w.0.1) (λ zs. step d w.0.0 zs) e w.2 in
    let t = numbers_take 8 w.0.1 n.0 n.1 in
    record {
      read = entry w.0.0 n.0;
      spelled = word_among_takes all_words bs w.0 w.1 ∙ ap (λ (t : List ℕ). name w.0.0 ++ t) t.0;
      small = t.1;
      stepped = n.2;
    }

pub line_again : (d : Parts) (w : Word) (zs : List ℤ) → length zs ≤ 8 → AllByRecursion IsSmall zs → line_read d (entry_line (entry w zs)) ≡ step d w zs
unfolding line_read
line_again d w zs long small = rw (word_again w zs, numbers_again 8 zs long small) refl
