-- Words: which of them are plain, which write a number, and how they show in the code.
use Rattle.std.specs.Prelude.{◌≡◌, ℕ, ◌≤◌, List, [], ◌∷◌, map, length, String, string_bytes}
use Rattle.std.specs.declared.alloc.Global.{Global}
use Rattle.std.specs.Borrow.{Bor}
use Rattle.std.specs.List.{AllByRecursion}
use Rattle.std.specs.Str.Parse.{IsNumeral, digits_value}

-- A word that isn't the name of an option: it is a lone hyphen, or begins otherwise.
abbrev pub IsPlain : List ℕ → Type 0
IsPlain [] = Unit {0}
IsPlain (byte ∷ word) = (byte ≡ 45) → (word ≡ [])

abbrev pub ArePlain : List (List ℕ) → Type 0
ArePlain words = AllByRecursion IsPlain words

-- 1 to 18 digits of this value, without a sign
pub record IsNumber (word : List ℕ) (value : ℕ) : Type 0 where
  pub digits : IsNumeral 10 word
  pub short : length word ≤ 18
  pub value_is : digits_value 10 word ≡ value

-- ---- the code's words

abbrev pub texts : List (String Global) → List (List ℕ)
texts words = map string_bytes words

abbrev pub lent_texts : List (Bor (List ℕ)) → List (List ℕ)
lent_texts words = map (λ word. word.now) words
