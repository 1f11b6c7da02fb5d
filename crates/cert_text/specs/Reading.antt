-- Reading from left to right.
use Rattle.std.specs.Prelude.{◌≡◌, ℕ, zero, suc, ◌+◌, ◌-◌, ◌*◌, ◌^◌, Bool, ◌&&◌, nat_le, ◌==◌, if◌then◌else◌, List, [], ◌∷◌, ◌++◌, Option, Some, None, ℤ, pos, negsuc}
use Rattle.cert_text.specs.declared.word.Word.{Word}
use Rattle.cert_text.specs.declared.word.Word.TheVariants as words
use Rattle.cert_text.specs.Text.{name}

-- What a function returned, seen by view, is what reading gives.
abbrev pub Reads : {X Y : Type 0} → (X → Y) → Option X → Option Y → Type 0
Reads view None read = read ≡ None
Reads view (Some x) read = read ≡ Some (view x)

infixl 10 ◌▷◌
abbrev pub ◌▷◌ : {A B : Type 0} → Option A → (A → Option B) → Option B
(Some x) ▷ f = f x
None ▷ f = None

-- ---- numbers, the largest of which is 10 ^ 37

abbrev pub is_digit : ℕ → Bool
is_digit b = nat_le 48 b && nat_le b 57

abbrev pub digits_from : ℕ → List ℕ → Option (ℕ × List ℕ)
digits_from n [] = Some (n, [])
digits_from n (b ∷ bs) =
    if is_digit b
    then (if nat_le (n * 10 + (b - 48)) (10 ^ 37) then digits_from (n * 10 + (b - 48)) bs else None)
    else Some (n, b ∷ bs)

abbrev pub number_at : List ℕ → Option (ℕ × List ℕ)
number_at [] = None
number_at (b ∷ bs) = if b == 48 then Some (0, bs) else (if is_digit b then digits_from (b - 48) bs else None)

-- a number after its minus
abbrev pub negative : ℕ × List ℕ → Option (ℤ × List ℕ)
negative x = if x.0 == 0 then None else Some (negsuc (x.0 - 1), x.1)

abbrev pub positive : ℕ × List ℕ → Option (ℤ × List ℕ)
positive x = Some (pos x.0, x.1)

abbrev pub signed_at : List ℕ → Option (ℤ × List ℕ)
signed_at [] = None
signed_at (b ∷ bs) = if b == 45 then number_at bs ▷ negative else number_at (b ∷ bs) ▷ positive

-- a number after a space
abbrev pub after_space : List ℕ → Option (ℤ × List ℕ)
after_space [] = None
after_space (b ∷ bs) = if b == 32 then signed_at bs else None

-- The numbers of a line up to its end, at most so many.
abbrev pub numbers_at : ℕ → List ℕ → Option (List ℤ)
numbers_at most [] = Some []
numbers_at zero (b ∷ bs) = None
numbers_at (suc most) (b ∷ bs) = after_space (b ∷ bs) ▷ (λ x. numbers_at most x.1 ▷ (λ zs. Some (x.0 ∷ zs)))

-- A number after a space goes to the end of the numbers, and the rest is left; None where there is none.
abbrev pub PushesNumber : List ℕ → List ℤ → List ℤ → Option (List ℕ) → Type 0
PushesNumber bytes old new (Some rest) = (z : ℤ) × (new ≡ old ++ z ∷ []) × (after_space bytes ≡ Some (z, rest))
PushesNumber bytes old new None = after_space bytes ≡ None

-- ---- words

-- what follows the front
abbrev pub without : List ℕ → List ℕ → Option (List ℕ)
without [] bs = Some bs
without (w ∷ ws) [] = None
without (w ∷ ws) (b ∷ bs) = if b == w then without ws bs else None

abbrev pub or_other : Word → Option (List ℕ) → Option (Word × List ℕ) → Option (Word × List ℕ)
or_other w (Some rest) other = Some (w, rest)
or_other w None other = other

-- the first of these words that the line begins with, and the bytes after it
abbrev pub word_among : List Word → List ℕ → Option (Word × List ℕ)
word_among [] line = None
word_among (w ∷ ws) line = or_other w (without (name w) line) (word_among ws line)

unfoldable pub all_words : List Word
all_words = words.Cells ∷ words.Claim ∷ words.Bound ∷ words.Nodes ∷ words.Node ∷ words.Never ∷ words.Packs ∷ words.Pack ∷ words.End ∷ words.Title ∷ []

abbrev pub word_at : List ℕ → Option (Word × List ℕ)
word_at line = word_among all_words line
