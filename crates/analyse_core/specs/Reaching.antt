-- The paragraphs that a PERFORM reaches: those of its range, and those of the ranges that are performed in these or in its own
-- list. Paragraphs are named by their places, and stand as what is mentioned in each.
use Rattle.std.specs.Prelude.{◌≡◌, ◌<◌, ℕ, zero, suc, Bool, true, false, not, ◌&&◌, ◌||◌, ◌==◌, nat_le, if◌then◌else◌, List, [], ◌∷◌, ◌++◌, length, map, slice_index_or}
use Rattle.std.specs.List.{range_with_len}
use Rattle.analyse_core.specs.declared.mention.Mention.{Mention}
use Rattle.analyse_core.specs.declared.mention.Mention.TheVariants as mention

-- whether a paragraph is in a range that is mentioned
abbrev pub is_in_mention : ℕ → Mention → Bool
is_in_mention para (mention.Item place) = false
is_in_mention para (mention.Range first last) = nat_le first para && nat_le para last

abbrev pub is_performed : ℕ → List Mention → Bool
is_performed para [] = false
is_performed para (x ∷ xs) = is_in_mention para x || is_performed para xs

-- whether a paragraph with such a mark is marked, and performs this one
abbrev pub performs : ℕ → Bool → List Mention → Bool
performs para mark text = mark && is_performed para text

-- whether one of the marked paragraphs performs it
abbrev pub is_performed_in : List Bool → List (List Mention) → ℕ → Bool
is_performed_in (mark ∷ marks) (text ∷ texts) para = performs para mark text || is_performed_in marks texts para
is_performed_in _ _ para = false

module _ (texts : List (List Mention)) (own : List Mention) where
  abbrev pub marks_of : (ℕ → Bool) → List Bool
  marks_of test = map test (range_with_len 0 (length texts))

  -- performed by the statement itself, or by a marked paragraph
  abbrev pub is_performed_by : List Bool → ℕ → Bool
  is_performed_by marks para = is_performed para own || is_performed_in marks texts para

  -- A mark for each paragraph: whether it is reached through so many others at most.
  abbrev pub reached_through : ℕ → List Bool
  reached_through zero = marks_of (λ para. is_performed para own)
  reached_through (suc n) = marks_of (is_performed_by (reached_through n))

  -- all paragraphs that are reached; there are no more others than paragraphs
  abbrev pub reached : List Bool
  reached = reached_through (length texts)

module _ (own : List Mention) (home : ℕ) where
  -- What a statement mentions with what it reaches, in the order of the source, of paragraphs from a place on: the statement
  -- itself stands in the paragraph `home`.
  abbrev pub mentions_from : ℕ → List Bool → List (List Mention) → List Mention
  mentions_from at (mark ∷ marks) (text ∷ texts) = (if mark then text else if at == home then own else []) ++ mentions_from (suc at) marks texts
  mentions_from at _ _ = []

-- What is reached, by a relation: a range that the statement mentions has the paragraph, or one that a reached paragraph does.
pub data IsReached (texts : List (List Mention)) (own : List Mention) : ℕ → Type 0 where
  directly : {para : ℕ} → is_performed para own ≡ true → IsReached texts own para
  onward : {para : ℕ} (over : ℕ) → IsReached texts own over → is_performed para (slice_index_or texts over []) ≡ true → IsReached texts own para

-- just the paragraphs that are reached are marked
pub record AreMarksOfReached (texts : List (List Mention)) (own : List Mention) (marks : List Bool) : Type 0 where
  pub wide : length marks ≡ length texts
  pub marked : (para : ℕ) → para < length texts → slice_index_or marks para false ≡ true → IsReached texts own para
  pub whole : (para : ℕ) → para < length texts → IsReached texts own para → slice_index_or marks para false ≡ true

abbrev pub ReachedAreMarked : Type 0
ReachedAreMarked = (texts : List (List Mention)) (own : List Mention) → AreMarksOfReached texts own (reached texts own)

abbrev pub whole_mentions : List (List Mention) → List Mention → ℕ → List Mention
whole_mentions texts own home = mentions_from own home 0 (reached texts own) texts

-- ---- how the code goes

abbrev pub is_same : Bool → Bool → Bool
is_same a b = if a then b else not b

abbrev pub same_marks : List Bool → List Bool → Bool
same_marks (x ∷ xs) (y ∷ ys) = is_same x y && same_marks xs ys
same_marks _ _ = true
