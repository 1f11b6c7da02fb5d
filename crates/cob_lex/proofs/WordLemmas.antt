-- A word looked up in capitals: copied one character on, and none that is longer than each reserved word.
use Rattle.std.proofs.Common.{◌≡◌, ℕ, ◌+◌, ◌<◌, ◌≤◌, Bool, true, false, List, [], ◌∷◌, ◌++◌, length, take, set, refl, ap, ◌∙◌, sym, cond, arith, Some, None}
use Rattle.std.specs.Prelude.{nat_le}
use Rattle.std.specs.List.{list_all}
use Rattle.std.specs.Char.{to_ascii_uppercase}
use Rattle.std.specs.Str.{bytes_eq}
use Rattle.std.proofs.lemmas.Bool.{and_parts, leb-true}
use Rattle.std.proofs.lemmas.List.{length-map, take_more_set, map_more, take_all}
use Rattle.std.proofs.lemmas.Slice.Eq.{bytes_eq-Decides}
use Rattle.cob_lex.specs.declared.text.Mark.{Mark}
use Rattle.cob_tree.specs.declared.keyword.Keyword.{Keyword}
use Rattle.cob_tree.specs.Keywords.{text_of, keywords, keyword_among, keyword_of}
use Rattle.cob_lex.specs.Characters.{ch_at, blank}
use Rattle.cob_lex.specs.Words.{raised, spelled_keyword}

pub raised_on : (front : List Mark) (capitals : List ℕ) (k ch : ℕ) → k < length front → k < length capitals → ch ≡ to_ascii_uppercase (ch_at front k) → take k capitals ≡ raised (take k front) → take (k + 1) (set capitals k ch) ≡ raised (take (k + 1) front)
raised_on front capitals k ch h i e so_far =
    rw e (take_more_set capitals k (to_ascii_uppercase (ch_at front k)) i ∙ ap (λ xs. xs ++ to_ascii_uppercase (ch_at front k) ∷ []) so_far ∙ sym (map_more (λ (m : Mark). to_ascii_uppercase m.ch) front k blank h))

pub raised_whole : (front : List Mark) (capitals : List ℕ) (k : ℕ) → k ≡ length front → take k capitals ≡ raised (take k front) → take (length front) capitals ≡ raised front
raised_whole front capitals k e so_far = ap (λ n. take n capitals) (sym e) ∙ so_far ∙ ap raised (ap (λ n. take n front) e ∙ take_all (length front) front (omega arith))

abbrev is_short : Keyword → Bool
is_short k = nat_le (length (text_of k)) 30

long_among : (name : List ℕ) (ks : List Keyword) → 30 < length name → list_all is_short ks ≡ true → keyword_among name ks ≡ None
long_among name [] long short = refl
long_among name (k ∷ ks) long short =
    let both = and_parts (is_short k) (list_all is_short ks) short in
    let fits : length (text_of k) ≤ 30 = leb-true (length (text_of k)) 30 both.0 in
    elim (bytes_eq (text_of k) name) as (λ b. bytes_eq (text_of k) name ≡ b → cond b (Some k) (keyword_among name ks) ≡ None) [
      | true ↦ λ e. let same : length (text_of k) ≡ length name = ap length ((bytes_eq-Decides (text_of k) name).0 e) in absurd (omega (arith, fits, long, same))
      | false ↦ λ e. long_among name ks long both.1
    ] refl

-- no reserved word has more than 30 characters
pub long_are_free : (front : List Mark) → 30 < length front → None ≡ spelled_keyword front
unfolding keyword_of
long_are_free front long =
    sym (long_among (raised front) keywords (omega (arith, long, length-map front (λ (m : Mark). to_ascii_uppercase m.ch))) refl)
