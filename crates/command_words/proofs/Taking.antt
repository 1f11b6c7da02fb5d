-- How the words behind a command's own are taken apart.
use Rattle.std.proofs.Common.{◌≡◌, ℕ, ◌<◌, ◌≤◌, ◌^◌, List, [], ◌∷◌, ◌++◌, append_assoc, take, drop, refl, sym, ap, ap₂, subst, ◌∙◌, inl, inr, arith, Option, None, Some, MatchOption, String, Global, string_bytes}
use Rattle.std.specs.Prelude.{codes}
use Rattle.std.proofs.lemmas.List.{map-append, take-append-drop}
use Rattle.std.specs.Str.Parse.{digits_value}
use Rattle.std.proofs.lemmas.Str.Parse.{digits_value_short}
use Rattle.command_words.specs.declared.parts.Parts.{Parts}
use Rattle.command_words.specs.Words.{ArePlain, IsNumber, texts}
use Rattle.command_words.specs.Commands.{end_of_options, IsEnd, ArePlainly, ArePlainWithSteps, HavePlain}
use Rattle.command_words.specs.Parts.{BeginNotPlain, IsPlainCount, BeginWithSteps, plain_of}
use Rattle.command_words.proofs.Counts.{own}
use Rattle.command_words.proofs.Readings.{none_or_some, head_same, front_same, end_begins, steps_not_plain, begin_same, option_begins, end_or_steps}

-- ---- words cut in two

module _ (words a b : List (String Global)) (n : ℕ) (front : a ≡ take n words) (back : b ≡ drop n words) where
  pub cut : texts words ≡ texts a ++ texts b
  cut = sym (ap texts (take-append-drop n words)) ∙ map-append string_bytes (take n words) (drop n words)
      ∙ ap₂ (λ (xs ys : List (String Global)). texts xs ++ texts ys) (sym front) (sym back)

  module _ (count : IsPlainCount words n) where
    pub front_plain : ArePlain (texts a)
    front_plain = subst (λ (xs : List (String Global)). ArePlain (texts xs)) (sym front) count.before_plain

    pub back_begins : BeginNotPlain (texts b)
    back_begins = subst (λ (xs : List (String Global)). BeginNotPlain (texts xs)) (sym back) count.behind

-- ---- words without an option

module _ (words before rest : List (List ℕ)) (whole : words ≡ before ++ rest) (plain : ArePlain before) where
  pub no_end : rest ≡ [] → ArePlainly words (before ++ rest)
  no_end e = record {
    before = before;
    end = rest;
    later = rest;
    before_plain = plain;
    is_end = inl (e, e);
    words_are = whole;
    plain_are = refl;
  }

  pub with_end : (later : List (List ℕ)) → rest ≡ end_of_options ∷ later → ArePlainly words (before ++ later)
  with_end later e = record {
    before = before;
    end = rest;
    later = later;
    before_plain = plain;
    is_end = inr e;
    words_are = whole;
    plain_are = refl;
  }

  module _ (begins : BeginNotPlain rest) where
    -- what stands behind the first plain words is the end
    pub end_is_rest : (p : List (List ℕ)) (h : ArePlainly words p) → IsEnd rest h.later
    end_is_rest p h =
        let same = front_same h.before h.end before rest h.before_plain plain (end_begins h.end h.later h.is_end) begins
        (sym h.words_are ∙ whole) in
        subst (λ (e : List (List ℕ)). IsEnd e h.later) same.1 h.is_end

    pub not_plainly : (w : List ℕ) (more : List (List ℕ)) → rest ≡ w ∷ more → (w ≡ end_of_options → ⊥) →
        (p : List (List ℕ)) → ArePlainly words p → ⊥
    not_plainly w more e other p h = elim (end_is_rest p h) [
      | inl none ↦ absurd (none_or_some w more (sym none.0 ∙ e))
      | inr some ↦ absurd (other (head_same w end_of_options more h.later (sym e ∙ some)))
    ]

    -- what is without an option is so behind the first plain words
    pub rest_plainly : (p : List (List ℕ)) → ArePlainly words p → (q : List (List ℕ)) × ArePlainly rest q
    rest_plainly p h = (
      h.later,
      record {
        before = [];
        end = rest;
        later = h.later;
        before_plain = tt;
        is_end = end_is_rest p h;
        words_are = refl;
        plain_are = refl;
      },
    )

    -- the option stands behind the first plain words
    pub option_in_rest : (p : List (List ℕ)) (n : ℕ) (h : ArePlainWithSteps words p n) →
        BeginWithSteps rest h.is_option.count h.after
    option_in_rest p n h =
        let starts = option_begins h.option h.after n h.is_option in
        let same = front_same h.before (h.option ++ h.after) before rest h.before_plain plain
        (steps_not_plain (h.option ++ h.after) h.is_option.count h.after starts) begins (sym h.words_are ∙ whole) in
        subst (λ (ws : List (List ℕ)). BeginWithSteps ws h.is_option.count h.after) same.1 starts

  pub plainly_behind : (q : List (List ℕ)) → ArePlainly rest q → ArePlainly words (before ++ q)
  plainly_behind q h = record {
    before = before ++ h.before;
    end = h.end;
    later = h.later;
    before_plain = both before plain;
    is_end = h.is_end;
    words_are = whole ∙ ap (λ (ws : List (List ℕ)). before ++ ws) h.words_are ∙ sym (append_assoc before h.before h.end);
    plain_are = ap (λ (ws : List (List ℕ)). before ++ ws) h.plain_are ∙ sym (append_assoc before h.before h.later);
  } where
    both : (ws : List (List ℕ)) → ArePlain ws → ArePlain (ws ++ h.before)
    both [] k = h.before_plain
    both (w ∷ ws) k = (k.0, both ws k.1)

  steps_behind : (count : List ℕ) (after q : List (List ℕ)) (n : ℕ) → BeginWithSteps rest count after →
      IsNumber count n → 1 ≤ n → ArePlainly after q → ArePlainWithSteps words (before ++ q) n
  steps_behind count after q n (inl form) number some h = record {
    before = before;
    option = codes "--steps" ∷ count ∷ [];
    after = after;
    plain_after = q;
    before_plain = plain;
    is_option = record { count = count; is_number = number; some = some; form = inl refl };
    after_plainly = h;
    words_are = whole ∙ ap (λ (ws : List (List ℕ)). before ++ ws) form;
    plain_are = refl;
  }
  steps_behind count after q n (inr form) number some h = record {
    before = before;
    option = (codes "--steps=" ++ count) ∷ [];
    after = after;
    plain_after = q;
    before_plain = plain;
    is_option = record { count = count; is_number = number; some = some; form = inr refl };
    after_plainly = h;
    words_are = whole ∙ ap (λ (ws : List (List ℕ)). before ++ ws) form;
    plain_are = refl;
  }

  -- ---- the answers

  module _ (begins : BeginNotPlain rest) where
    -- nothing is said where the option's number is none
    pub no_number : (count : List ℕ) (after : List (List ℕ)) → BeginWithSteps rest count after →
        ((n : ℕ) → IsNumber count n → 1 ≤ n → n ≤ 999999999999999999 → ⊥) →
        (p : List (List ℕ)) (steps : Option ℕ) → HavePlain words p steps → ⊥
    no_number count after starts none p None h =
        end_or_steps rest h.later count after (end_is_rest begins p h) starts
    no_number count after starts none p (Some n) h =
        let same = begin_same rest h.is_option.count count h.after after (option_in_rest begins p n h) starts in
        let number = subst (λ (w : List ℕ). IsNumber w n) same.0 h.is_option.is_number in
        let small : digits_value 10 count < 10 ^ 18 = digits_value_short own count 18 number.digits.1 number.short in
        none n number h.is_option.some (omega (arith, small, number.value_is))

    -- nothing is said where the words behind the option aren't plain
    pub no_rest : (count : List ℕ) (after : List (List ℕ)) → BeginWithSteps rest count after →
        ((q : List (List ℕ)) → ArePlainly after q → ⊥) →
        (p : List (List ℕ)) (steps : Option ℕ) → HavePlain words p steps → ⊥
    no_rest count after starts none p None h =
        end_or_steps rest h.later count after (end_is_rest begins p h) starts
    no_rest count after starts none p (Some n) h =
        let same = begin_same rest h.is_option.count count h.after after (option_in_rest begins p n h) starts in
        none h.plain_after (subst (λ (ws : List (List ℕ)). ArePlainly ws h.plain_after) same.1 h.after_plainly)

    -- nothing is said where neither the option nor the end stands behind the first plain words
    pub no_option : ((count : List ℕ) (after : List (List ℕ)) → BeginWithSteps rest count after → ⊥) →
        ((q : List (List ℕ)) → ArePlainly rest q → ⊥) →
        (p : List (List ℕ)) (steps : Option ℕ) → HavePlain words p steps → ⊥
    no_option none rest_none p None h = let q = rest_plainly begins p h in rest_none q.0 q.1
    no_option none rest_none p (Some n) h = none h.is_option.count h.after (option_in_rest begins p n h)

  abbrev Found : Option ℕ → List (List ℕ) → Parts → Type 0
  Found steps tail p =
      (texts p.before.now ≡ before) × (p.steps ≡ steps) × ArePlainly tail (texts p.after.now ++ texts p.later.now)

  abbrev Wanted : Option Parts → Type 0
  Wanted r =
      MatchOption r ((p : List (List ℕ)) (steps : Option ℕ) → HavePlain words p steps → ⊥)
      (λ p. HavePlain words (plain_of p) p.steps)

  found_parts : (steps : Option ℕ) (p : Parts) (q : List (List ℕ)) → texts p.before.now ≡ before → p.steps ≡ steps →
      q ≡ texts p.after.now ++ texts p.later.now → HavePlain words (before ++ q) steps → HavePlain words (plain_of p) p.steps
  found_parts steps p q b s e h =
      let plainly : plain_of p ≡ before ++ q = ap₂ (λ (xs ys : List (List ℕ)). xs ++ ys) b (sym e) in
      subst (λ (n : Option ℕ). HavePlain words (plain_of p) n) (sym s)
      (subst (λ (ws : List (List ℕ)). HavePlain words ws steps) (sym plainly) h)

  pub parts_with_steps : BeginNotPlain rest → (count : List ℕ) (after : List (List ℕ)) (n : ℕ) (r : Option Parts) →
      BeginWithSteps rest count after → IsNumber count n → 1 ≤ n →
      MatchOption r ((q : List (List ℕ)) → ArePlainly after q → ⊥) (Found (Some n) after) → Wanted r
  parts_with_steps begins count after n None starts number some h = no_rest begins count after starts h
  parts_with_steps begins count after n (Some p) starts number some h =
      found_parts (Some n) p (texts p.after.now ++ texts p.later.now) h.0 h.1 refl
      (steps_behind count after (texts p.after.now ++ texts p.later.now) n starts number some h.2)

  pub parts_without : BeginNotPlain rest → (r : Option Parts) →
      ((count : List ℕ) (after : List (List ℕ)) → BeginWithSteps rest count after → ⊥) →
      MatchOption r ((q : List (List ℕ)) → ArePlainly rest q → ⊥) (Found None rest) → Wanted r
  parts_without begins None none h = no_option begins none h
  parts_without begins (Some p) none h =
      found_parts None p (texts p.after.now ++ texts p.later.now) h.0 h.1 refl
      (plainly_behind (texts p.after.now ++ texts p.later.now) h.2)
