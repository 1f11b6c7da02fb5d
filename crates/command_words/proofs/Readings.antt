-- Words have one reading.
use Rattle.std.proofs.Common.{◌≡◌, ℕ, List, [], ◌∷◌, ◌++◌, get_or, drop, refl, sym, ap, ap₂, subst, ◌∙◌, inl, inr, arith, Option, None, Some}
use Rattle.std.specs.Prelude.{codes}
use Rattle.command_words.specs.Words.{IsPlain, ArePlain, IsNumber}
use Rattle.command_words.specs.Commands.{Run, Command, analyse, check, run, trial, end_of_options, IsEnd, ArePlainly, IsStepsOption, ArePlainWithSteps, HavePlain, plain_words, Say, IsCommand, command_word}
use Rattle.command_words.specs.Parts.{BeginNotPlain, BeginWithSteps, IsSaidBy}

-- ---- plain words in front

pub tail_same : (x y : List ℕ) (xs ys : List (List ℕ)) → x ∷ xs ≡ y ∷ ys → xs ≡ ys
tail_same x y xs ys e = cc

pub head_same : (x y : List ℕ) (xs ys : List (List ℕ)) → x ∷ xs ≡ y ∷ ys → x ≡ y
head_same x y xs ys e = cc

pub none_or_some : (x : List ℕ) (xs : List (List ℕ)) → [] ≡ x ∷ xs → ⊥
none_or_some x xs e = cc

-- words are cut in one way where plain ones end
pub front_same : (xs ys us vs : List (List ℕ)) → ArePlain xs → ArePlain us → BeginNotPlain ys → BeginNotPlain vs →
    xs ++ ys ≡ us ++ vs → (xs ≡ us) × (ys ≡ vs)
front_same [] ys [] vs h k m n e = (refl, e)
front_same [] [] (u ∷ us) vs h k m n e = absurd (none_or_some u (us ++ vs) e)
front_same [] (y ∷ ys) (u ∷ us) vs h k m n e = absurd (m (subst IsPlain (sym (head_same y u ys (us ++ vs) e)) k.0))
front_same (x ∷ xs) ys [] [] h k m n e = absurd (none_or_some x (xs ++ ys) (sym e))
front_same (x ∷ xs) ys [] (v ∷ vs) h k m n e = absurd (n (subst IsPlain (head_same x v (xs ++ ys) vs e) h.0))
front_same (x ∷ xs) ys (u ∷ us) vs h k m n e =
    let same = front_same xs ys us vs h.1 k.1 m n (tail_same x u (xs ++ ys) (us ++ vs) e) in
    (ap₂ (λ (w : List ℕ) (ws : List (List ℕ)). w ∷ ws) (head_same x u (xs ++ ys) (us ++ vs) e) same.0, same.1)

-- ---- the end

dashes_not_plain : IsPlain end_of_options → ⊥
dashes_not_plain h = let e = h refl in cc

pub end_begins : (end later : List (List ℕ)) → IsEnd end later → BeginNotPlain end
end_begins end later (inl none) = subst BeginNotPlain (sym none.0) tt
end_begins end later (inr some) = subst BeginNotPlain (sym some) dashes_not_plain

later_same : (end l m : List (List ℕ)) → IsEnd end l → IsEnd end m → l ≡ m
later_same end l m (inl a) (inl b) = a.1 ∙ sym b.1
later_same end l m (inl a) (inr b) = absurd (none_or_some end_of_options m (sym a.0 ∙ b))
later_same end l m (inr a) (inl b) = absurd (none_or_some end_of_options l (sym b.0 ∙ a))
later_same end l m (inr a) (inr b) = tail_same end_of_options end_of_options l m (sym a ∙ b)

pub plainly_same : (words p q : List (List ℕ)) → ArePlainly words p → ArePlainly words q → p ≡ q
plainly_same words p q h k =
    let same = front_same h.before h.end k.before k.end h.before_plain k.before_plain
    (end_begins h.end h.later h.is_end) (end_begins k.end k.later k.is_end) (sym h.words_are ∙ k.words_are) in
    let later = later_same k.end h.later k.later (subst (λ (e : List (List ℕ)). IsEnd e h.later) same.1 h.is_end) k.is_end in
    h.plain_are ∙ ap₂ (λ (xs ys : List (List ℕ)). xs ++ ys) same.0 later ∙ sym k.plain_are

-- ---- the option

abbrev short_name : List ℕ → ℕ
short_name word = get_or word 7 0

steps_or_equals : (count : List ℕ) → codes "--steps" ≡ codes "--steps=" ++ count → ⊥
steps_or_equals count e = let f : ◌≡◌ {A = ℕ} 0 61 = ap short_name e in absurd (omega arith)

pub steps_not_plain : (words : List (List ℕ)) (count : List ℕ) (after : List (List ℕ)) →
    BeginWithSteps words count after → BeginNotPlain words
steps_not_plain words count after (inl form) = subst BeginNotPlain (sym form) (λ h. let e = h refl in cc)
steps_not_plain words count after (inr form) = subst BeginNotPlain (sym form) (λ h. let e = h refl in cc)

pub begin_same : (words : List (List ℕ)) (c d : List ℕ) (a b : List (List ℕ)) →
    BeginWithSteps words c a → BeginWithSteps words d b → (c ≡ d) × (a ≡ b)
begin_same words c d a b (inl x) (inl y) =
    let e = tail_same (codes "--steps") (codes "--steps") (c ∷ a) (d ∷ b) (sym x ∙ y) in
    (head_same c d a b e, tail_same c d a b e)
begin_same words c d a b (inl x) (inr y) =
    absurd (steps_or_equals d (head_same (codes "--steps") (codes "--steps=" ++ d) (c ∷ a) b (sym x ∙ y)))
begin_same words c d a b (inr x) (inl y) =
    absurd (steps_or_equals c (head_same (codes "--steps") (codes "--steps=" ++ c) (d ∷ b) a (sym y ∙ x)))
begin_same words c d a b (inr x) (inr y) =
    let e = sym x ∙ y in (
      ap (drop 8) (head_same (codes "--steps=" ++ c) (codes "--steps=" ++ d) a b e),
      tail_same (codes "--steps=" ++ c) (codes "--steps=" ++ d) a b e,
    )

-- an option and the words behind it begin with it
pub option_begins : (option after : List (List ℕ)) (steps : ℕ) (h : IsStepsOption option steps) →
    BeginWithSteps (option ++ after) h.count after
option_begins option after steps h = elim h.form [
  | inl form ↦ inl (ap (λ (ws : List (List ℕ)). ws ++ after) form)
  | inr form ↦ inr (ap (λ (ws : List (List ℕ)). ws ++ after) form)
]

-- `--` isn't the option
pub end_or_steps : (end later : List (List ℕ)) (count : List ℕ) (after : List (List ℕ)) → IsEnd end later →
    BeginWithSteps end count after → ⊥
end_or_steps end later count after (inl a) (inl b) = none_or_some (codes "--steps") (count ∷ after) (sym a.0 ∙ b)
end_or_steps end later count after (inl a) (inr b) = none_or_some (codes "--steps=" ++ count) after (sym a.0 ∙ b)
end_or_steps end later count after (inr a) (inl b) =
    let e = head_same end_of_options (codes "--steps") later (count ∷ after) (sym a ∙ b) in
    let f : ◌≡◌ {A = ℕ} 0 115 = ap (λ (w : List ℕ). get_or w 2 0) e in
    absurd (omega arith)
end_or_steps end later count after (inr a) (inr b) =
    let e = head_same end_of_options (codes "--steps=" ++ count) later after (sym a ∙ b) in
    let f : ◌≡◌ {A = ℕ} 0 115 = ap (λ (w : List ℕ). get_or w 2 0) e in
    absurd (omega arith)

pub plainly_or_steps : (words p q : List (List ℕ)) (steps : ℕ) → ArePlainly words p → ArePlainWithSteps words q steps → ⊥
plainly_or_steps words p q steps h k =
    let begins = option_begins k.option k.after steps k.is_option in
    let same = front_same h.before h.end k.before (k.option ++ k.after) h.before_plain k.before_plain
    (end_begins h.end h.later h.is_end) (steps_not_plain (k.option ++ k.after) k.is_option.count k.after begins)
    (sym h.words_are ∙ k.words_are) in
    end_or_steps h.end h.later k.is_option.count k.after h.is_end
    (subst (λ (ws : List (List ℕ)). BeginWithSteps ws k.is_option.count k.after) (sym same.1) begins)

number_same : (v w : List ℕ) (m n : ℕ) → v ≡ w → IsNumber v m → IsNumber w n → m ≡ n
number_same v w m n e h k =
    let moved : IsNumber w m = subst (λ (x : List ℕ). IsNumber x m) e h in
    sym moved.value_is ∙ k.value_is

record BothSame (p q : List (List ℕ)) (m n : ℕ) : Type 0 where
  plain_same : p ≡ q
  steps_same : m ≡ n

steps_once : (words p q : List (List ℕ)) (m n : ℕ) → ArePlainWithSteps words p m → ArePlainWithSteps words q n →
    BothSame p q m n
steps_once words p q m n h k =
    let a = option_begins h.option h.after m h.is_option in
    let b = option_begins k.option k.after n k.is_option in
    let same = front_same h.before (h.option ++ h.after) k.before (k.option ++ k.after) h.before_plain k.before_plain
    (steps_not_plain (h.option ++ h.after) h.is_option.count h.after a)
    (steps_not_plain (k.option ++ k.after) k.is_option.count k.after b) (sym h.words_are ∙ k.words_are) in
    let both = begin_same (k.option ++ k.after) h.is_option.count k.is_option.count h.after k.after
    (subst (λ (ws : List (List ℕ)). BeginWithSteps ws h.is_option.count h.after) same.1 a) b in
    let after = plainly_same k.after h.plain_after k.plain_after
    (subst (λ (ws : List (List ℕ)). ArePlainly ws h.plain_after) both.1 h.after_plainly) k.after_plainly in
    record {
      plain_same = h.plain_are ∙ ap₂ (λ (xs ys : List (List ℕ)). xs ++ ys) same.0 after ∙ sym k.plain_are;
      steps_same = number_same h.is_option.count k.is_option.count m n both.0 h.is_option.is_number k.is_option.is_number;
    }

-- ---- plain words and the number of steps

pub have_same : (words p q : List (List ℕ)) (m n : Option ℕ) → HavePlain words p m → HavePlain words q n → (p ≡ q) × (m ≡ n)
have_same words p q None None h k = (plainly_same words p q h k, refl)
have_same words p q None (Some n) h k = absurd (plainly_or_steps words p q n h k)
have_same words p q (Some m) None h k = absurd (plainly_or_steps words q p m k h)
have_same words p q (Some m) (Some n) h k =
    let same = steps_once words p q m n h k in
    (same.plain_same, ap (λ (x : ℕ). Some x) same.steps_same)

-- ---- what they say

abbrev first_letter : List ℕ → ℕ
first_letter word = get_or word 0 0

same_run : (a b : Run) → plain_words a ≡ plain_words b → a.steps ≡ b.steps → a ≡ b
same_run a b e k =
    let s : a.source ≡ b.source = cc in
    let ns : a.names ≡ b.names = cc in
    made s k ns where
      build : List ℕ → ℕ → List (List ℕ) → Run
      build source steps names = record { source = source; steps = steps; names = names }

      made : a.source ≡ b.source → a.steps ≡ b.steps → a.names ≡ b.names → a ≡ b
      made s k ns = ap (λ (x : List ℕ). build x a.steps a.names) s ∙ ap (λ (n : ℕ). build b.source n a.names) k ∙
          ap (λ (x : List (List ℕ)). build b.source b.steps x) ns

same_pair : (make : List ℕ → List ℕ → Command) (plain : List (List ℕ)) (s c s' c' : List ℕ) →
    plain ≡ s ∷ c ∷ [] → plain ≡ s' ∷ c' ∷ [] → make s c ≡ make s' c'
same_pair make plain s c s' c' e f =
    let g = sym e ∙ f in
    ap₂ make (head_same s s' (c ∷ []) (c' ∷ []) g) (head_same c c' [] [] (tail_same s s' (c ∷ []) (c' ∷ []) g))

-- two commands of different words
apart : (a b : Command) (m n : ℕ) → command_word a ≡ command_word b → first_letter (command_word a) ≡ m →
    first_letter (command_word b) ≡ n → m ≡ n
apart a b m n e f g = sym f ∙ ap first_letter e ∙ g

pub said_same : (first : List ℕ) (plain : List (List ℕ)) (steps : Option ℕ) (a b : Command) →
    IsSaidBy first plain steps a → IsSaidBy first plain steps b → a ≡ b
said_same first plain steps (analyse s c) (analyse s' c') h k = same_pair analyse plain s c s' c' h.1.0 k.1.0
said_same first plain steps (check s c) (check s' c') h k = same_pair check plain s c s' c' h.1.0 k.1.0
said_same first plain steps (run r) (run r') h k =
    ap run (same_run r r' (sym h.1.0 ∙ k.1.0) (h.1.1 ∙ sym k.1.1))
said_same first plain steps (trial m) (trial n) h k =
    let e = head_same h.1.word k.1.word [] [] (sym h.1.plain_are ∙ k.1.plain_are) in
    ap trial (number_same h.1.word k.1.word m n e h.1.is_number k.1.is_number)
said_same first plain steps (analyse s c) (check s' c') h k = absurd (omega (arith, apart (analyse s c) (check s' c') 97 99 (sym h.0 ∙ k.0) refl refl))
said_same first plain steps (analyse s c) (run r) h k = absurd (omega (arith, apart (analyse s c) (run r) 97 114 (sym h.0 ∙ k.0) refl refl))
said_same first plain steps (analyse s c) (trial n) h k = absurd (omega (arith, apart (analyse s c) (trial n) 97 116 (sym h.0 ∙ k.0) refl refl))
said_same first plain steps (check s c) (analyse s' c') h k = absurd (omega (arith, apart (check s c) (analyse s' c') 99 97 (sym h.0 ∙ k.0) refl refl))
said_same first plain steps (check s c) (run r) h k = absurd (omega (arith, apart (check s c) (run r) 99 114 (sym h.0 ∙ k.0) refl refl))
said_same first plain steps (check s c) (trial n) h k = absurd (omega (arith, apart (check s c) (trial n) 99 116 (sym h.0 ∙ k.0) refl refl))
said_same first plain steps (run r) (analyse s c) h k = absurd (omega (arith, apart (run r) (analyse s c) 114 97 (sym h.0 ∙ k.0) refl refl))
said_same first plain steps (run r) (check s c) h k = absurd (omega (arith, apart (run r) (check s c) 114 99 (sym h.0 ∙ k.0) refl refl))
said_same first plain steps (run r) (trial n) h k = absurd (omega (arith, apart (run r) (trial n) 114 116 (sym h.0 ∙ k.0) refl refl))
said_same first plain steps (trial n) (analyse s c) h k = absurd (omega (arith, apart (trial n) (analyse s c) 116 97 (sym h.0 ∙ k.0) refl refl))
said_same first plain steps (trial n) (check s c) h k = absurd (omega (arith, apart (trial n) (check s c) 116 99 (sym h.0 ∙ k.0) refl refl))
said_same first plain steps (trial n) (run r) h k = absurd (omega (arith, apart (trial n) (run r) 116 114 (sym h.0 ∙ k.0) refl refl))

-- a command is what the words behind the first say
pub said_of : (first : List ℕ) (behind plain : List (List ℕ)) (steps : Option ℕ) (c : Command) → HavePlain behind plain steps →
    IsCommand (first ∷ behind) c → IsSaidBy first plain steps c
said_of first behind plain steps c have h =
    let word = head_same first (command_word c) behind h.behind h.words_are in
    let words = tail_same first (command_word c) behind h.behind h.words_are in
    let same = have_same behind h.plain plain h.steps steps
    (subst (λ (ws : List (List ℕ)). HavePlain ws h.plain h.steps) (sym words) h.have) have in
    let plainly : Say plain h.steps c = subst (λ (p : List (List ℕ)). Say p h.steps c) same.0 h.say in
    (word, subst (λ (n : Option ℕ). Say plain n c) same.1 plainly)

pub command_by : (first : List ℕ) (behind plain : List (List ℕ)) (steps : Option ℕ) (c : Command) → HavePlain behind plain steps →
    IsSaidBy first plain steps c → IsCommand (first ∷ behind) c
command_by first behind plain steps c have said = record {
  behind = behind;
  plain = plain;
  steps = steps;
  words_are = ap (λ (w : List ℕ). w ∷ behind) said.0;
  have = have;
  say = said.1;
}

pub one_reading : (words : List (List ℕ)) (a b : Command) → IsCommand words a → IsCommand words b → a ≡ b
one_reading words a b h k =
    let moved = subst (λ (ws : List (List ℕ)). IsCommand ws b) h.words_are k in
    said_same (command_word a) h.plain h.steps a b (refl, h.say)
    (said_of (command_word a) h.behind h.plain h.steps b h.have moved)
