-- Texts of whole lines, and the first line with which none goes on.
use Rattle.std.proofs.Common.{◌≡◌, ℕ, ◌+◌, ◌<◌, List, [], ◌∷◌, ◌++◌, length, take, drop, refl, sym, ap, ◌∙◌, subst, append_assoc, arith, inl, inr}
use Rattle.std.specs.Prelude.{Some, None}
use Rattle.std.specs.List.{AllByRecursion}
use Rattle.std.proofs.lemmas.Bool.{cases_eq, cases_lt}
use Rattle.std.proofs.lemmas.List.{append-nil, length-append, take-append-drop, take-take, take_at}
use Rattle.cert_text.specs.Lines.{Line, Cut, cut, with_byte, text_of, IsOneLine, Splits}
use Rattle.cert_text.specs.Viable.{IsViable, FirstBad}
use Rattle.cert_text.proofs.Cuts.{cut-byte}

with-byte-joins : (byte : ℕ) (whole : List Line) (rest : List ℕ) → text_of (with_byte byte whole rest).whole ++ (with_byte byte whole rest).rest ≡ byte ∷ (text_of whole ++ rest)
with-byte-joins byte [] rest = refl
with-byte-joins byte (line ∷ lines) rest = refl

-- what is cut joins to the text
pub cut_joins : (bytes : List ℕ) → text_of (cut bytes).whole ++ (cut bytes).rest ≡ bytes
cut_joins [] = refl
cut_joins (byte ∷ bytes) =
    elim (cases_eq byte 10) [
      | inl same ↦ rw same (ap (λ (rest : List ℕ). 10 ∷ rest) (cut_joins bytes))
      | inr apart ↦ rw (cut-byte byte bytes apart) (with-byte-joins byte (cut bytes).whole (cut bytes).rest ∙ ap (λ (rest : List ℕ). byte ∷ rest) (cut_joins bytes))
    ]

cut-line : (line rest : List ℕ) → IsOneLine line → cut (line ++ 10 ∷ rest) ≡ record { whole = line ∷ (cut rest).whole; rest = (cut rest).rest }
cut-line [] rest h = refl
cut-line (byte ∷ line) rest h = cut-byte byte (line ++ 10 ∷ rest) h.0 ∙ ap (λ (c : Cut). with_byte byte c.whole c.rest) (cut-line line rest h.1)

-- lines without LF are cut out of their text again
pub cut-text_of : (lines : List Line) → AllByRecursion IsOneLine lines → cut (text_of lines) ≡ record { whole = lines; rest = [] }
cut-text_of [] h = refl
cut-text_of (line ∷ lines) h =
    ap cut (append_assoc line (10 ∷ []) (text_of lines))
    ∙ cut-line line (text_of lines) h.0
    ∙ ap (λ (c : Cut). record { whole = line ∷ c.whole; rest = c.rest }) (cut-text_of lines h.1)

-- the text of some lines is cut into them
pub cut_text : (bytes : List ℕ) (lines : List Line) → AllByRecursion IsOneLine lines → bytes ≡ text_of lines → (lines ≡ (cut bytes).whole) × ((cut bytes).rest ≡ [])
cut_text bytes lines h e =
    let c : cut bytes ≡ record { whole = lines; rest = [] } = ap cut e ∙ cut-text_of lines h in
    (ap (λ (c : Cut). c.whole) (sym c), ap (λ (c : Cut). c.rest) c)

-- a front of a viable front is viable
pub viable_take : {A : Type 0} (lists : List A → Type 0) (n : ℕ) (front : List A) → IsViable lists front → IsViable lists (take n front)
viable_take lists n front v = (drop n front ++ v.0, subst lists (ap (λ xs. xs ++ v.0) (sym (take-append-drop n front)) ∙ append_assoc (take n front) (drop n front) v.0) v.1)

bad_not_before : (texts : List Line → Type 0) (bytes : List ℕ) (m n : ℕ) → FirstBad texts bytes m → FirstBad texts bytes n → m < n → ⊥
bad_not_before texts bytes m n a b l =
    let whole = (cut bytes).whole in
    let shorter : take (a.before + 1) (take b.before whole) ≡ take (a.before + 1) whole = take-take (a.before + 1) b.before whole (omega (arith, a.counted, b.counted)) in
    a.stops (omega (arith, a.counted, b.counted, b.there)) (subst (IsViable texts) shorter (viable_take texts (a.before + 1) (take b.before whole) b.goes_on))

-- a text has one first bad line
pub one_bad : (texts : List Line → Type 0) (bytes : List ℕ) (m n : ℕ) → FirstBad texts bytes m → FirstBad texts bytes n → m ≡ n
one_bad texts bytes m n a b =
    elim (cases_lt m n) [
      | inl below ↦ absurd (bad_not_before texts bytes m n a b below)
      | inr from ↦ elim (cases_lt n m) [
        | inl above ↦ absurd (bad_not_before texts bytes n m b a above)
        | inr to ↦ omega arith
      ]
    ]

-- a text of the set has none
pub text_not_bad : (texts : List Line → Type 0) (bytes : List ℕ) (line : ℕ) (lines : List Line) → FirstBad texts bytes line → texts lines → AllByRecursion IsOneLine lines → bytes ≡ text_of lines → ⊥
text_not_bad texts bytes line lines a t h e =
    let c = cut_text bytes lines h e in
    elim (cases_lt a.before (length (cut bytes).whole)) [
      | inl below ↦ a.stops below (subst (λ (ls : List Line). IsViable texts (take (a.before + 1) ls)) c.0 (drop (a.before + 1) lines, subst texts (sym (take-append-drop (a.before + 1) lines)) t))
      | inr from ↦ a.no_text (omega (arith, a.there)) lines t e
    ]

-- ---- which line is bad

-- the whole lines are some with which a text goes on, and then one with which none does
pub bad_there : (texts : List Line → Type 0) (bytes : List ℕ) (front : List Line) (line : Line) (behind : List Line) → (cut bytes).whole ≡ front ++ line ∷ behind → IsViable texts front → (IsViable texts (front ++ line ∷ []) → ⊥) → FirstBad texts bytes (length front + 1)
bad_there texts bytes front line behind whole viable stops =
    let long : length (cut bytes).whole ≡ length front + 1 + length behind = ap length whole ∙ omega (arith, length-append front (line ∷ behind)) in
    let before : take (length front) (cut bytes).whole ≡ front = ap (take (length front)) whole ∙ take_at front (line ∷ behind) (length front) refl in
    let with_it : take (length front + 1) (cut bytes).whole ≡ front ++ line ∷ [] =
    ap (take (length front + 1)) (whole ∙ sym (append_assoc front (line ∷ []) behind)) ∙ take_at (front ++ line ∷ []) behind (length front + 1) (length-append front (line ∷ [])) in
    record {
      before = length front;
      counted = refl;
      there = omega arith;
      goes_on = subst (IsViable texts) (sym before) viable;
      stops = λ below on. stops (subst (IsViable texts) with_it on);
      no_text = λ same. absurd (omega arith);
    }

-- a text goes on with all whole lines, but the bytes are none
pub bad_behind : (texts : List Line → Type 0) (bytes : List ℕ) (front : List Line) → (cut bytes).whole ≡ front → IsViable texts front → ((lines : List Line) → texts lines → bytes ≡ text_of lines → ⊥) → FirstBad texts bytes (length front + 1)
bad_behind texts bytes front whole viable no_text =
    let long : length (cut bytes).whole ≡ length front = ap length whole in
    let before : take (length front) (cut bytes).whole ≡ front = ap (take (length front)) (whole ∙ sym (append-nil front)) ∙ take_at front [] (length front) refl in
    record {
      before = length front;
      counted = refl;
      there = omega arith;
      goes_on = subst (IsViable texts) (sym before) viable;
      stops = λ below. absurd (omega arith);
      no_text = λ same. no_text;
    }

-- ---- splitting off one line after another

pub splits_line : (bytes line behind : List ℕ) → Splits bytes (Some (line, behind)) → ((cut bytes).whole ≡ line ∷ (cut behind).whole) × ((cut bytes).rest ≡ (cut behind).rest)
splits_line bytes line behind e = (ap (λ (c : Cut). c.whole) e, ap (λ (c : Cut). c.rest) e)

pub splits_rest : (bytes : List ℕ) → Splits bytes None → ((cut bytes).whole ≡ []) × ((cut bytes).rest ≡ bytes)
splits_rest bytes e = (ap (λ (c : Cut). c.whole) e, ap (λ (c : Cut). c.rest) e)
