-- Lists of words, at a place.
use Rattle.std.proofs.Common.{◌≡◌, ℕ, ◌+◌, ◌-◌, ◌<◌, ◌≤◌, List, ◌∷◌, ◌++◌, [], length, get_or, take, drop, sym, ap, ap₂, ◌∙◌, arith, String, Global, string_bytes}
use Rattle.std.proofs.lemmas.List.{map-append, take-append-drop, take_rest, take_all, take_more, drop_more}
use Rattle.std.specs.Borrow.{Bor}
use Rattle.command_words.specs.Words.{texts, lent_texts}

-- the words from a place on
pub texts_from : (words : List (String Global)) (i : ℕ) (word : String Global) (text : List ℕ) → i < length words →
    word ≡ get_or words i word → text ≡ string_bytes word →
    texts (drop i words) ≡ text ∷ texts (drop (i + 1) words)
texts_from words i word text within is e =
    let last : text ≡ string_bytes (get_or words i word) = e ∙ ap string_bytes is in
    ap texts (drop_more words i word within) ∙ ap (λ (w : List ℕ). w ∷ texts (drop (i + 1) words)) (sym last)

-- the first word, and those behind it
pub first_and_rest : (words : List (String Global)) (word : String Global) (text : List ℕ) → 0 < length words →
    word ≡ get_or words 0 word → text ≡ string_bytes word →
    texts words ≡ text ∷ texts (take (length words - 1) (drop 1 words))
first_and_rest words word text within is e =
    texts_from words 0 word text within is e ∙ ap (λ (ws : List (String Global)). text ∷ texts ws) (sym (take_rest words 1))

-- the first two words, and those behind them
pub two_and_rest : (words : List (String Global)) (a b : String Global) (x y : List ℕ) → 2 ≤ length words →
    a ≡ get_or words 0 a → b ≡ get_or words 1 b → x ≡ string_bytes a → y ≡ string_bytes b →
    texts words ≡ x ∷ y ∷ texts (take (length words - 2) (drop 2 words))
two_and_rest words a b x y within is_a is_b e f =
    texts_from words 0 a x (omega (arith, within)) is_a e
    ∙ ap (λ (ws : List (List ℕ)). x ∷ ws) (texts_from words 1 b y (omega (arith, within)) is_b f)
    ∙ ap (λ (ws : List (String Global)). x ∷ y ∷ texts ws) (sym (take_rest words 2))

-- texts that begin with the words' have the others behind them
pub rest_behind : (plain : List (Bor (List ℕ))) (words : List (String Global)) (n : ℕ) → length words ≤ n →
    lent_texts (take n plain) ≡ texts (take n words) → (rest : List (Bor (List ℕ))) → rest ≡ drop n plain →
    lent_texts plain ≡ texts words ++ lent_texts rest
rest_behind plain words n long same rest e =
    sym (ap lent_texts (take-append-drop n plain))
    ∙ map-append (λ (word : Bor (List ℕ)). word.now) (take n plain) (drop n plain)
    ∙ ap (λ (ws : List (List ℕ)). ws ++ lent_texts (drop n plain)) (same ∙ ap texts (take_all n words long))
    ∙ ap (λ (ws : List (Bor (List ℕ))). texts words ++ lent_texts ws) (sym e)

-- texts are the words' up to one more place
pub same_more : (plain : List (Bor (List ℕ))) (words : List (String Global)) (i : ℕ) (w : Bor (List ℕ))
    (word : String Global) → i < length plain → i < length words → lent_texts (take i plain) ≡ texts (take i words) →
    (get_or plain i w).now ≡ string_bytes word → word ≡ get_or words i word →
    lent_texts (take (i + 1) plain) ≡ texts (take (i + 1) words)
same_more plain words i w word a b same e is =
    ap lent_texts (take_more plain i w a)
    ∙ map-append (λ (x : Bor (List ℕ)). x.now) (take i plain) (get_or plain i w ∷ [])
    ∙ ap₂ (λ (xs : List (List ℕ)) (x : List ℕ). xs ++ x ∷ []) same (e ∙ ap string_bytes is)
    ∙ sym (map-append string_bytes (take i words) (get_or words i word ∷ []))
    ∙ sym (ap texts (take_more words i word b))
