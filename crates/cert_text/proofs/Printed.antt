-- Lines printed one after the other.
use Rattle.std.proofs.Common.{◌≡◌, ℕ, suc, ◌+◌, ◌<◌, List, [], ◌∷◌, ◌++◌, length, get_or, take, map, ℤ, pos, refl, sym, ap, ◌∙◌, append_assoc, add-zero, arith}
use Rattle.std.proofs.lemmas.List.{take_more, get_or_default, map_push, length-take, length-map, map-append, append-nil}
use Rattle.std.proofs.lemmas.List.Concat.{flat_map-append}
use Rattle.std.proofs.lemmas.Simd.{map-map}
use Rattle.std.specs.Fmt.{decimal, signed_decimal}
use Rattle.cert_text.specs.Lines.{Line, text_of}
use Rattle.cert_text.specs.Text.{Entry, entries_text, entry_line, numbers_text, place_entries, nodes_entries, heading}
use Rattle.cert_text.specs.View.{Place}

pub entries_text-append : (xs ys : List Entry) → entries_text (xs ++ ys) ≡ entries_text xs ++ entries_text ys
entries_text-append xs ys = ap text_of (map-append entry_line xs ys) ∙ flat_map-append (λ (line : Line). line ++ 10 ∷ []) (map entry_line xs) (map entry_line ys)

numbers_text-append : (xs ys : List ℤ) → numbers_text (xs ++ ys) ≡ numbers_text xs ++ numbers_text ys
numbers_text-append [] ys = refl
numbers_text-append (x ∷ xs) ys = ap (λ (t : List ℕ). 32 ∷ (signed_decimal x ++ t)) (numbers_text-append xs ys) ∙ ap (λ (t : List ℕ). 32 ∷ t) (sym (append_assoc (signed_decimal x) (numbers_text xs) (numbers_text ys)))

-- one more line
pub text_more : {A : Type 0} (f : A → Entry) (front : List ℕ) (xs : List A) (i : ℕ) (x : A) → i < length xs → x ≡ get_or xs i x → (front ++ entries_text (map f (take i xs))) ++ entries_text (f x ∷ []) ≡ front ++ entries_text (map f (take (i + 1) xs))
text_more f front xs i x lt is =
    let e : map f (take (i + 1) xs) ≡ map f (take i xs) ++ f x ∷ [] = ap (map f) (take_more xs i x lt ∙ ap (λ y. take i xs ++ y ∷ []) (sym is)) ∙ map_push f (take i xs) x in
    append_assoc front (entries_text (map f (take i xs))) (entries_text (f x ∷ [])) ∙ ap (λ (t : List ℕ). front ++ t) (sym (entries_text-append (map f (take i xs)) (f x ∷ [])) ∙ ap entries_text (sym e))

pub numbers_text_more : (front : List ℕ) (xs : List ℕ) (i x : ℕ) → i < length xs → x ≡ get_or xs i 0 → (front ++ numbers_text (map pos (take i xs))) ++ (32 ∷ decimal x) ≡ front ++ numbers_text (map pos (take (i + 1) xs))
numbers_text_more front xs i x lt is =
    let e : map pos (take (i + 1) xs) ≡ map pos (take i xs) ++ pos x ∷ [] = ap (map pos) (take_more xs i 0 lt ∙ ap (λ y. take i xs ++ y ∷ []) (sym is)) ∙ map_push pos (take i xs) x in
    let last : numbers_text (pos x ∷ []) ≡ 32 ∷ decimal x = ap (λ (t : List ℕ). 32 ∷ t) (append-nil (decimal x)) in
    append_assoc front (numbers_text (map pos (take i xs))) (32 ∷ decimal x) ∙ ap (λ (t : List ℕ). front ++ t) (ap (λ (t : List ℕ). numbers_text (map pos (take i xs)) ++ t) (sym last) ∙ sym (numbers_text-append (map pos (take i xs)) (pos x ∷ [])) ∙ ap numbers_text (sym e))

pub nodes_entries-append : (i : ℕ) (ps qs : List Place) → nodes_entries i (ps ++ qs) ≡ nodes_entries i ps ++ nodes_entries (i + length ps) qs
nodes_entries-append i [] qs = ap (λ (n : ℕ). nodes_entries n qs) (sym (add-zero i))
nodes_entries-append i (p ∷ ps) qs =
    let k : suc i + length ps ≡ i + suc (length ps) = omega arith in
    ap (λ ls. place_entries i p ++ ls) (nodes_entries-append (suc i) ps qs ∙ ap (λ (n : ℕ). nodes_entries (suc i) ps ++ nodes_entries n qs) k) ∙ sym (append_assoc (place_entries i p) (nodes_entries (suc i) ps) (nodes_entries (i + suc (length ps)) qs))

pub nodes_more : {A : Type 0} (f : A → Place) (front : List ℕ) (xs : List A) (i : ℕ) (x : A) → i < length xs → x ≡ get_or xs i x → (front ++ entries_text (nodes_entries 1 (map f (take i xs)))) ++ entries_text (place_entries (i + 1) (f x)) ≡ front ++ entries_text (nodes_entries 1 (map f (take (i + 1) xs)))
nodes_more f front xs i x lt is =
    let e : map f (take (i + 1) xs) ≡ map f (take i xs) ++ f x ∷ [] = ap (map f) (take_more xs i x lt ∙ ap (λ y. take i xs ++ y ∷ []) (sym is)) ∙ map_push f (take i xs) x in
    let k : 1 + length (map f (take i xs)) ≡ i + 1 = omega (arith, length-map (take i xs) f, length-take i xs) in
    let ls : nodes_entries 1 (map f (take (i + 1) xs)) ≡ nodes_entries 1 (map f (take i xs)) ++ place_entries (i + 1) (f x) =
    ap (nodes_entries 1) e ∙ nodes_entries-append 1 (map f (take i xs)) (f x ∷ []) ∙ ap (λ (t : List Entry). nodes_entries 1 (map f (take i xs)) ++ t) (ap (λ (n : ℕ). nodes_entries n (f x ∷ [])) k ∙ append-nil (place_entries (i + 1) (f x))) in
    append_assoc front (entries_text (nodes_entries 1 (map f (take i xs)))) (entries_text (place_entries (i + 1) (f x))) ∙ ap (λ (t : List ℕ). front ++ t) (sym (entries_text-append (nodes_entries 1 (map f (take i xs))) (place_entries (i + 1) (f x))) ∙ ap entries_text (sym ls))

-- a line of a word and numbers after other text
pub claim_printed : (word a b c t0 t1 t2 t3 t4 t5 : List ℕ) → t1 ≡ t0 ++ word → t2 ≡ t1 ++ (32 ∷ a) → t3 ≡ t2 ++ (32 ∷ b) → t4 ≡ t3 ++ (32 ∷ c) → t5 ≡ t4 ++ (10 ∷ [])
    → t5 ≡ t0 ++ (((word ++ (32 ∷ (a ++ (32 ∷ (b ++ (32 ∷ (c ++ []))))))) ++ (10 ∷ [])) ++ [])
claim_printed word a b c t0 t1 t2 t3 t4 t5 e1 e2 e3 e4 e5 = rw (e5, e4, e3, e2, e1) (simp (append_assoc, append-nil))

pub node_printed : (front : List ℕ) (heads claims bounds : List Entry) (t1 t2 t3 : List ℕ) → t1 ≡ front ++ entries_text heads → t2 ≡ t1 ++ entries_text claims → t3 ≡ t2 ++ entries_text bounds → t3 ≡ front ++ entries_text (heads ++ (claims ++ bounds))
node_printed front heads claims bounds t1 t2 t3 e1 e2 e3 = rw (e3, e2, e1, entries_text-append heads (claims ++ bounds), entries_text-append claims bounds) (simp append_assoc)

pub cert_printed : (head packs nodes last : List Entry) (t0 t1 t2 t3 t4 : List ℕ) → t0 ≡ [] → t1 ≡ t0 ++ entries_text head → t2 ≡ t1 ++ entries_text packs → t3 ≡ t2 ++ entries_text nodes → t4 ≡ t3 ++ entries_text last → t4 ≡ entries_text (head ++ (packs ++ (nodes ++ last)))
cert_printed head packs nodes last t0 t1 t2 t3 t4 e0 e1 e2 e3 e4 =
    rw (e4, e3, e2, e1, e0, entries_text-append head (packs ++ (nodes ++ last)), entries_text-append packs (nodes ++ last), entries_text-append nodes last) (simp append_assoc)

-- one more line in a loop: what was there, what came, and what is there now
pub text_step : {A : Type 0} (f : A → Entry) (front : List ℕ) (xs : List A) (i : ℕ) (d : A) (old new : List ℕ) → i < length xs → old ≡ front ++ entries_text (map f (take i xs)) → new ≡ old ++ entries_text (f (get_or xs i d) ∷ []) → new ≡ front ++ entries_text (map f (take (i + 1) xs))
text_step f front xs i d old new lt e n = n ∙ ap (λ (t : List ℕ). t ++ entries_text (f (get_or xs i d) ∷ [])) e ∙ text_more f front xs i (get_or xs i d) lt (get_or_default xs i d (get_or xs i d) lt)

pub numbers_text_step : (front : List ℕ) (xs : List ℕ) (i d : ℕ) (old new : List ℕ) → i < length xs → old ≡ front ++ numbers_text (map pos (take i xs)) → new ≡ old ++ (32 ∷ decimal (get_or xs i d)) → new ≡ front ++ numbers_text (map pos (take (i + 1) xs))
numbers_text_step front xs i d old new lt e n = n ∙ ap (λ (t : List ℕ). t ++ (32 ∷ decimal (get_or xs i d))) e ∙ numbers_text_more front xs i (get_or xs i d) lt (get_or_default xs i d 0 lt)

pub packs_step : {A B : Type 0} (g : B → Entry) (f : A → B) (front : List ℕ) (xs : List A) (i : ℕ) (x : A) (old new : List ℕ) → i < length xs → x ≡ get_or xs i x → old ≡ front ++ entries_text (map g (map f (take i xs))) → new ≡ old ++ entries_text (g (f x) ∷ []) → new ≡ front ++ entries_text (map g (map f (take (i + 1) xs)))
packs_step g f front xs i x old new lt is e n =
    n ∙ ap (λ (t : List ℕ). t ++ entries_text (g (f x) ∷ [])) (e ∙ ap (λ ls. front ++ entries_text ls) (map-map g f (take i xs)))
    ∙ text_more (λ y. g (f y)) front xs i x lt is ∙ ap (λ ls. front ++ entries_text ls) (sym (map-map g f (take (i + 1) xs)))

pub nodes_step : {A : Type 0} (f : A → Place) (front : List ℕ) (xs : List A) (i number : ℕ) (x : A) (old new : List ℕ) → i < length xs → x ≡ get_or xs i x → number ≡ i → old ≡ front ++ entries_text (nodes_entries 1 (map f (take i xs)))
    → new ≡ old ++ entries_text (place_entries (number + 1) (f x)) → new ≡ front ++ entries_text (nodes_entries 1 (map f (take (i + 1) xs)))
nodes_step f front xs i number x old new lt is same e n =
    n ∙ ap (λ (k : ℕ). old ++ entries_text (place_entries (k + 1) (f x))) same ∙ ap (λ (t : List ℕ). t ++ entries_text (place_entries (i + 1) (f x))) e ∙ nodes_more f front xs i x lt is

pub heading_counts : (cells m n k l : ℕ) → m ≡ n → k ≡ l → entries_text (heading cells n l) ≡ entries_text (heading cells m k)
heading_counts cells m n k l e f = rw (e, f) refl
