-- Names of paragraphs: their places, and which of them stand before.
use Rattle.std.proofs.Common.{◌≡◌, ℕ, ◌+◌, ◌<◌, ◌≤◌, suc, Bool, true, false, not, ◌||◌, cond, if◌then◌else◌, List, [], ◌∷◌, ◌++◌, append_assoc, append-nil, ◌==◌, map, length, length-take, get_or, take, drop, take-suc, bytes_eq, Some, refl, sym, ap, subst, ◌∙◌, arith}
use Rattle.std.specs.List.{list_any}
use Rattle.std.specs.Borrow.{Bor}
use Rattle.std.specs.Cmp.Lexicographic.{bytes_decides, nat_list_eq_equiv}
use Rattle.std.proofs.lemmas.List.Folds.{list_any-append}
use Rattle.indexmap.specs.IndexSet.{insert_key}
use Rattle.rule_order.specs.Order.{line_if}
use Rattle.cob_tree.specs.declared.tree.Paragraph.{Paragraph}
use Rattle.cob_tree.specs.StmtView.{plain_paragraph}
use Rattle.cob_data.specs.declared.end.Rule.{Rule}
use Rattle.cob_data.specs.declared.end.Rule.TheVariants.{Q11}
use Rattle.cob_typed_exprs.specs.declared.found.Found.{Found}
use Rattle.cob_typed_exprs.specs.Search.{found_and}
use Rattle.cob_typed_exprs.specs.declared.finding.Finding.{Finding}
use Rattle.cob_typed_exprs.specs.Judged.{finding, noted, unless}
use Rattle.cob_typed_exprs.specs.Scope.{place_if, found_in, paras_from}
use Rattle.cob_typed_exprs.specs.Paras.{found_or_nothing, para_in}
use Rattle.indexmap.specs.IndexMap.{IndexMap, get_by}
use Rattle.cob_typed.specs.Lists.{found_behind}
use Rattle.cob_typed.specs.Typing.{clashes, is_known, lines_among, rule_number}
use Rattle.cob_typed.specs.Answer.{lines_in}
use Rattle.cob_program.proofs.Loops.{item_step}

-- ---- places

found_more : (xs : List ℕ) (p : ℕ) → found_in (xs ++ p ∷ []) ≡ found_and (found_in xs) p
found_more [] p = refl
found_more (x ∷ []) p = refl
found_more (x ∷ y ∷ xs) p = refl

found_if : (b : Bool) (xs : List ℕ) (p : ℕ) → found_in (xs ++ place_if b p []) ≡ (if b then found_and (found_in xs) p else found_in xs)
found_if true xs p = found_more xs p
found_if false xs p = ap found_in (append-nil xs)

placed_behind : (b : Bool) (p : ℕ) (xs ys : List ℕ) → place_if b p (xs ++ ys) ≡ place_if b p xs ++ ys
placed_behind true p xs ys = refl
placed_behind false p xs ys = refl

paras_more : (n : ℕ) (text name : List ℕ) (names : List (List ℕ)) → paras_from n text (names ++ name ∷ []) ≡ paras_from n text names ++ place_if (bytes_eq text name) (n + length names) []
paras_more n text name [] = ap (λ k. place_if (bytes_eq text name) k []) (omega arith)
paras_more n text name (other ∷ names) =
    let same : suc n + length names ≡ n + length (other ∷ names) = omega arith in
    ap (place_if (bytes_eq text other) n) (paras_more (suc n) text name names ∙ ap (λ k. paras_from (suc n) text names ++ place_if (bytes_eq text name) k []) same)
    ∙ placed_behind (bytes_eq text other) n (paras_from (suc n) text names) (place_if (bytes_eq text name) (n + length (other ∷ names)) [])

names_length : (ps : List Paragraph) → length (map (λ p. p.name) ps) ≡ length ps
names_length [] = refl
names_length (p ∷ ps) = omega (arith, names_length ps)

map_push : {A B : Type 0} (f : A → B) (xs : List A) (x : A) → map f (xs ++ x ∷ []) ≡ map f xs ++ f x ∷ []
map_push f [] x = refl
map_push f (y ∷ ys) x = ap (λ zs. f y ∷ zs) (map_push f ys x)

taken : {A : Type 0} (xs : List A) (i : ℕ) (x : A) → i < length xs → x ≡ get_or xs i x → take (i + 1) xs ≡ take i xs ++ x ∷ []
taken xs i x within is = let one : i + 1 ≡ suc i = omega arith in rw one (take-suc xs i x within ∙ ap (λ y. take i xs ++ y ∷ []) (sym is))

take_length : {A : Type 0} (xs : List A) (i : ℕ) → i ≤ length xs → length (take i xs) ≡ i
take_length xs i h = omega (arith, length-take i xs, h)

pub paras_step : (ps : List Paragraph) (i : ℕ) (p : Paragraph) (text : List ℕ) → i < length ps → p ≡ get_or ps i p →
    found_in (paras_from 1 text (map (λ p. p.name) (take (i + 1) ps)))
    ≡ (if bytes_eq text p.name then found_and (found_in (paras_from 1 text (map (λ p. p.name) (take i ps)))) (i + 1) else found_in (paras_from 1 text (map (λ p. p.name) (take i ps))))
paras_step ps i p text within is =
    let names = map (λ p. p.name) (take i ps) in
    let count : 1 + length names ≡ i + 1 = omega (arith, names_length (take i ps), take_length ps i (omega (arith, within))) in
    ap (λ qs. found_in (paras_from 1 text (map (λ p. p.name) qs))) (taken ps i p within is)
    ∙ ap (λ ns. found_in (paras_from 1 text ns)) (map_push (λ p. p.name) (take i ps) p)
    ∙ ap found_in (paras_more 1 text p.name names ∙ ap (λ k. paras_from 1 text names ++ place_if (bytes_eq text p.name) k []) count)
    ∙ found_if (bytes_eq text p.name) (paras_from 1 text names) (i + 1)

-- ---- names before

-- the last first
abbrev pub known_behind : List (List ℕ) → List Paragraph → List (List ℕ)
known_behind before [] = before
known_behind before (p ∷ ps) = known_behind (p.name ∷ before) ps

known_more : (before : List (List ℕ)) (ps : List Paragraph) (p : Paragraph) → known_behind before (ps ++ p ∷ []) ≡ p.name ∷ known_behind before ps
known_more before [] p = refl
known_more before (q ∷ ps) p = known_more (q.name ∷ before) ps p

pub known_step : (ps : List Paragraph) (i : ℕ) (p : Paragraph) → i < length ps → p ≡ get_or ps i p → known_behind [] (take (i + 1) ps) ≡ p.name ∷ known_behind [] (take i ps)
known_step ps i p within is = ap (known_behind []) (taken ps i p within is) ∙ known_more [] (take i ps) p

same_bytes : (a b : List ℕ) → bytes_eq a b ≡ bytes_eq b a
same_bytes a b = nat_list_eq_equiv.symm a b

abbrev pub AreKeys : List (Bor (List ℕ)) → List (List ℕ) → Type 0
AreKeys keys names = (text : List ℕ) → list_any (λ k. bytes_eq text k.now) keys ≡ is_known text names

abbrev pub same_key : Bor (List ℕ) → Bor (List ℕ) → Bool
same_key x y = bytes_eq x.now y.now

or_false : (b : Bool) → (b || false) ≡ b
or_false true = refl
or_false false = refl

or_if : (x y : Bool) → (x || y) ≡ (if y then true else x)
or_if true true = refl
or_if true false = refl
or_if false true = refl
or_if false false = refl

-- a name that is known may be added again
known_again : (names : List (List ℕ)) (text name : List ℕ) (b : Bool) → bytes_eq text name ≡ b → is_known name names ≡ true → is_known text names ≡ (if b then true else is_known text names)
known_again names text name true same known = subst (λ n. is_known n names ≡ true) (sym ((bytes_decides text name).0 same)) known
known_again names text name false same known = refl

inserted_at : (keys : List (Bor (List ℕ))) (key : Bor (List ℕ)) (names : List (List ℕ)) (b : Bool) → list_any (same_key key) keys ≡ b → AreKeys keys names → AreKeys (cond b keys (keys ++ key ∷ [])) (key.now ∷ names)
inserted_at keys key names true there are text = are text ∙ known_again names text key.now (bytes_eq text key.now) refl (sym (are key.now) ∙ there)
inserted_at keys key names false new are text =
    list_any-append (λ k. bytes_eq text k.now) keys (key ∷ []) ∙ ap (λ b. b || (bytes_eq text key.now || false)) (are text)
    ∙ ap (λ b. is_known text names || b) (or_false (bytes_eq text key.now)) ∙ or_if (is_known text names) (bytes_eq text key.now)

pub inserted : (keys more : List (Bor (List ℕ))) (key : Bor (List ℕ)) (names : List (List ℕ)) → more ≡ insert_key same_key keys key → AreKeys keys names → AreKeys more (key.now ∷ names)
inserted keys more key names put are = rw put (inserted_at keys key names (list_any (same_key key) keys) refl are)

pub clash_step : (before : List (List ℕ)) (ps : List Paragraph) (i : ℕ) (p : Paragraph) → i < length ps → p ≡ get_or ps i p →
    clashes before (map plain_paragraph (drop i ps)) ≡ (if is_known p.name before then (Q11, p.line) ∷ [] else []) ++ clashes (p.name ∷ before) (map plain_paragraph (drop (i + 1) ps))
clash_step before ps i p within is = ap (λ qs. clashes before (map plain_paragraph qs)) (item_step ps i p within is)

-- ---- names seen twice

pub same_names : (ps : List Paragraph) → map (λ p. p.name) (map plain_paragraph ps) ≡ map (λ p. p.name) ps
same_names [] = refl
same_names (p ∷ ps) = ap (λ ns. p.name ∷ ns) (same_names ps)

-- ---- lines

line_append : (b : Bool) (line : ℕ) (xs ys : List ℕ) → line_if b line xs ++ ys ≡ line_if b line (xs ++ ys)
line_append true line xs ys = refl
line_append false line xs ys = refl

lines_more : (fs : List Finding) (f : Finding) (rule : Rule) → lines_in (fs ++ f ∷ []) rule ≡ lines_in fs rule ++ lines_in (f ∷ []) rule
lines_more [] f rule = refl
lines_more (g ∷ fs) f rule = ap (line_if (rule_number g.rule == rule_number rule) g.line) (lines_more fs f rule) ∙ sym (line_append (rule_number g.rule == rule_number rule) g.line (lines_in fs rule) (lines_in (f ∷ []) rule))

lines_behind : (fs : List Finding) (xs : List (Rule × ℕ)) (rule : Rule) → lines_in (found_behind fs xs) rule ≡ lines_in fs rule ++ lines_among rule xs
lines_behind fs [] rule = sym (append-nil (lines_in fs rule))
lines_behind fs (x ∷ xs) rule =
    lines_behind (fs ++ finding x.0 x.1 ∷ []) xs rule ∙ ap (λ ls. ls ++ lines_among rule xs) (lines_more fs (finding x.0 x.1) rule)
    ∙ append_assoc (lines_in fs rule) (line_if (rule_number x.0 == rule_number rule) x.1 []) (lines_among rule xs)
    ∙ ap (λ ls. lines_in fs rule ++ ls) (line_append (rule_number x.0 == rule_number rule) x.1 [] (lines_among rule xs))

pub lines_are : (xs : List (Rule × ℕ)) (rule : Rule) → lines_in (found_behind [] xs) rule ≡ lines_among rule xs
lines_are xs rule = lines_behind [] xs rule

-- what is noted of a name that is new or known
pub clash_found : (line : ℕ) (fs : List Finding) (new known : Bool) → new ≡ not known → noted line fs (unless Q11 new) ≡ found_behind fs (if known then (Q11, line) ∷ [] else [])
clash_found line fs new true is = ap (λ b. noted line fs (unless Q11 b)) is
clash_found line fs new false is = ap (λ b. noted line fs (unless Q11 b)) is

-- one more place of a name
module _ {S : Type 0} (old new : IndexMap (Bor (List ℕ)) Found S) (name text : List ℕ) (v : Found) (p : ℕ) where
  added_at : (b : Bool) → bytes_eq text name ≡ b → get_by (λ k. bytes_eq text k.now) new ≡ (if b then Some v else get_by (λ k. bytes_eq text k.now) old) → v ≡ found_and (para_in old name) p →
      para_in new text ≡ (if b then found_and (para_in old text) p else para_in old text)
  added_at true same put is = ap found_or_nothing put ∙ is ∙ ap (λ n. found_and (para_in old n) p) (sym ((bytes_decides text name).0 same))
  added_at false same put is = ap found_or_nothing put

  pub place_added : get_by (λ k. bytes_eq text k.now) new ≡ (if bytes_eq name text then Some v else get_by (λ k. bytes_eq text k.now) old) → v ≡ found_and (para_in old name) p →
      para_in new text ≡ (if bytes_eq text name then found_and (para_in old text) p else para_in old text)
  place_added put is = added_at (bytes_eq text name) refl (put ∙ ap (λ b. if b then Some v else get_by (λ k. bytes_eq text k.now) old) (same_bytes name text)) is
