-- Steps of the loops over statements, WHENs, sentences and paragraphs.
use Rattle.std.proofs.Common.{◌≡◌, ℕ, ◌+◌, ◌<◌, ◌≤◌, List, [], ◌∷◌, ◌++◌, append_assoc, append-nil, length, get_or, drop, map, refl, sym, ap, ◌∙◌}
use Rattle.std.proofs.lemmas.List.{drop_all}
use Rattle.cob_tree.specs.declared.stmt.Stmt as declared_stmt
use Rattle.cob_tree.specs.declared.stmt.When as declared_when
use Rattle.cob_tree.specs.Stmt as tree
use Rattle.cob_tree.specs.StmtView as tree_view
use Rattle.cob_data.specs.declared.end.Rule.{Rule}
use Rattle.cob_program.specs.Act.{Stmt, Stmts, no_stmts, more_stmts, stmts_of, When, Whens, no_whens, more_whens, whens_of, Para}
use Rattle.cob_typed_exprs.specs.declared.finding.Finding.{Finding}
use Rattle.cob_typed_conds.specs.declared.selections.Looked.{Looked}
use Rattle.cob_typed_exprs.specs.Scope.{Scope}
use Rattle.cob_typed.specs.Lists.{found_behind}
use Rattle.cob_typed.specs.Statements.{typed_choices, typed_stmt, typed_stmts, typed_whens}
use Rattle.cob_typed.specs.StatementSteps.{typed_when, typed_para}
use Rattle.cob_typed.specs.Typing.{joined, typed_sentences, typed_paras}
use Rattle.cob_program.proofs.Loops.{item_step}
use Rattle.cob_typed.proofs.FoundLemmas.{found_append}

-- ---- lists put together

pub joined_assoc : (xs ys zs : Stmts) → joined (joined xs ys) zs ≡ joined xs (joined ys zs)
joined_assoc no_stmts ys zs = refl
joined_assoc (more_stmts x xs) ys zs = ap (more_stmts x) (joined_assoc xs ys zs)

pub joined_none : (xs : Stmts) → joined xs no_stmts ≡ xs
joined_none no_stmts = refl
joined_none (more_stmts x xs) = ap (more_stmts x) (joined_none xs)

pub joined_push : (xs : List Stmt) (x : Stmt) (ys : Stmts) → joined (stmts_of (xs ++ x ∷ [])) ys ≡ joined (stmts_of xs) (more_stmts x ys)
joined_push [] x ys = refl
joined_push (z ∷ xs) x ys = ap (more_stmts z) (joined_push xs x ys)

abbrev pub whens_behind : List When → Whens → Whens
whens_behind [] ws = ws
whens_behind (x ∷ xs) ws = more_whens x (whens_behind xs ws)

pub whens_push : (xs : List When) (x : When) (ws : Whens) → whens_behind (xs ++ x ∷ []) ws ≡ whens_behind xs (more_whens x ws)
whens_push [] x ws = refl
whens_push (z ∷ xs) x ws = ap (more_whens z) (whens_push xs x ws)

pub whens_none : (xs : List When) → whens_behind xs no_whens ≡ whens_of xs
whens_none [] = refl
whens_none (x ∷ xs) = ap (more_whens x) (whens_none xs)

-- one element typed, and then the rest
pub two_found : (findings mid whole : List Finding) (xs ys : List (Rule × ℕ)) → mid ≡ found_behind findings xs → found_behind findings (xs ++ ys) ≡ whole → found_behind mid ys ≡ whole
two_found findings mid whole xs ys made so_far = ap (λ fs. found_behind fs ys) made ∙ sym (found_append findings xs ys) ∙ so_far

-- with nothing behind the rest
pub two_found_end : (findings mid whole : List Finding) (xs ys : List (Rule × ℕ)) → mid ≡ found_behind findings xs → found_behind findings (xs ++ (ys ++ [])) ≡ whole → found_behind mid ys ≡ whole
two_found_end findings mid whole xs ys made so_far = two_found findings mid whole xs ys made (ap (λ zs. found_behind findings (xs ++ zs)) (sym (append-nil ys)) ∙ so_far)

-- ---- statements

abbrev pub stmts_from : List declared_stmt.Stmt → ℕ → tree.Stmts
stmts_from xs i = tree.stmts_of (map tree_view.plain_stmt (drop i xs))

abbrev pub whens_from : List declared_when.When → ℕ → tree.Whens
whens_from xs i = tree.whens_of (map tree_view.plain_when (drop i xs))

pub stmts_step : (xs : List declared_stmt.Stmt) (i : ℕ) (x : declared_stmt.Stmt) → i < length xs → x ≡ get_or xs i x → stmts_from xs i ≡ tree.more_stmts (tree_view.plain_stmt x) (stmts_from xs (i + 1))
stmts_step xs i x within is = ap (λ ys. tree.stmts_of (map tree_view.plain_stmt ys)) (item_step xs i x within is)

pub stmts_end : (xs : List declared_stmt.Stmt) (i : ℕ) → length xs ≤ i → stmts_from xs i ≡ tree.no_stmts
stmts_end xs i past = ap (λ ys. tree.stmts_of (map tree_view.plain_stmt ys)) (drop_all i xs past)

pub whens_step : (xs : List declared_when.When) (i : ℕ) (x : declared_when.When) → i < length xs → x ≡ get_or xs i x → whens_from xs i ≡ tree.more_whens (tree_view.plain_when x) (whens_from xs (i + 1))
whens_step xs i x within is = ap (λ ys. tree.whens_of (map tree_view.plain_when ys)) (item_step xs i x within is)

pub whens_end : (xs : List declared_when.When) (i : ℕ) → length xs ≤ i → whens_from xs i ≡ tree.no_whens
whens_end xs i past = ap (λ ys. tree.whens_of (map tree_view.plain_when ys)) (drop_all i xs past)

-- one statement more, where the rest was so much
module _ (s : Scope) where
  pub stmt_value : (n m : ℕ) (x : tree.Stmt) (xs : tree.Stmts) (old new : List Stmt) (y : Stmt) (whole : Stmts) → m ≡ (typed_stmt s n x).next → y ≡ (typed_stmt s n x).value → new ≡ old ++ y ∷ [] →
      joined (stmts_of old) (typed_stmts s n (tree.more_stmts x xs)).value ≡ whole → joined (stmts_of new) (typed_stmts s m xs).value ≡ whole
  stmt_value n m x xs old new y whole next is made so_far =
      ap (λ ys. joined (stmts_of ys) (typed_stmts s m xs).value) made ∙ joined_push old y (typed_stmts s m xs).value
      ∙ ap (λ k. joined (stmts_of old) (more_stmts y (typed_stmts s k xs).value)) next
      ∙ ap (λ z. joined (stmts_of old) (more_stmts z (typed_stmts s (typed_stmt s n x).next xs).value)) is ∙ so_far

  pub stmt_next : (n m whole : ℕ) (x : tree.Stmt) (xs : tree.Stmts) → m ≡ (typed_stmt s n x).next → (typed_stmts s n (tree.more_stmts x xs)).next ≡ whole → (typed_stmts s m xs).next ≡ whole
  stmt_next n m whole x xs next so_far = ap (λ k. (typed_stmts s k xs).next) next ∙ so_far

  pub stmt_found : (n m : ℕ) (x : tree.Stmt) (xs : tree.Stmts) (old new whole : List Finding) → m ≡ (typed_stmt s n x).next → new ≡ found_behind old (typed_stmt s n x).found →
      found_behind old (typed_stmts s n (tree.more_stmts x xs)).found ≡ whole → found_behind new (typed_stmts s m xs).found ≡ whole
  stmt_found n m x xs old new whole next found so_far =
      ap (λ k. found_behind new (typed_stmts s k xs).found) next
      ∙ two_found_end old new whole (typed_stmt s n x).found (typed_stmts s (typed_stmt s n x).next xs).found found so_far

  when_is : (line n : ℕ) (looked : Looked) (x : tree.When) (xs : tree.Whens) →
      typed_whens s line n looked (tree.more_whens x xs) ≡ record {
        value = more_whens (typed_when s line n looked x).value (typed_whens s line (typed_when s line n looked x).next looked xs).value;
        next = (typed_whens s line (typed_when s line n looked x).next looked xs).next;
        found = (typed_whens s line n looked (tree.more_whens x xs)).found;
      }
  when_is line n looked (tree.MkWhen choices body) xs = refl

  pub when_value : (line n m : ℕ) (looked : Looked) (x : tree.When) (xs : tree.Whens) (old new : List When) (y : When) (whole : Whens) → m ≡ (typed_when s line n looked x).next → y ≡ (typed_when s line n looked x).value →
      new ≡ old ++ y ∷ [] → whens_behind old (typed_whens s line n looked (tree.more_whens x xs)).value ≡ whole → whens_behind new (typed_whens s line m looked xs).value ≡ whole
  when_value line n m looked x xs old new y whole next is made so_far =
      ap (λ ys. whens_behind ys (typed_whens s line m looked xs).value) made ∙ whens_push old y (typed_whens s line m looked xs).value
      ∙ ap (λ k. whens_behind old (more_whens y (typed_whens s line k looked xs).value)) next
      ∙ ap (λ z. whens_behind old (more_whens z (typed_whens s line (typed_when s line n looked x).next looked xs).value)) is
      ∙ sym (ap (λ r. whens_behind old r.value) (when_is line n looked x xs)) ∙ so_far

  pub when_next : (line n m whole : ℕ) (looked : Looked) (x : tree.When) (xs : tree.Whens) → m ≡ (typed_when s line n looked x).next →
      (typed_whens s line n looked (tree.more_whens x xs)).next ≡ whole → (typed_whens s line m looked xs).next ≡ whole
  when_next line n m whole looked x xs next so_far = ap (λ k. (typed_whens s line k looked xs).next) next ∙ sym (ap (λ r. r.next) (when_is line n looked x xs)) ∙ so_far

  -- what a WHEN breaks, and then the others
  when_found_is : (line n : ℕ) (looked : Looked) (x : tree.When) (xs : tree.Whens) (findings : List Finding) →
      found_behind findings (typed_whens s line n looked (tree.more_whens x xs)).found
      ≡ found_behind (found_behind findings (typed_when s line n looked x).found) (typed_whens s line (typed_when s line n looked x).next looked xs).found
  when_found_is line n looked (tree.MkWhen choices body) xs findings =
      let a = (typed_choices s line n looked choices).found in
      let b = (typed_stmts s (typed_choices s line n looked choices).next body).found in
      let c = (typed_whens s line (typed_stmts s (typed_choices s line n looked choices).next body).next looked xs).found in
      found_append findings a (b ++ (c ++ [])) ∙ found_append (found_behind findings a) b (c ++ [])
      ∙ ap (λ zs. found_behind (found_behind (found_behind findings a) b) zs) (append-nil c)
      ∙ sym (ap (λ fs. found_behind fs c) (found_append findings a (b ++ []) ∙ ap (λ zs. found_behind (found_behind findings a) zs) (append-nil b)))

  pub when_found : (line n m : ℕ) (looked : Looked) (x : tree.When) (xs : tree.Whens) (old new whole : List Finding) → m ≡ (typed_when s line n looked x).next → new ≡ found_behind old (typed_when s line n looked x).found →
      found_behind old (typed_whens s line n looked (tree.more_whens x xs)).found ≡ whole → found_behind new (typed_whens s line m looked xs).found ≡ whole
  when_found line n m looked x xs old new whole next found so_far =
      ap (λ k. found_behind new (typed_whens s line k looked xs).found) next
      ∙ ap (λ fs. found_behind fs (typed_whens s line (typed_when s line n looked x).next looked xs).found) found
      ∙ sym (when_found_is line n looked x xs old) ∙ so_far

  -- a sentence more, and a paragraph more
  pub sentence_value : (n m : ℕ) (x : tree.Stmts) (xs : List tree.Stmts) (old new whole : Stmts) → m ≡ (typed_stmts s n x).next → new ≡ joined old (typed_stmts s n x).value →
      joined old (typed_sentences s n (x ∷ xs)).value ≡ whole → joined new (typed_sentences s m xs).value ≡ whole
  sentence_value n m x xs old new whole next made so_far =
      ap (λ ys. joined ys (typed_sentences s m xs).value) made ∙ joined_assoc old (typed_stmts s n x).value (typed_sentences s m xs).value
      ∙ ap (λ k. joined old (joined (typed_stmts s n x).value (typed_sentences s k xs).value)) next ∙ so_far

  pub sentence_next : (n m whole : ℕ) (x : tree.Stmts) (xs : List tree.Stmts) → m ≡ (typed_stmts s n x).next → (typed_sentences s n (x ∷ xs)).next ≡ whole → (typed_sentences s m xs).next ≡ whole
  sentence_next n m whole x xs next so_far = ap (λ k. (typed_sentences s k xs).next) next ∙ so_far

  pub sentence_found : (n m : ℕ) (x : tree.Stmts) (xs : List tree.Stmts) (old new whole : List Finding) → m ≡ (typed_stmts s n x).next → new ≡ found_behind old (typed_stmts s n x).found →
      found_behind old (typed_sentences s n (x ∷ xs)).found ≡ whole → found_behind new (typed_sentences s m xs).found ≡ whole
  sentence_found n m x xs old new whole next found so_far =
      ap (λ k. found_behind new (typed_sentences s k xs).found) next
      ∙ two_found_end old new whole (typed_stmts s n x).found (typed_sentences s (typed_stmts s n x).next xs).found found so_far

  pub para_value : (n m : ℕ) (x : tree.Paragraph) (xs : List tree.Paragraph) (old new whole : List Para) (y : Para) → m ≡ (typed_para s n x).next → y ≡ (typed_para s n x).value → new ≡ old ++ y ∷ [] →
      old ++ (typed_paras s n (x ∷ xs)).value ≡ whole → new ++ (typed_paras s m xs).value ≡ whole
  para_value n m x xs old new whole y next is made so_far =
      ap (λ ys. ys ++ (typed_paras s m xs).value) made ∙ append_assoc old (y ∷ []) (typed_paras s m xs).value
      ∙ ap (λ k. old ++ y ∷ (typed_paras s k xs).value) next ∙ ap (λ z. old ++ z ∷ (typed_paras s (typed_para s n x).next xs).value) is ∙ so_far

  pub para_next : (n m whole : ℕ) (x : tree.Paragraph) (xs : List tree.Paragraph) → m ≡ (typed_para s n x).next → (typed_paras s n (x ∷ xs)).next ≡ whole → (typed_paras s m xs).next ≡ whole
  para_next n m whole x xs next so_far = ap (λ k. (typed_paras s k xs).next) next ∙ so_far

  pub para_found : (n m : ℕ) (x : tree.Paragraph) (xs : List tree.Paragraph) (old new whole : List Finding) → m ≡ (typed_para s n x).next → new ≡ found_behind old (typed_para s n x).found →
      found_behind old (typed_paras s n (x ∷ xs)).found ≡ whole → found_behind new (typed_paras s m xs).found ≡ whole
  para_found n m x xs old new whole next found so_far =
      let a = (typed_sentences s n x.sentences).found in
      let b = (typed_paras s (typed_sentences s n x.sentences).next xs).found in
      ap (λ k. found_behind new (typed_paras s k xs).found) next
      ∙ two_found_end old new whole a b (found ∙ ap (found_behind old) (append-nil a)) so_far
