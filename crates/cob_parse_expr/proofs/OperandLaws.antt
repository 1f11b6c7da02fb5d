-- The laws of references, constants and operands.
use Rattle.std.proofs.Common.{◌≡◌, ℕ, ◌<◌, ◌⊎◌, inl, inr, Bool, true, false, List, [], ◌∷◌, ◌++◌, Option, Some, None, is_some, refl, sym, ap, ◌∙◌, map}
use Rattle.cob_tree.specs.declared.operand.Const.{Const}
use Rattle.cob_tree.specs.declared.operand.Const.TheVariants as const
use Rattle.cob_tree.specs.declared.operand.Ref.{Ref}
use Rattle.cob_tree.specs.declared.operand.Opnd.{Opnd}
use Rattle.cob_tree.specs.declared.operand.Opnd.TheVariants as opnd
use Rattle.cob_tree.specs.declared.keyword.Keyword.TheVariants as key
use Rattle.cob_tree.specs.Symbols.{Symbol, Key, Name, Sign}
use Rattle.cob_tree.specs.Items.{Item, Fits, item, name, each}
use Rattle.cob_tree.specs.Cues.{Cue, is, Qualifies}
use Rattle.cob_parse_expr.specs.Alphabet.{grammar}
use Rattle.cob_tree.specs.PrintExpr.{const_symbol, print_const, print_qualifier, print_ref, print_opnd}
use Rattle.cob_tree.specs.Takes.{takes_ref, takes_opnd}
use Rattle.reading.specs.Readers.{lead, seq, many, stands}
use Rattle.reading.specs.Printing.{Matches}
use Rattle.reading.specs.Law.{Syntax, Law}
use Rattle.reading.proofs.Texts.{Always, takes_nothing}
use Rattle.reading.proofs.Dependent.{dependent_syntax, seq_syntax, seq_law}
use Rattle.reading.proofs.Lead.{lead_syntax, lead_law, branch_law}
use Rattle.reading.proofs.Seen.{View, seen_law}
use Rattle.reading.proofs.Starts.{Begins, starts_by_one}
use Rattle.reading.proofs.Many.{is_given, many_syntax, many_law}
use Rattle.reading.proofs.Choose.{choose_syntax, choose_law}
use Rattle.cob_parse_expr.specs.LexemeClasses.{name_symbol}
use Rattle.cob_parse_expr.specs.Classes.{name_of, const_of, of_of}
use Rattle.cob_parse_expr.specs.Reading.{here, qualifier_at, second, make_ref, ref_at, make_opnd, opnd_at}
use Rattle.cob_parse_expr.proofs.CueLemmas.{not_taken}
use Rattle.cob_parse_expr.proofs.ClassLaws.{ofs, names, consts, of_told}
use Rattle.cob_parse_expr.proofs.Generic.{tells_by_one, all_good}

abbrev pub ref_syntax : ℕ → Syntax Item Cue Ref
ref_syntax d = record { Good = Always; print = print_ref d; takes = λ r. takes_ref }

abbrev pub const_syntax : ℕ → Syntax Item Cue Const
const_syntax d = record { Good = Always; print = print_const d; takes = takes_nothing }

abbrev pub opnd_syntax : ℕ → Syntax Item Cue Opnd
opnd_syntax d = record { Good = Always; print = print_opnd d; takes = takes_opnd }

abbrev qualifier_syntax : ℕ → Syntax Item Cue (Unit {0} × List ℕ)
qualifier_syntax d = dependent_syntax (lead_syntax Always (λ x. item d (Key key.Of))) (λ x. lead_syntax Always (name d))

abbrev qualifiers_syntax : ℕ → Syntax Item Cue (List (Unit {0} × List ℕ))
qualifiers_syntax d = many_syntax (is Qualifies) (qualifier_syntax d) Qualifies

abbrev tagged : List ℕ → Unit {0} × List ℕ
tagged text = (tt, text)

untagged : (of : List (List ℕ)) → map second (map tagged of) ≡ of
untagged [] = refl
untagged (x ∷ xs) = ap (λ (z : List (List ℕ)). x ∷ z) (untagged xs)

module _ (d top : ℕ) (low : d < top) where
  qualifiers_law : Law grammar (many (here Qualifies) qualifier_at) (qualifiers_syntax d) top
  qualifiers_law = many_law law (is Qualifies) Qualifies (λ x p good e. refl) (starts_by_one grammar (is Qualifies) begin (not_taken (is Qualifies) refl refl refl refl))
    where
      law : Law grammar qualifier_at (qualifier_syntax d) top
      law = branch_law (ofs d) top (λ x allowed. low) tt tt (λ x. lead name_of) (λ x. lead_syntax Always (name d)) (λ x allowed. lead_law (names d) top (λ y a. low) [] tt)

      begin : Begins grammar (is Qualifies) (qualifier_syntax d)
      begin x [] rest good spells = absurd spells
      begin x (t ∷ text) rest good spells = of_told t (text ++ rest) ∙ ap is_some ((ofs d).reads tt t tt spells.0)

  view : View (seq_syntax (lead_syntax Always (name d)) (qualifiers_syntax d)) (ref_syntax d) make_ref (λ r. (r.name, map tagged r.of))
  view = record {
    back = λ r good. ap (λ (z : List (List ℕ)). make_ref' r.name z) (untagged r.of);
    print = λ x good. ap (λ (z : List Item). name d x.0 ∷ z) (same x.1);
    takes = λ x p good. takes x.1 p;
    good = λ x good. tt;
    good_back = λ r good. (tt, all_good (is Qualifies) (qualifier_syntax d) Qualifies (λ x g. refl) (λ x. (tt, tt)) (map tagged r.of));
  }
    where
      make_ref' : List ℕ → List (List ℕ) → Ref
      make_ref' name of = record { name = name; of = of }

      same : (xs : List (Unit {0} × List ℕ)) → each (print_qualifier d) (map second xs) ≡ (qualifiers_syntax d).print xs
      same [] = refl
      same (x ∷ xs) = ap (λ (z : List Item). item d (Key key.Of) ∷ name d x.1 ∷ z) (same xs)

      takes : (xs : List (Unit {0} × List ℕ)) (p : Cue) → takes_ref p ≡ (qualifiers_syntax d).takes xs p
      takes [] p = refl
      takes (x ∷ []) p = refl
      takes (x ∷ y ∷ xs) p = takes (y ∷ xs) p

  pub ref_law : Law grammar ref_at (ref_syntax d) top
  ref_law = seen_law (seq_law (lead_law (names d) top (λ x a. low) [] tt) (λ x p good. refl) qualifiers_law) view

  pub const_law : Law grammar (lead const_of) (const_syntax d) top
  const_law = lead_law (consts d) top (λ x a. low) const.Zero tt

  abbrev opnd_parts : Opnd → Ref ⊎ Const
  opnd_parts (opnd.Ref r) = inl r
  opnd_parts (opnd.Const c) = inr c

  no_name : (c : Const) → name_symbol (const_symbol c) ≡ None
  no_name (const.Number n) = refl
  no_name (const.Text text) = refl
  no_name const.Zero = refl
  no_name const.Space = refl
  no_name const.Quote = refl
  no_name const.HighValue = refl
  no_name const.LowValue = refl

  pub opnd_law : Law grammar opnd_at (opnd_syntax d) top
  opnd_law = seen_law (choose_law ref_law const_law (tells_by_one (λ t y z. refl) first second_)) (record { back = back; print = print; takes = takes; good = λ x good. tt; good_back = good_back })
    where
      first : (r : Ref) (text rest : List Sign) → Always r → Matches grammar (print_ref d r) text → stands name_of (text ++ rest) ≡ true
      first r [] rest good spells = absurd spells
      first r (t ∷ text) rest good spells = ap (λ (y : Symbol). is_some (name_symbol y)) spells.0.symbol

      second_ : (c : Const) (text rest : List Sign) → Always c → Matches grammar (print_const d c) text → stands name_of (text ++ rest) ≡ false
      second_ c [] rest good spells = absurd spells
      second_ c (t ∷ text) rest good spells = ap (λ (y : Symbol). is_some (name_symbol y)) spells.0.symbol ∙ ap is_some (no_name c)

      back : (o : Opnd) → Always o → make_opnd (opnd_parts o) ≡ o
      back (opnd.Ref r) good = refl
      back (opnd.Const c) good = refl

      print : (x : Ref ⊎ Const) → (choose_syntax (ref_syntax d) (const_syntax d)).Good x → print_opnd d (make_opnd x) ≡ (choose_syntax (ref_syntax d) (const_syntax d)).print x
      print (inl r) good = refl
      print (inr c) good = refl

      takes : (x : Ref ⊎ Const) (p : Cue) → (choose_syntax (ref_syntax d) (const_syntax d)).Good x → takes_opnd (make_opnd x) p ≡ (choose_syntax (ref_syntax d) (const_syntax d)).takes x p
      takes (inl r) p good = refl
      takes (inr c) p good = refl

      good_back : (o : Opnd) → Always o → (choose_syntax (ref_syntax d) (const_syntax d)).Good (opnd_parts o)
      good_back (opnd.Ref r) good = tt
      good_back (opnd.Const c) good = tt
