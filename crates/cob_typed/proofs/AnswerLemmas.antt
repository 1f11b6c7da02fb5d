-- The answer, from what was found.
use Rattle.std.proofs.Common.{◌≡◌, ℕ, ◌-◌, inl, List, [], ◌∷◌, ◌++◌, map, Option, Some, None, Err, refl, sym, ap, ◌∙◌}
use Rattle.rule_order.specs.Order.{or_first, least, first_broken}
use Rattle.rule_order.proofs.OrderLemmas.{first_is, kept_is, is_first, is_kept}
use Rattle.cob_tree.specs.declared.tree.Tree as declared_tree
use Rattle.cob_tree.specs.declared.tree.Paragraph.{Paragraph}
use Rattle.cob_tree.specs.Stmt as tree
use Rattle.cob_tree.specs.StmtView.{plain_sentence, plain_paragraph, plain_tree}
use Rattle.cob_typed_exprs.specs.declared.finding.Finding.{Finding}
use Rattle.cob_typed_exprs.specs.Scope.{Scope}
use Rattle.cob_typed.specs.StatementSteps.{all_from}
use Rattle.cob_typed.proofs.FoundLemmas.{found_append}
use Rattle.cob_data.specs.declared.end.Rule.{Rule}
use Rattle.cob_data.specs.declared.layout.Layout.{Layout}
use Rattle.cob_program.specs.declared.program.Program as declared_program
use Rattle.cob_program.specs.ActView.{plain_para, plain_program}
use Rattle.cob_typed.specs.declared.typing.Typed as declared_typed
use Rattle.cob_typed.specs.declared.end.TypedEnd.{TypedEnd}
use Rattle.cob_typed.specs.declared.end.TypedEnd.TheVariants as typed_end
use Rattle.cob_typed.specs.Lists.{found_behind}
use Rattle.cob_typed.specs.Typing.{typed_all, typed, clashes, lines_of, scope_of, typing_rules, IsTyped, IsOutside}
use Rattle.cob_typed.specs.Answer.{IsRefused, IsAccepted, lines_in, AreTyped}
use Rattle.cob_typed.proofs.ParaLemmas.{lines_are, same_names}

some_is_none : {A : Type 0} (a : A) → Some a ≡ None → ⊥
some_is_none a e = cc

same_lines : {R : Type 0} (f g : R → List ℕ) (table : List R) → ((r : R) → f r ≡ g r) → first_broken f table ≡ first_broken g table
same_lines f g [] same = refl
same_lines f g (r ∷ rs) same = ap (λ ls. or_first r (least ls) (first_broken f rs)) (same r) ∙ ap (or_first r (least (g r))) (same_lines f g rs same)

module _ (l : Layout) (t : tree.Tree) (x : declared_typed.Typed) (is : AreTyped l t x) where
  found_as : (rule : Rule) → lines_in x.findings.items rule ≡ lines_of l t rule
  found_as rule = ap (λ fs. lines_in fs rule) is.findings ∙ lines_are ((typed_all l t).found ++ clashes [] t.paragraphs) rule

  broken_as : (o : Option (Rule × ℕ)) → o ≡ first_broken (lines_in x.findings.items) typing_rules → first_broken (lines_of l t) typing_rules ≡ o
  broken_as o e = sym (e ∙ same_lines (lines_in x.findings.items) (lines_of l t) typing_rules found_as)

  pub outside_answer : (rule : Rule) (line : ℕ) → Some (rule, line) ≡ first_broken (lines_in x.findings.items) typing_rules → IsOutside l t rule line
  outside_answer rule line e = first_is (lines_of l t) typing_rules rule line (broken_as (Some (rule, line)) e)

  pub outside_refused : (r : Rule) (n : ℕ) → Some (r, n) ≡ first_broken (lines_in x.findings.items) typing_rules → (rule : Rule) (line : ℕ) → IsOutside l t rule line → IsRefused (Err (typed_end.Outside r n)) rule line
  outside_refused r n e rule line broken =
      let same : Some (r, n) ≡ Some (rule, line) = sym (broken_as (Some (r, n)) e) ∙ is_first (lines_of l t) typing_rules rule line broken in
      inl (ap end_of same)
    where
      end_of : Option (Rule × ℕ) → TypedEnd
      end_of None = typed_end.Memory
      end_of (Some y) = typed_end.Outside y.0 y.1

  pub outside_accepted : (r : Rule) (n : ℕ) → Some (r, n) ≡ first_broken (lines_in x.findings.items) typing_rules → IsTyped l t → IsAccepted (Err (typed_end.Outside r n))
  outside_accepted r n e kept = let none : Some (r, n) ≡ None = sym (broken_as (Some (r, n)) e) ∙ is_kept (lines_of l t) typing_rules kept in absurd (some_is_none (r, n) none)

  pub typed_answer : None ≡ first_broken (lines_in x.findings.items) typing_rules → IsTyped l t
  typed_answer e = kept_is (lines_of l t) typing_rules (broken_as None e)

  pub typed_refused : None ≡ first_broken (lines_in x.findings.items) typing_rules → (rule : Rule) (line : ℕ) → IsOutside l t rule line → ⊥
  typed_refused e rule line broken = let some : None ≡ Some (rule, line) = sym (broken_as None e) ∙ is_first (lines_of l t) typing_rules rule line broken in some_is_none (rule, line) (sym some)

  pub program_is : (p : declared_program.Program) → p.layout ≡ l → p.paras ≡ x.paras.items → p.statements ≡ x.statements → plain_program p ≡ typed l t
  program_is p laid paras statements =
      let made : map plain_para p.paras ≡ (typed_all l t).value = ap (map plain_para) paras ∙ is.paras in
      rw (laid, made, statements ∙ is.statements) refl

pub scope_is : (s : Scope) (l : Layout) (t : declared_tree.Tree) (ps : List Paragraph) → s ≡ record { layout = l; paras = map (λ p. p.name) ps } → ps ≡ t.paragraphs → s ≡ scope_of l (plain_tree t)
scope_is s l t ps is same = is ∙ ap (λ ns. record { layout = l; paras = ns }) (ap (map (λ p. p.name)) same ∙ sym (same_names t.paragraphs))

module _ (l : Layout) (t : declared_tree.Tree) (s : Scope) where
  abbrev pub sentences_in : List tree.Stmts
  sentences_in = map plain_sentence t.sentences

  abbrev pub paragraphs_in : List tree.Paragraph
  paragraphs_in = map plain_paragraph t.paragraphs

  pub are_typed : (x : declared_typed.Typed) (old mid : List Finding) (n : ℕ) → s ≡ scope_of l (plain_tree t) → old ≡ [] → map plain_para x.paras.items ≡ (all_from s 1 sentences_in paragraphs_in).value →
      n ≡ (all_from s 1 sentences_in paragraphs_in).next → x.statements ≡ n - 1 → mid ≡ found_behind old (all_from s 1 sentences_in paragraphs_in).found →
      x.findings.items ≡ found_behind mid (clashes [] paragraphs_in) → AreTyped l (plain_tree t) x
  are_typed x old mid n same none paras next count first rest = record {
    paras = paras ∙ ap (λ z. (all_from z 1 sentences_in paragraphs_in).value) same;
    statements = count ∙ ap (λ k. k - 1) (next ∙ ap (λ z. (all_from z 1 sentences_in paragraphs_in).next) same);
    findings = rest ∙ ap (λ fs. found_behind fs (clashes [] paragraphs_in)) (first ∙ ap (λ fs. found_behind fs (all_from s 1 sentences_in paragraphs_in).found) none ∙ ap (λ z. found_behind [] (all_from z 1 sentences_in paragraphs_in).found) same)
        ∙ sym (found_append [] (typed_all l (plain_tree t)).found (clashes [] paragraphs_in));
  }
