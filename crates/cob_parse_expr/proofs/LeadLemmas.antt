-- What a word that stands first, or doesn't, says of reading.
use Rattle.std.proofs.Common.{◌≡◌, true, false, List, ◌∷◌, length, Option, Some, None, is_some, Ok, Err, refl, sym, subst}
use Rattle.cob_tree.specs.Symbols.{Symbol, Sign}
use Rattle.reading.specs.Readers.{Stop, lead, behind}
use Rattle.cob_parse_expr.specs.LexemeClasses.{of, is, on_its_line}
use Rattle.cob_parse_expr.specs.Steps.{Leads, Lacks}

module _ (class : Symbol → Option (Unit {0})) (s : Sign) (rest : List Sign) where
  leads_as : (o : Option (Unit {0})) → class s.symbol ≡ o → is_some o ≡ true → Leads (of class) tt (s ∷ rest) rest
  leads_as None e t = absurd cc
  leads_as (Some x) e t = record { reads = rw e refl; stands = rw e refl }

  lacks_as : (o : Option (Unit {0})) → class s.symbol ≡ o → is_some o ≡ false → Lacks (of class) (s ∷ rest)
  lacks_as None e t = record { reads = rw e refl; stands = rw e refl }
  lacks_as (Some x) e t = absurd cc

  cut_as : (o : Option (Unit {0})) → class s.symbol ≡ o → is_some o ≡ true → Some rest ≡ behind (of class) (s ∷ rest)
  cut_as None e t = absurd cc
  cut_as (Some x) e t = rw e refl

  uncut_as : (o : Option (Unit {0})) → class s.symbol ≡ o → is_some o ≡ false → None ≡ behind (of class) (s ∷ rest)
  uncut_as None e t = rw e refl
  uncut_as (Some x) e t = absurd cc

  line_as : (o : Option (Unit {0})) → class s.symbol ≡ o → is_some o ≡ true → lead (on_its_line class) (s ∷ rest) ≡ Ok ((s.line, tt), rest)
  line_as None e t = absurd cc
  line_as (Some x) e t = rw e refl

  no_line_as : (o : Option (Unit {0})) → class s.symbol ≡ o → is_some o ≡ false → lead (on_its_line class) (s ∷ rest) ≡ Err (Stop (length (s ∷ rest)))
  no_line_as None e t = rw e refl
  no_line_as (Some x) e t = absurd cc

module _ (class : Symbol → Option (Unit {0})) (ts : List Sign) (s : Sign) (rest : List Sign) (first : ts ≡ s ∷ rest) where
  pub leads : is class s.symbol ≡ true → Leads (of class) tt ts rest
  leads t = subst (λ (xs : List Sign). Leads (of class) tt xs rest) (sym first) (leads_as class s rest (class s.symbol) refl t)

  pub lacks : is class s.symbol ≡ false → Lacks (of class) ts
  lacks t = subst (λ (xs : List Sign). Lacks (of class) xs) (sym first) (lacks_as class s rest (class s.symbol) refl t)

  pub cut : is class s.symbol ≡ true → Some rest ≡ behind (of class) ts
  cut t = subst (λ (xs : List Sign). Some rest ≡ behind (of class) xs) (sym first) (cut_as class s rest (class s.symbol) refl t)

  pub uncut : is class s.symbol ≡ false → None ≡ behind (of class) ts
  uncut t = subst (λ (xs : List Sign). None ≡ behind (of class) xs) (sym first) (uncut_as class s rest (class s.symbol) refl t)

  pub on_a_line : is class s.symbol ≡ true → lead (on_its_line class) ts ≡ Ok ((s.line, tt), rest)
  on_a_line t = subst (λ (xs : List Sign). lead (on_its_line class) xs ≡ Ok ((s.line, tt), rest)) (sym first) (line_as class s rest (class s.symbol) refl t)

  pub on_no_line : is class s.symbol ≡ false → lead (on_its_line class) ts ≡ Err (Stop (length ts))
  on_no_line t = subst (λ (xs : List Sign). lead (on_its_line class) xs ≡ Err (Stop (length xs))) (sym first) (no_line_as class s rest (class s.symbol) refl t)
