-- Steps of the loops over conditions and WHENs.
use Rattle.std.proofs.Common.{◌≡◌, ℕ, ◌+◌, ◌<◌, List, ◌++◌, length, get_or, drop, map, Option, Some, None, refl, ap, ◌∙◌}
use Rattle.std.specs.Borrow.{Bor}
use Rattle.std.specs.Option.{option_map, option_copied}
use Rattle.cob_program.specs.declared.act.When as declared_when
use Rattle.cob_program.specs.declared.logic.Logic as declared_logic
use Rattle.cob_program.specs.declared.logic.Test as declared_test
use Rattle.cob_program.specs.Logic.{Logic, Logics}
use Rattle.cob_program.specs.LogicView.{plain_test, plain_logic, plain_logics}
use Rattle.cob_program.specs.Act.{When, MkWhen, Whens, more_whens}
use Rattle.cob_program.specs.ActView.{plain_when, plain_whens}
use Rattle.cob_program.proofs.Loops.{item_step}
use Rattle.cob_runs.specs.Effects.{tests_of, tests_among, tests_in_list, tests_in_whens}
use Rattle.edge_parts.specs.PartView.{plain_reference}
use Rattle.edge_parts.specs.Pieces.{tests_in_when}

abbrev pub logics_from : List declared_logic.Logic → ℕ → Logics
logics_from xs i = plain_logics (drop i xs)

abbrev pub list_from : List declared_logic.Logic → ℕ → List Logic
list_from xs i = map plain_logic (drop i xs)

abbrev pub whens_from : List declared_when.When → ℕ → Whens
whens_from xs i = plain_whens (drop i xs)

pub logic_first : (xs : List declared_logic.Logic) (i : ℕ) (x : declared_logic.Logic) → i < length xs →
    x ≡ get_or xs i x → tests_among (logics_from xs i) ≡ tests_of (plain_logic x) ++ tests_among (logics_from xs (i + 1))
logic_first xs i x within is = ap (λ ys. tests_among (plain_logics ys)) (item_step xs i x within is)

pub listed_first : (xs : List declared_logic.Logic) (i : ℕ) (x : declared_logic.Logic) → i < length xs →
    x ≡ get_or xs i x → tests_in_list (list_from xs i) ≡ tests_of (plain_logic x) ++ tests_in_list (list_from xs (i + 1))
listed_first xs i x within is = ap (λ ys. tests_in_list (map plain_logic ys)) (item_step xs i x within is)

more_whens_tests : (w : When) (ws : Whens) → tests_in_whens (more_whens w ws) ≡ tests_in_when w ++ tests_in_whens ws
more_whens_tests (MkWhen tests ss) ws = refl

pub when_first : (xs : List declared_when.When) (i : ℕ) (x : declared_when.When) → i < length xs →
    x ≡ get_or xs i x → tests_in_whens (whens_from xs i) ≡ tests_in_when (plain_when x) ++ tests_in_whens (whens_from xs (i + 1))
when_first xs i x within is = ap (λ ys. tests_in_whens (plain_whens ys)) (item_step xs i x within is)
    ∙ more_whens_tests (plain_when x) (whens_from xs (i + 1))

-- a test that is found
pub seen_test : (o : Option (Bor declared_test.Test)) →
    option_map plain_test (option_copied o) ≡ option_map plain_reference o
seen_test None = refl
seen_test (Some t) = refl
