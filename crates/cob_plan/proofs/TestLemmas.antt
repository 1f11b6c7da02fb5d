-- Simple conditions of a statement.
use Rattle.std.proofs.Common.{◌≡◌, ◌<◌, ℕ, length, Bool, false, List, refl, sym, ap, ◌∙◌, Option, Some, None}
use Rattle.std.specs.Prelude.{slice_get}
use Rattle.std.specs.Borrow.{Bor}
use Rattle.std.specs.Option.{option_map, option_copied}
use Rattle.std.proofs.lemmas.Option.{none-some, slice_get-get_or}
use Rattle.cob_program.specs.declared.logic.Test as declared_test
use Rattle.cob_program.specs.LogicView.{plain_test}
use Rattle.cob_program.specs.Logic.{Test, always}
use Rattle.cob_program.specs.Act.{times, Act, perform, Program}
use Rattle.cob_runs.specs.State.{World}
use Rattle.cob_runs.specs.Effects.{tests_in_act, edge_decided, edge_tested, is_times}
use Rattle.cob_plan.specs.Listing.{plain_tests}
use Rattle.cob_plan.specs.Fitting.{Tests}

pub found_test : (r : Option (Bor declared_test.Test)) (x : Bor declared_test.Test) (tests : List (Bor declared_test.Test))
    (all : List Test) (place : ℕ) → option_map plain_test (option_copied r) ≡ slice_get (plain_tests tests) place →
    r ≡ Some x → plain_tests tests ≡ all → slice_get all place ≡ Some (plain_test x.now)
found_test r x tests all place found is same =
    ap (λ ts. slice_get ts place) (sym same) ∙ sym found ∙ ap (λ o. option_map plain_test (option_copied o)) is

pub no_test : (r : Option (Bor declared_test.Test)) (tests : List (Bor declared_test.Test)) (all : List Test)
    (place : ℕ) → option_map plain_test (option_copied r) ≡ slice_get (plain_tests tests) place → r ≡ None →
    plain_tests tests ≡ all → place < length all → ⊥
no_test r tests all place found is same within =
    let none = ap (λ ts. slice_get ts place) (sym same) ∙ sym found
    ∙ ap (λ o. option_map plain_test (option_copied o)) is in
    none-some _ (sym none ∙ slice_get-get_or all place always within)

-- but for loops with TIMES
pub test_there : (k : ℕ) (a : Act) → is_times a ≡ false → Tests k a → k < length (tests_in_act a)
test_there k (perform body (times x)) e h = absurd cc
test_there k _ e h = h

pub tested_is : (p : Program) (number : ℕ) (w : World) (wanted : Bool) (k : ℕ) (a : Act) → is_times a ≡ false →
    edge_tested p number None w wanted k a ≡ edge_decided p number None w wanted (slice_get (tests_in_act a) k)
tested_is p number w wanted k (perform body (times x)) e = absurd cc
tested_is p number w wanted k _ e = refl
