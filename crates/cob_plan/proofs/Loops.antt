-- Steps of the loops over lists of WHENs and of conditions: what is left gives the whole.
use Rattle.std.proofs.Common.{ℕ, ◌+◌, ◌≡◌, ◌<◌, ◌≤◌, List, [], ◌++◌, length, map, drop, get_or, refl, ap, ◌∙◌}
use Rattle.std.proofs.lemmas.List.{drop_all}
use Rattle.cob_program.specs.declared.act.When as declared_when
use Rattle.cob_program.specs.declared.logic.Logic as declared_logic
use Rattle.cob_program.specs.Logic.{Logic, Logics}
use Rattle.cob_program.specs.LogicView.{plain_logic, plain_logics}
use Rattle.cob_program.specs.Act.{When, MkWhen, Whens, more_whens}
use Rattle.cob_program.specs.ActView.{plain_when, plain_whens}
use Rattle.cob_program.proofs.Loops.{item_step}
use Rattle.cob_runs.specs.Effects.{tests_of, tests_among, tests_in_list, tests_in_whens}
use Rattle.cob_plan.specs.Listing.{tests_in_when}

abbrev pub whens_from : List declared_when.When → ℕ → Whens
whens_from xs i = plain_whens (drop i xs)

abbrev pub logics_from : List declared_logic.Logic → ℕ → Logics
logics_from xs i = plain_logics (drop i xs)

abbrev pub logic_list_from : List declared_logic.Logic → ℕ → List Logic
logic_list_from xs i = map plain_logic (drop i xs)

pub logics_step : (xs : List declared_logic.Logic) (i : ℕ) (x : declared_logic.Logic) → i < length xs →
    x ≡ get_or xs i x → tests_among (logics_from xs i) ≡ tests_of (plain_logic x) ++ tests_among (logics_from xs (i + 1))
logics_step xs i x within is = ap (λ ys. tests_among (plain_logics ys)) (item_step xs i x within is)

pub logics_end : (xs : List declared_logic.Logic) (i : ℕ) → length xs ≤ i → tests_among (logics_from xs i) ≡ []
logics_end xs i past = ap (λ ys. tests_among (plain_logics ys)) (drop_all i xs past)

pub logic_list_step : (xs : List declared_logic.Logic) (i : ℕ) (x : declared_logic.Logic) → i < length xs →
    x ≡ get_or xs i x →
    tests_in_list (logic_list_from xs i) ≡ tests_of (plain_logic x) ++ tests_in_list (logic_list_from xs (i + 1))
logic_list_step xs i x within is = ap (λ ys. tests_in_list (map plain_logic ys)) (item_step xs i x within is)

pub logic_list_end : (xs : List declared_logic.Logic) (i : ℕ) → length xs ≤ i → tests_in_list (logic_list_from xs i) ≡ []
logic_list_end xs i past = ap (λ ys. tests_in_list (map plain_logic ys)) (drop_all i xs past)

first_when : (w : When) (ws : Whens) → tests_in_whens (more_whens w ws) ≡ tests_in_when w ++ tests_in_whens ws
first_when (MkWhen tests ss) ws = refl

pub whens_step : (xs : List declared_when.When) (i : ℕ) (x : declared_when.When) → i < length xs → x ≡ get_or xs i x →
    tests_in_whens (whens_from xs i) ≡ tests_in_when (plain_when x) ++ tests_in_whens (whens_from xs (i + 1))
whens_step xs i x within is = ap (λ ys. tests_in_whens (plain_whens ys)) (item_step xs i x within is)
    ∙ first_when (plain_when x) (whens_from xs (i + 1))

pub whens_end : (xs : List declared_when.When) (i : ℕ) → length xs ≤ i → tests_in_whens (whens_from xs i) ≡ []
whens_end xs i past = ap (λ ys. tests_in_whens (plain_whens ys)) (drop_all i xs past)
