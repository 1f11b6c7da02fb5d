-- The words of one command aren't those of another.
use Rattle.std.proofs.Common.{◌≡◌, ℕ, List}
use Rattle.command_words.specs.Commands.{Run, IsCommand, OneReading, analyse, check, run, trial}

module _ (one_reading : OneReading) (words : List (List ℕ)) where
  pub check_or_run : (source certificate : List ℕ) (r : Run) → IsCommand words (check source certificate)
      → IsCommand words (run r) → ⊥
  check_or_run source certificate r is also =
      let e = one_reading words (check source certificate) (run r) is also in cc

  pub analyse_or_run : (source certificate : List ℕ) (r : Run) → IsCommand words (analyse source certificate)
      → IsCommand words (run r) → ⊥
  analyse_or_run source certificate r is also =
      let e = one_reading words (analyse source certificate) (run r) is also in cc

  pub analyse_or_check : (source certificate name target : List ℕ) → IsCommand words (analyse source certificate)
      → IsCommand words (check name target) → ⊥
  analyse_or_check source certificate name target is also =
      let e = one_reading words (analyse source certificate) (check name target) is also in cc

  pub analyse_or_trial : (source certificate : List ℕ) (count : ℕ) → IsCommand words (analyse source certificate)
      → IsCommand words (trial count) → ⊥
  analyse_or_trial source certificate count is also =
      let e = one_reading words (analyse source certificate) (trial count) is also in cc

  pub check_or_trial : (source certificate : List ℕ) (count : ℕ) → IsCommand words (check source certificate)
      → IsCommand words (trial count) → ⊥
  check_or_trial source certificate count is also =
      let e = one_reading words (check source certificate) (trial count) is also in cc

  pub trial_or_run : (count : ℕ) (r : Run) → IsCommand words (trial count) → IsCommand words (run r) → ⊥
  trial_or_run count r is also = let e = one_reading words (trial count) (run r) is also in cc

  pub one_count : (m n : ℕ) → IsCommand words (trial m) → IsCommand words (trial n) → m ≡ n
  one_count m n is also = let e = one_reading words (trial m) (trial n) is also in cc

  pub one_run : (r s : Run) → IsCommand words (run r) → IsCommand words (run s) → r ≡ s
  one_run r s is also = let e = one_reading words (run r) (run s) is also in cc

  pub one_source : (source certificate name target : List ℕ) → IsCommand words (analyse source certificate)
      → IsCommand words (analyse name target) → source ≡ name
  one_source source certificate name target is also =
      let e = one_reading words (analyse source certificate) (analyse name target) is also in cc

  pub one_certificate : (source certificate name target : List ℕ) → IsCommand words (analyse source certificate)
      → IsCommand words (analyse name target) → certificate ≡ target
  one_certificate source certificate name target is also =
      let e = one_reading words (analyse source certificate) (analyse name target) is also in cc
