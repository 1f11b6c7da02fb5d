-- Parts by kinds of statements: of loops with TIMES, of READ, of others.
use Rattle.std.proofs.Common.{◌≡◌, ℕ, Bool, true, false, [], ◌∷◌, Some, None, refl, ap}
use Rattle.std.specs.Prelude.{slice_get}
use Rattle.cob_program.specs.Act.{times, Act, perform, read, Program}
use Rattle.cob_runs.specs.Acts.{decl_at}
use Rattle.cob_runs.specs.Effects.{tests_in_act, is_times}
use Rattle.cob_edge_parts.specs.Parts.{read_count, guard_count, test_parts, condition_parts, file_parts, read_parts, bad_parts, call_parts}
use Rattle.edge_parts.specs.Pieces.{file_read}

pub times_condition : (p : Program) (number : ℕ) (wanted : Bool) (k : ℕ) (a : Act) → is_times a ≡ true →
    condition_parts p number wanted k a ≡ read_count number ∷ guard_count number wanted ∷ []
times_condition p number wanted k (perform body (times x)) e = refl
times_condition p number wanted k _ e = absurd cc

pub simple_condition : (p : Program) (number : ℕ) (wanted : Bool) (k : ℕ) (a : Act) → is_times a ≡ false →
    condition_parts p number wanted k a ≡ test_parts p.layout wanted (slice_get (tests_in_act a) k)
simple_condition p number wanted k (perform body (times x)) e = absurd cc
simple_condition p number wanted k _ e = refl

module _ (p : Program) (number : ℕ) where
  pub parts_of_read : (a : Act) (f : ℕ) → file_read a ≡ Some f →
      read_parts p number a ≡ file_parts p.layout true (decl_at p.layout f)
  parts_of_read (read g into end fine) f e =
      let same : g ≡ f = cc in ap (λ n. file_parts p.layout true (decl_at p.layout n)) same
  parts_of_read _ f e = absurd cc

  pub no_read : (a : Act) → file_read a ≡ None → read_parts p number a ≡ []
  no_read (read g into end fine) e = absurd cc
  no_read _ e = refl

  pub parts_of_bad_read : (k : ℕ) (a : Act) (f : ℕ) → file_read a ≡ Some f →
      bad_parts p number k a ≡ file_parts p.layout true (decl_at p.layout f)
  parts_of_bad_read k (read g into end fine) f e =
      let same : g ≡ f = cc in ap (λ n. file_parts p.layout true (decl_at p.layout n)) same
  parts_of_bad_read k _ f e = absurd cc

  pub parts_of_bad_call : (k : ℕ) (a : Act) → file_read a ≡ None → bad_parts p number k a ≡ call_parts p number false k a
  parts_of_bad_call k (read g into end fine) e = absurd cc
  parts_of_bad_call k _ e = refl
