-- Names that stand twice, and names among others.
use Rattle.std.specs.Prelude.{◌≡◌, ℕ, Bool, List, [], ◌∷◌, ◌++◌, map}
use Rattle.std.specs.List.{list_any}
use Rattle.std.specs.Str.{bytes_eq, str_to_ascii_lowercase}
use Rattle.cob_tree.specs.declared.front.Select.{Select}
use Rattle.cob_tree.specs.declared.front.Fd.{Fd}
use Rattle.cob_data.specs.declared.description.Description.{Description}
use Rattle.cob_data.specs.declared.names.Names.{Names}
use Rattle.cob_data.specs.Files.{external_text, breaks_status}
use Rattle.cob_data.specs.Rules.{Facts}

abbrev pub stands_in : List (List ℕ) → List ℕ → Bool
stands_in names name = list_any (λ n. bytes_eq n name) names

-- A flag for each name: whether it stands among those before it.
abbrev pub repeats : List (List ℕ) → List (List ℕ) → List Bool
repeats before [] = []
repeats before (n ∷ ns) = stands_in before n ∷ repeats (before ++ n ∷ []) ns

abbrev pub select_names : List Select → List (List ℕ)
select_names ss = map (λ s. s.name) ss

abbrev pub fd_names : List Fd → List (List ℕ)
fd_names fs = map (λ f. f.name) fs

-- external names without regard to capitals
abbrev pub external_names : List Select → List (List ℕ)
external_names ss = map (λ s. str_to_ascii_lowercase (external_text s.external)) ss

-- what is kept of the names of these files and items
pub record AreNamesOf (n : Names) (selects : List Select) (fds : List Fd) (items : List Description) : Type 0 where
  pub repeated_selects : n.repeated_selects.items ≡ repeats [] (select_names selects)
  pub described : n.described.items ≡ map (stands_in (fd_names fds)) (select_names selects)
  pub repeated_externals : n.repeated_externals.items ≡ repeats [] (external_names selects)
  pub wrong_statuses : n.wrong_statuses.items ≡ map (breaks_status items) selects
  pub repeated_fds : n.repeated_fds.items ≡ repeats [] (fd_names fds)
  pub selected : n.selected.items ≡ map (stands_in (select_names selects)) (fd_names fds)

abbrev pub HasNames : Names → Facts → Type 0
HasNames n f = AreNamesOf n f.selects f.fds f.items
