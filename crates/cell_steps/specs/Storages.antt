-- What is known of cells, and the storages of which it is true.
use Rattle.std.specs.Prelude.{◌≡◌, ◌<◌, ℕ, List, ◌∷◌, length, Option, Some, None, ℤ, if◌then◌else◌}
use Rattle.cob_data.specs.declared.layout.Layout.{Layout}
use Rattle.cob_program.specs.Act.{Program}
use Rattle.cob_runs.specs.Contents.{form_at, times_at, occurrence_bytes}
use Rattle.cob_edge_parts.specs.Meaning.{count_in}
use Rattle.num_bytes.specs.Reading.{contents_value}
use Rattle.interval_domain.specs.Bounds.{Holds}
use Rattle.dom_laws.specs.Meaning.{Storage}
use Rattle.interval_domain.specs.Known.{Known}
use Rattle.interval_domain.specs.Elements.{Element}
use Rattle.cob_edge_parts.specs.Counters.{IsCounted}
use Rattle.cob_graph.specs.declared.homes.Home.{Home}
use Rattle.cob_graph.specs.declared.homes.Home.TheVariants.{Item as of_item, Count as of_count}
use Rattle.cob_graph.specs.Homes.{is_home, homes_of}

-- what is known of a home: that of the first cell that is of it
abbrev pub known_of : List Home → List Known → Home → Known
known_of (h ∷ hs) (c ∷ cs) home = if is_home h home then c else known_of hs cs home
known_of _ _ home = None

abbrev pub storage : List ℕ → List (Option ℤ) → Storage
storage bytes counters = record { bytes = bytes; counters = counters }

-- how many occurrences a home has; they are numbered from 0, and a counter is one
abbrev pub occurrences_of : Layout → Home → ℕ
occurrences_of l (of_item place) = times_at l place
occurrences_of l (of_count statement) = 1

-- the number of an occurrence in units of its cell, if it has one
abbrev pub value_at : Layout → Storage → Home → ℕ → Option ℤ
value_at l s (of_item place) n = contents_value (form_at l place) (occurrence_bytes l s.bytes place n)
value_at l s (of_count statement) n = count_in s.counters statement

-- where something is known there is a number, and it lies in the interval
abbrev pub KnownStands : Known → Option ℤ → Type 0
KnownStands None v = Unit {0}
KnownStands (Some i) None = ⊥
KnownStands (Some i) (Some v) = Holds i v

-- it is true of each of a home's occurrences
abbrev pub HomeStands : Layout → Storage → Known → Home → Type 0
HomeStands l s c h = (n : ℕ) → n < occurrences_of l h → KnownStands c (value_at l s h n)

-- What is known of each home is true of the storage. Storage has its length, and each TIMES a number, without which what
-- is unknown couldn't be a number of its own range.
pub record StandsIn (p : Program) (cells : List Known) (s : Storage) : Type 0 where
  pub whole : length s.bytes ≡ p.layout.storage
  pub counted : IsCounted p s.counters
  pub known : (h : Home) → HomeStands p.layout s (known_of (homes_of p) cells h) h

abbrev pub ElementStands : Program → Element → Storage → Type 0
ElementStands p None s = ⊥
ElementStands p (Some cells) s = StandsIn p cells s
