-- How a certificate is spelled. A line is a word and numbers, parted by one space and ended by LF.
use Rattle.std.specs.Prelude.{ℕ, suc, List, [], ◌∷◌, ◌++◌, map, length, ℤ, pos, codes}
use Rattle.std.specs.Fmt.{signed_decimal}
use Rattle.cert_text.specs.Lines.{Line, text_of}
use Rattle.cert_text.specs.declared.word.Word.{Word}
use Rattle.cert_text.specs.declared.word.Word.TheVariants as words
use Rattle.cert_text.specs.declared.cert.Claim.{Claim}
use Rattle.cert_text.specs.declared.cert.Bound.{Bound}
use Rattle.cert_text.specs.View.{Place, NotReached, Holds, Certificate}

abbrev pub name : Word → List ℕ
name words.Title = codes "COBSOUND"
name words.Cells = codes "cells"
name words.Nodes = codes "nodes"
name words.Packs = codes "packs"
name words.Pack = codes "pack"
name words.Never = codes "none"
name words.Node = codes "node"
name words.Claim = codes "c"
name words.Bound = codes "d"
name words.End = codes "end"

-- what a line says
pub record Entry : Type 0 where
  pub word : Word
  pub numbers : List ℤ

-- each number after a space
abbrev pub numbers_text : List ℤ → List ℕ
numbers_text [] = []
numbers_text (z ∷ zs) = 32 ∷ (signed_decimal z ++ numbers_text zs)

abbrev pub entry_line : Entry → Line
entry_line e = name e.word ++ numbers_text e.numbers

abbrev pub entry : Word → List ℤ → Entry
entry w zs = record { word = w; numbers = zs }

abbrev pub pack_entry : List ℕ → Entry
pack_entry cells = entry words.Pack (map pos cells)

abbrev pub claim_entry : Claim → Entry
claim_entry c = entry words.Claim (pos c.cell ∷ c.low ∷ c.high ∷ [])

abbrev pub bound_entry : Bound → Entry
bound_entry b = entry words.Bound (pos b.pack ∷ pos b.row ∷ pos b.column ∷ b.most ∷ [])

-- the lines of node i
abbrev pub place_entries : ℕ → Place → List Entry
place_entries i NotReached = entry words.Never (pos i ∷ []) ∷ []
place_entries i (Holds claims bounds) = entry words.Node (pos i ∷ []) ∷ (map claim_entry claims ++ map bound_entry bounds)

-- the lines of the nodes from i on
abbrev pub nodes_entries : ℕ → List Place → List Entry
nodes_entries i [] = []
nodes_entries i (p ∷ ps) = place_entries i p ++ nodes_entries (suc i) ps

-- the first four lines
abbrev pub heading : ℕ → ℕ → ℕ → List Entry
heading cells nodes packs =
    entry words.Title (pos 1 ∷ []) ∷ entry words.Cells (pos cells ∷ []) ∷ entry words.Nodes (pos nodes ∷ []) ∷ entry words.Packs (pos packs ∷ []) ∷ []

abbrev pub entries : Certificate → List Entry
entries c = heading c.cells (length c.nodes) (length c.packs) ++ (map pack_entry c.packs ++ (nodes_entries 1 c.nodes ++ entry words.End [] ∷ []))

abbrev pub lines : Certificate → List Line
lines c = map entry_line (entries c)

-- each line with its LF
abbrev pub entries_text : List Entry → List ℕ
entries_text es = text_of (map entry_line es)

abbrev pub spelling : Certificate → List ℕ
spelling c = text_of (lines c)
