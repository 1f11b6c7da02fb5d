-- The words of modes, of what a receiver gets, and of relations.
use Rattle.std.specs.Prelude.{◌≢◌, ℕ, List, codes}
use Rattle.cob_program.specs.declared.act.How.{How}
use Rattle.cob_program.specs.declared.act.How.TheVariants.{Whole, Plus, Minus, Times, Under}
use Rattle.cob_tree.specs.declared.token.Rel.{Rel}
use Rattle.cob_tree.specs.declared.token.Rel.TheVariants.{Equal, Less, Greater, AtLeast, AtMost}
use Rattle.dec_num.specs.declared.types.Mode.{Mode}
use Rattle.dec_num.specs.declared.types.Mode.TheVariants.{Trunc, Round}

abbrev pub mode_word : Mode → List ℕ
mode_word Trunc = codes "cut"
mode_word Round = codes "rounded"

-- the word is that of no mode
pub record IsNoMode (word : List ℕ) : Type 0 where
  pub not_cut : word ≢ mode_word Trunc
  pub not_rounded : word ≢ mode_word Round

abbrev pub how_word : How → List ℕ
how_word Whole = codes "whole"
how_word Plus = codes "plus"
how_word Minus = codes "minus"
how_word Times = codes "times"
how_word Under = codes "under"

-- the word is that of nothing that a receiver gets
pub record IsNoHow (word : List ℕ) : Type 0 where
  pub not_whole : word ≢ how_word Whole
  pub not_plus : word ≢ how_word Plus
  pub not_minus : word ≢ how_word Minus
  pub not_times : word ≢ how_word Times
  pub not_under : word ≢ how_word Under

abbrev pub relation_word : Rel → List ℕ
relation_word Equal = codes "="
relation_word Less = codes "<"
relation_word Greater = codes ">"
relation_word AtLeast = codes ">="
relation_word AtMost = codes "<="
