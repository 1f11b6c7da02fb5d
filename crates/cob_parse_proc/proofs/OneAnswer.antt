-- No tokens have two answers.
use Rattle.std.proofs.Common.{⊎_elim, List, length, sym, arith}
use Rattle.std.proofs.lemmas.Bool.{cases_lt}
use Rattle.cob_tree.specs.Symbols.{Sign}
use Rattle.cob_parse_proc.specs.Laws.{OneAnswer}
use Rattle.cob_parse_proc.proofs.ProgramOnce.{one_text, shaped_of, one_place}
use Rattle.cob_parse_proc.proofs.ProgramDeep.{wrong_or_deep}

pub one_answer : (ts : List Sign) → OneAnswer ts
one_answer ts = record {
  read_once = λ a b x y. one_text ts a b x.spells (shaped_of ts a x) y.spells (shaped_of ts b y);
  read_or_wrong = λ a u x y. y.none a x.spells (shaped_of ts a x);
  read_or_deep = λ a x y. y.none a x.spells (shaped_of ts a x) x.below;
  wrong_once = λ u v x y. ⊎_elim (λ lt. one_place ts u v x y (omega (arith, lt))) (λ le. sym (one_place ts v u y x le)) (cases_lt (length u) (length v));
  wrong_or_deep = λ u x y. wrong_or_deep ts u x y;
}
