-- Lattices made of lattices: rows one behind the other, and a first arrival that is taken as it is.
use Rattle.std.specs.Prelude.{◌+◌, if◌then◌else◌, Bool, List, [], ◌++◌, take, drop, ℤ}
use Rattle.dom_laws.specs.Lattice.{Lattice, IsElement}

-- rows of no words
abbrev pub no_words : Lattice
no_words = record {
  width = 0;
  IsWellFormed = λ row. Unit {0};
  Below = λ a b. Unit {0};
  least = [];
  join = λ a b. a;
  widen = λ a b. a;
  rank = λ row. 0;
  height = 0;
}

-- a row of the first lattice, and behind it one of the second
abbrev pub beside : Lattice → Lattice → Lattice
beside l m = record {
  width = l.width + m.width;
  IsWellFormed = λ row. IsElement l (take l.width row) × IsElement m (drop l.width row);
  Below = λ a b. l.Below (take l.width a) (take l.width b) × m.Below (drop l.width a) (drop l.width b);
  least = l.least ++ m.least;
  join = λ a b. l.join (take l.width a) (take l.width b) ++ m.join (drop l.width a) (drop l.width b);
  widen = λ a b. l.widen (take l.width a) (take l.width b) ++ m.widen (drop l.width a) (drop l.width b);
  rank = λ row. l.rank (take l.width row) + m.rank (drop l.width row);
  height = l.height + m.height;
}

-- The least row, which a test tells, is replaced by the first row that comes.
abbrev pub with_arrival : (List ℤ → Bool) → Lattice → Lattice
with_arrival is_least l = record {
  width = l.width;
  IsWellFormed = l.IsWellFormed;
  Below = l.Below;
  least = l.least;
  join = l.join;
  widen = λ a b. if is_least a then b else l.widen a b;
  rank = λ row. if is_least row then l.height + 1 else l.rank row;
  height = l.height + 1;
}
