use Rattle.std.proofs.Common.{◌+◌, pos, sym, refl, arith}
use Rattle.std.proofs.lemmas.Bool.{false≢true}
use Rattle.diff_bounds.specs.Matrix.{word}
use Rattle.diff_bounds.proofs.Ends.{words_of}
use Rattle.diff_bounds.proofs.Standing.{stands_after, stands_before, none_stands}
use Rattle.diff_bounds.proofs.Closures.{closed_to, closed_nowhere}
use Rattle.diff_bounds.proofs.OneRow.{found, no_cycle, closure_is, matrix_is, cycle_found, cycle_is_negative}
use Rattle.diff_bounds.specs.RowSums.{no_sum}
use Rattle.diff_bounds.proofs.Asked.{nine, below_next, below_nine, nine_same}
use Rattle.diff_bounds.proofs.matrix.one_row.close_row.Goals as goal

-- ---- a round trip is negative
pub returns-then-is_negative_trip-clause-cycles : goal.returns-then-is_negative_trip-clause-cycles
returns-then-is_negative_trip-clause-cycles c =
    let n = c.args.size + 1 in
    let trip = c.if-is_negative_trip.ensures.some refl in
    let bad = cycle_found n c.args.at (word n c.args.m.now) c.sums_into.new.sums (omega arith) c.sums_into.ensures trip.0 trip.1 trip.2 in
    (λ t. absurd (false≢true t), λ tame. absurd (cycle_is_negative n (word n c.args.m.now) bad tame))

pub returns-then-is_negative_trip-clause-closed : goal.returns-then-is_negative_trip-clause-closed
returns-then-is_negative_trip-clause-closed c =
    let n = c.args.size + 1 in
    let trip = c.if-is_negative_trip.ensures.some refl in
    closed_nowhere c.args.size c.args.m.now c.requires.size c.requires.m
    (cycle_found n c.args.at (word n c.args.m.now) c.sums_into.new.sums (omega arith) c.sums_into.ensures trip.0 trip.1 trip.2)

pub returns-then-is_negative_trip-clause-empty : goal.returns-then-is_negative_trip-clause-empty
returns-then-is_negative_trip-clause-empty c e cells =
    let n = c.args.size + 1 in
    let trip = c.if-is_negative_trip.ensures.some refl in
    none_stands n (word n c.args.m.now) cells c.requires.m.diagonal
    (cycle_found n c.args.at (word n c.args.m.now) c.sums_into.new.sums (omega arith) c.sums_into.ensures trip.0 trip.1 trip.2)

-- ---- none is
pub returns-clause-cycles : goal.returns-clause-cycles
returns-clause-cycles c =
    let n = c.args.size + 1 in
    let are = found c.args.size c.args.at c.args.m.now c.sums_into.new.sums c.sums_from.new.sums c.requires.m c.requires.at c.requires.tight c.sums_into.ensures c.sums_from.ensures (c.if-is_negative_trip.ensures.none refl) in
    (λ t. no_cycle n c.args.at (word n c.args.m.now) c.sums_into.new.sums c.sums_from.new.sums are, λ tame. refl)

pub returns-clause-sums : goal.returns-clause-sums
returns-clause-sums c t =
    let n = c.args.size + 1 in
    let are = found c.args.size c.args.at c.args.m.now c.sums_into.new.sums c.sums_from.new.sums c.requires.m c.requires.at c.requires.tight c.sums_into.ensures c.sums_from.ensures (c.if-is_negative_trip.ensures.none refl) in
    closure_is n c.args.at (word n c.args.m.now) c.sums_into.new.sums c.sums_from.new.sums are (word n c.lower_words.new.m) c.lower_words.ensures

pub returns-clause-matrix : goal.returns-clause-matrix
returns-clause-matrix c t =
    let are = found c.args.size c.args.at c.args.m.now c.sums_into.new.sums c.sums_from.new.sums c.requires.m c.requires.at c.requires.tight c.sums_into.ensures c.sums_from.ensures (c.if-is_negative_trip.ensures.none refl) in
    matrix_is c.args.size c.args.at c.args.m.now c.lower_words.new.m c.sums_into.new.sums c.sums_from.new.sums (omega (arith, c.requires.m.width)) are c.lower_words.ensures

pub returns-clause-closed : goal.returns-clause-closed
returns-clause-closed c =
    let n = c.args.size + 1 in
    let are = found c.args.size c.args.at c.args.m.now c.sums_into.new.sums c.sums_from.new.sums c.requires.m c.requires.at c.requires.tight c.sums_into.ensures c.sums_from.ensures (c.if-is_negative_trip.ensures.none refl) in
    closed_to c.args.size c.args.m.now c.lower_words.new.m c.requires.size c.requires.m (record {
      matrix = matrix_is c.args.size c.args.at c.args.m.now c.lower_words.new.m c.sums_into.new.sums c.sums_from.new.sums (omega (arith, c.requires.m.width)) are c.lower_words.ensures;
      tame = no_cycle n c.args.at (word n c.args.m.now) c.sums_into.new.sums c.sums_from.new.sums are;
      closure = closure_is n c.args.at (word n c.args.m.now) c.sums_into.new.sums c.sums_from.new.sums are (word n c.lower_words.new.m) c.lower_words.ensures;
    })

pub returns-clause-meaning : goal.returns-clause-meaning
returns-clause-meaning c t cells =
    let n = c.args.size + 1 in
    let are = found c.args.size c.args.at c.args.m.now c.sums_into.new.sums c.sums_from.new.sums c.requires.m c.requires.at c.requires.tight c.sums_into.ensures c.sums_from.ensures (c.if-is_negative_trip.ensures.none refl) in
    let closed = closure_is n c.args.at (word n c.args.m.now) c.sums_into.new.sums c.sums_from.new.sums are (word n c.lower_words.new.m) c.lower_words.ensures in (
      stands_after n (word n c.args.m.now) (word n c.lower_words.new.m) cells c.requires.m.diagonal closed,
      stands_before n (word n c.args.m.now) (word n c.lower_words.new.m) cells (words_of c.args.size c.args.m.now c.requires.m).words closed,
    )

-- ---- what the calls ask
pub sums_into-requires-clause-few : goal.sums_into-requires-clause-few
sums_into-requires-clause-few c = nine c.args.size c.requires.size

pub sums_into-requires-clause-width : goal.sums_into-requires-clause-width
sums_into-requires-clause-width c = c.requires.m.width

pub sums_into-requires-clause-words : goal.sums_into-requires-clause-words
sums_into-requires-clause-words c = (words_of c.args.size c.args.m.now c.requires.m).words

pub sums_into-requires-clause-at : goal.sums_into-requires-clause-at
sums_into-requires-clause-at c = below_next c.args.at c.args.size c.requires.at

pub sums_into-requires-clause-room : goal.sums_into-requires-clause-room
sums_into-requires-clause-room c = nine c.args.size c.requires.size

pub sums_into-requires-clause-none : goal.sums_into-requires-clause-none
sums_into-requires-clause-none c k h = nine_same no_sum (pos 0) k (below_nine k c.args.size h c.requires.size)

pub is_negative_trip-requires-clause-few : goal.is_negative_trip-requires-clause-few
is_negative_trip-requires-clause-few c = nine c.args.size c.requires.size

pub is_negative_trip-requires-clause-width : goal.is_negative_trip-requires-clause-width
is_negative_trip-requires-clause-width c = c.requires.m.width

pub is_negative_trip-requires-clause-words : goal.is_negative_trip-requires-clause-words
is_negative_trip-requires-clause-words c = (words_of c.args.size c.args.m.now c.requires.m).words

pub is_negative_trip-requires-clause-at : goal.is_negative_trip-requires-clause-at
is_negative_trip-requires-clause-at c = below_next c.args.at c.args.size c.requires.at

pub sums_from-requires-clause-few : goal.sums_from-requires-clause-few
sums_from-requires-clause-few c = nine c.args.size c.requires.size

pub sums_from-requires-clause-width : goal.sums_from-requires-clause-width
sums_from-requires-clause-width c = c.requires.m.width

pub sums_from-requires-clause-words : goal.sums_from-requires-clause-words
sums_from-requires-clause-words c = (words_of c.args.size c.args.m.now c.requires.m).words

pub sums_from-requires-clause-at : goal.sums_from-requires-clause-at
sums_from-requires-clause-at c = below_next c.args.at c.args.size c.requires.at

pub sums_from-requires-clause-room : goal.sums_from-requires-clause-room
sums_from-requires-clause-room c = nine c.args.size c.requires.size

pub sums_from-requires-clause-none : goal.sums_from-requires-clause-none
sums_from-requires-clause-none c k h = nine_same no_sum (pos 0) k (below_nine k c.args.size h c.requires.size)

pub lower_words-requires-clause-few : goal.lower_words-requires-clause-few
lower_words-requires-clause-few c = nine c.args.size c.requires.size

pub lower_words-requires-clause-width : goal.lower_words-requires-clause-width
lower_words-requires-clause-width c = c.requires.m.width

pub lower_words-requires-clause-words : goal.lower_words-requires-clause-words
lower_words-requires-clause-words c = (words_of c.args.size c.args.m.now c.requires.m).words

pub is_negative_trip-requires-clause-into : goal.is_negative_trip-requires-clause-into
is_negative_trip-requires-clause-into c = c.sums_into.ensures

pub lower_words-requires-clause-into : goal.lower_words-requires-clause-into
lower_words-requires-clause-into c k h = (c.sums_into.ensures.sums k h).pair

pub lower_words-requires-clause-from : goal.lower_words-requires-clause-from
lower_words-requires-clause-from c k h = (c.sums_from.ensures.sums k h).pair

-- ---- what isn't said
pub returns-then-is_negative_trip-clause-sums : goal.returns-then-is_negative_trip-clause-sums
returns-then-is_negative_trip-clause-sums c t = absurd (false≢true t)

pub returns-then-is_negative_trip-clause-matrix : goal.returns-then-is_negative_trip-clause-matrix
returns-then-is_negative_trip-clause-matrix c t = absurd (false≢true t)

pub returns-then-is_negative_trip-clause-meaning : goal.returns-then-is_negative_trip-clause-meaning
returns-then-is_negative_trip-clause-meaning c t = absurd (false≢true t)

pub returns-clause-empty : goal.returns-clause-empty
returns-clause-empty c e = absurd (false≢true (sym e))
