use Rattle.std.proofs.Common.{arith, ◌∙◌}
use Rattle.num_bytes.proofs.EditLemmas.{place_count-drop, places_step, edited_step}
use Rattle.num_bytes.proofs.picture.write_symbols.Goals as goal

pub places_behind-places-requires : goal.places_behind-places-requires
places_behind-places-requires c =
    omega (arith, place_count-drop c.args.picture.now c.loop-at.at c.loop-at-test.true, c.loop-at.invariant.places)

pub loop-at-preserved : goal.loop-at-preserved
loop-at-preserved c =
    let left =
    places_step c.args.picture.now c.loop-at.at c.loop-at.places c.places_behind-places.result c.loop-at-test.true c.loop-at.invariant.places
    c.places_behind-places.ensures in
    record {
      at_most_18 = omega (arith, c.places_behind-places.ensures, c.loop-at.invariant.at_most_18);
      places = left;
      written =
          edited_step c.args.picture.now c.loop-at.bytes c.loop-at.at c.places_behind-places.result c.args.number c.shown_byte.result
          c.digit_in-digit.result c.loop-at.suppressed c.stays_suppressed-suppressed.result c.loop-at-test.true (omega arith) left
          c.digit_in-digit.ensures c.stays_suppressed-suppressed.ensures c.shown_byte.ensures
          ∙ c.loop-at.invariant.written;
    }
