-- The least line, place by place.
use Rattle.std.proofs.Common.{◌≡◌, ℕ, ◌+◌, ◌<◌, Bool, true, false, ◌&&◌, List, [], length, get_or, map, Option, refl, sym, ap, ◌∙◌, arith, add-one}
use Rattle.std.proofs.lemmas.List.{get_or-map, get_or_default, length-map}
use Rattle.rule_order.specs.Order.{lesser, noted}
use Rattle.rule_order.proofs.OrderLemmas.{lesser_none}
use Rattle.cob_graph.specs.declared.calls.Call as declared_call
use Rattle.cob_graph.specs.declared.calls.Jump as declared_jump
use Rattle.cob_graph.specs.Nesting.{Call, Jump}
use Rattle.cob_graph.specs.Listing.{plain_span, plain_call, plain_jump}
use Rattle.cob_graph.specs.Reaching.{blank, call_at, through, is_marked, IsRow}
use Rattle.cob_graph.specs.Broken.{least_below, line_where, blank_jump, jump_at, is_crossing, is_leaving, leaving_at, cycle_at, crossing_at}

noted_is : (so_far : Option ℕ) (b : Bool) (line : ℕ) → noted so_far b line ≡ lesser so_far (line_where b line)
noted_is so_far true line = refl
noted_is so_far false line = sym (lesser_none so_far)

pub lesser_more : (at : ℕ → Option ℕ) (i : ℕ) (so_far next here : Option ℕ) → so_far ≡ least_below at i →
    next ≡ lesser so_far here → here ≡ at i → next ≡ least_below at (i + 1)
lesser_more at i so_far next here is made seen =
    made ∙ ap (λ o. lesser o here) is ∙ ap (lesser (least_below at i)) seen ∙ sym (ap (least_below at) (add-one i))

pub noted_more : (at : ℕ → Option ℕ) (i : ℕ) (so_far next : Option ℕ) (b : Bool) (line : ℕ) →
    so_far ≡ least_below at i → next ≡ noted so_far b line → line_where b line ≡ at i → next ≡ least_below at (i + 1)
noted_more at i so_far next b line is made seen =
    lesser_more at i so_far next (line_where b line) is (made ∙ noted_is so_far b line) seen

-- what is read at a place, as contracts see it
pub call_read : (xs : List declared_call.Call) (i : ℕ) (d : declared_call.Call) → i < length xs →
    plain_call (get_or xs i d) ≡ call_at (map plain_call xs) i
call_read xs i d within = sym (get_or-map plain_call xs i d blank within)

pub jump_read : (xs : List declared_jump.Jump) (i : ℕ) (d : declared_jump.Jump) → i < length xs →
    plain_jump (get_or xs i d) ≡ jump_at (map plain_jump xs) i
jump_read xs i d within = sym (get_or-map plain_jump xs i d blank_jump within)

pub leaving_read : (cs : List declared_call.Call) (js : List declared_jump.Jump) (outer i : ℕ) (c : declared_call.Call) (j : declared_jump.Jump) (b : Bool) →
    outer < length cs → i < length js →
    b ≡ is_leaving (plain_jump (get_or js i j)) (plain_span (get_or cs outer c).span) → line_where b (get_or js i j).line ≡ leaving_at (map plain_call cs) (map plain_jump js) outer i
leaving_read cs js outer i c j b within inside told =
    ap (λ x. line_where x (get_or js i j).line) told
    ∙ ap (λ (x : Jump). line_where (is_leaving x (plain_span (get_or cs outer c).span)) x.line) (jump_read js i j inside)
    ∙ ap (λ (x : Call). line_where (is_leaving (jump_at (map plain_jump js) i) x.span) (jump_at (map plain_jump js) i).line) (call_read cs outer c within)

pub crossing_read : (cs : List declared_call.Call) (row : List Bool) (outer i : ℕ) (c d : declared_call.Call) (b : Bool) →
    IsRow (map plain_call cs) outer row → outer < length cs → i < length cs →
    b ≡ (is_marked row i && is_crossing (plain_span (get_or cs i d).span) (plain_span (get_or cs outer c).span)) →
    line_where b (get_or cs i d).line ≡ crossing_at (map plain_call cs) outer i
crossing_read cs row outer i c d b is within inside told =
    let n : length (map plain_call cs) ≡ length cs = length-map cs plain_call in
    ap (λ x. line_where x (get_or cs i d).line) told
    ∙ ap (λ x. line_where (x && is_crossing (plain_span (get_or cs i d).span) (plain_span (get_or cs outer c).span)) (get_or cs i d).line)
    (is.marks i (omega (arith, n, inside)))
    ∙ ap (λ (x : Call). line_where (through (map plain_call cs) (length (map plain_call cs)) outer i && is_crossing x.span (plain_span (get_or cs outer c).span)) x.line) (call_read cs i d inside)
    ∙ ap (λ (x : Call). line_where (through (map plain_call cs) (length (map plain_call cs)) outer i && is_crossing (call_at (map plain_call cs) i).span x.span) (call_at (map plain_call cs) i).line) (call_read cs outer c within)

-- the mark of the range itself
pub cycle_read : (cs : List declared_call.Call) (row : List Bool) (i : ℕ) (c : declared_call.Call) (b : Bool) →
    IsRow (map plain_call cs) i row → i < length cs → b ≡ is_marked row i →
    line_where b (get_or cs i c).line ≡ cycle_at (map plain_call cs) i
cycle_read cs row i c b is within told =
    ap (λ x. line_where x (get_or cs i c).line) (told ∙ is.marks i (omega (arith, length-map cs plain_call, within)))
    ∙ ap (λ (x : Call). line_where (through (map plain_call cs) (length (map plain_call cs)) i i) x.line) (call_read cs i c within)
