-- The first line at which a rule is broken, from those of each kind of places.
use Rattle.std.proofs.Common.{◌≡◌, ℕ, List, [], ◌++◌, refl, Option}
use Rattle.rule_order.specs.Order.{lesser, least}
use Rattle.rule_order.proofs.OrderLemmas.{least_append}
use Rattle.cob_data.specs.declared.end.Rule.{Rule}
use Rattle.cob_data.specs.Rules.{Facts, item_lines, condition_lines, select_lines, fd_lines, end_lines, lines_in}

least_of_five : (xs ys zs us vs : List ℕ) → lesser (lesser (lesser (lesser (least xs) (least ys)) (least zs)) (least us)) (least vs) ≡ least (xs ++ ys ++ zs ++ us ++ vs)
least_of_five xs ys zs us vs = rw (← least_append xs ys, ← least_append (xs ++ ys) zs, ← least_append (xs ++ ys ++ zs) us, ← least_append (xs ++ ys ++ zs ++ us) vs) refl

pub first_line_is : (f : Facts) (rule : Rule) (a b c d e ab abc abcd all : Option ℕ) →
    a ≡ least (item_lines rule f.items f.spots) → b ≡ least (condition_lines rule f f.conditions) → c ≡ least (select_lines rule f [] f.selects) → d ≡ least (fd_lines rule f [] f.fds) → e ≡ least (end_lines rule f.program f.end) →
    ab ≡ lesser a b → abc ≡ lesser ab c → abcd ≡ lesser abc d → all ≡ lesser abcd e → all ≡ least (lines_in f rule)
first_line_is f rule a b c d e ab abc abcd all is_a is_b is_c is_d is_e is_ab is_abc is_abcd is =
    rw (is, is_abcd, is_abc, is_ab, is_a, is_b, is_c, is_d, is_e) (least_of_five (item_lines rule f.items f.spots) (condition_lines rule f f.conditions) (select_lines rule f [] f.selects) (fd_lines rule f [] f.fds) (end_lines rule f.program f.end))
