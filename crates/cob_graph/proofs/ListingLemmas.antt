-- Calls and jumps put together, and steps of the loops that find them.
use Rattle.std.proofs.Common.{◌≡◌, ℕ, ◌+◌, ◌<◌, ◌≤◌, List, [], ◌++◌, append_assoc, append-nil, length, get_or, drop, map, sym, ap, ◌∙◌}
use Rattle.std.specs.Borrow.{Bor}
use Rattle.std.proofs.lemmas.List.{drop_all}
use Rattle.cob_program.specs.declared.act.Stmt as declared_stmt
use Rattle.cob_program.specs.declared.program.Para as declared_para
use Rattle.cob_program.specs.ActView.{plain_stmt, plain_para}
use Rattle.cob_program.specs.Statements.{para_statements, plain_references}
use Rattle.cob_program.proofs.Loops.{item_step}
use Rattle.cob_graph.specs.Nesting.{Call, Jump, Found, ◌&◌, nothing_found, found, found_at, found_among}
use Rattle.cob_graph.specs.declared.calls.Call as declared_call
use Rattle.cob_graph.specs.declared.calls.Jump as declared_jump
use Rattle.cob_graph.specs.declared.calls.Found as declared_found
use Rattle.cob_graph.specs.Listing.{plain_call, plain_jump, plain_found}

pub and_assoc : (a b c : Found) → (a & b) & c ≡ a & (b & c)
and_assoc a b c =
    ap (λ (calls : List Call). record { calls = calls; jumps = (a.jumps ++ b.jumps) ++ c.jumps }) (append_assoc a.calls b.calls c.calls)
    ∙ ap (λ (jumps : List Jump). record { calls = a.calls ++ (b.calls ++ c.calls); jumps = jumps }) (append_assoc a.jumps b.jumps c.jumps)

pub and_nothing : (a : Found) → a & nothing_found ≡ a
and_nothing a =
    ap (λ (calls : List Call). record { calls = calls; jumps = a.jumps ++ [] }) (append-nil a.calls)
    ∙ ap (λ (jumps : List Jump). record { calls = a.calls; jumps = jumps }) (append-nil a.jumps)

-- one more was found, and then the rest
pub one_more : (old mid here rest whole : Found) → mid ≡ old & here → old & (here & rest) ≡ whole → mid & rest ≡ whole
one_more old mid here rest whole made so_far = ap (λ f. f & rest) made ∙ and_assoc old here rest ∙ so_far

abbrev pub found_from : ℕ → List (Bor declared_stmt.Stmt) → ℕ → Found
found_from para xs i = found para (plain_references (drop i xs))

abbrev pub paras_from : List declared_para.Para → ℕ → Found
paras_from xs i = found_among i (map plain_para (drop i xs))

pub found_step : (para : ℕ) (xs : List (Bor declared_stmt.Stmt)) (i : ℕ) (x : Bor declared_stmt.Stmt) → i < length xs →
    x ≡ get_or xs i x →
    found_from para xs i ≡ found_at para (plain_stmt x.now) & found_from para xs (i + 1)
found_step para xs i x within is = ap (λ ys. found para (plain_references ys)) (item_step xs i x within is)

pub found_end : (para : ℕ) (xs : List (Bor declared_stmt.Stmt)) (i : ℕ) → length xs ≤ i → found_from para xs i ≡ nothing_found
found_end para xs i past = ap (λ ys. found para (plain_references ys)) (drop_all i xs past)

pub paras_step : (xs : List declared_para.Para) (i : ℕ) (x : declared_para.Para) → i < length xs → x ≡ get_or xs i x →
    paras_from xs i ≡ found i (para_statements (plain_para x)) & paras_from xs (i + 1)
paras_step xs i x within is = ap (λ ys. found_among i (map plain_para ys)) (item_step xs i x within is)

pub paras_end : (xs : List declared_para.Para) (i : ℕ) → length xs ≤ i → paras_from xs i ≡ nothing_found
paras_end xs i past = ap (λ ys. found_among i (map plain_para ys)) (drop_all i xs past)

abbrev pub listed : List declared_call.Call → List declared_jump.Jump → Found
listed calls jumps = record { calls = map plain_call calls; jumps = map plain_jump jumps }

pub listed_is : (f : declared_found.Found) (calls : List declared_call.Call) (jumps : List declared_jump.Jump) (all : Found) →
    calls ≡ f.calls.items → jumps ≡ f.jumps.items → plain_found f ≡ all → listed calls jumps ≡ all
listed_is f calls jumps all same_calls same_jumps is =
    ap (λ xs. listed xs jumps) same_calls ∙ ap (listed f.calls.items) same_jumps ∙ is
