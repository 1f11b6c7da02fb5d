-- What small programs do along their graphs, worked out.
use Rattle.std.specs.Prelude.{◌≡◌, ◌<◌, ◌≤◌, ◌^◌, ◌==◌, if◌then◌else◌, slice_index_or, ℕ, zero, suc, Bool, true, false, List, [], ◌∷◌, map, slice_get, Option, Some, None, ℤ, pos, negsuc}
use Rattle.std.specs.List.{All}
use Rattle.std.proofs.Common.{refl, sym, ap, ◌∙◌, inl, inr, arith as plain}
use Rattle.std.proofs.lemmas.Option.{none-some, same_Some}
use Rattle.std.proofs.lemmas.Bool.Decides.{nat_tests}
use Rattle.dec_num.specs.declared.types.Mode.TheVariants.{Trunc}
use Rattle.dec_num.specs.declared.types.Scaled.{Scaled}
use Rattle.cob_tree.specs.declared.fault.Kind.TheVariants as kind
use Rattle.cob_tree.specs.declared.form.Form.TheVariants as form
use Rattle.cob_tree.specs.declared.form.Usage.TheVariants as usage
use Rattle.cob_data.specs.declared.layout.Item.{Item}
use Rattle.cob_data.specs.declared.layout.Sender.TheVariants as sender
use Rattle.cob_program.specs.declared.act.How.TheVariants as how
use Rattle.cob_program.specs.Act.{once, times, no_stmts, left_out, given, Act, arith, perform, go, nothing, stop, read, range, inline, Program}
use Rattle.cob_runs.specs.declared.action.Action.TheVariants as action
use Rattle.cob_runs.specs.declared.outcome.Outcome.TheVariants.{Ended}
use Rattle.cob_runs.specs.Effects.{or_else, act_at}
use Rattle.cob_runs.specs.State.{State}
use Rattle.cob_runs.specs.Runs.{run, first_storage}
use Rattle.cob_graph.specs.declared.graph.Graph.{Graph}
use Rattle.cob_graph.specs.Laid.{MkLaid, no_laid, more_laid, a_phrase, skipping, going, ending, computing, performing, showing, own_list, copy, LaidParas, no_laid_paras, more_laid_paras}
use Rattle.cob_graph.specs.Graphs.{IsMainCopy}
use Rattle.cob_graph.specs.WellFormed.{IsWellFormed}
use Rattle.cob_store.specs.WellFormed.{IsWellFormedItem}
use Rattle.cob_data.specs.Extents.{LieApart}
use Rattle.cob_data.specs.Occurrences.{extent_of}
use Rattle.cob_data.proofs.OneOccurrence.{one_within, one_extent}
use Rattle.cob_graph.specs.Lookup.{edge, node_at}
use Rattle.cob_graph.proofs.Examples.{item_of, numeral, atom_sum, stmt1, say, para, unnamed, of_paras, the_file, twice, laid_twice, with_copies, is_graph}
use Rattle.cob_edge_parts.specs.Parts.{bytes_in, parts_of}
use Rattle.cob_edge_parts.specs.Meaning.{Moment, moment, Meets}
use Rattle.cob_edge_parts.specs.Edges.{fault_edge}
use Rattle.dom_laws.specs.Meaning.{Storage}
use Rattle.graph_runs.specs.Places.{edge_at, DoesAt}
use Rattle.cob_edge_parts.specs.Counters.{PassesParts, MeetsAmong}
use Rattle.graph_runs.specs.Doing.{start}
use Rattle.graph_runs.specs.Following.{Reaches}
use Rattle.graph_runs.specs.Sources.{HasValue, SeparateItemsHaveSigns, HasNoTables, IsSourceGraph}

abbrev after : Program → ℕ → State
after p n = run p [] [] [] n

abbrev storage_of : List ℕ → List (Option ℤ) → Storage
storage_of bytes counters = record { bytes = bytes; counters = counters }

-- ---- N PIC 9(3) VALUE 999. ADD 1 TO N ON SIZE ERROR CONTINUE END-ADD

abbrev add_one : Act
add_one =
    arith (atom_sum (numeral (49 ∷ []) 0)) (record { item = 0; how = how.Plus; mode = Trunc } ∷ []) None
    (given (stmt1 2 nothing no_stmts)) no_stmts

abbrev adding : Program
adding = record {
  layout = record {
    items = item_of 0 3 (form.Number 3 0 false usage.Display) (Some (sender.Number (numeral (57 ∷ 57 ∷ 57 ∷ []) 0))) ∷ [];
    flags = [];
    files = [];
    storage = 3;
  };
  paras = unnamed (stmt1 1 add_one no_stmts) ∷ [];
  statements = 2;
}

abbrev laid_adding : LaidParas
laid_adding =
    more_laid_paras (more_laid (MkLaid 1 (computing (a_phrase (more_laid (MkLaid 2 skipping) no_laid)) no_laid)) no_laid)
    no_laid_paras

adding_is_laid : IsMainCopy adding laid_adding
adding_is_laid = (((refl, (((refl, refl), tt), tt)), tt), tt)

abbrev graph_of_adding : Graph
graph_of_adding = with_copies adding laid_adding

its_first_edge : edge_at graph_of_adding 1 ≡ edge 1 action.Done 3
its_first_edge = refl

its_second_edge : edge_at graph_of_adding 2 ≡ edge 1 action.Size 2
its_second_edge = refl

its_value : first_storage adding.layout (0 ∷ 0 ∷ 0 ∷ []) ≡ 57 ∷ 57 ∷ 57 ∷ []
its_value = refl

-- faults are met on the way to the phrase's list, and not on the other
met_with_the_phrase : fault_edge add_one action.Done ≡ action.Size
met_with_the_phrase = refl

abbrev full : Storage
full = storage_of (57 ∷ 57 ∷ 57 ∷ []) (Some (pos 0) ∷ Some (pos 0) ∷ [])

abbrev scaled : ℤ → Scaled
scaled n = record { units = n; scale = 0 }

-- with the phrase 999 stays,
abbrev kept : Moment
kept = moment (57 ∷ 57 ∷ 57 ∷ []) full.counters full.bytes (scaled (pos 999)) false true

the_phrase_is_taken : PassesParts adding.layout true (parts_of adding 1 add_one action.Size) (start full) kept
the_phrase_is_taken = (
  moment (57 ∷ 57 ∷ 57 ∷ []) full.counters full.bytes (scaled (pos 999)) false false,
  ((scaled (pos 999), refl, refl), (λ f. f)),
  (kept, (refl, (λ f. f)), refl),
)

-- and no size error is met,
no_size_error : MeetsAmong adding.layout true (parts_of adding 1 add_one action.Size) (start full) kind.Size → ⊥
no_size_error (inl (inl (f, g, h))) = cc
no_size_error (inl (inr (f, g))) = g
no_size_error (inr (n, pass, inl (inl f))) = f
no_size_error (inr (n, pass, inl (inr (f, g)))) = g
no_size_error (inr (n, pass, inr (m, more, f))) = f

-- where on the other edge one would be
a_size_error_without : Meets adding.layout false (parts_of adding 1 add_one action.Done) (start full) kind.Size
a_size_error_without = inr (
  moment (57 ∷ 57 ∷ 57 ∷ []) full.counters full.bytes (scaled (pos 999)) false false,
  (scaled (pos 999), refl, refl),
  inl (refl, refl),
)

-- ---- the program keeps what every source's does

eq_is : (a b : ℕ) → (a == b) ≡ true → a ≡ b
eq_is a b e = grind (plain, nat_tests)

number_in_order : (n : ℕ) (a : Act) (one two : Bool) → (n == 1) ≡ one → (n == 2) ≡ two → act_at adding n ≡ Some a →
    (1 ≤ n) × (n ≤ 2)
number_in_order n a true two e f its = let is = eq_is n 1 e in (omega (plain, is), omega (plain, is))
number_in_order n a false true e f its = let is = eq_is n 2 f in (omega (plain, is), omega (plain, is))
number_in_order n a false false e f its = absurd (none-some a (sym none ∙ its))
  where
    none : act_at adding n ≡ None
    none =
        ap (λ b. or_else (if b then Some add_one else or_else (or_else (if n == 2 then Some nothing else None) None) None)
        None) e
        ∙ ap (λ b. or_else (or_else (or_else (if b then Some nothing else None) None) None) None) f

abbrev its_only : Item
its_only = slice_index_or adding.layout.items 0 (item_of 0 0 form.Group None)

its_item : IsWellFormedItem adding.layout its_only
its_item = record {
  within = one_within (extent_of its_only) 3 refl (omega plain);
  extent = one_extent (extent_of its_only) refl;
  one = λ flat. refl;
  form = record {
    number = record { some_digits = omega plain; at_most_18 = omega plain; whole = refl };
    decimals = omega plain;
  };
  value = (tt, (λ takes. record { digits = omega plain; decimals = omega plain }));
}

alone : (a b : ℕ) (i j : Item) → HasValue adding.layout a i → HasValue adding.layout b j → ¬ a ≡ b →
    LieApart (extent_of i) (extent_of j)
alone zero zero i j h k apart = absurd (apart refl)
alone (suc a) b i j h k apart = absurd (none-some i h.at)
alone zero (suc b) i j h k apart = absurd (none-some j k.at)

adding_is_whole : IsWellFormed adding
adding_is_whole = ((refl, ((refl, tt, tt), tt), tt), tt)

adding_is_source : IsSourceGraph adding graph_of_adding
adding_is_source = record {
  items = record { items = only_item; files = λ k d l. absurd (omega (plain, l)) };
  statements = (
    ((record { operands = refl; receivers = refl; results = refl; rest = refl }, (tt, tt), tt), tt),
    tt,
  );
  whole = adding_is_whole;
  graph = is_graph adding laid_adding adding_is_laid;
  values = alone;
  signs = only_sign;
  tables = only_flat;
  numbers = λ n a its. number_in_order n a (n == 1) (n == 2) refl refl its;
  order = refl;
}
  where
    only_item : All (IsWellFormedItem adding.layout) adding.layout.items
    only_item zero d l = its_item
    only_item (suc k) d l = absurd (omega (plain, l))

    only_sign : SeparateItemsHaveSigns adding.layout
    only_sign zero d l = tt
    only_sign (suc k) d l = absurd (omega (plain, l))

    only_flat : HasNoTables adding.layout
    only_flat zero i at = ap (λ (j : Item). j.stride) (sym (same_Some its_only i at))
    only_flat (suc k) i at = absurd (none-some i at)

adding_does : DoesAt adding graph_of_adding 1 1 add_one
adding_does = record {
  of = record { at = record { statement = 1; sites = []; starts = true }; stands = refl; number = refl };
  act = refl;
}

-- so 999 comes to the phrase's list along the second edge
comes_to_the_list : Reaches adding graph_of_adding [] (λ e row. row) 1 2 full
comes_to_the_list = (
  2,
  full,
  record { first = omega plain; last = omega plain },
  refl,
  (
    refl,
    record { of_source = adding_is_source; first = 0 ∷ 0 ∷ 0 ∷ []; bytes = refl; counters = refl },
  ),
  record {
    of_source = adding_is_source;
    statement = 1;
    act = add_one;
    does = adding_does;
    last = kept;
    way = the_phrase_is_taken;
    bytes = refl;
    counters = refl;
    fails = refl;
  },
)

-- ---- A. PERFORM B 2 TIMES. STOP RUN. B. DISPLAY 'x'.

abbrev graph_of_twice : Graph
graph_of_twice = with_copies twice laid_twice

abbrev loop : Act
loop = perform (range 2 2) (times (sender.Number (numeral (50 ∷ []) 0)))

counts_down : edge_at graph_of_twice 5 ≡ edge 4 action.Down 2
counts_down = refl

abbrev counting : ℤ → Storage
counting n = storage_of [] (Some n ∷ [])

-- from 2 to 1
goes_down :
    PassesParts twice.layout false (parts_of twice 1 loop action.Down) (start (counting (pos 2)))
    (moment [] (Some (pos 1) ∷ []) [] (scaled (pos 2)) false false)
goes_down = (
  moment [] (Some (pos 2) ∷ []) [] (scaled (pos 2)) false false,
  ((pos 2, refl, refl), (λ f. f)),
  (moment [] (Some (pos 1) ∷ []) [] (scaled (pos 2)) false false, (refl, (λ f. f (omega plain))), refl),
)

-- the least number of 18 digits has none below it
at_its_end :
    MeetsAmong twice.layout false (parts_of twice 1 loop action.Down)
    (start (counting (negsuc 999999999999999998))) kind.Size
at_its_end = inr (
  moment [] (Some (negsuc 999999999999999998) ∷ []) [] (scaled (negsuc 999999999999999998)) false false,
  ((negsuc 999999999999999998, refl, refl), (λ f. f)),
  inl (inr (refl, (λ (f : 1000000000000000000 < 10 ^ 18). omega plain))),
)

-- ---- A. PERFORM B. PERFORM B. STOP RUN. B. DISPLAY 'x'.

abbrev performed_twice : Program
performed_twice =
    of_paras (unnamed no_stmts ∷ para 65 (stmt1 1 (perform (range 2 2) once) (stmt1 2 (perform (range 2 2) once)
    (stmt1 3 stop no_stmts))) ∷ para 66 (say 4 120 no_stmts) ∷ [])

abbrev copy_of_b : LaidParas
copy_of_b = more_laid_paras (more_laid (MkLaid 4 showing) no_laid) no_laid_paras

abbrev laid_performed : LaidParas
laid_performed = more_laid_paras no_laid
    (more_laid_paras (more_laid (MkLaid 1 (performing (copy 2 copy_of_b) once))
    (more_laid (MkLaid 2 (performing (copy 2 copy_of_b) once)) (more_laid (MkLaid 3 ending) no_laid)))
    (more_laid_paras (more_laid (MkLaid 4 showing) no_laid) no_laid_paras))

performed_is_laid : IsMainCopy performed_twice laid_performed
performed_is_laid = (
  tt,
  (
    (
      (refl, (refl, (refl, (((refl, refl), tt), tt)))),
      (
        (refl, (refl, (refl, (((refl, refl), tt), tt)))),
        ((refl, refl), tt),
      ),
    ),
    (((refl, refl), tt), tt),
  ),
)

-- one node in each copy
its_copies : map (λ n. node_at (with_copies performed_twice laid_performed).nodes n) (2 ∷ 4 ∷ 6 ∷ [])
    ≡ Some (record { statement = 4; sites = 1 ∷ []; starts = true })
    ∷ Some (record { statement = 4; sites = 2 ∷ []; starts = true })
    ∷ Some (record { statement = 4; sites = []; starts = true }) ∷ []
its_copies = refl

its_edges : (with_copies performed_twice laid_performed).edges
    ≡ edge 1 action.Skip 2 ∷ edge 2 action.Show 3 ∷ edge 3 action.Skip 4 ∷ edge 4 action.Show 5 ∷ edge 5 action.Skip 7
    ∷ edge 6 action.Show 7 ∷ []
its_edges = refl

-- ---- A. PERFORM 2 TIMES GO TO B END-PERFORM. B. STOP RUN.

abbrev leaving : Program
leaving =
    of_paras (unnamed no_stmts ∷ para 65 (stmt1 1 (perform (inline (stmt1 2 (go 2) no_stmts))
    (times (sender.Number (numeral (50 ∷ []) 0)))) no_stmts) ∷ para 66 (stmt1 3 stop no_stmts) ∷ [])

abbrev laid_leaving : LaidParas
laid_leaving = more_laid_paras no_laid
    (more_laid_paras (more_laid (MkLaid 1 (performing (own_list (more_laid (MkLaid 2 (going 2)) no_laid))
    (times (sender.Number (numeral (50 ∷ []) 0))))) no_laid)
    (more_laid_paras (more_laid (MkLaid 3 ending) no_laid) no_laid_paras))

leaving_is_laid : IsMainCopy leaving laid_leaving
leaving_is_laid = (tt, (((refl, (refl, ((refl, (refl, omega plain, omega plain)), tt))), tt), (((refl, refl), tt), tt)))

-- no edge leads to the node that counts down
leaving_edges : (with_copies leaving laid_leaving).edges
    ≡ edge 1 action.SetCount 2 ∷ edge 2 (action.True 0) 3 ∷ edge 2 (action.False 0) 5 ∷ edge 3 action.Skip 5
    ∷ edge 4 action.Down 2 ∷ edge 5 action.Skip 6 ∷ []
leaving_edges = refl

-- so its count stays
leaving_counts : slice_get (after leaving 4).world.counts 0 ≡ Some (Some (pos 2))
leaving_counts = refl

leaving_ends : (after leaving 4).outcome ≡ Ended
leaving_ends = refl

-- ---- 01 R PIC X(2), the record of F; 01 G with T PIC X(2) and N PIC 9(2). READ F INTO G

abbrev reading_a_group : Program
reading_a_group = record {
  layout = record {
    items = item_of 0 2 (form.Text 2) None ∷ item_of 2 4 form.Group None ∷ item_of 2 2 (form.Text 2) None
        ∷ item_of 4 2 (form.Number 2 0 false usage.Display) None ∷ [];
    flags = [];
    files = the_file None ∷ [];
    storage = 6;
  };
  paras = unnamed (stmt1 1 (read 0 (Some 1) left_out no_stmts) no_stmts) ∷ [];
  statements = 1;
}

abbrev read_group : Act
read_group = read 0 (Some 1) left_out no_stmts

the_record_changes : parts_of reading_a_group 1 read_group action.Take ≡ bytes_in 0 2 ∷ []
the_record_changes = refl

the_group_changes : parts_of reading_a_group 1 read_group action.Assign ≡ bytes_in 2 4 ∷ []
the_group_changes = refl

-- all its bytes may change at once, and a number in it is none any more
abbrev before_read : Storage
before_read = storage_of (65 ∷ 66 ∷ 32 ∷ 32 ∷ 48 ∷ 55 ∷ []) (Some (pos 0) ∷ [])

a_group_is_read :
    PassesParts reading_a_group.layout false (parts_of reading_a_group 1 read_group action.Assign) (start before_read)
    (moment (65 ∷ 66 ∷ 65 ∷ 66 ∷ 32 ∷ 32 ∷ []) before_read.counters before_read.bytes (scaled (pos 0)) false false)
a_group_is_read = (_, ((Some (65 ∷ 66 ∷ 32 ∷ 32 ∷ []), refl), (λ f. f)), refl)
