-- The program of a source, and its graph.
use Rattle.std.proofs.Common.{sym, subst}
use Rattle.cob_data.specs.Layouts.{layout}
use Rattle.cob_program.specs.Act.{Program}
use Rattle.cob_front.specs.Source.{data_of}
use Rattle.cob_well_formed.proofs.Running.{can_be_run}
use Rattle.graph_runs.specs.Sources.{ValuesStandApart, SeparateItemsHaveSigns, HasNoTables}
use Rattle.data_laws.proofs.Apartness.{values_stand_apart}
use Rattle.data_laws.proofs.Signs.{separate_items_have_signs}
use Rattle.data_laws.proofs.Values.{items_plain}
use Rattle.source_facts.specs.Statements.{AreNumberedInOrder, SourcesNumberStatements, SourcesCountStatements}
use Rattle.source_facts.specs.Sources.{SourcesHaveSourceGraphs}
use Rattle.source_facts.proofs.Numbers.{typed_in_order, numbers_are_counted}

pub sources_number_statements : SourcesNumberStatements
sources_number_statements bytes p is = subst AreNumberedInOrder (sym is.program) (typed_in_order (layout (data_of is.tree)) is.tree)

pub sources_count_statements : SourcesCountStatements
sources_count_statements bytes p is = numbers_are_counted p (sources_number_statements bytes p is)

pub sources_have_source_graphs : SourcesHaveSourceGraphs
sources_have_source_graphs bytes p g is graph =
    let can = can_be_run bytes p is in
    record {
      items = can.items;
      statements = can.statements;
      whole = can.whole;
      graph = graph;
      values = subst (λ (q : Program). ValuesStandApart q.layout) (sym is.program) (values_stand_apart (data_of is.tree) is.keeps.has_layout);
      signs = subst (λ (q : Program). SeparateItemsHaveSigns q.layout) (sym is.program) (separate_items_have_signs (data_of is.tree) is.keeps.has_layout);
      tables = subst (λ (q : Program). HasNoTables q.layout) (sym is.program) (items_plain (data_of is.tree));
      numbers = sources_count_statements bytes p is;
      order = sources_number_statements bytes p is;
    }
