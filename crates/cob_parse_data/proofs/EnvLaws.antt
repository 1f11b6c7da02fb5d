-- The laws of the ENVIRONMENT DIVISION.
use Rattle.std.proofs.Common.{◌≡◌, ℕ, ◌<◌, true, false, List, [], ◌∷◌, ◌++◌, Option, Some, None, refl, sym, ap, ◌∙◌}
use Rattle.std.specs.List.{AllByRecursion}
use Rattle.cob_tree.specs.declared.keyword.Keyword.{Keyword}
use Rattle.cob_tree.specs.declared.keyword.Keyword.TheVariants as key
use Rattle.cob_tree.specs.declared.front.Env.{Env}
use Rattle.cob_tree.specs.declared.front.Config.{Config}
use Rattle.cob_tree.specs.declared.front.Io.{Io}
use Rattle.cob_tree.specs.declared.front.Select.{Select}
use Rattle.cob_tree.specs.declared.front.External.{External}
use Rattle.cob_tree.specs.declared.front.External.TheVariants as external
use Rattle.cob_tree.specs.declared.front.SelClause.{SelClause}
use Rattle.cob_tree.specs.declared.front.SelClause.TheVariants as sel
use Rattle.cob_tree.specs.Symbols.{Symbol, Key, Name, Stop}
use Rattle.cob_tree.specs.Items.{Item, item, item_on, each}
use Rattle.cob_tree.specs.Items as items
use Rattle.cob_tree.specs.PrintFront.{print_if, print_computer, print_config, print_external, print_sel_clause, print_select, print_io, print_env}
use Rattle.cob_tree.specs.Shaped.{IfThere, sel_kind, ShapedSelect, ShapedIo, ShapedEnv}
use Rattle.reading.specs.Readers.{seq}
use Rattle.reading.specs.Law.{Syntax, Law}
use Rattle.reading.proofs.Texts.{Always, takes_nothing}
use Rattle.reading.proofs.Seen.{View, seen_law}
use Rattle.reading.proofs.Dependent.{seq_syntax, seq_law}
use Rattle.reading.proofs.Starts.{Begins}
use Rattle.cob_parse_data.specs.declared.head.SelectHead.{SelectHead}
use Rattle.cob_parse_data.specs.declared.head.SelectHead.TheVariants as head
use Rattle.cob_parse_expr.specs.LexemeClasses.{by_symbol, is, the, stop_symbol}
use Rattle.cob_parse_data.specs.Heads.{select_word, select_key, select_symbol, select_kind, select_head_of}
use Rattle.cob_parse_data.specs.Reading.{word, stop, computer, select_body, select_clauses, make_select, select, make_config, config, make_io, io, make_env, env}
use Rattle.cob_parse_data.specs.Takes.{takes_config, takes_io, takes_env}
use Rattle.cob_parse_data.proofs.Parts.{then_law, list_syntax, list_law, last_ended}
use Rattle.cob_parse_data.proofs.ClassLaws.{one_token, begins_with, starts_with, one_syntax, one_law, line_syntax, line_law, words, one_word, stops, names, externals, spelled_external}
use Rattle.cob_parse_data.proofs.ClausesLaw.{Clausal, clause_list, clause_list_law, clauses_end}
use Rattle.cob_parse_data.proofs.WordLaws.{Leads, headed_syntax, headed_law, named_syntax, named_law, two_syntax, two_law, two_free}

pub is_stop : (y : Symbol) → is stop_symbol y ≡ true → y ≡ Stop
is_stop Stop e = refl
is_stop _ e = absurd cc

pub stop_begins : Begins by_symbol (is stop_symbol) (one_syntax (λ (x : Unit {0}). Stop))
stop_begins = begins_with stops (one_syntax (λ x. Stop)) (λ x good. (tt, None, [], refl))

-- what stands where anything may
pub anything : {A : Type 0} (o : Option A) → IfThere Always o
anything None = tt
anything (Some x) = tt

pub all_always : {A : Type 0} (xs : List A) → AllByRecursion Always xs
all_always [] = tt
all_always (x ∷ xs) = (tt, all_always xs)

-- ---- CONFIGURATION SECTION

abbrev pub config_syntax : Syntax Item Symbol Config
config_syntax = record { Good = Always; print = print_config; takes = takes_config }

abbrev computer_syntax : Keyword → Syntax Item Symbol (List ℕ)
computer_syntax k = headed_syntax (k ∷ []) named_syntax

abbrev config_parts : Config → Option (List ℕ) × Option (List ℕ)
config_parts c = (c.source, c.object)

abbrev computers : Syntax Item Symbol (Option (List ℕ) × Option (List ℕ))
computers = two_syntax key.SourceComputer key.ObjectComputer (computer_syntax key.SourceComputer) (computer_syntax key.ObjectComputer)

abbrev computers_of : Syntax Item Symbol Config
computers_of = record { Good = Always; print = λ c. print_computer key.SourceComputer c.source ++ print_computer key.ObjectComputer c.object; takes = takes_config }

computer_printed : (k : Keyword) (o : Option (List ℕ)) → print_computer k o ≡ print_if (computer_syntax k).print o
computer_printed k None = refl
computer_printed k (Some text) = refl

computers_view : View computers computers_of make_config config_parts
computers_view = record {
  back = λ c good. refl;
  print = λ x good. ap (λ (z : List Item). z ++ print_computer key.ObjectComputer x.1) (computer_printed key.SourceComputer x.0) ∙ ap (λ (z : List Item). print_if (computer_syntax key.SourceComputer).print x.0 ++ z) (computer_printed key.ObjectComputer x.1);
  takes = λ x y good. refl;
  good = λ x good. tt;
  good_back = λ c good. (anything c.source, anything c.object);
}

-- ---- SELECT entries

abbrev select_rest : SelClause → List Item
select_rest sel.Organization = items.key 0 key.Sequential ∷ []
select_rest sel.Access = items.key 0 key.Sequential ∷ []
select_rest (sel.Status text) = item 0 (Name text) ∷ []

abbrev status_text : SelClause → List ℕ
status_text (sel.Status text) = text
status_text _ = []

abbrev pub nothing_of : {A : Type 0} → A → Unit {0}
nothing_of x = tt

abbrev select_bodies : SelectHead → Syntax Item Symbol SelClause
select_bodies k = record { Good = λ c. (select_head_of c ≡ k) × Always c; print = select_rest; takes = takes_nothing }

module _ (top : ℕ) (low : 0 < top) where
  config_law : Law by_symbol config config_syntax top
  config_law = headed_law top low (key.Configuration ∷ key.Section ∷ []) (seen_law (two_law low key.SourceComputer key.ObjectComputer refl (computer_law key.SourceComputer) (computer_law key.ObjectComputer) (leads key.SourceComputer) (leads key.ObjectComputer) (λ x good. refl) (λ x good. refl)) computers_view)
    where
      computer_law : (k : Keyword) → Law by_symbol (computer k) (computer_syntax k) top
      computer_law k = headed_law top low (k ∷ []) (named_law top low)

      leads : (k : Keyword) → Leads k (computer_syntax k)
      leads k x good = (item 0 Stop ∷ item 0 (Name x) ∷ item 0 Stop ∷ [], refl)

  select_clausal : Clausal select_symbol select_kind sel_kind Always print_sel_clause select_body top
  select_clausal = record {
    word = select_word;
    spelling = words reads only;
    head = select_head_of;
    body = select_rest;
    takes = takes_nothing;
    numbered = numbered;
    printed = printed;
    law = law;
    never = λ c good. refl;
    free = λ c y good e. refl;
    no_stop = refl;
  }
    where
      reads : (x : SelectHead) → select_key (select_word x) ≡ Some x
      reads head.Organization = refl
      reads head.Access = refl
      reads head.Status = refl

      only : (k : Keyword) (x : SelectHead) → select_key k ≡ Some x → k ≡ select_word x
      only key.Organization x e = let same : head.Organization ≡ x = cc in ap select_word same
      only key.Access x e = let same : head.Access ≡ x = cc in ap select_word same
      only key.Status x e = let same : head.Status ≡ x = cc in ap select_word same
      only _ x e = absurd cc

      numbered : (c : SelClause) → sel_kind c ≡ select_kind (select_head_of c)
      numbered sel.Organization = refl
      numbered sel.Access = refl
      numbered (sel.Status text) = refl

      printed : (c : SelClause) → print_sel_clause c ≡ item 0 (Key (select_word (select_head_of c))) ∷ select_rest c
      printed sel.Organization = refl
      printed sel.Access = refl
      printed (sel.Status text) = refl

      organization : (c : SelClause) → select_head_of c ≡ head.Organization → sel.Organization ≡ c
      organization sel.Organization e = refl
      organization _ e = absurd cc

      access : (c : SelClause) → select_head_of c ≡ head.Access → sel.Access ≡ c
      access sel.Access e = refl
      access _ e = absurd cc

      status : (c : SelClause) → select_head_of c ≡ head.Status → sel.Status (status_text c) ≡ c
      status (sel.Status text) e = refl
      status _ e = absurd cc

      sequential : Law by_symbol (word key.Sequential) (one_syntax (λ x. Key key.Sequential)) top
      sequential = one_law (one_word key.Sequential) top low tt

      law : (k : SelectHead) → Law by_symbol (select_body k) (select_bodies k) top
      law head.Organization = seen_law {parts = nothing_of} sequential (record { back = λ c good. organization c good.0; print = λ x good. refl; takes = λ x y good. refl; good = λ x good. (refl, tt); good_back = λ c good. tt })
      law head.Access = seen_law {parts = nothing_of} sequential (record { back = λ c good. access c good.0; print = λ x good. refl; takes = λ x y good. refl; good = λ x good. (refl, tt); good_back = λ c good. tt })
      law head.Status = seen_law {parts = status_text} (one_law names top low []) (record { back = λ c good. status c good.0; print = λ x good. refl; takes = λ x y good. refl; good = λ x good. (refl, tt); good_back = λ c good. tt })

  abbrev select_list : Syntax Item Symbol (List SelClause)
  select_list = clause_list select_clausal low

  abbrev select_syntax : Syntax Item Symbol Select
  select_syntax = record { Good = ShapedSelect; print = print_select; takes = takes_nothing }

  external_printed : (e : External) → print_external e ≡ item 0 (spelled_external e)
  external_printed (external.Name text) = refl
  external_printed (external.Text text) = refl

  select_law : Law by_symbol select select_syntax top
  select_law = seen_law (seq_law (line_law (one_word key.Select) top low tt) (λ x p good. refl) (seq_law (one_law names top low []) (λ x p good. refl) (seq_law (one_law (one_word key.Assign) top low tt) (λ x p good. refl) (seq_law (one_law externals top low (external.Name [])) (λ x p good. refl) ended)))) view
    where
      ended : Law by_symbol (seq select_clauses stop) (seq_syntax select_list (one_syntax (λ (x : Unit {0}). Stop))) top
      ended = then_law (clause_list_law select_clausal low) (one_law stops top low tt) (λ x. one_token (select_list.takes x)) (is stop_symbol) stop_begins (λ cs y good e. ap (select_list.takes cs) (is_stop y e) ∙ clauses_end select_clausal low cs good)

      parts : Select → (ℕ × Unit {0}) × (List ℕ × (Unit {0} × (External × (List SelClause × Unit {0}))))
      parts s = ((s.line, tt), (s.name, (tt, (s.external, (s.clauses, tt)))))

      view : View (seq_syntax (line_syntax (λ (x : Unit {0}). Key key.Select)) (seq_syntax (one_syntax (λ text. Name text)) (seq_syntax (one_syntax (λ (x : Unit {0}). Key key.Assign)) (seq_syntax (one_syntax spelled_external) (seq_syntax select_list (one_syntax (λ (x : Unit {0}). Stop))))))) select_syntax make_select parts
      view = record {
        back = λ s good. refl;
        print = λ x good. ap (λ (i : Item). item_on 0 x.0.0 (Key key.Select) ∷ item 0 (Name x.1.0) ∷ item 0 (Key key.Assign) ∷ i ∷ (each print_sel_clause x.1.1.1.1.0 ++ item 0 Stop ∷ [])) (external_printed x.1.1.1.0);
        takes = λ x y good. refl;
        good = λ x good. good.1.1.1.1.0.0;
        good_back = λ s good. (tt, (tt, (tt, (tt, ((good, all_always s.clauses), tt)))));
      }

  select_leads : Begins by_symbol (is (the key.Select)) select_syntax
  select_leads = begins_with (one_word key.Select) select_syntax (λ s good. (tt, Some s.line, item 0 (Name s.name) ∷ item 0 (Key key.Assign) ∷ print_external s.external ∷ (each print_sel_clause s.clauses ++ item 0 Stop ∷ []), refl))

  -- ---- INPUT-OUTPUT SECTION

  abbrev io_syntax : Syntax Item Symbol Io
  io_syntax = record { Good = ShapedIo; print = print_io; takes = takes_io }

  abbrev selects_of : Syntax Item Symbol Io
  selects_of = record { Good = ShapedIo; print = λ i. each print_select i.selects; takes = takes_io }

  abbrev io_parts : Io → List Select
  io_parts i = i.selects

  io_law : Law by_symbol io io_syntax top
  io_law = headed_law top low (key.InputOutput ∷ key.Section ∷ []) (headed_law top low (key.FileControl ∷ []) (seen_law (list_law select_law (is (the key.Select)) Stop (λ s good. refl) (λ s y good e. refl) (starts_with select_leads)) view))
    where
      view : View (list_syntax (is (the key.Select)) select_syntax) selects_of make_io io_parts
      view = record { back = λ i good. refl; print = λ x good. refl; takes = λ x y good. sym (last_ended (is (the key.Select)) select_syntax (λ s p. refl) x y); good = λ x good. good; good_back = λ i good. good }

  abbrev pub env_syntax : Syntax Item Symbol Env
  env_syntax = record { Good = ShapedEnv; print = print_env; takes = takes_env }

  abbrev sections_of : Syntax Item Symbol Env
  sections_of = record { Good = ShapedEnv; print = λ e. print_if print_config e.config ++ print_if print_io e.io; takes = takes_env }

  abbrev env_parts : Env → Option Config × Option Io
  env_parts e = (e.config, e.io)

  config_free : (y : Symbol) → is (the key.SourceComputer) y ≡ false → is (the key.ObjectComputer) y ≡ false → (c : Config) → takes_config c y ≡ false
  config_free y e f c = two_free key.SourceComputer key.ObjectComputer (computer_syntax key.SourceComputer) (computer_syntax key.ObjectComputer) y e f (λ x good. refl) (λ x good. refl) (c.source, c.object) (anything c.source, anything c.object)

  pub env_law : Law by_symbol env env_syntax top
  env_law = headed_law top low (key.Environment ∷ key.Division ∷ []) (seen_law (two_law low key.Configuration key.InputOutput refl config_law io_law config_leads io_leads (λ c good. config_free Stop refl refl c) (λ c good. config_free (Key key.InputOutput) refl refl c)) view)
    where
      config_leads : Leads key.Configuration config_syntax
      config_leads c good = (items.key 0 key.Section ∷ item 0 Stop ∷ (print_computer key.SourceComputer c.source ++ print_computer key.ObjectComputer c.object), refl)

      io_leads : Leads key.InputOutput io_syntax
      io_leads i good = (items.key 0 key.Section ∷ item 0 Stop ∷ items.key 0 key.FileControl ∷ item 0 Stop ∷ each print_select i.selects, refl)

      view : View (two_syntax key.Configuration key.InputOutput config_syntax io_syntax) sections_of make_env env_parts
      view = record { back = λ e good. refl; print = λ x good. refl; takes = λ x y good. refl; good = λ x good. good.1; good_back = λ e good. (anything e.config, good) }

  pub env_leads : Leads key.Environment env_syntax
  env_leads e good = (items.key 0 key.Division ∷ item 0 Stop ∷ (print_if print_config e.config ++ print_if print_io e.io), refl)

  -- no environment goes on with what begins neither of its sections nor a part of them
  pub env_free : (y : Symbol) → is (the key.Configuration) y ≡ false → is (the key.InputOutput) y ≡ false → is (the key.SourceComputer) y ≡ false → is (the key.ObjectComputer) y ≡ false → is (the key.Select) y ≡ false → (e : Env) → ShapedEnv e → takes_env e y ≡ false
  env_free y a b c d f e good = two_free key.Configuration key.InputOutput config_syntax io_syntax y a b (λ x g. config_free y c d x) (λ x g. f) (e.config, e.io) (anything e.config, good)
