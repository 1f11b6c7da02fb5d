-- What contracts see of statements and programs: each type's layer, with what its children are seen as in their place.
use Rattle.std.specs.Prelude.{List, map, Option, Vec}
use Rattle.std.specs.Option.{option_map}
use Rattle.std.specs.declared.alloc.Global.{Global}
use Rattle.cob_program.specs.declared.act.Stmt as declared_stmt
use Rattle.cob_program.specs.declared.act.Act as declared_act
use Rattle.cob_program.specs.declared.act.When as declared_when
use Rattle.cob_program.specs.declared.act.Body as declared_body
use Rattle.cob_program.specs.declared.act.Turns as declared_turns
use Rattle.cob_program.specs.declared.act.Turns.TheVariants as variant
use Rattle.cob_program.specs.declared.act.Act.TheOpen as layer
use Rattle.cob_program.specs.declared.act.Act.TheFolds.{fold-Stmt, fold-Act, fold-When, fold-Body}
use Rattle.cob_program.specs.declared.program.Para as declared_para
use Rattle.cob_program.specs.declared.program.Program as declared_program
use Rattle.cob_program.specs.SumView.{plain_sum}
use Rattle.cob_program.specs.LogicView.{plain_logic}
use Rattle.cob_program.specs.Act.{Turns, once, times, until, varying, Stmt, MkStmt, Stmts, stmts_of, Phrase, phrase_of, Act, move, arith, if_, evaluate, perform, go, nothing, stop, open_files, close_files, read, write, show, Whens, whens_of, When, MkWhen, Body, range, inline, Para, Program}

abbrev pub plain_turns : declared_turns.Turns → Turns
plain_turns variant.Once = once
plain_turns (variant.Times count) = times count
plain_turns (variant.Until after t) = until after (plain_logic t)
plain_turns (variant.Varying after place start by t) = varying after place start by (plain_logic t)

abbrev list_of : Vec Stmt Global → Stmts
list_of v = stmts_of v.items

abbrev phrase : Option (Vec Stmt Global) → Phrase
phrase o = phrase_of (option_map list_of o)

abbrev act_step : layer.Act-F Act Body Stmt When → Act
act_step (layer.Move from to) = move from to
act_step (layer.Arith common targets remainder size fine) = arith (plain_sum common) targets remainder (phrase size) (list_of fine)
act_step (layer.If t yes_ no_) = if_ (plain_logic t) (list_of yes_) (list_of no_)
act_step (layer.Evaluate whens other) = evaluate (whens_of whens.items) (list_of other)
act_step (layer.Perform body turns) = perform body (plain_turns turns)
act_step (layer.Go place) = go place
act_step layer.Nothing = nothing
act_step layer.Stop = stop
act_step (layer.OpenFiles files) = open_files files
act_step (layer.CloseFiles files) = close_files files
act_step (layer.Read file into end fine) = read file into (phrase end) (list_of fine)
act_step (layer.Write rec from) = write rec from
act_step (layer.Show senders) = show senders

abbrev body_step : layer.Body-F Act Body Stmt When → Body
body_step (layer.Range first last) = range first last
body_step (layer.Inline body) = inline (list_of body)

abbrev stmt_step : layer.Stmt-F Act Body Stmt When → Stmt
stmt_step s = MkStmt s.number s.line s.act

abbrev when_step : layer.When-F Act Body Stmt When → When
when_step w = MkWhen (map plain_logic w.tests) (list_of w.body)

abbrev pub plain_stmt : declared_stmt.Stmt → Stmt
plain_stmt = fold-Stmt Act Body Stmt When act_step body_step stmt_step when_step

abbrev pub plain_act : declared_act.Act → Act
plain_act = fold-Act Act Body Stmt When act_step body_step stmt_step when_step

abbrev pub plain_when : declared_when.When → When
plain_when = fold-When Act Body Stmt When act_step body_step stmt_step when_step

abbrev pub plain_body : declared_body.Body → Body
plain_body = fold-Body Act Body Stmt When act_step body_step stmt_step when_step

abbrev pub plain_stmts : List declared_stmt.Stmt → Stmts
plain_stmts xs = stmts_of (map plain_stmt xs)

abbrev pub plain_phrase : Option (Vec declared_stmt.Stmt Global) → Phrase
plain_phrase o = phrase_of (option_map (λ v. plain_stmts v.items) o)

abbrev pub plain_whens : List declared_when.When → Whens
plain_whens xs = whens_of (map plain_when xs)

abbrev pub plain_para : declared_para.Para → Para
plain_para p = record { name = p.name; line = p.line; body = stmts_of (map plain_stmt p.body) }

abbrev pub plain_paras : List declared_para.Para → List Para
plain_paras xs = map plain_para xs

abbrev pub plain_program : declared_program.Program → Program
plain_program p = record { layout = p.layout; paras = map plain_para p.paras; statements = p.statements }
