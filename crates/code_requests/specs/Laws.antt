-- What the runs of a source's code request: on each node the requests of the source's process
-- under the answers that the journal shows, a simulation as in Milner, "An algebraic definition of simulation between
-- programs" (1971).
use Rattle.std.specs.Prelude.{◌≡◌, ℕ, Bool, false, List, reverse, Some, nat_lt}
use Rattle.resumption.specs.Resumption.{Ends}
use Rattle.effect_order.specs.Transfer.{part_value}
use Rattle.sc_base.specs.declared.value.End.{End}
use Rattle.sc_base.specs.declared.value.Place.{Place}
use Rattle.sc_base.specs.declared.value.Value.{Value}
use Rattle.sc_layout.specs.Layout.{Arrangement}
use Rattle.sc_layout.specs.Start.{start}
use Rattle.sc_isa.specs.declared.code.Code.{Code}
use Rattle.sc_isa.specs.declared.journal.Entry.{Entry}
use Rattle.sc_core.specs.Core.{Program}
use Rattle.sc_meaning.specs.Source.{processes_of}
use Rattle.site_graph.specs.declared.plan.Plan.{Plan}
use Rattle.value_soundness.specs.Laws.{IsLaidSource}
use Rattle.node_emit.specs.Spelled.{Piece}
use Rattle.node_emit.specs.Pointed.{code_points}
use Rattle.node_emit.specs.Oracles.{Oracle, at_first, plays}
use Rattle.node_emit.specs.Law.{IsEmitted}
use Rattle.fabric.specs.Effects.{effects, or_zero}
use Rattle.fabric.specs.Barriers.{passes, finished}
use Rattle.fabric.specs.Asked.{run_so_far}
use Rattle.run_moves.specs.OfCode.{machine_of}
use Rattle.run_moves.specs.Placed.{AccessesArePlaced}
use Rattle.forgotten_marks.specs.Played.{without_points}
use Rattle.source_order.specs.Steps.{own_requests}
use Rattle.source_order.specs.Whole.{IsRun}
use Rattle.source_order.specs.Made.{IsMade}
use Rattle.sc_meaning.specs.Answering.{AllWaitForAnswers}
use Rattle.source_order.specs.Needs.{NoCycle}
use Rattle.source_order.specs.Law.{IsOrdered}

-- what a past shows of a node: the value of each of its accesses that reads, and which barriers it passes
abbrev pub oracle_in : (start : Place → Value) → (node : ℕ) → List Entry → Oracle
oracle_in start node past =
    record {
      value = λ n. or_zero (part_value node n 0 false (effects start past));
      passes = λ k. nat_lt k (passes node past);
    }

-- In a whole run of code what a node requests, says and ends with is what the code plays under the oracle that the run
-- shows, whatever the marks are.
abbrev pub JournalsArePlayed : Type 0
JournalsArePlayed =
    (layout : Arrangement) (code : Code) (plan : Plan) (pieces : List Piece) (between : ℕ → ℕ → List ℕ)
    (node budget many : ℕ) (journal : List Entry) (end : End) (empty : ℕ → Bool)
    → IsRun (machine_of layout code budget many) journal → finished node (reverse journal) ≡ Some end
    → without_points (plays (oracle_in (start layout) node (reverse journal)) empty at_first
    (code_points code layout plan pieces between node budget many))
    ≡ record {
      events = own_requests node (reverse journal);
      text = (run_so_far (machine_of layout code budget many) node (reverse journal)).text;
      end = Ends end;
    }

-- In each whole run of the code of a source each access lies in the layout.
abbrev pub CodeAccessesArePlaced : Type 0
CodeAccessesArePlaced =
    (layout : Arrangement) (program : Program) (plan : Plan) (code : Code) (budget many : ℕ) (journal : List Entry)
    → IsEmitted layout program plan code → IsRun (machine_of layout code budget many) journal
    → AccessesArePlaced layout (reverse journal)

-- In each whole run of the code of a source the nodes make the requests of the source: what the order theorem wants of
-- the journal. Whatever number of instructions it takes, the run is whole only where each node finishes within it.
abbrev pub CodeMakesRequests : Type 0
CodeMakesRequests =
    (layout : Arrangement) (program : Program) (plan : Plan) (code : Code) (budget many : ℕ) (journal : List Entry)
    → IsLaidSource layout program → IsEmitted layout program plan code
    → IsRun (machine_of layout code budget many) journal
    → IsMade (processes_of layout program budget) (machine_of layout code budget many) (reverse journal)

-- a source waits for an answer exactly after the requests that are answered
abbrev pub SourcesWaitForAnswers : Type 0
SourcesWaitForAnswers =
    (layout : Arrangement) (program : Program) (budget : ℕ) → AllWaitForAnswers (processes_of layout program budget)

-- So the order theorem holds of the code of a source: where what has to come before what has no cycle, the source order
-- of a whole run is one whole history of the source, with the run's outcome.
abbrev pub CodeRunsAreOrdered : Type 0
CodeRunsAreOrdered =
    (layout : Arrangement) (program : Program) (plan : Plan) (code : Code) (budget many : ℕ) (journal : List Entry)
    → IsLaidSource layout program → IsEmitted layout program plan code
    → IsRun (machine_of layout code budget many) journal → NoCycle (start layout) layout.nodes (reverse journal)
    → IsOrdered (processes_of layout program budget) (machine_of layout code budget many) journal
