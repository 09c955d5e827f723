-- Runs of plain code are plain, have no cycle, and have their source order.
use Rattle.std.proofs.Common.{◌+◌, [], reverse, subst, arith}
use Rattle.resumption.specs.Resumption.{RunOf}
use Rattle.sc_isa.specs.Run.{Ask, Halt}
use Rattle.flow_form.specs.FlowOf.{flow_of}
use Rattle.sc_meaning.specs.Source.{processes_of}
use Rattle.run_moves.proofs.Picked.{picks_determine_the_run}
use Rattle.source_order.proofs.ByRules.{order_is_by_rules}
use Rattle.source_order.proofs.PlainOrder.{plain_runs_have_no_cycle}
use Rattle.node_emit.specs.Pointed.{code_points}
use Rattle.forgotten_marks.proofs.Marks.{marks_are_forgotten}
use Rattle.run_moves.specs.OfCode.{machine_of}
use Rattle.code_requests.proofs.Making.{code_makes_requests}
use Rattle.code_requests.proofs.Waiting.{sources_wait_for_answers, code_runs_are_ordered}
use Rattle.run_laws.specs.Laws.{PlainCodeRunsPlainly, PlainCodeRunsHaveNoCycle, PlainRunsAreOrdered, SimulatedRunsAreOrdered, PicksDetermineTheCodeRun}
use Rattle.run_laws.proofs.PlainAsks.{ArePlain, start_plain}
use Rattle.run_laws.proofs.PlainJournal.{all_plain}
use Rattle.run_laws.proofs.Known.{code_runs_are_whole}

pub plain_code_runs_plainly : PlainCodeRunsPlainly
plain_code_runs_plainly layout code graph plan budget many journal carries plain legal =
    all_plain (machine_of layout code budget many)
    (λ node below given. subst (λ (r : RunOf Ask Halt). ArePlain [] r.events)
    (marks_are_forgotten code layout plan carries.pieces carries.between node budget many given)
    (start_plain graph plan plain (code_points code layout plan carries.pieces carries.between node budget many) given (carries.walks node budget many below)))
    (reverse journal) legal.wired legal.asked

pub plain_code_runs_have_no_cycle : PlainCodeRunsHaveNoCycle
plain_code_runs_have_no_cycle layout code graph plan budget many journal carries plain run =
    plain_runs_have_no_cycle (machine_of layout code budget many) journal run
    (plain_code_runs_plainly layout code graph plan budget many journal carries plain run.legal)

pub plain_runs_are_ordered : PlainRunsAreOrdered
plain_runs_are_ordered layout program plan code budget many journal laid emitted plain run =
    let processes = processes_of layout program budget in
    let waits = sources_wait_for_answers layout program budget in
    let made = code_makes_requests layout program plan code budget many journal laid emitted run in
    let none = plain_code_runs_have_no_cycle layout code (flow_of layout.nodes program) plan budget many journal emitted.carries plain run in
    record {
      run = run;
      made = made;
      no_cycle = none;
      ordered = code_runs_are_ordered layout program plan code budget many journal laid emitted run none;
      by_rules = order_is_by_rules processes (machine_of layout code budget many) journal waits run made;
    }

pub simulated_runs_are_ordered : SimulatedRunsAreOrdered
simulated_runs_are_ordered layout program plan code budget picks journal laid emitted plain simulation =
    let whole = code_runs_are_whole layout code budget emitted.sound in (
      whole.0 + simulation.0,
      λ many le.
          plain_runs_are_ordered layout program plan code budget many journal laid emitted plain
          (whole.1 many (omega (arith, le)) picks journal (simulation.1 many (omega (arith, le)))),
    )

pub picks_determine_the_code_run : PicksDetermineTheCodeRun
picks_determine_the_code_run layout code budget picks one other a b =
    picks_determine_the_run (machine_of layout code budget (a.0 + b.0)) picks one other (a.1 (a.0 + b.0) (omega arith)) (b.1 (a.0 + b.0) (omega arith))
