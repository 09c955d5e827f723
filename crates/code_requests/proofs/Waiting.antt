-- A source waits for an answer exactly after what is answered.
use Rattle.sc_meaning.specs.Source.{processes_of}
use Rattle.source_order.proofs.Ordering.{order_holds}
use Rattle.forgotten_marks.proofs.Waiting.{source_waits}
use Rattle.run_moves.specs.OfCode.{machine_of}
use Rattle.code_requests.specs.Laws.{SourcesWaitForAnswers, CodeRunsAreOrdered}
use Rattle.code_requests.proofs.Making.{code_makes_requests}

pub sources_wait_for_answers : SourcesWaitForAnswers
sources_wait_for_answers layout program budget node below =
    source_waits (record { layout = layout; node = node; program = program }) budget

pub code_runs_are_ordered : CodeRunsAreOrdered
code_runs_are_ordered layout program plan code budget many journal source_ emitted is_run no_cycle =
    order_holds (processes_of layout program budget) (machine_of layout code budget many) journal (sources_wait_for_answers layout program budget) is_run
    (code_makes_requests layout program plan code budget many journal source_ emitted is_run) no_cycle
