use Rattle.splitc_compile.specs.Compiled.{parts_of}
use Rattle.run_tests.proofs.Whole.{of_code}
use Rattle.run_tests.proofs.tests.replayed.ordered.Goals as goal

pub order-requires-clause-run : goal.order-requires-clause-run
order-requires-clause-run c =
    of_code (parts_of c.args.compiled.now) _ _ c.in_ok-run.run' c.in_ok-run.ensures.run
