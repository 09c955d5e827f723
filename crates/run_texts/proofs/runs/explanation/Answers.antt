use Rattle.splitc_compile.specs.Compiled.{parts_of}
use Rattle.run_texts.proofs.Shown.{of_code, explained}
use Rattle.run_texts.proofs.runs.explanation.Goals as goal

pub order-requires-clause-run : goal.order-requires-clause-run
order-requires-clause-run c =
    of_code (parts_of c.args.compiled.now) c.args.seed c.args.budget c.in_ok-run.run' c.in_ok-run.ensures

pub returns : goal.returns
returns c =
    explained (parts_of c.args.compiled.now) c.args.seed c.args.budget c.in_ok-run.run' c.in_ok-run.ensures
    c.in_ok-history.history c.in_ok-text.text.items c.in_ok-history.ensures c.in_ok-text.ensures
