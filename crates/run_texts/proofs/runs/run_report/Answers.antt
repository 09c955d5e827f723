use Rattle.std.proofs.Common.{length, ap, ◌∙◌}
use Rattle.splitc_compile.specs.Compiled.{parts_of}
use Rattle.run_report.specs.Report.{ends_in}
use Rattle.run_report.specs.Status.{status_of}
use Rattle.run_texts.proofs.Shown.{counted, reported}
use Rattle.run_texts.proofs.runs.run_report.Goals as goal

pub report_text-requires-clause-nodes : goal.report_text-requires-clause-nodes
report_text-requires-clause-nodes c =
    counted (parts_of c.args.compiled.now) c.args.seed c.args.budget c.in_ok-run.run' c.in_ok-run.ensures

pub returns : goal.returns
returns c =
    reported (parts_of c.args.compiled.now) c.args.seed c.args.budget c.in_ok-run.run' c.in_ok-run.ensures c.requires
    c.args.memory c.in_ok-text.text.items c.status_of_results.result c.in_ok-text.ensures
    (c.status_of_results.ensures ∙ ap (λ n. status_of (length n) (ends_in n)) c.as_slice.ensures)
