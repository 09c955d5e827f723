use Rattle.std.proofs.Common.{refl, ◌∙◌}
use Rattle.splitc_top.proofs.Answered.{gains_none, gains_text, gains_part, report_answer, cut_answer, refusal_told}
use Rattle.splitc_top.proofs.Answered.{refusal_cut_answer}
use Rattle.splitc_top.specs.Reasons.{reason_line}
use Rattle.splitc_top.proofs.top.top_still.Goals as goal

pub returns-in-Ok-write_all-clause-answer : goal.returns-in-Ok-write_all-clause-answer
returns-in-Ok-write_all-clause-answer g c =
    report_answer _ c.in-Ok.ensures.made c.in-Ok.report.text.items c.in-Ok.report.status c.in-Ok.ensures.told
    (gains_text _ _ c.as_slice.result.now c.in-Ok.report.text.items c.as_slice.ensures.value
    c.in-Ok-write_all.ensures.all)
    (gains_none (g.E.Sink.held c.args.err.now) (g.E.Sink.held c.args.err.now) refl)

pub returns-in-Ok-clause-answer : goal.returns-in-Ok-clause-answer
returns-in-Ok-clause-answer g c =
    cut_answer _ c.in-Ok.ensures.made c.in-Ok.report.text.items c.in-Ok.report.status c.in-Ok.ensures.told c.in-Err-write_all.ensures.cause
    (gains_part _ _ c.as_slice.result.now c.in-Ok.report.text.items c.in-Err-write_all.field-0.done
    c.as_slice.ensures.value c.in-Err-write_all.ensures.proper c.in-Err-write_all.ensures.part)
    (gains_none (g.E.Sink.held c.args.err.now) (g.E.Sink.held c.args.err.now) refl)

pub returns-in-Ok-write_all-2-clause-answer : goal.returns-in-Ok-write_all-2-clause-answer
returns-in-Ok-write_all-2-clause-answer g c =
    let told = c.line_of-line.result.reason in
    refusal_told _ c.in-Err.ensures.made c.in-Err.reason told c.status_of_reason.result
    (record { holds = c.in-Err.ensures.refused; unmade = c.in-Err.ensures.unmade })
    c.line_of-line.ensures.told c.status_of_reason.ensures
    (gains_none (g.K.Sink.held c.args.out.now) (g.K.Sink.held c.args.out.now) refl)
    (gains_text _ _ c.as_bytes.result.now (reason_line told) (c.as_bytes.ensures ∙ c.line_of-line.ensures.text)
    c.in-Ok-write_all-2.ensures.all)

pub returns-clause-answer : goal.returns-clause-answer
returns-clause-answer g c =
    let told = c.line_of-line.result.reason in
    refusal_cut_answer _ c.in-Err.ensures.made c.in-Err.reason told
    (record { holds = c.in-Err.ensures.refused; unmade = c.in-Err.ensures.unmade }) c.line_of-line.ensures.told
    c.in-Err-write_all-2.ensures.cause
    (gains_none (g.K.Sink.held c.args.out.now) (g.K.Sink.held c.args.out.now) refl)
    (gains_part _ _ c.as_bytes.result.now (reason_line told) c.in-Err-write_all-2.field-0.done
    (c.as_bytes.ensures ∙ c.line_of-line.ensures.text) c.in-Err-write_all-2.ensures.proper
    c.in-Err-write_all-2.ensures.part)
