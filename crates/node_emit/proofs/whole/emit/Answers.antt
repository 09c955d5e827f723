use Rattle.std.proofs.Common.{◌≡◌, ◌∙◌, ap, map}
use Rattle.sc_core.specs.ViewStatements.{plain_function, plain_program}
use Rattle.node_emit.specs.Whole.{functions_put, rows_of}
use Rattle.node_emit.proofs.Sources.{at_first, code-written}
use Rattle.node_emit.proofs.whole.emit.Goals as goal

pub returns-in-Some-clause-code : goal.returns-in-Some-clause-code
returns-in-Some-clause-code c =
    let p = c.in-Some.ensures.parts in
    let r = c.in_ok-rows.ensures in
    let d = c.new-draft.ensures in
    let a = c.as_slice.ensures in
    let w : c.functions.new.draft ≡ functions_put c.args.plan.now (map plain_function c.args.core.now.functions) at_first =
    r.draft ∙ ap (λ l. functions_put c.args.plan.now (map plain_function l) c.new-draft.result) a
    ∙ ap (functions_put c.args.plan.now (map plain_function c.args.core.now.functions)) d in
    code-written c.args.plan.now (plain_program c.args.core.now) c.in-Some.code
    (p.0 ∙ c.from_vec.ensures ∙ r.rows ∙ ap (λ l. rows_of c.args.plan.now (map plain_function l) c.new-draft.result) a
    ∙ ap (rows_of c.args.plan.now (map plain_function c.args.core.now.functions)) d)
    (p.1 ∙ c.from_vec-2.ensures ∙ c.into_instrs-instrs.ensures ∙ ap (λ x. x.instrs) w)
    (p.2 ∙ c.from_vec-3.ensures ∙ c.in_ok-texts.ensures ∙ c.as_slice-2.ensures)
    (p.3 ∙ c.sites-sites.ensures ∙ ap (λ x. x.sites) w)
