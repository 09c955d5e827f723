use Rattle.std.proofs.Common.{◌≡◌, ◌∙◌, ap, ℕ, map, arith}
use Rattle.sc_core.specs.ViewStatements.{plain_function, plain_program}
use Rattle.flow_form.specs.declared.scan.Whole.{Whole}
use Rattle.flow_form.specs.Accesses.{accesses_of}
use Rattle.flow_form.specs.Scans.{whole_of}
use Rattle.flow_form.proofs.Scanned.{sites_of_whole}
use Rattle.flow_form.proofs.scan.scan_source.Goals as goal

pub returns-then-from-clause-cause : goal.returns-then-from-clause-cause
returns-then-from-clause-cause c =
    let is : c.in-Ok.whole ≡ whole_of (plain_program c.args.program.now).functions =
    c.in-Ok.ensures ∙ ap (λ fs. whole_of (map plain_function fs)) c.as_slice.ensures in
    let e = sites_of_whole c.in-Ok.whole (plain_program c.args.program.now) is in
    (omega arith, e)

pub returns-clause-few : goal.returns-clause-few
returns-clause-few c =
    let is : c.in-Ok.whole ≡ whole_of (plain_program c.args.program.now).functions =
    c.in-Ok.ensures ∙ ap (λ fs. whole_of (map plain_function fs)) c.as_slice.ensures in
    let e = sites_of_whole c.in-Ok.whole (plain_program c.args.program.now) is in
    omega arith
