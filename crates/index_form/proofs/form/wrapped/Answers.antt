use Rattle.std.proofs.Common.{◌∙◌, ap, sym}
use Rattle.index_form.specs.Chains.{stepped, seen_two}
use Rattle.index_form.specs.Placing.{wrapped_known}
use Rattle.index_form.proofs.Placed.{wrapped_procs}
use Rattle.index_form.proofs.form.wrapped.Goals as goal

pub returns-then-is_procs : goal.returns-then-is_procs
unfolding seen_two
returns-then-is_procs c =
    c.wrapped_form.ensures ∙ ap wrapped_known c.in_ok-form.ensures
    ∙ sym
    (wrapped_procs _ _ (stepped c.in-Some.step) (seen_two c.in-Some-remainder.two) (sym c.in-Some.ensures)
    (sym c.in-Some-remainder.ensures) (sym c.is_procs.ensures ∙ c.if-is_procs.true))
