use Rattle.std.proofs.Common.{Result, Ok, Err, OnErr, refl, ◌∙◌}
use Rattle.node_machine.proofs.machine.Machine.step.Goals as goal

on_err : {A E : Type 0} {P : Type 0} → (r : Result A E) → P → OnErr r P
on_err (Ok x) p = tt
on_err (Err e) p = p

pub returns-in_err-made-clause-refused : goal.returns-in_err-made-clause-refused
returns-in_err-made-clause-refused c =
    on_err c.from_residual-in_err-made.result (record {
      same = λ flying. c.in_err-made.ensures.refused.same flying
          ∙ rw (c.in_ok-reserve.ensures.stack, c.in_ok-reserve.ensures.locals, c.in_ok-reserve.ensures.callers) refl;
      reads = c.in_err-made.ensures.refused.reads;
    })
