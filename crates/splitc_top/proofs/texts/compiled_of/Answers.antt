use Rattle.std.proofs.Common.{ℕ, sym, subst}
use Rattle.splitc_compile.specs.Answers.{IsCompiled}
use Rattle.splitc_compile.specs.Answers as compiling
use Rattle.splitc_compile.specs.Compiled.{parts_of}
use Rattle.splitc_top.specs.declared.reason.Reason.{Reason}
use Rattle.splitc_top.specs.Reasons.{Excuses}
use Rattle.splitc_top.proofs.Excused.{excused}
use Rattle.splitc_top.proofs.texts.compiled_of.Goals as goal

pub returns-in-Ok-clause-compiled : goal.returns-in-Ok-clause-compiled
returns-in-Ok-clause-compiled c = record {
  short = c.requires.short;
  compiled = subst (λ (n : ℕ). IsCompiled c.args.source.now n (parts_of c.in-Ok.compiled)) c.nodes.ensures
      c.in-Ok.ensures.compiled;
}

pub returns-in-Err-clause-refused : goal.returns-in-Err-clause-refused
returns-in-Err-clause-refused c =
    subst (λ (r : Reason). Excuses c.args.command c.args.source.now r) (sym c.reason_of.ensures)
    (excused c.args.command c.args.source.now c.in-Err.e c.requires.short
    (subst (λ (n : ℕ). compiling.Excuses c.args.source.now n c.in-Err.e) c.nodes.ensures c.in-Err.ensures.refused))
