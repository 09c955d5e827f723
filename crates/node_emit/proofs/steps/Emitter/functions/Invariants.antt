use Rattle.std.proofs.Common.{◌≡◌, ◌++◌, map, drop}
use Rattle.sc_core.specs.ViewStatements.{plain_function}
use Rattle.node_emit.specs.Whole.{functions_put, rows_of}
use Rattle.node_emit.proofs.steps.Emitter.functions.Given as goal

abbrev pub invariant-loop-f : goal.invariant-loop-f
invariant-loop-f l = record {
  draft : functions_put l.self.plan.now (map plain_function (drop l.f-index l.all)) l.draft
      ≡ functions_put l.self.plan.now (map plain_function l.all) l.fn.draft;
  rows : l.rows.items ++ rows_of l.self.plan.now (map plain_function (drop l.f-index l.all)) l.draft
      ≡ rows_of l.self.plan.now (map plain_function l.all) l.fn.draft;
}
