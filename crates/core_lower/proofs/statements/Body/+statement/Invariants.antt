use Rattle.std.proofs.Common.{◌≡◌, ◌++◌, map, drop}
use Rattle.sc_tree.specs.ViewTypedStmt.{plain_typed_stmt, plain_typed_arm, typed_statements_of, typed_arms_of}
use Rattle.core_lower.specs.ListedStatements.{does_in, arms_in}
use Rattle.sc_core.specs.Lowering.{types_of, types_of_arms}
use Rattle.sc_core.specs.ViewParts.{plain_core_arm}
use Rattle.sc_core.specs.ViewStatements.{plain_does}
use Rattle.core_lower.proofs.statements.Body.+statement.Given as goal

abbrev pub invariant-block-loop-stmt : goal.invariant-block-loop-stmt
invariant-block-loop-stmt l = record {
  does : map plain_does l.made.items ++ does_in l.self.sight.objects.now l.self.result.now l.self.params l.others.items
      (typed_statements_of (map plain_typed_stmt (drop l.stmt-index l.all)))
      ≡ does_in l.self.sight.objects.now l.self.result.now l.self.params l.fn.others.items
      (typed_statements_of (map plain_typed_stmt l.all));
  types : l.others.items ++ types_of (typed_statements_of (map plain_typed_stmt (drop l.stmt-index l.all)))
      ≡ l.fn.others.items ++ types_of (typed_statements_of (map plain_typed_stmt l.all));
}

abbrev pub invariant-arms-loop-arm : goal.invariant-arms-loop-arm
invariant-arms-loop-arm l = record {
  does : map plain_core_arm l.made.items ++ arms_in l.self.sight.objects.now l.self.result.now l.self.params l.others.items
      (typed_arms_of (map plain_typed_arm (drop l.arm-index l.all)))
      ≡ arms_in l.self.sight.objects.now l.self.result.now l.self.params l.fn.others.items
      (typed_arms_of (map plain_typed_arm l.all));
  types : l.others.items ++ types_of_arms (typed_arms_of (map plain_typed_arm (drop l.arm-index l.all)))
      ≡ l.fn.others.items ++ types_of_arms (typed_arms_of (map plain_typed_arm l.all));
}
