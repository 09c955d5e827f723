use Rattle.std.proofs.Common.{◌≡◌, ◌++◌, map, drop}
use Rattle.sc_tree.specs.ViewTypedStmt.{typed_declared}
use Rattle.core_lower.specs.ListedStatements.{begun_in}
use Rattle.sc_core.specs.ViewStatements.{plain_does}
use Rattle.core_lower.proofs.declarations.locals_begun.Given as goal

abbrev pub invariant-loop-local : goal.invariant-loop-local
invariant-loop-local l = record {
  does : map plain_does l.all.items
      ++ begun_in l.sight.objects.now l.params l.others.items (map typed_declared (drop l.local-index l.locals))
      ≡ begun_in l.sight.objects.now l.params l.fn.others.items (map typed_declared l.locals);
  types : l.others.items ++ map (λ d. d.ty) (map typed_declared (drop l.local-index l.locals))
      ≡ l.fn.others.items ++ map (λ d. d.ty) (map typed_declared l.locals);
}
