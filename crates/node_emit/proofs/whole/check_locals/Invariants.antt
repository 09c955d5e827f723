use Rattle.std.proofs.Common.{◌≡◌, ℕ, ◌<◌, ◌≤◌, map, slice_get, Some}
use Rattle.sc_base.specs.declared.limits.TheConstants.{LIMITS}
use Rattle.sc_core.specs.Core.{Function}
use Rattle.sc_core.specs.ViewStatements.{plain_function}
use Rattle.node_emit.specs.Sources.{locals_of}
use Rattle.node_emit.proofs.whole.check_locals.Given as goal

abbrev pub invariant-loop-f : goal.invariant-loop-f
invariant-loop-f l =
    (n : ℕ) (f : Function) → n < l.f-index → slice_get (map plain_function l.core.functions) n ≡ Some f → locals_of f ≤ LIMITS.locals
