use Rattle.std.proofs.Common.{◌≤◌}
use Rattle.node_machine.specs.Nodes.{HasCounters}
use Rattle.machine_tests.proofs.tests.codes.ended.Given as goal

abbrev pub invariant-loop-asks : goal.invariant-loop-asks
invariant-loop-asks l = HasCounters l.code l.node × (l.next ≤ l.asks)
