use Rattle.std.proofs.Common.{◌≡◌, List}
use Rattle.sc_isa.specs.Run.{Ask}
use Rattle.node_machine.specs.Nodes.{IsAt, HasCounters}
use Rattle.node_machine.proofs.node.Node.run.Given as goal

abbrev pub invariant-loop : goal.invariant-loop
invariant-loop l = record {
  course : (asked : List Ask) → IsAt l.code l.layout l.initial.self asked → IsAt l.code l.layout l.self asked;
  counters : HasCounters l.code l.self;
  answers : l.self.answers ≡ l.initial.self.answers;
  own : l.self.own ≡ l.initial.self.own;
  budget : l.self.budget ≡ l.initial.self.budget;
}
