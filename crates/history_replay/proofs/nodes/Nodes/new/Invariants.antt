use Rattle.std.proofs.Common.{◌≡◌, length}
use Rattle.sc_core.specs.ViewStatements.{plain_program}
use Rattle.history_replay.specs.Fronts.{AllAt, first_front}
use Rattle.history_replay.proofs.nodes.Nodes.new.Given as goal

abbrev pub invariant-loop-node : goal.invariant-loop-node
invariant-loop-node l = record {
  many : length l.runners.items ≡ l.node;
  all : AllAt l.runners.items (first_front l.layout (plain_program l.program) l.budget);
}
