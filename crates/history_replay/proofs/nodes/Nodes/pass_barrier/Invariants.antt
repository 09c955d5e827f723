use Rattle.std.proofs.Common.{◌≡◌, ℕ, List, length}
use Rattle.sc_meaning.specs.declared.request.Request.{Request}
use Rattle.sc_meaning.specs.Asking.{Answer, SourceDoing}
use Rattle.replay_stages.specs.Stage.{Front}
use Rattle.history_replay.specs.Fronts.{AllWait, Passing}
use Rattle.history_replay.proofs.nodes.Nodes.pass_barrier.Given as goal

abbrev pub invariant-loop-node : goal.invariant-loop-node
invariant-loop-node l = record {
  many : length l.self.runners.items ≡ length l.initial.self.runners.items;
  so : (start : ℕ → SourceDoing) (given : ℕ → List Answer) (all : ℕ → List Request) (fronts : ℕ → Front)
      → AllWait l.nodes start given all l.initial.self.runners.items fronts
      → Passing l.nodes start given all l.node l.self.runners.items fronts;
}
