use Rattle.std.proofs.Common.{◌≡◌, reverse, take}
use Rattle.sc_core.specs.ViewStatements.{plain_program}
use Rattle.sc_meaning.specs.Source.{processes_of}
use Rattle.history_replay.specs.Reached.{Reached}
use Rattle.history_replay.proofs.histories.replay_core.Given as goal

abbrev pub invariant-loop-event : goal.invariant-loop-event
invariant-loop-event l = record {
  layout : l.judge.layout.now ≡ l.layout;
  reached : Reached (processes_of l.layout (plain_program l.program) l.budget) (reverse (take l.event-index l.event-items)) l.judge;
}
