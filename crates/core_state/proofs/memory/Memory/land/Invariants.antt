use Rattle.std.proofs.Common.{◌≡◌, drop}
use Rattle.sc_meaning.specs.Memory.{landed_all}
use Rattle.core_state.proofs.memory.Memory.land.Given as goal

abbrev pub invariant-loop-number : goal.invariant-loop-number
invariant-loop-number l =
    (landed_all (drop l.number l.self.getting) (drop l.number l.values) l.self.frames
    ≡ landed_all l.initial.self.getting l.values l.initial.self.frames)
    × (l.self.getting ≡ l.initial.self.getting)
