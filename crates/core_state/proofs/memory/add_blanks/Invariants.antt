use Rattle.std.proofs.Common.{◌≡◌, ◌++◌, map, replicate}
use Rattle.sc_meaning.specs.Memory.{blank}
use Rattle.core_state.specs.Locals.{slot_in}
use Rattle.core_state.proofs.memory.add_blanks.Given as goal

abbrev pub invariant-loop : goal.invariant-loop
invariant-loop l = map slot_in l.all.items ≡ map slot_in l.initial.all.items ++ replicate l.counter blank
