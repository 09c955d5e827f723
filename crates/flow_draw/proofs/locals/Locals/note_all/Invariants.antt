use Rattle.std.proofs.Common.{◌≡◌, drop}
use Rattle.flow_draw.specs.Noted.{noted}
use Rattle.flow_draw.proofs.locals.Locals.note_all.Given as goal

abbrev pub invariant-loop-number : goal.invariant-loop-number
invariant-loop-number l = noted (drop l.number-index l.numbers) l.self ≡ noted l.numbers l.fn.self
