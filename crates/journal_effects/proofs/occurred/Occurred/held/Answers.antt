use Rattle.std.proofs.Common.{◌≡◌}
use Rattle.sc_layout.specs.Start.{start}
use Rattle.journal_effects.specs.Occurred.{last_written}
use Rattle.journal_effects.proofs.Kept.{held_found, held_begun}
use Rattle.journal_effects.proofs.occurred.Occurred.held.Goals as goal

pub returns-in-Some : goal.returns-in-Some
returns-in-Some c =
    let here = c.self.invariant.1 c.args.place in
    let found : c.copied.result ≡ last_written c.args.place c.args.self.now = cc in
    held_found (start c.args.layout.now) c.args.place c.args.self.now c.copied.result c.in-Some.value found c.in-Some.is

pub returns-in-None : goal.returns-in-None
returns-in-None c =
    let here = c.self.invariant.1 c.args.place in
    let found : c.copied.result ≡ last_written c.args.place c.args.self.now = cc in
    held_begun (start c.args.layout.now) c.args.place c.args.self.now c.copied.result c.value_at_start.result found c.in-None.is c.value_at_start.ensures
