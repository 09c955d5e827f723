use Rattle.std.proofs.Common.{◌≡◌, drop}
use Rattle.node_emit.specs.Drafts.{led_all}
use Rattle.node_emit.proofs.draft.Draft.lead_to.Given as goal

abbrev pub invariant-loop-at : goal.invariant-loop-at
invariant-loop-at l = led_all (drop l.at-index l.jumps) l.target l.self ≡ led_all l.jumps l.target l.fn.self
