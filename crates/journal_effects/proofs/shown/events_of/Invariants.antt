use Rattle.std.proofs.Common.{◌≡◌, ◌++◌, drop, map}
use Rattle.journal_effects.specs.Issues.{event_in}
use Rattle.journal_effects.specs.Occurred.{effect_of}
use Rattle.journal_effects.proofs.shown.events_of.Given as goal

abbrev pub invariant-loop-effect : goal.invariant-loop-effect
invariant-loop-effect l =
    l.events.items ++ map (λ e. event_in l.issues (effect_of e)) (drop l.effect-index l.effects)
    ≡ map (λ e. event_in l.issues (effect_of e)) l.effects
