use Rattle.std.proofs.Common.{◌≡◌, ◌++◌, drop}
use Rattle.history_report.specs.History.{history_text}
use Rattle.history_report.proofs.text.text_of.Given as goal

abbrev pub invariant-loop-event : goal.invariant-loop-event
invariant-loop-event l =
    l.text.items ++ history_text l.names l.layout (drop l.event-index l.event-items)
    ≡ history_text l.names l.layout l.event-items
