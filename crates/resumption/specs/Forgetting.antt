-- Leaving out some of the events that have no answer.
use Rattle.std.specs.Prelude.{ℕ, List, Bool, Option, Some, None}
use Rattle.resumption.specs.Resumption.{Doing, Asks, Makes, Says, Stops}

-- the event is made where it is shown
abbrev pub made_if : {Event Answer Stop : Type 0} → Option Event → Doing Event Answer Stop →
    Doing Event Answer Stop
made_if None rest = rest
made_if (Some event) rest = Makes event rest

-- asked: what is shown of an event that has an answer; made: what is shown, if anything, of one that has none
abbrev pub forget :
    {Event Other Answer Stop : Type 0} → (asked : Event → Other) → (made : Event → Option Other)
    → Doing Event Answer Stop → Doing Other Answer Stop
forget asked made (Asks event fits go) = Asks (asked event) fits (λ answer. forget asked made (go answer))
forget asked made (Makes event rest) = made_if (made event) (forget asked made rest)
forget asked made (Says text rest) = Says text (forget asked made rest)
forget asked made (Stops stop) = Stops stop

-- each event by which is asked has P, whatever is answered
unfoldable pub AllAsked : {Event Answer Stop : Type 0} → (Event → Type 0) → Doing Event Answer Stop → Type 0
AllAsked P (Asks event fits go) = P event × ((answer : _) → AllAsked P (go answer))
AllAsked P (Makes event rest) = AllAsked P rest
AllAsked P (Says text rest) = AllAsked P rest
AllAsked P (Stops stop) = Unit {0}
