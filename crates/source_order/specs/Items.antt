-- The source order of a run: its own steps, releases and effects as events of the source, and again and again the first
-- of them that the source allows and before which no conflicting earlier effect is left, after the processes order and
-- the conflict order of Shasha and Snir (1988). A past is a list of entries or events, the newest first.
use Rattle.std.specs.Prelude.{ℕ, zero, suc, List, [], ◌∷◌, ◌++◌, reverse, map, Bool, true, not, ◌==◌, ◌&&◌, if◌then◌else◌}
use Rattle.sc_base.specs.declared.value.Place.{Place}
use Rattle.sc_base.specs.declared.value.Value.{Value}
use Rattle.effect_order.specs.Greedy.{ordered}
use Rattle.sc_meaning.specs.declared.event.SourceEvent.{SourceEvent}
use Rattle.sc_meaning.specs.declared.event.SourceEvent.TheVariants.{Issue, Sync, Arrive, Release, End as Over}
use Rattle.sc_meaning.specs.Past.{Processes, made}
use Rattle.sc_meaning.specs.Test.{allowed}
use Rattle.sc_isa.specs.declared.journal.Entry.{Entry}
use Rattle.sc_isa.specs.declared.journal.Entry.TheVariants.{Issued, Waited, Arrived, Finished}
use Rattle.fabric.specs.Effects.{effects}
use Rattle.fabric.specs.Barriers.{released}
use Rattle.source_order.specs.Steps.{requested}
use Rattle.sc_meaning.specs.OfAccess.{is_done_at_once}
use Rattle.source_order.specs.Moments.{does, event_of, sooner}

-- the node's own step that the entry is, but for blocking reads and writes: those are their effects
abbrev pub step_by : ℕ → List Entry → Entry → List SourceEvent
step_by node past (Issued other number access) =
    if (other == node) && not (is_done_at_once access) then Issue node (requested node past) ∷ [] else []
step_by node past (Waited other counter) =
    if (other == node) && (counter == 0) then Sync node (requested node past) ∷ [] else []
step_by node past (Arrived other stores) = if other == node then Arrive node (requested node past) stores ∷ [] else []
step_by node past (Finished other end) = if other == node then Over node end ∷ [] else []
step_by node past _ = []

-- the own steps of the node, in order
abbrev pub own_steps : ℕ → List Entry → List SourceEvent
own_steps node [] = []
own_steps node (entry ∷ past) = own_steps node past ++ step_by node past entry

-- those of the first nodes, by number
abbrev pub all_steps : (nodes : ℕ) → List Entry → List SourceEvent
all_steps zero past = []
all_steps (suc node) past = all_steps node past ++ own_steps node past

-- the first releases, which are numbered from 1
abbrev pub all_releases : (count : ℕ) → List SourceEvent
all_releases zero = []
all_releases (suc m) = all_releases m ++ Release (suc m) ∷ []

-- the effects of the run as events, in their order
abbrev pub all_effects : (Place → Value) → List Entry → List SourceEvent
all_effects start past = reverse (map (event_of past) (effects start past))

-- all items of a run of so many nodes: own steps, then releases, then effects
abbrev pub items : (Place → Value) → (nodes : ℕ) → List Entry → List SourceEvent
items start nodes past = all_steps nodes past ++ (all_releases (released past) ++ all_effects start past)

-- The event is its node's next one: an end has no number, and comes after all requests of the run.
abbrev pub is_turn : List Entry → List SourceEvent → SourceEvent → Bool
is_turn past order (Over node end) = made node order == requested node past
is_turn past order _ = true

-- after these events the source allows the event, where it is its node's next one
abbrev pub may_follow : Processes → List Entry → List SourceEvent → SourceEvent → Bool
may_follow processes past order event = allowed processes order event && is_turn past order event

-- the source order of a run of the processes, in the order of its events
abbrev pub source_order : Processes → List Entry → List SourceEvent
source_order processes journal =
    ordered does (sooner processes.start (reverse journal)) (may_follow processes (reverse journal))
    (items processes.start processes.nodes (reverse journal))
