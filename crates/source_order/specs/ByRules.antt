-- The items of a run by their kinds, as the three rules of a source order take them: each node's own steps, of which a
-- blocking read or write is its effect; releases by number; and effects in the order of the run.
use Rattle.std.specs.Prelude.{ℕ, Bool, List, [], ◌∷◌, ◌++◌, Option, Some, None, reverse, ◌==◌, ◌&&◌, if◌then◌else◌}
use Rattle.sc_base.specs.declared.value.Place.{Place}
use Rattle.sc_base.specs.declared.value.Value.{Value}
use Rattle.effect_order.specs.Effect.{Effect}
use Rattle.effect_order.specs.Rules.{Sorted, IsByRules}
use Rattle.sc_meaning.specs.declared.event.SourceEvent.{SourceEvent}
use Rattle.sc_meaning.specs.OfAccess.{is_done_at_once}
use Rattle.sc_meaning.specs.Past.{Processes}
use Rattle.sc_meaning.specs.Test.{allowed}
use Rattle.sc_isa.specs.declared.journal.Entry.{Entry}
use Rattle.sc_isa.specs.declared.journal.Entry.TheVariants.{Issued}
use Rattle.fabric.specs.Effects.{effects}
use Rattle.fabric.specs.Barriers.{released}
use Rattle.fabric.specs.Asked.{Machine}
use Rattle.source_order.specs.Moments.{does, event_of}
use Rattle.source_order.specs.Items.{step_by, all_releases, all_effects, source_order}
use Rattle.sc_meaning.specs.Answering.{AllWaitForAnswers}
use Rattle.source_order.specs.Whole.{IsRun}
use Rattle.source_order.specs.Made.{IsMade}
use Rattle.source_order.specs.Story.{is_effect}

-- the effect is of the node's access with this number
abbrev pub is_of : (node number : ℕ) → Effect → Bool
is_of node number effect = (effect.node == node) && (effect.number == number)

-- the effect of the node's access with this number, of an access of one cell
abbrev pub effect_of : (node number : ℕ) → List Effect → Option Effect
effect_of node number [] = None
effect_of node number (effect ∷ earlier) = if is_of node number effect then Some effect
    else effect_of node number earlier

module _ (start : Place → Value) (whole : List Entry) where
  abbrev pub event_if : Option Effect → List SourceEvent
  event_if None = []
  event_if (Some effect) = event_of whole effect ∷ []

  -- the node's own step that the entry is: a blocking read or write is its effect, when it has occurred
  abbrev pub own_by : (node : ℕ) → List Entry → Entry → List SourceEvent
  own_by node past (Issued other number access) =
      if (other == node) && is_done_at_once access
      then event_if (effect_of node number (effects start whole)) else step_by node past (Issued other number access)
  own_by node past entry = step_by node past entry

  -- the node's own steps in their order
  abbrev pub own_of : (node : ℕ) → List Entry → List SourceEvent
  own_of node [] = []
  own_of node (entry ∷ past) = own_of node past ++ own_by node past entry

abbrev pub sorted : Processes → List Entry → Sorted SourceEvent
sorted processes whole = record {
  nodes = processes.nodes;
  own = λ node. own_of processes.start whole node whole;
  is_effect = is_effect;
  releases = all_releases (released whole);
  effects = all_effects processes.start whole;
}

-- The source order is exactly what the rules give: the next own step, but for effects, of the least node for which it
-- is allowed; else the next release; else the first effect that is allowed and before which no conflicting one is
-- left.
abbrev pub OrderIsByRules : Type 0
OrderIsByRules =
    (processes : Processes) (machine : Machine) (journal : List Entry)
    → AllWaitForAnswers processes → IsRun machine journal → IsMade processes machine (reverse journal)
    → IsByRules does (allowed processes) (sorted processes (reverse journal)) [] (source_order processes journal)
