-- The three rules by which a source order grows, written out one by one, and the order that they give: own steps other
-- than blocking reads and writes, by the least node; then the next release; then the first effect that is allowed and
-- before which no conflicting one is left.
use Rattle.std.proofs.Common.{ℕ, zero, suc, ◌+◌, List, [], ◌∷◌, Option, Some, None, Bool, true, false}
use Rattle.std.specs.Prelude.{if◌then◌else◌, not, ◌&&◌, ◌==◌, reverse, length}
use Rattle.effect_order.specs.Items.{items_conflict}
use Rattle.sc_meaning.specs.declared.event.SourceEvent.{SourceEvent}
use Rattle.sc_meaning.specs.declared.event.SourceEvent.TheVariants.{Issue, Sync, Arrive, Release, End as Over}
use Rattle.sc_meaning.specs.Below.{all_below}
use Rattle.sc_meaning.specs.Past.{Processes, made, releases}
use Rattle.sc_meaning.specs.Test.{allowed}
use Rattle.sc_isa.specs.declared.journal.Entry.{Entry}
use Rattle.fabric.specs.Asked.{Machine}
use Rattle.source_order.specs.Steps.{requested}
use Rattle.source_order.specs.Moments.{does}
use Rattle.source_order.specs.Items.{own_steps, all_effects, items, source_order}
use Rattle.source_order.proofs.Setting.{simulated}
use Rattle.source_order.proofs.Plain.{pick_list}
use Rattle.source_order.proofs.Exact.{same_event, some}

abbrev pub or_next : Option SourceEvent → Option SourceEvent → Option SourceEvent
or_next None other = other
or_next (Some event) other = Some event

-- the event has this number among the node's own steps, of which an end is the last
abbrev pub is_numbered : (number last : ℕ) → SourceEvent → Bool
is_numbered number last (Issue node k) = k == number
is_numbered number last (Sync node k) = k == number
is_numbered number last (Arrive node k stores) = k == number
is_numbered number last (Over node end) = number == last
is_numbered number last _ = false

abbrev pub with_number : (number last : ℕ) → List SourceEvent → Option SourceEvent
with_number number last [] = None
with_number number last (event ∷ events) = if is_numbered number last event then Some event else with_number number last events

abbrev pub where_allowed : Processes → List SourceEvent → Option SourceEvent → Option SourceEvent
where_allowed processes order None = None
where_allowed processes order (Some event) = if allowed processes order event then Some event else None

module _ (processes : Processes) (run : List Entry) where
  -- the next own step of the least node, from this one on
  abbrev pub first_rule : (count node : ℕ) → List SourceEvent → Option SourceEvent
  first_rule zero node order = None
  first_rule (suc count) node order =
      or_next (where_allowed processes order (with_number (made node order) (requested node run) (own_steps node run)))
      (first_rule count (node + 1) order)

  abbrev pub second_rule : List SourceEvent → Option SourceEvent
  second_rule order = where_allowed processes order (Some (Release (releases order + 1)))

  -- the first of these effects; left: those before them that are not taken
  abbrev pub third_rule : (left effects : List SourceEvent) → List SourceEvent → Option SourceEvent
  third_rule left [] order = None
  third_rule left (event ∷ effects) order =
      if some (same_event event) order then third_rule left effects order
      else if allowed processes order event && not (some (λ other. items_conflict does other event) left) then Some event
      else third_rule (event ∷ left) effects order

  abbrev pub next_by_rules : List SourceEvent → Option SourceEvent
  next_by_rules order =
      or_next (first_rule processes.nodes 0 order) (or_next (second_rule order) (third_rule [] (all_effects processes.start run) order))

  abbrev pub and_grow : Option SourceEvent → List SourceEvent → (List SourceEvent → List SourceEvent) → List SourceEvent
  and_grow None order go = order
  and_grow (Some event) order go = go (event ∷ order)

  abbrev pub grown : ℕ → List SourceEvent → List SourceEvent
  grown zero order = order
  grown (suc n) order = and_grow (next_by_rules order) order (grown n)

  abbrev pub same_events : List SourceEvent → List SourceEvent → Bool
  same_events [] [] = true
  same_events (a ∷ as_) (b ∷ bs) = same_event a b && same_events as_ bs
  same_events _ _ = false

  -- the source order is what the rules give
  abbrev pub is_by_rules : Bool
  is_by_rules =
      same_events (source_order processes (reverse run)) (reverse (grown (length (items processes.start processes.nodes run) + 3) []))

abbrev pub by_rules : (seeds moves : ℕ) → Processes → Machine → Bool
by_rules seeds moves processes machine =
    all_below seeds (λ seed. is_by_rules processes (simulated moves machine (pick_list seed moves) []))
