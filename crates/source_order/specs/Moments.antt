-- The moments of a run, by which the conflict order of Shasha and Snir (1988) is read: each entry of a journal takes
-- one, and after it each effect that occurs with it. Own steps happen at the moment of their entry, effects at their
-- own, and a release with the first passing of its barrier. A past is a list of entries, the newest first.
use Rattle.std.specs.Prelude.{ℕ, suc, ◌+◌, List, [], ◌∷◌, length, ltb, is_some, Bool, false, ◌==◌, ◌&&◌, ◌||◌, nat_lt, if◌then◌else◌}
use Rattle.std.specs.Option.{option_map_or}
use Rattle.sc_base.specs.declared.value.Place.{Place}
use Rattle.sc_base.specs.declared.value.Value.{Value}
use Rattle.effect_order.specs.Effect.{Effect as CellEffect}
use Rattle.sc_meaning.specs.declared.event.SourceEvent.{SourceEvent}
use Rattle.sc_meaning.specs.declared.event.SourceEvent.TheVariants.{Do, Issue, Effect, Sync, Arrive, Release, End as Over}
use Rattle.effect_order.specs.Transfer.{is_part}
use Rattle.sc_meaning.specs.Past.{effects as source_effects}
use Rattle.sc_isa.specs.declared.journal.Entry.{Entry}
use Rattle.sc_isa.specs.declared.journal.Entry.TheVariants.{Passed}
use Rattle.fabric.specs.Effects.{access_at, effects}
use Rattle.fabric.specs.Barriers.{passes, released}
use Rattle.source_order.specs.Steps.{request_by, requested, request_of, finishes}
use Rattle.sc_meaning.specs.OfAccess.{is_done_at_once}

-- the effects of an event, of which there is one or none
abbrev pub does : SourceEvent → List CellEffect
does event = source_effects (event ∷ [])

-- an effect of the run as an event of the source
abbrev pub event_of : List Entry → CellEffect → SourceEvent
event_of past effect =
    if option_map_or is_done_at_once (access_at effect.node effect.number past) false
    then Do effect.node (request_of effect.node effect.number past) effect.wrote effect.place effect.value
    else Effect effect.node (request_of effect.node effect.number past) effect.cell effect.wrote
    effect.place effect.value

-- the entry passes a barrier that no node passed before, and that is the m-th
abbrev pub releases_as : (m : ℕ) → List Entry → Entry → Bool
releases_as m past (Passed node) = (suc (passes node past) == m) && nat_lt (released past) m
releases_as m past _ = false

-- the entry is the own step of the node with this number among its requests
abbrev pub requests_as : (node request : ℕ) → List Entry → Entry → Bool
requests_as node request past entry = is_some (request_by node entry) && (requested node past == request)

-- the entry is the event's own step, or the release that it is
abbrev pub begins : SourceEvent → List Entry → Entry → Bool
begins (Do node k wrote place value) past entry = requests_as node k past entry
begins (Issue node k) past entry = requests_as node k past entry
begins (Effect node k cell wrote place value) past entry = requests_as node k past entry
begins (Sync node k) past entry = requests_as node k past entry
begins (Arrive node k stores) past entry = requests_as node k past entry
begins (Release m) past entry = releases_as m past entry
begins (Over node end) past entry = finishes node entry

abbrev pub same_part : List CellEffect → List CellEffect → Bool
same_part (a ∷ _) (b ∷ _) = is_part a.node a.number a.cell a.wrote b
same_part _ _ = false

module _ (start : Place → Value) (whole : List Entry) where
  abbrev pub is_effect_of : SourceEvent → CellEffect → Bool
  is_effect_of event effect = same_part (does (event_of whole effect)) (does event)

  -- the event is the effect of one of these
  abbrev pub has_occurred : SourceEvent → List CellEffect → Bool
  has_occurred event [] = false
  has_occurred event (effect ∷ earlier) = is_effect_of event effect || has_occurred event earlier

  -- how many effects were before the event's
  abbrev pub effects_before : SourceEvent → List CellEffect → ℕ
  effects_before event [] = 0
  effects_before event (effect ∷ earlier) =
      if is_effect_of event effect then length earlier else effects_before event earlier

  -- the moment of the event's own step
  abbrev pub begun_in : List Entry → SourceEvent → ℕ
  begun_in [] event = 0
  begun_in (entry ∷ past) event =
      if begins event past entry then length past + length (effects start past) else begun_in past event

  -- the moment of its effect
  abbrev pub occurred_in : List Entry → SourceEvent → ℕ
  occurred_in [] event = 0
  occurred_in (entry ∷ past) event =
      if has_occurred event (effects start past) then occurred_in past event
      else suc (length past) + effects_before event (effects start (entry ∷ past))

  abbrev pub time_in : List CellEffect → SourceEvent → ℕ
  time_in [] event = begun_in whole event
  time_in (_ ∷ _) event = occurred_in whole event

-- the moment of the event's own step in the run, and that at which it takes effect
abbrev pub issue_time : (Place → Value) → List Entry → SourceEvent → ℕ
issue_time start past event = begun_in start past past event

abbrev pub time : (Place → Value) → List Entry → SourceEvent → ℕ
time start past event = time_in start past (does event) event

-- the first takes effect before the second in the run
abbrev pub sooner : (Place → Value) → List Entry → SourceEvent → SourceEvent → Bool
sooner start past a b = ltb (time start past a) (time start past b)
