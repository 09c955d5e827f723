-- The lines of a source's history: one for each event, in their order. A place is told by the name of its object, its
-- node and its number among the cells there. The texts are this project's own.
use Rattle.std.specs.Prelude.{ℕ, List, [], ◌∷◌, ◌++◌, codes, Bool, true, false}
use Rattle.std.specs.Fmt.{decimal}
use Rattle.sc_base.specs.declared.value.Place.{Place}
use Rattle.sc_base.specs.declared.value.Value.{Value}
use Rattle.sc_base.specs.declared.value.End.{End}
use Rattle.sc_base.specs.declared.value.End.TheVariants.{Ended, Fault, Cut, Waiting}
use Rattle.sc_tree.specs.Names.{Text}
use Rattle.sc_layout.specs.Layout.{Arrangement}
use Rattle.sc_meaning.specs.declared.event.SourceEvent.{SourceEvent}
use Rattle.sc_meaning.specs.declared.event.SourceEvent.TheVariants.{Do, Issue, Effect, Sync, Arrive, Release}
use Rattle.sc_meaning.specs.declared.event.SourceEvent.TheVariants.{End as Over}
use Rattle.run_report.specs.Report.{line, fault_name, name_of, value_text}

abbrev pub end_word : End → List ℕ
end_word Ended = codes "ended"
end_word (Fault kind at) = codes "fault " ++ fault_name kind ++ codes " line " ++ decimal at
end_word Cut = codes "cut"
end_word Waiting = codes "waiting"

-- a word with a node and the number of one of its requests
abbrev pub step_text : List ℕ → (node request : ℕ) → List ℕ
step_text word node request = word ++ codes " " ++ decimal node ++ codes " " ++ decimal request

abbrev pub access_word : (wrote : Bool) → List ℕ
access_word true = codes " write "
access_word false = codes " read "

module _ (names : List Text) (layout : Arrangement) where
  abbrev pub place_text : Place → List ℕ
  place_text place =
      name_of names layout place.object ++ codes "@" ++ decimal place.node ++ codes "+" ++ decimal place.offset

  -- what is read or written, and the value
  abbrev pub access_text : (wrote : Bool) → Place → Value → List ℕ
  access_text wrote place value = access_word wrote ++ place_text place ++ codes " = " ++ value_text names layout value

  abbrev pub event_text : SourceEvent → List ℕ
  event_text (Do node request wrote place value) = step_text (codes "do") node request ++ access_text wrote place value
  event_text (Issue node request) = step_text (codes "issue") node request
  event_text (Effect node request cell wrote place value) =
      step_text (codes "effect") node request ++ codes " " ++ decimal cell ++ access_text wrote place value
  event_text (Sync node request) = step_text (codes "sync") node request
  event_text (Arrive node request stores) = step_text (codes "arrive") node request
  event_text (Release number) = codes "release " ++ decimal number
  event_text (Over node end) = codes "end " ++ decimal node ++ codes " " ++ end_word end

  -- the lines of the events, the oldest first
  abbrev pub history_text : List SourceEvent → List ℕ
  history_text [] = []
  history_text (event ∷ events) = line (event_text event) ++ history_text events
