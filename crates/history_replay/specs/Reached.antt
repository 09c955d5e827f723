-- How far a judge has come in a list of events. A past has the newest event first.
use Rattle.std.specs.Prelude.{◌≡◌, ℕ, List, ◌∷◌, length, map, Option, IsSome, Bool, true, false}
use Rattle.sc_meaning.specs.declared.event.SourceEvent.{SourceEvent}
use Rattle.sc_meaning.specs.declared.request.Request.{Request}
use Rattle.sc_meaning.specs.Past.{Processes}
use Rattle.sc_base.specs.declared.value.Place.{Place}
use Rattle.sc_base.specs.declared.value.Value.{Value}
use Rattle.sc_layout.specs.Place.{IsPlace}
use Rattle.replay_tables.specs.Cells.{holds, cell_in, known_at_start}
use Rattle.replay_stages.specs.Stage.{Front, Stage, IsDoomed}
use Rattle.replay_stages.specs.Laws.{next_in}
use Rattle.history_replay.specs.declared.judge.Judge.{Judge}
use Rattle.history_replay.specs.Fronts.{AllAt}

-- how many cells are known of each object on each node
abbrev pub extents_in : List (List (List Value)) → List (List ℕ)
extents_in known = map (λ objects. map (λ values. length values) objects) known

-- the judge stands where the past has led it
pub record Reached (processes : Processes) (past : List SourceEvent) (j : Judge) : Type 0 where
  pub fronts : ℕ → Front
  pub stage : Stage processes past j.tables (holds j.layout.now j.cells) fronts
  pub many : length j.nodes.runners.items ≡ processes.nodes
  pub counted : processes.nodes ≡ j.layout.now.nodes
  pub all : AllAt j.nodes.runners.items fronts
  -- the places of the layout are known, and there are as many as at the start
  pub placed : (place : Place) → IsPlace j.layout.now place → IsSome (cell_in j.cells.known place)
  pub sized : extents_in j.cells.known ≡ extents_in (known_at_start j.layout.now)

-- so it does, and this is the node's next request
pub record NextAt (processes : Processes) (past : List SourceEvent) (node number : ℕ) (j : Judge)
    (o : Option Request) : Type 0 where
  pub reached : Reached processes past j
  pub next : o ≡ next_in j.tables reached.fronts node number

-- the judge goes on with the event, or no legal and complete history does
pub record Taken (processes : Processes) (past : List SourceEvent) (event : SourceEvent) (new : Judge)
    (ok : Bool) : Type 0 where
  pub goes_on : ok ≡ true → Reached processes (event ∷ past) new
  pub doomed : ok ≡ false → IsDoomed processes (event ∷ past)
