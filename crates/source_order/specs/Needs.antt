-- Which items of a run the source needs before which, whatever the values are: a node's own steps in order, parts
-- after their issue and before what waits for them, releases after arrivals and before what follows those. After the
-- processes order of Shasha and Snir (1988), with split accesses and barriers.
use Rattle.std.specs.Prelude.{ℕ, suc, List, Bool, true, false, ◌==◌, ◌&&◌, ◌||◌, nat_lt, nat_le}
use Rattle.std.specs.Option.{option_map_or}
use Rattle.sc_base.specs.declared.value.Place.{Place}
use Rattle.sc_base.specs.declared.value.Value.{Value}
use Rattle.effect_order.specs.Greedy.{comes_before, Among}
use Rattle.effect_order.specs.Walk.{HasNoCycle}
use Rattle.sc_meaning.specs.declared.event.SourceEvent.{SourceEvent}
use Rattle.sc_meaning.specs.declared.event.SourceEvent.TheVariants.{Do, Issue, Effect, Sync, Arrive, Release, End as Over}
use Rattle.sc_isa.specs.declared.journal.Entry.{Entry}
use Rattle.sc_isa.specs.declared.access.Track.{Track}
use Rattle.fabric.specs.Access.{is_store}
use Rattle.fabric.specs.Barriers.{stores_at}
use Rattle.source_order.specs.Steps.{requested, track_at, arrivals_among}
use Rattle.sc_meaning.specs.OfAccess.{is_blocking, is_split}
use Rattle.source_order.specs.Moments.{does, sooner}
use Rattle.source_order.specs.Items.{items}

module _ (past : List Entry) where
  abbrev pub is_on : (Track → Bool) → (node request : ℕ) → Bool
  is_on on node request = option_map_or on (track_at node request past) false

  -- what the own step of the node with this number needs
  abbrev pub step_needs : SourceEvent → (node request : ℕ) → Bool
  step_needs (Do other k wrote place value) node request = (other == node) && nat_lt k request
  step_needs (Issue other k) node request = (other == node) && nat_lt k request
  step_needs (Sync other k) node request = (other == node) && nat_lt k request
  step_needs (Arrive other k stores) node request = (other == node) && nat_lt k request
  step_needs (Effect other k cell wrote place value) node request =
      (other == node) && (nat_lt k request && is_on is_blocking node k)
  step_needs (Release number) node request = nat_le number (arrivals_among node request past)
  step_needs (Over other end) node request = false

  -- what a sync needs besides
  abbrev pub sync_needs : SourceEvent → (node request : ℕ) → Bool
  sync_needs (Effect other k cell wrote place value) node request =
      (other == node) && (nat_lt k request && is_on is_split node k)
  sync_needs _ node request = false

  -- what a part needs: its issue, and if it writes the reading part of its cell
  abbrev pub part_needs : SourceEvent → (node request cell : ℕ) → (wrote : Bool) → Bool
  part_needs (Issue other k) node request cell wrote = (other == node) && (k == request)
  part_needs (Effect other k c false place value) node request cell true =
      (other == node) && ((k == request) && (c == cell))
  part_needs _ node request cell wrote = false

  -- what the m-th release needs: the release before it, every node's m-th arrival, and where one of these waits for
  -- stores the parts of the stores before them
  abbrev pub release_needs : SourceEvent → (m : ℕ) → Bool
  release_needs (Release number) m = suc number == m
  release_needs (Arrive node k stores) m = suc (arrivals_among node k past) == m
  release_needs (Effect node k cell wrote place value) m =
      is_on is_store node k && (stores_at m past && nat_lt (arrivals_among node k past) m)
  release_needs _ m = false

  -- the source needs the first item before the second
  abbrev pub needs : SourceEvent → SourceEvent → Bool
  needs a (Do node k wrote place value) = step_needs a node k
  needs a (Issue node k) = step_needs a node k
  needs a (Sync node k) = step_needs a node k || sync_needs a node k
  needs a (Arrive node k stores) = step_needs a node k
  needs a (Over node end) = step_needs a node (requested node past)
  needs a (Effect node k cell wrote place value) = part_needs a node k cell wrote
  needs a (Release m) = release_needs a m

-- the first item has to come before the second: the source needs it, or they conflict and it was sooner
abbrev pub before : (Place → Value) → List Entry → SourceEvent → SourceEvent → Bool
before start past = comes_before does (sooner start past) (needs past)

-- what has to come before what among the items of a run has no cycle
abbrev pub NoCycle : (Place → Value) → (nodes : ℕ) → List Entry → Type 0
NoCycle start nodes past = HasNoCycle (Among (before start past) (items start nodes past))
