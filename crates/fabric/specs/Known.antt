-- What a test knows of the nodes of a fabric, so that it can ask what they may. No public clause cites this module.
use Rattle.std.specs.Prelude.{◌≡◌, ℕ, ◌<◌, List, length, slice_get, Some, None, Bool, true, false}
use Rattle.sc_layout.specs.Layout.{Arrangement}
use Rattle.fabric.specs.Barriers.{arrivals, passes, finished}
use Rattle.fabric.specs.State.{State, nodes_of}

-- which nodes run, which stand at no barrier, the layout, and the last counter
pub record Knows (state : State) (running away : List Bool) (layout : Arrangement) (sites : ℕ) : Type 0 where
  pub nodes : length running ≡ nodes_of state
  pub runs : (node : ℕ) → slice_get running node ≡ Some true → finished node state.past ≡ None
  pub is_away : (node : ℕ) → slice_get away node ≡ Some true →
      arrivals node state.past ≡ passes node state.past
  pub arrived : (node : ℕ) → slice_get away node ≡ Some false →
      passes node state.past < arrivals node state.past
  pub its_layout : state.memory.layout ≡ layout
  pub its_sites : state.book.sites ≡ sites
