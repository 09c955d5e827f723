-- Laws of journals.
use Rattle.std.specs.Prelude.{◌≡◌, ◌↔◌, ℕ, List, Bool, true, ◌==◌}
use Rattle.sc_base.specs.declared.value.Value.{Value}
use Rattle.sc_base.specs.declared.value.Place.{Place}
use Rattle.sc_isa.specs.declared.access.Track.{Track}
use Rattle.sc_isa.specs.declared.journal.Entry.{Entry}
use Rattle.fabric.specs.Outstanding.{outstanding}
use Rattle.fabric.specs.Flight.{in_flight, flying_count}
use Rattle.fabric.specs.Wired.{Wired, AllDone}
use Rattle.fabric.specs.WiredTest.{wired}

-- the test of what the fabric keeps is exact
abbrev pub TestIsExact : Type 0
TestIsExact = (start : Place → Value) (nodes : ℕ) (past : List Entry) → (wired start nodes past ≡ true)
    ↔ Wired start nodes past

-- as many cells have a part still to occur as messages are in flight, of any nodes and on any tracks
abbrev pub OpenCellsFly : Type 0
OpenCellsFly =
    (start : Place → Value) (nodes : ℕ) (of : ℕ → Bool) (on : Track → Bool) (past : List Entry)
    → Wired start nodes past
    → outstanding start of on past ≡ flying_count of on (in_flight start past)

-- no cell of a node's accesses on some tracks has a part still to occur exactly where all their parts have occurred
abbrev pub DoneIsNoneOpen : Type 0
DoneIsNoneOpen =
    (start : Place → Value) (nodes : ℕ) (on : Track → Bool) (node : ℕ) (past : List Entry)
    → Wired start nodes past
    → (outstanding start (λ other. other == node) on past ≡ 0) ↔ AllDone start past on node
