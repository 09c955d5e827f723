-- Accesses that lie in a layout. A past is a list of entries, the newest first.
use Rattle.std.specs.Prelude.{◌≡◌, ℕ, List, Some}
use Rattle.sc_layout.specs.Layout.{Arrangement}
use Rattle.sc_isa.specs.declared.access.Access.{Access}
use Rattle.sc_isa.specs.declared.journal.Entry.{Entry}
use Rattle.sc_isa.specs.Sound.{IsPlaced}
use Rattle.fabric.specs.Effects.{access_at}

-- each access of the past lies in the layout
abbrev pub AccessesArePlaced : Arrangement → List Entry → Type 0
AccessesArePlaced layout past =
    (node number : ℕ) (access : Access) → access_at node number past ≡ Some access → IsPlaced layout access
