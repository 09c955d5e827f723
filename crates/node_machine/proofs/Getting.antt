-- An explicit get of a place that was found.
use Rattle.std.proofs.Common.{◌≡◌, ℕ, Option, Some, List, [], ◌∷◌, subst}
use Rattle.sc_base.specs.declared.value.Place.{Place}
use Rattle.sc_base.specs.declared.value.Value.{Value}
use Rattle.sc_layout.specs.Layout.{Arrangement}
use Rattle.sc_isa.specs.declared.access.Track.{Track}
use Rattle.sc_isa.specs.declared.operand.Operand.{Operand}
use Rattle.sc_isa.specs.Deeds.{get, gets, found, spotted}
use Rattle.sc_isa.specs.State.{State, with_stack}
use Rattle.sc_isa.specs.Moves.{Taken, act_done}
use Rattle.sc_isa.specs.Table.{acted}
use Rattle.node_machine.specs.declared.machine.Machine.{Machine}
use Rattle.node_machine.specs.declared.machine.Move.{Move}
use Rattle.node_machine.specs.View.{Done}

pub gets_found : (layout : Arrangement) (site : ℕ) (track : Track) (line local : ℕ) (s mid : State) (o : Option Taken)
    (pointer : Value) (rest : List Operand) (place : Place) (made : Move) (new : Machine)
    → o ≡ Some (record { values = pointer ∷ []; rest = rest }) → found place ≡ spotted layout pointer
    → mid ≡ with_stack rest s → Done (act_done site track line mid (gets local place)) made new
    → Done (acted layout (get local) site track line s o) made new
gets_found layout site track line local s mid o pointer rest place made new e f g h =
    rw (e, ← f) (subst (λ (u : State). Done (act_done site track line u (gets local place)) made new) g h)
