-- A move that is another one of the table.
use Rattle.std.proofs.Common.{◌≡◌, ℕ, List, refl, sym, subst}
use Rattle.sc_isa.specs.Moves as table
use Rattle.node_machine.specs.declared.machine.Machine.{Machine}
use Rattle.node_machine.specs.declared.machine.Move.{Move}
use Rattle.node_machine.specs.declared.machine.Move.TheVariants as move
use Rattle.node_machine.specs.View.{Done, Stepped}

pub done_by : (u v : table.Move) (made : Move) (new : Machine) → u ≡ v → Done v made new → Done u made new
done_by u v made new e h = subst (λ (w : table.Move). Done w made new) (sym e) h

pub steps_by : (u v : table.Move) (made : Move) (new : Machine) (before now : List ℕ) → u ≡ v
    → Stepped v made new before now → Stepped u made new before now
steps_by u v made new before now e h =
    subst (λ (w : table.Move). Stepped w made new before now) (sym e) h

-- a move that is made says nothing
pub quietly : (next : table.Move) (made : Move) (new : Machine) (text : List ℕ) → Done next made new
    → Stepped next made new text text
quietly (table.Comes after) made new text h = (h, refl)
quietly (table.Issues access after) made new text h = (h, refl)
quietly (table.Waits counter s) made new text h = (h, refl)
quietly (table.Meets stores s) made new text h = (h, refl)
quietly (table.Says said s) (move.Comes after) new text h = absurd h
quietly (table.Says said s) (move.Issues access after) new text h = absurd h
quietly (table.Says said s) (move.Waits counter) new text h = absurd h
quietly (table.Says said s) (move.Meets stores) new text h = absurd h
