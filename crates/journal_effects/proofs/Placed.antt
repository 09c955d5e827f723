-- Accesses that lie in a layout have numbered cells, and so has a legal journal of such accesses.
use Rattle.std.proofs.Common.{◌≡◌, ℕ, zero, suc, ◌-◌, ◌<◌, List, [], ◌∷◌, length, get_or, reverse, refl, sym, ap, ◌∙◌, subst, inl, inr, arith}
use Rattle.std.proofs.lemmas.List.{get_or-reverse, length-reverse, reverse-reverse}
use Rattle.sc_base.specs.declared.value.Place.{Place}
use Rattle.sc_base.specs.declared.value.Value.{Value}
use Rattle.sc_layout.specs.Layout.{Arrangement, IsLayout}
use Rattle.sc_isa.specs.Sound.{IsPlaced}
use Rattle.sc_isa.specs.declared.access.Access.{Access}
use Rattle.sc_isa.specs.declared.access.Access.TheVariants.{Read, Write, Copy}
use Rattle.sc_isa.specs.declared.journal.Entry.{Entry}
use Rattle.sc_isa.specs.declared.journal.Entry.TheVariants.{Issued, Delivered, Waited, Arrived, Passed, Finished}
use Rattle.fabric.specs.Wired.{Wired}
use Rattle.fabric.proofs.IssueSteps.{ends_small}
use Rattle.source_order.proofs.Stands.{Stands}
use Rattle.source_order.proofs.Numbers.{access_is}
use Rattle.journal_effects.specs.Numbered.{HasNumberedCells, IsNumbered}
use Rattle.run_moves.specs.Placed.{AccessesArePlaced}
use Rattle.journal_effects.specs.Laws.{PlacedAreNumbered}

pub placed_access : (layout : Arrangement) → IsLayout layout → (access : Access) → IsPlaced layout access →
    HasNumberedCells access
placed_access layout is (Read place track) placed = tt
placed_access layout is (Write place value track) placed = tt
placed_access layout is (Copy from to cells track) placed =
    let read = ends_small layout from cells is placed.some_cell placed.reads in
    let written = ends_small layout to cells is placed.some_cell placed.writes in
    (omega (arith, read), omega (arith, written))

stands_at : (entries : List Entry) (k : ℕ) (d : Entry) → k < length entries →
    (past : List Entry) × Stands past (get_or entries k d) entries
stands_at [] k d within = absurd (omega (arith, within))
stands_at (entry ∷ entries) zero d within = (entries, inl (refl, refl))
stands_at (entry ∷ entries) (suc k) d within =
    let rest = stands_at entries k d (omega (arith, within)) in (rest.0, inr rest.1)

placed_entry : (start : Place → Value) (nodes : ℕ) (whole : List Entry) → Wired start nodes whole → (layout : Arrangement) →
    IsLayout layout → AccessesArePlaced layout whole → (past : List Entry) (entry : Entry) → Stands past entry whole →
    IsNumbered entry
placed_entry start nodes whole wired layout is placed past (Issued node number access) stands =
    placed_access layout is access
    (placed node number access (access_is start nodes node number access past whole wired stands).0)
placed_entry start nodes whole wired layout is placed past (Delivered node number cell value) stands = tt
placed_entry start nodes whole wired layout is placed past (Waited node counter) stands = tt
placed_entry start nodes whole wired layout is placed past (Arrived node stores) stands = tt
placed_entry start nodes whole wired layout is placed past (Passed node) stands = tt
placed_entry start nodes whole wired layout is placed past (Finished node end) stands = tt

from_end : (journal : List Entry) (k : ℕ) (d : Entry) → k < length journal →
    get_or (reverse journal) (length (reverse journal) - 1 - k) d ≡ get_or journal k d
from_end journal k d within =
    sym (get_or-reverse (reverse journal) k d (let turned = length-reverse journal in omega (arith, turned, within)))
    ∙ ap (λ entries. get_or entries k d) (reverse-reverse journal)

pub placed_are_numbered : PlacedAreNumbered
placed_are_numbered machine layout journal legal is placed = λ k d within.
    let turned = length-reverse journal in
    let stands = stands_at (reverse journal) (length (reverse journal) - 1 - k) d (omega (arith, turned, within)) in
    subst IsNumbered (from_end journal k d within)
    (placed_entry machine.start machine.nodes (reverse journal) legal.wired layout is placed stands.0 _ stands.1)
