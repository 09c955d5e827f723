use Rattle.node_memory.proofs.Written.{cell_of_place, all_fit_written, there, elsewhere}
use Rattle.node_memory.proofs.memory.NodeMemory.write.Goals as goal

pub returns-clause-there : goal.returns-clause-there
returns-clause-there c =
    rw (c.set_cell.ensures, c.index_in-index.ensures, c.nodes.ensures)
    (there (record { layout = c.self.inside.layout; rows = c.self.inside.rows.items }) c.args.place c.args.value
    (cell_of_place _ c.args.place c.self.invariant (rw (← c.self.view_is) at c.requires.placed)))

pub returns-clause-elsewhere : goal.returns-clause-elsewhere
returns-clause-elsewhere c = λ other placed differ.
    rw (c.set_cell.ensures, c.index_in-index.ensures, c.nodes.ensures, ← c.self.view_is)
    (elsewhere (record { layout = c.self.inside.layout; rows = c.self.inside.rows.items }) c.args.place c.args.value other
    (rw (← c.self.view_is) at c.requires.placed)
    (cell_of_place _ c.args.place c.self.invariant (rw (← c.self.view_is) at c.requires.placed))
    (rw (← c.self.view_is) at placed) differ)

pub invariant_of-self : goal.invariant_of-self
invariant_of-self c =
    rw (c.set_cell.ensures, c.index_in-index.ensures, c.nodes.ensures)
    (all_fit_written (record { layout = c.self.inside.layout; rows = c.self.inside.rows.items }) c.args.place c.args.value c.self.invariant
    (rw (← c.self.view_is) at c.requires.placed) (rw (← c.self.view_is) at c.requires.fits))
