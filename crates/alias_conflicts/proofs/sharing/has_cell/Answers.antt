use Rattle.std.proofs.Common.{◌↔◌, ◌∙◌, sym, ap, subst}
use Rattle.std.specs.Prelude.{IsTrue}
use Rattle.alias_conflicts.specs.Firsts.{next_index}
use Rattle.alias_conflicts.specs.Regions.{HasCell}
use Rattle.alias_conflicts.proofs.Finding.{cell_is_any}
use Rattle.alias_conflicts.proofs.sharing.has_cell.Goals as goal

pub returns-in-None : goal.returns-in-None
returns-in-None c =
    subst (λ n. IsTrue c.is_some.result ↔ HasCell c.args.layout.now c.args.object n c.args.indices) (sym c.in-None.is)
    (cell_is_any c.args.layout.now c.args.object c.next_from-index.result c.args.indices c.place_of.result c.is_some.result c.requires.lawful c.requires.indices
    (c.next_from-index.ensures ∙ ap (λ n. next_index n 0 c.args.indices) c.nodes.ensures) c.place_of.ensures c.is_some.ensures)
