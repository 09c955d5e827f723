use Rattle.std.proofs.Common.{◌∙◌, sym, ap}
use Rattle.alias_conflicts.specs.Firsts.{next_index}
use Rattle.alias_conflicts.proofs.Cells.{object_at}
use Rattle.alias_conflicts.proofs.Finding.{cell_is_on, cell_is_not}
use Rattle.alias_conflicts.proofs.sharing.has_cell_on.Goals as goal

pub returns-in-Some : goal.returns-in-Some
returns-in-Some c =
    let o = object_at c.args.layout.now c.args.object c.requires.object in
    cell_is_on c.args.layout.now c.args.object c.args.node c.first_on.result c.next_from-index.result o.0 c.args.indices c.in-Some.cell c.requires.lawful c.requires.node o.1 c.requires.indices
    (c.first_on.ensures.first o.0 o.1) (c.next_from-index.ensures ∙ ap (λ n. next_index n c.first_on.result c.args.indices) c.nodes.ensures) (sym c.in-Some.is ∙ c.place_of.ensures)

pub returns-in-None : goal.returns-in-None
returns-in-None c =
    let o = object_at c.args.layout.now c.args.object c.requires.object in (
      λ e. cc,
      λ w. absurd (cell_is_not c.args.layout.now c.args.object c.args.node c.first_on.result c.next_from-index.result o.0 c.args.indices c.requires.lawful c.requires.node o.1 c.requires.indices
          (c.first_on.ensures.first o.0 o.1) (c.next_from-index.ensures ∙ ap (λ n. next_index n c.first_on.result c.args.indices) c.nodes.ensures) (sym c.in-None.is ∙ c.place_of.ensures) w),
    )
