use Rattle.std.proofs.Common.{◌∙◌, add-one, sym, subst}
use Rattle.effect_order.specs.Lists.{Each}
use Rattle.sc_layout.specs.Layout.{Arrangement}
use Rattle.sc_layout.specs.Start.{start}
use Rattle.sc_isa.specs.declared.access.Access.{Access}
use Rattle.sc_isa.specs.declared.access.Access.TheVariants.{Copy}
use Rattle.fabric.specs.Access.{transfer_of}
use Rattle.fabric.specs.Effects.{at_issue}
use Rattle.fabric.specs.State.{messages_of}
use Rattle.fabric.specs.Kept.{IsReady}
use Rattle.fabric.specs.Issuing.{CellsIssued}
use Rattle.fabric.proofs.Copying.{next_cell, still_untouched, one_more, grows_on}
use Rattle.fabric.proofs.issuing.issue_copy.Goals as goal

pub loop-cell-preserved : goal.loop-cell-preserved
loop-cell-preserved c =
    let i = c.loop-cell.invariant in
    let access : Access = Copy c.args.from c.args.to c.args.cells c.args.track in
    let t = transfer_of access in (
      c.copy_cell.ensures.layout ∙ i.0,
      (λ earlier u h.
          subst (λ n. CellsIssued c.args.node c.args.number n access earlier c.args.memory.now c.copy_cell.new.memory c.args.pool.now c.copy_cell.new.pool) (sym (add-one c.loop-cell.cell))
          (next_cell c.args.node c.args.number c.loop-cell.cell access earlier c.args.memory.now c.loop-cell.memory c.copy_cell.new.memory c.args.pool.now c.loop-cell.pool c.copy_cell.new.pool
          i.0 (i.1 earlier u h)
          (c.copy_cell.ensures.issued (at_issue (start c.args.memory.now.layout) t c.args.node c.args.number c.loop-cell.cell earlier)
          (still_untouched (start c.args.memory.now.layout) t c.args.node c.args.number c.loop-cell.cell earlier u) (i.1 earlier u h).holds))),
      one_more c.args.pool.now c.loop-cell.pool c.copy_cell.new.pool c.loop-cell.cell i.2 c.copy_cell.ensures.one,
      (λ sites known all.
          subst (λ (l : Arrangement). Each (IsReady l sites) (messages_of c.loop-cell.pool) → Each (IsReady l sites) (messages_of c.copy_cell.new.pool)) i.0
          (c.copy_cell.ensures.ready sites known) (i.3 sites known all)),
      grows_on c.args.pool.now c.loop-cell.pool c.copy_cell.new.pool i.4 c.copy_cell.ensures.stay,
    )
