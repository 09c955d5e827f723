use Rattle.std.proofs.Common.{sym, subst}
use Rattle.sc_isa.specs.declared.access.Access.{Access}
use Rattle.fabric.specs.Access.{transfer_of, track_of}
use Rattle.fabric.specs.State.{IsCopy, IsPlaced, IsTrack}
use Rattle.fabric.specs.Issuing.{CellsIssued}
use Rattle.fabric.proofs.Copying.{one_cell, first_untouched}
use Rattle.fabric.proofs.IssueSteps.{ends_small}
use Rattle.fabric.proofs.steps.issue_access.Goals as goal

pub issue_copy-requires-clause-small : goal.issue_copy-requires-clause-small
issue_copy-requires-clause-small c =
    let copy : IsCopy c.args.memory.now.layout c.in-Copy.from c.in-Copy.to c.in-Copy.cells = subst (λ (a : Access). IsPlaced c.args.memory.now.layout a) c.in-Copy.is c.requires.placed in
    ends_small c.args.memory.now.layout c.in-Copy.from c.in-Copy.cells c.requires.layout copy.some_cell copy.from_inside

pub issue_copy-requires-clause-small_too : goal.issue_copy-requires-clause-small_too
issue_copy-requires-clause-small_too c =
    let copy : IsCopy c.args.memory.now.layout c.in-Copy.from c.in-Copy.to c.in-Copy.cells = subst (λ (a : Access). IsPlaced c.args.memory.now.layout a) c.in-Copy.is c.requires.placed in
    ends_small c.args.memory.now.layout c.in-Copy.to c.in-Copy.cells c.requires.layout copy.some_cell copy.to_inside

pub returns-in-Read-clause-issued : goal.returns-in-Read-clause-issued
returns-in-Read-clause-issued c = λ earlier u h.
    subst (λ (a : Access). CellsIssued c.args.node c.args.number (transfer_of a).cells a earlier c.args.memory.now c.args.memory.now c.args.pool.now c.issue_read.new.pool) (sym c.in-Read.is)
    (one_cell c.args.node c.args.number _ earlier c.args.memory.now c.args.memory.now c.args.pool.now c.issue_read.new.pool
    (c.issue_read.ensures.issued earlier (first_untouched c.args.node c.args.number earlier u) h))

pub returns-in-Read-clause-ready : goal.returns-in-Read-clause-ready
returns-in-Read-clause-ready c = λ sites known all.
    c.issue_read.ensures.ready sites (subst (λ (a : Access). IsTrack sites (track_of a)) c.in-Read.is known) all

pub returns-in-Write-clause-issued : goal.returns-in-Write-clause-issued
returns-in-Write-clause-issued c = λ earlier u h.
    subst (λ (a : Access). CellsIssued c.args.node c.args.number (transfer_of a).cells a earlier c.args.memory.now c.issue_write.new.memory c.args.pool.now c.issue_write.new.pool) (sym c.in-Write.is)
    (one_cell c.args.node c.args.number _ earlier c.args.memory.now c.issue_write.new.memory c.args.pool.now c.issue_write.new.pool
    (c.issue_write.ensures.issued earlier (first_untouched c.args.node c.args.number earlier u) h))

pub returns-in-Write-clause-ready : goal.returns-in-Write-clause-ready
returns-in-Write-clause-ready c = λ sites known all.
    c.issue_write.ensures.ready sites (subst (λ (a : Access). IsTrack sites (track_of a)) c.in-Write.is known) all

pub returns-in-Copy-clause-ready : goal.returns-in-Copy-clause-ready
returns-in-Copy-clause-ready c = λ sites known all.
    c.issue_copy.ensures.ready sites (subst (λ (a : Access). IsTrack sites (track_of a)) c.in-Copy.is known) all
