-- Each entry of a legal journal is of one of the machine's nodes.
use Rattle.std.proofs.Common.{◌≡◌, ℕ, zero, suc, ◌-◌, ◌<◌, List, [], ◌∷◌, length, get_or, reverse, sym, ap, ◌∙◌, subst, arith}
use Rattle.std.proofs.lemmas.List.{get_or-reverse, length-reverse, reverse-reverse}
use Rattle.sc_base.specs.declared.value.Place.{Place}
use Rattle.sc_base.specs.declared.value.Value.{Value}
use Rattle.sc_base.specs.declared.value.End.TheVariants.{Ended, Fault, Cut, Waiting}
use Rattle.sc_isa.specs.declared.journal.Entry.{Entry}
use Rattle.sc_isa.specs.declared.journal.Entry.TheVariants.{Issued, Delivered, Waited, Arrived, Passed, Finished}
use Rattle.fabric.specs.Wired.{EntryWired, Wired}
use Rattle.journal_order.specs.Listed.{IsOn}
use Rattle.run_order.specs.Laws.{LegalJournalsAreOn}

entry_on : (start : Place → Value) (nodes : ℕ) (past : List Entry) (entry : Entry) → EntryWired start nodes past entry →
    IsOn nodes entry
entry_on start nodes past (Issued node number access) w = w.going.running.node_within
entry_on start nodes past (Delivered node number cell value) w = w.node_within
entry_on start nodes past (Waited node counter) w = w.going.running.node_within
entry_on start nodes past (Arrived node stores) w = w.running.node_within
entry_on start nodes past (Passed node) w = w.running.node_within
entry_on start nodes past (Finished node Ended) w = w.running.node_within
entry_on start nodes past (Finished node (Fault kind line)) w = w.running.node_within
entry_on start nodes past (Finished node Cut) w = w.running.node_within
entry_on start nodes past (Finished node Waiting) w = w.running.node_within

at_on : (start : Place → Value) (nodes : ℕ) (past : List Entry) → Wired start nodes past → (k : ℕ) (d : Entry) →
    k < length past → IsOn nodes (get_or past k d)
at_on start nodes [] wired k d within = absurd (omega (arith, within))
at_on start nodes (entry ∷ past) wired zero d within = entry_on start nodes past entry wired.0
at_on start nodes (entry ∷ past) wired (suc k) d within = at_on start nodes past wired.1 k d (omega (arith, within))

from_end : (journal : List Entry) (k : ℕ) (d : Entry) → k < length journal →
    get_or (reverse journal) (length (reverse journal) - 1 - k) d ≡ get_or journal k d
from_end journal k d within =
    sym (get_or-reverse (reverse journal) k d (let turned = length-reverse journal in omega (arith, turned, within)))
    ∙ ap (λ entries. get_or entries k d) (reverse-reverse journal)

pub legal_journals_are_on : LegalJournalsAreOn
legal_journals_are_on machine journal legal = λ k d within.
    let turned = length-reverse journal in
    subst (IsOn machine.nodes) (from_end journal k d within)
    (at_on machine.start machine.nodes (reverse journal) legal.wired (length (reverse journal) - 1 - k) d (omega (arith, turned, within)))
