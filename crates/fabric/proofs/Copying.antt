-- The cells of a copy are issued one after another.
use Rattle.std.proofs.Common.{◌≡◌, ℕ, zero, suc, ◌+◌, ◌≤◌, List, ◌∷◌, ◌++◌, append_assoc, refl, sym, ap, ◌∙◌, subst, arith}
use Rattle.sc_base.specs.declared.value.Value.{Value}
use Rattle.sc_base.specs.declared.value.Place.{Place}
use Rattle.effect_order.specs.Effect.{Effect}
use Rattle.effect_order.specs.Transfer.{Transfer}
use Rattle.sc_isa.specs.declared.access.Access.{Access}
use Rattle.sc_isa.specs.declared.access.Track.{Track}
use Rattle.sc_layout.specs.Start.{start}
use Rattle.msg_pool.specs.Pool.{Pool}
use Rattle.node_memory.specs.Memory.{Memory}
use Rattle.fabric.specs.Access.{transfer_of, track_of}
use Rattle.fabric.specs.Effects.{due, cell_at_issue, at_issue}
use Rattle.fabric.specs.Flight.{carried, sent}
use Rattle.fabric.specs.State.{Grows, messages_of}
use Rattle.fabric.specs.Issuing.{Untouched, Unissued, HoldsAfter, CellIssued, CellsIssued, AtMost}
use Rattle.fabric.proofs.Parts.{SameParts, carried_same, same_refl, same_trans}
use Rattle.fabric.proofs.Keys.{cell_keeps, due_same}
use Rattle.fabric.proofs.Flying.{cell_apart}

-- issuing a cell leaves the parts of another
cell_same : (start : Place → Value) (t : Transfer) (node number c cell : ℕ) (earlier : List Effect) → (c ≡ cell → ⊥)
    → SameParts node number cell (cell_at_issue start t node number c earlier) earlier
cell_same start t node number c cell earlier ne =
    cell_keeps (λ later. SameParts node number cell later earlier) start t node number c
    (λ later e h d. same_trans node number cell (e ∷ later) later earlier (due_same start t node number c node number cell later e d (cell_apart node number c cell ne)) h)
    earlier (same_refl node number cell earlier)

-- the first cells leave the parts of those from there on
cells_same : (start : Place → Value) (t : Transfer) (node number cell : ℕ) (earlier : List Effect) (cells : ℕ) → cells ≤ cell
    → SameParts node number cell (at_issue start t node number cells earlier) earlier
cells_same start t node number cell earlier zero h = same_refl node number cell earlier
cells_same start t node number cell earlier (suc c) h =
    same_trans node number cell (at_issue start t node number (suc c) earlier) (at_issue start t node number c earlier) earlier
    (cell_same start t node number c cell (at_issue start t node number c earlier) (λ e. absurd (omega arith)))
    (cells_same start t node number cell earlier c (omega arith))

pub still_untouched : (start : Place → Value) (t : Transfer) (node number cell : ℕ) (earlier : List Effect) → Unissued node number earlier
    → Untouched node number cell (at_issue start t node number cell earlier)
still_untouched start t node number cell earlier u = record { none = λ wrote. (cells_same start t node number cell earlier cell (omega arith)).same wrote ∙ u.none cell wrote }

-- the messages of earlier cells stay
sent_same : (start : Place → Value) (t : Transfer) (node number : ℕ) (track : Track) (c : ℕ) (earlier : List Effect) (cells : ℕ) → cells ≤ c
    → sent start t node number track (cell_at_issue start t node number c earlier) cells ≡ sent start t node number track earlier cells
sent_same start t node number track c earlier zero h = refl
sent_same start t node number track c earlier (suc k) h =
    ap (λ l. l ++ carried t node number k track (due start t node number k (cell_at_issue start t node number c earlier))) (sent_same start t node number track c earlier k (omega arith))
    ∙ ap (λ l. sent start t node number track earlier k ++ l) (carried_same start t node number k track (cell_at_issue start t node number c earlier) earlier
    (cell_same start t node number c k earlier (λ e. absurd (omega arith))))

-- one cell more
pub next_cell : (node number c : ℕ) (access : Access) (earlier : List Effect) (was is now : Memory) (pool pool' pool'' : Pool) → is.layout ≡ was.layout
    → CellsIssued node number c access earlier was is pool pool'
    → CellIssued node number c access (at_issue (start was.layout) (transfer_of access) node number c earlier) is now pool' pool''
    → CellsIssued node number (suc c) access earlier was now pool pool''
next_cell node number c access earlier was is now pool pool' pool'' same before one =
    let t : Transfer = transfer_of access in
    let s : Place → Value = start was.layout in
    let l : List Effect = at_issue s t node number c earlier in
    let track : Track = track_of access in
    let as_was : start is.layout ≡ s = ap start same in
    let sending : messages_of pool'' ≡ messages_of pool' ++ carried t node number c track (due s t node number c (cell_at_issue s t node number c l)) =
    subst (λ (x : Place → Value). messages_of pool'' ≡ messages_of pool' ++ carried t node number c track (due x t node number c (cell_at_issue x t node number c l))) as_was one.messages in
    record {
      holds = subst (λ (x : Place → Value). HoldsAfter now (cell_at_issue x t node number c l)) as_was one.holds;
      messages =
          sending
          ∙ ap (λ ms. ms ++ carried t node number c track (due s t node number c (cell_at_issue s t node number c l))) before.messages
          ∙ append_assoc (messages_of pool) (sent s t node number track l c) (carried t node number c track (due s t node number c (cell_at_issue s t node number c l)))
          ∙ ap (λ ms. messages_of pool ++ (ms ++ carried t node number c track (due s t node number c (cell_at_issue s t node number c l)))) (sym (sent_same s t node number track c l c (omega arith)));
    }

-- one message more, at most
pub one_more : (was is now : Pool) (count : ℕ) → AtMost count was is → AtMost 1 is now → AtMost (count + 1) was now
one_more was is now count a b = record {
  spare = omega (arith, a.spare, b.spare);
  puts = omega (arith, a.puts, b.puts);
  nodes = b.nodes ∙ a.nodes;
  few = omega (arith, a.few, b.few);
  grown = omega (arith, a.grown, b.grown);
}

pub grows_on : (was is now : Pool) → Grows was is → Grows is now → Grows was now
grows_on was is now a b = record {
  added = a.added ++ b.added;
  is = b.is ∙ ap (λ l. l ++ b.added) a.is ∙ append_assoc was.pending a.added b.added;
}

-- an access of one cell
pub one_cell : (node number : ℕ) (access : Access) (earlier : List Effect) (was is : Memory) (pool pool' : Pool)
    → CellIssued node number 0 access earlier was is pool pool' → CellsIssued node number 1 access earlier was is pool pool'
one_cell node number access earlier was is pool pool' i = record { holds = i.holds; messages = i.messages }

pub first_untouched : (node number : ℕ) (earlier : List Effect) → Unissued node number earlier → Untouched node number 0 earlier
first_untouched node number earlier u = record { none = λ wrote. u.none 0 wrote }
