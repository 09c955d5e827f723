-- The messages in flight are exactly the parts that a delivery can bring.
use Rattle.std.proofs.Common.{◌≡◌, ℕ, ◌<◌, List, [], ◌∷◌, Some, Bool, true, false, ◌==◌, ◌&&◌, refl, sym, ap, ◌∙◌, subst, inl, inr, eqb-true}
use Rattle.std.specs.Prelude.{if◌then◌else◌}
use Rattle.std.proofs.lemmas.Bool.{and_parts}
use Rattle.sc_base.specs.declared.value.Value.{Value}
use Rattle.sc_base.specs.declared.value.Place.{Place}
use Rattle.effect_order.specs.Effect.{Effect}
use Rattle.effect_order.specs.Lists.{In}
use Rattle.effect_order.proofs.Members.{in-split}
use Rattle.sc_isa.specs.declared.access.Access.{Access}
use Rattle.sc_isa.specs.declared.journal.Entry.{Entry}
use Rattle.sc_isa.specs.declared.journal.Entry.TheVariants.{Issued, Delivered, Waited, Arrived, Passed, Finished}
use Rattle.msg_pool.specs.declared.message.Message.{Message}
use Rattle.fabric.specs.Access.{transfer_of, track_of}
use Rattle.fabric.specs.Effects.{access_at, effects}
use Rattle.fabric.specs.Flight.{message, part_of, carried, is_for, in_flight}
use Rattle.fabric.specs.Delivering.{value_in}
use Rattle.fabric.specs.Wired.{Wired, DeliveryWired}
use Rattle.fabric.proofs.Flying.{only}
use Rattle.fabric.proofs.InFlight.{expected, flying}
use Rattle.fabric.proofs.Parts.{is_due, IsDue, IsRead, IsWrite}
use Rattle.fabric.proofs.Delivering.{Due, is_flying}

-- the value is the due part's
due_value : (start : Place → Value) (access : Access) (node number cell : ℕ) (earlier : List Effect) (e : Effect) → IsDue start (transfer_of access) node number cell earlier e
    → value_in start earlier (part_of (transfer_of access) cell e) ≡ e.value
due_value start access node number cell earlier e (IsRead place p none is) = ap (λ (x : Effect). value_in start earlier (part_of (transfer_of access) cell x)) is ∙ sym (ap (λ (x : Effect). x.value) is)
due_value start access node number cell earlier e (IsWrite place value p none w first is) = ap (λ (x : Effect). value_in start earlier (part_of (transfer_of access) cell x)) is ∙ sym (ap (λ (x : Effect). x.value) is)

-- the issuer of an access is one of the nodes
pub issuer_within : (start : Place → Value) (nodes : ℕ) (past : List Entry) → Wired start nodes past → (node number : ℕ) (a : Access) → access_at node number past ≡ Some a → node < nodes
issuer_within start nodes [] w node number a h = absurd cc
issuer_within start nodes (Issued q n other ∷ past) w node number a h = by ((q == node) && (n == number)) refl h (λ i. issuer_within start nodes past w.1 node number a i)
  where
    by : (b : Bool) → ((q == node) && (n == number)) ≡ b → (if b then Some other else access_at node number past) ≡ Some a → (access_at node number past ≡ Some a → node < nodes) → node < nodes
    by true t i f = subst (λ k. k < nodes) (eqb-true q node (and_parts (q == node) (n == number) t).0) w.0.going.running.node_within
    by false t i f = f i
issuer_within start nodes (Delivered _ _ _ _ ∷ past) w node number a h = issuer_within start nodes past w.1 node number a h
issuer_within start nodes (Waited _ _ ∷ past) w node number a h = issuer_within start nodes past w.1 node number a h
issuer_within start nodes (Arrived _ _ ∷ past) w node number a h = issuer_within start nodes past w.1 node number a h
issuer_within start nodes (Passed _ ∷ past) w node number a h = issuer_within start nodes past w.1 node number a h
issuer_within start nodes (Finished _ _ ∷ past) w node number a h = issuer_within start nodes past w.1 node number a h

-- a message in flight can be delivered
pub flown_wired : (start : Place → Value) (nodes : ℕ) (past : List Entry) → Wired start nodes past → (m : Message) → In m (in_flight start past)
    → DeliveryWired start nodes past m.issuer m.number m.cell (value_in start (effects start past) m.part)
flown_wired start nodes past w m i =
    let s = in-split (in_flight start past) m i in
    let d : Due start past s.0 s.1 m = is_flying start nodes past s.0 s.1 m w s.2 in
    record {
      node_within = issuer_within start nodes past w m.issuer m.number d.access d.issued;
      access = d.access;
      issued = d.issued;
      part = d.part;
      is_due = d.is_due;
      its_value =
          ap (value_in start (effects start past)) d.its_part
          ∙ due_value start d.access m.issuer m.number m.cell (effects start past) d.part
          (is_due start (transfer_of d.access) m.issuer m.number m.cell (effects start past) d.part d.is_due);
    }

in_only : (node number cell : ℕ) (x : Message) (ms : List Message) → In x (only node number cell ms) → In x ms
in_only node number cell x [] i = absurd i
in_only node number cell x (m ∷ ms) i = by (is_for node number cell m) i (λ j. in_only node number cell x ms j)
  where
    by : (b : Bool) → In x (if b then m ∷ only node number cell ms else only node number cell ms) → (In x (only node number cell ms) → In x ms) → In x (m ∷ ms)
    by true (inl e) f = inl e
    by true (inr j) f = inr (f j)
    by false j f = inr (f j)

-- what can be delivered is a message in flight, with that value
pub wired_flown : (start : Place → Value) (nodes : ℕ) (past : List Entry) (node number cell : ℕ) (value : Value) → Wired start nodes past
    → DeliveryWired start nodes past node number cell value
    → (m : Message) × In m (in_flight start past) × (Delivered node number cell value ≡ Delivered m.issuer m.number m.cell (value_in start (effects start past) m.part))
wired_flown start nodes past node number cell value w d =
    let m : Message = message node number cell (track_of d.access) (part_of (transfer_of d.access) cell d.part) in
    let one : only node number cell (in_flight start past) ≡ m ∷ [] =
    flying start nodes past w node number cell
    ∙ ap (λ o. expected start o node number cell (effects start past)) d.issued
    ∙ ap (carried (transfer_of d.access) node number cell (track_of d.access)) d.is_due in
    let v : value ≡ value_in start (effects start past) m.part =
    d.its_value
    ∙ sym (due_value start d.access node number cell (effects start past) d.part (is_due start (transfer_of d.access) node number cell (effects start past) d.part d.is_due)) in
    (m, in_only node number cell m (in_flight start past) (subst (In m) (sym one) (inl refl)), ap (Delivered node number cell) v)
