-- Whatever a journal says, each part occurs in it at most once.
use Rattle.std.proofs.Common.{◌≡◌, ℕ, zero, suc, List, [], ◌∷◌, Option, Some, None, Bool, true, false, ◌==◌, refl}
use Rattle.std.specs.Prelude.{if◌then◌else◌}
use Rattle.sc_base.specs.declared.value.Value.{Value}
use Rattle.sc_base.specs.declared.value.Place.{Place}
use Rattle.effect_order.specs.Effect.{Effect}
use Rattle.effect_order.specs.Transfer.{Transfer, part_place, part_value, written}
use Rattle.sc_isa.specs.declared.access.Access.{Access}
use Rattle.sc_isa.specs.declared.journal.Entry.{Entry}
use Rattle.sc_isa.specs.declared.journal.Entry.TheVariants.{Issued, Delivered, Waited, Arrived, Passed, Finished}
use Rattle.fabric.specs.Access.{transfer_of}
use Rattle.fabric.specs.Effects.{access_at, reading, writing, unless_occurred, or_else, due, occurs_on, cell_at_issue, at_issue, and_effect, at_delivery, effects}

-- the effect's part did not occur before
abbrev pub IsFresh : Effect → List Effect → Type 0
IsFresh effect earlier = part_value effect.node effect.number effect.cell effect.wrote earlier ≡ None

-- each part occurs at most once
abbrev pub AtMostOnce : List Effect → Type 0
AtMostOnce [] = Unit {0}
AtMostOnce (effect ∷ earlier) = IsFresh effect earlier × AtMostOnce earlier

-- the effect, if there is one, is fresh
abbrev FreshIfAny : Option Effect → List Effect → Type 0
FreshIfAny None earlier = Unit {0}
FreshIfAny (Some effect) earlier = IsFresh effect earlier

module _ (start : Place → Value) where
  read_fresh : (node number cell : ℕ) (earlier : List Effect) (place : Option Place) (was : Option Value)
      → part_value node number cell false earlier ≡ was → FreshIfAny (unless_occurred was (reading start node number cell earlier place)) earlier
  read_fresh node number cell earlier None None e = tt
  read_fresh node number cell earlier (Some place) None e = e
  read_fresh node number cell earlier place (Some value) e = tt

  write_fresh : (node number cell : ℕ) (earlier : List Effect) (place : Option Place) (value was : Option Value)
      → part_value node number cell true earlier ≡ was → FreshIfAny (unless_occurred was (writing node number cell place value)) earlier
  write_fresh node number cell earlier (Some place) (Some value) None e = e
  write_fresh node number cell earlier None value None e = tt
  write_fresh node number cell earlier (Some place) None None e = tt
  write_fresh node number cell earlier place value (Some v) e = tt

  either_fresh : (one other : Option Effect) (earlier : List Effect) → FreshIfAny one earlier → FreshIfAny other earlier
      → FreshIfAny (or_else one other) earlier
  either_fresh None other earlier p q = q
  either_fresh (Some effect) other earlier p q = p

  due_fresh : (transfer : Transfer) (node number cell : ℕ) (earlier : List Effect) → FreshIfAny (due start transfer node number cell earlier) earlier
  due_fresh transfer node number cell earlier =
      either_fresh
      (unless_occurred (part_value node number cell false earlier) (reading start node number cell earlier (part_place transfer cell false)))
      (unless_occurred (part_value node number cell true earlier) (writing node number cell (part_place transfer cell true) (written transfer node number cell earlier)))
      earlier
      (read_fresh node number cell earlier (part_place transfer cell false) (part_value node number cell false earlier) refl)
      (write_fresh node number cell earlier (part_place transfer cell true) (written transfer node number cell earlier) (part_value node number cell true earlier) refl)

  occurs_once : (node : ℕ) (effect : Option Effect) (earlier : List Effect) → FreshIfAny effect earlier → AtMostOnce earlier
      → AtMostOnce (occurs_on node effect earlier)
  occurs_once node None earlier fresh once = once
  occurs_once node (Some effect) earlier fresh once = by (effect.place.node == node)
    where
      by : (b : Bool) → AtMostOnce (if b then effect ∷ earlier else earlier)
      by true = (fresh, once)
      by false = once

  cell_once : (transfer : Transfer) (node number cell : ℕ) (earlier : List Effect) → AtMostOnce earlier
      → AtMostOnce (cell_at_issue start transfer node number cell earlier)
  cell_once transfer node number cell earlier once =
      let later : List Effect = occurs_on node (due start transfer node number cell earlier) earlier in
      occurs_once node (due start transfer node number cell later) later (due_fresh transfer node number cell later)
      (occurs_once node (due start transfer node number cell earlier) earlier (due_fresh transfer node number cell earlier) once)

  issue_once : (transfer : Transfer) (node number cells : ℕ) (earlier : List Effect) → AtMostOnce earlier
      → AtMostOnce (at_issue start transfer node number cells earlier)
  issue_once transfer node number zero earlier once = once
  issue_once transfer node number (suc cell) earlier once =
      cell_once transfer node number cell (at_issue start transfer node number cell earlier) (issue_once transfer node number cell earlier once)

  and_once : (effect : Option Effect) (earlier : List Effect) → FreshIfAny effect earlier → AtMostOnce earlier → AtMostOnce (and_effect effect earlier)
  and_once None earlier fresh once = once
  and_once (Some effect) earlier fresh once = (fresh, once)

  delivery_fresh : (access : Option Access) (node number cell : ℕ) (earlier : List Effect) → FreshIfAny (at_delivery start access node number cell earlier) earlier
  delivery_fresh None node number cell earlier = tt
  delivery_fresh (Some access) node number cell earlier = due_fresh (transfer_of access) node number cell earlier

  pub each_part_once : (past : List Entry) → AtMostOnce (effects start past)
  each_part_once [] = tt
  each_part_once (Issued node number access ∷ past) =
      issue_once (transfer_of access) node number (transfer_of access).cells (effects start past) (each_part_once past)
  each_part_once (Delivered node number cell value ∷ past) =
      and_once (at_delivery start (access_at node number past) node number cell (effects start past)) (effects start past)
      (delivery_fresh (access_at node number past) node number cell (effects start past)) (each_part_once past)
  each_part_once (Waited node counter ∷ past) = each_part_once past
  each_part_once (Arrived node stores ∷ past) = each_part_once past
  each_part_once (Passed node ∷ past) = each_part_once past
  each_part_once (Finished node end ∷ past) = each_part_once past
