-- The edges between effects of one cell, and between the two parts of one cell of a copy.
use Rattle.std.specs.Prelude.{ℕ, zero, suc, ◌-◌, List, [], ◌∷◌, length, Option, Some, None, Bool, true, false, not, ◌&&◌, if◌then◌else◌}
use Rattle.std.specs.declared.cmp.Ordering.{Ordering}
use Rattle.std.specs.Ordering.{nat_cmp, ordering_then, is_eq}
use Rattle.sc_base.specs.declared.value.Place.{Place}
use Rattle.sc_meaning.specs.declared.event.SourceEvent.{SourceEvent}
use Rattle.sc_meaning.specs.declared.event.SourceEvent.TheVariants.{Do, Effect}
use Rattle.least_order.specs.declared.edge.Edge.{Edge}
use Rattle.journal_order.specs.Ordering.{item_at}
use Rattle.order_edges.specs.declared.keyed.Pairing.{Pairing}
use Rattle.order_edges.specs.declared.keyed.Pairing.TheVariants.{Copied, LastWrite, NextWrite}
use Rattle.order_edges.specs.declared.keyed.Mark.{Mark}
use Rattle.order_edges.specs.Lines.{link, edges_upto}

abbrev pub Key : Type 0
Key = ℕ × ℕ × ℕ

abbrev pub key_cmp : Key → Key → Ordering
key_cmp x y = ordering_then (ordering_then (nat_cmp x.0 y.0) (nat_cmp x.1 y.1)) (nat_cmp x.2 y.2)

abbrev pub place_key : Place → Key
place_key place = (place.object, place.node, place.offset)

abbrev pub a_mark : Key → (is_one has_one : Bool) → Mark
a_mark key is_one has_one = record { key = key; is_one = is_one; has_one = has_one }

abbrev pub mark_of_cell : Pairing → (wrote : Bool) → Place → Option Mark
mark_of_cell Copied wrote place = None
mark_of_cell LastWrite wrote place = Some (a_mark (place_key place) wrote true)
mark_of_cell NextWrite wrote place = Some (a_mark (place_key place) wrote (not wrote))

abbrev pub mark_of_part : Pairing → (node request cell : ℕ) → (wrote : Bool) → Place → Option Mark
mark_of_part Copied node request cell wrote place = Some (a_mark (node, request, cell) (not wrote) wrote)
mark_of_part pairing node request cell wrote place = mark_of_cell pairing wrote place

-- an effect under a key, and whether others are linked to it, and it to them
abbrev pub marked : Pairing → SourceEvent → Option Mark
marked pairing (Do node k wrote place value) = mark_of_cell pairing wrote place
marked pairing (Effect node k cell wrote place value) = mark_of_part pairing node k cell wrote place
marked pairing _ = None

abbrev pub is_backwards : Pairing → Bool
is_backwards NextWrite = true
is_backwards _ = false

-- the item that is taken on this turn
abbrev pub at_turn : Pairing → (count turn : ℕ) → ℕ
at_turn pairing count turn = if is_backwards pairing then count - 1 - turn else turn

-- it is one with the key to which others are linked
abbrev pub is_one_at : Option Mark → Key → Bool
is_one_at None key = false
is_one_at (Some mark) key = mark.is_one && is_eq (key_cmp mark.key key)

-- the edge between an item and the one that is linked to it
abbrev pub link_to : Pairing → (one : Option ℕ) → (at : ℕ) → List Edge
link_to pairing one at = if is_backwards pairing then link (Some at) one else link one (Some at)

abbrev pub link_if : Pairing → Option Mark → (Key → Option ℕ) → (at : ℕ) → List Edge
link_if pairing None one at = []
link_if pairing (Some mark) one at = if mark.has_one then link_to pairing (one mark.key) at else []

module _ (pairing : Pairing) (items : List SourceEvent) where
  abbrev pub mark_at : ℕ → Option Mark
  mark_at turn = marked pairing (item_at items (at_turn pairing (length items) turn))

  -- the last such item in the first turns, so many of them
  abbrev pub last_one : (turns : ℕ) → Key → Option ℕ
  last_one zero key = None
  last_one (suc turn) key =
      if is_one_at (mark_at turn) key then Some (at_turn pairing (length items) turn) else last_one turn key

  abbrev pub keyed_at : ℕ → List Edge
  keyed_at turn = link_if pairing (mark_at turn) (last_one turn) (at_turn pairing (length items) turn)

  abbrev pub keyed_edges : ℕ → List Edge
  keyed_edges = edges_upto keyed_at
