-- What is due of a cell of which no part has occurred, and what then occurs with the issue.
use Rattle.std.proofs.Common.{◌≡◌, ℕ, List, ◌∷◌, Option, Some, None, true, false, ◌&&◌, refl, sym, ap, ◌∙◌, subst}
use Rattle.std.specs.Prelude.{if◌then◌else◌, is_some, IsSome}
use Rattle.std.proofs.lemmas.Bool.{eq-eqb, ne_eqb}
use Rattle.sc_base.specs.declared.value.Value.{Value}
use Rattle.sc_base.specs.declared.value.Place.{Place}
use Rattle.effect_order.specs.Effect.{Effect, held, same_place}
use Rattle.effect_order.specs.Transfer.{Transfer, part_place, part_value}
use Rattle.effect_order.proofs.Equal.{place_is, place_self}
use Rattle.sc_layout.specs.Place.{IsPlace}
use Rattle.sc_layout.specs.Start.{start}
use Rattle.node_memory.specs.Memory.{Memory, cell}
use Rattle.fabric.specs.Effects.{due, occurs_on, cell_at_issue, writing}
use Rattle.fabric.specs.Issuing.{Untouched, HoldsAfter}
use Rattle.fabric.proofs.Deciding.{decide_on}
use Rattle.fabric.proofs.Parts.{due_is, due_with, IsDue, IsRead, IsWrite, due_of}
use Rattle.fabric.proofs.Keys.{value_of, value_kept}

-- the effect of the cell's reading part, and of its writing part
abbrev pub read_effect : (start : Place → Value) (node number cell : ℕ) → Place → List Effect → Effect
read_effect start node number cell place earlier = record { node = node; number = number; cell = cell; wrote = false; place = place; value = held start place earlier }

abbrev pub write_effect : (node number cell : ℕ) → Place → Value → Effect
write_effect node number cell place value = record { node = node; number = number; cell = cell; wrote = true; place = place; value = value }

pub due_read : (start : Place → Value) (t : Transfer) (node number cell : ℕ) (earlier : List Effect) (place : Place) → Untouched node number cell earlier
    → part_place t cell false ≡ Some place → due start t node number cell earlier ≡ Some (read_effect start node number cell place earlier)
due_read start t node number cell earlier place u p = due_is start t node number cell earlier ∙ rw (p, u.none false) refl

pub due_write : (start : Place → Value) (t : Transfer) (node number cell : ℕ) (earlier : List Effect) (place : Place) (value : Value) → Untouched node number cell earlier
    → part_place t cell false ≡ None → part_place t cell true ≡ Some place → t.value ≡ Some value
    → due start t node number cell earlier ≡ Some (write_effect node number cell place value)
due_write start t node number cell earlier place value u from to v = due_is start t node number cell earlier ∙ rw (from, to, u.none false, u.none true, v) refl

-- after the read
read_parts : (start : Place → Value) (node number cell : ℕ) (earlier : List Effect) (place : Place) → part_value node number cell false (read_effect start node number cell place earlier ∷ earlier) ≡ Some (held start place earlier)
read_parts start node number cell earlier place =
    value_of node number cell false (read_effect start node number cell place earlier) earlier (record { its_node = refl; its_number = refl; its_cell = refl }) refl

read_other : (start : Place → Value) (node number cell : ℕ) (earlier : List Effect) (place : Place) → Untouched node number cell earlier
    → part_value node number cell true (read_effect start node number cell place earlier ∷ earlier) ≡ None
read_other start node number cell earlier place u = value_kept node number cell true (read_effect start node number cell place earlier) earlier refl ∙ u.none true

pub due_after_read : (start : Place → Value) (t : Transfer) (node number cell : ℕ) (earlier : List Effect) (place : Place) (to : Option Place) → Untouched node number cell earlier
    → part_place t cell false ≡ Some place → part_place t cell true ≡ to → t.value ≡ None
    → due start t node number cell (read_effect start node number cell place earlier ∷ earlier) ≡ writing node number cell to (Some (held start place earlier))
due_after_read start t node number cell earlier place to u from t_to v =
    due_is start t node number cell (read_effect start node number cell place earlier ∷ earlier)
    ∙ rw (from, t_to, v, read_parts start node number cell earlier place, read_other start node number cell earlier place u) refl

-- after the write
pub due_after_write : (start : Place → Value) (t : Transfer) (node number cell : ℕ) (earlier : List Effect) (e : Effect) → IsDue start t node number cell earlier e → e.wrote ≡ true
    → due start t node number cell (e ∷ earlier) ≡ None
due_after_write start t node number cell earlier e (IsRead place p none is) w = let x : false ≡ true = sym (ap (λ (y : Effect). y.wrote) is) ∙ w in cc
due_after_write start t node number cell earlier e (IsWrite place value p none wr first is) w =
    let of = due_of start t node number cell earlier e (IsWrite place value p none wr first is) in
    due_is start t node number cell (e ∷ earlier)
    ∙ rw (value_of node number cell true e earlier of w, value_kept node number cell false e earlier (rw w refl))
    (over start node number cell (e ∷ earlier) (part_place t cell false) (part_place t cell true) t.value (part_value node number cell false earlier) e.value first)
  where
    over : (start : Place → Value) (node number cell : ℕ) (l : List Effect) (from to : Option Place) (value read : Option Value) (v : Value)
        → (IsSome from → IsSome read) → due_with start node number cell l from to value read (Some v) ≡ None
    over start node number cell l None to value None v h = refl
    over start node number cell l (Some place) to value None v h = let x : is_some {T = Value} None ≡ true = h refl in cc
    over start node number cell l from to value (Some r) v h = refl

-- ---- memory

-- a read leaves the memory
pub holds_read : (memory : Memory) (e : Effect) (earlier : List Effect) → e.wrote ≡ false → HoldsAfter memory earlier → HoldsAfter memory (e ∷ earlier)
holds_read memory e earlier w h place p = h place p ∙ sym (ap (λ b. Some (if b && same_place e.place place then e.value else held (start memory.layout) place earlier)) w)

-- a write leaves the memory with its value there
pub holds_write : (was is : Memory) (e : Effect) (earlier : List Effect) → e.wrote ≡ true → is.layout ≡ was.layout → cell is e.place ≡ Some e.value
    → ((other : Place) → IsPlace was.layout other → (other ≡ e.place → ⊥) → cell is other ≡ cell was other)
    → HoldsAfter was earlier → HoldsAfter is (e ∷ earlier)
holds_write was is e earlier w same there elsewhere h place p =
    let in_was : IsPlace was.layout place = subst (λ l. IsPlace l place) same p in
    decide_on (same_place e.place place)
    (λ t. ap (λ x. cell is x) (sym (place_is e.place place t)) ∙ there
    ∙ sym (ap (λ b. Some (if b && same_place e.place place then e.value else held (start is.layout) place earlier)) w ∙ ap (λ b. Some (if b then e.value else held (start is.layout) place earlier)) t))
    (λ f. elsewhere place in_was (λ eq. (let t : same_place e.place place ≡ true = place_self e.place place (sym eq) in let x : true ≡ false = sym t ∙ f in cc))
    ∙ h place in_was
    ∙ ap (λ l. Some (held (start l) place earlier)) (sym same)
    ∙ sym (ap (λ b. Some (if b && same_place e.place place then e.value else held (start is.layout) place earlier)) w ∙ ap (λ b. Some (if b then e.value else held (start is.layout) place earlier)) f))

-- ---- what occurs with the issue

once_here : (start : Place → Value) (t : Transfer) (node number cell : ℕ) (earlier : List Effect) (e : Effect) → due start t node number cell earlier ≡ Some e
    → e.place.node ≡ node → occurs_on node (due start t node number cell earlier) earlier ≡ e ∷ earlier
once_here start t node number cell earlier e d here = rw (d, eq-eqb e.place.node node here) refl

once_away : (start : Place → Value) (t : Transfer) (node number cell : ℕ) (earlier : List Effect) (e : Effect) → due start t node number cell earlier ≡ Some e
    → (e.place.node ≡ node → ⊥) → occurs_on node (due start t node number cell earlier) earlier ≡ earlier
once_away start t node number cell earlier e d away = rw (d, ne_eqb e.place.node node away) refl

once_none : (start : Place → Value) (t : Transfer) (node number cell : ℕ) (earlier : List Effect) → due start t node number cell earlier ≡ None
    → occurs_on node (due start t node number cell earlier) earlier ≡ earlier
once_none start t node number cell earlier d = rw d refl

pub cell_away : (start : Place → Value) (t : Transfer) (node number cell : ℕ) (earlier : List Effect) (e : Effect) → due start t node number cell earlier ≡ Some e
    → (e.place.node ≡ node → ⊥) → cell_at_issue start t node number cell earlier ≡ earlier
cell_away start t node number cell earlier e d away =
    ap (λ l. occurs_on node (due start t node number cell l) l) (once_away start t node number cell earlier e d away) ∙ once_away start t node number cell earlier e d away

pub cell_over : (start : Place → Value) (t : Transfer) (node number cell : ℕ) (earlier : List Effect) (e : Effect) → due start t node number cell earlier ≡ Some e
    → e.place.node ≡ node → due start t node number cell (e ∷ earlier) ≡ None → cell_at_issue start t node number cell earlier ≡ e ∷ earlier
cell_over start t node number cell earlier e d here none =
    ap (λ l. occurs_on node (due start t node number cell l) l) (once_here start t node number cell earlier e d here) ∙ once_none start t node number cell (e ∷ earlier) none

pub cell_half : (start : Place → Value) (t : Transfer) (node number cell : ℕ) (earlier : List Effect) (e f : Effect) → due start t node number cell earlier ≡ Some e
    → e.place.node ≡ node → due start t node number cell (e ∷ earlier) ≡ Some f → (f.place.node ≡ node → ⊥) → cell_at_issue start t node number cell earlier ≡ e ∷ earlier
cell_half start t node number cell earlier e f d here next away =
    ap (λ l. occurs_on node (due start t node number cell l) l) (once_here start t node number cell earlier e d here) ∙ once_away start t node number cell (e ∷ earlier) f next away

pub cell_whole : (start : Place → Value) (t : Transfer) (node number cell : ℕ) (earlier : List Effect) (e f : Effect) → due start t node number cell earlier ≡ Some e
    → e.place.node ≡ node → due start t node number cell (e ∷ earlier) ≡ Some f → f.place.node ≡ node → cell_at_issue start t node number cell earlier ≡ f ∷ e ∷ earlier
cell_whole start t node number cell earlier e f d here next too =
    ap (λ l. occurs_on node (due start t node number cell l) l) (once_here start t node number cell earlier e d here) ∙ once_here start t node number cell (e ∷ earlier) f next too
