-- What an issue or a delivery adds is of its own access: the parts of other accesses stay.
use Rattle.std.proofs.Common.{◌≡◌, ℕ, zero, suc, List, ◌∷◌, Option, Some, None, Bool, true, false, ◌&&◌, ◌==◌, refl, ap, ◌∙◌}
use Rattle.std.specs.Prelude.{if◌then◌else◌}
use Rattle.std.proofs.lemmas.Bool.{eq-eqb, eqb-true, and_parts, and_left, and_right}
use Rattle.sc_base.specs.declared.value.Value.{Value}
use Rattle.sc_base.specs.declared.value.Place.{Place}
use Rattle.effect_order.specs.Effect.{Effect}
use Rattle.effect_order.specs.Transfer.{Transfer, part_value, is_part, same_flag}
use Rattle.fabric.specs.Effects.{due, occurs_on, cell_at_issue, at_issue}
use Rattle.fabric.proofs.Parts.{IsOff, IsOf, SameParts, off_same, same_refl, same_trans, is_due, due_of}

-- the two accesses are one
abbrev pub same_access : (p n node number : ℕ) → Bool
same_access p n node number = (p == node) && (n == number)

-- the two cells are one
abbrev pub same_cell : (p n c node number cell : ℕ) → Bool
same_cell p n c node number cell = (p == node) && (n == number) && (c == cell)

pub access_apart : (p n c node number cell : ℕ) → same_access p n node number ≡ false → same_cell p n c node number cell ≡ false
access_apart p n c node number cell h = and_left (same_access p n node number) (c == cell) h

pub of_off : (p n c node number cell : ℕ) (e : Effect) → IsOf p n c e → same_cell p n c node number cell ≡ false → IsOff node number cell e
of_off p n c node number cell e o h = record {
  off = λ wrote.
      ap (λ x. (x == node) && (e.number == number) && (e.cell == cell) && same_flag e.wrote wrote) o.its_node
      ∙ ap (λ x. (p == node) && (x == number) && (e.cell == cell) && same_flag e.wrote wrote) o.its_number
      ∙ ap (λ x. (p == node) && (n == number) && (x == cell) && same_flag e.wrote wrote) o.its_cell
      ∙ and_left (same_cell p n c node number cell) (same_flag e.wrote wrote) h;
}

-- what holds before and after an effect that is added on some node, or not
occurs_keeps : (P : List Effect → Type 0) (node : ℕ) (effect : Option Effect) (earlier : List Effect)
    → ((e : Effect) → effect ≡ Some e → P (e ∷ earlier)) → P earlier → P (occurs_on node effect earlier)
occurs_keeps P node None earlier step same = same
occurs_keeps P node (Some e) earlier step same = by_test (e.place.node == node)
  where
    by_test : (b : Bool) → P (if b then e ∷ earlier else earlier)
    by_test true = step e refl
    by_test false = same

-- what a due part of the cell keeps, the cell's parts at issue keep
pub cell_keeps : (P : List Effect → Type 0) (start : Place → Value) (t : Transfer) (node number cell : ℕ)
    → ((earlier : List Effect) (e : Effect) → P earlier → due start t node number cell earlier ≡ Some e → P (e ∷ earlier))
    → (earlier : List Effect) → P earlier → P (cell_at_issue start t node number cell earlier)
cell_keeps P start t node number cell step earlier h =
    let once : List Effect = occurs_on node (due start t node number cell earlier) earlier in
    let kept : P once = occurs_keeps P node (due start t node number cell earlier) earlier (λ e. step earlier e h) h in
    occurs_keeps P node (due start t node number cell once) once (λ e. step once e kept) kept

-- what due parts of all cells keep, an issue keeps
pub issue_keeps : (P : List Effect → Type 0) (start : Place → Value) (t : Transfer) (node number : ℕ)
    → ((cell : ℕ) (earlier : List Effect) (e : Effect) → P earlier → due start t node number cell earlier ≡ Some e → P (e ∷ earlier))
    → (cells : ℕ) (earlier : List Effect) → P earlier → P (at_issue start t node number cells earlier)
issue_keeps P start t node number step zero earlier h = h
issue_keeps P start t node number step (suc cell) earlier h =
    cell_keeps P start t node number cell (step cell) (at_issue start t node number cell earlier) (issue_keeps P start t node number step cell earlier h)

-- an issue keeps the parts of other accesses
pub issue_same : (start : Place → Value) (t : Transfer) (p n node number cell : ℕ) → same_access p n node number ≡ false
    → (cells : ℕ) (earlier : List Effect) → SameParts node number cell (at_issue start t p n cells earlier) earlier
issue_same start t p n node number cell apart cells earlier =
    let P : List Effect → Type 0 = λ later. SameParts node number cell later earlier in
    issue_keeps P start t p n
    (λ c later e h d. same_trans node number cell (e ∷ later) later earlier
    (off_same node number cell e later (of_off p n c node number cell e (due_of start t p n c later e (is_due start t p n c later e d)) (access_apart p n c node number cell apart))) h)
    cells earlier (same_refl node number cell earlier)

-- a due part of another cell keeps those of this one
pub due_same : (start : Place → Value) (t : Transfer) (p n c node number cell : ℕ) (earlier : List Effect) (e : Effect) → due start t p n c earlier ≡ Some e
    → same_cell p n c node number cell ≡ false → SameParts node number cell (e ∷ earlier) earlier
due_same start t p n c node number cell earlier e d apart =
    off_same node number cell e earlier (of_off p n c node number cell e (due_of start t p n c earlier e (is_due start t p n c earlier e d)) apart)

pub cells_are_one : (p n c node number cell : ℕ) → same_cell p n c node number cell ≡ true → (p ≡ node) × (n ≡ number) × (c ≡ cell)
cells_are_one p n c node number cell h =
    let a = and_parts (same_access p n node number) (c == cell) h in
    let b = and_parts (p == node) (n == number) a.0 in
    (eqb-true _ _ b.0, eqb-true _ _ b.1, eqb-true _ _ a.1)

pub accesses_are_one : (p n node number : ℕ) → same_access p n node number ≡ true → (p ≡ node) × (n ≡ number)
accesses_are_one p n node number h =
    let b = and_parts (p == node) (n == number) h in
    (eqb-true _ _ b.0, eqb-true _ _ b.1)

pub same_access_self : (node number : ℕ) → same_access node number node number ≡ true
same_access_self node number = rw (eq-eqb node node refl) (eq-eqb number number refl)

pub same_cell_self : (node number cell : ℕ) → same_cell node number cell node number cell ≡ true
same_cell_self node number cell = rw (eq-eqb node node refl, eq-eqb number number refl) (eq-eqb cell cell refl)

-- a due part is of this cell, so it has its part's value
pub value_of : (node number cell : ℕ) (wrote : Bool) (e : Effect) (earlier : List Effect) → IsOf node number cell e → e.wrote ≡ wrote
    → part_value node number cell wrote (e ∷ earlier) ≡ Some e.value
value_of node number cell wrote e earlier o w =
    ap (λ b. if b then Some e.value else part_value node number cell wrote earlier) (is_it ∙ with_flag wrote (e.wrote) w)
  where
    is_it : is_part node number cell wrote e ≡ same_flag e.wrote wrote
    is_it =
        ap (λ x. (x == node) && (e.number == number) && (e.cell == cell) && same_flag e.wrote wrote) o.its_node
        ∙ ap (λ x. (node == node) && (x == number) && (e.cell == cell) && same_flag e.wrote wrote) o.its_number
        ∙ ap (λ x. (node == node) && (number == number) && (x == cell) && same_flag e.wrote wrote) o.its_cell
        ∙ rw (eq-eqb node node refl, eq-eqb number number refl, eq-eqb cell cell refl) refl

    with_flag : (a b : Bool) → b ≡ a → same_flag b a ≡ true
    with_flag true true h = refl
    with_flag false false h = refl
    with_flag true false h = cc
    with_flag false true h = cc

-- and the cell's other part stays
pub value_kept : (node number cell : ℕ) (wrote : Bool) (e : Effect) (earlier : List Effect) → same_flag e.wrote wrote ≡ false
    → part_value node number cell wrote (e ∷ earlier) ≡ part_value node number cell wrote earlier
value_kept node number cell wrote e earlier h =
    ap (λ b. if b then Some e.value else part_value node number cell wrote earlier)
    (and_right ((e.node == node) && (e.number == number) && (e.cell == cell)) (same_flag e.wrote wrote) h)
