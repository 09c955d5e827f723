-- A write changes one cell of the memory, and no other.
use Rattle.std.proofs.Common.{◌≡◌, ◌≢◌, ◌⊎◌, inl, inr, ℕ, zero, suc, ◌<◌, List, [], ◌∷◌, Option, Some, None, ⊎_elim, refl, sym, ap, ◌∙◌, subst, arith}
use Rattle.std.specs.Prelude.{slice_get, slice_set, length, ◌%◌, ◌/◌, IsSomeAnd}
use Rattle.std.proofs.lemmas.Bool.Decides.{eqb_tells}
use Rattle.std.proofs.lemmas.Option.{slice_get_within}
use Rattle.std.proofs.lemmas.Nat.{mod-mul-add, div-mul-add}
use Rattle.sc_base.specs.declared.value.Value.{Value}
use Rattle.sc_base.specs.declared.value.Place.{Place}
use Rattle.sc_layout.specs.Place.{IsPlace, Fits}
use Rattle.node_memory.specs.Memory.{Memory, row, row_or_none, index_at, cell, AllFit}

get_set_same : {A : Type 0} (xs : List A) (i : ℕ) (v : A) → i < length xs → slice_get (slice_set xs i v) i ≡ Some v
get_set_same [] i v h = absurd (omega arith)
get_set_same (x ∷ xs) zero v h = refl
get_set_same (x ∷ xs) (suc i) v h = get_set_same xs i v (omega arith)

-- a write leaves the other places
pub get_set_other : {A : Type 0} (xs : List A) (i j : ℕ) (v : A) → (i ≡ j → ⊥) → slice_get (slice_set xs i v) j ≡ slice_get xs j
get_set_other [] i j v ne = refl
get_set_other (x ∷ xs) zero zero v ne = absurd (ne refl)
get_set_other (x ∷ xs) zero (suc j) v ne = refl
get_set_other (x ∷ xs) (suc i) zero v ne = refl
get_set_other (x ∷ xs) (suc i) (suc j) v ne = get_set_other xs i j v (λ e. ne (ap suc e))

row_within : (rows : List (List Value)) (o i : ℕ) → i < length (row rows o) → o < length rows
row_within [] o i h = absurd (omega arith)
row_within (r ∷ rs) zero i h = omega arith
row_within (r ∷ rs) (suc o) i h = let w = row_within rs o i h in omega arith

-- the memory has the cell
pub record IsCell (memory : Memory) (place : Place) : Type 0 where
  pub row_in : place.object < length memory.rows
  pub index_in : index_at memory.layout.nodes place < length (row memory.rows place.object)
  pub holds : Value
  pub it_holds : cell memory place ≡ Some holds
  pub fits : Fits memory.layout place holds

some_of : (P : Value → Type 0) (o : Option Value) → IsSomeAnd o P → (v : Value) × (o ≡ Some v) × P v
some_of P None h = absurd h
some_of P (Some v) h = (v, refl, h)

pub cell_of_place : (memory : Memory) (place : Place) → AllFit memory → IsPlace memory.layout place → IsCell memory place
cell_of_place memory place all p =
    let s = some_of (λ v. Fits memory.layout place v) (cell memory place) (all place p) in
    let within : index_at memory.layout.nodes place < length (row memory.rows place.object) = slice_get_within _ _ _ s.1 in
    record { row_in = row_within memory.rows place.object _ within; index_in = within; holds = s.0; it_holds = s.1; fits = s.2 }

-- the memory with this value in the cell
abbrev pub written : Memory → Place → Value → Memory
written memory place value =
    record memory { rows = slice_set memory.rows place.object (slice_set (row memory.rows place.object) (index_at memory.layout.nodes place) value) }

pub there : (memory : Memory) (place : Place) (value : Value) → IsCell memory place → cell (written memory place value) place ≡ Some value
there memory place value c =
    ap (λ r. slice_get (row_or_none r) (index_at memory.layout.nodes place))
    (get_set_same memory.rows place.object (slice_set (row memory.rows place.object) (index_at memory.layout.nodes place) value) c.row_in)
    ∙ get_set_same (row memory.rows place.object) (index_at memory.layout.nodes place) value c.index_in

-- two places at one cell of one object are one place
same_cell : (nodes : ℕ) (p q : Place) → p.node < nodes → q.node < nodes → p.object ≡ q.object → index_at nodes p ≡ index_at nodes q → q ≡ p
same_cell nodes p q a b o e =
    let n : p.node ≡ q.node = sym (mod-mul-add p.offset nodes p.node a) ∙ ap (λ x. x % nodes) e ∙ mod-mul-add q.offset nodes q.node b in
    let f : p.offset ≡ q.offset = sym (div-mul-add p.offset nodes p.node a) ∙ ap (λ x. x / nodes) e ∙ div-mul-add q.offset nodes q.node b in
    sym (ap (λ (x : ℕ). record p { object = x }) o ∙ ap (λ (x : ℕ). record q { node = x; offset = p.offset }) n ∙ ap (λ (x : ℕ). record q { offset = x }) f)

pub elsewhere : (memory : Memory) (place : Place) (value : Value) (other : Place) → IsPlace memory.layout place → IsCell memory place
    → IsPlace memory.layout other → other ≢ place → cell (written memory place value) other ≡ cell memory other
elsewhere memory place value other p c q differ =
    let own : List Value = slice_set (row memory.rows place.object) (index_at memory.layout.nodes place) value in
    ⊎_elim
    (λ t. let o : place.object ≡ other.object = t.1 in
    ap (λ x. slice_get (row (slice_set memory.rows place.object own) x) (index_at memory.layout.nodes other)) (sym o)
    ∙ ap (λ r. slice_get (row_or_none r) (index_at memory.layout.nodes other)) (get_set_same memory.rows place.object own c.row_in)
    ∙ get_set_other (row memory.rows place.object) (index_at memory.layout.nodes place) (index_at memory.layout.nodes other) value
    (λ e. differ (same_cell memory.layout.nodes place other p.node q.node o e))
    ∙ ap (λ x. slice_get (row memory.rows x) (index_at memory.layout.nodes other)) o)
    (λ f. ap (λ r. slice_get (row_or_none r) (index_at memory.layout.nodes other)) (get_set_other memory.rows place.object other.object own f.1))
    (eqb_tells place.object other.object)

-- the places are one, or not
decided : (p q : Place) → (p ≡ q) ⊎ (p ≢ q)
decided p q =
    ⊎_elim (λ o. ⊎_elim (λ n. ⊎_elim
    (λ f. inl (ap (λ (x : ℕ). record p { object = x }) o.1 ∙ ap (λ (x : ℕ). record q { node = x; offset = p.offset }) n.1 ∙ ap (λ (x : ℕ). record q { offset = x }) f.1))
    (λ f. inr (λ e. f.1 (ap (λ (x : Place). x.offset) e)))
    (eqb_tells p.offset q.offset))
    (λ n. inr (λ e. n.1 (ap (λ (x : Place). x.node) e)))
    (eqb_tells p.node q.node))
    (λ o. inr (λ e. o.1 (ap (λ (x : Place). x.object) e)))
    (eqb_tells p.object q.object)

pub all_fit_written : (memory : Memory) (place : Place) (value : Value) → AllFit memory → IsPlace memory.layout place → Fits memory.layout place value
    → AllFit (written memory place value)
all_fit_written memory place value all p fits other q =
    let c = cell_of_place memory place all p in
    let P : Place → Option Value → Type 0 = λ x o. IsSomeAnd o (λ v. Fits memory.layout x v) in
    ⊎_elim
    (λ e. subst (P other) (sym (ap (λ x. cell (written memory place value) x) e ∙ there memory place value c))
    (subst (λ x. Fits memory.layout x value) (sym e) fits))
    (λ differ. subst (P other) (sym (elsewhere memory place value other p c q differ)) (all other q))
    (decided other place)
