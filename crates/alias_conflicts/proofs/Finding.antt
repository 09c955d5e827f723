-- Where an object has a cell on a node with one of some indices, it has one at the first of them.
use Rattle.std.proofs.Common.{◌≡◌, ◌↔◌, ℕ, ◌+◌, ◌-◌, ◌*◌, ◌/◌, ◌%◌, ◌<◌, ◌≤◌, Bool, true, false, Option, Some, None, inl, inr, ⊎_elim, refl, sym, ap, ◌∙◌, subst, arith, slice_get}
use Rattle.std.specs.Prelude.{IsSomeAnd, nat_eq, is_some}
use Rattle.std.proofs.lemmas.Bool.{cases_lt}
use Rattle.std.proofs.lemmas.Nat.{mod_below, same_from_place, div-mul-add, mul-le}
use Rattle.std.proofs.Math.Nat.{add-mod, add-mod_right, add-mul-mod_self_left, div-add-mod, mod-eq_of_lt, mod-le}
use Rattle.sc_base.specs.declared.value.Place.{Place}
use Rattle.sc_layout.specs.Layout.{Arrangement, LaidObject, IsLayout, product, blocks_of, block_of, cells_of, share_of}
use Rattle.sc_layout.specs.Place.{place_of, spread_place, extent_of}
use Rattle.sc_layout.proofs.OneToOne.{block-positive}
use Rattle.sc_layout.proofs.Kept.{some_cells, all-blocks, positive_second, cells-spread}
use Rattle.sc_layout.proofs.Numbers.{big_second, share-all}
use Rattle.alias_conflicts.specs.declared.region.Indices.{Indices}
use Rattle.alias_conflicts.specs.declared.region.Indices.TheVariants.{Any, One, Remainder}
use Rattle.alias_conflicts.specs.Regions.{HasIndex, IsBelow, HasCell}
use Rattle.alias_conflicts.specs.Firsts.{first_index, next_index}
use Rattle.alias_conflicts.proofs.Cells.{object_from, spread_cases, spread_at, spread_from, ordinary_at, below_product, cell_from}

-- ---- remainders

-- how far the first number from `first` on that leaves r is from there
steps_to : (n first s r : ℕ) → 0 < n → r < n → (first + s) % n ≡ r → (r + n - first % n) % n ≡ s % n
steps_to n first s r some low e =
    let f = mod_below first n some in
    let g = mod_below s n some in
    let sum : (first % n + s % n) % n ≡ r = sym (add-mod first s n) ∙ e in
    elim (cases_lt (first % n + s % n) n) [
      | inl h ↦
          (let same : first % n + s % n ≡ r = sym (mod-eq_of_lt h) ∙ sum in
          let turned : r + n - first % n ≡ s % n + n = omega arith in
          ap (λ x. x % n) turned ∙ add-mod_right (s % n) n ∙ mod-eq_of_lt g)
      | inr h ↦
          (let less : first % n + s % n - n < n = omega arith in
          let back : first % n + s % n ≡ first % n + s % n - n + n = omega arith in
          let same : first % n + s % n - n ≡ r = sym (mod-eq_of_lt less) ∙ sym (add-mod_right (first % n + s % n - n) n) ∙ ap (λ x. x % n) (sym back) ∙ sum in
          let turned : r + n - first % n ≡ s % n = omega arith in
          ap (λ x. x % n) turned ∙ mod-eq_of_lt g)
    ]

-- it leaves r
leaves : (n first r : ℕ) → 0 < n → r < n → (first + (r + n - first % n) % n) % n ≡ r
leaves n first r some low =
    let f = mod_below first n some in
    let t = mod_below (r + n - first % n) n some in
    let split : (first + (r + n - first % n) % n) % n ≡ (first % n + (r + n - first % n) % n) % n =
    add-mod first ((r + n - first % n) % n) n ∙ ap (λ x. (first % n + x) % n) (mod-eq_of_lt t) in
    elim (cases_lt (r + n - first % n) n) [
      | inl h ↦
          (let same : (r + n - first % n) % n ≡ r + n - first % n = mod-eq_of_lt h in
          let whole : first % n + (r + n - first % n) % n ≡ r + n = omega arith in
          split ∙ ap (λ x. x % n) whole ∙ add-mod_right r n ∙ mod-eq_of_lt low)
      | inr h ↦
          (let less : r - first % n < n = omega arith in
          let back : r + n - first % n ≡ r - first % n + n = omega arith in
          let same : (r + n - first % n) % n ≡ r - first % n = ap (λ x. x % n) back ∙ add-mod_right (r - first % n) n ∙ mod-eq_of_lt less in
          let whole : first % n + (r + n - first % n) % n ≡ r = omega arith in
          split ∙ ap (λ x. x % n) whole ∙ mod-eq_of_lt low)
    ]

-- ---- the first of the indices

pub next_has : (n first : ℕ) (indices : Indices) → 0 < n → IsBelow n indices → HasIndex n indices (next_index n first indices)
next_has n first Any some low = tt
next_has n first (One i) some low = refl
next_has n first (Remainder r) some low = leaves n first r some low

-- from 0 on it is the least
pub next_least : (n j : ℕ) (indices : Indices) → 0 < n → IsBelow n indices → HasIndex n indices j → next_index n 0 indices ≤ j
next_least n j Any some low h = omega arith
next_least n j (One i) some low h = omega arith
next_least n j (Remainder r) some low h =
    let start : 0 + j ≡ j = omega arith in
    let e = steps_to n 0 j r some low (ap (λ x. x % n) start ∙ h) in
    let le = mod-le j n in
    omega arith

-- the place of the j-th cell among blocks of b cells is in one of the node's blocks, if j / b leaves the node
home : (n b j node : ℕ) → 0 < b → (j / b) % n ≡ node → j ≡ node * b + j % b + n * (j / b / n * b)
home n b j node cell e =
    let whole = div-add-mod j b in
    let round = div-add-mod (j / b) n in
    let times : j / b * b ≡ (n * (j / b / n) + node) * b = ap (λ q. q * b) (sym (subst (λ m. n * (j / b / n) + m ≡ j / b) e round)) in
    omega arith

record IsHome (n b node j k : ℕ) : Type 0 where
  pub low : k ≤ j
  pub node_is : (k / b) % n ≡ node

at_home : (n b node j s : ℕ) → 0 < n → node < n → 0 < b → (j / b) % n ≡ node → s ≤ j % b → IsHome n b node j (node * b + s)
at_home n b node j s some low cell e le =
    let whole = home n b j node cell e in
    let rest = mod_below j b cell in
    let small : s < b = omega arith in
    record { low = omega arith; node_is = ap (λ q. q % n) (div-mul-add node b s small) ∙ mod-eq_of_lt low }

next_home : (n b node j : ℕ) (indices : Indices) → 0 < n → node < n → 0 < b → (j / b) % n ≡ node → IsBelow n indices → HasIndex n indices j → IsHome n b node j (next_index n (node * b) indices)
next_home n b node j Any some low cell e below h =
    let zero_more : node * b + 0 ≡ node * b = omega arith in
    subst (IsHome n b node j) zero_more (at_home n b node j 0 some low cell e (omega arith))
next_home n b node j (One i) some low cell e below h = subst (IsHome n b node j) h (record { low = omega arith; node_is = e })
next_home n b node j (Remainder r) some low cell e below h =
    let whole = home n b j node cell e in
    let near : (node * b + j % b) % n ≡ r = sym (add-mul-mod_self_left (node * b + j % b) n (j / b / n * b)) ∙ ap (λ x. x % n) (sym whole) ∙ h in
    let steps = steps_to n (node * b) (j % b) r some below near in
    let le = mod-le (j % b) n in
    at_home n b node j ((r + n - node * b % n) % n) some low cell e (omega arith)

-- ---- cells on one node

first_spread : (o : LaidObject) (node : ℕ) → o.shape.spread ≡ true → first_index o node ≡ node * block_of o
first_spread o node h = rw h refl

first_ordinary : (o : LaidObject) (node : ℕ) → o.shape.spread ≡ false → first_index o node ≡ 0
first_ordinary o node h = rw h refl

-- the first of the indices is that of a cell on the node
pub record IsFirstOn (layout : Arrangement) (object node k : ℕ) : Type 0 where
  pub cell : Place
  pub at : place_of layout node object k ≡ Some cell
  pub node_is : cell.node ≡ node

pub first_found : (layout : Arrangement) (object node : ℕ) (o : LaidObject) (indices : Indices) → IsLayout layout → node < layout.nodes → slice_get layout.objects object ≡ Some o → IsBelow layout.nodes indices → HasCell layout object (Some node) indices → IsFirstOn layout object node (next_index layout.nodes (first_index o node) indices)
first_found layout object node o indices h low found below (cell, j, is, at, on, has) =
    ⊎_elim
    (λ s. (let w = spread_from layout cell.node object j cell o found s at in
    let b = block-positive layout object o h found in
    let here : (j / block_of o) % layout.nodes ≡ node = ap (λ (p : Place). p.node) w.is ∙ on in
    let k = next_home layout.nodes (block_of o) node j indices h.some_node low b here below has in
    let first = next_index layout.nodes (node * block_of o) indices in
    let in_bounds : first < product o.bounds = (let le = k.low in let lt = w.below in omega arith) in
    let made : IsFirstOn layout object node first = record { cell = spread_place layout.nodes (block_of o) object first; at = spread_at layout node object first o found s in_bounds; node_is = k.node_is } in
    subst (λ f. IsFirstOn layout object node (next_index layout.nodes f indices)) (sym (first_spread o node s)) made))
    (λ s. (let lt = below_product layout cell.node object j cell o found at in
    let le = next_least layout.nodes j indices h.some_node below has in
    let first = next_index layout.nodes 0 indices in
    let in_bounds : first < product o.bounds = omega arith in
    let made : IsFirstOn layout object node first = record { cell = record { object = object; node = node; offset = first }; at = ordinary_at layout node object first o found s in_bounds; node_is = refl } in
    subst (λ f. IsFirstOn layout object node (next_index layout.nodes f indices)) (sym (first_ordinary o node s)) made))
    (spread_cases o)

pub found_first : (layout : Arrangement) (object node k : ℕ) (indices : Indices) (cell : Place) → IsLayout layout → node < layout.nodes → HasIndex layout.nodes indices k → place_of layout node object k ≡ Some cell → cell.node ≡ node → HasCell layout object (Some node) indices
found_first layout object node k indices cell h low has at on = (let w = cell_from layout node object k cell h low at in (cell, k, w.place, w.at, on, has))

-- ---- cells on any node

pub any_found : (layout : Arrangement) (object : ℕ) (indices : Indices) → IsLayout layout → IsBelow layout.nodes indices → HasCell layout object None indices → (cell : Place) × (place_of layout 0 object (next_index layout.nodes 0 indices) ≡ Some cell)
any_found layout object indices h below (cell, j, is, at, on, has) =
    let f = object_from layout cell.node object j cell at in
    let lt = below_product layout cell.node object j cell f.0 f.1 at in
    let le = next_least layout.nodes j indices h.some_node below has in
    let in_bounds : next_index layout.nodes 0 indices < product f.0.bounds = omega arith in
    ⊎_elim
    (λ s. (spread_place layout.nodes (block_of f.0) object (next_index layout.nodes 0 indices), spread_at layout 0 object (next_index layout.nodes 0 indices) f.0 f.1 s in_bounds))
    (λ s. (record { object = object; node = 0; offset = next_index layout.nodes 0 indices }, ordinary_at layout 0 object (next_index layout.nodes 0 indices) f.0 f.1 s in_bounds))
    (spread_cases f.0)

pub found_any : (layout : Arrangement) (object : ℕ) (indices : Indices) (cell : Place) → IsLayout layout → IsBelow layout.nodes indices → place_of layout 0 object (next_index layout.nodes 0 indices) ≡ Some cell → HasCell layout object None indices
found_any layout object indices cell h below at =
    let w = cell_from layout 0 object (next_index layout.nodes 0 indices) cell h h.some_node at in
    (cell, next_index layout.nodes 0 indices, w.place, w.at, tt, next_has layout.nodes 0 indices h.some_node below)

-- ---- the first block

pub in_first_block : (layout : Arrangement) (object i : ℕ) (o : LaidObject) (cell : Place) → IsLayout layout → slice_get layout.objects object ≡ Some o → o.shape.spread ≡ true → 1 < layout.nodes → place_of layout 0 object i ≡ Some cell → cell.offset ≡ i → i < block_of o
in_first_block layout object i o cell h found s more at offset =
    let w = spread_from layout 0 object i cell o found s at in
    let same : i / block_of o / layout.nodes * block_of o + i % block_of o ≡ i = ap (λ (p : Place). p.offset) w.is ∙ offset in
    low (block_of o) layout.nodes i (block-positive layout object o h found) more same
  where
    clash : (b n q d r i : ℕ) → 0 < b → 1 < n → n * q + r ≡ d → q * b ≡ d * b → i < d * b + b → b ≤ i → ⊥
    clash b n q d r i cell more e same up k =
        let one = same_from_place q 0 d 0 b cell cell (omega arith) in
        let is : q ≡ d = one.0 in
        let twice : 2 * d ≤ n * d = mul-le 2 d n d (omega arith) (omega arith) in
        let again : n * d + r ≡ d = subst (λ x. n * x + r ≡ d) is e in
        let none : d ≡ 0 = omega arith in
        let start : d * b ≡ 0 = subst (λ x. x * b ≡ 0) (sym none) (omega arith) in
        omega arith

    low : (b n i : ℕ) → 0 < b → 1 < n → i / b / n * b + i % b ≡ i → i < b
    low b n i cell more e =
        let whole = div-add-mod i b in
        let rest = mod_below i b cell in
        let round = div-add-mod (i / b) n in
        elim (cases_lt i b) [
          | inl k ↦ k
          | inr k ↦
              (let q = i / b / n in
              let same : q * b ≡ i / b * b = omega arith in
              absurd (clash b n q (i / b) ((i / b) % n) i cell more round same (omega arith) k))
        ]

pub first_block_in : (layout : Arrangement) (object i : ℕ) (o : LaidObject) → IsLayout layout → slice_get layout.objects object ≡ Some o → o.shape.spread ≡ true → i < block_of o → IsSomeAnd (place_of layout 0 object i) (λ c. (c.node ≡ 0) × (c.offset ≡ i))
first_block_in layout object i o h found s low =
    let cells = some_cells layout h object o found in
    let blocks : 0 < blocks_of o = positive_second (block_of o) (blocks_of o) (omega (arith, all-blocks o)) in
    let most = big_second (block_of o) (blocks_of o) (block_of o) (omega arith) blocks in
    let below : i < product o.bounds = omega (arith, all-blocks o) in
    let start : i / block_of o ≡ 0 = no_block i (block_of o) low in
    let rest : i % block_of o ≡ i = mod-eq_of_lt low in
    let node : i / block_of o % layout.nodes ≡ 0 = ap (λ q. q % layout.nodes) start ∙ mod-eq_of_lt h.some_node in
    let offset : i / block_of o / layout.nodes * block_of o + i % block_of o ≡ i = whole (block_of o) layout.nodes (i / block_of o) (i % block_of o) i h.some_node start rest in
    rw (spread_at layout 0 object i o found s below) (node, offset)
  where
    no_block : (i b : ℕ) → i < b → i / b ≡ 0
    no_block i b low = let zero_more : 0 * b + i ≡ i = omega arith in ap (λ x. x / b) (sym zero_more) ∙ div-mul-add 0 b i low

    whole : (b n q r i : ℕ) → 0 < n → q ≡ 0 → r ≡ i → q / n * b + r ≡ i
    whole b n q r i some none same =
        let zero : q / n ≡ 0 = ap (λ x. x / n) none ∙ no_block 0 n some in
        let start : q / n * b ≡ 0 = subst (λ x. x * b ≡ 0) (sym zero) (omega arith) in
        omega arith

-- the first block has no more cells than node 0
pub block_le_extent : (layout : Arrangement) (object : ℕ) (o : LaidObject) → IsLayout layout → slice_get layout.objects object ≡ Some o → o.shape.spread ≡ true → block_of o ≤ extent_of layout 0 object
block_le_extent layout object o h found s =
    let cells = some_cells layout h object o found in
    let blocks : 0 < blocks_of o = positive_second (block_of o) (blocks_of o) (omega (arith, all-blocks o)) in
    let all = share-all layout.nodes (blocks_of o) h.some_node in
    let share : 0 < share_of layout.nodes (blocks_of o) 0 = positive_second layout.nodes (share_of layout.nodes (blocks_of o) 0) (omega arith) in
    let most = big_second (block_of o) (share_of layout.nodes (blocks_of o) 0) (block_of o) (omega arith) share in
    let extent : extent_of layout 0 object ≡ share_of layout.nodes (blocks_of o) 0 * block_of o = extent_at ∙ cells-spread layout.nodes o 0 s in
    omega arith
  where
    extent_at : extent_of layout 0 object ≡ cells_of layout.nodes o 0
    extent_at = rw found refl

some_and : {A : Type 0} (x : Option A) (P : A → Type 0) → IsSomeAnd x P → (a : A) × (x ≡ Some a) × P a
some_and None P h = absurd h
some_and (Some a) P h = (a, refl, h)

pub passes_below : (layout : Arrangement) (object i : ℕ) (o : LaidObject) → IsLayout layout → slice_get layout.objects object ≡ Some o → o.shape.spread ≡ true → 1 < layout.nodes → IsSomeAnd (place_of layout 0 object i) (λ c. (c.node ≡ 0) × (c.offset ≡ i)) → i < block_of o
passes_below layout object i o h found s more passes =
    let w = some_and (place_of layout 0 object i) (λ c. (c.node ≡ 0) × (c.offset ≡ i)) passes in
    let p = w.2 in
    in_first_block layout object i o w.0 h found s more w.1 p.1

-- ---- what the code's answers say

equal_to : (m n : ℕ) → m ≡ n → nat_eq m n ≡ true
equal_to m n h = grind arith

equal_from : (m n : ℕ) → nat_eq m n ≡ true → m ≡ n
equal_from m n h = grind arith

pub cell_is_on : (layout : Arrangement) (object node first k : ℕ) (o : LaidObject) (indices : Indices) (cell : Place) → IsLayout layout → node < layout.nodes → slice_get layout.objects object ≡ Some o → IsBelow layout.nodes indices → first ≡ first_index o node → k ≡ next_index layout.nodes first indices → Some cell ≡ place_of layout node object k → (nat_eq cell.node node ≡ true) ↔ HasCell layout object (Some node) indices
cell_is_on layout object node first k o indices cell h low found below is_first is_k at =
    let has : HasIndex layout.nodes indices k = subst (HasIndex layout.nodes indices) (sym is_k) (next_has layout.nodes first indices h.some_node below) in (
      λ e. found_first layout object node k indices cell h low has (sym at) (equal_from cell.node node e),
      λ w. (let f = first_found layout object node o indices h low found below w in
          let same_k : k ≡ next_index layout.nodes (first_index o node) indices = is_k ∙ ap (λ x. next_index layout.nodes x indices) is_first in
          let there : place_of layout node object k ≡ Some f.cell = subst (λ x. place_of layout node object x ≡ Some f.cell) (sym same_k) f.at in
          let same : cell ≡ f.cell = cc in
          equal_to cell.node node (ap (λ (p : Place). p.node) same ∙ f.node_is)),
    )

pub cell_is_not : (layout : Arrangement) (object node first k : ℕ) (o : LaidObject) (indices : Indices) → IsLayout layout → node < layout.nodes → slice_get layout.objects object ≡ Some o → IsBelow layout.nodes indices → first ≡ first_index o node → k ≡ next_index layout.nodes first indices → None ≡ place_of layout node object k → HasCell layout object (Some node) indices → ⊥
cell_is_not layout object node first k o indices h low found below is_first is_k at w =
    let f = first_found layout object node o indices h low found below w in
    let same_k : k ≡ next_index layout.nodes (first_index o node) indices = is_k ∙ ap (λ x. next_index layout.nodes x indices) is_first in
    let there : place_of layout node object k ≡ Some f.cell = subst (λ x. place_of layout node object x ≡ Some f.cell) (sym same_k) f.at in
    cc

is_there : {A : Type 0} (x : Option A) → is_some x ≡ true → (a : A) × (x ≡ Some a)
is_there None h = cc
is_there (Some a) h = (a, refl)

there_is : {A : Type 0} (x : Option A) (a : A) → x ≡ Some a → is_some x ≡ true
there_is x a h = rw h refl

pub cell_is_any : (layout : Arrangement) (object k : ℕ) (indices : Indices) (answer : Option Place) (b : Bool) → IsLayout layout → IsBelow layout.nodes indices → k ≡ next_index layout.nodes 0 indices → answer ≡ place_of layout 0 object k → b ≡ is_some answer → (b ≡ true) ↔ HasCell layout object None indices
cell_is_any layout object k indices answer b h below is_k at is =
    let place : place_of layout 0 object (next_index layout.nodes 0 indices) ≡ answer = subst (λ x. place_of layout 0 object x ≡ answer) is_k (sym at) in (
      λ e. (let w = is_there answer (sym is ∙ e) in found_any layout object indices w.0 h below (place ∙ w.1)),
      λ w. (let f = any_found layout object indices h below w in is ∙ there_is answer f.0 (sym place ∙ f.1)),
    )
