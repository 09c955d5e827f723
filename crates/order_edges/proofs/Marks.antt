-- Effects under keys: which conflict, and which are the two parts of one copied cell.
use Rattle.std.proofs.Common.{◌≡◌, ◌⊎◌, ℕ, zero, suc, ◌+◌, ◌-◌, ◌<◌, ◌≤◌, List, [], ◌∷◌, length, Option, Some, None, Bool, true, false, not, ◌==◌, ◌&&◌, ◌||◌, refl, sym, ap, ap₂, subst, ◌∙◌, arith, inl, inr, ⊎_elim, eqb-true, eq-eqb}
use Rattle.std.specs.Prelude.{if◌then◌else◌}
use Rattle.std.specs.Ordering.{nat_cmp, ordering_then, is_eq}
use Rattle.std.proofs.lemmas.Bool.{and_parts, and_from, or_left, or_right, or_cases, not-true, not_from_false, cases_lt}
use Rattle.sc_base.specs.declared.value.Place.{Place}
use Rattle.sc_base.specs.declared.value.Value.{Value}
use Rattle.effect_order.specs.Effect.{Effect as CellEffect, same_place}
use Rattle.effect_order.specs.Items.{items_conflict, some_conflict}
use Rattle.sc_meaning.specs.declared.event.SourceEvent.{SourceEvent}
use Rattle.sc_meaning.specs.declared.event.SourceEvent.TheVariants.{Do, Issue, Effect, Sync, Arrive, Release, End as Over}
use Rattle.source_order.specs.Moments.{does}
use Rattle.order_edges.specs.declared.keyed.Pairing.{Pairing}
use Rattle.order_edges.specs.declared.keyed.Pairing.TheVariants.{Copied, LastWrite, NextWrite}
use Rattle.order_edges.specs.declared.keyed.Mark.{Mark}
use Rattle.order_edges.specs.Keyed.{Key, key_cmp, place_key, a_mark, marked, is_one_at}

-- ---- keys

same_number : (a b : ℕ) → is_eq (nat_cmp a b) ≡ true → a ≡ b
same_number a b h = grind arith

number_self : (a : ℕ) → is_eq (nat_cmp a a) ≡ true
number_self a = grind arith

both_equal : (x y : _) → is_eq (ordering_then x y) ≡ true → (is_eq x ≡ true) × (is_eq y ≡ true)
both_equal x y h = grind arith

equal_both : (x y : _) → is_eq x ≡ true → is_eq y ≡ true → is_eq (ordering_then x y) ≡ true
equal_both x y h g = grind arith

pub same_key : (x y : Key) → is_eq (key_cmp x y) ≡ true → x ≡ y
same_key x y h =
    let a = both_equal (ordering_then (nat_cmp x.0 y.0) (nat_cmp x.1 y.1)) (nat_cmp x.2 y.2) h in
    let b = both_equal (nat_cmp x.0 y.0) (nat_cmp x.1 y.1) a.0 in
    let p = same_number x.0 y.0 b.0 in let q = same_number x.1 y.1 b.1 in let r = same_number x.2 y.2 a.1 in
    rw (p, q, r) refl

pub key_self : (x : Key) → is_eq (key_cmp x x) ≡ true
key_self x = equal_both (ordering_then (nat_cmp x.0 x.0) (nat_cmp x.1 x.1)) (nat_cmp x.2 x.2) (equal_both (nat_cmp x.0 x.0) (nat_cmp x.1 x.1) (number_self x.0) (number_self x.1)) (number_self x.2)

pub place_same : (a b : Place) → place_key a ≡ place_key b → same_place a b ≡ true
place_same a b h =
    let p : a.object ≡ b.object = ap (λ (k : Key). k.0) h in
    let q : a.node ≡ b.node = ap (λ (k : Key). k.1) h in
    let r : a.offset ≡ b.offset = ap (λ (k : Key). k.2) h in
    and_from _ _ (and_from _ _ (eq-eqb _ _ p) (eq-eqb _ _ q)) (eq-eqb _ _ r)

pub same_places : (a b : Place) → same_place a b ≡ true → place_key a ≡ place_key b
same_places a b h =
    let p = and_parts ((a.object == b.object) && (a.node == b.node)) (a.offset == b.offset) h in
    let q = and_parts (a.object == b.object) (a.node == b.node) p.0 in
    rw (eqb-true _ _ q.0, eqb-true _ _ q.1, eqb-true _ _ p.1) refl

-- ---- effects

-- the item's effect
pub record OnCell (x : SourceEvent) : Type 0 where
  pub effect : CellEffect
  pub does_is : does x ≡ effect ∷ []
  pub last : marked LastWrite x ≡ Some (a_mark (place_key effect.place) effect.wrote true)
  pub next : marked NextWrite x ≡ Some (a_mark (place_key effect.place) effect.wrote (not effect.wrote))

abbrev an_effect : ℕ → ℕ → ℕ → Bool → Place → Value → CellEffect
an_effect p k c wrote place value = record { node = p; number = k; cell = c; wrote = wrote; place = place; value = value }

do_cell : (p k : ℕ) (wrote : Bool) (place : Place) (value : Value) → OnCell (Do p k wrote place value)
do_cell p k wrote place value = record { effect = an_effect p k 0 wrote place value; does_is = refl; last = refl; next = refl }

part_cell : (p k c : ℕ) (wrote : Bool) (place : Place) (value : Value) → OnCell (Effect p k c wrote place value)
part_cell p k c wrote place value = record { effect = an_effect p k c wrote place value; does_is = refl; last = refl; next = refl }

pub record Conflicting (x y : SourceEvent) : Type 0 where
  pub first : OnCell x
  pub second : OnCell y
  pub same : place_key first.effect.place ≡ place_key second.effect.place
  pub writes : (first.effect.wrote || second.effect.wrote) ≡ true

conflicting_by : (x y : SourceEvent) (a : OnCell x) (b : OnCell y) → items_conflict does x y ≡ true → Conflicting x y
conflicting_by x y a b h =
    let e : some_conflict (a.effect ∷ []) (b.effect ∷ []) ≡ true = subst (λ es. some_conflict es (b.effect ∷ []) ≡ true) a.does_is (subst (λ es. some_conflict (does x) es ≡ true) b.does_is h) in
    let u : (same_place a.effect.place b.effect.place && (a.effect.wrote || b.effect.wrote)) ≡ true =
    ⊎_elim (λ t. ⊎_elim (λ s. s) (λ s. absurd cc) (or_cases _ false t)) (λ t. absurd cc) (or_cases _ false e) in
    let p = and_parts (same_place a.effect.place b.effect.place) (a.effect.wrote || b.effect.wrote) u in
    record { first = a; second = b; same = same_places a.effect.place b.effect.place p.0; writes = p.1 }

pub conflict_from : (x y : SourceEvent) (a : OnCell x) (b : OnCell y) → place_key a.effect.place ≡ place_key b.effect.place
    → (a.effect.wrote || b.effect.wrote) ≡ true → items_conflict does x y ≡ true
conflict_from x y a b same writes =
    subst (λ es. some_conflict (does x) es ≡ true) (sym b.does_is) (subst (λ es. some_conflict es (b.effect ∷ []) ≡ true) (sym a.does_is)
    (or_left _ _ (or_left _ _ (and_from _ _ (place_same a.effect.place b.effect.place same) writes))))

-- an item does something to a cell, or nothing
cell_or : (x : SourceEvent) → OnCell x ⊎ (does x ≡ [])
cell_or (Do p k w pl v) = inl (do_cell p k w pl v)
cell_or (Effect p k b w pl v) = inl (part_cell p k b w pl v)
cell_or (Issue _ _) = inr refl
cell_or (Sync _ _) = inr refl
cell_or (Arrive _ _ _) = inr refl
cell_or (Release _) = inr refl
cell_or (Over _ _) = inr refl

pub conflicting : (x y : SourceEvent) → items_conflict does x y ≡ true → Conflicting x y
conflicting x y h = by (cell_or x) (cell_or y)
  where
    none : (es : List CellEffect) → some_conflict [] es ≡ false
    none [] = refl
    none (e ∷ es) = none es

    by : OnCell x ⊎ (does x ≡ []) → OnCell y ⊎ (does y ≡ []) → Conflicting x y
    by (inl a) (inl b) = conflicting_by x y a b h
    by (inl a) (inr b) = let e : some_conflict (does x) [] ≡ true = subst (λ es. some_conflict (does x) es ≡ true) b h in absurd cc
    by (inr a) b = let e : some_conflict [] (does y) ≡ true = subst (λ es. some_conflict es (does y) ≡ true) a h in let n = none (does y) in absurd cc

-- ---- from marks

some_same : {A : Type 0} (a b : A) → Some a ≡ Some b → a ≡ b
some_same a b h = cc

pub record CellMark (x : SourceEvent) (m : Mark) : Type 0 where
  pub cell : OnCell x
  pub key_is : m.key ≡ place_key cell.effect.place
  pub one_is : m.is_one ≡ cell.effect.wrote

cell_mark : (x : SourceEvent) (c : OnCell x) (b : Bool) (m : Mark) → Some (a_mark (place_key c.effect.place) c.effect.wrote b) ≡ Some m → CellMark x m
cell_mark x c b m h =
    let e = some_same _ m h in
    record { cell = c; key_is = ap (λ (u : Mark). u.key) (sym e); one_is = ap (λ (u : Mark). u.is_one) (sym e) }

pub last_mark : (x : SourceEvent) (m : Mark) → marked LastWrite x ≡ Some m → CellMark x m
unfolding do_cell part_cell
last_mark (Do p k w pl v) m h = cell_mark _ (do_cell p k w pl v) true m h
last_mark (Effect p k c w pl v) m h = cell_mark _ (part_cell p k c w pl v) true m h
last_mark (Issue _ _) m h = absurd cc
last_mark (Sync _ _) m h = absurd cc
last_mark (Arrive _ _ _) m h = absurd cc
last_mark (Release _) m h = absurd cc
last_mark (Over _ _) m h = absurd cc

pub next_mark : (x : SourceEvent) (m : Mark) → marked NextWrite x ≡ Some m → CellMark x m
unfolding do_cell part_cell
next_mark (Do p k w pl v) m h = cell_mark _ (do_cell p k w pl v) (not w) m h
next_mark (Effect p k c w pl v) m h = cell_mark _ (part_cell p k c w pl v) (not w) m h
next_mark (Issue _ _) m h = absurd cc
next_mark (Sync _ _) m h = absurd cc
next_mark (Arrive _ _ _) m h = absurd cc
next_mark (Release _) m h = absurd cc
next_mark (Over _ _) m h = absurd cc

pub record PartMark (x : SourceEvent) (m : Mark) : Type 0 where
  pub node : ℕ
  pub request : ℕ
  pub cell : ℕ
  pub wrote : Bool
  pub place : Place
  pub value : Value
  pub is : x ≡ Effect node request cell wrote place value
  pub key_is : m.key ≡ (node, request, cell)
  pub one_is : m.is_one ≡ not wrote
  pub has_is : m.has_one ≡ wrote

pub part_mark : (x : SourceEvent) (m : Mark) → marked Copied x ≡ Some m → PartMark x m
part_mark (Effect p k c w pl v) m h =
    let e = some_same (a_mark (p, k, c) (not w) w) m h in
    record {
      node = p;
      request = k;
      cell = c;
      wrote = w;
      place = pl;
      value = v;
      is = refl;
      key_is = ap (λ (u : Mark). u.key) (sym e);
      one_is = ap (λ (u : Mark). u.is_one) (sym e);
      has_is = ap (λ (u : Mark). u.has_one) (sym e);
    }
part_mark (Do _ _ _ _ _) m h = absurd cc
part_mark (Issue _ _) m h = absurd cc
part_mark (Sync _ _) m h = absurd cc
part_mark (Arrive _ _ _) m h = absurd cc
part_mark (Release _) m h = absurd cc
part_mark (Over _ _) m h = absurd cc
