-- The cells hold what was written last.
use Rattle.std.proofs.Common.{◌≡◌, ⊎_elim, ℕ, zero, suc, ◌<◌, List, [], ◌∷◌, ◌++◌, length, map, reverse, Option, Some, None, Bool, true, false, ◌==◌, ◌&&◌, refl, sym, ap, ◌∙◌, subst, if◌then◌else◌, arith, slice_get, slice_set, get_or, replicate}
use Rattle.std.specs.Prelude.{IsSome, is_some}
use Rattle.std.specs.Option.{option_and_then, option_map, option_map_or, option_or, unwrap_or}
use Rattle.std.specs.List.{find}
use Rattle.std.proofs.lemmas.Bool.Decides.{eqb_tells}
use Rattle.std.proofs.lemmas.List.{reverse-append, length-map}
use Rattle.std.proofs.lemmas.Option.{slice_get_within, get_or_from_slice_get, slice_get-map}
use Rattle.sc_base.specs.declared.value.Place.{Place}
use Rattle.sc_base.specs.declared.value.Value.{Value}
use Rattle.sc_layout.specs.Layout.{Arrangement, LaidObject, cells_of}
use Rattle.sc_layout.specs.Place.{IsPlace}
use Rattle.sc_layout.specs.Start.{zero_of, zero_in, start}
use Rattle.effect_order.specs.Effect.{same_place}
use Rattle.effect_order.proofs.Equal.{place_is}
use Rattle.replay_laws.proofs.Lists.{get_same, get_other, get_front, get_end}
use Rattle.replay_laws.proofs.Over.{mapped}
use Rattle.replay_tables.specs.declared.cells.Stray.{Stray}
use Rattle.replay_tables.specs.Cells.{CellBook, holds, cell_in, object_at, with_cell, with_known, with_object, stray_value, known_at_start, node_start, object_start, numbers_below}

-- ---- one cell of a list of lists of lists

some_then : {A B : Type 0} (f : A → Option B) (o : Option A) → IsSome (option_and_then f o) → (x : A) × (o ≡ Some x) × IsSome (f x)
some_then f None h = absurd cc
some_then f (Some x) h = (x, refl, h)

some_at : {A : Type 0} (xs : List A) (i : ℕ) → IsSome (slice_get xs i) → i < length xs
some_at [] i h = absurd cc
some_at (x ∷ xs) zero h = omega arith
some_at (x ∷ xs) (suc i) h = let l = some_at xs i h in omega arith

object_written : (objects : List (List Value)) (o i : ℕ) (v : Value) (p q : ℕ) → IsSome (object_at objects o i)
    → object_at (with_object objects o i v) p q ≡ (if (o == p) && (i == q) then Some v else object_at objects p q)
object_written objects o i v p q h =
    let s = some_then (λ values. slice_get values i) (slice_get objects o) h in
    let lt : o < length objects = slice_get_within objects o s.0 s.1 in
    let is : get_or objects o [] ≡ s.0 = get_or_from_slice_get objects o s.0 [] s.1 in
    let below : i < length (get_or objects o []) = subst (λ xs. i < length xs) (sym is) (some_at s.0 i s.2) in
    ⊎_elim
    (λ t. let e : o ≡ p = t.1 in
    ap (λ x. object_at (with_object objects o i v) x q) (sym e)
    ∙ ap (option_and_then (λ values. slice_get values q)) (get_same objects o (slice_set (get_or objects o []) i v) lt)
    ∙ ⊎_elim
    (λ u. let g : i ≡ q = u.1 in
    ap (slice_get (slice_set (get_or objects o []) i v)) (sym g) ∙ get_same (get_or objects o []) i v below
    ∙ sym (ap (λ b. if b && (i == q) then Some v else object_at objects p q) t.0 ∙ ap (λ b. if b then Some v else object_at objects p q) u.0))
    (λ u. get_other (get_or objects o []) i q v u.1 ∙ ap (λ xs. slice_get xs q) is
    ∙ sym (ap (λ b. if b && (i == q) then Some v else object_at objects p q) t.0 ∙ ap (λ b. if b then Some v else object_at objects p q) u.0
    ∙ ap (λ x. object_at objects x q) (sym e) ∙ ap (option_and_then (λ values. slice_get values q)) s.1))
    (eqb_tells i q))
    (λ t. ap (option_and_then (λ values. slice_get values q)) (get_other objects o p (slice_set (get_or objects o []) i v) t.1)
    ∙ sym (ap (λ b. if b && (i == q) then Some v else object_at objects p q) t.0))
    (eqb_tells o p)

same_split : (p q : Place) → same_place p q ≡ (if p.node == q.node then (p.object == q.object) && (p.offset == q.offset) else false)
same_split p q = by (p.object == q.object) (p.node == q.node) (p.offset == q.offset)
  where
    by : (a b c : Bool) → (a && b) && c ≡ (if b then a && c else false)
    by true true c = refl
    by true false c = refl
    by false true c = refl
    by false false c = refl

pub cell_written : (known : List (List (List Value))) (p : Place) (v : Value) (q : Place) → IsSome (cell_in known p)
    → cell_in (with_known known p v) q ≡ (if same_place p q then Some v else cell_in known q)
cell_written known p v q h =
    let s = some_then (λ objects. object_at objects p.object p.offset) (slice_get known p.node) h in
    let lt : p.node < length known = slice_get_within known p.node s.0 s.1 in
    let is : get_or known p.node [] ≡ s.0 = get_or_from_slice_get known p.node s.0 [] s.1 in
    let there : IsSome (object_at (get_or known p.node []) p.object p.offset) = subst (λ x. IsSome (object_at x p.object p.offset)) (sym is) s.2 in
    ⊎_elim
    (λ t. let e : p.node ≡ q.node = t.1 in
    ap (λ n. option_and_then (λ objects. object_at objects q.object q.offset) (slice_get (with_known known p v) n)) (sym e)
    ∙ ap (option_and_then (λ objects. object_at objects q.object q.offset))
    (get_same known p.node (with_object (get_or known p.node []) p.object p.offset v) lt)
    ∙ object_written (get_or known p.node []) p.object p.offset v q.object q.offset there
    ∙ ap (λ o. if (p.object == q.object) && (p.offset == q.offset) then Some v else o)
    (ap (λ x. object_at x q.object q.offset) is ∙ sym (ap (λ n. option_and_then (λ objects. object_at objects q.object q.offset) (slice_get known n)) (sym e)
    ∙ ap (option_and_then (λ objects. object_at objects q.object q.offset)) s.1))
    ∙ sym (ap (λ b. if b then Some v else cell_in known q) (same_split p q
    ∙ ap (λ b. if b then (p.object == q.object) && (p.offset == q.offset) else false) t.0)))
    (λ t. ap (option_and_then (λ objects. object_at objects q.object q.offset)) (get_other known p.node q.node _ t.1)
    ∙ sym (ap (λ b. if b then Some v else cell_in known q) (same_split p q
    ∙ ap (λ b. if b then (p.object == q.object) && (p.offset == q.offset) else false) t.0)))
    (eqb_tells p.node q.node)

-- ---- all places

pub holds_written : (layout : Arrangement) (c : CellBook) (p : Place) (v : Value) (q : Place)
    → holds layout (with_cell c p v) q ≡ (if same_place p q then v else holds layout c q)
holds_written layout c p v q = by (cell_in c.known p) refl
  where
    out : (b : Bool) (o s : Option Value) → unwrap_or (option_or (if b then Some v else o) s) (start layout q)
        ≡ (if b then v else unwrap_or (option_or o s) (start layout q))
    out true o s = refl
    out false o s = refl

    stray : stray_value (c.strays ++ record { place = p; value = v } ∷ []) q ≡ (if same_place p q then Some v else stray_value c.strays q)
    stray = ap (λ xs. option_map (λ s. s.value) (find (λ s. same_place s.place q) xs)) (reverse-append c.strays (record { place = p; value = v } ∷ []))
        ∙ choose (same_place p q)
      where
        choose : (b : Bool) → option_map (λ (s : Stray). s.value) (if b then Some (record { place = p; value = v }) else find (λ s. same_place s.place q) (reverse c.strays))
            ≡ (if b then Some v else option_map (λ s. s.value) (find (λ s. same_place s.place q) (reverse c.strays)))
        choose true = refl
        choose false = refl

    -- the place is none of the layout, and so is one that is the same
    apart : (b : Bool) → same_place p q ≡ b → cell_in c.known p ≡ None
        → unwrap_or (option_or (cell_in c.known q) (if b then Some v else stray_value c.strays q)) (start layout q)
        ≡ (if b then v else holds layout c q)
    apart true s e =
        ap (λ o. unwrap_or (option_or o (Some v)) (start layout q)) (ap (cell_in c.known) (sym (place_is p q s)) ∙ e)
    apart false s e = refl

    by : (o : Option Value) → cell_in c.known p ≡ o → holds layout (with_cell c p v) q ≡ (if same_place p q then v else holds layout c q)
    by (Some w) e =
        ap (λ b. holds layout (if b then record c { known = with_known c.known p v } else record c { strays = c.strays ++ record { place = p; value = v } ∷ [] }) q)
        (ap is_some e)
        ∙ ap (λ o. unwrap_or (option_or o (stray_value c.strays q)) (start layout q))
        (cell_written c.known p v q (ap is_some e))
        ∙ out (same_place p q) (cell_in c.known q) (stray_value c.strays q)
    by None e =
        ap (λ b. holds layout (if b then record c { known = with_known c.known p v } else record c { strays = c.strays ++ record { place = p; value = v } ∷ [] }) q)
        (ap is_some e)
        ∙ ap (λ s. unwrap_or (option_or (cell_in c.known q) s) (start layout q)) stray
        ∙ apart (same_place p q) refl e

-- the cells stay the same ones
pub placed_written : (c : CellBook) (p : Place) (v : Value) (q : Place) → is_some (cell_in (with_cell c p v).known q) ≡ is_some (cell_in c.known q)
placed_written c p v q = by (cell_in c.known p) refl
  where
    out : (b : Bool) (o : Option Value) → (b ≡ true → IsSome o) → is_some (if b then Some v else o) ≡ is_some o
    out true o i = sym (i refl)
    out false o i = refl

    by : (o : Option Value) → cell_in c.known p ≡ o → is_some (cell_in (with_cell c p v).known q) ≡ is_some (cell_in c.known q)
    by (Some w) e =
        subst (λ b. is_some (cell_in (if b then record c { known = with_known c.known p v } else record c { strays = c.strays ++ record { place = p; value = v } ∷ [] }).known q)
        ≡ is_some (cell_in c.known q))
        (sym (ap is_some e))
        (ap is_some (cell_written c.known p v q (ap is_some e))
        ∙ out (same_place p q) (cell_in c.known q) (λ s. ap is_some (ap (cell_in c.known) (sym (place_is p q s)) ∙ e)))
    by None e =
        subst (λ b. is_some (cell_in (if b then record c { known = with_known c.known p v } else record c { strays = c.strays ++ record { place = p; value = v } ∷ [] }).known q)
        ≡ is_some (cell_in c.known q))
        (sym (ap is_some e)) refl

-- ---- before any write

length_more : (xs : List ℕ) (x : ℕ) → length (xs ++ x ∷ []) ≡ suc (length xs)
length_more [] x = refl
length_more (y ∷ xs) x = ap suc (length_more xs x)

pub length_below : (n : ℕ) → length (numbers_below n) ≡ n
length_below zero = refl
length_below (suc n) = length_more (numbers_below n) n ∙ ap suc (length_below n)

number_at : (n i : ℕ) → i < n → slice_get (numbers_below n) i ≡ Some i
number_at zero i h = absurd (omega arith)
number_at (suc n) i h =
    ⊎_elim
    (λ t. let e : i ≡ n = t.1 in
    ap (slice_get (numbers_below n ++ n ∷ [])) (e ∙ sym (length_below n)) ∙ get_end (numbers_below n) n ∙ ap Some (sym e))
    (λ t. let lt : i < n = (let u = t.1 in omega arith) in
    get_front (numbers_below n) (n ∷ []) i (let l = length_below n in omega arith) ∙ number_at n i lt)
    (eqb_tells i n)

pub get_below : (f : ℕ → List (List Value)) (n i : ℕ) → i < n → slice_get (map f (numbers_below n)) i ≡ Some (f i)
get_below f n i h = slice_get-map f (numbers_below n) i ∙ ap (option_map f) (number_at n i h)

get_copies : (n i : ℕ) (v : Value) → i < n → slice_get (replicate n v) i ≡ Some v
get_copies zero i v h = absurd (omega arith)
get_copies (suc n) zero v h = refl
get_copies (suc n) (suc i) v h = get_copies n i v (omega arith)

-- an object's cell begins with the object's value, and there are as many as it has
pub start_in : (layout : Arrangement) (p : Place) → IsPlace layout p → cell_in (known_at_start layout) p ≡ Some (start layout p)
start_in layout p is =
    ap (option_and_then (λ objects. object_at objects p.object p.offset)) (get_below (node_start layout) layout.nodes p.node is.node)
    ∙ ap (option_and_then (λ values. slice_get values p.offset)) (slice_get-map (object_start layout p.node) layout.objects p.object)
    ∙ by (slice_get layout.objects p.object) is.offset
  where
    by : (o : Option LaidObject) → p.offset < option_map_or (λ x. cells_of layout.nodes x p.node) o 0
        → option_and_then (λ values. slice_get values p.offset) (option_map (object_start layout p.node) o) ≡ Some (zero_in o)
    by None h = absurd (omega arith)
    by (Some x) h = get_copies (cells_of layout.nodes x p.node) p.offset (zero_of x.shape.ty.stars) h

-- a cell that is known at the start holds what its object begins with
known_start : (layout : Arrangement) (p : Place) (v : Value) → cell_in (known_at_start layout) p ≡ Some v → v ≡ start layout p
known_start layout p v e =
    by (slice_get (known_at_start layout) p.node) refl e
  where
    copy_is : (n i : ℕ) (w : Value) → slice_get (replicate n w) i ≡ Some v → v ≡ w
    copy_is zero i w g = absurd cc
    copy_is (suc n) zero w g = cc
    copy_is (suc n) (suc i) w g = copy_is n i w g

    of_object : (node : ℕ) (o : Option LaidObject) → option_and_then (λ values. slice_get values p.offset) (option_map (object_start layout node) o) ≡ Some v
        → v ≡ zero_in o
    of_object node None g = absurd cc
    of_object node (Some x) g = copy_is (cells_of layout.nodes x node) p.offset (zero_of x.shape.ty.stars) g

    by : (o : Option (List (List Value))) → slice_get (known_at_start layout) p.node ≡ o
        → cell_in (known_at_start layout) p ≡ Some v → v ≡ start layout p
    by None g h = let c : None ≡ Some v = sym (ap (option_and_then (λ objects. object_at objects p.object p.offset)) g) ∙ h in absurd cc
    by (Some objects) g h =
        let m = mapped (node_start layout) (numbers_below layout.nodes) p.node objects g in
        of_object m.0 (slice_get layout.objects p.object)
        (ap (option_and_then (λ values. slice_get values p.offset)) (sym (slice_get-map (object_start layout m.0) layout.objects p.object))
        ∙ ap (λ x. object_at x p.object p.offset) m.2
        ∙ sym (ap (option_and_then (λ objects. object_at objects p.object p.offset)) g) ∙ h)

pub holds_start : (layout : Arrangement) (p : Place) → holds layout (record { known = known_at_start layout; strays = [] }) p ≡ start layout p
holds_start layout p = by (cell_in (known_at_start layout) p) refl
  where
    by : (o : Option Value) → cell_in (known_at_start layout) p ≡ o
        → unwrap_or (option_or (cell_in (known_at_start layout) p) None) (start layout p) ≡ start layout p
    by None e = ap (λ o. unwrap_or (option_or o None) (start layout p)) e
    by (Some v) e = ap (λ o. unwrap_or (option_or o None) (start layout p)) e ∙ known_start layout p v e
