-- What holds while items are taken: at each edge that is counted no more, and at each item that is taken.
use Rattle.std.proofs.Common.{◌≡◌, ℕ, suc, ◌+◌, ◌<◌, List, length, slice_get, slice_index, Some}
use Rattle.std.proofs.Common.{Bool, true, false, not, ◌==◌, ◌&&◌, ◌≢◌, ◌⊎◌, eqb, nat_lt, refl, sym, ap, ap₂, ◌∙◌, subst, arith, eq-eqb, eqb-true, inl, inr, add-zero, zero-add}
use Rattle.std.proofs.lemmas.Bool.{and_parts, not-true}
use Rattle.std.proofs.lemmas.Bool.Decides.{eqb_tells}
use Rattle.std.specs.BinaryHeap.{IsHeap}
use Rattle.std.specs.Ordering.{nat_cmp}
use Rattle.std.specs.declared.cmp.Reverse.{Reverse}
use Rattle.least_order.specs.declared.edge.Edge.{Edge}
use Rattle.least_order.specs.Taking.{bit, is_in, how_many, last, is_unmet, is_link, occurs, is_ready, IsAt}
use Rattle.least_order.proofs.Counting.{how_many-next, links_last}

-- what an item that is ready is
pub record IsReady (count : ℕ) (out counts : List ℕ) (y : ℕ) : Type 0 where
  pub within : y < count
  pub left : is_in out y ≡ false
  pub none : slice_index counts y ≡ 0

pub ready_is : (count : ℕ) (out counts : List ℕ) (y : ℕ) → is_ready count out counts y ≡ true → IsReady count out counts y
ready_is count out counts y h =
    let p = and_parts (nat_lt y count) (not (is_in out y) && (slice_index counts y == 0)) h in
    let q = and_parts (not (is_in out y)) (slice_index counts y == 0) p.1 in
    let within = p.0 in
    record { within = grind (arith, within); left = not-true _ q.0; none = eqb-true _ _ q.1 }

pub ready_from : (count : ℕ) (out counts : List ℕ) (y : ℕ) → IsReady count out counts y → is_ready count out counts y ≡ true
ready_from count out counts y r =
    let a : nat_lt y count ≡ true = let w = r.within in grind (arith, w) in
    ap₂ (λ b c. b && (not c && (slice_index counts y == 0))) a r.left ∙ eq-eqb _ _ r.none

bit_one : (b : Bool) → 0 < bit b → b ≡ true
bit_one true h = refl
bit_one false h = absurd (omega (arith, h))

bit_none : (b : Bool) → bit b ≡ 0 → b ≡ false
bit_none true h = absurd (omega (arith, h))
bit_none false h = refl

-- an item in the heap is ready
pub ready_in : (edges : List Edge) (count x at : ℕ) (out counts : List ℕ) (ready : List (Reverse ℕ)) →
    IsAt edges count x at out counts ready → (y : ℕ) → 0 < occurs y ready → IsReady count out counts y
ready_in edges count x at out counts ready s y h =
    let e = s.ready_are y in
    ready_is count out counts y (bit_one (is_ready count out counts y) (omega (arith, h, e)))

-- where the heap has none, none is ready
pub none_ready : (edges : List Edge) (count x at : ℕ) (out counts : List ℕ) (ready : List (Reverse ℕ)) →
    IsAt edges count x at out counts ready → (y : ℕ) → occurs y ready ≡ 0 → is_ready count out counts y ≡ false
none_ready edges count x at out counts ready s y h =
    let e = s.ready_are y in bit_none (is_ready count out counts y) (omega (arith, h, e))

-- the links behind the last one are none
pub moved_on : (edges : List Edge) (count x at : ℕ) (out counts : List ℕ) (ready : List (Reverse ℕ)) →
    IsAt edges count x at out counts ready → IsAt edges count x (last edges x at) out counts ready
moved_on edges count x at out counts ready s = record {
  items = s.items;
  counts_are = λ y w. s.counts_are y w ∙ ap (λ n. how_many edges (is_unmet out y) (length edges) + n) (sym (links_last edges x y at));
  met = s.met;
  ready_are = s.ready_are;
  ordered = s.ordered;
}

-- at the end no link is left
pub all_released : (edges : List Edge) (count x at : ℕ) (out counts : List ℕ) (ready : List (Reverse ℕ)) → at ≡ 0 →
    IsAt edges count x at out counts ready → IsAt edges count 0 0 out counts ready
all_released edges count x at out counts ready e s = record {
  items = s.items;
  counts_are = λ y w. s.counts_are y w ∙ ap (λ n. how_many edges (is_unmet out y) (length edges) + how_many edges (is_link x y) n) e;
  met = s.met;
  ready_are = s.ready_are;
  ordered = s.ordered;
}

module _ (edges : List Edge) (count x at : ℕ) (out counts : List ℕ) (ready : List (Reverse ℕ)) (edge : Edge)
    (s : IsAt edges count x (suc at) out counts ready) (here : slice_get edges at ≡ Some edge) (from : edge.before ≡ x)
    (within : edge.after < count) where
  link_here : (y : ℕ) → how_many edges (is_link x y) (suc at) ≡ how_many edges (is_link x y) at + bit (edge.after == y)
  link_here y = how_many-next edges (is_link x y) at edge here
      ∙ ap (λ b. how_many edges (is_link x y) at + bit (b && (edge.after == y))) (eq-eqb edge.before x from)

  count_here : slice_index counts edge.after
      ≡ how_many edges (is_unmet out edge.after) (length edges) + (how_many edges (is_link x edge.after) at + 1)
  count_here = s.counts_are edge.after within
      ∙ ap (λ n. how_many edges (is_unmet out edge.after) (length edges) + n)
      (link_here edge.after ∙ ap (λ b. how_many edges (is_link x edge.after) at + bit b) (eq-eqb edge.after edge.after refl))

  -- the edge is counted
  pub some_count : 0 < slice_index counts edge.after
  some_count = let e = count_here in omega (arith, e)

  -- it is counted no more
  pub counted_less : (new : List ℕ) (heap : List (Reverse ℕ)) → length new ≡ length counts →
      slice_index new edge.after + 1 ≡ slice_index counts edge.after →
      ((y : ℕ) → y ≢ edge.after → slice_index new y ≡ slice_index counts y) →
      ((y : ℕ) → occurs y heap ≡ occurs y ready + bit ((edge.after == y) && (slice_index new edge.after == 0))) →
      IsHeap (λ (a b : Reverse ℕ). nat_cmp b.0 a.0) heap → IsAt edges count x at out new heap
  counted_less new heap long less others put heaped = record {
    items = long ∙ s.items;
    counts_are = λ y w. counts_now y w (eqb_tells edge.after y);
    met = λ y m. met_now y m (eqb_tells edge.after y);
    ready_are = λ y. ready_now y (eqb_tells edge.after y);
    ordered = heaped;
  }
    where
      counts_now : (y : ℕ) → y < count → ((eqb edge.after y ≡ true) × (edge.after ≡ y)) ⊎ ((eqb edge.after y ≡ false) × (edge.after ≢ y)) →
          slice_index new y ≡ how_many edges (is_unmet out y) (length edges) + how_many edges (is_link x y) at
      counts_now y w (inl p) =
          let e = count_here in
          let same : slice_index new edge.after
          ≡ how_many edges (is_unmet out edge.after) (length edges) + how_many edges (is_link x edge.after) at = omega (arith, e, less) in
          subst (λ z. slice_index new z ≡ how_many edges (is_unmet out z) (length edges) + how_many edges (is_link x z) at) p.1 same
      counts_now y w (inr p) =
          others y (λ e. p.1 (sym e)) ∙ s.counts_are y w
          ∙ ap (λ n. how_many edges (is_unmet out y) (length edges) + n)
          (link_here y ∙ ap (λ b. how_many edges (is_link x y) at + bit b) p.0 ∙ add-zero _)

      met_now : (y : ℕ) → is_in out y ≡ true → ((eqb edge.after y ≡ true) × (edge.after ≡ y)) ⊎ ((eqb edge.after y ≡ false) × (edge.after ≢ y)) →
          slice_index new y ≡ 0
      met_now y m (inl p) =
          let some = some_count in
          let none = subst (λ z. slice_index counts z ≡ 0) (sym p.1) (s.met y m) in absurd (omega (arith, some, none))
      met_now y m (inr p) = others y (λ e. p.1 (sym e)) ∙ s.met y m

      not_taken : is_in out edge.after ≡ false
      not_taken = by (is_in out edge.after) refl
        where
          by : (b : Bool) → is_in out edge.after ≡ b → b ≡ false
          by true e = let some = some_count in let none = s.met edge.after e in absurd (omega (arith, some, none))
          by false e = refl

      not_ready : is_ready count out counts edge.after ≡ false
      not_ready = by (is_ready count out counts edge.after) refl
        where
          by : (b : Bool) → is_ready count out counts edge.after ≡ b → b ≡ false
          by true e =
              let some = some_count in
              let none = (ready_is count out counts edge.after e).none in absurd (omega (arith, some, none))
          by false e = refl

      ready_now : (y : ℕ) → ((eqb edge.after y ≡ true) × (edge.after ≡ y)) ⊎ ((eqb edge.after y ≡ false) × (edge.after ≢ y)) →
          occurs y heap ≡ bit (is_ready count out new y)
      ready_now y (inl p) = subst (λ z. occurs z heap ≡ bit (is_ready count out new z)) p.1 here_now
        where
          lower : nat_lt edge.after count ≡ true
          lower = let w = within in grind (arith, w)

          is_now : is_ready count out new edge.after ≡ (slice_index new edge.after == 0)
          is_now = ap₂ (λ b c. b && (not c && (slice_index new edge.after == 0))) lower not_taken

          before : occurs edge.after ready ≡ 0
          before = s.ready_are edge.after ∙ ap bit not_ready

          here_now : occurs edge.after heap ≡ bit (is_ready count out new edge.after)
          here_now =
              put edge.after ∙ ap₂ (λ n b. n + bit (b && (slice_index new edge.after == 0))) before (eq-eqb edge.after edge.after refl)
              ∙ zero-add _ ∙ ap bit (sym is_now)
      ready_now y (inr p) =
          put y ∙ ap (λ b. occurs y ready + bit (b && (slice_index new edge.after == 0))) p.0 ∙ add-zero _ ∙ s.ready_are y
          ∙ ap (λ n. bit (nat_lt y count && (not (is_in out y) && (n == 0)))) (sym (others y (λ e. p.1 (sym e))))
