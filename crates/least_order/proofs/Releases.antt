-- The loop that counts the edges from an item no more.
use Rattle.std.proofs.Common.{◌≡◌, ℕ, suc, ◌+◌, ◌-◌, ◌<◌, ◌≤◌, List, ◌∷◌, length, slice_get, slice_index, get_or, set, Some}
use Rattle.std.proofs.Common.{false, ◌==◌, ◌&&◌, ◌≢◌, All, sym, ap, ◌∙◌, subst, arith, eq-eqb, add-zero, length-set}
use Rattle.std.proofs.lemmas.List.{get_or-set_same, get_or-set_other}
use Rattle.std.proofs.lemmas.Option.{slice_get_within, slice_get-get_or, get_or_from_slice_get}
use Rattle.std.proofs.lemmas.Grind.{get_or_default_zero}
use Rattle.std.proofs.Math.Bool.{and-true, and-false}
use Rattle.std.specs.List.Sorted.{IsPermutation}
use Rattle.std.specs.BinaryHeap.{IsHeap}
use Rattle.std.specs.Ordering.{nat_cmp}
use Rattle.std.specs.declared.cmp.Reverse.{Reverse}
use Rattle.least_order.specs.declared.edge.Edge.{Edge}
use Rattle.least_order.specs.declared.links.Links.{Links}
use Rattle.least_order.specs.declared.taking.Taking.{Taking}
use Rattle.least_order.specs.Least.{IsWithin}
use Rattle.least_order.specs.Taking.{bit, last, occurs, IsAt, StandsAt, AreLinks}
use Rattle.least_order.proofs.Counting.{last_is}
use Rattle.least_order.proofs.Steps.{some_count, counted_less, moved_on}
use Rattle.least_order.proofs.Loops.{pushed}

-- the edge that is looked at, where there is one
pub record IsThere (edges : List Edge) (item at : ℕ) (d : Edge) : Type 0 where
  pub low : at - 1 < length edges
  pub here : slice_get edges (at - 1) ≡ Some (get_or edges (at - 1) d)
  pub from : (get_or edges (at - 1) d).before ≡ item

pub there : (edges : List Edge) (item m at : ℕ) (d : Edge) → at ≡ last edges item m → at ≢ 0 → IsThere edges item at d
there edges item m at d is some =
    let next : last edges item m ≡ suc (at - 1) = omega (arith, is, some) in
    let p = last_is edges item m (at - 1) next in
    let low = slice_get_within edges (at - 1) p.0 p.1 in
    record {
      low = low;
      here = slice_get-get_or edges (at - 1) d low;
      from = ap (λ (e : Edge). e.before) (get_or_from_slice_get edges (at - 1) p.0 d p.1) ∙ p.2;
    }

-- the link behind it is the last one before it from the same item
pub next_link : (edges : List Edge) (count item at : ℕ) (d : Edge) (links : Links) (next : ℕ) → IsThere edges item at d →
    AreLinks edges count links → next ≡ get_or links.earlier.items (at - 1) next → next ≡ last edges item (at - 1)
next_link edges count item at d links next t linked found =
    found ∙ get_or_default_zero links.earlier.items (at - 1) next (let l = linked.each in let w = t.low in omega (arith, w, l))
    ∙ linked.earlier_are (at - 1) (get_or edges (at - 1) d) t.here ∙ ap (λ x. last edges x (at - 1)) t.from

-- what holds where the edge with this number comes next
pub record GoesOn (edges : List Edge) (count item at : ℕ) (order : List ℕ) (taking : Taking) : Type 0 where
  pub order_stays : taking.order.items ≡ order
  pub stands : StandsAt edges count item at taking

module _ (edges : List Edge) (count item at : ℕ) (out counts : List ℕ) (ready : List (Reverse ℕ)) (d : Edge) (v : ℕ)
    (within : All (IsWithin count) edges) (s : IsAt edges count item at out counts ready) (some : at ≢ 0)
    (t : IsThere edges item at d) (value : v ≡ get_or counts (get_or edges (at - 1) d).after v) where
  inside : (get_or edges (at - 1) d).after < count
  inside = (within (at - 1) d t.low).after_within

  before : IsAt edges count item (suc (at - 1)) out counts ready
  before = subst (λ n. IsAt edges count item n out counts ready) (let f = some in omega (arith, f)) s

  is : v ≡ slice_index counts (get_or edges (at - 1) d).after
  is = value ∙ get_or_default_zero counts _ v (let l = s.items in let w = inside in omega (arith, w, l))

  -- the edge is counted
  pub is_counted : 1 ≤ v
  is_counted =
      let c = some_count edges count item (at - 1) out counts ready (get_or edges (at - 1) d) before t.here t.from inside in
      let e = is in omega (arith, c, e)

  pub index_now : get_or (set counts (get_or edges (at - 1) d).after (v - 1)) (get_or edges (at - 1) d).after 0 ≡ v - 1
  index_now = get_or-set_same counts _ (v - 1) 0 (let l = s.items in let w = inside in omega (arith, w, l))

  pub released : (links : Links) (next : ℕ) (heap : List (Reverse ℕ)) → AreLinks edges count links →
      next ≡ get_or links.earlier.items (at - 1) next →
      ((y : ℕ) → occurs y heap ≡ occurs y ready + bit (((get_or edges (at - 1) d).after == y)
      && (slice_index (set counts (get_or edges (at - 1) d).after (v - 1)) (get_or edges (at - 1) d).after == 0))) →
      IsHeap (λ (a b : Reverse ℕ). nat_cmp b.0 a.0) heap →
      (next ≡ last edges item (at - 1))
      × IsAt edges count item next out (set counts (get_or edges (at - 1) d).after (v - 1)) heap
  released links next heap linked found put heaped =
      let goes = next_link edges count item at d links next t linked found in
      (goes, subst (λ n. IsAt edges count item n out (set counts (get_or edges (at - 1) d).after (v - 1)) heap) (sym goes) moved)
    where
      less : slice_index (set counts (get_or edges (at - 1) d).after (v - 1)) (get_or edges (at - 1) d).after + 1
          ≡ slice_index counts (get_or edges (at - 1) d).after
      less = let e = is in let c = is_counted in let n = index_now in omega (arith, e, c, n)

      now : IsAt edges count item (at - 1) out (set counts (get_or edges (at - 1) d).after (v - 1)) heap
      now = counted_less edges count item (at - 1) out counts ready (get_or edges (at - 1) d) before t.here t.from inside
          (set counts (get_or edges (at - 1) d).after (v - 1)) heap (length-set _ _ _) less
          (λ y ne. get_or-set_other counts _ y (v - 1) 0 ne) put heaped

      moved : IsAt edges count item (last edges item (at - 1)) out (set counts (get_or edges (at - 1) d).after (v - 1)) heap
      moved = moved_on edges count item (at - 1) out (set counts (get_or edges (at - 1) d).after (v - 1)) heap now

-- the item is put into the heap where no edge to it is left
pub put_one : (after n : ℕ) (ready heap : List (Reverse ℕ)) → n ≡ 0 → IsPermutation (record { 0 = after } ∷ ready) heap →
    (y : ℕ) → occurs y heap ≡ occurs y ready + bit ((after == y) && (n == 0))
put_one after n ready heap none p y =
    pushed after ready heap p y ∙ ap (λ b. occurs y ready + bit b) (sym (ap (λ b. (after == y) && b) (eq-eqb n 0 none) ∙ and-true _))

pub put_none : (after n : ℕ) (ready : List (Reverse ℕ)) → n ≢ 0 → (y : ℕ) →
    occurs y ready ≡ occurs y ready + bit ((after == y) && (n == 0))
put_none after n ready some y =
    let no : (n == 0) ≡ false = grind (arith, some) in
    sym (ap (λ b. occurs y ready + bit ((after == y) && b)) no ∙ ap (λ b. occurs y ready + bit b) (and-false _) ∙ add-zero _)

-- what was written is read
pub index_is : (counts : List ℕ) (at x n : ℕ) → at < length counts → n ≡ get_or (set counts at x) at n →
    slice_index (set counts at x) at ≡ n
index_is counts at x n within found =
    sym (found ∙ get_or_default_zero (set counts at x) at n (let l = length-set counts at x in omega (arith, within, l)))
