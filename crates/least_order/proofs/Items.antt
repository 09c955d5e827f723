-- Where items can be ordered, their order is the least one by what has to come before what: the law of histories allows an item
-- that is left exactly where none of those left has to come before it.
use Rattle.std.proofs.Common.{◌≡◌, ◌⊎◌, ℕ, zero, suc, List, [], ◌∷◌, ◌++◌, length, map, get_or, cond, not, ◌&&◌, Option, Some, None, refl, sym, ap, ◌∙◌, subst, arith, length-append, inl, inr, ⊎_elim, Bool, true, false}
use Rattle.std.proofs.lemmas.List.{length-map}
use Rattle.std.proofs.lemmas.Bool.{both_ways, and_from, and_parts, or_left, or_right, not_from_false, not-true, or_cases, false_from_ne_true}
use Rattle.std.specs.Option.{option_map}
use Rattle.sc_base.specs.declared.value.Place.{Place}
use Rattle.sc_base.specs.declared.value.Value.{Value}
use Rattle.effect_order.specs.Effect.{Effect}
use Rattle.effect_order.specs.Items.{memory_of, Shows, items_conflict}
use Rattle.effect_order.specs.Lists.{In, Each, Pairs, IsDistinct, is_held}
use Rattle.effect_order.specs.Walk.{HasNoCycle}
use Rattle.effect_order.specs.Greedy.{Reorder, may_take, ordered, comes_before, AllowedIs, Reached, Among, Orderable}
use Rattle.effect_order.proofs.Members.{each-in, each-left, each-right, each-without, each-map, each-self, pairs-map, pairs_left, pairs_right, pairs_without, in-split, in-either, in-cases, in-middle, held_by, not_held, free, narrower}
use Rattle.effect_order.proofs.Taken.{greedy}
use Rattle.effect_order.proofs.Moved.{Keeps, apart, moved}
use Rattle.effect_order.proofs.Ordered.{orderable_sourced}
use Rattle.effect_order.proofs.Grown.{grow_greedy}
use Rattle.least_order.specs.declared.edge.Edge.{Edge}
use Rattle.least_order.specs.Least.{taken, least_order}
use Rattle.least_order.specs.Ways.{AreWays}
use Rattle.least_order.proofs.Whole.{all_taken}
use Rattle.least_order.proofs.Reduced.{greedy_by_edges}

same_test : (b c : Bool) → (b ≡ true → c ≡ false) → (c ≡ false → b ≡ true) → b ≡ not c
same_test true true f g = absurd (both_ways true (f refl) refl)
same_test true false f g = refl
same_test false true f g = refl
same_test false false f g = absurd (both_ways false refl (g refl))

module _ {X : Type 0} (does : X → List Effect) (m : Place → Value) (earlier needs : X → X → Bool) (allowed : List X → X → Bool) (all : List X) (is : AllowedIs does m earlier needs allowed all) where
  abbrev Kept : List X → List X → Type 0
  Kept past left = Reached does m earlier needs allowed all past left

  by_conflict : (a x : X) → (items_conflict does a x && earlier a x) ≡ true → comes_before does earlier needs a x ≡ true
  by_conflict a x h = or_right _ _ h

  -- an allowed item is held by none of those left
  not_held_by : (past left : List X) (x : X) → Kept past left → In x left → may_take does earlier allowed past left x ≡ true → is_held (comes_before does earlier needs) x left ≡ false
  not_held_by past left x k i h = false_from_ne_true _ (λ e. no_one (held_by (comes_before does earlier needs) x left e))
    where
      parts : (allowed past x ≡ true) × (not (is_held (λ a b. items_conflict does a b && earlier a b) x left) ≡ true)
      parts = and_parts _ _ h

      no_one : (a : X) × In a left × (comes_before does earlier needs a x ≡ true) → ⊥
      no_one p =
          ⊎_elim
          (λ n. each-in (λ a. In a past → ⊥) left p.0 k.apart p.1 (each-in (λ a. needs a x ≡ true → In a past) all p.0 ((is past left x k i).0 parts.0).0 (each-in (λ a. In a all) left p.0 k.left_within p.1) n))
          (λ c. not_held (λ a b. items_conflict does a b && earlier a b) x left p.0 (not-true _ parts.1) p.1 c)
          (or_cases _ _ p.2)

  moved_first : (past us vs : List X) (x : X) → Kept past (us ++ x ∷ vs) → is_held (comes_before does earlier needs) x (us ++ x ∷ vs) ≡ false → Shows does (memory_of does m past) (x ∷ us ++ vs)
  moved_first past us vs x k h =
      let f = each-left _ us (x ∷ vs) (free (comes_before does earlier needs) x (us ++ x ∷ vs) h) in
      moved does (memory_of does m past) us x vs (apart does (comes_before does earlier needs) x us (pairs_left (Keeps does (comes_before does earlier needs)) us x vs k.order) f) k.shows

  -- what has to come before such an item was taken
  came_before : (past left : List X) (x : X) → Kept past left → is_held (comes_before does earlier needs) x left ≡ false → Each (λ a. comes_before does earlier needs a x ≡ true → In a past) all
  came_before past left x k h = each-map _ _ all now k.cover
    where
      now : (a : X) → In a past ⊎ In a left → comes_before does earlier needs a x ≡ true → In a past
      now a (inl q) n = q
      now a (inr q) n = absurd (not_held (comes_before does earlier needs) x left a h q n)

  -- what such an item needs was taken
  needed : (past left : List X) (x : X) → Kept past left → is_held (comes_before does earlier needs) x left ≡ false → Each (λ a. needs a x ≡ true → In a past) all
  needed past left x k h = each-map _ _ all now k.cover
    where
      now : (a : X) → In a past ⊎ In a left → needs a x ≡ true → In a past
      now a (inl q) n = q
      now a (inr q) n = absurd (not_held (comes_before does earlier needs) x left a h q (or_left _ _ n))

  may_be_taken : (past left : List X) (x : X) → Kept past left → In x left → is_held (comes_before does earlier needs) x left ≡ false → may_take does earlier allowed past left x ≡ true
  may_be_taken past left x k i h =
      let s = in-split left x i in
      let first = moved_first past s.0 s.1 x (subst (Kept past) s.2 k) (subst (λ u. is_held (comes_before does earlier needs) x u ≡ false) s.2 h) in
      and_from _ _ ((is past left x k i).1 (needed past left x k h, first.0)) (not_from_false _ (narrower (comes_before does earlier needs) (λ a b. items_conflict does a b && earlier a b) x left (λ a e. by_conflict a x e) h))

  tells : (past left : List X) → Kept past left → Each (λ x. may_take does earlier allowed past left x ≡ not (is_held (comes_before does earlier needs) x left)) left
  tells past left k = each-self _ left (λ x i. same_test _ _ (not_held_by past left x k i) (may_be_taken past left x k i))

  keeps : (past us vs : List X) (x : X) → Kept past (us ++ x ∷ vs) → is_held (comes_before does earlier needs) x (us ++ x ∷ vs) ≡ false → Kept (x ∷ past) (us ++ vs)
  keeps past us vs x k h = record {
    cover = each-map _ _ all next k.cover;
    apart = each-self _ (us ++ vs) away;
    past_distinct = (each-self _ past (λ b i q. (each-right _ us (x ∷ vs) k.apart).0 (subst (λ u. In u past) (sym q) i)), k.past_distinct);
    distinct = pairs_without _ us x vs k.distinct;
    order = pairs_without _ us x vs k.order;
    shows = (moved_first past us vs x k h).1;
    past_within = ((each-right _ us (x ∷ vs) k.left_within).0, k.past_within);
    left_within = each-without _ us x vs k.left_within;
    closed = (came_before past (us ++ x ∷ vs) x k h, k.closed);
    were_allowed = ((and_parts _ _ (may_be_taken past (us ++ x ∷ vs) x k (in-middle us x vs) h)).0, k.were_allowed);
  }
    where
      next : (a : X) → In a past ⊎ In a (us ++ x ∷ vs) → In a (x ∷ past) ⊎ In a (us ++ vs)
      next a (inl i) = inl (inr i)
      next a (inr i) = ⊎_elim (λ q. inl (inl q)) (λ q. inr q) (in-cases us x vs a i)

      from_x : (a : X) → In a (us ++ vs) → a ≡ x → ⊥
      from_x a i q =
          ⊎_elim
          (λ j. each-in (λ u. u ≡ x → ⊥) us a (pairs_left (λ b c. b ≡ c → ⊥) us x vs k.distinct) j q)
          (λ j. each-in (λ u. x ≡ u → ⊥) vs a (pairs_right (λ b c. b ≡ c → ⊥) us x vs k.distinct) j (sym q))
          (in-either us vs a i)

      away : (a : X) → In a (us ++ vs) → In a (x ∷ past) → ⊥
      away a i (inl q) = from_x a i q
      away a i (inr q) = each-in (λ u. In u past → ⊥) (us ++ vs) a (each-without _ us x vs k.apart) i q

  pub ordered_greedy : IsDistinct all → Pairs (Keeps does (comes_before does earlier needs)) all → Shows does m all →
      ordered does earlier allowed all ≡ greedy (comes_before does earlier needs) (length all) all
  ordered_greedy distinct order shows =
      grow_greedy (may_take does earlier allowed) (comes_before does earlier needs) Kept tells keeps (length all) [] all begin
    where
      begin : Kept [] all
      begin = record {
        cover = each-self _ all (λ x i. inr i);
        apart = each-self _ all (λ x i j. j);
        distinct = distinct;
        order = order;
        shows = shows;
        past_within = tt;
        past_distinct = tt;
        left_within = each-self _ all (λ x i. i);
        closed = tt;
        were_allowed = tt;
      }

pub orderable_by_edges : {X : Type 0} (does : X → List Effect) (m : Place → Value) (earlier needs : X → X → Bool)
    (allowed : List X → X → Bool) (all : List X) (d : X) (edges : List Edge) → Orderable does m earlier needs allowed all →
    AreWays edges (length all) (λ i j. comes_before does earlier needs (get_or all i d) (get_or all j d)) →
    ordered does earlier allowed all ≡ map (λ i. get_or all i d) (taken edges (length all))
orderable_by_edges {X} does m earlier needs allowed all d edges o ways =
    ordered_greedy does m earlier needs allowed all o.allowed_is o.distinct (pairs-map _ _ keep all o.in_order) o.shows
    ∙ greedy_by_edges (comes_before does earlier needs) all d edges ways
  where
    keep : (a b : X) → (items_conflict does a b ≡ true → earlier a b ≡ true) → items_conflict does a b ≡ true →
        comes_before does earlier needs a b ≡ true
    keep a b f c = or_right _ _ (and_from _ _ c (f c))

reorder_length : {X : Type 0} (before : X → X → Bool) (left out : List X) → Reorder before left out → length out ≡ length left
reorder_length before left [] r = ap length (sym r)
reorder_length before left (x ∷ out) r =
    let rest = reorder_length before (r.0 ++ r.1) out r.4 in
    let a = length-append r.0 r.1 in
    let b = length-append r.0 (x ∷ r.1) in
    let c = ap length r.2 in omega (arith, rest, a, b, c)

-- every item is taken
pub orderable_least : {X : Type 0} (does : X → List Effect) (m : Place → Value) (earlier needs : X → X → Bool)
    (allowed : List X → X → Bool) (all : List X) (d : X) (edges : List Edge) → Orderable does m earlier needs allowed all →
    AreWays edges (length all) (λ i j. comes_before does earlier needs (get_or all i d) (get_or all j d)) →
    option_map (map (λ i. get_or all i d)) (least_order edges (length all)) ≡ Some (ordered does earlier allowed all)
orderable_least {X} does m earlier needs allowed all d edges o ways =
    ap (option_map (map (λ i. get_or all i d))) (all_taken edges (length all) (taken edges (length all)) refl count)
    ∙ ap Some (sym is)
  where
    is : ordered does earlier allowed all ≡ map (λ i. get_or all i d) (taken edges (length all))
    is = orderable_by_edges does m earlier needs allowed all d edges o ways

    count : length (taken edges (length all)) ≡ length all
    count = sym (length-map (taken edges (length all)) (λ i. get_or all i d)) ∙ ap length (sym is)
        ∙ reorder_length _ all _ (orderable_sourced does m earlier needs allowed all o).reorder
