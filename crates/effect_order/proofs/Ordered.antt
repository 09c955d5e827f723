-- The source order takes everything, and shows the same values.
use Rattle.std.proofs.Common.{◌≡◌, ◌⊎◌, ℕ, zero, suc, List, [], ◌∷◌, ◌++◌, length, cond, not, ◌&&◌, Option, Some, None, refl, sym, subst, inl, inr, ⊎_elim, Bool, true, false}
use Rattle.std.proofs.lemmas.Bool.{both_ways, and_from, and_parts, or_left, or_right, not_from_false, not-true, or_cases, false_from_ne_true}
use Rattle.sc_base.specs.declared.value.Place.{Place}
use Rattle.sc_base.specs.declared.value.Value.{Value}
use Rattle.effect_order.specs.Effect.{Effect}
use Rattle.effect_order.specs.Items.{memory_of, Shows, items_conflict}
use Rattle.effect_order.specs.Lists.{In, Each, Pairs, IsDistinct, is_held}
use Rattle.effect_order.specs.Walk.{HasNoCycle}
use Rattle.effect_order.specs.Greedy.{grow, pick_by, behind, then_rest, IsAllowed, may_take, ordered, comes_before, AllowedIs, Reached, Among, IsSourced, Orderable}
use Rattle.effect_order.proofs.Members.{each-in, each-left, each-right, each-without, each-map, each-self, pairs-map, pairs_left, pairs_right, pairs_without, in-split, in-either, in-cases, in-middle, held_by, not_held, free, narrower}
use Rattle.effect_order.proofs.Taken.{greedy}
use Rattle.effect_order.proofs.Moved.{Keeps, apart, moved}
use Rattle.effect_order.proofs.Sourced.{greedy_sourced}
use Rattle.effect_order.proofs.Grown.{grow_greedy}

same_test : (b c : Bool) → (b ≡ true → c ≡ false) → (c ≡ false → b ≡ true) → b ≡ not c
same_test true true f g = absurd (both_ways true (f refl) refl)
same_test true false f g = refl
same_test false true f g = refl
same_test false false f g = absurd (both_ways false refl (g refl))

module _ {X : Type 0} (does : X → List Effect) (m : Place → Value) (earlier needs : X → X → Bool) (allowed : List X → X → Bool) (all : List X) (is : AllowedIs does m earlier needs allowed all) where
  abbrev Kept : List X → List X → Type 0
  Kept past left = Reached does m earlier needs allowed all past left

  by_conflict : (a x : X) → (items_conflict does a x && earlier a x) ≡ true → comes_before does earlier needs a x ≡ true
  by_conflict a x h = or_right _ _ h

  -- an allowed item is held by none of those left
  not_held_by : (past left : List X) (x : X) → Kept past left → In x left → may_take does earlier allowed past left x ≡ true → is_held (comes_before does earlier needs) x left ≡ false
  not_held_by past left x k i h = false_from_ne_true _ (λ e. no_one (held_by (comes_before does earlier needs) x left e))
    where
      parts : (allowed past x ≡ true) × (not (is_held (λ a b. items_conflict does a b && earlier a b) x left) ≡ true)
      parts = and_parts _ _ h

      no_one : (a : X) × In a left × (comes_before does earlier needs a x ≡ true) → ⊥
      no_one p =
          ⊎_elim
          (λ n. each-in (λ a. In a past → ⊥) left p.0 k.apart p.1 (each-in (λ a. needs a x ≡ true → In a past) all p.0 ((is past left x k i).0 parts.0).0 (each-in (λ a. In a all) left p.0 k.left_within p.1) n))
          (λ c. not_held (λ a b. items_conflict does a b && earlier a b) x left p.0 (not-true _ parts.1) p.1 c)
          (or_cases _ _ p.2)

  moved_first : (past us vs : List X) (x : X) → Kept past (us ++ x ∷ vs) → is_held (comes_before does earlier needs) x (us ++ x ∷ vs) ≡ false → Shows does (memory_of does m past) (x ∷ us ++ vs)
  moved_first past us vs x k h =
      let f = each-left _ us (x ∷ vs) (free (comes_before does earlier needs) x (us ++ x ∷ vs) h) in
      moved does (memory_of does m past) us x vs (apart does (comes_before does earlier needs) x us (pairs_left (Keeps does (comes_before does earlier needs)) us x vs k.order) f) k.shows

  -- what has to come before such an item was taken
  came_before : (past left : List X) (x : X) → Kept past left → is_held (comes_before does earlier needs) x left ≡ false → Each (λ a. comes_before does earlier needs a x ≡ true → In a past) all
  came_before past left x k h = each-map _ _ all now k.cover
    where
      now : (a : X) → In a past ⊎ In a left → comes_before does earlier needs a x ≡ true → In a past
      now a (inl q) n = q
      now a (inr q) n = absurd (not_held (comes_before does earlier needs) x left a h q n)

  -- what such an item needs was taken
  needed : (past left : List X) (x : X) → Kept past left → is_held (comes_before does earlier needs) x left ≡ false → Each (λ a. needs a x ≡ true → In a past) all
  needed past left x k h = each-map _ _ all now k.cover
    where
      now : (a : X) → In a past ⊎ In a left → needs a x ≡ true → In a past
      now a (inl q) n = q
      now a (inr q) n = absurd (not_held (comes_before does earlier needs) x left a h q (or_left _ _ n))

  may_be_taken : (past left : List X) (x : X) → Kept past left → In x left → is_held (comes_before does earlier needs) x left ≡ false → may_take does earlier allowed past left x ≡ true
  may_be_taken past left x k i h =
      let s = in-split left x i in
      let first = moved_first past s.0 s.1 x (subst (Kept past) s.2 k) (subst (λ u. is_held (comes_before does earlier needs) x u ≡ false) s.2 h) in
      and_from _ _ ((is past left x k i).1 (needed past left x k h, first.0)) (not_from_false _ (narrower (comes_before does earlier needs) (λ a b. items_conflict does a b && earlier a b) x left (λ a e. by_conflict a x e) h))

  tells : (past left : List X) → Kept past left → Each (λ x. may_take does earlier allowed past left x ≡ not (is_held (comes_before does earlier needs) x left)) left
  tells past left k = each-self _ left (λ x i. same_test _ _ (not_held_by past left x k i) (may_be_taken past left x k i))

  keeps : (past us vs : List X) (x : X) → Kept past (us ++ x ∷ vs) → is_held (comes_before does earlier needs) x (us ++ x ∷ vs) ≡ false → Kept (x ∷ past) (us ++ vs)
  keeps past us vs x k h = record {
    cover = each-map _ _ all next k.cover;
    apart = each-self _ (us ++ vs) away;
    past_distinct = (each-self _ past (λ b i q. (each-right _ us (x ∷ vs) k.apart).0 (subst (λ u. In u past) (sym q) i)), k.past_distinct);
    distinct = pairs_without _ us x vs k.distinct;
    order = pairs_without _ us x vs k.order;
    shows = (moved_first past us vs x k h).1;
    past_within = ((each-right _ us (x ∷ vs) k.left_within).0, k.past_within);
    left_within = each-without _ us x vs k.left_within;
    closed = (came_before past (us ++ x ∷ vs) x k h, k.closed);
    were_allowed = ((and_parts _ _ (may_be_taken past (us ++ x ∷ vs) x k (in-middle us x vs) h)).0, k.were_allowed);
  }
    where
      next : (a : X) → In a past ⊎ In a (us ++ x ∷ vs) → In a (x ∷ past) ⊎ In a (us ++ vs)
      next a (inl i) = inl (inr i)
      next a (inr i) = ⊎_elim (λ q. inl (inl q)) (λ q. inr q) (in-cases us x vs a i)

      from_x : (a : X) → In a (us ++ vs) → a ≡ x → ⊥
      from_x a i q =
          ⊎_elim
          (λ j. each-in (λ u. u ≡ x → ⊥) us a (pairs_left (λ b c. b ≡ c → ⊥) us x vs k.distinct) j q)
          (λ j. each-in (λ u. x ≡ u → ⊥) vs a (pairs_right (λ b c. b ≡ c → ⊥) us x vs k.distinct) j (sym q))
          (in-either us vs a i)

      away : (a : X) → In a (us ++ vs) → In a (x ∷ past) → ⊥
      away a i (inl q) = from_x a i q
      away a i (inr q) = each-in (λ u. In u past → ⊥) (us ++ vs) a (each-without _ us x vs k.apart) i q

  -- the order takes every item, each when it is allowed, and shows the same values and memory
  pub ordered_sourced : HasNoCycle (Among (comes_before does earlier needs) all) → IsDistinct all → Pairs (Keeps does (comes_before does earlier needs)) all → Shows does m all → IsSourced does m (comes_before does earlier needs) all (ordered does earlier allowed all)
  ordered_sourced none distinct order shows =
      subst (IsSourced does m (comes_before does earlier needs) all) (sym same) (greedy_sourced (comes_before does earlier needs) does m all none order shows)
    where
      begin : Kept [] all
      begin = record {
        cover = each-self _ all (λ x i. inr i);
        apart = each-self _ all (λ x i j. j);
        distinct = distinct;
        order = order;
        shows = shows;
        past_within = tt;
        past_distinct = tt;
        left_within = each-self _ all (λ x i. i);
        closed = tt;
        were_allowed = tt;
      }

      same : ordered does earlier allowed all ≡ greedy (comes_before does earlier needs) (length all) all
      same = grow_greedy (may_take does earlier allowed) (comes_before does earlier needs) Kept tells keeps (length all) [] all begin

-- each item is allowed after those before it
pick_passes : {X : Type 0} (test : X → Bool) (xs : List X) (p : X × List X) → pick_by test xs ≡ Some p → test p.0 ≡ true
pick_passes test [] p e = absurd (cc)
pick_passes {X} test (x ∷ xs) p e = by (test x) refl (λ q. pick_passes test xs q) e
  where
    inside : (o : Option (X × List X)) → ((q : X × List X) → o ≡ Some q → test q.0 ≡ true) → behind x o ≡ Some p → test p.0 ≡ true
    inside None f g = absurd (cc)
    inside (Some q) f g = let h : (q.0, x ∷ q.1) ≡ p = cc in subst (λ u. test u.0 ≡ true) h (f q refl)

    by : (b : Bool) → test x ≡ b → ((q : X × List X) → pick_by test xs ≡ Some q → test q.0 ≡ true) → cond b (Some (x, xs)) (behind x (pick_by test xs)) ≡ Some p → test p.0 ≡ true
    by true h f g = let q : (x, xs) ≡ p = cc in subst (λ u. test u.0 ≡ true) q h
    by false h f g = inside (pick_by test xs) f g

pub grow_allowed : {X : Type 0} (allows : List X → List X → X → Bool) (allowed : List X → X → Bool) → ((past left : List X) (x : X) → allows past left x ≡ true → allowed past x ≡ true) → (n : ℕ) (past left : List X) → IsAllowed allowed past (grow allows n past left)
grow_allowed allows allowed f zero past left = tt
grow_allowed {X} allows allowed f (suc n) past left = by (pick_by (allows past left) left) refl (λ x rest. grow_allowed allows allowed f n (x ∷ past) rest)
  where
    by : (o : Option (X × List X)) → pick_by (allows past left) left ≡ o → ((x : X) (rest : List X) → IsAllowed allowed (x ∷ past) (grow allows n (x ∷ past) rest)) → IsAllowed allowed past (then_rest (λ x rest. grow allows n (x ∷ past) rest) o)
    by None e g = tt
    by (Some p) e g = (f past left p.0 (pick_passes (allows past left) left p e), g p.0 p.1)

pub ordered_allowed : {X : Type 0} (does : X → List Effect) (earlier : X → X → Bool) (allowed : List X → X → Bool) (all : List X) → IsAllowed allowed [] (ordered does earlier allowed all)
ordered_allowed does earlier allowed all = grow_allowed (may_take does earlier allowed) allowed (λ past left x h. (and_parts _ _ h).0) (length all) [] all

pub orderable_sourced : {X : Type 0} (does : X → List Effect) (m : Place → Value) (earlier needs : X → X → Bool) (allowed : List X → X → Bool) (all : List X) → Orderable does m earlier needs allowed all → IsSourced does m (comes_before does earlier needs) all (ordered does earlier allowed all)
orderable_sourced {X} does m earlier needs allowed all o =
    ordered_sourced does m earlier needs allowed all o.allowed_is o.no_cycle o.distinct (pairs-map _ _ keep all o.in_order) o.shows
  where
    keep : (a b : X) → (items_conflict does a b ≡ true → earlier a b ≡ true) → items_conflict does a b ≡ true → comes_before does earlier needs a b ≡ true
    keep a b f c = or_right _ _ (and_from _ _ c (f c))
