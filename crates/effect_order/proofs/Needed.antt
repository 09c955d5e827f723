-- The law of histories of the smallest run with a barrier is tied to the run: it allows exactly what has all that it needs.
use Rattle.std.proofs.Common.{◌≡◌, ◌<◌, List, [], ◌∷◌, ltb, eqb-true, eq-eqb, ltb-true, le_refl, refl, sym, ap, ◌∙◌, inl, inr, ⊎_elim, arith, Bool, true, false, not, ◌==◌, ◌&&◌, ◌||◌}
use Rattle.std.proofs.lemmas.Bool.{both_ways, and_parts, and_from, or_cases, or_left, or_right, not-true}
use Rattle.sc_base.specs.declared.value.Place.{Place}
use Rattle.sc_base.specs.declared.value.Value.{Value}
use Rattle.effect_order.specs.Effect.{Effect, IsShown, same_value, held}
use Rattle.effect_order.specs.Items.{after, memory_of, Shows, items_conflict}
use Rattle.effect_order.specs.Lists.{In, Each, Pairs}
use Rattle.effect_order.specs.Order.{Edge}
use Rattle.effect_order.specs.Order.Edge.{ByBlocking, ByDone, ByWithin, ByRelease}
use Rattle.effect_order.specs.Run.{story}
use Rattle.effect_order.specs.Greedy.{AllowedIs}
use Rattle.effect_order.specs.Sourced.{sooner, Tied}
use Rattle.effect_order.specs.Meeting.{Row, rows, has_effect, line, meeting, at_start}
use Rattle.effect_order.specs.Needed.{row_at, needs, is_in, all_taken, is_shown, may_follow}
use Rattle.effect_order.proofs.Equal.{value_is, value_self}
use Rattle.effect_order.proofs.Members.{each-in, each-self, pairs-map}
use Rattle.effect_order.proofs.Moments.{blocking_of}
use Rattle.effect_order.proofs.Tables.{each_two, each_pair, implies, holds}
use Rattle.effect_order.proofs.Meeting.{earlier, together, is_sync}

-- why what is needed must come before: a test for each reason
abbrev by_blocking : Row → Row → Bool
by_blocking a b = earlier a b && (has_effect a.does && line.is_blocking a.point)

abbrev by_own : Row → Row → Bool
by_own a b = earlier a b && (not (has_effect a.does) && (not a.is_release && not b.is_release))

abbrev by_sync : Row → Row → Bool
by_sync a b = earlier a b && (has_effect a.does && (line.is_split a.point && is_sync b))

abbrev by_step : Row → Row → Bool
by_step a b = together a b && (has_effect b.does && (not a.is_release && ltb a.time b.time))

abbrev by_release : Row → Row → Bool
by_release a b = (a.is_release || b.is_release) && ltb a.time b.time

abbrev edge_test : Row → Row → Bool
edge_test a b = implies (needs a b) (by_blocking a b || (by_own a b || (by_sync a b || (by_step a b || by_release a b))))

from_blocking : (a b : Row) → by_blocking a b ≡ true → Edge (story meeting) a b
from_blocking a b h =
    let p = and_parts (earlier a b) (has_effect a.does && line.is_blocking a.point) h in
    let q = and_parts (a.node == b.node) (ltb a.step b.step) p.0 in
    let e = and_parts (has_effect a.does) (line.is_blocking a.point) p.1 in
    ByBlocking (blocking_of _ _ e.0 ∙ e.1, eqb-true _ _ q.0, ltb-true _ _ q.1)

from_own : (a b : Row) → by_own a b ≡ true → Edge (story meeting) a b
from_own a b h =
    let p = and_parts (earlier a b) (not (has_effect a.does) && (not a.is_release && not b.is_release)) h in
    let q = and_parts (a.node == b.node) (ltb a.step b.step) p.0 in
    let e = and_parts (not (has_effect a.does)) (not a.is_release && not b.is_release) p.1 in
    let f = and_parts (not a.is_release) (not b.is_release) e.1 in
    ByDone (inl (not-true _ e.0, not-true _ f.0, not-true _ f.1, eqb-true _ _ q.0, ltb-true _ _ q.1))

from_sync : (a b : Row) → In b rows → by_sync a b ≡ true → Edge (story meeting) a b
from_sync a b i h =
    let p = and_parts (earlier a b) (has_effect a.does && (line.is_split a.point && is_sync b)) h in
    let q = and_parts (a.node == b.node) (ltb a.step b.step) p.0 in
    let e = and_parts (has_effect a.does) (line.is_split a.point && is_sync b) p.1 in
    let f = and_parts (line.is_split a.point) (is_sync b) e.1 in
    let g = and_parts (not (has_effect b.does)) (not b.is_release && line.is_sync b.point) f.1 in
    let k = and_parts (not b.is_release) (line.is_sync b.point) g.1 in
    ByDone (inr (record {
      effect = e.0;
      splits = f.0;
      sync = b;
      member = i;
      is_sync = (not-true _ g.0, not-true _ k.0, k.1);
      node = eqb-true _ _ q.0;
      step = ltb-true _ _ q.1;
      node_to = refl;
      step_to = le_refl _;
      no_release_to = not-true _ k.0;
    }))

from_step : (a b : Row) → by_step a b ≡ true → Edge (story meeting) a b
from_step a b h =
    let p = and_parts (together a b) (has_effect b.does && (not a.is_release && ltb a.time b.time)) h in
    let q = and_parts (a.node == b.node) (a.step == b.step) p.0 in
    let e = and_parts (has_effect b.does) (not a.is_release && ltb a.time b.time) p.1 in
    let f = and_parts (not a.is_release) (ltb a.time b.time) e.1 in
    ByWithin (e.0, not-true _ f.0, eqb-true _ _ q.0, eqb-true _ _ q.1, ltb-true _ _ f.1)

from_release : (a b : Row) → by_release a b ≡ true → Edge (story meeting) a b
from_release a b h =
    let p = and_parts (a.is_release || b.is_release) (ltb a.time b.time) h in
    ByRelease (or_cases a.is_release b.is_release p.0, ltb-true _ _ p.1)

edge : (a b : Row) → In a rows → In b rows → needs a b ≡ true → Edge (story meeting) a b
edge a b i j n =
    ⊎_elim
    (λ h. from_blocking a b h)
    (λ h.
    ⊎_elim
    (λ h. from_own a b h)
    (λ h.
    ⊎_elim
    (λ h. from_sync a b j h)
    (λ h. ⊎_elim (λ h. from_step a b h) (λ h. from_release a b h) (or_cases (by_step a b) (by_release a b) h))
    (or_cases (by_sync a b) (by_step a b || by_release a b) h))
    (or_cases (by_own a b) (by_sync a b || (by_step a b || by_release a b)) h))
    (or_cases (by_blocking a b) (by_own a b || (by_sync a b || (by_step a b || by_release a b))) (holds _ _ (each_two edge_test refl a b i j) n))

-- a row is the one with its number
its_number : Each (λ a. row_at rows a.number ≡ a) rows
its_number = (refl, (refl, (refl, (refl, (refl, (refl, (refl, (refl, (refl, (refl, (refl, (refl, (refl, (refl, (refl, (refl, (refl, (refl, (refl, (refl, (refl, (refl, (refl, tt)))))))))))))))))))))))

pub same_row : (a b : Row) → In a rows → In b rows → a.number ≡ b.number → a ≡ b
same_row a b i j e =
    sym (each-in (λ u. row_at rows u.number ≡ u) rows a its_number i) ∙ ap (row_at rows) e ∙ each-in (λ u. row_at rows u.number ≡ u) rows b its_number j

pub from_in : (a : Row) (past : List Row) → In a rows → Each (λ b. In b rows) past → is_in a past ≡ true → In a past
from_in a [] i w h = absurd (cc)
from_in a (b ∷ past) i w h =
    ⊎_elim
    (λ e. inl (same_row a b i w.0 (eqb-true _ _ e)))
    (λ e. inr (from_in a past i w.1 e))
    (or_cases (a.number == b.number) (is_in a past) h)

to_in : (a : Row) (past : List Row) → In a past → is_in a past ≡ true
to_in a [] i = absurd i
to_in a (b ∷ past) (inl q) = or_left (a.number == b.number) (is_in a past) (eq-eqb _ _ (ap (λ (u : Row). u.number) q))
to_in a (b ∷ past) (inr i) = or_right (a.number == b.number) (is_in a past) (to_in a past i)

pub taken_of : (past : List Row) (x : Row) (others : List Row) → all_taken past x others ≡ true → Each (λ a. needs a x ≡ true → is_in a past ≡ true) others
taken_of past x [] h = tt
taken_of past x (a ∷ others) h =
    let p = and_parts (not (needs a x) || is_in a past) (all_taken past x others) h in
    (λ n. holds (needs a x) (is_in a past) p.0 n, taken_of past x others p.1)

taken_from : (past : List Row) (x : Row) (others : List Row) → Each (λ a. needs a x ≡ true → is_in a past ≡ true) others → all_taken past x others ≡ true
taken_from past x [] e = refl
taken_from past x (a ∷ others) e =
    and_from (not (needs a x) || is_in a past) (all_taken past x others) (one (needs a x) (is_in a past) e.0) (taken_from past x others e.1)
  where
    one : (b c : Bool) → (b ≡ true → c ≡ true) → (not b || c) ≡ true
    one true c f = f refl
    one false c f = refl

shown_of : (memory : Place → Value) (es : List Effect) → is_shown memory es ≡ true → IsShown memory es
shown_of memory [] h = tt
shown_of memory (e ∷ es) h =
    let p = and_parts (e.wrote || same_value e.value (held memory e.place es)) (is_shown memory es) h in (
      λ r. ⊎_elim (λ w. absurd (both_ways _ r w)) (λ v. value_is _ _ v) (or_cases e.wrote (same_value e.value (held memory e.place es)) p.0),
      shown_of memory es p.1,
    )

shown_from : (memory : Place → Value) (es : List Effect) → IsShown memory es → is_shown memory es ≡ true
shown_from memory [] s = refl
shown_from memory (e ∷ es) s =
    and_from (e.wrote || same_value e.value (held memory e.place es)) (is_shown memory es) (one e.wrote (same_value e.value (held memory e.place es)) (λ w. value_self _ _ (s.0 w))) (shown_from memory es s.1)
  where
    one : (b c : Bool) → (b ≡ false → c ≡ true) → (b || c) ≡ true
    one true c f = refl
    one false c f = f refl

-- the items show what the places hold
abbrev all_shown : (Place → Value) → List Row → Bool
all_shown memory [] = true
all_shown memory (x ∷ xs) = is_shown memory x.does && all_shown (after (λ (e : Row). e.does) memory x) xs

shows_of : (memory : Place → Value) (xs : List Row) → all_shown memory xs ≡ true → Shows (λ (e : Row). e.does) memory xs
shows_of memory [] h = tt
shows_of memory (x ∷ xs) h =
    let p = and_parts (is_shown memory x.does) (all_shown (after (λ (e : Row). e.does) memory x) xs) h in
    (shown_of memory x.does p.0, shows_of (after (λ (e : Row). e.does) memory x) xs p.1)

law : AllowedIs (λ (e : Row). e.does) at_start (sooner meeting) needs may_follow rows
law past left x k i = (to, from)
  where
    to : may_follow past x ≡ true → Each (λ a. needs a x ≡ true → In a past) rows × IsShown (memory_of (λ (e : Row). e.does) at_start past) x.does
    to h =
        let p = and_parts (all_taken past x rows) (is_shown (memory_of (λ (e : Row). e.does) at_start past) x.does) h in
        let t = taken_of past x rows p.0 in (
          each-self (λ a. needs a x ≡ true → In a past) rows (λ a j n. from_in a past j k.past_within (each-in (λ a. needs a x ≡ true → is_in a past ≡ true) rows a t j n)),
          shown_of (memory_of (λ (e : Row). e.does) at_start past) x.does p.1,
        )

    from : Each (λ a. needs a x ≡ true → In a past) rows × IsShown (memory_of (λ (e : Row). e.does) at_start past) x.does → may_follow past x ≡ true
    from h =
        and_from (all_taken past x rows) (is_shown (memory_of (λ (e : Row). e.does) at_start past) x.does)
        (taken_from past x rows (each-self (λ a. needs a x ≡ true → is_in a past ≡ true) rows (λ a j n. to_in a past (each-in (λ a. needs a x ≡ true → In a past) rows a h.0 j n))))
        (shown_from (memory_of (λ (e : Row). e.does) at_start past) x.does h.1)

by_time : Pairs (λ (a b : Row). ltb a.time b.time ≡ true) rows
by_time = each_pair (λ a b. ltb a.time b.time) rows refl

pub tied : Tied meeting at_start needs may_follow rows
tied = record {
  member = λ x i. i;
  needs_edge = edge;
  in_order = pairs-map (λ (a b : Row). ltb a.time b.time ≡ true) (λ (a b : Row). items_conflict (λ (e : Row). e.does) a b ≡ true → a.time < b.time) (λ a b t c. ltb-true a.time b.time t) rows by_time;
  distinct = pairs-map (λ (a b : Row). ltb a.time b.time ≡ true) (λ (a b : Row). a ≡ b → ⊥) (λ a b t e. omega (arith, ltb-true a.time b.time t, ap (λ (u : Row). u.time) e)) rows by_time;
  shows = shows_of at_start rows refl;
  allowed_is = law;
}
