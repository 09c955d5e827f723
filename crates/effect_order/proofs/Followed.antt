-- The smallest run with a barrier follows the rules of the source order, and what must precede what in it.
use Rattle.std.proofs.Common.{◌≡◌, ℕ, List, [], ◌∷◌, ◌++◌, ltb, eq-eqb, ltb-true, refl, sym, ap, subst, inl, inr, arith, Bool, true, false, not, ◌==◌, ◌&&◌}
use Rattle.std.proofs.lemmas.Bool.{both_ways, and_parts, not-true, false_from_ne_true, not_from_false}
use Rattle.effect_order.specs.Items.{memory_of, items_conflict}
use Rattle.effect_order.specs.Lists.{In, Each, Pairs, IsDistinct}
use Rattle.effect_order.specs.MustPrecede.{MustPrecede}
use Rattle.effect_order.specs.Plan.{ArrivesFor}
use Rattle.effect_order.specs.Rules.{IsNext, Took, Follows, listed}
use Rattle.effect_order.specs.Sourced.{sooner}
use Rattle.effect_order.specs.Meeting.{Row, rows, has_effect, meeting, line_code, at_start}
use Rattle.effect_order.specs.Needed.{needs, is_in, all_taken, is_shown, may_follow, row_at, rows_at, steps_of, sorted}
use Rattle.effect_order.proofs.Members.{each-in, each-self, each-map, pairs-map, pairs_left, in-split}
use Rattle.effect_order.proofs.Firsts.{in-front}
use Rattle.effect_order.proofs.Tables.{each_pair, implies, holds, in_at}
use Rattle.effect_order.proofs.Meeting.{no_effect}
use Rattle.effect_order.proofs.Needed.{from_in, taken_of}

abbrev all_within : List ℕ → Bool
all_within [] = true
all_within (n ∷ ns) = ltb n 23 && all_within ns

each_at : (ns : List ℕ) → all_within ns ≡ true → Each (λ a. In a rows) (rows_at ns)
each_at [] h = tt
each_at (n ∷ ns) h =
    let p = and_parts (ltb n 23) (all_within ns) h in
    (in_at rows n (ltb-true n 23 p.0), each_at ns p.1)

abbrev numbers : List ℕ
numbers =
    0 ∷ 2 ∷ 7 ∷ 10 ∷ 21 ∷ 3 ∷ 5 ∷ 9 ∷ 11 ∷ 22 ∷ 16 ∷
    1 ∷ 4 ∷ 6 ∷ 8 ∷ 12 ∷ 13 ∷ 14 ∷ 15 ∷ 17 ∷ 18 ∷ 19 ∷ 20 ∷ []

listed_in : Each (λ a. In a rows) (listed sorted)
listed_in = each_at numbers refl

steps_in : (b : Bool) → Each (λ a. In a rows) (steps_of b)
steps_in true = each_at (0 ∷ 2 ∷ 7 ∷ 13 ∷ 10 ∷ 17 ∷ 19 ∷ 21 ∷ []) refl
steps_in false = each_at (3 ∷ 5 ∷ 9 ∷ 12 ∷ 11 ∷ 18 ∷ 20 ∷ 22 ∷ []) refl

-- an own step that is no effect needs the node's earlier own steps
abbrev needs_test : Row → Row → Bool
needs_test a x = implies (not (has_effect x.does)) (needs a x)

steps_need : (b : Bool) → Pairs (λ a x. needs_test a x ≡ true) (steps_of b)
steps_need true = each_pair needs_test (steps_of true) refl
steps_need false = each_pair needs_test (steps_of false) refl

abbrev number_test : Row → Row → Bool
number_test a b = not (a.number == b.number)

distinct : IsDistinct (listed sorted)
distinct =
    pairs-map (λ (a b : Row). number_test a b ≡ true) (λ (a b : Row). a ≡ b → ⊥)
    (λ a b t e. both_ways (a.number == b.number) (not-true _ t) (eq-eqb _ _ (ap (λ (u : Row). u.number) e))) (listed sorted)
    (each_pair number_test (listed sorted) refl)

abbrev time_test : Row → Row → Bool
time_test a b = ltb a.time b.time && not (ltb b.time a.time)

in_order : Pairs (λ (a b : Row). items_conflict (λ (e : Row). e.does) a b ≡ true → (sooner meeting a b ≡ true) × (sooner meeting b a ≡ false)) sorted.effects
in_order =
    pairs-map (λ (a b : Row). time_test a b ≡ true)
    (λ (a b : Row). items_conflict (λ (e : Row). e.does) a b ≡ true → (sooner meeting a b ≡ true) × (sooner meeting b a ≡ false))
    (λ a b t c. let p = and_parts (ltb a.time b.time) (not (ltb b.time a.time)) t in (p.0, not-true _ p.1)) sorted.effects
    (each_pair time_test sorted.effects refl)

abbrev Past : List Row → Type 0
Past past = Took (λ (e : Row). e.does) (sooner meeting) may_follow (listed sorted) past

-- one that may follow has all that it needs
has_all : (past : List Row) (x a : Row) → Past past → may_follow past x ≡ true → In a rows → needs a x ≡ true → In a past
has_all past x a t h i n =
    let p = and_parts (all_taken past x rows) (is_shown (memory_of (λ (e : Row). e.does) at_start past) x.does) h in
    from_in a past i (each-map (λ b. In b (listed sorted)) (λ b. In b rows) past (λ b j. each-in (λ u. In u rows) (listed sorted) b listed_in j) t.within)
    (each-in (λ b. needs b x ≡ true → is_in b past ≡ true) rows a (taken_of past x rows p.0) i n)

step_next : (b : Bool) (past : List Row) (x : Row) → Past past → In x (steps_of b) → has_effect x.does ≡ false → (In x past → ⊥) → may_follow past x ≡ true → IsNext past (steps_of b) x
step_next b past x t i e fresh h = (sp.0, sp.1, sp.2, each-self (λ a. In a past) sp.0 came, fresh)
  where
    sp : (us vs : List Row) × (steps_of b ≡ us ++ x ∷ vs)
    sp = in-split (steps_of b) x i

    came : (a : Row) → In a sp.0 → In a past
    came a j =
        let n = each-in (λ u. needs_test u x ≡ true) sp.0 a (pairs_left (λ u v. needs_test u v ≡ true) sp.0 x sp.1 (subst (Pairs (λ u v. needs_test u v ≡ true)) sp.2 (steps_need b))) j in
        let k = each-in (λ u. In u rows) (steps_of b) a (steps_in b) (subst (In a) (sym sp.2) (in-front sp.0 (x ∷ sp.1) a j)) in
        has_all past x a t h k (holds (not (has_effect x.does)) (needs a x) n (not_from_false _ e))

pub follows : Follows (λ (e : Row). e.does) (sooner meeting) may_follow may_follow sorted
follows = record {
  distinct = distinct;
  steps_quiet = λ p. each-self (λ (x : Row). has_effect x.does ≡ false → x.does ≡ []) (steps_of (p == 0)) (λ x i h. no_effect x.does h);
  releases_quiet = (refl, tt);
  in_order = in_order;
  not_itself = λ x. false_from_ne_true _ (λ h. omega (arith, ltb-true x.time x.time h));
  step = λ past p x t l i e fresh. (λ h. (step_next (p == 0) past x t i e fresh h, h), λ h. h.1);
  release = λ past x t i fresh. (λ h. (alone past x i fresh, h), λ h. h.1);
  effect = λ past x t i fresh. (λ h. h, λ h. h);
}
  where
    alone : (past : List Row) (x : Row) → In x sorted.releases → (In x past → ⊥) → IsNext past sorted.releases x
    alone past x (inl q) fresh = ([], [], ap (λ u. u ∷ []) (sym q), tt, fresh)
    alone past x (inr i) fresh = absurd i

arrival_0 : ArrivesFor meeting line_code (row_at rows 10) (row_at rows 16)
arrival_0 = ((in_at rows 10 (omega arith), refl, refl), refl, refl)

arrival_1 : ArrivesFor meeting line_code (row_at rows 11) (row_at rows 16)
arrival_1 = ((in_at rows 11 (omega arith), refl, refl), refl, refl)

pub store_precedes : MustPrecede meeting line_code (row_at rows 15) (row_at rows 18)
store_precedes =
    inr (
      row_at rows 16,
      in_at rows 16 (omega arith),
      refl,
      record {
        arrival = row_at rows 10;
        arrives = arrival_0;
        after = (refl, omega arith);
        over = inr ((refl, refl, refl), (row_at rows 10, arrival_0, refl));
      },
      (row_at rows 11, arrival_1, (refl, omega arith)),
    )

pub copy_precedes : MustPrecede meeting line_code (row_at rows 6) (row_at rows 20)
copy_precedes =
    inr (
      row_at rows 16,
      in_at rows 16 (omega arith),
      refl,
      record {
        arrival = row_at rows 10;
        arrives = arrival_0;
        after = (refl, omega arith);
        over = inl (inr (row_at rows 7, (in_at rows 7 (omega arith), (refl, refl, refl), (refl, refl), (refl, omega arith)), (refl, omega arith)));
      },
      (row_at rows 11, arrival_1, (refl, omega arith)),
    )

pub write_precedes : MustPrecede meeting line_code (row_at rows 12) (row_at rows 17)
write_precedes =
    inr (
      row_at rows 16,
      in_at rows 16 (omega arith),
      refl,
      record {
        arrival = row_at rows 11;
        arrives = arrival_1;
        after = (refl, omega arith);
        over = inl (inl ((refl, refl), (refl, omega arith)));
      },
      (row_at rows 10, arrival_0, (refl, omega arith)),
    )
