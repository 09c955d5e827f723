-- The order that takes the first listed item that may be taken is the order by the three rules.
use Rattle.std.proofs.Common.{◌≡◌, ◌↔◌, ◌⊎◌, ℕ, zero, suc, ◌<◌, ◌≤◌, List, [], ◌∷◌, ◌++◌, length, length-append, filter, cond, not, ◌&&◌, Option, Some, None, refl, sym, ap, ap₂, ◌∙◌, subst, inl, inr, ⊎_elim, arith, le_refl, Bool, true, false}
use Rattle.std.proofs.lemmas.Bool.{both_ways, and_from, and_parts, cases_Bool, cases_lt, not-true, not_from_false, false_from_ne_true}
use Rattle.effect_order.specs.Effect.{Effect}
use Rattle.effect_order.specs.Items.{some_conflict, items_conflict}
use Rattle.effect_order.specs.Lists.{In, Each, Pairs, is_held}
use Rattle.effect_order.specs.Greedy.{grow, pick_by, behind, then_rest, may_take, ordered}
use Rattle.effect_order.specs.Rules.{Sorted, IsNext, StepOf, FirstRule, SecondRule, EffectFree, ThirdRule, Next, IsByRules, steps_below, listed, Took, Follows}
use Rattle.effect_order.specs.Rules.Next.{ByFirst, BySecond, ByThird}
use Rattle.effect_order.proofs.Exchange.{items-back}
use Rattle.effect_order.proofs.Members.{each-in, each-self, each-map, pairs_left, pairs_right, in-split, in-middle, in-either, held_by, not_held}
use Rattle.effect_order.proofs.Prefix.{in_filter, from_filter}
use Rattle.effect_order.proofs.Firsts.{FirstOf, NoneOf, in-front, in-back, alike, first-in, first_is_one, first_or_none, first-left, first-right, first-cases, first-map}
use Rattle.effect_order.proofs.Remains.{Without, without-none, covered, remains, stands, taken}

no_effects : (us vs : List Effect) → us ≡ [] → some_conflict us vs ≡ false
no_effects us vs e = subst (λ u. some_conflict u vs ≡ false) (sym e) (by vs)
  where
    by : (vs : List Effect) → some_conflict [] vs ≡ false
    by [] = refl
    by (v ∷ vs) = by vs

none_against : (us vs : List Effect) → vs ≡ [] → some_conflict us vs ≡ false
none_against us vs e = subst (λ u. some_conflict us u ≡ false) (sym e) refl

passes-filter : {X : Type 0} (test : X → Bool) (xs : List X) (x : X) → In x (filter test xs) → test x ≡ true
passes-filter test [] x i = absurd i
passes-filter {X} test (y ∷ xs) x i = by (test y) refl i (λ j. passes-filter test xs x j)
  where
    by : (b : Bool) → test y ≡ b → In x (cond b (y ∷ filter test xs) (filter test xs)) → (In x (filter test xs) → test x ≡ true) → test x ≡ true
    by true e (inl q) f = subst (λ u. test u ≡ true) (sym q) e
    by true e (inr j) f = f j
    by false e j f = f j

-- what the first member that passes is
record Picked {X : Type 0} (test : X → Bool) (xs : List X) (p : X × List X) : Type 0 where
  front : List X
  rest : List X
  all : xs ≡ front ++ p.0 ∷ rest
  others : p.1 ≡ front ++ rest
  passes : test p.0 ≡ true
  none : Each (λ a. test a ≡ false) front

behind-some : {X : Type 0} (x : X) (o : Option (X × List X)) (p : X × List X) → behind x o ≡ Some p → (q : X × List X) × (o ≡ Some q) × ((q.0, x ∷ q.1) ≡ p)
behind-some x None p h = absurd (cc)
behind-some x (Some q) p h = (q, refl, cc)

behind-none : {X : Type 0} (x : X) (o : Option (X × List X)) → behind x o ≡ None → o ≡ None
behind-none x None h = refl
behind-none x (Some q) h = absurd (cc)

picked : {X : Type 0} (test : X → Bool) (xs : List X) (p : X × List X) → pick_by test xs ≡ Some p → Picked test xs p
picked test [] p h = absurd (cc)
picked {X} test (x ∷ xs) p h = by (test x) refl h (λ q. picked test xs q)
  where
    by : (b : Bool) → test x ≡ b → cond b (Some (x, xs)) (behind x (pick_by test xs)) ≡ Some p → ((q : X × List X) → pick_by test xs ≡ Some q → Picked test xs q) → Picked test (x ∷ xs) p
    by true e g further =
        let h : (x, xs) ≡ p = cc in
        subst (Picked test (x ∷ xs)) h (record { front = []; rest = xs; all = refl; others = refl; passes = e; none = tt })
    by false e g further =
        let q = behind-some x (pick_by test xs) p g in
        let k = further q.0 q.1 in
        subst (Picked test (x ∷ xs)) q.2 (record { front = x ∷ k.front; rest = k.rest; all = ap (λ u. x ∷ u) k.all; others = ap (λ u. x ∷ u) k.others; passes = k.passes; none = (e, k.none) })

none_picked : {X : Type 0} (test : X → Bool) (xs : List X) → pick_by test xs ≡ None → Each (λ a. test a ≡ false) xs
none_picked test [] h = tt
none_picked {X} test (x ∷ xs) h = by (test x) refl h (none_picked test xs)
  where
    by : (b : Bool) → test x ≡ b → cond b (Some (x, xs)) (behind x (pick_by test xs)) ≡ None → (pick_by test xs ≡ None → Each (λ a. test a ≡ false) xs) → Each (λ a. test a ≡ false) (x ∷ xs)
    by true e g further = absurd (cc)
    by false e g further = (e, further (behind-none x (pick_by test xs) g))

module _ {X : Type 0} (does : X → List Effect) (earlier : X → X → Bool) (allowed follows : List X → X → Bool) (s : Sorted X) (k : Follows does earlier allowed follows s) where
  abbrev steps : ℕ → List X
  steps n = steps_below s.is_effect s.own n

  abbrev own_steps : ℕ → List X
  own_steps p = filter (λ x. not (s.is_effect x)) (s.own p)

  abbrev all : List X
  all = listed s

  abbrev before : X → X → Bool
  before a b = items_conflict does a b && earlier a b

  in_steps : (n : ℕ) (a : X) → In a (steps n) → (p : ℕ) × (p < n) × In a (s.own p) × (s.is_effect a ≡ false)
  in_steps zero a i = absurd i
  in_steps (suc n) a i =
      ⊎_elim
      (λ j. let h = in_steps n a j in (h.0, omega (arith, h.1), h.2, h.3))
      (λ j. (n, omega arith, from_filter _ (s.own n) a j, not-true _ (passes-filter (λ x. not (s.is_effect x)) (s.own n) a j)))
      (in-either (steps n) (own_steps n) a i)

  into_own : (p : ℕ) (a : X) → In a (s.own p) → s.is_effect a ≡ false → In a (own_steps p)
  into_own p a i e = in_filter (λ x. not (s.is_effect x)) (s.own p) a i (not_from_false _ e)

  into_steps : (n p : ℕ) (a : X) → p < n → In a (own_steps p) → In a (steps n)
  into_steps zero p a t i = absurd (omega arith)
  into_steps (suc n) p a t i =
      ⊎_elim
      (λ l. in-front (steps n) (own_steps n) a (into_steps n p a l i))
      (λ l. let e : p ≡ n = omega arith in in-back (steps n) (own_steps n) a (subst (λ u. In a (own_steps u)) e i))
      (cases_lt p n)

  step_item : (p : ℕ) (a : X) → p < s.nodes → In a (own_steps p) → In a all
  step_item p a t i = in-front (steps s.nodes) (s.releases ++ s.effects) a (into_steps s.nodes p a t i)

  release_item : (a : X) → In a s.releases → In a all
  release_item a i = in-back (steps s.nodes) (s.releases ++ s.effects) a (in-front s.releases s.effects a i)

  effect_item : (a : X) → In a s.effects → In a all
  effect_item a i = in-back (steps s.nodes) (s.releases ++ s.effects) a (in-back s.releases s.effects a i)

  step_quiet : (p : ℕ) (a : X) → In a (s.own p) → s.is_effect a ≡ false → does a ≡ []
  step_quiet p a i e = each-in (λ x. s.is_effect x ≡ false → does x ≡ []) (s.own p) a (k.steps_quiet p) i e

  release_quiet : (a : X) → In a s.releases → does a ≡ []
  release_quiet a i = each-in (λ x. does x ≡ []) s.releases a k.releases_quiet i

  module _ (past left : List X) (t : Took does earlier follows (listed s) past) (w : Without past (listed s) left) where
    -- not taken, and it may be taken now
    abbrev Free : X → Type 0
    Free x = (In x past → ⊥) × (may_take does earlier follows past left x ≡ true)

    cover : (a : X) → In a all → In a past ⊎ In a left
    cover a i = covered past all left a w i

    decided : (a : X) → In a all → Free a ⊎ (Free a → ⊥)
    decided a i =
        ⊎_elim
        (λ j. inr (λ f. f.0 j))
        (λ j.
        ⊎_elim
        (λ m. inl ((remains past all left a w j).1, m))
        (λ m. inr (λ f. both_ways _ m f.1))
        (cases_Bool (may_take does earlier follows past left a)))
        (cover a i)

    follows_of : (a : X) → may_take does earlier follows past left a ≡ true → follows past a ≡ true
    follows_of a h = (and_parts _ _ h).0

    -- what does nothing to cells is held by nothing
    quiet_may : (a : X) → does a ≡ [] → follows past a ≡ true → may_take does earlier follows past left a ≡ true
    quiet_may a e f =
        and_from _ _ f (not_from_false _ (false_from_ne_true _ (λ h.
        let p = held_by before a left h in
        both_ways _ (none_against (does p.0) (does a) e) (and_parts _ _ p.2).0)))

    -- ---- own steps

    to_step : (p : ℕ) (a : X) → p < s.nodes → In a (own_steps p) → Free a → StepOf does allowed s past p a
    to_step p a l i f =
        let e = not-true _ (passes-filter (λ x. not (s.is_effect x)) (s.own p) a i) in
        let h = (k.step past p a t l (from_filter _ (s.own p) a i) e f.0).0 (follows_of a f.1) in
        (h.0, e, h.1)

    from_step : (p : ℕ) (a : X) → p < s.nodes → StepOf does allowed s past p a → In a (own_steps p) × Free a
    from_step p a l h =
        let i = subst (In a) (sym h.0.2) (in-middle h.0.0 a h.0.1) in
        let f = (k.step past p a t l i h.1 h.0.4).1 (h.0, h.2) in
        (into_own p a i h.1, (h.0.4, quiet_may a (step_quiet p a i h.1) f))

    next_is_one : (xs : List X) (x y : X) → IsNext past xs x → IsNext past xs y → x ≡ y
    next_is_one xs x y g h = alike (λ a. In a past) g.0 g.1 x h.0 h.1 y (sym g.2 ∙ h.2) g.3 h.3 g.4 h.4

    node_first : (p : ℕ) (x : X) → p < s.nodes → StepOf does allowed s past p x → FirstOf Free (own_steps p) x
    node_first p x l h =
        ⊎_elim
        (λ f.
        let g = to_step p f.0 l (first-in Free (own_steps p) f.0 f.1) f.1.3 in
        subst (FirstOf Free (own_steps p)) (next_is_one (s.own p) f.0 x g.0 h.0) f.1)
        (λ n. let g = from_step p x l h in absurd (each-in (λ a. Free a → ⊥) (own_steps p) x n g.0 g.1))
        (first_or_none Free (own_steps p) (each-self _ (own_steps p) (λ a i. decided a (step_item p a l i))))

    none_below : (n : ℕ) → n ≤ s.nodes → NoneOf Free (steps n) → (p : ℕ) (y : X) → p < n → StepOf does allowed s past p y → ⊥
    none_below n b none p y l h =
        let g = from_step p y (omega arith) h in
        each-in (λ a. Free a → ⊥) (steps n) y none (into_steps n p y l g.0) g.1

    below_none : (n : ℕ) → n ≤ s.nodes → ((p : ℕ) (y : X) → p < n → StepOf does allowed s past p y → ⊥) → NoneOf Free (steps n)
    below_none n b none = each-self _ (steps n) (λ a i f.
        let h = in_steps n a i in
        none h.0 a h.1 (to_step h.0 a (omega (arith, h.1)) (into_own h.0 a h.2 h.3) f))

    abbrev Least : ℕ → X → Type 0
    Least n x = (p : ℕ) × (p < n) × StepOf does allowed s past p x × ((q : ℕ) (y : X) → q < p → StepOf does allowed s past q y → ⊥)

    to_least : (n : ℕ) (x : X) → n ≤ s.nodes → FirstOf Free (steps n) x → Least n x
    to_least zero x b f = absurd (first-in Free [] x f)
    to_least (suc n) x b f =
        ⊎_elim
        (λ g. let h = to_least n x (omega arith) g in (h.0, omega (arith, h.1), h.2, h.3))
        (λ g. (n, omega arith, to_step n x b (first-in Free (own_steps n) x g.1) g.1.3, none_below n (omega arith) g.0))
        (first-cases Free (steps n) (own_steps n) x f)

    from_least : (n : ℕ) (x : X) → n ≤ s.nodes → Least n x → FirstOf Free (steps n) x
    from_least zero x b h = absurd (omega (arith, h.1))
    from_least (suc n) x b h =
        ⊎_elim
        (λ l. first-left Free (steps n) (own_steps n) x (from_least n x (omega arith) (h.0, l, h.2, h.3)))
        (λ l.
        let e : h.0 ≡ n = omega (arith, h.1) in
        first-right Free (steps n) (own_steps n) x (below_none n (omega arith) (λ q y u. h.3 q y (omega arith))) (node_first n x b (subst (λ u. StepOf does allowed s past u x) e h.2)))
        (cases_lt h.0 n)

    -- ---- releases

    to_release : (a : X) → In a s.releases → Free a → SecondRule does allowed s past a
    to_release a i f = (k.release past a t i f.0).0 (follows_of a f.1)

    from_release : (a : X) → SecondRule does allowed s past a → In a s.releases × Free a
    from_release a h =
        let i = subst (In a) (sym h.0.2) (in-middle h.0.0 a h.0.1) in
        (i, (h.0.4, quiet_may a (release_quiet a i) ((k.release past a t i h.0.4).1 h)))

    release_first : (x : X) → SecondRule does allowed s past x → FirstOf Free s.releases x
    release_first x h =
        ⊎_elim
        (λ f.
        let g = to_release f.0 (first-in Free s.releases f.0 f.1) f.1.3 in
        subst (FirstOf Free s.releases) (next_is_one s.releases f.0 x g.0 h.0) f.1)
        (λ n. let g = from_release x h in absurd (each-in (λ a. Free a → ⊥) s.releases x n g.0 g.1))
        (first_or_none Free s.releases (each-self _ s.releases (λ a i. decided a (release_item a i))))

    -- ---- effects

    abbrev Order : X → X → Type 0
    Order a b = items_conflict does a b ≡ true → (earlier a b ≡ true) × (earlier b a ≡ false)

    to_effect : (a : X) → In a s.effects → Free a → EffectFree does allowed s past a
    to_effect a i f = (sp.0, sp.1, sp.2, f.0, (k.effect past a t i f.0).0 (follows_of a f.1), each-self _ sp.0 came)
      where
        sp : (us vs : List X) × (s.effects ≡ us ++ a ∷ vs)
        sp = in-split s.effects a i

        came : (b : X) → In b sp.0 → items_conflict does b a ≡ true → In b past
        came b j c =
            let o = each-in (λ u. Order u a) sp.0 b (pairs_left Order sp.0 a sp.1 (subst (Pairs Order) sp.2 k.in_order)) j c in
            ⊎_elim
            (λ h. h)
            (λ h. absurd (not_held before a left b (not-true (is_held before a left) (and_parts (follows past a) (not (is_held before a left)) f.1).1) h (and_from _ _ c o.0)))
            (cover b (effect_item b (subst (In b) (sym sp.2) (in-front sp.0 (a ∷ sp.1) b j))))

    from_effect : (a : X) → EffectFree does allowed s past a → In a s.effects × Free a
    from_effect a h = (i, (h.3, and_from _ _ ((k.effect past a t i h.3).1 h.4) (not_from_false _ (false_from_ne_true _ (λ e. held (held_by before a left e))))))
      where
        i : In a s.effects
        i = subst (In a) (sym h.2) (in-middle h.0 a h.1)

        pairs : Pairs Order (h.0 ++ a ∷ h.1)
        pairs = subst (Pairs Order) h.2 k.in_order

        among : (b : X) → (In b past → ⊥) → items_conflict does b a ≡ true → earlier b a ≡ true → In b h.0 ⊎ In b (a ∷ h.1) → ⊥
        among b fresh c e (inl j) = fresh (each-in (λ u. items_conflict does u a ≡ true → In u past) h.0 b h.5 j c)
        among b fresh c e (inr (inl q)) = both_ways _ (k.not_itself a) (subst (λ u. earlier u a ≡ true) q e)
        among b fresh c e (inr (inr j)) = both_ways _ (each-in (Order a) h.1 b (pairs_right Order h.0 a h.1 pairs) j (items-back does b a c)).1 e

        others : (b : X) → (In b past → ⊥) → items_conflict does b a ≡ true → earlier b a ≡ true → In b s.releases ⊎ In b s.effects → ⊥
        others b fresh c e (inl j) = both_ways _ (no_effects (does b) (does a) (release_quiet b j)) c
        others b fresh c e (inr j) = among b fresh c e (in-either h.0 (a ∷ h.1) b (subst (In b) h.2 j))

        items_ : (b : X) → (In b past → ⊥) → items_conflict does b a ≡ true → earlier b a ≡ true → In b (steps s.nodes) ⊎ In b (s.releases ++ s.effects) → ⊥
        items_ b fresh c e (inl j) = let g = in_steps s.nodes b j in both_ways _ (no_effects (does b) (does a) (step_quiet g.0 b g.2 g.3)) c
        items_ b fresh c e (inr j) = others b fresh c e (in-either s.releases s.effects b j)

        held : (b : X) × In b left × (before b a ≡ true) → ⊥
        held p =
            let g = remains past all left p.0 w p.1 in
            let c = and_parts _ _ p.2 in
            items_ p.0 g.1 c.0 c.1 (in-either (steps s.nodes) (s.releases ++ s.effects) p.0 g.0)

    effect_first : (x : X) → ThirdRule does allowed s past x → FirstOf Free s.effects x
    effect_first x h = first-map (EffectFree does allowed s past) Free s.effects x (λ a i f. (from_effect a f).1) (λ a i f. to_effect a i f) h

    first_effect : (x : X) → FirstOf Free s.effects x → ThirdRule does allowed s past x
    first_effect x f = first-map Free (EffectFree does allowed s past) s.effects x (λ a i f. to_effect a i f) (λ a i f. (from_effect a f).1) f

    -- ---- the first listed item that may be taken is that of the rules

    no_first : NoneOf Free (steps s.nodes) → (y : X) → FirstRule does allowed s past y → ⊥
    no_first n y h = none_below s.nodes (le_refl _) n h.0 y h.1 h.2

    no_second : NoneOf Free s.releases → (y : X) → SecondRule does allowed s past y → ⊥
    no_second n y h = let g = from_release y h in each-in (λ a. Free a → ⊥) s.releases y n g.0 g.1

    no_steps : ((y : X) → FirstRule does allowed s past y → ⊥) → NoneOf Free (steps s.nodes)
    no_steps none =
        ⊎_elim
        (λ f. absurd (none f.0 (to_least s.nodes f.0 (le_refl _) f.1)))
        (λ n. n)
        (first_or_none Free (steps s.nodes) (each-self _ (steps s.nodes) (λ a i. decided a (in-front (steps s.nodes) (s.releases ++ s.effects) a i))))

    no_releases : ((y : X) → SecondRule does allowed s past y → ⊥) → NoneOf Free s.releases
    no_releases none = each-self _ s.releases (λ a i f. none a (to_release a i f))

    to_next : (x : X) → FirstOf Free all x → Next does allowed s past x
    to_next x f =
        ⊎_elim
        (λ g. ByFirst (to_least s.nodes x (le_refl _) g))
        (λ g.
        ⊎_elim
        (λ h. BySecond (no_first g.0) (to_release x (first-in Free s.releases x h) h.3))
        (λ h. ByThird (no_first g.0) (no_second h.0) (first_effect x h.1))
        (first-cases Free s.releases s.effects x g.1))
        (first-cases Free (steps s.nodes) (s.releases ++ s.effects) x f)

    from_next : (x : X) → Next does allowed s past x → FirstOf Free all x
    from_next x (ByFirst h) = first-left Free (steps s.nodes) (s.releases ++ s.effects) x (from_least s.nodes x (le_refl _) h)
    from_next x (BySecond n h) =
        first-right Free (steps s.nodes) (s.releases ++ s.effects) x (no_steps n) (first-left Free s.releases s.effects x (release_first x h))
    from_next x (ByThird n m h) =
        first-right Free (steps s.nodes) (s.releases ++ s.effects) x (no_steps n) (first-right Free s.releases s.effects x (no_releases m) (effect_first x h))

    -- ---- what is picked

    first_picked : (p : X × List X) → Picked (may_take does earlier follows past left) left p → FirstOf Free all p.0
    first_picked p q =
        let h = stands past all left q.front q.rest p.0 w q.all in
        let g = remains past all left p.0 w (subst (In p.0) (sym q.all) (in-middle q.front p.0 q.rest)) in
        (h.0, h.1, h.2, (g.1, q.passes), each-map _ _ h.0 (λ a. none a) h.3)
      where
        none : (a : X) → In a past ⊎ In a q.front → Free a → ⊥
        none a (inl i) f = f.0 i
        none a (inr i) f = both_ways _ (each-in (λ u. may_take does earlier follows past left u ≡ false) q.front a q.none i) f.1

    nothing_next : Each (λ a. may_take does earlier follows past left a ≡ false) left → (x : X) → Next does allowed s past x → ⊥
    nothing_next none x h =
        let f = from_next x h in
        ⊎_elim
        (λ i. f.3.0 i)
        (λ i. both_ways _ (each-in (λ u. may_take does earlier follows past left u ≡ false) left x none i) f.3.1)
        (cover x (first-in Free all x f))

    next_took : (p : X × List X) → Picked (may_take does earlier follows past left) left p → Took does earlier follows (listed s) (p.0 ∷ past)
    next_took p q = record {
      within = (g.0, t.within);
      distinct = (each-self _ past (λ b i e. g.1 (subst (λ u. In u past) (sym e) i)), t.distinct);
      passed = (follows_of p.0 q.passes, t.passed);
      closed = (each-self _ all came, t.closed);
    }
      where
        g : In p.0 (listed s) × (In p.0 past → ⊥)
        g = remains past all left p.0 w (subst (In p.0) (sym q.all) (in-middle q.front p.0 q.rest))

        came : (a : X) → In a (listed s) → before a p.0 ≡ true → In a past
        came a i c =
            ⊎_elim
            (λ h. h)
            (λ h. absurd (not_held before p.0 left a (not-true (is_held before p.0 left) (and_parts (follows past p.0) (not (is_held before p.0 left)) q.passes).1) h c))
            (cover a i)

    next_without : (p : X × List X) → Picked (may_take does earlier follows past left) left p → Without (p.0 ∷ past) (listed s) p.1
    next_without p q = subst (Without (p.0 ∷ past) all) (sym q.others) (taken past all left q.front q.rest p.0 k.distinct w q.all)

    fewer : (n : ℕ) (p : X × List X) → Picked (may_take does earlier follows past left) left p → length left ≤ suc n → length p.1 ≤ n
    fewer n p q small = omega (arith, ap length q.all, ap length q.others, length-append q.front (p.0 ∷ q.rest), length-append q.front q.rest)

  abbrev may : List X → List X → X → Bool
  may = may_take does earlier follows

  none_left : (left : List X) → length left ≤ 0 → (test : X → Bool) → Each (λ a. test a ≡ false) left
  none_left [] small test = tt
  none_left (x ∷ xs) small test = absurd (omega arith)

  by_rules : (n : ℕ) (past left : List X) → Took does earlier follows (listed s) past → Without past (listed s) left → length left ≤ n → IsByRules does allowed s past (grow may n past left)
  by_rules zero past left t w small = nothing_next past left t w (none_left left small (may past left))
  by_rules (suc n) past left t w small = by (pick_by (may past left) left) refl (λ x rest. by_rules n (x ∷ past) rest)
    where
      by : (o : Option (X × List X)) → pick_by (may past left) left ≡ o → ((x : X) (rest : List X) → Took does earlier follows (listed s) (x ∷ past) → Without (x ∷ past) (listed s) rest → length rest ≤ n → IsByRules does allowed s (x ∷ past) (grow may n (x ∷ past) rest)) → IsByRules does allowed s past (then_rest (λ x rest. grow may n (x ∷ past) rest) o)
      by None e go = nothing_next past left t w (none_picked (may past left) left e)
      by (Some p) e go =
          let q = picked (may past left) left p e in
          (to_next past left t w p.0 (first_picked past left t w p q), go p.0 p.1 (next_took past left t w p q) (next_without past left t w p q) (fewer past left t w n p q small))

  only : (n : ℕ) (past left : List X) → Took does earlier follows (listed s) past → Without past (listed s) left → length left ≤ n → (out : List X) → IsByRules does allowed s past out → out ≡ grow may n past left
  only zero past left t w small [] h = refl
  only zero past left t w small (x ∷ out) h = absurd (nothing_next past left t w (none_left left small (may past left)) x h.0)
  only (suc n) past left t w small out h = by (pick_by (may past left) left) refl (λ x rest t w small out h. only n (x ∷ past) rest t w small out h) out h
    where
      by : (o : Option (X × List X)) → pick_by (may past left) left ≡ o → ((x : X) (rest : List X) → Took does earlier follows (listed s) (x ∷ past) → Without (x ∷ past) (listed s) rest → length rest ≤ n → (out : List X) → IsByRules does allowed s (x ∷ past) out → out ≡ grow may n (x ∷ past) rest) → (out : List X) → IsByRules does allowed s past out → out ≡ then_rest (λ x rest. grow may n (x ∷ past) rest) o
      by None e go [] h = refl
      by None e go (x ∷ out) h = absurd (nothing_next past left t w (none_picked (may past left) left e) x h.0)
      by (Some p) e go [] h =
          let q = picked (may past left) left p e in
          absurd (h p.0 (to_next past left t w p.0 (first_picked past left t w p q)))
      by (Some p) e go (x ∷ out) h =
          let q = picked (may past left) left p e in
          let same : x ≡ p.0 = first_is_one (Free past left t w) all x p.0 (from_next past left t w x h.0) (first_picked past left t w p q) in
          let rest = subst (λ u. IsByRules does allowed s (u ∷ past) out) same h.1 in
          ap₂ (λ u us. u ∷ us) same (go p.0 p.1 (next_took past left t w p q) (next_without past left t w p q) (fewer past left t w n p q small) out rest)

  nothing_taken : Took does earlier follows (listed s) []
  nothing_taken = record { within = tt; distinct = tt; passed = tt; closed = tt }

  pub ordered_by_rules : (out : List X) → IsByRules does allowed s [] out ↔ (out ≡ ordered does earlier follows (listed s))
  ordered_by_rules out =
      (λ h. only (length all) [] all nothing_taken (without-none all) (le_refl _) out h, λ e. subst (IsByRules does allowed s []) (sym e) (by_rules (length all) [] all nothing_taken (without-none all) (le_refl _)))
