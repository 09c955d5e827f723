-- Accesses done one by one on each node meet what the laws ask of a run, its code and a law of histories.
use Rattle.std.proofs.Common.{◌≡◌, ℕ, zero, suc, ◌<◌, ◌≤◌, List, [], ◌∷◌, length, filter, eqb-true, eq-eqb, refl, sym, ap, ◌∙◌, subst, ⊎_elim, arith, le_refl, Bool, true, false, true≢false, ◌==◌, ◌||◌}
use Rattle.std.proofs.lemmas.Bool.{both_ways, and_parts, and_from, or_cases, or_left, or_right, cases_lt}
use Rattle.sc_base.specs.declared.value.Place.{Place}
use Rattle.sc_base.specs.declared.value.Value.{Value}
use Rattle.effect_order.specs.Effect.{Effect, IsShown, same_value, held}
use Rattle.effect_order.specs.Items.{effects_of, memory_of}
use Rattle.effect_order.specs.Lists.{In, Each}
use Rattle.effect_order.specs.Order.{Edge}
use Rattle.effect_order.specs.Order.Edge.{ByBlocking}
use Rattle.effect_order.specs.Run.{Copies, story}
use Rattle.effect_order.specs.RunFacts.{Timed, Analysed}
use Rattle.effect_order.specs.Plan.{Walked, Waited, Counted, CodeFacts}
use Rattle.effect_order.specs.Directly.{WaitsDirectly}
use Rattle.effect_order.specs.Greedy.{AllowedIs, comes_before}
use Rattle.effect_order.specs.Sourced.{sooner, Tied}
use Rattle.effect_order.specs.Prefix.{first_steps}
use Rattle.effect_order.specs.Smallest.{is_of, is_next, alone, is_allowed, OneByOne, small_run, small_code}
use Rattle.effect_order.proofs.Members.{each-in, each-self, pairs-map}
use Rattle.effect_order.proofs.Equal.{value_is, value_self}
use Rattle.effect_order.proofs.Exchange.{one_memory}
use Rattle.effect_order.proofs.Prefix as Prefix
use Rattle.effect_order.proofs.Prefix.{narrower_closed}

size : (own : ℕ → ℕ → Effect) (p n : ℕ) → length (first_steps own p n) ≡ n
size own p zero = refl
size own p (suc n) = ap suc (size own p n)

effects_alone : (past : List Effect) → effects_of alone past ≡ past
effects_alone [] = refl
effects_alone (e ∷ past) = ap (λ u. e ∷ u) (effects_alone past)

-- items of one effect leave what the effects leave
held_is : (start : Place → Value) (p : Place) (past : List Effect) → memory_of alone start past p ≡ held start p past
held_is start p past = one_memory alone start p past ∙ ap (held start p) (effects_alone past)

one_effect : (e a : Effect) → e ∷ [] ≡ a ∷ [] → e ≡ a
one_effect e a h = cc

never : {A : Type 0} → true ≡ false → A
never e = absurd (true≢false e)

module _ (nodes : ℕ) (start : Place → Value) (time : Effect → ℕ) (own : ℕ → ℕ → Effect) (all : List Effect) (o : OneByOne nodes start time own all) where
  mine : (e : Effect) → is_of e.node e ≡ true
  mine e = eq-eqb e.node e.node refl

  here : (p n : ℕ) (x : Effect) → In x all → is_of p x ≡ true → x.number ≡ n → In (own p n) all × (is_of p (own p n) ≡ true) × ((own p n).number ≡ n)
  here p n x i h e =
      let own_is : own p n ≡ x = ap (own p) (sym e) ∙ o.steps.is_it p x i h in
      (subst (λ u. In u all) (sym own_is) i, subst (λ u. is_of p u ≡ true) (sym own_is) h, ap (λ (u : Effect). u.number) own_is ∙ e)

  -- the accesses of a node up to one of its own
  has : (p n : ℕ) (x : Effect) → In x all → is_of p x ≡ true → x.number ≡ n → (k : ℕ) → k ≤ n → In (own p k) all × (is_of p (own p k) ≡ true) × ((own p k).number ≡ k)
  has p zero x i h e k t = here p k x i h (omega (arith, e))
  has p (suc m) x i h e k t =
      ⊎_elim
      (λ l.
      let b = o.steps.has_earlier p x m i h e in
      has p m (own p m) b.0 b.1 (sym (o.steps.its_step p m (own p m) b.0 b.1 refl)) k (omega arith))
      (λ l. here p k x i h (omega (arith, e)))
      (cases_lt k (suc m))

  law : (earlier : Effect → Effect → Bool) → AllowedIs alone start earlier is_next (is_allowed start) all
  law earlier past left x k i = (to, from)
    where
      item : In x all
      item = each-in (λ u. In u all) left x k.left_within i

      pre : (n : ℕ) × (filter (is_of x.node) past ≡ first_steps own x.node n)
      pre = Prefix.own_prefix is_of (λ e. e.number) own is_next all o.steps x.node past k.past_within k.past_distinct (narrower_closed (comes_before alone earlier is_next) is_next all past (λ a b h. or_left _ _ h) k.closed)

      many : length (filter (is_of x.node) past) ≡ pre.0
      many = ap length pre.1 ∙ size own x.node pre.0

      to : is_allowed start past x ≡ true → Each (λ a. is_next a x ≡ true → In a past) all × IsShown (memory_of alone start past) (alone x)
      to h = (each-self _ all one, (value, tt))
        where
          parts : ((length (filter (is_of x.node) past) == x.number) ≡ true) × ((x.wrote || same_value x.value (held start x.place past)) ≡ true)
          parts = and_parts _ _ h

          one : (a : Effect) → In a all → is_next a x ≡ true → In a past
          one a j n =
              let q = and_parts (a.node == x.node) (suc a.number == x.number) n in
              let s = eqb-true (suc a.number) x.number q.1 in
              let c = eqb-true _ _ parts.0 in
              let r = Prefix.reaches own x.node pre.0 a.number (omega (arith, many)) in
              Prefix.from_filter (is_of x.node) past a (subst (In a) (sym pre.1) (subst (λ u. In u (first_steps own x.node pre.0)) (o.steps.is_it x.node a j q.0) r))

          value : x.wrote ≡ false → x.value ≡ memory_of alone start past x.place
          value r = ⊎_elim (λ w. absurd (both_ways _ r w)) (λ e. value_is _ _ e ∙ sym (held_is start x.place past)) (or_cases _ _ parts.1)

      from : Each (λ a. is_next a x ≡ true → In a past) all × IsShown (memory_of alone start past) (alone x) → is_allowed start past x ≡ true
      from h = and_from _ _ (eq-eqb _ _ (many ∙ count)) (by x.wrote refl)
        where
          taken : x.number < pre.0 → ⊥
          taken u = each-in (λ a. In a past → ⊥) left x k.apart i (Prefix.from_filter (is_of x.node) past x (subst (In x) (sym pre.1) (subst (λ a. In a (first_steps own x.node pre.0)) (o.steps.is_it x.node x item (mine x)) (Prefix.reaches own x.node pre.0 x.number u))))

          at_least : (r : ℕ) → x.number ≡ r → r ≤ pre.0
          at_least zero e = omega arith
          at_least (suc j) e =
              let b = o.steps.has_earlier x.node x j item (mine x) e in
              let c = each-in (λ a. is_next a x ≡ true → In a past) all (own x.node j) h.0 b.0 b.2 in
              let d = Prefix.in_filter (is_of x.node) past (own x.node j) c b.1 in
              Prefix.below is_of (λ e. e.number) own is_next all o.steps x.node pre.0 j (own x.node j) b.0 b.1 (sym (o.steps.its_step x.node j (own x.node j) b.0 b.1 refl)) (subst (In (own x.node j)) pre.1 d)

          count : pre.0 ≡ x.number
          count = ⊎_elim (λ u. absurd (taken u)) (λ u. omega (arith, at_least x.number refl)) (cases_lt x.number pre.0)

          by : (b : Bool) → x.wrote ≡ b → (x.wrote || same_value x.value (held start x.place past)) ≡ true
          by true e = or_left _ _ e
          by false e = or_right _ _ (value_self _ _ (h.1.0 e ∙ held_is start x.place past))

  pub tied : Tied (small_run time all) start is_next (is_allowed start) all
  tied = record {
    member = λ x i. i;
    needs_edge = edge;
    in_order = pairs-map (λ a b. time a < time b) _ (λ a b t c. t) all o.in_time;
    distinct = pairs-map (λ a b. time a < time b) _ (λ a b t e. omega (arith, t, ap time e)) all o.in_time;
    shows = o.shows;
    allowed_is = law (sooner (small_run time all));
  }
    where
      edge : (a b : Effect) → In a all → In b all → is_next a b ≡ true → Edge (story (small_run time all)) a b
      edge a b i j n =
          let q = and_parts (a.node == b.node) (suc a.number == b.number) n in
          let s = eqb-true (suc a.number) b.number q.1 in
          ByBlocking (refl, eqb-true a.node b.node q.0, omega arith)

  same_number : (e f : Effect) → In e all → In f all → e.node ≡ f.node → e.number ≡ f.number → e ≡ f
  same_number e f i j n k =
      sym (o.steps.is_it f.node e i (eq-eqb _ _ n)) ∙ ap (own f.node) k ∙ o.steps.is_it f.node f j (mine f)

  -- no access both reads and writes
  one_kind : (e f : Effect) → In e all → In f all → Copies (small_run time all) e f → time e < time f
  one_kind e f i j h =
      let same : h.2 ≡ h.3 = sym (one_effect e h.2 h.4) ∙ same_number e f i j h.0 h.1 ∙ one_effect f h.3 h.5 in
      absurd (both_ways _ (ap (λ (u : Effect). u.wrote) (sym same) ∙ h.6) h.7)

  pub timed : Timed (small_run time all)
  timed = record {
    release_moment = λ m i h. h;
    moment_release = λ t h. never (sym h);
    does_nothing = λ e i h. never h;
    release_quiet = λ m i h. never (sym h);
    release_apart = λ e m i j h k. never (sym k);
    issued = λ e i. le_refl _;
    at_once = λ e i h. refl;
    in_order = λ e f i j n t. o.numbered e f i.0 j.0 n t;
    one_issue = λ e f i j n t. ap time (same_number e f i.0 j.0 n t);
    one_point = λ e f i j a b n t. refl;
    sync_alone = λ s f i j h a n t. never h.0;
    synced = λ e s i j a b h n t. never h.0;
    copied = one_kind;
  }

  pub analysed : Analysed (small_run time all)
  analysed = record {
    across = λ e f i j c n. tt;
    own = λ e f i j c n. tt;
    own_back = λ a b h. tt;
    meet = λ e f i j c n a b l. tt;
    meet_explicit = λ a b h. tt;
  }

  own_of : (e f : Effect) (i : ℕ) → In f all → e.node ≡ f.node → i ≤ f.number → In (own e.node i) all × (e.node ≡ (own e.node i).node) × ((own e.node i).number ≡ i)
  own_of e f i j n t =
      let h = has e.node f.number f j (eq-eqb _ _ (sym n)) refl i t in
      (h.0, sym (eqb-true _ _ h.1), h.2)

  begun : (e : Effect) (i : ℕ) → In e all → i ≤ e.number → time (own e.node i) ≤ time e
  begun e i j t =
      let h = own_of e e i j refl t in
      ⊎_elim
      (λ l. let u = o.numbered (own e.node i) e h.0 j (sym h.1) (omega (arith, h.2)) in omega arith)
      (λ l. let u = ap time (same_number (own e.node i) e h.0 j (sym h.1) (omega (arith, h.2))) in omega arith)
      (cases_lt i e.number)

  waits : (e f : Effect) (i : ℕ) → In e all → In f all → e.node ≡ f.node → e.number < i → i ≤ f.number → time e < time (own f.node i)
  waits e f i a b n t u =
      let h = own_of f f i b refl u in
      o.numbered e (own f.node i) a h.0 (n ∙ h.1) (omega (arith, h.2))

  pub direct : WaitsDirectly (small_run time all) (λ e. false)
  direct = record {
    over = λ e f i p b n t h. o.numbered e f i p.0 n t;
    end_quiet = λ e i h. never (sym h);
    end_step = λ e i h. never (sym h);
    end_last = λ e f p q h n t. never (sym h);
    no_release = λ e m i j h k t. never (sym h);
  }

  pub code : CodeFacts (small_run time all) (small_code nodes time own all)
  code = record { walked = walked; waited = waited; counted = counted }
    where
      walked : Walked (small_run time all) (small_code nodes time own all)
      walked = record {
        on_way = λ e p. refl;
        goes = λ e i p t. tt;
        further = λ e f p q n t. t;
        same_at = λ e f p q n t. t;
        effect_placed = λ e i h. refl;
        sync_placed = λ s i h. refl;
        arrives_at = λ e i p t h. never (sym h);
        arrival_barrier = λ a p h. never (sym h);
        effect_no_barrier = λ e p h. refl;
      }

      waited : Waited (small_run time all) (small_code nodes time own all)
      waited = record {
        demand_barrier = λ a t b h. tt;
        one_way = λ a h. never (sym h);
        demand_delay = λ a b h. tt;
        enters_first = λ e i p t. begun e i p.0 t;
        waits = λ e f i p q a b n t u h w. waits e f i p.0 q.0 n t u;
        covered = λ m e i h p a w t. never (sym h);
      }

      counted : Counted (small_run time all) (small_code nodes time own all)
      counted = record {
        pass_after = λ p t h. never (sym h);
        release_after = λ p t s h. never (sym h);
        issue_after = λ p t h. refl;
        node_within = λ e p. o.within e p.0;
        placed_issues = λ e p. refl;
        arrival_moment = λ a p h. never (sym h);
        moment_arrival = λ p t h. never (sym h);
        stored = λ m e i h a p b t. never (sym h);
        alone = λ m e i h p. never (sym h);
      }
