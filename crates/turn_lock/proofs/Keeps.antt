-- Each step of a turn keeps the rule.
use Rattle.std.proofs.Common.{◌≡◌, ◌≢◌, ℕ, zero, suc, ◌+◌, ◌%◌, ◌^◌, ◌<◌, ◌≤◌, ◌==◌, ◌⊎◌, Bool, true, false, leb, List, [], ◌∷◌, ◌++◌, length, set, get_or, sym, refl, ap, ◌∙◌, subst, ⊎_elim, arith, length-append, mod-eq_of_lt, leb-true, leb-false, Option, Some, None}
use mathlib.Core.Option.{some, none, some-injective, some-ne-none}
use Rattle.std.specs.List.{range_with_len}
use Rattle.std.proofs.lemmas.List.FromFn.{length-range_with_len}
use mathlib.Core.Logic.{dite}
use mathlib.Core.List.{IsPrefix}
use native.Mathlib.Decide.{ℕ_discrete, dec_le}
use lib.ListN.{get_elem?}
use lib.Seq.{set-get_or}
use Rattle.atomic_table.specs.Table.{State, step, keeps, takes, gives, put_back, Allows, Splits, Joins, Final, Seen, opening, rest}
use Rattle.atomic_table.proofs.Lists.{at_set, at_snoc, set_again, set_else, one_turn}
use Rattle.turn_lock.specs.declared.rule.View.{View}
use Rattle.turn_lock.specs.declared.rule.Stage.{Stage}
use Rattle.turn_lock.specs.declared.rule.Stage.TheVariants.{Idle, Waiting, Holding}
use Rattle.turn_lock.specs.Words.{of_lane, IsOpen, ClosesLast, mark, times, total, least, without}
use Rattle.turn_lock.specs.Rule.{has_this, has_one, has_turn, ticket_of, view, newcomer, given, left, put_together, both, spent, InStage, Fits, Kept, Sat, drew, Gains, looked, published, passed, heard}
use Rattle.turn_lock.proofs.Lanes.{whole, prefix_more, of_two, other_lane, between, closes_last, times-append, times-without, length-without, least_there, no_lane, times-range-in, times-range-past}
use Rattle.turn_lock.proofs.Joined.{stage_both, lanes_both}
use Rattle.turn_lock.proofs.Totals.{total_set, total_same, total_snoc, total_has, total_two, total_le, total_gap, total_zero, this_one, not_this, one_later}

module _ {T E : Type 0} (entries : T → List E) (lane : E → ℕ) (closes : E → Bool) (lanes : ℕ) where
  -- the view of a seat
  abbrev V : Type 0
  V = View E

  -- the table as plain data
  abbrev St : Type 0
  St = State (Option T) V

  -- a seat, with the slots that it has
  abbrev M : Type 0
  M = Sat T E

  -- the rule for these lanes
  abbrev Rule : St → Type 0
  Rule = Kept entries lane closes lanes

  -- 1 where the view has the ticket t
  abbrev this : ℕ → V → ℕ
  this t v = has_this t v.stage

  -- 1 where the view has some ticket
  abbrev one : V → ℕ
  one v = has_one v.stage

  -- 1 where the view has the turn
  abbrev out : V → ℕ
  out v = has_turn v.stage

  -- how often the view owns the lane k
  abbrev own : ℕ → V → ℕ
  own k v = times k v.lanes

  -- how many lanes the view owns
  abbrev count : V → ℕ
  count v = length v.lanes

  -- what fits each view still fits, where only one view changed
  views_stay : (P : ℕ → V → Type 0) (vs : List V) (me : ℕ) (w : V) → P me w → ((j : ℕ) (u : V) → j ≢ me → get_elem? vs j ≡ some u → P j u)
      → (j : ℕ) (u : V) → get_elem? (set vs me w) j ≡ some u → P j u
  views_stay P vs me w mine others j u e = ⊎_elim (λ (t : (j ≡ me) × (w ≡ u)). subst (λ (x : ℕ × V). P x.0 x.1) (λ i. (sym t.0 i, t.1 i)) mine)
      (λ (t : (j ≢ me) × (get_elem? vs j ≡ some u)). others j u t.0 t.1) (at_set vs me j w u e)

  -- a view that was told nothing
  fresh : (log : List E) (serving : ℕ) (seen : List E) (ls : List ℕ) (st : Stage) → IsPrefix seen log → ((k : ℕ) → 0 < times k ls → of_lane lane k seen ≡ of_lane lane k log)
      → InStage log serving seen ls st → Fits lane log serving (view seen ls st)
  fresh log serving seen ls st before own stage = record { before = before; own = own; stage = stage; told = (log, refl); told_mine = λ k. omega arith; told_own = λ k h. absurd (omega arith) }

  -- a view without the turn fits a stage that moved on
  still_in : (log log' : List E) (serving serving' : ℕ) (seen : List E) (ls : List ℕ) (st : Stage) → has_turn st ≡ 0 → InStage log serving seen ls st → InStage log' serving' seen ls st
  still_in log log' serving serving' seen ls Idle z h = tt
  still_in log log' serving serving' seen ls (Waiting a) z h = h
  still_in log log' serving serving' seen ls (Holding a) z h = absurd (omega arith)

  -- a view without the turn still fits when another ticket is served
  moved : (log : List E) (serving serving' : ℕ) (u : V) → has_turn u.stage ≡ 0 → Fits lane log serving u → Fits lane log serving' u
  moved log serving serving' u z f = record { before = f.before; own = f.own; stage = still_in log log serving serving' u.seen u.lanes u.stage z f.stage; told = f.told; told_mine = f.told_mine; told_own = f.told_own }

  -- the turn has the ticket that is served
  turn_is_served : (log : List E) (serving : ℕ) (v : V) → Fits lane log serving v → out v ≤ this serving v
  turn_is_served log serving v f = go v.stage f.stage where
    go : (st : Stage) → InStage log serving v.seen v.lanes st → has_turn st ≤ has_this serving st
    go Idle h = omega arith
    go (Waiting a) h = omega arith
    go (Holding a) h = let e = this_one serving in subst (λ t. 1 ≤ mark (t == serving)) (sym h.1) (omega arith)

  -- who has a ticket owns a lane
  ticket_has_lane : (log : List E) (serving : ℕ) (v : V) → Fits lane log serving v → one v ≤ count v
  ticket_has_lane log serving v f = go v.stage f.stage where
    go : (st : Stage) → InStage log serving v.seen v.lanes st → has_one st ≤ count v
    go Idle h = omega arith
    go (Waiting a) h = omega arith
    go (Holding a) h = let l = h.0 in omega arith

  -- no ticket is with two views
  this_at_most : (s : St) (r : Rule s) (t : ℕ) → total (this t) s.views ≤ 1
  this_at_most s r t = dite (dec_le r.serving t)
      (λ a. dite (dec_le r.next t) (λ b. let e = r.ahead t b in omega arith) (λ b. let e = r.held t a (omega arith) in omega arith))
      (λ a. let e = r.past t (omega arith) in omega arith)

  -- no two views have the turn
  turns_at_most : (s : St) (r : Rule s) → total out s.views ≤ 1
  turns_at_most s r = let a = total_le out (this r.serving) s.views (λ j u e. turn_is_served r.log r.serving u (r.each_view j u e)) in let b = this_at_most s r r.serving in omega arith

  -- fewer wait than there are lanes
  few_wait : (s : St) (r : Rule s) → r.next ≤ r.serving + lanes
  few_wait s r = let a = total_le one count s.views (λ j u e. ticket_has_lane r.log r.serving u (r.each_view j u e)) in let b = r.waiting in let c = r.all_owned in omega arith

  -- to draw a ticket keeps the rule
  pub draws : (slots id : ℕ) (me : M) → me.0.stage ≡ Idle → 0 < count me.0 → Allows Rule slots id me 0 (λ n. (n + 1) % 2 ^ 64) (drew (step slots 0 1 0 none) me)
  draws slots id me idle some_lane s r _ at _ =
      let v : V = me.0 in let n : ℕ = r.next in let w : V = view v.seen v.lanes (Waiting n) in let fit = r.each_view id v at in
      let sum : (t : ℕ) → total (this t) (set s.views id w) ≡ total (this t) s.views + mark (n == t) = λ t.
      let e = total_set (this t) s.views id v w at in let z : this t v ≡ 0 = ap (has_this t) idle in omega arith in
      let others : (t : ℕ) → n ≢ t → total (this t) (set s.views id w) ≡ total (this t) s.views = λ t ne. let a = sum t in let b = not_this n t ne in omega arith in
      let turns : total out (set s.views id w) ≡ total out s.views = total_same out s.views id v w at (sym (ap has_turn idle)) in (
        w,
        keeps,
        tt,
        record {
          log = r.log;
          next = n + 1;
          serving = r.serving;
          few = r.few;
          short = r.short;
          ends = r.ends;
          words = ap (λ ws. set ws 0 ((get_or ws 0 0 + 1) % 2 ^ 64)) r.words ∙ ap (λ k. k ∷ r.serving % 2 ^ 64 ∷ length r.log ∷ []) (one_later n);
          waiting = let e = total_set one s.views id v w at in let z : one v ≡ 0 = ap has_one idle in let b = r.waiting in omega arith;
          held = λ t a b. dite (ℕ_discrete n t)
              (λ is. let e = sum t in let z = r.ahead t (omega arith) in let o : mark (n == t) ≡ 1 = subst (λ k. mark (n == k) ≡ 1) is (this_one n) in omega arith)
              (λ ne. others t ne ∙ r.held t a (omega arith));
          past = λ t a. let b = r.waiting in others t (λ e. omega arith) ∙ r.past t a;
          ahead = λ t a. others t (λ e. omega arith) ∙ r.ahead t (omega arith);
          owned = λ k a. total_same (own k) s.views id v w at refl ∙ r.owned k a;
          common = λ k a. total_same (own k) s.views id v w at refl ∙ r.common k a;
          all_owned = total_same count s.views id v w at refl ∙ r.all_owned;
          each_view = views_stay (λ j u. Fits lane r.log r.serving u) s.views id w (fresh r.log r.serving v.seen v.lanes (Waiting n) fit.before fit.own some_lane) (λ j u _. r.each_view j u);
          home = λ z. r.home (sym turns ∙ z);
          away = λ z. r.away (subst (λ k. 0 < k) turns z);
        },
        (n, ap (λ ws. get_or ws 0 0) r.words, refl),
      )

  -- a ticket that a view has is served now or later
  in_line : (s : St) (r : Rule s) (id : ℕ) (v : V) (t : ℕ) → get_elem? s.views id ≡ some v → 1 ≤ this t v → (r.serving ≤ t) × (t < r.next)
  in_line s r id v t at has = let h = total_has (this t) s.views id v at in
      dite (dec_le r.serving t) (λ a. dite (dec_le r.next t) (λ b. let e = r.ahead t b in absurd (omega arith)) (λ b. (a, omega arith)))
      (λ a. let e = r.past t (omega arith) in absurd (omega arith))

  -- to look at the served ticket keeps the rule, and gives the turn where it is the own one
  pub looks : (slots id : ℕ) (me : M) (t : ℕ) → me.0.stage ≡ Waiting t → Allows Rule slots id me 1 (λ n. n) (looked entries lane closes (step slots 1 0 0 none) me)
  looks slots id me t waits s r _ at _ =
      let v : V = me.0 in let fit = r.each_view id v at in let found : ℕ = get_or s.words 1 0 in let m : ℕ = 2 ^ 64 in
      let served : found ≡ r.serving % m = ap (λ ws. get_or ws 1 0) r.words in
      let some_lane : 0 < length v.lanes = subst (InStage r.log r.serving v.seen v.lanes) waits fit.stage in
      let mine : this t v ≡ 1 = ap (has_this t) waits ∙ this_one t in
      dite (ℕ_discrete found (t % m))
      (λ hit.
      let near = in_line s r id v t at (omega arith) in let few = few_wait s r in let small = r.few in
      let is : r.serving ≡ t = one_turn r.serving t m near.0 (omega arith) (sym served ∙ hit) in
      let free : total out s.views ≡ 0 =
      let a = total_gap out (this r.serving) 1 s.views id v (λ j u e. turn_is_served r.log r.serving u (r.each_view j u e)) at
      (let z : out v ≡ 0 = ap has_turn waits in let o : this r.serving v ≡ 1 = ap (λ k. this k v) is ∙ mine in omega arith) in
      let b = this_at_most s r r.serving in omega arith in
      let h = r.home free in let w : V = view (entries h.0) v.lanes (Holding t) in (
        w,
        takes 0 (Some h.0),
        ap (λ hs. get_elem? hs 0) h.1,
        record {
          log = r.log;
          next = r.next;
          serving = r.serving;
          few = r.few;
          short = r.short;
          ends = r.ends;
          words = set-get_or s.words 1 0 ∙ r.words;
          waiting = ap (λ k. r.serving + k) (total_same one s.views id v w at (sym (ap has_one waits))) ∙ r.waiting;
          held = λ k a b. total_same (this k) s.views id v w at (sym (ap (has_this k) waits)) ∙ r.held k a b;
          past = λ k a. total_same (this k) s.views id v w at (sym (ap (has_this k) waits)) ∙ r.past k a;
          ahead = λ k a. total_same (this k) s.views id v w at (sym (ap (has_this k) waits)) ∙ r.ahead k a;
          owned = λ k a. total_same (own k) s.views id v w at refl ∙ r.owned k a;
          common = λ k a. total_same (own k) s.views id v w at refl ∙ r.common k a;
          all_owned = total_same count s.views id v w at refl ∙ r.all_owned;
          each_view = views_stay (λ j u. Fits lane r.log r.serving u) s.views id w
              (fresh r.log r.serving (entries h.0) v.lanes (Holding t) (whole (entries h.0) r.log h.2) (λ k _. ap (of_lane lane k) h.2) (some_lane, sym is, h.2)) (λ j u _. r.each_view j u);
          home = λ z. let e = total_set out s.views id v w at in let q : out v ≡ 0 = ap has_turn waits in absurd (omega arith);
          away = λ _. ap (λ hs. set hs 0 none) h.1;
        },
        λ k same. let e : t ≡ k = ap ticket_of (sym waits ∙ same) in (
          (λ _. subst (λ a. Gains entries lane closes a me (w, (0, Some h.0) ∷ me.1)) e
              record { value = h.0; is = refl; begins = subst (IsPrefix v.seen) (sym h.2) fit.before; own = λ j has. ap (of_lane lane j) h.2 ∙ sym (fit.own j has); ends = subst (ClosesLast lane closes) (sym h.2) r.ends }),
          λ no. absurd (no (hit ∙ ap (λ a. a % m) e)),
        ),
      ))
      (λ miss.
      let P : List ℕ × List V → Type 0 = λ x. Rule record { words = x.0; homes = s.homes; views = x.1 } in (
        v,
        keeps,
        tt,
        subst P (λ i. (sym (set-get_or s.words 1 0) i, sym (set_again s.views id v at) i)) r,
        λ k same. let e : t ≡ k = ap ticket_of (sym waits ∙ same) in ((λ yes. absurd (miss (yes ∙ ap (λ a. a % m) (sym e)))), λ _. refl),
      ))

  -- to pass on keeps the rule, if the slot is full and its value stands for what was seen
  pub passes : (slots id : ℕ) (me : M) (t : ℕ) (value : T) → me.0.stage ≡ Holding t → me.1 ≡ (0, Some value) ∷ rest me.1 → entries value ≡ me.0.seen
      → Allows Rule slots id me 1 (λ n. (n + 1) % 2 ^ 64) (passed (step slots 1 1 0 none) me)
  passes slots id me t value holds has full s r _ at _ =
      let v : V = me.0 in let w : V = view v.seen v.lanes Idle in let fit = r.each_view id v at in let n : ℕ = r.serving in let vs : List V = set s.views id w in
      let st = subst (InStage r.log n v.seen v.lanes) holds fit.stage in let is : t ≡ n = st.1 in
      let sum : (k : ℕ) → total (this k) vs + mark (n == k) ≡ total (this k) s.views = λ k.
      let e = total_set (this k) s.views id v w at in let z : this k v ≡ mark (n == k) = ap (has_this k) holds ∙ ap (λ a. mark (a == k)) is in omega arith in
      let others : (k : ℕ) → n ≢ k → total (this k) vs ≡ total (this k) s.views = λ k ne. let a = sum k in let b = not_this n k ne in omega arith in
      let turn : out v ≡ 1 = ap has_turn holds in
      let none_out : total out vs ≡ 0 = let e = total_set out s.views id v w at in let most = turns_at_most s r in omega arith in
      let gone : s.homes ≡ none ∷ [] = r.away (let h = total_has out s.views id v at in omega arith) in
      let line = in_line s r id v n at (let e : this n v ≡ 1 = ap (has_this n) holds ∙ (ap (λ a. mark (a == n)) is ∙ this_one n) in omega arith) in (
        w,
        gives,
        tt,
        record {
          log = r.log;
          next = r.next;
          serving = n + 1;
          few = r.few;
          short = r.short;
          ends = r.ends;
          words = ap (λ ws. set ws 1 ((get_or ws 1 0 + 1) % 2 ^ 64)) r.words ∙ ap (λ k. r.next % 2 ^ 64 ∷ k ∷ length r.log ∷ []) (one_later n);
          waiting = let e = total_set one s.views id v w at in let z : one v ≡ 1 = ap has_one holds in let b = r.waiting in omega arith;
          held = λ k a b. others k (λ e. omega arith) ∙ r.held k (omega arith) b;
          past = λ k a. dite (ℕ_discrete n k)
              (λ e. let b = sum k in let c = r.held k (omega arith) (omega arith) in let o : mark (n == k) ≡ 1 = subst (λ j. mark (n == j) ≡ 1) e (this_one n) in omega arith)
              (λ ne. others k ne ∙ r.past k (omega arith));
          ahead = λ k a. others k (λ e. omega arith) ∙ r.ahead k a;
          owned = λ k a. total_same (own k) s.views id v w at refl ∙ r.owned k a;
          common = λ k a. total_same (own k) s.views id v w at refl ∙ r.common k a;
          all_owned = total_same count s.views id v w at refl ∙ r.all_owned;
          each_view = λ j u e. let quiet : out u ≡ 0 = (let h = total_has out vs j u e in omega arith) in
              views_stay (λ j' u'. has_turn u'.stage ≡ 0 → Fits lane r.log (n + 1) u') s.views id w (λ _. fresh r.log (n + 1) v.seen v.lanes Idle fit.before fit.own tt)
              (λ j' u' _ e' q. moved r.log n (n + 1) u' q (r.each_view j' u' e')) j u e quiet;
          home = λ _. (value, (λ i. put_back (gone i) (has i)), full ∙ st.2);
          away = λ z. absurd (omega arith);
        },
        refl,
      )

  -- where one view has the lane k, no other has it
  only_mine : (s : St) (r : Rule s) (id j : ℕ) (v u : V) (k : ℕ) → j ≢ id → get_elem? s.views id ≡ some v → get_elem? s.views j ≡ some u → 0 < own k v → own k u ≡ 0
  only_mine s r id j v u k ne at there has = let two = total_two (own k) s.views id j v u ne at there in
      dite (dec_le lanes k) (λ a. let e = r.common k a in omega arith) (λ a. let e = r.owned k (omega arith) in omega arith)

  -- a lane that an entry may be added to is no other view's
  not_theirs : (s : St) (r : Rule s) (id j : ℕ) (v u : V) (k : ℕ) → j ≢ id → get_elem? s.views id ≡ some v → get_elem? s.views j ≡ some u → (lanes ≤ k) ⊎ (0 < own k v) → own k u ≡ 0
  not_theirs s r id j v u k ne at there may = ⊎_elim (λ c. let h = total_has (own k) s.views j u there in let e = r.common k c in omega arith) (λ o. only_mine s r id j v u k ne at there o) may

  -- a view without the turn, in whose lanes nothing is added, fits the longer list
  added : (log : List E) (serving : ℕ) (u : V) (e : E) → has_turn u.stage ≡ 0 → own (lane e) u ≡ 0 → Fits lane log serving u → Fits lane (log ++ e ∷ []) serving u
  added log serving u e z none_here f =
      let other : (k : ℕ) → 0 < own k u → lane e ≢ k = λ k h is. (let q : own (lane e) u ≡ own k u = ap (λ n. own n u) is in absurd (omega arith)) in record {
        before = prefix_more u.seen log (e ∷ []) f.before;
        own = λ k h. f.own k h ∙ sym (other_lane lane k log e (other k h));
        stage = still_in log (log ++ e ∷ []) serving serving u.seen u.lanes u.stage z f.stage;
        told = prefix_more u.told log (e ∷ []) f.told;
        told_mine = f.told_mine;
        told_own = λ k h. let m = f.told_mine k in f.told_own k h ∙ sym (other_lane lane k log e (other k (omega arith)));
      }

  -- to publish one entry keeps the rule, in a lane that is open and may be added to
  pub publishes : (slots id : ℕ) (me : M) (t : ℕ) (e : E) → me.0.stage ≡ Holding t → length me.0.seen + 1 < 2 ^ 64 → (lanes ≤ lane e) ⊎ (0 < own (lane e) me.0)
      → IsOpen lane closes (lane e) me.0.seen → Allows Rule slots id me 2 (λ n. (n + 1) % 2 ^ 64) (published (e ∷ []) (step slots 2 1 0 none) me)
  publishes slots id me t e holds short may still_open s r _ at _ =
      let v : V = me.0 in let fit = r.each_view id v at in let w : V = view (v.seen ++ e ∷ []) v.lanes v.stage in let log' : List E = r.log ++ e ∷ [] in
      let st = subst (InStage r.log r.serving v.seen v.lanes) holds fit.stage in
      let now : v.seen ++ e ∷ [] ≡ log' = ap (λ l. l ++ e ∷ []) st.2 in
      let turn : out v ≡ 1 = ap has_turn holds in let most = turns_at_most s r in
      let long : length log' ≡ length r.log + 1 = length-append r.log (e ∷ []) in
      let old_long : length v.seen ≡ length r.log = ap length st.2 in (
        w,
        keeps,
        tt,
        record {
          log = log';
          next = r.next;
          serving = r.serving;
          few = r.few;
          short = omega arith;
          ends = closes_last lane closes r.log e r.ends (subst (IsOpen lane closes (lane e)) st.2 still_open);
          words = ap (λ ws. set ws 2 ((get_or ws 2 0 + 1) % 2 ^ 64)) r.words ∙ ap (λ k. r.next % 2 ^ 64 ∷ r.serving % 2 ^ 64 ∷ k ∷ []) (mod-eq_of_lt (omega arith) ∙ sym long);
          waiting = ap (λ k. r.serving + k) (total_same one s.views id v w at refl) ∙ r.waiting;
          held = λ k a b. total_same (this k) s.views id v w at refl ∙ r.held k a b;
          past = λ k a. total_same (this k) s.views id v w at refl ∙ r.past k a;
          ahead = λ k a. total_same (this k) s.views id v w at refl ∙ r.ahead k a;
          owned = λ k a. total_same (own k) s.views id v w at refl ∙ r.owned k a;
          common = λ k a. total_same (own k) s.views id v w at refl ∙ r.common k a;
          all_owned = total_same count s.views id v w at refl ∙ r.all_owned;
          each_view = views_stay (λ j u. Fits lane log' r.serving u) s.views id w
              (fresh log' r.serving (v.seen ++ e ∷ []) v.lanes v.stage (whole (v.seen ++ e ∷ []) log' now) (λ k _. ap (of_lane lane k) now)
              (subst (InStage log' r.serving (v.seen ++ e ∷ []) v.lanes) (sym holds) (st.0, st.1, now)))
              (λ j u ne there. let two = total_two out s.views id j v u ne at there in
              added r.log r.serving u e (omega arith) (not_theirs s r id j v u (lane e) ne at there may) (r.each_view j u there));
          home = λ z. let a = total_same out s.views id v w at refl in let h = total_has out s.views id v at in absurd (omega arith);
          away = λ _. r.away (let h = total_has out s.views id v at in omega arith);
        },
        refl,
      )

  -- a split keeps the rule
  pub splits : (id : ℕ) (v : V) → v.stage ≡ Idle → 0 < count v → Splits Rule id v (left v) (given v)
  splits id v idle some_lane s r at =
      let a : ℕ = least v.lanes in let there = least_there v.lanes some_lane in let w : V = left v in let g : V = given v in let vs : List V = set s.views id w in let fit = r.each_view id v at in
      let sum : (f : V → ℕ) → f w + f g ≡ f v → total f (vs ++ g ∷ []) ≡ total f s.views = λ f e.
      let x = total_set f s.views id v w at in let y = total_snoc f vs g in omega arith in
      let no_ticket : (f : Stage → ℕ) → f Idle ≡ 0 → total (λ u. f u.stage) (vs ++ g ∷ []) ≡ total (λ u. f u.stage) s.views = λ f z.
      sum (λ u. f u.stage) (let q : f v.stage ≡ f Idle = ap f idle in omega arith) in
      let lanes_stay : (k : ℕ) → total (own k) (vs ++ g ∷ []) ≡ total (own k) s.views = λ k. sum (own k) (let q = times-without a k v.lanes there in omega arith) in record {
        log = r.log;
        next = r.next;
        serving = r.serving;
        few = r.few;
        short = r.short;
        ends = r.ends;
        words = r.words;
        waiting = ap (λ k. r.serving + k) (no_ticket has_one refl) ∙ r.waiting;
        held = λ k b c. no_ticket (has_this k) refl ∙ r.held k b c;
        past = λ k b. no_ticket (has_this k) refl ∙ r.past k b;
        ahead = λ k b. no_ticket (has_this k) refl ∙ r.ahead k b;
        owned = λ k b. lanes_stay k ∙ r.owned k b;
        common = λ k b. lanes_stay k ∙ r.common k b;
        all_owned = sum count (let q = length-without a v.lanes there in omega arith) ∙ r.all_owned;
        each_view = λ j u e. ⊎_elim
            (views_stay (λ i x. Fits lane r.log r.serving x) s.views id w
            (fresh r.log r.serving v.seen (without a v.lanes) Idle fit.before (λ k h. let q = times-without a k v.lanes there in fit.own k (omega arith)) tt) (λ i x _. r.each_view i x) j u)
            (λ (t : g ≡ u). subst (Fits lane r.log r.serving) t
            (fresh r.log r.serving v.seen (a ∷ []) Idle fit.before (λ k h. let q = times-without a k v.lanes there in fit.own k (omega arith)) tt))
            (at_snoc vs g u j e);
        home = λ z. r.home (sym (no_ticket has_turn refl) ∙ z);
        away = λ z. r.away (subst (λ k. 0 < k) (no_ticket has_turn refl) z);
      }

  -- of two seen lists the shorter begins the longer, which has the lanes of both
  fit_longer : (log : List E) (serving : ℕ) (v w : V) → Fits lane log serving v → Fits lane log serving w → length v.seen ≤ length w.seen → (k : ℕ) → 0 < own k v + own k w
      → of_lane lane k w.seen ≡ of_lane lane k log
  fit_longer log serving v w f g le k h = dite (ℕ_discrete (own k w) 0)
      (λ z. between lane k v.seen w.seen log (of_two v.seen w.seen log f.before g.before le) g.before (f.own k (omega arith)))
      (λ nz. g.own k (omega arith))

  -- what a join makes of two views fits
  fit_both : (log : List E) (serving : ℕ) (v w : V) → Fits lane log serving v → Fits lane log serving w → (x : Bool) → leb (length v.seen) (length w.seen) ≡ x → Fits lane log serving (put_together x v w)
  fit_both log serving v w f g true is = let le : length v.seen ≤ length w.seen = leb-true (length v.seen) (length w.seen) is in record {
    before = g.before;
    own = λ k h. let q = times-append k v.lanes w.lanes in fit_longer log serving v w f g le k (omega arith);
    stage = tt;
    told = f.before;
    told_mine = λ k. let q = times-append k v.lanes w.lanes in omega arith;
    told_own = f.own;
  }
  fit_both log serving v w f g false is = let lt = leb-false (length v.seen) (length w.seen) is in record {
    before = f.before;
    own = λ k h. let q = times-append k v.lanes w.lanes in fit_longer log serving w v g f (omega arith) k (omega arith);
    stage = tt;
    told = g.before;
    told_mine = λ k. let q = times-append k v.lanes w.lanes in omega arith;
    told_own = g.own;
  }

  -- a join keeps the rule
  pub joins : (id : ℕ) (v : V) (other : ℕ) (w : V) → v.stage ≡ Idle → w.stage ≡ Idle → Joins Rule id v other w (both v w) spent
  joins id v other w idle idle' s r at apart there =
      let b : V = both v w in let x : Bool = leb (length v.seen) (length w.seen) in let vs : List V = set s.views id b in let vs' : List V = set vs other spent in
      let there' : get_elem? s.views other ≡ some w = sym (set_else s.views id other b apart) ∙ there in
      let sum : (f : V → ℕ) → f b + f spent ≡ f v + f w → total f vs' ≡ total f s.views = λ f e.
      let p = total_set f s.views id v b at in let q = total_set f vs other w spent there in omega arith in
      let no_ticket : (f : Stage → ℕ) → f Idle ≡ 0 → total (λ u. f u.stage) vs' ≡ total (λ u. f u.stage) s.views = λ f z.
      sum (λ u. f u.stage) (let p : f v.stage ≡ f Idle = ap f idle in let q : f w.stage ≡ f Idle = ap f idle' in let o : f b.stage ≡ f Idle = ap f (stage_both x v w) in omega arith) in
      let lanes_stay : (k : ℕ) → total (own k) vs' ≡ total (own k) s.views = λ k.
      sum (own k) (let p : own k b ≡ times k (v.lanes ++ w.lanes) = ap (times k) (lanes_both x v w) in let q = times-append k v.lanes w.lanes in omega arith) in record {
        log = r.log;
        next = r.next;
        serving = r.serving;
        few = r.few;
        short = r.short;
        ends = r.ends;
        words = r.words;
        waiting = ap (λ k. r.serving + k) (no_ticket has_one refl) ∙ r.waiting;
        held = λ k p q. no_ticket (has_this k) refl ∙ r.held k p q;
        past = λ k p. no_ticket (has_this k) refl ∙ r.past k p;
        ahead = λ k p. no_ticket (has_this k) refl ∙ r.ahead k p;
        owned = λ k p. lanes_stay k ∙ r.owned k p;
        common = λ k p. lanes_stay k ∙ r.common k p;
        all_owned = sum count (let p : count b ≡ length (v.lanes ++ w.lanes) = ap length (lanes_both x v w) in let q = length-append v.lanes w.lanes in omega arith) ∙ r.all_owned;
        each_view = views_stay (λ i u. Fits lane r.log r.serving u) vs other spent (fresh r.log r.serving [] [] Idle (r.log, refl) (λ k h. absurd (omega arith)) tt)
            (λ j u _. views_stay (λ i y. Fits lane r.log r.serving y) s.views id b (fit_both r.log r.serving v w (r.each_view id v at) (r.each_view other w there') x refl) (λ i y _. r.each_view i y) j u);
        home = λ z. r.home (sym (no_ticket has_turn refl) ∙ z);
        away = λ z. r.away (subst (λ k. 0 < k) (no_ticket has_turn refl) z);
      }

  -- to hear keeps the rule, and tells that the shorter list begins the longer
  pub hears : (slots id : ℕ) (me : M) → me.0.stage ≡ Idle → length me.0.told ≤ length me.0.seen → Allows Rule slots id me 0 (λ n. n) (heard lane (step slots 0 0 0 none) me)
  hears slots id me idle less s r _ at _ =
      let v : V = me.0 in let fit = r.each_view id v at in let w : V = view v.seen v.lanes Idle in
      let same : (f : Stage → ℕ) → total (λ u. f u.stage) (set s.views id w) ≡ total (λ u. f u.stage) s.views = λ f. total_same (λ u. f u.stage) s.views id v w at (sym (ap f idle)) in (
        w,
        keeps,
        tt,
        record {
          log = r.log;
          next = r.next;
          serving = r.serving;
          few = r.few;
          short = r.short;
          ends = r.ends;
          words = set-get_or s.words 0 0 ∙ r.words;
          waiting = ap (λ k. r.serving + k) (same has_one) ∙ r.waiting;
          held = λ k a b. same (has_this k) ∙ r.held k a b;
          past = λ k a. same (has_this k) ∙ r.past k a;
          ahead = λ k a. same (has_this k) ∙ r.ahead k a;
          owned = λ k a. total_same (own k) s.views id v w at refl ∙ r.owned k a;
          common = λ k a. total_same (own k) s.views id v w at refl ∙ r.common k a;
          all_owned = total_same count s.views id v w at refl ∙ r.all_owned;
          each_view = views_stay (λ j u. Fits lane r.log r.serving u) s.views id w (fresh r.log r.serving v.seen v.lanes Idle fit.before fit.own tt) (λ j u _. r.each_view j u);
          home = λ z. r.home (sym (same has_turn) ∙ z);
          away = λ z. r.away (subst (λ k. 0 < k) (same has_turn) z);
        },
        (refl, of_two v.told v.seen r.log fit.told fit.before less, λ k h. let m = fit.told_mine k in fit.own k (omega arith) ∙ sym (fit.told_own k h)),
      )

  -- who has the turn owns a lane
  turn_has_lane : (log : List E) (serving : ℕ) (v : V) → Fits lane log serving v → out v ≤ count v
  turn_has_lane log serving v f = go v.stage f.stage where
    go : (st : Stage) → InStage log serving v.seen v.lanes st → has_turn st ≤ count v
    go Idle h = omega arith
    go (Waiting a) h = omega arith
    go (Holding a) h = let l = h.0 in omega arith

  -- what a seat is handed at the end, which has no turn out
  abbrev pub Hands : V → Option T → Type 0
  Hands v None = ⊥
  Hands v (Some value) = IsPrefix v.seen (entries value) × ((k : ℕ) → 0 < own k v → of_lane lane k (entries value) ≡ of_lane lane k v.seen) × ClosesLast lane closes (entries value)

  -- where one view owns every lane, any other owns none
  others_own_none : (s : St) (r : Rule s) (id j : ℕ) (v u : V) → j ≢ id → get_elem? s.views id ≡ some v → get_elem? s.views j ≡ some u → ((k : ℕ) → k < lanes → 0 < own k v) → count u ≡ 0
  others_own_none s r id j v u ne at there all = no_lane u.lanes
      (λ k. dite (dec_le lanes k) (λ a. let h = total_has (own k) s.views j u there in let e = r.common k a in omega arith) (λ a. only_mine s r id j v u k ne at there (all k (omega arith))))

  -- where a seat at rest owns every lane, no other has the turn, so that the value is at home
  pub ending : (id : ℕ) (v : V) (words : List ℕ) (slots : List (Option T)) → Final (Seen Rule id v) words slots → v.stage ≡ Idle → ((k : ℕ) → k < lanes → 0 < own k v)
      → (x : Option T) → get_elem? slots 0 ≡ some x → Hands v x
  ending id v words slots final idle all x there =
      let s = final.0 in let r = final.1.0 in let at = final.1.1 in
      let quiet : total out s.views ≡ 0 = total_zero out s.views (λ j u e. dite (ℕ_discrete j id)
      (λ is. let same : v ≡ u = some-injective v u (sym at ∙ subst (λ n. get_elem? s.views n ≡ some u) is e) in ap out (sym same) ∙ ap has_turn idle)
      (λ ne. let a = turn_has_lane r.log r.serving u (r.each_view j u e) in let b = others_own_none s r id j v u ne at e all in omega arith)) in
      let h = r.home quiet in let fit = r.each_view id v at in
      let is : Some h.0 ≡ x = some-injective (Some h.0) x (sym (final.4 0 (Some h.0) (ap (λ hs. get_elem? hs 0) h.1)) ∙ there) in
      subst (Hands v) is (
        subst (IsPrefix v.seen) (sym h.2) fit.before,
        (λ k has. ap (of_lane lane k) h.2 ∙ sym (fit.own k has)),
        subst (ClosesLast lane closes) (sym h.2) r.ends,
      )

  -- the first seat fits the empty list
  first_fits : (i : ℕ) (v : V) → get_elem? (newcomer lanes ∷ []) i ≡ some v → Fits lane [] 0 v
  first_fits zero v e = subst (Fits lane [] 0) (some-injective (newcomer lanes) v e) (fresh [] 0 [] (range_with_len 0 lanes) Idle ([], refl) (λ k _. refl) tt)
  first_fits (suc i) v e = absurd (some-ne-none v (sym e))

  -- the rule holds of a new table over an empty value
  pub opens : (value : T) → entries value ≡ [] → lanes < 2 ^ 32 → Rule (opening (0 ∷ 0 ∷ 0 ∷ []) (Some value ∷ []) (newcomer lanes))
  opens value empty few = record {
    log = [];
    next = 0;
    serving = 0;
    few = few;
    short = omega arith;
    ends = tt;
    words = refl;
    waiting = refl;
    held = λ t a b. absurd (omega arith);
    past = λ t a. refl;
    ahead = λ t a. refl;
    owned = λ k a. let e = times-range-in k 0 lanes (omega arith) (omega arith) in omega arith;
    common = λ k a. let e = times-range-past k 0 lanes (omega arith) in omega arith;
    all_owned = let e = length-range_with_len 0 lanes in omega arith;
    each_view = first_fits;
    home = λ _. (value, refl, empty);
    away = λ z. absurd (omega arith);
  }
