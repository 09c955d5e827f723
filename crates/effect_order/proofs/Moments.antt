-- How the items of a run lie in time: what is over at a step of its node was sooner.
use Rattle.std.proofs.Common.{◌≡◌, ◌⊎◌, ◌<◌, ◌≤◌, refl, ◌∙◌, subst, inl, inr, ⊎_elim, arith, le_of_lt, le_of_eq, Bool, true, false}
use Rattle.std.proofs.lemmas.Bool.{cases_Bool, cases_lt, both_ways}
use Rattle.effect_order.specs.Order.{Later}
use Rattle.effect_order.specs.Run.{Run, OwnStep, Synced, Conflict, blocking, story}
use Rattle.effect_order.specs.RunFacts.{Timed}
use Rattle.effect_order.specs.Items.{some_conflict}
use Rattle.effect_order.proofs.Exchange.{items-back}

pub blocking_true : (a b : Bool) → blocking a b ≡ true → (a ≡ true) × (b ≡ true)
blocking_true true b e = (refl, e)
blocking_true false b e = absurd (cc)

pub blocking_of : (a b : Bool) → a ≡ true → blocking a b ≡ b
blocking_of true b e = refl
blocking_of false b e = absurd (cc)

module _ {E S : Type 0} (r : Run E S) (timed : Timed r) where
  -- an effect is no release
  pub effect_kind : (e : E) → r.Member e → r.is_effect e ≡ true → r.is_release e ≡ false
  effect_kind e m h = ⊎_elim (λ b. absurd (both_ways _ (timed.release_quiet e m b) h)) (λ b. b) (cases_Bool (r.is_release e))

  -- only effects conflict
  pub effect_right : (e f : E) → r.Member e → r.Member f → Conflict r e f → r.is_effect f ≡ true
  effect_right e f me mf c =
      ⊎_elim
      (λ b. b)
      (λ b. absurd (both_ways _ refl (subst (λ u. some_conflict (r.does e) u ≡ true) (timed.does_nothing f mf b) c)))
      (cases_Bool (r.is_effect f))

  pub effect_left : (e f : E) → r.Member e → r.Member f → Conflict r e f → r.is_effect e ≡ true
  effect_left e f me mf c = effect_right f e mf me (items-back r.does e f c)

  -- what a blocking effect is followed by on its node
  pub record After (e f : E) : Type 0 where
    pub effect : r.is_effect e ≡ true
    pub blocks : r.flow.is_blocking (r.point e) ≡ true
    pub own : r.is_release e ≡ false
    pub own_to : r.is_release f ≡ false
    pub node : r.node e ≡ r.node f
    pub step : r.step e < r.step f

  pub after : (e f : E) → r.Member e → r.Member f → Later (story r) e f → After e f
  after e f me mf l =
      let b = blocking_true _ _ l.0 in
      let own = effect_kind e me b.0 in
      record {
        effect = b.0;
        blocks = b.1;
        own = own;
        own_to = ⊎_elim (λ q. absurd (timed.release_apart e f me mf own q l.1)) (λ q. q) (cases_Bool (r.is_release f));
        node = l.1;
        step = l.2;
      }

  -- the sync between the two
  pub sync_times : (e f : E) → r.Member e → r.Member f → (q : Synced r e f) → (r.time e < r.time q.sync) × (r.issue q.sync ≡ r.time q.sync) × (r.issue q.sync ≤ r.issue f) × (r.issue f ≤ r.time f)
  sync_times e f me mf q =
      let one = timed.synced e q.sync me q.member q.effect q.splits q.is_sync q.node q.step in
      let last : r.issue q.sync ≤ r.issue f =
      ⊎_elim
      (λ (t : r.step q.sync < r.step f). le_of_lt (timed.in_order q.sync f (q.member, q.is_sync.1) (mf, q.no_release_to) q.node_to t))
      (λ t. le_of_eq (timed.one_issue q.sync f (q.member, q.is_sync.1) (mf, q.no_release_to) q.node_to (omega (arith, q.step_to))))
      (cases_lt (r.step q.sync) (r.step f)) in
      (one, timed.at_once q.sync q.member q.is_sync.0, last, timed.issued f mf)

  pub own_time : (e f : E) → r.Member e → r.Member f → OwnStep r e f → r.time e < r.time f
  own_time e f me mf q = omega (arith, timed.at_once e me q.0, timed.in_order e f (me, q.1) (mf, q.2) q.3 q.4, timed.issued f mf)

  pub done_time : (e f : E) → r.Member e → r.Member f → OwnStep r e f ⊎ Synced r e f → r.time e < r.time f
  done_time e f me mf (inl q) = own_time e f me mf q
  done_time e f me mf (inr q) = let t = sync_times e f me mf q in omega arith

  pub done_node : (e f : E) → OwnStep r e f ⊎ Synced r e f → r.node e ≡ r.node f
  done_node e f (inl q) = q.3
  done_node e f (inr q) = q.node ∙ q.node_to

  pub done_step : (e f : E) → OwnStep r e f ⊎ Synced r e f → r.step e < r.step f
  done_step e f (inl q) = q.4
  done_step e f (inr q) = omega (arith, q.step, q.step_to)

  own_item : (f g : E) → r.Member f → r.Member g → r.is_release f ≡ false → r.node f ≡ r.node g → r.is_release g ≡ false
  own_item f g mf mg d n = ⊎_elim (λ q. absurd (timed.release_apart f g mf mg d q n)) (λ q. q) (cases_Bool (r.is_release g))

  pub done_on : (e f g : E) → r.Member e → r.Member f → r.Member g → OwnStep r e f ⊎ Synced r e f → r.node f ≡ r.node g → r.step f ≤ r.step g → OwnStep r e g ⊎ Synced r e g
  done_on e f g me mf mg (inl q) n t = inl (q.0, q.1, own_item f g mf mg q.2 n, q.3 ∙ n, omega arith)
  done_on e f g me mf mg (inr q) n t = inr (record {
    effect = q.effect;
    splits = q.splits;
    sync = q.sync;
    member = q.member;
    is_sync = q.is_sync;
    node = q.node;
    step = q.step;
    node_to = q.node_to ∙ n;
    step_to = omega (arith, q.step_to);
    no_release_to = own_item f g mf mg q.no_release_to n;
  })
