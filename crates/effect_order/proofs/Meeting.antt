-- The smallest run with a barrier meets what the laws ask of a run and its code.
use Rattle.std.proofs.Common.{◌≡◌, ◌<◌, List, [], ◌∷◌, leb, ltb, eqb-true, eq-eqb, ltb-true, lt-ltb, refl, sym, subst, arith, Bool, true, false, not, ◌==◌, ◌&&◌}
use Rattle.std.proofs.lemmas.Bool.{both_ways, and_parts, and_from, not-true, not_from_false, leb-true}
use Rattle.effect_order.specs.Effect.{Effect}
use Rattle.effect_order.specs.Run.{Sync}
use Rattle.effect_order.specs.RunFacts.{Timed, Analysed}
use Rattle.effect_order.specs.Meeting.{Row, rows, release, has_effect, line, meeting}
use Rattle.effect_order.proofs.Tables.{each_row, each_two, implies, holds, in_at}

pub both : (a b : Bool) → a ≡ true → b ≡ true → (a && b) ≡ true
both a b h g = and_from a b h g

-- the first is of an earlier step of the node, or of the same one
abbrev pub earlier : Row → Row → Bool
earlier e f = (e.node == f.node) && ltb e.step f.step

abbrev pub together : Row → Row → Bool
together e f = (e.node == f.node) && (e.step == f.step)

pub is_earlier : (e f : Row) → e.node ≡ f.node → e.step < f.step → earlier e f ≡ true
is_earlier e f n t = both _ _ (eq-eqb _ _ n) (lt-ltb _ _ t)

pub is_together : (e f : Row) → e.node ≡ f.node → e.step ≡ f.step → together e f ≡ true
is_together e f n t = both _ _ (eq-eqb _ _ n) (eq-eqb _ _ t)

abbrev pub is_sync : Row → Bool
is_sync s = not (has_effect s.does) && (not s.is_release && line.is_sync s.point)

pub sync_is : (s : Row) → Sync meeting s → is_sync s ≡ true
sync_is s h = both _ _ (not_from_false _ h.0) (both _ _ (not_from_false _ h.1) h.2)

pub no_effect : (es : List Effect) → has_effect es ≡ false → es ≡ []
no_effect [] h = refl
no_effect (e ∷ es) h = absurd (cc)

abbrev reads : List Effect → Bool
reads (e ∷ []) = not e.wrote
reads _ = false

abbrev writes : List Effect → Bool
writes (e ∷ []) = e.wrote
writes _ = false

abbrev two_steps : Row → Row → Bool
two_steps e f = not e.is_release && not f.is_release

steps_are : (e f : Row) → e.is_release ≡ false → f.is_release ≡ false → two_steps e f ≡ true
steps_are e f h g = both _ _ (not_from_false _ h) (not_from_false _ g)

abbrev release_test : Row → Bool
release_test m = implies m.is_release ((m.time == 18) && not (has_effect m.does))

abbrev apart_test : Row → Row → Bool
apart_test e m = implies (not e.is_release && m.is_release) (not (e.node == m.node))

abbrev once_test : Row → Bool
once_test e = leb e.issue e.time && implies (not (has_effect e.does)) (e.issue == e.time)

abbrev order_test : Row → Row → Bool
order_test e f = implies (earlier e f && two_steps e f) (ltb e.issue f.issue)

abbrev issue_test : Row → Row → Bool
issue_test e f = implies (together e f && two_steps e f) (e.issue == f.issue)

abbrev point_test : Row → Row → Bool
point_test e f = implies (together e f && (has_effect e.does && has_effect f.does)) (e.point == f.point)

abbrev alone_test : Row → Row → Bool
alone_test s f = implies (is_sync s && has_effect f.does) (not (together s f))

abbrev synced_test : Row → Row → Bool
synced_test e s = implies (earlier e s && (has_effect e.does && (line.is_split e.point && is_sync s))) (ltb e.time s.time)

abbrev copied_test : Row → Row → Bool
copied_test e f = implies (together e f && (reads e.does && writes f.does)) (ltb e.time f.time)

pub timed : Timed meeting
timed = record {
  release_moment = λ m i h. (and_parts _ _ (holds _ _ (each_row release_test refl m i) h)).0;
  moment_release = λ t h. (release 16 18, in_at rows 16 (omega arith), refl, sym (eqb-true t 18 h));
  does_nothing = λ e i h. no_effect e.does h;
  release_quiet = λ m i h. not-true _ (and_parts _ _ (holds _ _ (each_row release_test refl m i) h)).1;
  release_apart = λ e m i j h g n. both_ways (e.node == m.node) (not-true _ (holds _ _ (each_two apart_test refl e m i j) (both _ _ (not_from_false _ h) g))) (eq-eqb _ _ n);
  issued = λ e i. leb-true _ _ (and_parts _ _ (each_row once_test refl e i)).0;
  at_once = λ e i h. eqb-true _ _ (holds _ _ (and_parts _ _ (each_row once_test refl e i)).1 (not_from_false _ h));
  in_order = λ e f p q n t. ltb-true _ _ (holds _ _ (each_two order_test refl e f p.0 q.0) (both _ _ (is_earlier e f n t) (steps_are e f p.1 q.1)));
  one_issue = λ e f p q n t. eqb-true _ _ (holds _ _ (each_two issue_test refl e f p.0 q.0) (both _ _ (is_together e f n t) (steps_are e f p.1 q.1)));
  one_point = λ e f i j a b n t. eqb-true _ _ (holds _ _ (each_two point_test refl e f i j) (both _ _ (is_together e f n t) (both _ _ a b)));
  sync_alone = λ s f i j h a n t. both_ways (together s f) (not-true _ (holds _ _ (each_two alone_test refl s f i j) (both _ _ (sync_is s h) a))) (is_together s f n t);
  synced = λ e s i j a b h n t. ltb-true _ _ (holds _ _ (each_two synced_test refl e s i j) (both _ _ (is_earlier e s n t) (both _ _ a (both _ _ b (sync_is s h)))));
  copied = λ e f i j h. ltb-true _ _ (holds _ _ (each_two copied_test refl e f i j) (both _ _ (is_together e f h.0 h.1) (both _ _ (subst (λ u. reads u ≡ true) (sym h.4) (not_from_false _ h.6)) (subst (λ u. writes u ≡ true) (sym h.5) h.7))));
}

pub analysed : Analysed meeting
analysed = record {
  across = λ e f i j c n. tt;
  own = λ e f i j c n. tt;
  own_back = λ a b h. tt;
  meet = λ e f i j c n a b l. tt;
  meet_explicit = λ a b h. tt;
}
