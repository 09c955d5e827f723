-- What a journal that the nodes asked for says of a node, its run so far says too: how often it arrived and passed, and how
-- many of its asks were answered.
use Rattle.std.proofs.Common.{◌≡◌, ℕ, zero, suc, ◌+◌, ◌<◌, ◌≤◌, List, [], ◌∷◌, ◌++◌, length, Option, Some, None, Bool, true, false, ◌==◌, refl, sym, ap, ◌∙◌, subst, arith, eqb-true, length-append}
use Rattle.std.specs.Prelude.{if◌then◌else◌, slice_get}
use Rattle.sc_base.specs.declared.value.End.{End}
use Rattle.sc_base.specs.declared.value.End.TheVariants as kind
use Rattle.effect_order.proofs.Members.{each-append}
use Rattle.resumption.specs.Resumption.{run_of}
use Rattle.resumption.proofs.Extending.{extends}
use Rattle.sc_isa.specs.Run.{Ask, Issue, Wait, Arrive, Pass, Answer, Landed, Passed as PassedIt, Broken}
use Rattle.sc_isa.specs.declared.journal.Entry.{Entry}
use Rattle.sc_isa.specs.declared.journal.Entry.TheVariants.{Issued, Delivered, Waited, Arrived, Passed, Finished}
use Rattle.fabric.specs.Effects.{landed}
use Rattle.fabric.specs.Barriers.{arrivals, passes, finished}
use Rattle.fabric.specs.Asked.{Machine, answers, run_so_far, asked, next_ask, Asked}
use Rattle.run_moves.proofs.Orderly.{arrives, passes_by, answered, total, total_next, total_front, NoneBroken}

below_length : {X : Type 0} (xs : List X) (k : ℕ) (x : X) → slice_get xs k ≡ Some x → k < length xs
below_length [] k x h = cc
below_length (y ∷ ys) zero x h = omega arith
below_length (y ∷ ys) (suc k) x h = let i = below_length ys k x h in omega arith

module _ (machine : Machine) (node : ℕ) where
  abbrev pub events : List Entry → List Ask
  events past = (run_so_far machine node past).events

  -- the node's asks up to now
  pub record Counted (past : List Entry) : Type 0 where
    pub few : asked node past ≤ length (events past)
    pub arrived : arrivals node past ≡ total arrives (asked node past) (events past)
    pub passed : passes node past ≡ total passes_by (asked node past) (events past)
    pub answers_are : finished node past ≡ None → length (answers machine node past) ≡ total answered (asked node past) (events past)

  -- more answers only extend what is asked
  more : (past : List Entry) (e : Entry) (a : Answer) → answers machine node (e ∷ past) ≡ answers machine node past ++ a ∷ [] → (rest : List Ask) × (events (e ∷ past) ≡ events past ++ rest)
  more past e a h =
      let x = extends (machine.starts node) (answers machine node past) (a ∷ []) in
      (x.more_events, ap (λ u. (run_of (machine.starts node) u).events) h ∙ x.events)

  -- nothing changes for the node
  same : (past : List Entry) (e : Entry) → answers machine node (e ∷ past) ≡ answers machine node past → asked node (e ∷ past) ≡ asked node past
      → arrivals node (e ∷ past) ≡ arrivals node past → passes node (e ∷ past) ≡ passes node past → (finished node (e ∷ past) ≡ None → finished node past ≡ None) → Counted past → Counted (e ∷ past)
  same past e a k r p f c =
      let ev : events (e ∷ past) ≡ events past = ap (λ u. (run_of (machine.starts node) u).events) a in
      let few = c.few in let len = ap length ev in
      record {
        few = omega arith;
        arrived = r ∙ c.arrived ∙ sym (ap (λ u. total arrives u (events (e ∷ past))) k ∙ ap (total arrives (asked node past)) ev);
        passed = p ∙ c.passed ∙ sym (ap (λ u. total passes_by u (events (e ∷ past))) k ∙ ap (total passes_by (asked node past)) ev);
        answers_are = λ n. ap length a ∙ c.answers_are (f n) ∙ sym (ap (λ u. total answered u (events (e ∷ past))) k ∙ ap (total answered (asked node past)) ev);
      }

  -- an ask of the node, after which its run has these events more
  ask_on : (past : List Entry) (e : Entry) (ask : Ask) (rest : List Ask) → next_ask machine node past ≡ Some ask → events (e ∷ past) ≡ events past ++ rest
      → asked node (e ∷ past) ≡ asked node past + 1 → arrivals node (e ∷ past) ≡ arrivals node past + arrives ask → passes node (e ∷ past) ≡ passes node past + passes_by ask
      → length (answers machine node (e ∷ past)) ≡ length (answers machine node past) + answered ask → (finished node (e ∷ past) ≡ None → finished node past ≡ None) → Counted past → Counted (e ∷ past)
  ask_on past e ask rest h ev k r p l f c =
      let lt = below_length (events past) (asked node past) ask h in
      let len = ap length ev in let len2 = length-append (events past) rest in
      let at : (g : Ask → ℕ) → total g (asked node (e ∷ past)) (events (e ∷ past)) ≡ total g (asked node past) (events past) + g ask =
      λ g. ap (λ u. total g u (events (e ∷ past))) (let q : asked node (e ∷ past) ≡ suc (asked node past) = omega arith in q)
      ∙ ap (total g (suc (asked node past))) ev
      ∙ total_front g (suc (asked node past)) (events past) rest (omega arith)
      ∙ total_next g (asked node past) (events past) ask h in
      record {
        few = omega arith;
        arrived = (let a = at arrives in let b = c.arrived in omega arith);
        passed = (let a = at passes_by in let b = c.passed in omega arith);
        answers_are = λ n. (let a = at answered in let b = c.answers_are (f n) in omega arith);
      }

  append_none : {X : Type 0} (xs : List X) → xs ≡ xs ++ []
  append_none [] = refl
  append_none (x ∷ xs) = ap (λ u. x ∷ u) (append_none xs)

  none_before : (q : ℕ) (end : End) (past : List Entry) → finished node (Finished q end ∷ past) ≡ None → finished node past ≡ None
  none_before q end past h = by (q == node) h
    where
      by : (b : Bool) → (if b then Some end else finished node past) ≡ None → finished node past ≡ None
      by true h = cc
      by false h = h

  pub counted : (past : List Entry) → Asked machine past → Counted past
  counted [] a = record { few = omega arith; arrived = refl; passed = refl; answers_are = λ n. refl }
  counted (Delivered q n c v ∷ past) a = same past (Delivered q n c v) refl refl refl refl (λ f. f) (counted past a.1)
  counted (Issued q n access ∷ past) a = by (q == node) refl (counted past a.1)
    where
      by : (b : Bool) → (q == node) ≡ b → Counted past → Counted (Issued q n access ∷ past)
      by false h c = same past (Issued q n access) refl (rw h refl) refl refl (λ f. f) c
      by true h c =
          ask_on past (Issued q n access) (Issue access) [] (subst (λ k. next_ask machine k past ≡ Some (Issue access)) (eqb-true q node h) a.0) (append_none (events past))
          (rw h refl) (omega arith) (omega arith) (omega arith) (λ f. f) c
  counted (Arrived q s ∷ past) a = by (q == node) refl (counted past a.1)
    where
      by : (b : Bool) → (q == node) ≡ b → Counted past → Counted (Arrived q s ∷ past)
      by false h c = same past (Arrived q s) refl (rw h refl) (rw h refl) refl (λ f. f) c
      by true h c =
          ask_on past (Arrived q s) (Arrive s) [] (subst (λ k. next_ask machine k past ≡ Some (Arrive s)) (eqb-true q node h) a.0) (append_none (events past))
          (rw h refl) (rw h refl) (omega arith) (omega arith) (λ f. f) c
  counted (Waited q ctr ∷ past) a = by (q == node) refl (counted past a.1)
    where
      by : (b : Bool) → (q == node) ≡ b → Counted past → Counted (Waited q ctr ∷ past)
      by false h c = same past (Waited q ctr) (rw h refl) (rw h refl) refl refl (λ f. f) c
      by true h c =
          let an : answers machine node (Waited q ctr ∷ past) ≡ answers machine node past ++ Landed (landed machine.start node ctr past) ∷ [] = rw h refl in
          let m = more past (Waited q ctr) (Landed (landed machine.start node ctr past)) an in
          ask_on past (Waited q ctr) (Wait ctr) m.0 (subst (λ k. next_ask machine k past ≡ Some (Wait ctr)) (eqb-true q node h) a.0) m.1
          (rw h refl) (omega arith) (omega arith) (ap length an ∙ length-append (answers machine node past) (Landed (landed machine.start node ctr past) ∷ [])) (λ f. f) c
  counted (Passed q ∷ past) a = by (q == node) refl (counted past a.1)
    where
      by : (b : Bool) → (q == node) ≡ b → Counted past → Counted (Passed q ∷ past)
      by false h c = same past (Passed q) (rw h refl) (rw h refl) refl (rw h refl) (λ f. f) c
      by true h c =
          let an : answers machine node (Passed q ∷ past) ≡ answers machine node past ++ PassedIt ∷ [] = rw h refl in
          let m = more past (Passed q) PassedIt an in
          ask_on past (Passed q) Pass m.0 (subst (λ k. next_ask machine k past ≡ Some Pass) (eqb-true q node h) a.0) m.1
          (rw h refl) (omega arith) (rw h refl) (ap length an ∙ length-append (answers machine node past) (PassedIt ∷ [])) (λ f. f) c
  counted (Finished q kind.Waiting ∷ past) a = by (q == node) refl (counted past a.1)
    where
      some_none : (o : Option End) → o ≡ Some kind.Waiting → o ≡ None → ⊥
      some_none o e f = cc

      by : (b : Bool) → (q == node) ≡ b → Counted past → Counted (Finished q kind.Waiting ∷ past)
      by false h c = same past (Finished q kind.Waiting) (rw h refl) refl refl refl (none_before q kind.Waiting past) c
      by true h c =
          let an : answers machine node (Finished q kind.Waiting ∷ past) ≡ answers machine node past ++ Broken ∷ [] = rw h refl in
          let m = more past (Finished q kind.Waiting) Broken an in
          let few = c.few in let len = ap length m.1 in let len2 = length-append (events past) m.0 in
          record {
            few = omega arith;
            arrived = c.arrived ∙ sym (ap (total arrives (asked node past)) m.1 ∙ total_front arrives (asked node past) (events past) m.0 few);
            passed = c.passed ∙ sym (ap (total passes_by (asked node past)) m.1 ∙ total_front passes_by (asked node past) (events past) m.0 few);
            answers_are = λ n. absurd (some_none _ (rw h refl) n);
          }
  counted (Finished q kind.Ended ∷ past) a = same past (Finished q kind.Ended) refl refl refl refl (none_before q kind.Ended past) (counted past a.1)
  counted (Finished q kind.Cut ∷ past) a = same past (Finished q kind.Cut) refl refl refl refl (none_before q kind.Cut past) (counted past a.1)
  counted (Finished q (kind.Fault k l) ∷ past) a = same past (Finished q (kind.Fault k l)) refl refl refl refl (none_before q (kind.Fault k l) past) (counted past a.1)

  -- a node that has not finished was not told that a barrier is broken
  pub none_broken : (past : List Entry) → finished node past ≡ None → NoneBroken (answers machine node past)
  none_broken [] f = tt
  none_broken (Issued q n a ∷ past) f = none_broken past f
  none_broken (Delivered q n c v ∷ past) f = none_broken past f
  none_broken (Arrived q s ∷ past) f = none_broken past f
  none_broken (Waited q c ∷ past) f = by (q == node) (none_broken past f)
    where
      by : (b : Bool) → NoneBroken (answers machine node past) → NoneBroken (if b then answers machine node past ++ Landed (landed machine.start node c past) ∷ [] else answers machine node past)
      by true i = each-append _ (answers machine node past) (Landed (landed machine.start node c past) ∷ []) i ((λ e. cc), tt)
      by false i = i
  none_broken (Passed q ∷ past) f = by (q == node) (none_broken past f)
    where
      by : (b : Bool) → NoneBroken (answers machine node past) → NoneBroken (if b then answers machine node past ++ PassedIt ∷ [] else answers machine node past)
      by true i = each-append _ (answers machine node past) (PassedIt ∷ []) i ((λ e. cc), tt)
      by false i = i
  none_broken (Finished q kind.Waiting ∷ past) f = by (q == node) f (none_broken past (none_before q kind.Waiting past f))
    where
      by : (b : Bool) → (if b then Some kind.Waiting else finished node past) ≡ None → NoneBroken (answers machine node past)
          → NoneBroken (if b then answers machine node past ++ Broken ∷ [] else answers machine node past)
      by true h i = cc
      by false h i = i
  none_broken (Finished q kind.Ended ∷ past) f = none_broken past (none_before q kind.Ended past f)
  none_broken (Finished q kind.Cut ∷ past) f = none_broken past (none_before q kind.Cut past f)
  none_broken (Finished q (kind.Fault k l) ∷ past) f = none_broken past (none_before q (kind.Fault k l) past f)
