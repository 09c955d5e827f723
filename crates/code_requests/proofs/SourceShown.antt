-- The answers that a whole journal shows to a node's source are those to the asks of its code.
use Rattle.std.proofs.Common.{◌≡◌, ℕ, ◌==◌, ◌&&◌, List, [], ◌∷◌, ◌++◌, map, Option, Some, None, Bool, true, false, if◌then◌else◌, refl, sym, ap, ◌∙◌, subst}
use Rattle.effect_order.specs.Effect.{Effect}
use Rattle.effect_order.specs.Transfer.{part_value}
use Rattle.sc_base.specs.declared.value.End.TheVariants as kind
use Rattle.sc_isa.specs.declared.access.Access.{Access}
use Rattle.sc_isa.specs.declared.access.Access.TheVariants as access
use Rattle.sc_isa.specs.declared.journal.Entry.{Entry}
use Rattle.sc_isa.specs.declared.journal.Entry.TheVariants.{Issued, Delivered, Waited, Arrived, Passed, Finished}
use Rattle.sc_isa.specs.Run.{Ask, Issue, Wait, Arrive, Pass}
use Rattle.sc_meaning.specs.Asking as source
use Rattle.sc_meaning.specs.Past.{got, and_answer}
use Rattle.sc_meaning.specs.OfAccess.{is_blocking}
use Rattle.fabric.specs.Effects.{awaited, effects, or_zero}
use Rattle.fabric.specs.Barriers.{finished}
use Rattle.fabric.specs.Wired.{Wired}
use Rattle.fabric.specs.Asked.{Machine}
use Rattle.source_order.specs.Made.{answer_of_issue, answers_in}
use Rattle.node_emit.specs.Oracles.{Oracle, Progress, at_first}
use Rattle.code_requests.proofs.Listed.{and_ask, asks_in, same_node}
use Rattle.code_requests.proofs.Oracled.{step_by, after_asks, append_none, numbers_on, has_come, issued_as}
use Rattle.code_requests.proofs.Answers.{oracle_of, append_one, passes_here, unpassed_here}
use Rattle.code_requests.proofs.SourceAnswers.{source_answers_to, by_asks}

abbrev pub listed : Option source.Answer → List source.Answer
listed None = []
listed (Some answer) = answer ∷ []

append_all : {A : Type 0} (xs ys zs : List A) → (xs ++ ys) ++ zs ≡ xs ++ (ys ++ zs)
append_all [] ys zs = refl
append_all (x ∷ xs) ys zs = ap (λ l. x ∷ l) (append_all xs ys zs)

and_is : (given : List source.Answer) (o : Option source.Answer) → and_answer given o ≡ given ++ listed o
and_is given None = sym (append_none given)
and_is given (Some answer) = refl

abbrev pub source_if : Oracle → Progress → Option Ask → List source.Answer
source_if oracle p None = []
source_if oracle p (Some ask) = source_answers_to oracle p ask

by_one : (oracle : Oracle) (p : Progress) (asks : List Ask) (ask : Ask) → by_asks oracle p (asks ++ ask ∷ []) ≡ by_asks oracle p asks ++ source_answers_to oracle (after_asks p asks) ask
by_one oracle p [] ask = append_none (source_answers_to oracle p ask)
by_one oracle p (x ∷ asks) ask =
    ap (λ l. source_answers_to oracle p x ++ l) (by_one oracle (step_by p x) asks ask)
    ∙ sym (append_all (source_answers_to oracle p x) (by_asks oracle (step_by p x) asks) (source_answers_to oracle (after_asks (step_by p x) asks) ask))

by_more : (oracle : Oracle) (p : Progress) (asks : List Ask) (o : Option Ask) → by_asks oracle p (and_ask asks o) ≡ by_asks oracle p asks ++ source_if oracle (after_asks p asks) o
by_more oracle p asks None = sym (append_none (by_asks oracle p asks))
by_more oracle p asks (Some ask) = by_one oracle p asks ask

module _ (machine : Machine) (node : ℕ) (whole : List Entry) (wired : Wired machine.start machine.nodes whole) where
  abbrev oracle_ : Oracle
  oracle_ = oracle_of machine node whole wired

  abbrev all : List Effect
  all = effects machine.start whole

  abbrev come : List Entry → Progress
  come past = after_asks at_first (asks_in node past)

  shown_on : (past : List Entry) (o : Option Ask) (a : Option source.Answer) → answers_in all node past ≡ by_asks oracle_ at_first (asks_in node past)
      → listed a ≡ source_if oracle_ (come past) o → and_answer (answers_in all node past) a ≡ by_asks oracle_ at_first (and_ask (asks_in node past) o)
  shown_on past o a h e =
      and_is (answers_in all node past) a ∙ ap (λ l. l ++ listed a) h ∙ ap (λ l. by_asks oracle_ at_first (asks_in node past) ++ l) e
      ∙ sym (by_more oracle_ at_first (asks_in node past) o)

  read_is : (b : Bool) (number n : ℕ) → number ≡ n
      → listed (if b then Some (source.Shown (or_zero (part_value node number 0 false all))) else None) ≡ (if b then source.Shown (oracle_.value n) ∷ [] else [])
  read_is true number n e = ap (λ k. source.Shown (oracle_.value k) ∷ []) e
  read_is false number n e = refl

  issue_is : (x : Access) (number : ℕ) (p : Progress) → number ≡ p.accesses → listed (answer_of_issue all node number x) ≡ source_answers_to oracle_ p (Issue x)
  issue_is (access.Read place track) number p e = read_is (is_blocking track) number p.accesses e
  issue_is (access.Write place v track) number p e = refl
  issue_is (access.Copy from to cells track) number p e = refl

  wait_is : (z : Bool) (ns ms : List ℕ) → ns ≡ ms
      → listed (if z then Some (source.Landed (got node all ns)) else None) ≡ (if z then source.Landed (map oracle_.value ms) ∷ [] else [])
  wait_is true ns ms e = ap (λ l. source.Landed (map oracle_.value l) ∷ []) e
  wait_is false ns ms e = refl

  issue_on : (b : Bool) (other number : ℕ) (x : Access) (past : List Entry) → (other == node) ≡ b → Wired machine.start machine.nodes (Issued other number x ∷ past)
      → listed (if b then answer_of_issue all node number x else None) ≡ source_if oracle_ (come past) (if b then Some (Issue x) else None)
  issue_on true other number x past f w =
      let same = same_node other node f in
      let c = has_come machine node past w.1 (subst (λ p. finished p past ≡ None) same w.0.going.running.not_finished) in
      issue_is x number (come past) (issued_as machine.start machine.nodes node other number past w.0.numbered f ∙ sym c.accesses)
  issue_on false other number x past f w = refl

  wait_on : (b : Bool) (other counter : ℕ) (past : List Entry) → (other == node) ≡ b → Wired machine.start machine.nodes (Waited other counter ∷ past)
      → listed (if b && (counter == 0) then Some (source.Landed (got node all (awaited node 0 past))) else None) ≡ source_if oracle_ (come past) (if b then Some (Wait counter) else None)
  wait_on true other counter past f w =
      let same = same_node other node f in
      let c = has_come machine node past w.1 (subst (λ p. finished p past ≡ None) same w.0.going.running.not_finished) in
      wait_is (counter == 0) (awaited node 0 past) (numbers_on 0 (come past).flying) (sym (c.flying 0))
  wait_on false other counter past f w = refl

  arrive_on : (b stores : Bool) (p : Progress) → [] ≡ source_if oracle_ p (if b then Some (Arrive stores) else None)
  arrive_on true stores p = refl
  arrive_on false stores p = refl

  pass_on : (newer past : List Entry) (other : ℕ) (b : Bool) → (other == node) ≡ b → whole ≡ newer ++ Passed other ∷ past → Wired machine.start machine.nodes (Passed other ∷ past)
      → listed (if b then Some source.Passed else None) ≡ source_if oracle_ (come past) (if b then Some Pass else None)
  pass_on newer past other true f e w =
      ap (λ a. a ∷ []) (sym (ap (λ b. if b then source.Passed else source.Broken) (passes_here machine node whole wired newer past other f e w)))
  pass_on newer past other false f e w = refl

  break_on : (newer past : List Entry) (other : ℕ) (b : Bool) → (other == node) ≡ b → whole ≡ newer ++ Finished other kind.Waiting ∷ past
      → Wired machine.start machine.nodes (Finished other kind.Waiting ∷ past)
      → listed (if b then Some source.Broken else None) ≡ source_if oracle_ (come past) (if b then Some Pass else None)
  break_on newer past other true f e w =
      ap (λ a. a ∷ []) (sym (ap (λ b. if b then source.Passed else source.Broken) (unpassed_here machine node whole wired newer past other f e w)))
  break_on newer past other false f e w = refl

  pub source_shown : (past newer : List Entry) → whole ≡ newer ++ past → Wired machine.start machine.nodes past → answers_in all node past ≡ by_asks oracle_ at_first (asks_in node past)
  source_shown [] newer e w = refl
  source_shown (Issued other number x ∷ past) newer e w =
      shown_on past (if other == node then Some (Issue x) else None) (if other == node then answer_of_issue all node number x else None)
      (source_shown past (newer ++ Issued other number x ∷ []) (e ∙ sym (append_one newer (Issued other number x) past)) w.1) (issue_on (other == node) other number x past refl w)
  source_shown (Delivered other number cell value ∷ past) newer e w =
      source_shown past (newer ++ Delivered other number cell value ∷ []) (e ∙ sym (append_one newer (Delivered other number cell value) past)) w.1
  source_shown (Waited other counter ∷ past) newer e w =
      shown_on past (if other == node then Some (Wait counter) else None) (if (other == node) && (counter == 0) then Some (source.Landed (got node all (awaited node 0 past))) else None)
      (source_shown past (newer ++ Waited other counter ∷ []) (e ∙ sym (append_one newer (Waited other counter) past)) w.1) (wait_on (other == node) other counter past refl w)
  source_shown (Arrived other stores ∷ past) newer e w =
      shown_on past (if other == node then Some (Arrive stores) else None) None
      (source_shown past (newer ++ Arrived other stores ∷ []) (e ∙ sym (append_one newer (Arrived other stores) past)) w.1) (arrive_on (other == node) stores (come past))
  source_shown (Passed other ∷ past) newer e w =
      shown_on past (if other == node then Some Pass else None) (if other == node then Some source.Passed else None)
      (source_shown past (newer ++ Passed other ∷ []) (e ∙ sym (append_one newer (Passed other) past)) w.1) (pass_on newer past other (other == node) refl e w)
  source_shown (Finished other kind.Ended ∷ past) newer e w = source_shown past (newer ++ Finished other kind.Ended ∷ []) (e ∙ sym (append_one newer (Finished other kind.Ended) past)) w.1
  source_shown (Finished other (kind.Fault k line) ∷ past) newer e w =
      source_shown past (newer ++ Finished other (kind.Fault k line) ∷ []) (e ∙ sym (append_one newer (Finished other (kind.Fault k line)) past)) w.1
  source_shown (Finished other kind.Cut ∷ past) newer e w = source_shown past (newer ++ Finished other kind.Cut ∷ []) (e ∙ sym (append_one newer (Finished other kind.Cut) past)) w.1
  source_shown (Finished other kind.Waiting ∷ past) newer e w =
      shown_on past (if other == node then Some Pass else None) (if other == node then Some source.Broken else None)
      (source_shown past (newer ++ Finished other kind.Waiting ∷ []) (e ∙ sym (append_one newer (Finished other kind.Waiting) past)) w.1) (break_on newer past other (other == node) refl e w)
