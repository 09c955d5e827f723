-- The asks of a node in a journal are those of its run.
use Rattle.std.proofs.Common.{◌≡◌, ℕ, ◌+◌, ◌==◌, List, [], ◌∷◌, ◌++◌, length, Option, Some, None, Bool, true, false, if◌then◌else◌, slice_get, refl, sym, ap, ◌∙◌, subst, arith, length-append}
use Rattle.std.proofs.lemmas.Bool.Decides.{Decides-eqb}
use Rattle.resumption.specs.Resumption.{RunOf, run_of}
use Rattle.resumption.proofs.Extending.{extends}
use Rattle.sc_base.specs.declared.value.End.{End}
use Rattle.sc_base.specs.declared.value.End.TheVariants as kind
use Rattle.sc_isa.specs.declared.journal.Entry.{Entry}
use Rattle.sc_isa.specs.declared.journal.Entry.TheVariants.{Issued, Delivered, Waited, Arrived, Passed, Finished}
use Rattle.sc_isa.specs.Run.{Ask, Issue, Wait, Arrive, Pass, Answer, Landed, Broken, Halt, Finish}
use Rattle.sc_isa.specs.Run as run
use Rattle.fabric.specs.Effects.{landed}
use Rattle.fabric.specs.Barriers.{finished}
use Rattle.fabric.specs.Wired.{Wired}
use Rattle.fabric.specs.Asked.{Machine, answers, run_so_far, asked, next_ask, Asked}

-- what the node asks by the entry; where it finishes as waiting it asked to pass
abbrev pub asks_by : ℕ → Entry → Option Ask
asks_by node (Issued other number access) = if other == node then Some (Issue access) else None
asks_by node (Delivered other number cell value) = None
asks_by node (Waited other counter) = if other == node then Some (Wait counter) else None
asks_by node (Arrived other stores) = if other == node then Some (Arrive stores) else None
asks_by node (Passed other) = if other == node then Some Pass else None
asks_by node (Finished other kind.Waiting) = if other == node then Some Pass else None
asks_by node (Finished other end) = None

abbrev pub and_ask : List Ask → Option Ask → List Ask
and_ask asks None = asks
and_ask asks (Some ask) = asks ++ ask ∷ []

abbrev pub asks_in : ℕ → List Entry → List Ask
asks_in node [] = []
asks_in node (entry ∷ past) = and_ask (asks_in node past) (asks_by node entry)

pub record Front (xs ys : List Ask) : Type 0 where
  pub more : List Ask
  pub is : ys ≡ xs ++ more

front_more : (xs ys zs : List Ask) → Front xs ys → Front xs (ys ++ zs)
front_more xs ys zs f = record { more = f.more ++ zs; is = ap (λ l. l ++ zs) f.is ∙ append_all xs f.more zs }
  where
    append_all : (xs ys zs : List Ask) → (xs ++ ys) ++ zs ≡ xs ++ (ys ++ zs)
    append_all [] ys zs = refl
    append_all (x ∷ xs) ys zs = ap (λ l. x ∷ l) (append_all xs ys zs)

front_snoc : (xs ys : List Ask) (y : Ask) → Front xs ys → slice_get ys (length xs) ≡ Some y → Front (xs ++ y ∷ []) ys
front_snoc [] ys y f e = by_list ys e
  where
    by_list : (ys : List Ask) → slice_get ys 0 ≡ Some y → Front (y ∷ []) ys
    by_list [] e = absurd (cc)
    by_list (z ∷ ys) e = let same : z ≡ y = cc in record { more = ys; is = ap (λ w. w ∷ ys) same }
front_snoc (x ∷ xs) [] y f e = absurd (cc)
front_snoc (x ∷ xs) (z ∷ ys) y f e =
    let i = f.is in
    let same : z ≡ x = cc in
    let rest : ys ≡ xs ++ f.more = cc in
    let g = front_snoc xs ys y (record { more = f.more; is = rest }) e in
    record { more = g.more; is = ap (λ w. w ∷ ys) same ∙ ap (λ l. x ∷ l) g.is }

pub same_node : (other node : ℕ) → (other == node) ≡ true → other ≡ node
same_node other node e = (Decides-eqb other node).0 e

module _ (machine : Machine) (node : ℕ) where
  abbrev pub run_by : List Answer → RunOf Ask Halt
  run_by given = run_of (machine.starts node) given

  -- an ask that has no answer
  made : (b : Bool) (ask : Ask) (given : List Answer) (A : List Ask) → Front A (run_by given).events → (b ≡ true → slice_get (run_by given).events (length A) ≡ Some ask)
      → Front (and_ask A (if b then Some ask else None)) (run_by given).events
  made true ask given A f e = front_snoc A (run_by given).events ask f (e refl)
  made false ask given A f e = f

  -- and one that is answered
  answered : (b : Bool) (ask : Ask) (given : List Answer) (answer : Answer) (A : List Ask) → Front A (run_by given).events
      → (b ≡ true → slice_get (run_by given).events (length A) ≡ Some ask)
      → Front (and_ask A (if b then Some ask else None)) (run_by (if b then given ++ answer ∷ [] else given)).events
  answered true ask given answer A f e =
      let x = extends (machine.starts node) given (answer ∷ []) in
      subst (λ l. Front (A ++ ask ∷ []) l) (sym x.events)
      (front_more (A ++ ask ∷ []) (run_by given).events x.more_events (front_snoc A (run_by given).events ask f (e refl)))
  answered false ask given answer A f e = f

  length_ask : (b : Bool) (ask : Ask) (A : List Ask) (n : ℕ) → length A ≡ n → length (and_ask A (if b then Some ask else None)) ≡ (if b then n + 1 else n)
  length_ask true ask A n e = let l = length-append A (ask ∷ []) in omega (arith, e, l)
  length_ask false ask A n e = e

  not_here : (b : Bool) (end : End) (o : Option End) → (if b then Some end else o) ≡ None → (b ≡ false)
  not_here true end o e = absurd (cc)
  not_here false end o e = refl

  before : (b : Bool) (end : End) (o : Option End) → (if b then Some end else o) ≡ None → o ≡ None
  before true end o e = absurd (cc)
  before false end o e = e

  -- a node that has not finished made as many asks as are counted
  pub asked_is : (past : List Entry) → finished node past ≡ None → length (asks_in node past) ≡ asked node past
  asked_is [] e = refl
  asked_is (Issued other number access ∷ past) e = length_ask (other == node) (Issue access) (asks_in node past) (asked node past) (asked_is past e)
  asked_is (Delivered other number cell value ∷ past) e = asked_is past e
  asked_is (Waited other counter ∷ past) e = length_ask (other == node) (Wait counter) (asks_in node past) (asked node past) (asked_is past e)
  asked_is (Arrived other stores ∷ past) e = length_ask (other == node) (Arrive stores) (asks_in node past) (asked node past) (asked_is past e)
  asked_is (Passed other ∷ past) e = length_ask (other == node) Pass (asks_in node past) (asked node past) (asked_is past e)
  asked_is (Finished other kind.Ended ∷ past) e = asked_is past (before (other == node) kind.Ended (finished node past) e)
  asked_is (Finished other (kind.Fault f line) ∷ past) e = asked_is past (before (other == node) (kind.Fault f line) (finished node past) e)
  asked_is (Finished other kind.Cut ∷ past) e = asked_is past (before (other == node) kind.Cut (finished node past) e)
  asked_is (Finished other kind.Waiting ∷ past) e =
      let h = not_here (other == node) kind.Waiting (finished node past) e in
      ap (λ b. length (and_ask (asks_in node past) (if b then Some Pass else None))) h ∙ asked_is past (before (other == node) kind.Waiting (finished node past) e)

  next_is : (past : List Entry) (other : ℕ) (ask : Ask) → finished other past ≡ None → next_ask machine other past ≡ Some ask → other ≡ node
      → slice_get (run_by (answers machine node past)).events (length (asks_in node past)) ≡ Some ask
  next_is past other ask not_finished next same =
      ap (λ n. slice_get (run_by (answers machine node past)).events n) (asked_is past (subst (λ p. finished p past ≡ None) same not_finished))
      ∙ subst (λ p. next_ask machine p past ≡ Some ask) same next

  -- the asks that have entries begin those of the run
  pub asks_begin : (past : List Entry) → Wired machine.start machine.nodes past → Asked machine past → Front (asks_in node past) (run_so_far machine node past).events
  asks_begin [] w a = record { more = (run_by []).events; is = refl }
  asks_begin (Issued other number access ∷ past) w a =
      made (other == node) (Issue access) (answers machine node past) (asks_in node past) (asks_begin past w.1 a.1)
      (λ e. next_is past other (Issue access) w.0.going.running.not_finished a.0 (same_node other node e))
  asks_begin (Delivered other number cell value ∷ past) w a = asks_begin past w.1 a.1
  asks_begin (Waited other counter ∷ past) w a =
      answered (other == node) (Wait counter) (answers machine node past) (Landed (landed machine.start node counter past)) (asks_in node past) (asks_begin past w.1 a.1)
      (λ e. next_is past other (Wait counter) w.0.going.running.not_finished a.0 (same_node other node e))
  asks_begin (Arrived other stores ∷ past) w a =
      made (other == node) (Arrive stores) (answers machine node past) (asks_in node past) (asks_begin past w.1 a.1)
      (λ e. next_is past other (Arrive stores) w.0.running.not_finished a.0 (same_node other node e))
  asks_begin (Passed other ∷ past) w a =
      answered (other == node) Pass (answers machine node past) run.Passed (asks_in node past) (asks_begin past w.1 a.1)
      (λ e. next_is past other Pass w.0.running.not_finished a.0 (same_node other node e))
  asks_begin (Finished other kind.Ended ∷ past) w a = asks_begin past w.1 a.1
  asks_begin (Finished other (kind.Fault f line) ∷ past) w a = asks_begin past w.1 a.1
  asks_begin (Finished other kind.Cut ∷ past) w a = asks_begin past w.1 a.1
  asks_begin (Finished other kind.Waiting ∷ past) w a =
      answered (other == node) Pass (answers machine node past) Broken (asks_in node past) (asks_begin past w.1 a.1)
      (λ e. next_is past other Pass w.0.running.not_finished a.0.passing (same_node other node e))
