-- In a whole run of code each node's requests, text and end are those that the code plays under the node's oracle.
use Rattle.std.proofs.Common.{◌≡◌, ◌≢◌, ℕ, ◌≤◌, ◌==◌, ◌&&◌, List, [], ◌∷◌, ◌++◌, length, Option, Some, None, Bool, true, false, if◌then◌else◌, refl, sym, ap, ◌∙◌, subst, arith, le_refl, length-append}
use Rattle.std.specs.Prelude.{reverse}
use Rattle.std.specs.List.{filter_map, cons_option}
use Rattle.resumption.specs.Resumption.{Ends, RunEnd, RunOf, run_of}
use Rattle.sc_base.specs.declared.value.End.{End}
use Rattle.sc_base.specs.declared.value.End.TheVariants as kind
use Rattle.sc_layout.specs.Layout.{Arrangement}
use Rattle.sc_layout.specs.Start.{start}
use Rattle.sc_isa.specs.declared.code.Code.{Code}
use Rattle.sc_isa.specs.declared.journal.Entry.{Entry}
use Rattle.sc_isa.specs.declared.journal.Entry.TheVariants.{Issued, Delivered, Waited, Arrived, Passed, Finished}
use Rattle.sc_isa.specs.Begin.{begin}
use Rattle.sc_isa.specs.Run.{Ask, Issue, Wait, Arrive, Pass, Answer, Landed, Broken, Halt, Finish}
use Rattle.sc_isa.specs.Run as run
use Rattle.sc_isa.proofs.Settling.{more_same}
use Rattle.site_graph.specs.declared.plan.Plan.{Plan}
use Rattle.node_emit.specs.Spelled.{Piece}
use Rattle.sc_meaning.specs.declared.request.Request.{Request}
use Rattle.sc_meaning.specs.declared.request.Request.TheVariants.{Sync}
use Rattle.node_emit.specs.Pointed.{code_points}
use Rattle.node_emit.specs.Oracles.{Oracle, at_first, plays}
use Rattle.fabric.specs.Effects.{landed}
use Rattle.fabric.specs.Barriers.{finished}
use Rattle.fabric.specs.Wired.{Wired}
use Rattle.fabric.specs.Legal.{LegalPast}
use Rattle.fabric.specs.Asked.{Machine, answers, run_so_far, asked, Asked}
use Rattle.source_order.specs.Steps.{and_request, own_requests}
use Rattle.forgotten_marks.specs.Played.{without_points, request_asked, code_end, code_shows}
use Rattle.forgotten_marks.proofs.Marks.{from_forgotten}
use Rattle.forgotten_marks.proofs.PlayedRuns.{from_same}
use Rattle.run_moves.specs.OfCode.{machine_of}
use Rattle.code_requests.specs.Laws.{oracle_in, JournalsArePlayed}
use Rattle.code_requests.proofs.Listed.{and_ask, asks_in, Front, same_node, asked_is, asks_begin}
use Rattle.code_requests.proofs.Answers.{oracle_of, answers_are, breaks_here, append_one}
use Rattle.code_requests.proofs.Played.{coded_from, IsOver, run_by, played_is, BreaksAt, broken_exact, breaks_last}

false_if : (b : Bool) → (b ≡ true → ⊥) → b ≡ false
false_if true h = absurd (h refl)
false_if false h = refl

-- a front that is as long is the whole
whole_front : (xs ys : List Ask) → Front xs ys → length ys ≡ length xs → ys ≡ xs
whole_front xs ys f e = by_more f.more f.is (let l = length-append xs f.more in let m = ap (λ (l : List Ask). length l) f.is in omega (arith, l, m, e))
  where
    append_none : (xs : List Ask) → xs ++ [] ≡ xs
    append_none [] = refl
    append_none (x ∷ xs) = ap (λ l. x ∷ l) (append_none xs)

    by_more : (more : List Ask) → ys ≡ xs ++ more → length more ≡ 0 → ys ≡ xs
    by_more [] e z = e ∙ append_none xs
    by_more (x ∷ more) e z = absurd (omega (arith, z))

module _ (machine : Machine) (node : ℕ) where
  -- the node's run has this end, and where it does not end as waiting these are all of its asks
  pub record Fin (end : End) (asks : List Ask) (given : List Answer) : Type 0 where
    pub ends : (run_of (machine.starts node) given).end ≡ Ends (Finish end)
    pub exact : end ≢ kind.Waiting → (run_of (machine.starts node) given).events ≡ asks

  here : (other : ℕ) (past : List Entry) (end : End) → finished node past ≡ Some end → finished other past ≡ None → (other == node) ≡ false
  here other past end e f = false_if (other == node) (λ b. let g = subst (λ p. finished p past ≡ None) (same_node other node b) f in cc)

  keep : (b : Bool) (end : End) (ask : Ask) (asks : List Ask) (given given' : List Answer) → b ≡ false → Fin end asks given
      → Fin end (and_ask asks (if b then Some ask else None)) (if b then given' else given)
  keep b end ask asks given given' e h = subst (λ b. Fin end (and_ask asks (if b then Some ask else None)) (if b then given' else given)) (sym e) h

  kept : (b : Bool) (end : End) (ask : Ask) (asks : List Ask) (given : List Answer) → b ≡ false → Fin end asks given → Fin end (and_ask asks (if b then Some ask else None)) given
  kept b end ask asks given e h = subst (λ b. Fin end (and_ask asks (if b then Some ask else None)) given) (sym e) h

  finish : (b : Bool) (x end : End) (past : List Entry) (other : ℕ) → (other == node) ≡ b → x ≢ kind.Waiting
      → Wired machine.start machine.nodes past → Asked machine past → finished other past ≡ None → length (run_so_far machine other past).events ≡ asked other past
      → (run_so_far machine other past).end ≡ Ends (Finish x)
      → (if b then Some x else finished node past) ≡ Some end → (finished node past ≡ Some end → Fin end (asks_in node past) (answers machine node past)) → Fin end (asks_in node past) (answers machine node past)
  finish true x end past other f n w a not_finished long ends_ e ih =
      let same = same_node other node f in
      let is : x ≡ end = cc in
      let g : finished node past ≡ None = subst (λ p. finished p past ≡ None) same not_finished in
      record {
        ends = subst (λ p. (run_so_far machine p past).end ≡ Ends (Finish x)) same ends_ ∙ ap (λ y. Ends (Finish y)) is;
        exact = λ m. whole_front (asks_in node past) (run_so_far machine node past).events (asks_begin machine node past w a)
            (subst (λ p. length (run_so_far machine p past).events ≡ asked p past) same long ∙ sym (asked_is machine node past g));
      }
  finish false x end past other f n w a not_finished long ends_ e ih = ih e

  broken : (b : Bool) (end : End) (past : List Entry) (other : ℕ) → (other == node) ≡ b → finished other past ≡ None
      → (run_of (machine.starts other) (answers machine other past ++ Broken ∷ [])).end ≡ Ends (Finish kind.Waiting)
      → (if b then Some kind.Waiting else finished node past) ≡ Some end → (finished node past ≡ Some end → Fin end (asks_in node past) (answers machine node past))
      → Fin end (and_ask (asks_in node past) (if b then Some Pass else None)) (if b then answers machine node past ++ Broken ∷ [] else answers machine node past)
  broken true end past other f not_finished ends_ e ih =
      let same = same_node other node f in
      let is : kind.Waiting ≡ end = cc in
      record {
        ends = subst (λ p. (run_of (machine.starts p) (answers machine p past ++ Broken ∷ [])).end ≡ Ends (Finish kind.Waiting)) same ends_ ∙ ap (λ y. Ends (Finish y)) is;
        exact = λ m. absurd (m (sym is));
      }
  broken false end past other f not_finished ends_ e ih = ih e

  pub fin_of : (past : List Entry) (end : End) → Wired machine.start machine.nodes past → Asked machine past → finished node past ≡ Some end → Fin end (asks_in node past) (answers machine node past)
  fin_of [] end w a e = absurd (cc)
  fin_of (Issued other number x ∷ past) end w a e =
      kept (other == node) end (Issue x) (asks_in node past) (answers machine node past) (here other past end e w.0.going.running.not_finished) (fin_of past end w.1 a.1 e)
  fin_of (Delivered other number cell value ∷ past) end w a e = fin_of past end w.1 a.1 e
  fin_of (Waited other counter ∷ past) end w a e =
      keep (other == node) end (Wait counter) (asks_in node past) (answers machine node past) (answers machine node past ++ Landed (landed machine.start node counter past) ∷ [])
      (here other past end e w.0.going.running.not_finished) (fin_of past end w.1 a.1 e)
  fin_of (Arrived other stores ∷ past) end w a e =
      kept (other == node) end (Arrive stores) (asks_in node past) (answers machine node past) (here other past end e w.0.running.not_finished) (fin_of past end w.1 a.1 e)
  fin_of (Passed other ∷ past) end w a e =
      keep (other == node) end Pass (asks_in node past) (answers machine node past) (answers machine node past ++ run.Passed ∷ []) (here other past end e w.0.running.not_finished) (fin_of past end w.1 a.1 e)
  fin_of (Finished other kind.Ended ∷ past) end w a e =
      finish (other == node) kind.Ended end past other refl (λ f. cc) w.1 a.1 w.0.running.not_finished a.0.nothing_more a.0.ends e (λ f. fin_of past end w.1 a.1 f)
  fin_of (Finished other (kind.Fault k line) ∷ past) end w a e =
      finish (other == node) (kind.Fault k line) end past other refl (λ f. cc) w.1 a.1 w.0.running.not_finished a.0.nothing_more a.0.ends e (λ f. fin_of past end w.1 a.1 f)
  fin_of (Finished other kind.Cut ∷ past) end w a e =
      finish (other == node) kind.Cut end past other refl (λ f. cc) w.1 a.1 w.0.running.not_finished a.0.nothing_more a.0.ends e (λ f. fin_of past end w.1 a.1 f)
  fin_of (Finished other kind.Waiting ∷ past) end w a e =
      broken (other == node) end past other refl w.0.running.not_finished a.0.ends e (λ f. fin_of past end w.1 a.1 f)

-- ---- requests

own_one : (asks : List Ask) (ask : Ask) → filter_map request_asked (asks ++ ask ∷ []) ≡ and_request (filter_map request_asked asks) (request_asked ask)
own_one [] ask = by_option (request_asked ask)
  where
    by_option : (o : Option Request) → cons_option o [] ≡ and_request [] o
    by_option None = refl
    by_option (Some r) = refl
own_one (x ∷ asks) ask = ap (λ l. cons_option (request_asked x) l) (own_one asks ask) ∙ by_option (request_asked x) (request_asked ask)
  where
    by_option : (o q : Option Request) → cons_option o (and_request (filter_map request_asked asks) q) ≡ and_request (cons_option o (filter_map request_asked asks)) q
    by_option None q = refl
    by_option (Some r) None = refl
    by_option (Some r) (Some s) = refl

module _ (node : ℕ) where
  own_if : (b : Bool) (asks : List Ask) (ask : Ask) (requests : List Request) → filter_map request_asked asks ≡ requests
      → filter_map request_asked (and_ask asks (if b then Some ask else None)) ≡ and_request requests (if b then request_asked ask else None)
  own_if true asks ask requests e = own_one asks ask ∙ ap (λ l. and_request l (request_asked ask)) e
  own_if false asks ask requests e = e

  none_if : (b : Bool) → (if b then request_asked Pass else None) ≡ None
  none_if true = refl
  none_if false = refl

  wait_if : (b z : Bool) → (if b then (if z then Some (Sync 0) else None) else None) ≡ (if b && z then Some (Sync 0) else None)
  wait_if true z = refl
  wait_if false z = refl

  -- the requests of a node are those among its asks
  pub own_are : (past : List Entry) → filter_map request_asked (asks_in node past) ≡ own_requests node past
  own_are [] = refl
  own_are (Issued other number x ∷ past) = own_if (other == node) (asks_in node past) (Issue x) (own_requests node past) (own_are past)
  own_are (Delivered other number cell value ∷ past) = own_are past
  own_are (Waited other counter ∷ past) =
      own_if (other == node) (asks_in node past) (Wait counter) (own_requests node past) (own_are past)
      ∙ ap (λ o. and_request (own_requests node past) o) (wait_if (other == node) (counter == 0))
  own_are (Arrived other stores ∷ past) = own_if (other == node) (asks_in node past) (Arrive stores) (own_requests node past) (own_are past)
  own_are (Passed other ∷ past) =
      own_if (other == node) (asks_in node past) Pass (own_requests node past) (own_are past) ∙ ap (λ o. and_request (own_requests node past) o) (none_if (other == node))
  own_are (Finished other kind.Ended ∷ past) = own_are past
  own_are (Finished other (kind.Fault k line) ∷ past) = own_are past
  own_are (Finished other kind.Cut ∷ past) = own_are past
  own_are (Finished other kind.Waiting ∷ past) =
      own_if (other == node) (asks_in node past) Pass (own_requests node past) (own_are past) ∙ ap (λ o. and_request (own_requests node past) o) (none_if (other == node))

-- ---- the last ask of a node that ends as waiting

module _ (machine : Machine) (node : ℕ) (whole : List Entry) (wired : Wired machine.start machine.nodes whole) where
  abbrev pub oracle_ : Oracle
  oracle_ = oracle_of machine node whole wired

  breaks_if : (b : Bool) (asks : List Ask) (ask : Ask) → b ≡ false → BreaksAt oracle_ at_first asks → BreaksAt oracle_ at_first (and_ask asks (if b then Some ask else None))
  breaks_if b asks ask e h = subst (λ b. BreaksAt oracle_ at_first (and_ask asks (if b then Some ask else None))) (sym e) h

  last_breaks : (b : Bool) (newer past : List Entry) (other : ℕ) → (other == node) ≡ b → whole ≡ newer ++ Finished other kind.Waiting ∷ past
      → Wired machine.start machine.nodes (Finished other kind.Waiting ∷ past) → (if b then Some kind.Waiting else finished node past) ≡ Some kind.Waiting
      → (finished node past ≡ Some kind.Waiting → BreaksAt oracle_ at_first (asks_in node past))
      → BreaksAt oracle_ at_first (and_ask (asks_in node past) (if b then Some Pass else None))
  last_breaks true newer past other f e w g ih =
      breaks_last oracle_ at_first (asks_in node past) Pass (ap (λ a. a ∷ []) (breaks_here machine node whole wired newer past other f e w))
  last_breaks false newer past other f e w g ih = ih g

  away : (other : ℕ) (past : List Entry) → finished node past ≡ Some kind.Waiting → finished other past ≡ None → (other == node) ≡ false
  away other past e f = false_if (other == node) (λ b. let g = subst (λ p. finished p past ≡ None) (same_node other node b) f in cc)

  later : (b : Bool) (x : End) (o : Option End) → (x ≡ kind.Waiting → ⊥) → (if b then Some x else o) ≡ Some kind.Waiting → o ≡ Some kind.Waiting
  later true x o n e = absurd (n (cc))
  later false x o n e = e

  pub breaks_of : (past newer : List Entry) → whole ≡ newer ++ past → Wired machine.start machine.nodes past → finished node past ≡ Some kind.Waiting → BreaksAt oracle_ at_first (asks_in node past)
  breaks_of [] newer e w f = absurd (cc)
  breaks_of (Issued other number x ∷ past) newer e w f =
      breaks_if (other == node) (asks_in node past) (Issue x) (away other past f w.0.going.running.not_finished)
      (breaks_of past (newer ++ Issued other number x ∷ []) (e ∙ sym (append_one newer (Issued other number x) past)) w.1 f)
  breaks_of (Delivered other number cell value ∷ past) newer e w f =
      breaks_of past (newer ++ Delivered other number cell value ∷ []) (e ∙ sym (append_one newer (Delivered other number cell value) past)) w.1 f
  breaks_of (Waited other counter ∷ past) newer e w f =
      breaks_if (other == node) (asks_in node past) (Wait counter) (away other past f w.0.going.running.not_finished)
      (breaks_of past (newer ++ Waited other counter ∷ []) (e ∙ sym (append_one newer (Waited other counter) past)) w.1 f)
  breaks_of (Arrived other stores ∷ past) newer e w f =
      breaks_if (other == node) (asks_in node past) (Arrive stores) (away other past f w.0.running.not_finished)
      (breaks_of past (newer ++ Arrived other stores ∷ []) (e ∙ sym (append_one newer (Arrived other stores) past)) w.1 f)
  breaks_of (Passed other ∷ past) newer e w f =
      breaks_if (other == node) (asks_in node past) Pass (away other past f w.0.running.not_finished)
      (breaks_of past (newer ++ Passed other ∷ []) (e ∙ sym (append_one newer (Passed other) past)) w.1 f)
  breaks_of (Finished other kind.Ended ∷ past) newer e w f =
      breaks_of past (newer ++ Finished other kind.Ended ∷ []) (e ∙ sym (append_one newer (Finished other kind.Ended) past)) w.1 (later (other == node) kind.Ended (finished node past) (λ g. cc) f)
  breaks_of (Finished other (kind.Fault k line) ∷ past) newer e w f =
      breaks_of past (newer ++ Finished other (kind.Fault k line) ∷ []) (e ∙ sym (append_one newer (Finished other (kind.Fault k line)) past)) w.1
      (later (other == node) (kind.Fault k line) (finished node past) (λ g. cc) f)
  breaks_of (Finished other kind.Cut ∷ past) newer e w f =
      breaks_of past (newer ++ Finished other kind.Cut ∷ []) (e ∙ sym (append_one newer (Finished other kind.Cut) past)) w.1 (later (other == node) kind.Cut (finished node past) (λ g. cc) f)
  breaks_of (Finished other kind.Waiting ∷ past) newer e w f =
      last_breaks (other == node) newer past other refl e w f
      (λ g. breaks_of past (newer ++ Finished other kind.Waiting ∷ []) (e ∙ sym (append_one newer (Finished other kind.Waiting) past)) w.1 g)

-- ---- the story

shows_as : (r : RunOf Ask Halt) (requests : List Request) (text : List ℕ) (end : End) → filter_map request_asked r.events ≡ requests → r.text ≡ text → r.end ≡ Ends (Finish end)
    → code_shows r ≡ record { events = requests; text = text; end = Ends end }
shows_as r requests text end e t f =
    let R : List Request → List ℕ → RunEnd Halt → RunOf Request End = λ es ts en. record { events = es; text = ts; end = code_end en } in
    ap (λ es. R es r.text r.end) e ∙ ap (λ ts. R requests ts r.end) t ∙ ap (λ en. R requests text en) f

by_end : {A : Type 0} {x y z : A} (end : End) {o : Option End} → o ≡ Some end → (end ≢ kind.Waiting → x ≡ y) → (o ≡ Some kind.Waiting → z ≡ y) → z ≡ x → z ≡ y
by_end kind.Ended e f g h = h ∙ f (λ n. cc)
by_end (kind.Fault k line) e f g h = h ∙ f (λ n. cc)
by_end kind.Cut e f g h = h ∙ f (λ n. cc)
by_end kind.Waiting e f g h = g e

-- the run of a node that finished, by so many instructions or more
pub record Story_ (layout : Arrangement) (code : Code) (plan : Plan) (pieces : List Piece) (between : ℕ → ℕ → List ℕ) (node budget many more : ℕ) (past : List Entry) (end : End)
    (empty : ℕ → Bool) : Type 0 where
  pub ends : (run_by (code_points code layout plan pieces between node budget more) (answers (machine_of layout code budget many) node past)).end ≡ Ends (Finish end)
  pub asks : (run_by (code_points code layout plan pieces between node budget more) (answers (machine_of layout code budget many) node past)).events ≡ asks_in node past
  pub shows : without_points (plays (oracle_in (start layout) node past) empty at_first (code_points code layout plan pieces between node budget more))
      ≡ record { events = own_requests node past; text = (run_so_far (machine_of layout code budget many) node past).text; end = Ends end }

pub story_of : (layout : Arrangement) (code : Code) (plan : Plan) (pieces : List Piece) (between : ℕ → ℕ → List ℕ) (node budget many more : ℕ) (past : List Entry) (end : End)
    (empty : ℕ → Bool) → many ≤ more → LegalPast (machine_of layout code budget many) past → finished node past ≡ Some end
    → Story_ layout code plan pieces between node budget many more past end empty
story_of layout code plan pieces between node budget many more past end empty le legal over =
    let machine = machine_of layout code budget many in
    let points = code_points code layout plan pieces between node budget more in
    let given = answers machine node past in
    let asks = asks_in node past in
    let oracle = oracle_of machine node past legal.wired in
    let fin = fin_of machine node past end legal.wired legal.asked over in
    let same : run_by points given ≡ run_so_far machine node past =
    from_forgotten code layout plan pieces between node more 0 (begin code budget) given
    ∙ more_same code layout node many more (begin code budget) given le (λ e. let f = fin.ends in cc) in
    let are = answers_are machine node past legal.wired past [] refl legal.wired in
    let front : Front asks (run_by points given).events = subst (λ (r : RunOf Ask Halt). Front asks r.events) (sym same) (asks_begin machine node past legal.wired legal.asked) in
    let ends : IsOver (run_by points given) = (end, ap (λ (r : RunOf Ask Halt). r.end) same ∙ fin.ends) in
    let coded = coded_from code layout plan pieces between node more 0 (begin code budget) in
    let played = played_is oracle points at_first given asks coded ends front are in
    let events : (run_by points given).events ≡ asks = by_end end over fin.exact
    (λ w. broken_exact oracle points at_first given asks coded ends front are (breaks_of machine node past legal.wired past [] refl legal.wired w))
    (ap (λ (r : RunOf Ask Halt). r.events) same) in
    record {
      ends = ends.1;
      asks = events;
      shows =
          from_same empty oracle code layout plan pieces between node more 0 (begin code budget) at_first
          ∙ ap (λ as_. code_shows (run_by points as_)) played
          ∙ shows_as (run_by points given) (own_requests node past) (run_so_far machine node past).text end
          (ap (λ l. filter_map request_asked l) events ∙ own_are node past) (ap (λ (r : RunOf Ask Halt). r.text) same) ends.1;
    }

pub journals_are_played : JournalsArePlayed
journals_are_played layout code plan pieces between node budget many journal end empty is_run over =
    (story_of layout code plan pieces between node budget many many (reverse journal) end empty (le_refl many) is_run.legal over).shows
