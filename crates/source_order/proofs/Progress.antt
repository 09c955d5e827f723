-- How far a node has come along items taken as the source allows, and how far it is after one more.
use Rattle.std.proofs.Common.{◌≡◌, ℕ, zero, suc, ◌+◌, ◌<◌, ◌≤◌, List, [], ◌∷◌, ◌++◌, length, Option, Some, None, Bool, true, false, ◌==◌, refl, sym, ap, ◌∙◌, subst, ⊎_elim, arith, length-append}
use Rattle.std.specs.Prelude.{IsSome, slice_get, if◌then◌else◌}
use Rattle.std.proofs.lemmas.Bool.{cases_lt}
use Rattle.effect_order.specs.Effect.{Effect as CellEffect}
use Rattle.sc_meaning.specs.declared.request.Request.TheVariants as ask
use Rattle.sc_meaning.specs.History.{barrier_of}
use Rattle.sc_isa.specs.declared.access.Track.{Track}
use Rattle.sc_isa.specs.declared.access.Track.TheVariants.{Counter, Store, Covered}
use Rattle.sc_base.specs.declared.value.Place.{Place}
use Rattle.sc_base.specs.declared.value.Value.{Value}
use Rattle.sc_base.specs.declared.value.End.{End}
use Rattle.sc_meaning.specs.declared.event.SourceEvent.{SourceEvent}
use Rattle.sc_meaning.specs.Asking.{Answer, Shown}
use Rattle.effect_order.specs.Transfer.{part_value, part_place}
use Rattle.sc_meaning.specs.Past.{Processes, made, arrivals, releases, ended, answers, or_zero}
use Rattle.sc_isa.specs.declared.access.Access.{Access}
use Rattle.sc_isa.specs.declared.access.Access.TheVariants.{Read, Write, Copy}
use Rattle.sc_isa.specs.declared.journal.Entry.{Entry}
use Rattle.sc_isa.specs.declared.journal.Entry.TheVariants.{Issued, Arrived}
use Rattle.fabric.specs.Access.{transfer_of}
use Rattle.source_order.specs.Steps.{requested, own_requests, arrivals_among}
use Rattle.sc_meaning.specs.OfAccess.{is_blocking, request_in, is_done_at_once}
use Rattle.source_order.specs.Made.{answers_in, answer_of_issue}
use Rattle.source_order.proofs.Stands.{Stands}
use Rattle.source_order.proofs.Numbers.{eq_self, if_true, issued_is, among_before, among_with}
use Rattle.source_order.proofs.Occurs.{not_some, some_from}
use Rattle.source_order.proofs.Answered.{issue_answer}
use Rattle.source_order.proofs.Character.{IsAccess}
use Rattle.source_order.proofs.Matches.{Known}
use Rattle.source_order.proofs.Taken.{E}
use Rattle.sc_meaning.specs.Answering.{is_answered}
use Rattle.source_order.proofs.Asked.{one_if, asks, asks_grow}
use Rattle.source_order.proofs.Parted.{Full, Needed, Begun}
use Rattle.source_order.proofs.Needed.{needed_before, needed_with}

pub eq_is : (q p : ℕ) → q ≡ p → (q == p) ≡ true
eq_is q p e = subst (λ u. (q == u) ≡ true) e (eq_self q)

-- the next of all answers
next_of_rest : (given rest : List Answer) (k : ℕ) (a : Answer) → length given ≡ k → slice_get (given ++ rest) k ≡ Some a → (more : List Answer) × (given ++ rest ≡ (given ++ a ∷ []) ++ more)
next_of_rest [] [] k a n h = absurd cc
next_of_rest [] (x ∷ rest) zero a n h = let e : x ≡ a = cc in (rest, ap (λ u. u ∷ rest) e)
next_of_rest [] (x ∷ rest) (suc k) a n h = absurd (omega arith)
next_of_rest (g ∷ given) rest zero a n h = absurd (omega arith)
next_of_rest (g ∷ given) rest (suc k) a n h = let r = next_of_rest given rest k a (omega arith) h in (r.0, ap (λ u. g ∷ u) r.1)

pub next_answer : (all given rest : List Answer) (k : ℕ) (a : Answer) → all ≡ given ++ rest → length given ≡ k → slice_get all k ≡ Some a → (more : List Answer) × (all ≡ (given ++ a ∷ []) ++ more)
next_answer all given rest k a e n h = let r = next_of_rest given rest k a n (subst (λ u. slice_get u k ≡ Some a) e h) in (r.0, e ∙ r.1)

module _ (processes : Processes) (whole : List Entry) (known : Known processes whole) (p : ℕ) (within : p < processes.nodes) where
  abbrev pub A : List Answer
  A = answers_in (E processes whole known) p whole

  -- how far the node has come
  pub record Kept (past : List SourceEvent) : Type 0 where
    pub rest : List Answer
    pub prefix : A ≡ answers processes p past ++ rest
    pub among : arrivals p past ≡ arrivals_among p (made p past) whole
    pub low : releases past ≤ arrivals p past
    pub high : arrivals p past ≤ releases past + 1
    -- all its requests are answered, but for one at which it stands
    pub level : ended p past ≡ None → length (answers processes p past) + arrivals p past ≡ Needed processes whole known p (made p past) + releases past
    -- it ended after all its requests
    pub full : IsSome (ended p past) → (made p past ≡ requested p whole) × (length (answers processes p past) ≡ Needed processes whole known p (made p past))
    -- where it stands
    pub at : ended p past ≡ None → arrivals p past ≡ releases past + 1 → (old : List Entry) × (s : Bool) × Stands old (Arrived p s) whole × (suc (requested p old) ≡ made p past)

  abbrev N : ℕ → ℕ
  N k = Needed processes whole known p k

  grow : (j k : ℕ) → j ≤ k → N j ≤ N k
  grow j k le = asks_grow j k (Full processes whole known p).events le

  barrier_one : (s : Bool) → one_if (is_answered (barrier_of s 0)) ≡ 1
  barrier_one true = refl
  barrier_one false = refl

  -- an arrival is answered
  pub arrival_needed : (old : List Entry) (s : Bool) → Stands old (Arrived p s) whole
      → (N (suc (requested p old)) ≡ suc (N (requested p old))) × (N (requested p old) ≡ asks (requested p old) (own_requests p old))
  arrival_needed old s st =
      let h = if_true (p == p) (Some (barrier_of s 0)) None (eq_self p) in
      let a = needed_with processes whole known p within old (Arrived p s) (barrier_of s 0) st h in
      let o = barrier_one s in (omega arith, needed_before processes whole known p within old (Arrived p s) (barrier_of s 0) st h)

  pub begun : (past : List SourceEvent) → Kept past → Begun processes whole known p past
  begun past k = record { rest = k.rest; prefix = k.prefix; enough = λ j lt. by (ended p past) refl j lt; waits = known.waits p within }
    where
      stood : ended p past ≡ None → (j : ℕ) → j < made p past → arrivals p past ≡ releases past + 1 → N j ≤ length (answers processes p past)
      stood e j lt eq =
          let st = k.at e eq in
          let a = (arrival_needed st.0 st.1 st.2).0 in
          let m = st.3 in let b = k.level e in
          let g = grow j (requested p st.0) (omega arith) in
          let c = ap N m in omega arith

      by : (o : Option End) → ended p past ≡ o → (j : ℕ) → j < made p past → N j ≤ length (answers processes p past)
      by None e j lt = ⊎_elim
          (λ le. let a = k.level e in let g = grow j (made p past) (omega arith) in omega arith)
          (λ ge. stood e j lt (let b = k.high in omega arith))
          (cases_lt (arrivals p past) (suc (releases past)))
      by (Some end) e j lt = let a = (k.full (some_from _ end e)).1 in let g = grow j (made p past) (omega arith) in omega arith

  -- nothing changes for the node
  pub same : (x : SourceEvent) (past : List SourceEvent) → Kept past → answers processes p (x ∷ past) ≡ answers processes p past → made p (x ∷ past) ≡ made p past → arrivals p (x ∷ past) ≡ arrivals p past
      → releases (x ∷ past) ≡ releases past → ended p (x ∷ past) ≡ ended p past → Kept (x ∷ past)
  same x past k a m r l e = record {
    rest = k.rest;
    prefix = k.prefix ∙ ap (λ u. u ++ k.rest) (sym a);
    among = r ∙ k.among ∙ ap (λ u. arrivals_among p u whole) (sym m);
    low = (let z = k.low in omega arith);
    high = (let z = k.high in omega arith);
    level = λ f. (let z = k.level (sym e ∙ f) in let y = ap length a in let w = ap N m in omega arith);
    full = λ f. (let z = k.full (subst (λ o. IsSome o) e f) in let y = ap length a in let b = z.0 in let c = z.1 in let w = ap N m in (omega arith, omega arith));
    at = λ f h. (let z = k.at (sym e ∙ f) (omega arith) in (z.0, z.1, z.2, (let b = z.3 in omega arith)));
  }

  -- a request of the node, that is answered at once
  pub advance : (x : SourceEvent) (past : List SourceEvent) → Kept past → ended p past ≡ None → arrivals p past ≤ releases past → (a : Answer)
      → answers processes p (x ∷ past) ≡ answers processes p past ++ a ∷ [] → made p (x ∷ past) ≡ made p past + 1 → arrivals p (x ∷ past) ≡ arrivals p past
      → releases (x ∷ past) ≡ releases past → ended p (x ∷ past) ≡ ended p past
      → slice_get A (N (made p past)) ≡ Some a → N (suc (made p past)) ≡ N (made p past) + 1
      → arrivals_among p (suc (made p past)) whole ≡ arrivals_among p (made p past) whole → Kept (x ∷ past)
  advance x past k f le a an m r l e h one same_among =
      let o = k.level f in let lo = k.low in
      let n = next_answer A (answers processes p past) k.rest (N (made p past)) a k.prefix (omega arith) h in
      let len = ap length an in let len2 = length-append (answers processes p past) (a ∷ []) in
      let m2 : made p (x ∷ past) ≡ suc (made p past) = omega arith in
      let w = ap N m2 in
      record {
        rest = n.0;
        prefix = n.1 ∙ ap (λ u. u ++ n.0) (sym an);
        among = r ∙ k.among ∙ sym same_among ∙ ap (λ u. arrivals_among p u whole) (sym m2);
        low = omega arith;
        high = omega arith;
        level = λ g. omega arith;
        full = λ g. absurd (not_some (ended p (x ∷ past)) (e ∙ f) g);
        at = λ g i. absurd (omega arith);
      }

  -- a request of the node that is not answered
  pub advance_on : (x : SourceEvent) (past : List SourceEvent) → Kept past → ended p past ≡ None → arrivals p past ≤ releases past
      → answers processes p (x ∷ past) ≡ answers processes p past → made p (x ∷ past) ≡ made p past + 1 → arrivals p (x ∷ past) ≡ arrivals p past
      → releases (x ∷ past) ≡ releases past → ended p (x ∷ past) ≡ ended p past
      → N (suc (made p past)) ≡ N (made p past)
      → arrivals_among p (suc (made p past)) whole ≡ arrivals_among p (made p past) whole → Kept (x ∷ past)
  advance_on x past k f le an m r l e none same_among =
      let o = k.level f in let lo = k.low in
      let len = ap length an in
      let m2 : made p (x ∷ past) ≡ suc (made p past) = omega arith in
      let w = ap N m2 in
      record {
        rest = k.rest;
        prefix = k.prefix ∙ ap (λ u. u ++ k.rest) (sym an);
        among = r ∙ k.among ∙ sym same_among ∙ ap (λ u. arrivals_among p u whole) (sym m2);
        low = omega arith;
        high = omega arith;
        level = λ g. omega arith;
        full = λ g. absurd (not_some (ended p (x ∷ past)) (e ∙ f) g);
        at = λ g i. absurd (omega arith);
      }

  -- an own step that is an access
  pub access_among : (k : ℕ) (once : Bool) (a : IsAccess whole p k once) → arrivals_among p (suc k) whole ≡ arrivals_among p k whole
  access_among k once a =
      subst (λ u. arrivals_among p (suc u) whole ≡ arrivals_among p u whole) a.numbered
      (among_with p a.past (Issued p a.n a.access) whole (request_in a.access) a.stands (issued_is p a.n a.access) ∙ sym (among_before p a.past (Issued p a.n a.access) whole (request_in a.access) a.stands (issued_is p a.n a.access)))

  pub access_needed : (k : ℕ) (once : Bool) (a : IsAccess whole p k once) → N (suc k) ≡ N k + one_if (is_answered (request_in a.access))
  access_needed k once a =
      subst (λ u. N (suc u) ≡ N u + one_if (is_answered (request_in a.access))) a.numbered
      (needed_with processes whole known p within a.past (Issued p a.n a.access) (request_in a.access) a.stands (issued_is p a.n a.access))

  pub access_answer : (k : ℕ) (once : Bool) (a : IsAccess whole p k once) (v : Answer) → answer_of_issue (E processes whole known) p a.n a.access ≡ Some v → slice_get A (N k) ≡ Some v
  access_answer k once a v h =
      subst (λ u. slice_get A (N u) ≡ Some v) a.numbered
      (subst (λ u. slice_get A u ≡ Some v) (sym (needed_before processes whole known p within a.past (Issued p a.n a.access) (request_in a.access) a.stands (issued_is p a.n a.access)))
      (issue_answer processes.start processes.nodes (E processes whole known) p a.n a.access a.past whole v known.wired a.stands h))

write_unanswered : (place : Place) (value : Value) (track : Track) → is_answered (request_in (Write place value track)) ≡ false
write_unanswered place value Store = refl
write_unanswered place value Covered = refl
write_unanswered place value (Counter c) = by (c == 0)
  where
    by : (b : Bool) → is_answered (if b then ask.Put place value 0 else ask.Write place value 0) ≡ false
    by true = refl
    by false = refl

-- an access that is not done at once is not answered, nor is one that writes
pub issue_unanswered : (access : Access) → is_done_at_once access ≡ false → is_answered (request_in access) ≡ false
issue_unanswered (Read place track) h = by (is_blocking track) h
  where
    by : (b : Bool) → b ≡ false → is_answered (if b then ask.Read place 0 else ask.Get place 0) ≡ false
    by true h = h
    by false h = refl
issue_unanswered (Write place value track) h = write_unanswered place value track
issue_unanswered (Copy from to cells track) h = refl

pub wrote_unanswered : (access : Access) (place : Place) → part_place (transfer_of access) 0 true ≡ Some place → is_answered (request_in access) ≡ false
wrote_unanswered (Read pl track) place h = absurd cc
wrote_unanswered (Write pl value track) place h = write_unanswered pl value track
wrote_unanswered (Copy _ _ _ _) place h = refl

-- a blocking read is answered, with what it reads
pub read_answered : (access : Access) (place : Place) → is_done_at_once access ≡ true → part_place (transfer_of access) 0 false ≡ Some place → is_answered (request_in access) ≡ true
read_answered (Read pl track) place once h = ap is_answered (if_true (is_blocking track) (ask.Read pl 0) (ask.Get pl 0) once)
read_answered (Write _ _ _) place once h = absurd cc
read_answered (Copy _ _ _ _) place once h = absurd cc

pub read_shown : (all : List CellEffect) (p : ℕ) (access : Access) (n : ℕ) (place : Place) (value : Value) → is_done_at_once access ≡ true → part_place (transfer_of access) 0 false ≡ Some place → part_value p n 0 false all ≡ Some value
    → answer_of_issue all p n access ≡ Some (Shown value)
read_shown all p (Read pl track) n place value once h v = if_true (is_blocking track) _ _ once ∙ ap (λ o. Some (Shown (or_zero o))) v
read_shown all p (Write _ _ _) n place value once h v = absurd cc
read_shown all p (Copy _ _ _ _) n place value once h v = absurd cc
