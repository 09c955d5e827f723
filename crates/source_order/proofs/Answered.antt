-- The answers that a journal shows to a node: the answer with some number is that to the request with this number.
use Rattle.std.proofs.Common.{◌≡◌, ℕ, zero, suc, ◌+◌, ◌<◌, ◌≤◌, List, [], ◌∷◌, ◌++◌, length, Option, Some, None, Bool, true, false, ◌==◌, ◌&&◌, refl, sym, ap, ◌∙◌, subst, inl, inr, ⊎_elim, arith, eqb-true, le_refl, length-append}
use Rattle.std.specs.Prelude.{if◌then◌else◌, slice_get}
use Rattle.std.proofs.lemmas.Bool.{cases_lt}
use Rattle.sc_base.specs.declared.value.Place.{Place}
use Rattle.sc_base.specs.declared.value.Value.{Value}
use Rattle.sc_base.specs.declared.value.End.TheVariants as kind
use Rattle.effect_order.specs.Effect.{Effect}
use Rattle.sc_meaning.specs.declared.request.Request.{Request}
use Rattle.sc_meaning.specs.declared.request.Request.TheVariants as ask
use Rattle.sc_meaning.specs.History.{barrier_of}
use Rattle.effect_order.specs.Transfer.{part_value}
use Rattle.sc_isa.specs.declared.access.Access.TheVariants.{Read, Write, Copy}
use Rattle.sc_isa.specs.declared.access.Track.TheVariants.{Counter, Store, Covered}
use Rattle.sc_meaning.specs.Asking.{Answer, Shown, Landed, Passed as PassedOn, Broken}
use Rattle.sc_meaning.specs.Past.{got, and_answer, or_zero}
use Rattle.sc_isa.specs.declared.access.Access.{Access}
use Rattle.sc_isa.specs.declared.journal.Entry.{Entry}
use Rattle.sc_isa.specs.declared.journal.Entry.TheVariants.{Issued, Delivered, Waited, Arrived, Passed, Finished}
use Rattle.fabric.specs.Effects.{awaited}
use Rattle.fabric.specs.Barriers.{arrivals, passes, finished}
use Rattle.fabric.specs.Wired.{EntryWired, Wired}
use Rattle.source_order.specs.Steps.{request_by, count_one, requested, and_request, own_requests}
use Rattle.sc_meaning.specs.OfAccess.{request_in, is_blocking}
use Rattle.sc_meaning.specs.Answering.{is_answered}
use Rattle.source_order.specs.Made.{answer_of_issue, answer_by, answers_in}
use Rattle.source_order.proofs.Stands.{Stands, wired_at, own_length}
use Rattle.source_order.proofs.Asked.{one_if, asks, asks_front, asks_next}
use Rattle.source_order.proofs.Numbers.{eq_self, if_true, issued_is, both_self}
use Rattle.source_order.proofs.Occurs.{not_some, some_from}
use Rattle.source_order.proofs.Own.{finished_is}
use Rattle.source_order.proofs.Standing.{own_running, level}

pub get_front : {A : Type 0} (xs : List A) (x : A) (ys : List A) (k : ℕ) → length xs ≡ k → slice_get (xs ++ x ∷ ys) k ≡ Some x
get_front [] x ys zero e = refl
get_front [] x ys (suc k) e = absurd (omega arith)
get_front (a ∷ xs) x ys zero e = absurd (omega arith)
get_front (a ∷ xs) x ys (suc k) e = get_front xs x ys k (omega arith)

pub get_more : {A : Type 0} (xs ys : List A) (k : ℕ) (x : A) → slice_get xs k ≡ Some x → slice_get (xs ++ ys) k ≡ Some x
get_more [] ys k x h = absurd cc
get_more (a ∷ xs) ys zero x h = h
get_more (a ∷ xs) ys (suc k) x h = get_more xs ys k x h

and_more : (xs : List Answer) (o : Option Answer) (k : ℕ) (x : Answer) → slice_get xs k ≡ Some x → slice_get (and_answer xs o) k ≡ Some x
and_more xs None k x h = h
and_more xs (Some a) k x h = get_more xs (a ∷ []) k x h

and_length : (xs : List Answer) (o : Option Answer) (a : Answer) → o ≡ Some a → length (and_answer xs o) ≡ length xs + 1
and_length xs None a h = absurd cc
and_length xs (Some b) a h = length-append xs (b ∷ [])

pub unfinished : (p : ℕ) (e : Entry) (rest : List Entry) → finished p (e ∷ rest) ≡ None → finished p rest ≡ None
unfinished p (Finished q end) rest h = by (q == p) h
  where
    by : (b : Bool) → (if b then Some end else finished p rest) ≡ None → finished p rest ≡ None
    by true i = absurd cc
    by false i = i
unfinished p (Issued _ _ _) rest h = h
unfinished p (Delivered _ _ _ _) rest h = h
unfinished p (Waited _ _) rest h = h
unfinished p (Arrived _ _) rest h = h
unfinished p (Passed _) rest h = h

module _ (start : Place → Value) (nodes : ℕ) (all : List Effect) (p : ℕ) where
  abbrev A : List Entry → List Answer
  A past = answers_in all p past

  -- how many of the node's requests are answered
  abbrev pub N : List Entry → ℕ
  N past = asks (requested p past) (own_requests p past)

  count_more : (past : List Entry) (r : Request) → asks (requested p past + 1) (own_requests p past ++ r ∷ []) ≡ N past + one_if (is_answered r)
  count_more past r =
      let l = own_length p past in
      ap (λ k. asks k (own_requests p past ++ r ∷ [])) (let e : requested p past + 1 ≡ suc (requested p past) = omega arith in e)
      ∙ asks_next (requested p past) (own_requests p past ++ r ∷ []) r (get_front (own_requests p past) r [] (requested p past) l)
      ∙ ap (λ n. n + one_if (is_answered r)) (asks_front (requested p past) (own_requests p past) (r ∷ []) (omega arith))

  -- as a request, the entry is answered where it is a request that is answered
  abbrev And : List Entry → Option Request → ℕ
  And past o = asks (count_one o (requested p past)) (and_request (own_requests p past) o)

  and_none : (past : List Entry) (o : Option Request) → o ≡ None → And past o ≡ N past
  and_none past None h = refl
  and_none past (Some r) h = absurd cc

  and_some : (past : List Entry) (o : Option Request) (r : Request) → o ≡ Some r → And past o ≡ N past + one_if (is_answered r)
  and_some past None r h = absurd cc
  and_some past (Some t) r h = let e : t ≡ r = cc in rw e (count_more past r)

  issued_count : (n : ℕ) (access : Access) (xs : List Answer) → length (and_answer xs (answer_of_issue all p n access)) ≡ length xs + one_if (is_answered (request_in access))
  issued_count n (Read place track) xs = by (is_blocking track)
    where
      by : (b : Bool) → length (and_answer xs (if b then Some (Shown (or_zero (part_value p n 0 false all))) else None)) ≡ length xs + one_if (is_answered (if b then ask.Read place 0 else ask.Get place 0))
      by true = length-append xs _
      by false = omega arith
  issued_count n (Write place value Store) xs = omega arith
  issued_count n (Write place value Covered) xs = omega arith
  issued_count n (Write place value (Counter c)) xs = by (c == 0)
    where
      by : (b : Bool) → length xs ≡ length xs + one_if (is_answered (if b then ask.Put place value 0 else ask.Write place value 0))
      by true = omega arith
      by false = omega arith
  issued_count n (Copy from to cells track) xs = omega arith

  -- while the node has not finished, all its requests that are answered have their answers, but for one at which it stands
  pub as_many : (past : List Entry) → Wired start nodes past → finished p past ≡ None → length (A past) + arrivals p past ≡ N past + passes p past
  as_many [] w f = refl
  as_many (Issued q n access ∷ rest) w f = by (q == p) (as_many rest w.1 f)
    where
      by : (b : Bool) → length (A rest) + arrivals p rest ≡ N rest + passes p rest
          → length (and_answer (A rest) (if b then answer_of_issue all p n access else None)) + arrivals p rest ≡ And rest (if b then Some (request_in access) else None) + passes p rest
      by true i = let u = issued_count n access (A rest) in let v = and_some rest (Some (request_in access)) (request_in access) refl in omega arith
      by false i = i
  as_many (Delivered _ _ _ _ ∷ rest) w f = as_many rest w.1 f
  as_many (Waited q c ∷ rest) w f = by ((q == p) && (c == 0)) (as_many rest w.1 f)
    where
      by : (b : Bool) → length (A rest) + arrivals p rest ≡ N rest + passes p rest
          → length (and_answer (A rest) (if b then Some (Landed (got p all (awaited p 0 rest))) else None)) + arrivals p rest ≡ And rest (if b then Some (ask.Sync 0) else None) + passes p rest
      by true i = let u = length-append (A rest) (Landed (got p all (awaited p 0 rest)) ∷ []) in let v = and_some rest (Some (ask.Sync 0)) (ask.Sync 0) refl in omega arith
      by false i = i
  as_many (Arrived q s ∷ rest) w f = by (q == p) (as_many rest w.1 f)
    where
      one : (s : Bool) → one_if (is_answered (barrier_of s 0)) ≡ 1
      one true = refl
      one false = refl

      by : (b : Bool) → length (A rest) + arrivals p rest ≡ N rest + passes p rest
          → length (A rest) + (if b then arrivals p rest + 1 else arrivals p rest) ≡ And rest (if b then Some (barrier_of s 0) else None) + passes p rest
      by true i = let v = and_some rest (Some (barrier_of s 0)) (barrier_of s 0) refl in let o = one s in omega arith
      by false i = i
  as_many (Passed q ∷ rest) w f = by (q == p) (as_many rest w.1 f)
    where
      by : (b : Bool) → length (A rest) + arrivals p rest ≡ N rest + passes p rest
          → length (and_answer (A rest) (if b then Some PassedOn else None)) + arrivals p rest ≡ N rest + (if b then passes p rest + 1 else passes p rest)
      by true i = let u = length-append (A rest) (PassedOn ∷ []) in omega arith
      by false i = i
  as_many (Finished q kind.Waiting ∷ rest) w f = by (q == p) refl f (λ i. as_many rest w.1 i)
    where
      by : (b : Bool) → (q == p) ≡ b → (if b then Some kind.Waiting else finished p rest) ≡ None → (finished p rest ≡ None → length (A rest) + arrivals p rest ≡ N rest + passes p rest)
          → length (and_answer (A rest) (if b then Some Broken else None)) + arrivals p rest ≡ N rest + passes p rest
      by true t h i = absurd cc
      by false t h i = i h
  as_many (Finished q kind.Ended ∷ rest) w f = as_many rest w.1 (unfinished p (Finished q kind.Ended) rest f)
  as_many (Finished q (kind.Fault k l) ∷ rest) w f = as_many rest w.1 (unfinished p (Finished q (kind.Fault k l)) rest f)
  as_many (Finished q kind.Cut ∷ rest) w f = as_many rest w.1 (unfinished p (Finished q kind.Cut) rest f)

  upto : (past : List Entry) (entry : Entry) (whole : List Entry) → Stands past entry whole → (k : ℕ) (a : Answer) → slice_get (A (entry ∷ past)) k ≡ Some a → slice_get (A whole) k ≡ Some a
  upto past entry [] s k a h = absurd s
  upto past entry (e ∷ rest) (inl q) k a h = subst (λ u. slice_get (A (e ∷ u)) k ≡ Some a) q.0 (subst (λ u. slice_get (A (u ∷ past)) k ≡ Some a) q.1 h)
  upto past entry (e ∷ rest) (inr s) k a h = and_more (A rest) (answer_by all p rest e) k a (upto past entry rest s k a h)

  -- an own entry is answered under its number
  at_once : (past : List Entry) (entry : Entry) (whole : List Entry) (r : Request) (a : Answer) → Wired start nodes whole → Stands past entry whole
      → request_by p entry ≡ Some r → answer_by all p past entry ≡ Some a → slice_get (A whole) (N past) ≡ Some a
  at_once past entry whole r a w s h k =
      let u = wired_at start nodes past entry whole w s in
      let v = own_running start nodes p entry past u.0 r h in
      let m = as_many past u.1 v.0 in
      let g = v.1 in
      upto past entry whole s (N past) a (rw k (get_front (A past) a [] (N past) (omega arith)))

  pub issue_answer : (n : ℕ) (access : Access) (past whole : List Entry) (a : Answer) → Wired start nodes whole → Stands past (Issued p n access) whole
      → answer_of_issue all p n access ≡ Some a → slice_get (A whole) (N past) ≡ Some a
  issue_answer n access past whole a w s h =
      at_once past (Issued p n access) whole (request_in access) a w s (issued_is p n access) (if_true (p == p) _ _ (eq_self p) ∙ h)

  pub sync_answer : (past whole : List Entry) → Wired start nodes whole → Stands past (Waited p 0) whole → slice_get (A whole) (N past) ≡ Some (Landed (got p all (awaited p 0 past)))
  sync_answer past whole w s = at_once past (Waited p 0) whole (ask.Sync 0) (Landed (got p all (awaited p 0 past))) w s (if_true ((p == p) && (0 == 0)) _ _ (both_self p 0)) (if_true ((p == p) && (0 == 0)) _ _ (both_self p 0))

  arrived_is : (s : Bool) → request_by p (Arrived p s) ≡ Some (barrier_of s 0)
  arrived_is s = if_true (p == p) _ _ (eq_self p)

  -- the entry passes no barrier for the node, or one
  passes_more : (e : Entry) (rest : List Entry) → passes p rest ≤ passes p (e ∷ rest)
  passes_more (Passed q) rest = by (q == p)
    where
      by : (b : Bool) → passes p rest ≤ (if b then passes p rest + 1 else passes p rest)
      by true = omega arith
      by false = le_refl _
  passes_more (Issued _ _ _) rest = le_refl _
  passes_more (Delivered _ _ _ _) rest = le_refl _
  passes_more (Waited _ _) rest = le_refl _
  passes_more (Arrived _ _) rest = le_refl _
  passes_more (Finished _ _) rest = le_refl _

  no_request : (e : Entry) (rest : List Entry) → request_by p e ≡ None → (N (e ∷ rest) ≡ N rest) × (arrivals p (e ∷ rest) ≡ arrivals p rest)
  no_request (Arrived q s) rest h = by (q == p) h
    where
      by : (b : Bool) → (if b then Some (barrier_of s 0) else None) ≡ None
          → (And rest (if b then Some (barrier_of s 0) else None) ≡ N rest) × ((if b then arrivals p rest + 1 else arrivals p rest) ≡ arrivals p rest)
      by true i = absurd cc
      by false i = (refl, refl)
  no_request (Issued q n a) rest h = (and_none rest _ h, refl)
  no_request (Waited q c) rest h = (and_none rest _ h, refl)
  no_request (Delivered _ _ _ _) rest h = (refl, refl)
  no_request (Passed _) rest h = (refl, refl)
  no_request (Finished _ _) rest h = (refl, refl)

  barrier_one : (s : Bool) → one_if (is_answered (barrier_of s 0)) ≡ 1
  barrier_one true = refl
  barrier_one false = refl

  -- until it has passed, a node that arrived requests nothing more
  standing : (past : List Entry) (s : Bool) (xs : List Entry) → Wired start nodes xs → Stands past (Arrived p s) xs → passes p xs ≤ arrivals p past
      → (N xs ≡ suc (N past)) × (arrivals p xs ≡ suc (arrivals p past))
  standing past s [] w i le = absurd i
  standing past s (e ∷ rest) w (inl q) le =
      rw (sym q.0, sym q.1) ((let u = and_some past (request_by p (Arrived p s)) (barrier_of s 0) (arrived_is s) in let o = barrier_one s in omega arith), (let a = if_true (p == p) (arrivals p past + 1) (arrivals p past) (eq_self p) in omega arith))
  standing past s (e ∷ rest) w (inr i) le = by (request_by p e) refl (standing past s rest w.1 i (let a = passes_more e rest in omega arith))
    where
      by : (o : Option Request) → request_by p e ≡ o → (N rest ≡ suc (N past)) × (arrivals p rest ≡ suc (arrivals p past))
          → (N (e ∷ rest) ≡ suc (N past)) × (arrivals p (e ∷ rest) ≡ suc (arrivals p past))
      by None h k = let z = no_request e rest h in (z.0 ∙ k.0, z.1 ∙ k.1)
      by (Some r) h k = let z = own_running start nodes p e rest w.0 r h in let a = passes_more e rest in let b = k.1 in let c = z.1 in absurd (omega arith)

  pub pass_answer : (past : List Entry) (s : Bool) (xs : List Entry) → Wired start nodes xs → Stands past (Arrived p s) xs → arrivals p past < passes p xs → slice_get (A xs) (N past) ≡ Some PassedOn
  pass_answer past s [] w i lt = absurd i
  pass_answer past s (e ∷ rest) w (inl q) lt =
      let l = level start nodes p past (subst (Wired start nodes) (sym q.0) w.1) in
      let a = l.low in
      let c : passes p (e ∷ rest) ≡ passes p past = ap (λ u. passes p (u ∷ rest)) (sym q.1) ∙ ap (passes p) (sym q.0) in absurd (omega arith)
  pass_answer past s (e ∷ rest) w (inr i) lt =
      ⊎_elim (λ t. and_more (A rest) (answer_by all p rest e) (N past) PassedOn (pass_answer past s rest w.1 i t))
      (λ t. now e w lt t) (cases_lt (arrivals p past) (passes p rest))
    where
      now : (e : Entry) → Wired start nodes (e ∷ rest) → arrivals p past < passes p (e ∷ rest) → passes p rest ≤ arrivals p past → slice_get (A (e ∷ rest)) (N past) ≡ Some PassedOn
      now (Passed q) v lt le = by (q == p) refl lt
        where
          by : (b : Bool) → (q == p) ≡ b → arrivals p past < (if b then passes p rest + 1 else passes p rest) → slice_get (and_answer (A rest) (if b then Some PassedOn else None)) (N past) ≡ Some PassedOn
          by true t m =
              let k = standing past s rest v.1 i le in
              let f : finished p rest ≡ None = subst (λ u. finished u rest ≡ None) (eqb-true q p t) v.0.running.not_finished in
              let c = as_many rest v.1 f in
              let a = k.0 in let d = k.1 in
              get_front (A rest) PassedOn [] (N past) (omega arith)
          by false t m = absurd (omega arith)
      now (Issued _ _ _) v lt le = absurd (omega arith)
      now (Delivered _ _ _ _) v lt le = absurd (omega arith)
      now (Waited _ _) v lt le = absurd (omega arith)
      now (Arrived _ _) v lt le = absurd (omega arith)
      now (Finished _ _) v lt le = absurd (omega arith)

  pub broken_answer : (past : List Entry) (s : Bool) (at : List Entry) (xs : List Entry) → Wired start nodes xs → Stands past (Arrived p s) xs → Stands at (Finished p kind.Waiting) xs
      → passes p xs ≤ arrivals p past → slice_get (A xs) (N past) ≡ Some Broken
  broken_answer past s at [] w i j le = absurd i
  broken_answer past s at (e ∷ rest) w (inl q) (inl r) le = let u = q.1 in let v = r.1 in absurd cc
  broken_answer past s at (e ∷ rest) w (inl q) (inr j) le =
      let u : EntryWired start nodes rest (Arrived p s) = subst (EntryWired start nodes rest) (sym q.1) w.0 in
      absurd (not_some (finished p rest) u.running.not_finished (some_from _ _ (finished_is p kind.Waiting at rest start nodes w.1 j)))
  broken_answer past s at (e ∷ rest) w (inr i) (inl r) le =
      let u : EntryWired start nodes rest (Finished p kind.Waiting) = subst (EntryWired start nodes rest) (sym r.1) w.0 in
      let a = passes_more e rest in
      let k = standing past s rest w.1 i (omega arith) in
      let c = as_many rest w.1 u.running.not_finished in
      let x = k.0 in let d = k.1 in
      let l = level start nodes p rest w.1 in let h = l.high in
      subst (λ z. slice_get (A (z ∷ rest)) (N past) ≡ Some Broken) r.1
      (rw (if_true (p == p) (Some Broken) None (eq_self p)) (get_front (A rest) Broken [] (N past) (omega arith)))
  broken_answer past s at (e ∷ rest) w (inr i) (inr j) le =
      let a = passes_more e rest in
      and_more (A rest) (answer_by all p rest e) (N past) Broken (broken_answer past s at rest w.1 i j (omega arith))
