-- Where an entry stands in a journal: what is before it, which request of its node it is, and what it is among them.
use Rattle.std.proofs.Common.{◌≡◌, ◌⊎◌, ℕ, zero, suc, ◌+◌, ◌<◌, ◌≤◌, List, [], ◌∷◌, ◌++◌, length, Option, Some, None, refl, sym, ap, ◌∙◌, subst, inl, inr, ⊎_elim, arith, le_refl, length-append}
use Rattle.std.specs.Prelude.{slice_get}
use Rattle.std.proofs.lemmas.Bool.{cases_lt}
use Rattle.sc_base.specs.declared.value.Place.{Place}
use Rattle.sc_base.specs.declared.value.Value.{Value}
use Rattle.sc_meaning.specs.declared.request.Request.{Request}
use Rattle.sc_isa.specs.declared.journal.Entry.{Entry}
use Rattle.fabric.specs.Wired.{EntryWired, Wired}
use Rattle.source_order.specs.Steps.{request_by, and_request, own_requests, count_one, requested}

-- the entry stands in the journal, with this past
abbrev pub Stands : List Entry → Entry → List Entry → Type 0
Stands past entry [] = ⊥
Stands past entry (e ∷ rest) = ((past ≡ rest) × (entry ≡ e)) ⊎ Stands past entry rest

pub wired_at : (start : Place → Value) (nodes : ℕ) (past : List Entry) (entry : Entry) (whole : List Entry)
    → Wired start nodes whole → Stands past entry whole → EntryWired start nodes past entry × Wired start nodes past
wired_at start nodes past entry [] w s = absurd s
wired_at start nodes past entry (e ∷ rest) w (inl q) = rw (q.0, q.1) w
wired_at start nodes past entry (e ∷ rest) w (inr s) = wired_at start nodes past entry rest w.1 s

pub counted : (o : Option Request) (n : ℕ) → n ≤ count_one o n
counted None n = le_refl n
counted (Some r) n = omega arith

pub requested_grows : (p : ℕ) (past : List Entry) (entry : Entry) (whole : List Entry) → Stands past entry whole → requested p (entry ∷ past) ≤ requested p whole
requested_grows p past entry [] s = absurd s
requested_grows p past entry (e ∷ rest) (inl q) = rw (q.0, q.1) (le_refl _)
requested_grows p past entry (e ∷ rest) (inr s) =
    let a = requested_grows p past entry rest s in
    let b = counted (request_by p e) (requested p rest) in omega arith

pub requested_one : (p : ℕ) (past : List Entry) (entry : Entry) (r : Request) → request_by p entry ≡ Some r → requested p (entry ∷ past) ≡ suc (requested p past)
requested_one p past entry r h = ap (λ o. count_one o (requested p past)) h ∙ omega arith

pub requested_below : (p : ℕ) (past : List Entry) (entry : Entry) (whole : List Entry) (r : Request) → Stands past entry whole → request_by p entry ≡ Some r → requested p past < requested p whole
requested_below p past entry whole r s h =
    let a = requested_grows p past entry whole s in
    let b = requested_one p past entry r h in omega arith

-- two requests of a node with one number are one
pub same_stand : (p : ℕ) (a b : List Entry) (e f : Entry) (r t : Request) (whole : List Entry)
    → Stands a e whole → Stands b f whole → request_by p e ≡ Some r → request_by p f ≡ Some t
    → requested p a ≡ requested p b → (a ≡ b) × (e ≡ f)
same_stand p a b e f r t [] s u h k n = absurd s
same_stand p a b e f r t (g ∷ rest) (inl q) (inl v) h k n = (q.0 ∙ sym v.0, q.1 ∙ sym v.1)
same_stand p a b e f r t (g ∷ rest) (inl q) (inr u) h k n =
    let x = requested_below p b f rest t u k in
    let y = ap (requested p) q.0 in absurd (omega arith)
same_stand p a b e f r t (g ∷ rest) (inr s) (inl v) h k n =
    let x = requested_below p a e rest r s h in
    let y = ap (requested p) v.0 in absurd (omega arith)
same_stand p a b e f r t (g ∷ rest) (inr s) (inr u) h k n = same_stand p a b e f r t rest s u h k n

-- the node's request with this number
pub record Asked (p k : ℕ) (whole : List Entry) : Type 0 where
  pub past : List Entry
  pub entry : Entry
  pub request : Request
  pub stands : Stands past entry whole
  pub by : request_by p entry ≡ Some request
  pub numbered : requested p past ≡ k

further : (p k : ℕ) (e : Entry) (rest : List Entry) → Asked p k rest → Asked p k (e ∷ rest)
further p k e rest a = record { past = a.past; entry = a.entry; request = a.request; stands = inr a.stands; by = a.by; numbered = a.numbered }

pub asked : (p k : ℕ) (whole : List Entry) → k < requested p whole → Asked p k whole
asked p k [] lt = absurd (omega arith)
asked p k (e ∷ rest) lt = by (λ t. further p k e rest (asked p k rest t)) (request_by p e) refl
  where
    by : (k < requested p rest → Asked p k (e ∷ rest)) → (o : Option Request) → request_by p e ≡ o → Asked p k (e ∷ rest)
    by old None h = old (subst (λ o. k < count_one o (requested p rest)) h lt)
    by old (Some r) h =
        ⊎_elim old
        (λ ge. record { past = rest; entry = e; request = r; stands = inl (refl, refl); by = h; numbered = (let t : k < count_one (Some r) (requested p rest) = subst (λ o. k < count_one o (requested p rest)) h lt in omega arith) })
        (cases_lt k (requested p rest))

get_front : {A : Type 0} (xs : List A) (x : A) (ys : List A) → slice_get (xs ++ x ∷ ys) (length xs) ≡ Some x
get_front [] x ys = refl
get_front (a ∷ xs) x ys = get_front xs x ys

pub get_left : {A : Type 0} (xs ys : List A) (k : ℕ) → k < length xs → slice_get (xs ++ ys) k ≡ slice_get xs k
get_left [] ys k lt = absurd (omega arith)
get_left (x ∷ xs) ys zero lt = refl
get_left (x ∷ xs) ys (suc k) lt = get_left xs ys k (omega arith)

pub own_length : (p : ℕ) (whole : List Entry) → length (own_requests p whole) ≡ requested p whole
own_length p [] = refl
own_length p (e ∷ rest) = by (request_by p e) (own_length p rest)
  where
    by : (o : Option Request) → length (own_requests p rest) ≡ requested p rest → length (and_request (own_requests p rest) o) ≡ count_one o (requested p rest)
    by None h = h
    by (Some r) h = length-append (own_requests p rest) (r ∷ []) ∙ ap (λ n. n + 1) h

-- the node's request with this number, among its requests
pub own_at : (p : ℕ) (past : List Entry) (entry : Entry) (whole : List Entry) (r : Request) → Stands past entry whole → request_by p entry ≡ Some r → slice_get (own_requests p whole) (requested p past) ≡ Some r
own_at p past entry [] r s h = absurd s
own_at p past entry (e ∷ rest) r (inl q) h =
    rw (q.0, sym q.1, h, sym (own_length p rest)) (get_front (own_requests p rest) r [])
own_at p past entry (e ∷ rest) r (inr s) h = by (request_by p e) (own_at p past entry rest r s h)
  where
    by : (o : Option Request) → slice_get (own_requests p rest) (requested p past) ≡ Some r → slice_get (and_request (own_requests p rest) o) (requested p past) ≡ Some r
    by None i = i
    by (Some t) i = get_left (own_requests p rest) (t ∷ []) (requested p past) (let a = requested_below p past entry rest r s h in let b = own_length p rest in omega arith) ∙ i
