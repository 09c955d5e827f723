-- The numbers of a node's issues, requests and arrivals in a journal that the fabric allows.
use Rattle.std.proofs.Common.{◌≡◌, ℕ, suc, ◌+◌, ◌<◌, ◌≤◌, List, [], ◌∷◌, Some, Bool, true, false, ◌==◌, ◌&&◌, refl, sym, ap, ◌∙◌, subst, inl, inr, arith, eq-eqb, eqb-true, le_refl, lt-ltb, ltb-true}
use Rattle.std.specs.Prelude.{if◌then◌else◌, nat_lt}
use Rattle.std.proofs.lemmas.Bool.{and_parts, and_from, false_from_ne_true}
use Rattle.sc_base.specs.declared.value.Place.{Place}
use Rattle.sc_base.specs.declared.value.Value.{Value}
use Rattle.sc_meaning.specs.declared.request.Request.{Request}
use Rattle.sc_isa.specs.declared.access.Access.{Access}
use Rattle.sc_isa.specs.declared.journal.Entry.{Entry}
use Rattle.sc_isa.specs.declared.journal.Entry.TheVariants.{Issued, Delivered, Waited, Arrived, Passed, Finished}
use Rattle.fabric.specs.Effects.{access_at, issues}
use Rattle.fabric.specs.Barriers.{arrivals}
use Rattle.fabric.specs.Wired.{EntryWired, Wired}
use Rattle.source_order.specs.Steps.{request_by, requested, request_of, arrivals_among}
use Rattle.sc_meaning.specs.OfAccess.{request_in}
use Rattle.source_order.proofs.Stands.{Stands, counted, requested_one, requested_below}

pub if_true : {A : Type 0} (b : Bool) (x y : A) → b ≡ true → (if b then x else y) ≡ x
if_true true x y h = refl
if_true false x y h = absurd cc

pub if_false : {A : Type 0} (b : Bool) (x y : A) → b ≡ false → (if b then x else y) ≡ y
if_false true x y h = absurd cc
if_false false x y h = refl

pub eq_self : (n : ℕ) → (n == n) ≡ true
eq_self n = eq-eqb n n refl

pub both_self : (p n : ℕ) → ((p == p) && (n == n)) ≡ true
both_self p n = and_from _ _ (eq_self p) (eq_self n)

pub issued_is : (p n : ℕ) (access : Access) → request_by p (Issued p n access) ≡ Some (request_in access)
issued_is p n access = if_true (p == p) _ _ (eq_self p)

-- ---- issues

pub issues_grow : (p : ℕ) (e : Entry) (past : List Entry) → issues p past ≤ issues p (e ∷ past)
issues_grow p (Issued q n access) past = by (q == p)
  where
    by : (b : Bool) → issues p past ≤ (if b then issues p past + 1 else issues p past)
    by true = omega arith
    by false = le_refl _
issues_grow p (Delivered _ _ _ _) past = le_refl _
issues_grow p (Waited _ _) past = le_refl _
issues_grow p (Arrived _ _) past = le_refl _
issues_grow p (Passed _) past = le_refl _
issues_grow p (Finished _ _) past = le_refl _

-- an issue's number is less than the issues since
pub issue_below : (start : Place → Value) (nodes p n : ℕ) (access : Access) (past whole : List Entry)
    → Wired start nodes whole → Stands past (Issued p n access) whole → n < issues p whole
issue_below start nodes p n access past [] w s = absurd s
issue_below start nodes p n access past (e ∷ rest) w (inl q) =
    rw (sym q.1) (let u : n ≡ issues p rest = (subst (λ x. EntryWired start nodes rest x) (sym q.1) w.0).numbered in
    let v = if_true (p == p) (issues p rest + 1) (issues p rest) (eq_self p) in omega arith)
issue_below start nodes p n access past (e ∷ rest) w (inr s) =
    let a = issue_below start nodes p n access past rest w.1 s in
    let b = issues_grow p e rest in omega arith

-- the access of an issue
pub access_is : (start : Place → Value) (nodes p n : ℕ) (access : Access) (past whole : List Entry)
    → Wired start nodes whole → Stands past (Issued p n access) whole
    → (access_at p n whole ≡ Some access) × (request_of p n whole ≡ requested p past)
access_is start nodes p n access past [] w s = absurd s
access_is start nodes p n access past (e ∷ rest) w (inl q) =
    rw (q.0, sym q.1) (if_true _ _ _ (both_self p n), if_true _ _ _ (both_self p n))
access_is start nodes p n access past (Issued q m other ∷ rest) w (inr s) =
    let i = access_is start nodes p n access past rest w.1 s in
    let f : ((q == p) && (m == n)) ≡ false = false_from_ne_true _ (λ t.
    let u = and_parts (q == p) (m == n) t in
    let a = eqb-true q p u.0 in
    let b = eqb-true m n u.1 in
    let c = issue_below start nodes p n access past rest w.1 s in
    let d : m ≡ issues q rest = w.0.numbered in
    let g = ap (λ x. issues x rest) a in absurd (omega arith)) in
    (if_false _ _ _ f ∙ i.0, if_false _ _ _ f ∙ i.1)
access_is start nodes p n access past (Delivered _ _ _ _ ∷ rest) w (inr s) = access_is start nodes p n access past rest w.1 s
access_is start nodes p n access past (Waited _ _ ∷ rest) w (inr s) = access_is start nodes p n access past rest w.1 s
access_is start nodes p n access past (Arrived _ _ ∷ rest) w (inr s) = access_is start nodes p n access past rest w.1 s
access_is start nodes p n access past (Passed _ ∷ rest) w (inr s) = access_is start nodes p n access past rest w.1 s
access_is start nodes p n access past (Finished _ _ ∷ rest) w (inr s) = access_is start nodes p n access past rest w.1 s

-- an access was issued
pub issued_at : (p n : ℕ) (access : Access) (whole : List Entry) → access_at p n whole ≡ Some access → (past : List Entry) × Stands past (Issued p n access) whole
issued_at p n access [] h = absurd cc
issued_at p n access (Issued q m other ∷ rest) h = by ((q == p) && (m == n)) refl h (λ i. issued_at p n access rest i)
  where
    by : (b : Bool) → ((q == p) && (m == n)) ≡ b → (if b then Some other else access_at p n rest) ≡ Some access
        → (access_at p n rest ≡ Some access → (past : List Entry) × Stands past (Issued p n access) rest)
        → (past : List Entry) × Stands past (Issued p n access) (Issued q m other ∷ rest)
    by true t i f =
        let u = and_parts (q == p) (m == n) t in
        let a = eqb-true q p u.0 in
        let b = eqb-true m n u.1 in
        let c : other ≡ access = cc in
        (rest, inl (refl, rw (sym a, sym b, sym c) refl))
    by false t i f = let g = f i in (g.0, inr g.1)
issued_at p n access (Delivered _ _ _ _ ∷ rest) h = let g = issued_at p n access rest h in (g.0, inr g.1)
issued_at p n access (Waited _ _ ∷ rest) h = let g = issued_at p n access rest h in (g.0, inr g.1)
issued_at p n access (Arrived _ _ ∷ rest) h = let g = issued_at p n access rest h in (g.0, inr g.1)
issued_at p n access (Passed _ ∷ rest) h = let g = issued_at p n access rest h in (g.0, inr g.1)
issued_at p n access (Finished _ _ ∷ rest) h = let g = issued_at p n access rest h in (g.0, inr g.1)

-- ---- arrivals among the first requests, and tracks

-- the entry is not one of the first requests
none_among : (q p k n : ℕ) → k ≤ n → ((q == p) && nat_lt n k) ≡ false
none_among q p k n le = false_from_ne_true _ (λ t. let u = and_parts (q == p) (nat_lt n k) t in let v : n < k = ltb-true n k u.1 in absurd (omega arith))

pub arrivals_first : (p : ℕ) (past : List Entry) (entry : Entry) (whole : List Entry) (r : Request) → Stands past entry whole → request_by p entry ≡ Some r
    → (arrivals_among p (requested p past) whole ≡ arrivals_among p (requested p past) past)
    × (arrivals_among p (suc (requested p past)) whole ≡ arrivals_among p (suc (requested p past)) (entry ∷ past))
arrivals_first p past entry [] r s h = absurd s
arrivals_first p past entry (e ∷ rest) r (inl q) h = (ap (λ z. arrivals_among p (requested p z) (e ∷ rest)) q.0 ∙ only e (subst (λ x. request_by p x ≡ Some r) q.1 h) ∙ sym (ap (λ z. arrivals_among p (requested p z) z) q.0), rw (q.0, q.1) refl)
  where
    only : (e : Entry) → request_by p e ≡ Some r → arrivals_among p (requested p rest) (e ∷ rest) ≡ arrivals_among p (requested p rest) rest
    only (Arrived q stores) h = if_false _ _ _ (none_among q p (requested p rest) (requested p rest) (le_refl _))
    only (Issued _ _ _) h = refl
    only (Delivered _ _ _ _) h = refl
    only (Waited _ _) h = refl
    only (Passed _) h = refl
    only (Finished _ _) h = refl
arrivals_first p past entry (e ∷ rest) r (inr s) h = by e (arrivals_first p past entry rest r s h)
  where
    A : ℕ → List Entry → ℕ
    A k xs = arrivals_among p k xs

    low : suc (requested p past) ≤ requested p rest
    low = requested_below p past entry rest r s h

    by : (e : Entry)
        → (arrivals_among p (requested p past) rest ≡ arrivals_among p (requested p past) past) × (arrivals_among p (suc (requested p past)) rest ≡ arrivals_among p (suc (requested p past)) (entry ∷ past))
        → (arrivals_among p (requested p past) (e ∷ rest) ≡ arrivals_among p (requested p past) past) × (arrivals_among p (suc (requested p past)) (e ∷ rest) ≡ arrivals_among p (suc (requested p past)) (entry ∷ past))
    by (Arrived q stores) i = (
      if_false _ _ _ (none_among q p (requested p past) (requested p rest) (omega (arith, low))) ∙ i.0,
      if_false _ _ _ (none_among q p (suc (requested p past)) (requested p rest) (omega (arith, low))) ∙ i.1,
    )
    by (Issued _ _ _) i = i
    by (Delivered _ _ _ _) i = i
    by (Waited _ _) i = i
    by (Passed _) i = i
    by (Finished _ _) i = i

-- all arrivals are among as many requests
pub arrivals_all : (p k : ℕ) (past : List Entry) → requested p past ≤ k → arrivals_among p k past ≡ arrivals p past
arrivals_all p k [] le = refl
arrivals_all p k (Arrived q stores ∷ rest) le = by (q == p) refl (λ t. arrivals_all p k rest t)
  where
    by : (b : Bool) → (q == p) ≡ b → (requested p rest ≤ k → arrivals_among p k rest ≡ arrivals p rest)
        → (if b && nat_lt (requested p rest) k then arrivals_among p k rest + 1 else arrivals_among p k rest) ≡ (if b then arrivals p rest + 1 else arrivals p rest)
    by true t f =
        let m : suc (requested p rest) ≤ k = (let u = requested_one p rest (Arrived q stores) _ (if_true (q == p) _ _ t) in omega arith) in
        if_true _ _ _ (lt-ltb (requested p rest) k (omega arith)) ∙ ap (λ n. n + 1) (f (omega arith))
    by false t f = f (let u = counted (request_by p (Arrived q stores)) (requested p rest) in omega arith)
arrivals_all p k (Issued q n access ∷ rest) le = arrivals_all p k rest (let u = counted (request_by p (Issued q n access)) (requested p rest) in omega arith)
arrivals_all p k (Delivered _ _ _ _ ∷ rest) le = arrivals_all p k rest le
arrivals_all p k (Waited q c ∷ rest) le = arrivals_all p k rest (let u = counted (request_by p (Waited q c)) (requested p rest) in omega arith)
arrivals_all p k (Passed _ ∷ rest) le = arrivals_all p k rest le
arrivals_all p k (Finished _ _ ∷ rest) le = arrivals_all p k rest le

-- the arrivals among the requests up to one of them, and with it
pub among_before : (p : ℕ) (past : List Entry) (entry : Entry) (whole : List Entry) (r : Request) → Stands past entry whole → request_by p entry ≡ Some r → arrivals_among p (requested p past) whole ≡ arrivals p past
among_before p past entry whole r s h = (arrivals_first p past entry whole r s h).0 ∙ arrivals_all p _ past (le_refl _)

pub among_with : (p : ℕ) (past : List Entry) (entry : Entry) (whole : List Entry) (r : Request) → Stands past entry whole → request_by p entry ≡ Some r → arrivals_among p (suc (requested p past)) whole ≡ arrivals p (entry ∷ past)
among_with p past entry whole r s h =
    (arrivals_first p past entry whole r s h).1 ∙ arrivals_all p _ (entry ∷ past) (let u = requested_one p past entry r h in omega arith)
