-- Where the item with a number stands, and what comes first from a number on.
use Rattle.std.proofs.Common.{◌≡◌, ◌⊎◌, ℕ, zero, suc, ◌+◌, ◌-◌, ◌<◌, ◌≤◌, List, [], ◌∷◌, length, Option, Some, None, Bool, true, false, ◌==◌, ◌&&◌, refl, sym, ap, subst, ◌∙◌, arith, inl, inr, ⊎_elim, eqb-true, eq-eqb}
use Rattle.std.specs.Prelude.{if◌then◌else◌, nat_le}
use Rattle.std.specs.Option.{option_map_or}
use Rattle.std.proofs.lemmas.Bool.{and_parts, and_from, cases_lt}
use Rattle.sc_meaning.specs.declared.event.SourceEvent.{SourceEvent}
use Rattle.journal_order.specs.Ordering.{item_at}
use Rattle.order_edges.specs.declared.line.Line.{Line}
use Rattle.order_edges.specs.Lines.{belongs, node_of, number_of, number_in, has_number, last_with, position, or_else, first_from, next_from}
use Rattle.order_edges.proofs.Numbers.{le_is, le_from}

pub has_is : (line : Line) (k : ℕ) (x : SourceEvent) → has_number line k x ≡ true → number_in line x ≡ Some k
has_is line k x h = by (number_in line x) h
  where
    by : (o : Option ℕ) → option_map_or (λ n. n == k) o false ≡ true → o ≡ Some k
    by None e = absurd cc
    by (Some n) e = ap Some (eqb-true n k e)

pub has_from : (line : Line) (k : ℕ) (x : SourceEvent) → number_in line x ≡ Some k → has_number line k x ≡ true
has_from line k x h = ap (λ o. option_map_or (λ n. n == k) o false) h ∙ eq-eqb k k refl

last_is : (line : Line) (items : List SourceEvent) (n k i : ℕ) → last_with line items n k ≡ Some i → (i < n) × (number_in line (item_at items i) ≡ Some k)
last_is line items zero k i h = absurd cc
last_is line items (suc n) k i h = by (last_is line items n k i) (has_number line k (item_at items n)) refl h
  where
    by : (last_with line items n k ≡ Some i → (i < n) × (number_in line (item_at items i) ≡ Some k)) → (b : Bool) → has_number line k (item_at items n) ≡ b
        → (if b then Some n else last_with line items n k) ≡ Some i → (i < suc n) × (number_in line (item_at items i) ≡ Some k)
    by old true e f = let same : n ≡ i = cc in (omega (arith, same), subst (λ u. number_in line (item_at items u) ≡ Some k) same (has_is line k (item_at items n) e))
    by old false e f = let r = old f in ((let w = r.0 in omega (arith, w)), r.1)

pub position_is : (line : Line) (items : List SourceEvent) (k i : ℕ) → position line items k ≡ Some i → (i < length items) × (number_in line (item_at items i) ≡ Some k)
position_is line items k i h = last_is line items (length items) k i h

last_there : (line : Line) (items : List SourceEvent) (n k i : ℕ) → i < n → number_in line (item_at items i) ≡ Some k → (j : ℕ) × (last_with line items n k ≡ Some j)
last_there line items zero k i w h = absurd (omega (arith, w))
last_there line items (suc n) k i w h = by (λ t. last_there line items n k i t h) (has_number line k (item_at items n)) refl
  where
    by : (i < n → (j : ℕ) × (last_with line items n k ≡ Some j)) → (b : Bool) → has_number line k (item_at items n) ≡ b
        → (j : ℕ) × ((if b then Some n else last_with line items n k) ≡ Some j)
    by old true e = (n, refl)
    by old false e = ⊎_elim old
        (λ t. let same : i ≡ n = omega (arith, w, t) in let f = has_from line k (item_at items n) (subst (λ u. number_in line (item_at items u) ≡ Some k) same h) in absurd cc)
        (cases_lt i n)

pub position_there : (line : Line) (items : List SourceEvent) (k i : ℕ) → i < length items → number_in line (item_at items i) ≡ Some k → (j : ℕ) × (position line items k ≡ Some j)
position_there line items k i w h = last_there line items (length items) k i w h

-- where no other item has the number
pub position_one : (line : Line) (items : List SourceEvent) (k i : ℕ) → i < length items → number_in line (item_at items i) ≡ Some k
    → ((j : ℕ) → j < length items → number_in line (item_at items j) ≡ Some k → j ≡ i) → position line items k ≡ Some i
position_one line items k i w h one =
    let r = position_there line items k i w h in
    let s = position_is line items k r.0 r.1 in r.1 ∙ ap Some (one r.0 s.0 s.1)

-- ---- what a number says

pub record Numbered (line : Line) (x : SourceEvent) (k : ℕ) : Type 0 where
  pub kind : belongs line.kind x ≡ true
  pub on : node_of x ≡ line.node
  pub is : number_of line.last x ≡ k
  pub low : k ≤ line.last

pub numbered : (line : Line) (x : SourceEvent) (k : ℕ) → number_in line x ≡ Some k → Numbered line x k
numbered line x k h = by (belongs line.kind x && ((node_of x == line.node) && nat_le (number_of line.last x) line.last)) refl h
  where
    by : (b : Bool) → (belongs line.kind x && ((node_of x == line.node) && nat_le (number_of line.last x) line.last)) ≡ b
        → (if b then Some (number_of line.last x) else None) ≡ Some k → Numbered line x k
    by true e f =
        let p = and_parts (belongs line.kind x) _ e in
        let q = and_parts (node_of x == line.node) _ p.1 in
        let same : number_of line.last x ≡ k = cc in
        record { kind = p.0; on = eqb-true _ _ q.0; is = same; low = subst (λ u. u ≤ line.last) same (le_is _ _ q.1) }
    by false e f = absurd cc

pub number_from : (line : Line) (x : SourceEvent) → belongs line.kind x ≡ true → node_of x ≡ line.node → number_of line.last x ≤ line.last
    → number_in line x ≡ Some (number_of line.last x)
number_from line x a b c =
    ap (λ t. if t then Some (number_of line.last x) else None) (and_from _ _ a (and_from _ _ (eq-eqb _ _ b) (le_from _ _ c)))

-- ---- the first from a number on

pub first_is : (f : ℕ → Option ℕ) (n k x : ℕ) → first_from f n k ≡ Some x → (j : ℕ) × (k ≤ j) × (j < k + n) × (f j ≡ Some x)
first_is f zero k x h = absurd cc
first_is f (suc n) k x h = by (first_is f n (suc k) x) (f k) refl h
  where
    by : (first_from f n (suc k) ≡ Some x → (j : ℕ) × (suc k ≤ j) × (j < suc k + n) × (f j ≡ Some x)) → (o : Option ℕ) → f k ≡ o → or_else o (first_from f n (suc k)) ≡ Some x → (j : ℕ) × (k ≤ j) × (j < k + suc n) × (f j ≡ Some x)
    by old (Some y) e g = (k, omega arith, omega arith, e ∙ g)
    by old None e g =
        let r = old g in
        (r.0, (let w = r.1 in omega (arith, w)), (let w = r.2 in omega (arith, w)), r.3)

pub first_there : (f : ℕ → Option ℕ) (n k j x : ℕ) → k ≤ j → j < k + n → f j ≡ Some x
    → (i : ℕ) × (y : ℕ) × (k ≤ i) × (i ≤ j) × (f i ≡ Some y) × (first_from f n k ≡ Some y)
first_there f zero k j x low high h = absurd (omega (arith, low, high))
first_there f (suc n) k j x low high h = by (λ t. first_there f n (suc k) j x t (omega (arith, high)) h) (f k) refl
  where
    by : (suc k ≤ j → (i : ℕ) × (y : ℕ) × (suc k ≤ i) × (i ≤ j) × (f i ≡ Some y) × (first_from f n (suc k) ≡ Some y)) → (o : Option ℕ) → f k ≡ o → (i : ℕ) × (y : ℕ) × (k ≤ i) × (i ≤ j) × (f i ≡ Some y) × (or_else o (first_from f n (suc k)) ≡ Some y)
    by old (Some y) e = (k, y, omega arith, low, e, refl)
    by old None e = ⊎_elim
        (λ t. let r = old (omega (arith, t)) in
        (r.0, r.1, (let w = r.2 in omega (arith, w)), r.3, r.4, r.5))
        (λ t. let same : j ≡ k = omega (arith, low, t) in let z : f k ≡ Some x = subst (λ u. f u ≡ Some x) same h in absurd cc)
        (cases_lt k j)
