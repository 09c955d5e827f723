-- Reads that have not landed, and operands as the machine has them: it does not see a value that has not landed.
use Rattle.std.proofs.Common.{◌≡◌, ℕ, suc, ◌<◌, ◌==◌, List, [], ◌∷◌, ◌++◌, length, map, Option, Some, None, Bool, true, false, ◌&&◌, ◌||◌, if◌then◌else◌, refl, sym, ap, ◌∙◌, subst, arith}
use Rattle.std.specs.Prelude.{pos}
use Rattle.std.proofs.lemmas.Bool.{and_parts, and_from}
use Rattle.std.proofs.lemmas.Bool.Decides.{Decides-eqb}
use Rattle.sc_base.specs.declared.value.Value.{Value}
use Rattle.sc_base.specs.declared.value.Value.TheVariants.{Int}
use Rattle.sc_isa.specs.declared.operand.Operand.{Operand}
use Rattle.sc_isa.specs.declared.operand.Operand.TheVariants.{Here, Landing}
use Rattle.sc_isa.specs.declared.operand.Slot.{Slot}
use Rattle.sc_isa.specs.declared.operand.Slot.TheVariants.{Holds, Pending}
use Rattle.sc_isa.specs.State.{Frame, Flight, State, reads_on, without_reads_on, value_at, land}
use Rattle.emit_laws.proofs.Ghosts.{Token, Thing, val, awaited, Holder, World, newest, older, without, on_counter}

pub by_bool : {P : Type 0} (b : Bool) → (b ≡ true → P) → (b ≡ false → P) → P
by_bool true f g = f refl
by_bool false f g = g refl

pub no_way : {P : Type 0} → true ≡ false → P
no_way e = cc

-- ---- which reads have not landed

abbrev pub flight_of : Token → Flight
flight_of t = record { counter = t.counter; place = t.place }

abbrev pub flights : List Token → List Flight
flights fl = map flight_of fl

abbrev pub is_token : Token → Token → Bool
is_token k t = (t.order == k.order) && (t.counter == k.counter)

abbrev pub flies : Token → List Token → Bool
flies k [] = false
flies k (t ∷ ts) = is_token k t || flies k ts

-- the number of the read among those on its counter
abbrev pub index : Token → List Token → ℕ
index k [] = 0
index k (t ∷ ts) = if is_token k t then 0 else (if t.counter == k.counter then suc (index k ts) else index k ts)

pub reads_flights : (c : ℕ) (fl : List Token) → reads_on c (flights fl) ≡ map (λ t. t.place) (on_counter c fl)
reads_flights c [] = refl
reads_flights c (t ∷ ts) = go (t.counter == c) (reads_flights c ts)
  where
    go : (b : Bool) → reads_on c (flights ts) ≡ map (λ t. t.place) (on_counter c ts)
        → (if b then t.place ∷ reads_on c (flights ts) else reads_on c (flights ts)) ≡ map (λ t. t.place) (if b then t ∷ on_counter c ts else on_counter c ts)
    go true h = ap (λ l. t.place ∷ l) h
    go false h = h

pub without_flights : (c : ℕ) (fl : List Token) → without_reads_on c (flights fl) ≡ flights (without c fl)
without_flights c [] = refl
without_flights c (t ∷ ts) = go (t.counter == c) (without_flights c ts)
  where
    go : (b : Bool) → without_reads_on c (flights ts) ≡ flights (without c ts)
        → (if b then without_reads_on c (flights ts) else flight_of t ∷ without_reads_on c (flights ts)) ≡ flights (if b then without c ts else t ∷ without c ts)
    go true h = h
    go false h = ap (λ l. flight_of t ∷ l) h

other_counter : (k t : Token) → (t.counter == k.counter) ≡ false → is_token k t ≡ false
other_counter k t e = ap (λ b. (t.order == k.order) && b) e ∙ and_false (t.order == k.order)
  where
    and_false : (b : Bool) → (b && false) ≡ false
    and_false true = refl
    and_false false = refl

same_counter : (k t : Token) → is_token k t ≡ true → (t.counter == k.counter) ≡ true
same_counter k t e = (and_parts (t.order == k.order) (t.counter == k.counter) e).1

same_order : (k t : Token) → is_token k t ≡ true → t.order ≡ k.order
same_order k t e = (Decides-eqb t.order k.order).0 ((and_parts (t.order == k.order) (t.counter == k.counter) e).0)

pub self_token : (t : Token) → is_token t t ≡ true
self_token t = and_from (t.order == t.order) (t.counter == t.counter) ((Decides-eqb t.order t.order).1 refl) ((Decides-eqb t.counter t.counter).1 refl)

-- ---- one wait

on_true : (c : ℕ) (t : Token) (ts : List Token) → (t.counter == c) ≡ true → on_counter c (t ∷ ts) ≡ t ∷ on_counter c ts
on_true c t ts e = ap (λ b. if b then t ∷ on_counter c ts else on_counter c ts) e

on_false : (c : ℕ) (t : Token) (ts : List Token) → (t.counter == c) ≡ false → on_counter c (t ∷ ts) ≡ on_counter c ts
on_false c t ts e = ap (λ b. if b then t ∷ on_counter c ts else on_counter c ts) e

without_true : (c : ℕ) (t : Token) (ts : List Token) → (t.counter == c) ≡ true → without c (t ∷ ts) ≡ without c ts
without_true c t ts e = ap (λ b. if b then without c ts else t ∷ without c ts) e

without_false : (c : ℕ) (t : Token) (ts : List Token) → (t.counter == c) ≡ false → without c (t ∷ ts) ≡ t ∷ without c ts
without_false c t ts e = ap (λ b. if b then without c ts else t ∷ without c ts) e

flies_gone : (k : Token) (ts : List Token) → flies k (without k.counter ts) ≡ false
flies_gone k [] = refl
flies_gone k (t ∷ ts) =
    by_bool (t.counter == k.counter)
    (λ e. ap (flies k) (without_true k.counter t ts e) ∙ flies_gone k ts)
    (λ e. ap (flies k) (without_false k.counter t ts e) ∙ ap (λ b. b || flies k (without k.counter ts)) (other_counter k t e) ∙ flies_gone k ts)

-- on another counter
not_on : (c : ℕ) (k t : Token) → (k.counter ≡ c → ⊥) → (t.counter == c) ≡ true → (t.counter == k.counter) ≡ false
not_on c k t other e =
    by_bool (t.counter == k.counter)
    (λ f. absurd (other (sym ((Decides-eqb t.counter k.counter).0 f) ∙ (Decides-eqb t.counter c).0 e)))
    (λ f. f)

flies_stays : (c : ℕ) (k : Token) (ts : List Token) → (k.counter ≡ c → ⊥) → flies k (without c ts) ≡ flies k ts
flies_stays c k [] other = refl
flies_stays c k (t ∷ ts) other =
    by_bool (t.counter == c)
    (λ e. ap (flies k) (without_true c t ts e) ∙ flies_stays c k ts other
    ∙ ap (λ b. b || flies k ts) (sym (other_counter k t (not_on c k t other e))))
    (λ e. ap (flies k) (without_false c t ts e) ∙ ap (λ b. is_token k t || b) (flies_stays c k ts other))

abbrev next_index : Bool → Bool → ℕ → ℕ
next_index same on n = if same then 0 else (if on then suc n else n)

index_stays : (c : ℕ) (k : Token) (ts : List Token) → (k.counter ≡ c → ⊥) → index k (without c ts) ≡ index k ts
index_stays c k [] other = refl
index_stays c k (t ∷ ts) other =
    by_bool (t.counter == c)
    (λ e. let f = not_on c k t other e in
    ap (index k) (without_true c t ts e) ∙ index_stays c k ts other
    ∙ sym (ap (λ b. next_index b (t.counter == k.counter) (index k ts)) (other_counter k t f) ∙ ap (λ b. next_index false b (index k ts)) f))
    (λ e. ap (index k) (without_false c t ts e) ∙ ap (next_index (is_token k t) (t.counter == k.counter)) (index_stays c k ts other))

module _ (value : ℕ → Value) where
  -- the values of the reads on the counter, in order
  abbrev pub landing : ℕ → List Token → List Value
  landing c fl = map (λ t. value t.order) (on_counter c fl)

  lands : (k : Token) (fl : List Token) → flies k fl ≡ true → value_at (landing k.counter fl) (index k fl) ≡ value k.order
  lands k [] h = cc
  lands k (t ∷ ts) h =
      by_bool (is_token k t)
      (λ e. ap (λ l. value_at (map (λ t. value t.order) l) (index k (t ∷ ts))) (on_true k.counter t ts (same_counter k t e))
      ∙ ap (λ b. value_at (value t.order ∷ landing k.counter ts) (next_index b (t.counter == k.counter) (index k ts))) e
      ∙ ap value (same_order k t e))
      (λ e. let h' : flies k ts ≡ true = sym (ap (λ b. b || flies k ts) e) ∙ h in
      ap (λ b. value_at (landing k.counter (t ∷ ts)) (next_index b (t.counter == k.counter) (index k ts))) e
      ∙ by_bool (t.counter == k.counter)
      (λ f. ap (λ l. value_at (map (λ t. value t.order) l) (next_index false (t.counter == k.counter) (index k ts))) (on_true k.counter t ts f)
      ∙ ap (λ b. value_at (value t.order ∷ landing k.counter ts) (next_index false b (index k ts))) f ∙ lands k ts h')
      (λ f. ap (λ l. value_at (map (λ t. value t.order) l) (next_index false (t.counter == k.counter) (index k ts))) (on_false k.counter t ts f)
      ∙ ap (λ b. value_at (landing k.counter ts) (next_index false b (index k ts))) f ∙ lands k ts h'))

-- ---- one read more

flies_old : (k t : Token) (ts : List Token) → is_token k t ≡ false → flies k (ts ++ t ∷ []) ≡ flies k ts
flies_old k t [] h = ap (λ b. b || false) h
flies_old k t (u ∷ ts) h = ap (λ b. is_token k u || b) (flies_old k t ts h)

index_old : (k t : Token) (ts : List Token) → flies k ts ≡ true → index k (ts ++ t ∷ []) ≡ index k ts
index_old k t [] h = cc
index_old k t (u ∷ ts) h =
    by_bool (is_token k u)
    (λ e. ap (λ b. next_index b (u.counter == k.counter) (index k (ts ++ t ∷ []))) e
    ∙ sym (ap (λ b. next_index b (u.counter == k.counter) (index k ts)) e))
    (λ e. let h' : flies k ts ≡ true = sym (ap (λ b. b || flies k ts) e) ∙ h in
    ap (next_index (is_token k u) (u.counter == k.counter)) (index_old k t ts h'))

or_true : (b : Bool) → (b || true) ≡ true
or_true true = refl
or_true false = refl

flies_new : (t : Token) (ts : List Token) → flies t (ts ++ t ∷ []) ≡ true
flies_new t [] = ap (λ b. b || false) (self_token t)
flies_new t (u ∷ ts) = ap (λ b. is_token t u || b) (flies_new t ts) ∙ or_true (is_token t u)

-- all reads have a number below this one
abbrev pub AllBelow : ℕ → List Token → Type 0
AllBelow n [] = Unit {0}
AllBelow n (t ∷ ts) = (t.order < n) × AllBelow n ts

pub below_more : (n m : ℕ) (ts : List Token) → n < m → AllBelow n ts → AllBelow m ts
below_more n m [] l h = tt
below_more n m (t ∷ ts) l h = (omega (arith, h.0, l), below_more n m ts l h.1)

pub below_new : (n m : ℕ) (ts : List Token) (t : Token) → n < m → t.order ≡ n → AllBelow n ts → AllBelow m (ts ++ t ∷ [])
below_new n m [] t l e h = (omega (arith, e, l), tt)
below_new n m (u ∷ ts) t l e h = (omega (arith, h.0, l), below_new n m ts t l e h.1)

pub below_without : (n c : ℕ) (ts : List Token) → AllBelow n ts → AllBelow n (without c ts)
below_without n c [] h = tt
below_without n c (t ∷ ts) h = go (t.counter == c) (below_without n c ts h.1)
  where
    go : (b : Bool) → AllBelow n (without c ts) → AllBelow n (if b then without c ts else t ∷ without c ts)
    go true g = g
    go false g = (h.0, g)

pub later_token : (k t : Token) → k.order < t.order → is_token k t ≡ false
later_token k t l =
    by_bool (is_token k t) (λ e. absurd (let f = same_order k t e in let no : ⊥ = omega (arith, f, l) in no)) (λ e. e)

index_new : (t : Token) (ts : List Token) → AllBelow t.order ts → index t (ts ++ t ∷ []) ≡ length (on_counter t.counter ts)
index_new t [] h = ap (λ b. next_index b (t.counter == t.counter) 0) (self_token t)
index_new t (u ∷ ts) h =
    let other : is_token t u ≡ false = by_bool (is_token t u) (λ e. absurd (let f = same_order t u e in let no : ⊥ = omega (arith, f, h.0) in no)) (λ e. e) in
    ap (λ b. next_index b (u.counter == t.counter) (index t (ts ++ t ∷ []))) other
    ∙ ap (next_index false (u.counter == t.counter)) (index_new t ts h.1)
    ∙ go (u.counter == t.counter)
  where
    go : (b : Bool) → next_index false b (length (on_counter t.counter ts)) ≡ length (if b then u ∷ on_counter t.counter ts else on_counter t.counter ts)
    go true = refl
    go false = refl

pub on_append : (c : ℕ) (t : Token) (ts : List Token) → on_counter c (ts ++ t ∷ []) ≡ on_counter c ts ++ (if t.counter == c then t ∷ [] else [])
on_append c t [] = refl
on_append c t (u ∷ ts) = go (u.counter == c) (on_append c t ts)
  where
    go : (b : Bool) → on_counter c (ts ++ t ∷ []) ≡ on_counter c ts ++ (if t.counter == c then t ∷ [] else [])
        → (if b then u ∷ on_counter c (ts ++ t ∷ []) else on_counter c (ts ++ t ∷ []))
        ≡ (if b then u ∷ on_counter c ts else on_counter c ts) ++ (if t.counter == c then t ∷ [] else [])
    go true h = ap (λ l. u ∷ l) h
    go false h = h

-- ---- operands

abbrev pub mask_by : Bool → (counter number : ℕ) → Value → Operand
mask_by b counter number v = if b then Landing counter number else Here v

abbrev pub mask_from : List Token → Value → Option Token → Operand
mask_from fl v None = Here v
mask_from fl v (Some k) = mask_by (flies k fl) k.counter (index k fl) v

-- an operand; none on a stack awaits a get
abbrev pub mask : List Token → Thing → Operand
mask fl (val v from) = mask_from fl v from
mask fl (awaited number) = Here (Int (pos 0))

abbrev pub mask_slot : List Token → Thing → Slot
mask_slot fl (val v from) = Holds (mask_from fl v from)
mask_slot fl (awaited number) = Pending number

abbrev pub mask_all : List Token → List Thing → List Operand
mask_all fl xs = map (mask fl) xs

abbrev pub mask_slots : List Token → List Thing → List Slot
mask_slots fl xs = map (mask_slot fl) xs

abbrev pub mask_callers : List Token → List Holder → List (List Thing) → List Frame
mask_callers fl [] cells = []
mask_callers fl (h ∷ hs) cells =
    record { at = h.pc; stack = mask_all fl h.stack; locals = mask_slots fl (newest cells) } ∷ mask_callers fl hs (older cells)

abbrev pub state_of : ℕ → List Thing → List Holder → World → State
state_of pc stack frames w = record {
  frame = record { at = pc; stack = mask_all w.flying stack; locals = mask_slots w.flying (newest w.cells) };
  callers = mask_callers w.flying frames (older w.cells);
  left = w.left;
  flying = flights w.flying;
}

module _ (value : ℕ → Value) where
  -- a value that a read gave is that of an access that was made
  abbrev pub GivenBy : ℕ → Thing → Type 0
  GivenBy n (val v None) = Unit {0}
  GivenBy n (val v (Some k)) = (v ≡ value k.order) × (k.order < n) × (k.counter ≡ 0 → ⊥)
  GivenBy n (awaited number) = Unit {0}

  abbrev pub AllGiven : ℕ → List Thing → Type 0
  AllGiven n [] = Unit {0}
  AllGiven n (x ∷ xs) = GivenBy n x × AllGiven n xs

  abbrev pub CellsGiven : ℕ → List (List Thing) → Type 0
  CellsGiven n [] = Unit {0}
  CellsGiven n (f ∷ fs) = AllGiven n f × CellsGiven n fs

  abbrev pub FramesGiven : ℕ → List Holder → Type 0
  FramesGiven n [] = Unit {0}
  FramesGiven n (h ∷ hs) = AllGiven n h.stack × FramesGiven n hs

  abbrev pub values_on : ℕ → List Token → List Value
  values_on c fl = landing value c fl

  -- a wait shows what lands, and nothing else
  pub land_from : (n c : ℕ) (fl : List Token) (v : Value) (from : Option Token) → GivenBy n (val v from)
      → land c (values_on c fl) (mask_from fl v from) ≡ mask_from (without c fl) v from
  land_from n c fl v None h = refl
  land_from n c fl v (Some k) h =
      by_bool (k.counter == c)
      (λ e. let same : k.counter ≡ c = (Decides-eqb k.counter c).0 e in
      subst (λ c. land c (values_on c fl) (mask_from fl v (Some k)) ≡ mask_from (without c fl) v (Some k)) same
      (by_bool (flies k fl)
      (λ f. ap (λ b. land k.counter (values_on k.counter fl) (mask_by b k.counter (index k fl) v)) f
      ∙ ap (λ b. if b then Here (value_at (values_on k.counter fl) (index k fl)) else Landing k.counter (index k fl)) ((Decides-eqb k.counter k.counter).1 refl)
      ∙ ap Here (lands value k fl f ∙ sym h.0)
      ∙ sym (ap (λ b. mask_by b k.counter (index k (without k.counter fl)) v) (flies_gone k fl)))
      (λ f. ap (λ b. land k.counter (values_on k.counter fl) (mask_by b k.counter (index k fl) v)) f
      ∙ sym (ap (λ b. mask_by b k.counter (index k (without k.counter fl)) v) (flies_gone k fl)))))
      (λ e. let other : k.counter ≡ c → ⊥ = λ f. no_way (sym ((Decides-eqb k.counter c).1 f) ∙ e) in
      by_bool (flies k fl)
      (λ f. ap (λ b. land c (values_on c fl) (mask_by b k.counter (index k fl) v)) f
      ∙ ap (λ b. if b then Here (value_at (values_on c fl) (index k fl)) else Landing k.counter (index k fl)) e
      ∙ ap (Landing k.counter) (sym (index_stays c k fl other))
      ∙ sym (ap (λ b. mask_by b k.counter (index k (without c fl)) v) (flies_stays c k fl other ∙ f)))
      (λ f. ap (λ b. land c (values_on c fl) (mask_by b k.counter (index k fl) v)) f
      ∙ sym (ap (λ b. mask_by b k.counter (index k (without c fl)) v) (flies_stays c k fl other ∙ f))))

  land_mask : (n c : ℕ) (fl : List Token) (x : Thing) → GivenBy n x → land c (values_on c fl) (mask fl x) ≡ mask (without c fl) x
  land_mask n c fl (val v from) h = land_from n c fl v from h
  land_mask n c fl (awaited number) h = refl

  pub land_all : (n c : ℕ) (fl : List Token) (xs : List Thing) → AllGiven n xs → map (land c (values_on c fl)) (mask_all fl xs) ≡ mask_all (without c fl) xs
  land_all n c fl [] h = refl
  land_all n c fl (x ∷ xs) h = let a = land_mask n c fl x h.0 in let b = land_all n c fl xs h.1 in cc

  -- a new read leaves the others as they are
  old_from : (n : ℕ) (fl : List Token) (t : Token) (v : Value) (from : Option Token) → t.order ≡ n → GivenBy n (val v from)
      → mask_from (fl ++ t ∷ []) v from ≡ mask_from fl v from
  old_from n fl t v None e h = refl
  old_from n fl t v (Some k) e h =
      let same = flies_old k t fl (later_token k t (omega (arith, e, h.1))) in
      ap (λ b. mask_by b k.counter (index k (fl ++ t ∷ [])) v) same
      ∙ by_bool (flies k fl)
      (λ f. ap (λ i. mask_by (flies k fl) k.counter i v) (index_old k t fl f))
      (λ f. ap (λ b. mask_by b k.counter (index k (fl ++ t ∷ [])) v) f ∙ sym (ap (λ b. mask_by b k.counter (index k fl) v) f))

  old_mask : (n : ℕ) (fl : List Token) (t : Token) (x : Thing) → t.order ≡ n → GivenBy n x → mask (fl ++ t ∷ []) x ≡ mask fl x
  old_mask n fl t (val v from) e h = old_from n fl t v from e h
  old_mask n fl t (awaited number) e h = refl

  old_slot : (n : ℕ) (fl : List Token) (t : Token) (x : Thing) → t.order ≡ n → GivenBy n x → mask_slot (fl ++ t ∷ []) x ≡ mask_slot fl x
  old_slot n fl t (val v from) e h = ap Holds (old_from n fl t v from e h)
  old_slot n fl t (awaited number) e h = refl

  pub old_all : (n : ℕ) (fl : List Token) (t : Token) (xs : List Thing) → t.order ≡ n → AllGiven n xs → mask_all (fl ++ t ∷ []) xs ≡ mask_all fl xs
  old_all n fl t [] e h = refl
  old_all n fl t (x ∷ xs) e h = let a = old_mask n fl t x e h.0 in let b = old_all n fl t xs e h.1 in cc

  pub old_slots : (n : ℕ) (fl : List Token) (t : Token) (xs : List Thing) → t.order ≡ n → AllGiven n xs → mask_slots (fl ++ t ∷ []) xs ≡ mask_slots fl xs
  old_slots n fl t [] e h = refl
  old_slots n fl t (x ∷ xs) e h = let a = old_slot n fl t x e h.0 in let b = old_slots n fl t xs e h.1 in cc

pub new_mask : (fl : List Token) (t : Token) (v : Value) → AllBelow t.order fl → mask_from (fl ++ t ∷ []) v (Some t) ≡ Landing t.counter (length (on_counter t.counter fl))
new_mask fl t v h =
    ap (λ b. mask_by b t.counter (index t (fl ++ t ∷ [])) v) (flies_new t fl) ∙ ap (Landing t.counter) (index_new t fl h)
