-- The gets of a past: those that were issued since the last sync are the ones whose values it lands, in order.
use Rattle.std.proofs.Common.{◌≡◌, ℕ, zero, suc, ◌<◌, ◌≤◌, Some, Bool, true, false, if◌then◌else◌, List, [], ◌∷◌, ◌++◌, length, slice_get, refl, sym, ap, ◌∙◌, subst, arith}
use Rattle.std.specs.List.{All}
use Rattle.std.proofs.lemmas.List.Elements.{All-nil, All-cons}
use Rattle.sc_base.specs.declared.value.Place.{Place}
use Rattle.sc_base.specs.declared.value.Value.{Value}
use Rattle.sc_layout.specs.Layout.{Arrangement}
use Rattle.sc_isa.specs.Fitting.{fits_all}
use Rattle.sc_isa.proofs.Exact.{exact}
use Rattle.effect_order.specs.Effect.{Effect}
use Rattle.effect_order.specs.Transfer.{part_value}
use Rattle.sc_meaning.specs.declared.request.Request.{Request}
use Rattle.sc_meaning.specs.declared.request.Request.TheVariants.{Read, Write, Get, Put, Store, Copy, Sync, Barrier, AllStoreSync}
use Rattle.sc_meaning.specs.Parts.{is_get, is_issued}
use Rattle.sc_meaning.specs.Past.{or_zero, got, gets_among}
use Rattle.value_soundness.specs.Lawful.{NamesOnly, IsLawfulAt}
use Rattle.value_soundness.proofs.Memories.{AreLawful}
use Rattle.value_soundness.proofs.Promises.{then_gets}

-- ---- lists

pub get_front : {X : Type 0} (xs ys : List X) (n : ℕ) (x : X) → slice_get xs n ≡ Some x
    → slice_get (xs ++ ys) n ≡ Some x
get_front [] ys n x e = absurd (cc)
get_front (y ∷ xs) ys zero x e = e
get_front (y ∷ xs) ys (suc n) x e = get_front xs ys n x e

pub get_at : {X : Type 0} (xs ys : List X) (x : X) (n : ℕ) → n ≡ length xs → slice_get (xs ++ x ∷ ys) n ≡ Some x
get_at [] ys x zero e = refl
get_at [] ys x (suc n) e = absurd (let no : ⊥ = omega (arith, e) in no)
get_at (y ∷ xs) ys x zero e = absurd (let no : ⊥ = omega (arith, e) in no)
get_at (y ∷ xs) ys x (suc n) e = get_at xs ys x n (omega (arith, e))

pub get_back : {X : Type 0} (xs ys : List X) (n : ℕ) (x : X) → n < length xs → slice_get (xs ++ ys) n ≡ Some x
    → slice_get xs n ≡ Some x
get_back [] ys n x b e = absurd (let no : ⊥ = omega (arith, b) in no)
get_back (y ∷ xs) ys zero x b e = e
get_back (y ∷ xs) ys (suc n) x b e = get_back xs ys n x (omega (arith, b)) e

pub record Behind (X : Type 0) (ys : List X) (x : X) : Type 0 where
  pub tail : List X
  pub is : ys ≡ x ∷ tail

pub get_next : {X : Type 0} (xs ys : List X) (n : ℕ) (x : X) → n ≡ length xs → slice_get (xs ++ ys) n ≡ Some x
    → Behind X ys x
get_next [] [] n x e h = absurd (cc)
get_next [] (y ∷ ys) zero x e h = record { tail = ys; is = let same : y ≡ x = cc in ap (λ z. z ∷ ys) same }
get_next [] (y ∷ ys) (suc n) x e h = absurd (let no : ⊥ = omega (arith, e) in no)
get_next (z ∷ xs) ys zero x e h = absurd (let no : ⊥ = omega (arith, e) in no)
get_next (z ∷ xs) ys (suc n) x e h = get_next xs ys n x (omega (arith, e)) h

-- a longer front of the same list
pub record FrontOf (X : Type 0) (xs ys before zs : List X) : Type 0 where
  pub middle : List X
  pub before_is : before ≡ xs ++ middle
  pub rest_is : ys ≡ middle ++ zs

pub front_of : {X : Type 0} (xs ys before zs : List X) → xs ++ ys ≡ before ++ zs → length xs ≤ length before
    → FrontOf X xs ys before zs
front_of [] ys before zs e l = record { middle = before; before_is = refl; rest_is = e }
front_of (x ∷ xs) ys [] zs e l = absurd (let no : ⊥ = omega (arith, l) in no)
front_of {X} (x ∷ xs) ys (b ∷ before) zs e l =
    let same : x ≡ b = cc in
    let tail : xs ++ ys ≡ before ++ zs = cc in
    let more = front_of xs ys before zs tail (omega (arith, l)) in
    record {
      middle = more.middle;
      before_is = ap (λ (b : X). b ∷ before) (sym same) ∙ ap (λ (bs : List X). x ∷ bs) more.before_is;
      rest_is = more.rest_is;
    }

-- ---- the gets among issued requests

pub data GetsAre (done : List Request) : List ℕ → List Place → Type 0 where
  no_more : GetsAre done [] []
  a_get : {n line : ℕ} {place : Place} {ns : List ℕ} {ps : List Place} → slice_get done n ≡ Some (Get place line)
      → GetsAre done ns ps → GetsAre done (n ∷ ns) (place ∷ ps)
  another : {n : ℕ} {request : Request} {ns : List ℕ} {ps : List Place} → slice_get done n ≡ Some request
      → is_get request ≡ false → GetsAre done ns ps → GetsAre done (n ∷ ns) ps

pub gets_kept : {done : List Request} {ns : List ℕ} {ps : List Place} → (more : List Request) → GetsAre done ns ps
    → GetsAre (done ++ more) ns ps
gets_kept more no_more = no_more
gets_kept {done = done} more (a_get {n = n} {line = line} {place = place} e h) =
    a_get (get_front done more n (Get place line) e) (gets_kept more h)
gets_kept {done = done} more (another {n = n} {request = request} e other h) =
    another (get_front done more n request e) other (gets_kept more h)

push_get : {done : List Request} {ns : List ℕ} {ps : List Place} → (n line : ℕ) (place : Place) → GetsAre done ns ps
    → slice_get done n ≡ Some (Get place line) → GetsAre done (ns ++ n ∷ []) (ps ++ place ∷ [])
push_get n line place no_more at = a_get at no_more
push_get n line place (a_get e h) at = a_get e (push_get n line place h at)
push_get n line place (another e other h) at = another e other (push_get n line place h at)

push_other : {done : List Request} {ns : List ℕ} {ps : List Place} → (n : ℕ) (request : Request) → GetsAre done ns ps
    → slice_get done n ≡ Some request → is_get request ≡ false → GetsAre done (ns ++ n ∷ []) ps
push_other n request no_more at other = another at other no_more
push_other n request (a_get e h) at other = a_get e (push_other n request h at other)
push_other n request (another e neither h) at other = another e neither (push_other n request h at other)

pub gets_push : {done : List Request} {ns : List ℕ} {ps : List Place} → (n : ℕ) (request : Request) → GetsAre done ns ps
    → slice_get done n ≡ Some request → is_issued request ≡ true → GetsAre done (ns ++ n ∷ []) (then_gets ps request)
gets_push n (Get place line) h at issued = push_get n line place h at
gets_push n (Put place value line) h at issued = push_other n (Put place value line) h at refl
gets_push n (Store place value line) h at issued = push_other n (Store place value line) h at refl
gets_push n (Copy from to cells mode line) h at issued = push_other n (Copy from to cells mode line) h at refl
gets_push n (Read place line) h at issued = absurd (cc)
gets_push n (Write place value line) h at issued = absurd (cc)
gets_push n (Sync line) h at issued = absurd (cc)
gets_push n (Barrier line) h at issued = absurd (cc)
gets_push n (AllStoreSync line) h at issued = absurd (cc)

-- ---- what they got

among : (requests : List Request) (n : ℕ) (ns : List ℕ) (request : Request) (b : Bool)
    → slice_get requests n ≡ Some request
    → is_get request ≡ b
    → gets_among requests (n ∷ ns) ≡ (if b then n ∷ gets_among requests ns else gets_among requests ns)
among requests n ns request b e is = rw (e, is) refl

module _ (layout : Arrangement) (exposed : List ℕ) where
  pub lawful_fit : (ps : List Place) (vs : List Value) → AreLawful layout exposed ps vs → fits_all layout ps vs ≡ true
  lawful_fit [] [] h = refl
  lawful_fit [] (v ∷ vs) h = absurd h
  lawful_fit (p ∷ ps) [] h = absurd h
  lawful_fit (p ∷ ps) (v ∷ vs) h = rw ((exact layout p v).1 h.0.fits) (lawful_fit ps vs h.1)

  pub lawful_names : (ps : List Place) (vs : List Value) → AreLawful layout exposed ps vs → All (NamesOnly exposed) vs
  lawful_names [] [] h = All-nil (NamesOnly exposed)
  lawful_names [] (v ∷ vs) h = absurd h
  lawful_names (p ∷ ps) [] h = absurd h
  lawful_names (p ∷ ps) (v ∷ vs) h = All-cons (NamesOnly exposed) v vs h.0.names (lawful_names ps vs h.1)

  -- what the gets got is lawful at their places, where it is so of each
  pub got_lawful : (node : ℕ) (effs : List Effect) (done later : List Request) {ns : List ℕ} {ps : List Place}
      → GetsAre done ns ps
      → ((n line : ℕ) (place : Place) → slice_get done n ≡ Some (Get place line)
      → IsLawfulAt layout exposed place (or_zero (part_value node n 0 false effs)))
      → AreLawful layout exposed ps (got node effs (gets_among (done ++ later) ns))
  got_lawful node effs done later no_more f = tt
  got_lawful node effs done later (a_get {n = n} {line = line} {place = place} {ns = ns} {ps = ps} e h) f =
      subst (λ (ms : List ℕ). AreLawful layout exposed (place ∷ ps) (got node effs ms))
      (sym (among (done ++ later) n ns (Get place line) true (get_front done later n (Get place line) e) refl))
      (f n line place e, got_lawful node effs done later h f)
  got_lawful node effs done later (another {n = n} {request = request} {ns = ns} {ps = ps} e other h) f =
      subst (λ (ms : List ℕ). AreLawful layout exposed ps (got node effs ms))
      (sym (among (done ++ later) n ns request false (get_front done later n request e) other))
      (got_lawful node effs done later h f)
