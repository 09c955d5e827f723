-- The pieces of a text that is read: each is the element at its place, and joined they are the text.
use Rattle.std.proofs.Common.{◌≡◌, ℕ, zero, suc, ◌+◌, ◌<◌, ◌≤◌, refl, sym, ap, ◌∙◌, subst, arith, Bool, true, false, List, [], ◌∷◌, ◌++◌, length, take, drop, Result, Ok, Err, Option, Some, None, length-take-le, length-append, ⊎_elim}
use Rattle.std.specs.Prelude.{ℤ, ◌&&◌, ◌||◌, count_by, sum_by, cond, flat_map, slice_get, All}
use Rattle.std.proofs.lemmas.Bool.{cases_lt}
use Rattle.std.proofs.lemmas.List.{append_assoc, take-append-drop, take_at, drop_at}
use Rattle.std.proofs.lemmas.List.Sums.{sum_by-append}
use Rattle.std.proofs.lemmas.List.Elements.{All-nil, All-cons}
use Rattle.sc_lexer.specs.declared.element.Element.{Element}
use Rattle.sc_lexer.specs.declared.element.Found.{Found}
use Rattle.sc_lexer.specs.declared.element.Found.TheVariants as found
use Rattle.sc_lexer.specs.Class.{is_blank, is_newline}
use Rattle.sc_lexer.specs.Defined.{Definitions, defined_value}
use Rattle.sc_lexer.specs.Element.{element_at}
use Rattle.sc_lexer.specs.Text.{State, start, taken, with_named, moved, after, is_fresh_after, element_of, Reaches}
use Rattle.sc_lexer.specs.Piece.{Piece, pieces_behind, joined, Covers}
use Rattle.sc_lexer.proofs.ElementLaws.{IsGood}
use Rattle.sc_lexer.proofs.TextLaws.{element_of-good, counted-cases, after-at}
use Rattle.sc_lexer.proofs.StepLaws.{taken-line}

-- the state stands between the bytes before it and the rest of the text
pub record Stands (text before rest : List ℕ) (s : State) : Type 0 where
  pub split : before ++ rest ≡ text
  pub place : s.at ≡ length before
  pub line : s.line ≡ 1 + count_by is_newline before
  pub fresh : s.fresh ≡ is_fresh_after true before

pub start-stands : (text : List ℕ) → Stands text [] text start
start-stands text = record { split = refl; place = refl; line = refl; fresh = refl }

pub rest_there : (text before rest : List ℕ) (s : State) → Stands text before rest s → drop s.at text ≡ rest
rest_there text before rest s stands = ap (λ n. drop n text) stands.place ∙ ap (drop (length before)) (sym stands.split) ∙ drop_at before rest (length before) refl

pub front_there : (text before rest : List ℕ) → before ++ rest ≡ text → take (length before) text ≡ before
front_there text before rest split = ap (take (length before)) (sym split) ∙ take_at before rest (length before) refl

pub back_there : (text before rest : List ℕ) → before ++ rest ≡ text → drop (length before) text ≡ rest
back_there text before rest split = ap (drop (length before)) (sym split) ∙ drop_at before rest (length before) refl

with_named-fresh : (s : State) (name : List ℕ) (o : Option ℤ) → (with_named s name o).fresh ≡ s.fresh
with_named-fresh s name None = refl
with_named-fresh s name (Some v) = refl

taken-fresh : (s : State) (piece : List ℕ) (f : Found) → (taken s piece f).fresh ≡ s.fresh
taken-fresh s piece found.Gap = refl
taken-fresh s piece found.Include = refl
taken-fresh s piece (found.Define from size value) = refl
taken-fresh s piece (found.Number value) = refl
taken-fresh s piece found.Name = with_named-fresh s piece (defined_value piece s.defined)
taken-fresh s piece found.Format = refl
taken-fresh s piece (found.Word word) = refl
taken-fresh s piece (found.Mark mark) = refl

pub is_fresh_after-append : (fresh : Bool) (xs ys : List ℕ) → is_fresh_after fresh (xs ++ ys) ≡ is_fresh_after (is_fresh_after fresh xs) ys
is_fresh_after-append fresh [] ys = refl
is_fresh_after-append fresh (x ∷ xs) ys = is_fresh_after-append (is_newline x || (fresh && is_blank x)) xs ys

count_newlines-append : (xs ys : List ℕ) → count_by is_newline (xs ++ ys) ≡ count_by is_newline xs + count_by is_newline ys
count_newlines-append xs ys = sum_by-append (λ x. cond (is_newline x) 1 0) xs ys

-- what the element where the state stands says, over the bytes that are left
pub record IsThere (rest : List ℕ) (s : State) (e : Element) : Type 0 where
  pub found : element_at s.fresh s.defined rest ≡ Ok e
  pub good : IsGood s.defined rest e

pub element-there : (text before rest : List ℕ) (s : State) (e : Element) → Stands text before rest s → s.at < length text → element_of text s ≡ Ok e → IsThere rest s e
element-there text before rest s e stands within is =
    let there = rest_there text before rest s stands in
    let P : List ℕ → Type 0 = λ bytes. IsThere bytes s e in
    subst P there (record { found = counted-cases s _ e is; good = element_of-good text s e within is })

pub next-stands : (text before rest : List ℕ) (s : State) (e : Element) → Stands text before rest s → s.at < length text → element_of text s ≡ Ok e → Stands text (before ++ take e.size rest) (drop e.size rest) (after text s e)
next-stands text before rest s e stands within is =
    let there = rest_there text before rest s stands in
    let good = (element-there text before rest s e stands within is).good in
    let piece = take e.size rest in
    let good_there = element_of-good text s e within is in
    let cut : length piece ≡ e.size = length-take-le e.size rest good.within in
    let place : (after text s e).at ≡ s.at + e.size = after-at text s e good_there.within in
    let more = length-append before piece in
    let next : after text s e ≡ moved (taken s piece e.found) piece = ap (λ (r : List ℕ). moved (taken s (take e.size r) e.found) (take e.size r)) there in
    let lines : (after text s e).line ≡ (taken s piece e.found).line + count_by is_newline piece = ap (λ (x : State). x.line) next in
    let same_line = taken-line s piece e.found in
    let all_lines = count_newlines-append before piece in
    record {
      split = append_assoc before piece (drop e.size rest) ∙ ap (λ (r : List ℕ). before ++ r) (take-append-drop e.size rest) ∙ stands.split;
      place = omega (arith, stands.place);
      line = omega (arith, stands.line);
      fresh = ap (λ (x : State). x.fresh) next ∙ ap (λ b. is_fresh_after b piece) (taken-fresh s piece e.found ∙ stands.fresh) ∙ sym (is_fresh_after-append true before piece);
    }

abbrev pub piece_of : List ℕ → List ℕ → Element → Piece
piece_of before rest e = record { before = before; bytes = take e.size rest; found = e.found }

-- what holds of each element at its place holds of all pieces
pub all-pieces : (text : List ℕ) (P : Piece → Type 0) →
    ((before rest : List ℕ) (s : State) (e : Element) → Stands text before rest s → IsThere rest s e → P (piece_of before rest e)) →
    (before rest : List ℕ) (s : State) (es : List Element) (t : State) → Stands text before rest s → Reaches text s es t → All P (pieces_behind before rest es)
all-pieces text P each before rest s [] t stands r = All-nil P
all-pieces text P each before rest s (e ∷ es) t stands r =
    All-cons P (piece_of before rest e) (pieces_behind (before ++ take e.size rest) (drop e.size rest) es)
    (each before rest s e stands (element-there text before rest s e stands r.0 r.1))
    (all-pieces text P each (before ++ take e.size rest) (drop e.size rest) (after text s e) es t (next-stands text before rest s e stands r.0 r.1) r.2)

-- at the end nothing is left
empty : (xs : List ℕ) → length xs ≡ 0 → xs ≡ []
empty [] h = refl
empty (x ∷ xs) h = absurd (omega arith)

nothing-left : (text before rest : List ℕ) (s t : State) → Stands text before rest s → s ≡ t → t.at ≡ length text → rest ≡ []
nothing-left text before rest s t stands same ends =
    let place : s.at ≡ t.at = ap (λ (x : State). x.at) same in
    let whole : length before + length rest ≡ length text = sym (length-append before rest) ∙ ap length stands.split in
    empty rest (omega (arith, stands.place))

pub pieces-joined : (text before rest : List ℕ) (s : State) (es : List Element) (t : State) → Stands text before rest s → Reaches text s es t → t.at ≡ length text → joined (pieces_behind before rest es) ≡ rest
pieces-joined text before rest s [] t stands r ends = sym (nothing-left text before rest s t stands r ends)
pieces-joined text before rest s (e ∷ es) t stands r ends =
    ap (λ (more : List ℕ). take e.size rest ++ more) (pieces-joined text (before ++ take e.size rest) (drop e.size rest) (after text s e) es t (next-stands text before rest s e stands r.0 r.1) r.2 ends)
    ∙ take-append-drop e.size rest

-- ---- each byte in one piece

abbrev IsCovered : List Piece → ℕ → Type 0
IsCovered ps place = (i : ℕ) × (p : Piece) × (slice_get ps i ≡ Some p) × Covers p place

pub one-covers : (text before rest : List ℕ) (s : State) (es : List Element) (t : State) → Stands text before rest s → Reaches text s es t → t.at ≡ length text →
    (place : ℕ) → length before ≤ place → place < length text → IsCovered (pieces_behind before rest es) place
one-covers text before rest s [] t stands r ends place from below =
    let same : s.at ≡ t.at = ap (λ (x : State). x.at) r in
    absurd (omega (arith, stands.place))
one-covers text before rest s (e ∷ es) t stands r ends place from below =
    let piece = take e.size rest in
    ⊎_elim
    (λ here. (0, piece_of before rest e, refl, record { from = from; below = here }))
    (λ later.
    let more : length (before ++ piece) ≤ place = omega (arith, length-append before piece) in
    let found = one-covers text (before ++ piece) (drop e.size rest) (after text s e) es t (next-stands text before rest s e stands r.0 r.1) r.2 ends place more below in
    (suc found.0, found.1, found.2, found.3))
    (cases_lt place (length before + length piece))

none_some : (p : Piece) → ◌≡◌ {A = Option Piece} None (Some p) → ⊥
none_some p e = cc

some_same : (p q : Piece) → Some p ≡ Some q → p ≡ q
some_same p q e = cc

pub begins-behind : (before rest : List ℕ) (es : List Element) (i : ℕ) (p : Piece) → slice_get (pieces_behind before rest es) i ≡ Some p → length before ≤ length p.before
begins-behind before rest [] i p is = absurd (none_some p is)
begins-behind before rest (e ∷ es) zero p is = let same = ap (λ (x : Piece). length x.before) (some_same (piece_of before rest e) p is) in omega arith
begins-behind before rest (e ∷ es) (suc i) p is =
    let later = begins-behind (before ++ take e.size rest) (drop e.size rest) es i p is in
    omega (arith, length-append before (take e.size rest))

-- a piece that is not the first begins where the first has ended
apart : (before rest : List ℕ) (e : Element) (es : List Element) (j : ℕ) (p q : Piece) (place : ℕ) → piece_of before rest e ≡ p → slice_get (pieces_behind (before ++ take e.size rest) (drop e.size rest) es) j ≡ Some q → Covers p place → Covers q place → ⊥
apart before rest e es j p q place is is' covers covers' =
    let first = ap (λ (x : Piece). length x.before) is in
    let size = ap (λ (x : Piece). length x.bytes) is in
    let later = begins-behind (before ++ take e.size rest) (drop e.size rest) es j q is' in
    omega (arith, covers.below, covers'.from, length-append before (take e.size rest))

pub covers-once : (before rest : List ℕ) (es : List Element) (i j : ℕ) (p q : Piece) (place : ℕ) → slice_get (pieces_behind before rest es) i ≡ Some p → slice_get (pieces_behind before rest es) j ≡ Some q → Covers p place → Covers q place → i ≡ j
covers-once before rest [] i j p q place is is' covers covers' = absurd (none_some p is)
covers-once before rest (e ∷ es) zero zero p q place is is' covers covers' = refl
covers-once before rest (e ∷ es) zero (suc j) p q place is is' covers covers' =
    absurd (apart before rest e es j p q place (some_same (piece_of before rest e) p is) is' covers covers')
covers-once before rest (e ∷ es) (suc i) zero p q place is is' covers covers' =
    absurd (apart before rest e es i q p place (some_same (piece_of before rest e) q is') is covers' covers)
covers-once before rest (e ∷ es) (suc i) (suc j) p q place is is' covers covers' =
    ap suc (covers-once (before ++ take e.size rest) (drop e.size rest) es i j p q place is is' covers covers')

-- of two pieces at one index, both are one
pub same-piece : (ps : List Piece) (i j : ℕ) (p q : Piece) → slice_get ps i ≡ Some p → slice_get ps j ≡ Some q → i ≡ j → p ≡ q
same-piece ps i j p q is is' same = some_same p q (sym is ∙ ap (slice_get ps) same ∙ is')
