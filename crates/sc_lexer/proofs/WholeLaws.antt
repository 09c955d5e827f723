-- The laws of whole texts that follow from what each element says.
use Rattle.std.proofs.Common.{◌≡◌, ℕ, zero, suc, ◌+◌, ◌-◌, ◌<◌, ◌≤◌, refl, sym, ap, ◌∙◌, subst, arith, Bool, true, false, cond, List, [], ◌∷◌, ◌++◌, take, drop, length, length-take-le, Result, Ok, Err, inl, inr, ⊎_elim}
use Rattle.std.specs.Prelude.{◌==◌, ◌&&◌, ◌||◌, ◌⊎◌, All, slice_get, Some, nat_eq, codes}
use Rattle.std.specs.List.{list_all, starts_with}
use Rattle.std.proofs.lemmas.Bool.{and_parts, both_ways, cases_lt, not-true}
use Rattle.std.proofs.lemmas.List.{drop-drop, append_assoc, take-take}
use Rattle.std.proofs.lemmas.List.Elements.{All-take}
use Rattle.std.proofs.lemmas.List.Sums.{AllPass-from_list_all, list_all-from_AllPass}
use Rattle.std.proofs.lemmas.Option.{slice_get_within, get_or_from_slice_get}
use Rattle.sc_tree.specs.declared.lexed.Lexed.{Lexed}
use Rattle.sc_lexer.specs.declared.refusal.Refused.{Refused}
use Rattle.sc_lexer.specs.declared.refusal.Refused.TheVariants as refused
use Rattle.sc_lexer.specs.declared.refusal.LexError.{LexError}
use Rattle.sc_lexer.specs.declared.refusal.LexError.TheVariants as errors
use Rattle.sc_lexer.specs.declared.element.Element.{Element}
use Rattle.sc_lexer.specs.declared.element.Found.{Found}
use Rattle.sc_lexer.specs.declared.element.Found.TheVariants as found
use Rattle.sc_lexer.specs.Class.{is_blank, is_newline, is_not_newline, begins_with}
use Rattle.sc_lexer.specs.Defined.{Definitions}
use Rattle.sc_lexer.specs.Element.{element_at, or_solid, solid_at, format_at, quoted}
use Rattle.sc_lexer.specs.Format.{format_end, is_writable, written, quoted_text, IsFormat}
use Rattle.sc_lexer.specs.Gap.{gap_at, HasNoEnd, IsGap}
use Rattle.sc_lexer.specs.Longest.{IsLongestFound, IsLongestPiece}
use Rattle.sc_lexer.specs.Piece.{Piece, pieces, is_directive, Covers}
use Rattle.sc_lexer.specs.Placed.{is_line_start, IsMarkedOff, IsDirectiveAt}
use Rattle.sc_lexer.specs.Text.{State, start, counted, named_at, begins_token, is_token, is_full, is_fresh_after, element_of, IsLexed, IsRefused}
use Rattle.sc_lexer.proofs.FormatLaws.{format_end-read-back}
use Rattle.sc_lexer.proofs.LongestMatch.{begins-take}
use Rattle.sc_lexer.proofs.PieceLaws.{Stands, start-stands, is_fresh_after-append, IsThere, piece_of, all-pieces, back_there, covers-once, same-piece}
use Rattle.sc_lexer.proofs.PlaceLaws.{fresh-is-start}
use Rattle.sc_lexer.proofs.SaysLaws.{Says, IsOther, IsSolid, IsGapOrSolid, IsOpen, found-says, open-says}

says-there : (before rest : List ℕ) (s : State) (e : Element) → IsThere rest s e → Says s.fresh rest e.size e.found
says-there before rest s e there = found-says s.fresh s.defined rest e there.found

size-there : (rest : List ℕ) (s : State) (e : Element) → IsThere rest s e → length (take e.size rest) ≡ e.size
size-there rest s e there = length-take-le e.size rest there.good.within

all-over : (text : List ℕ) (a : Lexed) (is : IsLexed text a) (P : Piece → Type 0) →
    ((before rest : List ℕ) (s : State) (e : Element) → Stands text before rest s → IsThere rest s e → P (piece_of before rest e)) →
    All P (pieces text is.0)
all-over text a is P each = all-pieces text P each [] text start is.0 is.1 (start-stands text) is.2

pub longest-pieces : (text : List ℕ) (a : Lexed) (is : IsLexed text a) → All (IsLongestPiece text) (pieces text is.0)
longest-pieces text a is = all-over text a is (IsLongestPiece text)
    (λ before rest s e stands there.
    let P : List ℕ → Type 0 = λ bytes. IsLongestFound bytes e.size e.found in
    let Q : ℕ → Type 0 = λ n. IsLongestFound (drop (length before) text) n e.found in
    subst Q (sym (size-there rest s e there)) (subst P (sym (back_there text before rest stands.split)) (says-there before rest s e there).longest))

pub marked-off-pieces : (text : List ℕ) (a : Lexed) (is : IsLexed text a) → All IsMarkedOff (pieces text is.0)
marked-off-pieces text a is = all-over text a is IsMarkedOff
    (λ before rest s e stands there.
    let says = says-there before rest s e there in
    record {
      hash = begins-take (λ b. b == 35) rest e.size there.good.positive ∙ says.hash;
      start = λ directive. sym (fresh-is-start before) ∙ sym stands.fresh ∙ says.start directive;
    })

pub gap-pieces : (text : List ℕ) (a : Lexed) (is : IsLexed text a) → All (λ (p : Piece). p.found ≡ found.Gap → IsGap (drop (length p.before) text) (length p.bytes)) (pieces text is.0)
gap-pieces text a is = all-over text a is (λ (p : Piece). p.found ≡ found.Gap → IsGap (drop (length p.before) text) (length p.bytes))
    (λ before rest s e stands there gap.
    let O : Found → Type 0 = IsOther rest e.size in
    let there_gap : IsGap rest e.size = subst O gap (says-there before rest s e there).other in
    let P : List ℕ → Type 0 = λ bytes. IsGap bytes e.size in
    let Q : ℕ → Type 0 = IsGap (drop (length before) text) in
    subst Q (sym (size-there rest s e there)) (subst P (sym (back_there text before rest stands.split)) there_gap))

pub format-pieces : (text : List ℕ) (a : Lexed) (is : IsLexed text a) → All (λ (p : Piece). p.found ≡ found.Format → IsFormat p.bytes) (pieces text is.0)
format-pieces text a is = all-over text a is (λ (p : Piece). p.found ≡ found.Format → IsFormat p.bytes)
    (λ before rest s e stands there format. let O : Found → Type 0 = IsOther rest e.size in subst O format (says-there before rest s e there).other)

directive_no_gap : (f : Found) → is_directive f ≡ true → f ≡ found.Gap → ⊥
directive_no_gap f e is = let P : Found → Type 0 = λ g. is_directive g ≡ true in gap_no_directive (subst P is e)
  where
    gap_no_directive : false ≡ true → ⊥
    gap_no_directive e = cc

pub some-bytes : (text : List ℕ) (a : Lexed) (is : IsLexed text a) → All (λ (p : Piece). 0 < length p.bytes) (pieces text is.0)
some-bytes text a is = all-over text a is (λ (p : Piece). 0 < length p.bytes)
    (λ before rest s e stands there. omega (arith, there.good.positive, length-take-le e.size rest there.good.within))

-- a piece covers the place of its first byte
covers-first : (text : List ℕ) (a : Lexed) (is : IsLexed text a) (i : ℕ) (p : Piece) → slice_get (pieces text is.0) i ≡ Some p → Covers p (length p.before)
covers-first text a is i p at_i =
    let here = some-bytes text a is i p (slice_get_within (pieces text is.0) i p at_i) in
    let P : Piece → Type 0 = λ x. 0 < length x.bytes in
    let some : 0 < length p.bytes = subst P (get_or_from_slice_get (pieces text is.0) i p p at_i) here in
    record { from = omega arith; below = omega arith }

pub outside-comments : (text : List ℕ) (a : Lexed) (is : IsLexed text a) (i j : ℕ) (p q : Piece) → slice_get (pieces text is.0) i ≡ Some p → slice_get (pieces text is.0) j ≡ Some q → is_directive p.found ≡ true → q.found ≡ found.Gap → Covers q (length p.before) → ⊥
outside-comments text a is i j p q at_i at_j directive gap covers =
    let first = covers-first text a is i p at_i in
    let same : p ≡ q = same-piece (pieces text is.0) i j p q at_i at_j (covers-once [] text is.0 i j p q (length p.before) at_i at_j first covers) in
    directive_no_gap p.found directive (ap (λ (x : Piece). x.found) same ∙ gap)

-- ---- every place of a directive

all-shorter : (p : ℕ → Bool) (k size : ℕ) (bytes : List ℕ) → k ≤ size → list_all p (take size bytes) ≡ true → list_all p (take k bytes) ≡ true
all-shorter p k size bytes h all =
    let P : ℕ → Type 0 = λ b. p b ≡ true in
    ap (list_all p) (sym (take-take k size bytes h))
    ∙ list_all-from_AllPass p (take k (take size bytes)) (All-take P k (take size bytes) (AllPass-from_list_all p (take size bytes) all))

-- no line begins where no newline stands
not-fresh : (bytes : List ℕ) → list_all is_not_newline bytes ≡ true → is_fresh_after false bytes ≡ false
not-fresh [] all = refl
not-fresh (b ∷ bs) all =
    let parts = and_parts (is_not_newline b) (list_all is_not_newline bs) all in
    ap (λ n. is_fresh_after (n || false) bs) (not-true (is_newline b) parts.0) ∙ not-fresh bs parts.1

or-and : (newline fresh blank : Bool) → newline ≡ false → blank ≡ false → (newline || (fresh && blank)) ≡ false
or-and newline true blank e f = cc
or-and newline false blank e f = cc

-- nor inside of what begins with no blank
solid-not-fresh : (fresh : Bool) (bytes : List ℕ) (k : ℕ) → 0 < k → begins_with is_blank bytes ≡ false → 0 < length bytes → list_all is_not_newline (take k bytes) ≡ true → is_fresh_after fresh (take k bytes) ≡ false
solid-not-fresh fresh bytes zero h first some all = absurd (omega arith)
solid-not-fresh fresh [] (suc k) h first some all = absurd (omega arith)
solid-not-fresh fresh (b ∷ bs) (suc k) h first some all =
    let parts = and_parts (is_not_newline b) (list_all is_not_newline (take k bs)) all in
    ap (λ f. is_fresh_after f (take k bs)) (or-and (is_newline b) fresh (is_blank b) (not-true (is_newline b) parts.0) first)
    ∙ not-fresh (take k bs) parts.1

front-and-more : (before rest : List ℕ) (place k : ℕ) → place ≡ length before + k → take place (before ++ rest) ≡ before ++ take k rest
front-and-more before rest place k e = ap (λ n. take n (before ++ rest)) e ∙ go before rest k
  where
    go : (before rest : List ℕ) (k : ℕ) → take (length before + k) (before ++ rest) ≡ before ++ take k rest
    go [] rest k = let same : 0 + k ≡ k = omega arith in ap (λ n. take n rest) same
    go (b ∷ bs) rest k = let same : suc (length bs) + k ≡ suc (length bs + k) = omega arith in ap (λ n. take n (b ∷ (bs ++ rest))) same ∙ ap (λ l. b ∷ l) (go bs rest k)

-- a `#` with only blanks before it on its line belongs to a comment or begins a directive
IsExplained : List ℕ → Piece → Type 0
IsExplained text p = (place : ℕ) → Covers p place → begins_with (λ b. b == 35) (drop place text) ≡ true → is_line_start (take place text) ≡ true → (p.found ≡ found.Gap) ⊎ IsDirectiveAt p place

inside-not-start : (text before rest : List ℕ) (s : State) (e : Element) → Stands text before rest s → IsThere rest s e → IsSolid rest e.size → (place : ℕ) → length before < place → Covers (piece_of before rest e) place → is_line_start (take place text) ≡ false
inside-not-start text before rest s e stands there solid place inside covers =
    let k = place - length before in
    let size = size-there rest s e there in
    let within : e.size ≤ length rest = there.good.within in
    let positive : 0 < k = omega arith in
    let below : k ≤ e.size = omega (arith, covers.below) in
    let some : 0 < length rest = omega (arith, there.good.positive) in
    let same : place ≡ length before + k = omega arith in
    sym (fresh-is-start (take place text))
    ∙ ap (λ l. is_fresh_after true (take place l)) (sym stands.split)
    ∙ ap (is_fresh_after true) (front-and-more before rest place k same)
    ∙ is_fresh_after-append true before (take k rest)
    ∙ solid-not-fresh (is_fresh_after true before) rest k positive solid.first some (all-shorter is_not_newline k e.size rest below solid.on_line)

explained-solid : (text before rest : List ℕ) (s : State) (e : Element) → Stands text before rest s → IsThere rest s e → IsSolid rest e.size → IsExplained text (piece_of before rest e)
unfolding IsExplained
explained-solid text before rest s e stands there solid place covers hash start =
    ⊎_elim
    (λ inside. absurd (both_ways (is_line_start (take place text)) (inside-not-start text before rest s e stands there solid place inside covers) start))
    (λ not_inside.
    let same : length before ≡ place = omega (arith, covers.from) in
    let front : drop place text ≡ rest = ap (λ n. drop n text) (sym same) ∙ back_there text before rest stands.split in
    inr (record { begins = same; directive = sym (says-there before rest s e there).hash ∙ ap (begins_with (λ b. b == 35)) (sym front) ∙ hash }))
    (cases_lt (length before) place)

by-found : (text : List ℕ) (p : Piece) (bytes : List ℕ) (size : ℕ) → (f : Found) → f ≡ p.found → IsGapOrSolid bytes size f → (IsSolid bytes size → IsExplained text p) → IsExplained text p
unfolding IsExplained
by-found text p bytes size found.Gap is solid known place covers hash start = inl (sym is)
by-found text p bytes size found.Include is solid known place covers hash start = known solid place covers hash start
by-found text p bytes size (found.Define from name_size value) is solid known place covers hash start = known solid place covers hash start
by-found text p bytes size (found.Number value) is solid known place covers hash start = known solid place covers hash start
by-found text p bytes size found.Name is solid known place covers hash start = known solid place covers hash start
by-found text p bytes size found.Format is solid known place covers hash start = known solid place covers hash start
by-found text p bytes size (found.Word word) is solid known place covers hash start = known solid place covers hash start
by-found text p bytes size (found.Mark mark) is solid known place covers hash start = known solid place covers hash start

pub every-directive : (text : List ℕ) (a : Lexed) (is : IsLexed text a) (i : ℕ) (p : Piece) (place : ℕ) → slice_get (pieces text is.0) i ≡ Some p → Covers p place → begins_with (λ b. b == 35) (drop place text) ≡ true → is_line_start (take place text) ≡ true → (p.found ≡ found.Gap) ⊎ IsDirectiveAt p place
unfolding IsExplained
every-directive text a is i p place at_i covers hash start =
    let all : All (IsExplained text) (pieces text is.0) = all-over text a is (IsExplained text)
    (λ before rest s e stands there. by-found text (piece_of before rest e) rest e.size e.found refl (says-there before rest s e there).solid (explained-solid text before rest s e stands there)) in
    let P : Piece → Type 0 = IsExplained text in
    let here : IsExplained text p = subst P (get_or_from_slice_get (pieces text is.0) i p p at_i) (all i p (slice_get_within (pieces text is.0) i p at_i)) in
    here place covers hash start

-- ---- open comments

-- the place of an open comment, and why it is one
record IsOpenAt (s : State) (r : Result Element Refused) (place : ℕ) : Type 0 where
  reason : r ≡ Err refused.OpenComment
  place_is : s.at ≡ place

open-ok : (b : Bool) (e : Element) (place : ℕ) → ◌≡◌ {A = Result Element LexError} (cond b (Err errors.TooManyTokens) (Ok e)) (Err (errors.OpenComment place)) → ⊥
open-ok true e place h = cc
open-ok false e place h = cc

open-err : (b : Bool) (d : LexError) (place : ℕ) → ◌≡◌ {A = Result Element LexError} (Err (cond b errors.TooManyTokens d)) (Err (errors.OpenComment place)) → d ≡ errors.OpenComment place
open-err true d place h = cc
open-err false d place h = cc

open-named : (s : State) (r : Refused) (place : ℕ) → named_at s r ≡ errors.OpenComment place → IsOpenAt s (Err r) place
open-named s refused.BadByte place h = cc
open-named s (refused.BadToken offset) place h = cc
open-named s refused.OpenComment place h = record { reason = refl; place_is = (cc) }
open-named s refused.WideNumber place h = cc
open-named s refused.BadDirective place h = cc

open-counted : (s : State) (r : Result Element Refused) (place : ℕ) → counted s r ≡ Err (errors.OpenComment place) → IsOpenAt s r place
open-counted s (Ok e) place h = absurd (open-ok (is_token e.found && is_full s) e place h)
open-counted s (Err r) place h = open-named s r place (open-err (begins_token r && is_full s) (named_at s r) place h)

open-there : (text : List ℕ) (place : ℕ) → IsRefused text (errors.OpenComment place) → IsOpen (drop place text)
open-there text place x =
    let s = x.1 in
    let found = open-counted s (element_at s.fresh s.defined (drop s.at text)) place x.4 in
    let P : ℕ → Type 0 = λ n. IsOpen (drop n text) in
    subst P found.place_is (open-says s.fresh s.defined (drop s.at text) found.reason)

pub open-begins : (text : List ℕ) (place : ℕ) → IsRefused text (errors.OpenComment place) → starts_with nat_eq (drop place text) (codes "/*") ≡ true
open-begins text place x = (open-there text place x).begins

pub open-has-no-end : (text : List ℕ) (place : ℕ) → IsRefused text (errors.OpenComment place) → HasNoEnd (drop (place + 2) text)
open-has-no-end text place x = subst HasNoEnd (drop-drop 2 place text) (open-there text place x).no_end

-- ---- formats read back

format_at-back : (text behind : List ℕ) → list_all is_writable text ≡ true → format_at (34 ∷ (written text ++ 34 ∷ behind)) ≡ Ok (record { size = length (quoted_text text); found = found.Format })
unfolding format_at
format_at-back text behind e = ap quoted (format_end-read-back text behind e)

element_at-quote : (fresh : Bool) (defined : Definitions) (bytes : List ℕ) → element_at fresh defined (34 ∷ bytes) ≡ format_at (34 ∷ bytes)
unfolding element_at solid_at
element_at-quote fresh defined bytes = refl

pub format-read-back : (fresh : Bool) (defined : Definitions) (text behind : List ℕ) → list_all is_writable text ≡ true → element_at fresh defined (quoted_text text ++ behind) ≡ Ok (record { size = length (quoted_text text); found = found.Format })
format-read-back fresh defined text behind e =
    ap (λ l. element_at fresh defined (34 ∷ l)) (append_assoc (written text) (34 ∷ []) behind)
    ∙ element_at-quote fresh defined (written text ++ 34 ∷ behind)
    ∙ format_at-back text behind e
