-- A text has at most one list of tokens, at most one refusal, and exactly one of the two.
use Rattle.std.proofs.Common.{◌≡◌, ℕ, zero, suc, ◌+◌, ◌<◌, ◌≤◌, refl, sym, ap, ◌∙◌, subst, arith, Bool, true, false, cond, List, [], ◌∷◌, ◌++◌, length, take, drop, Result, Ok, Err, length-drop, length-take-le, inl, inr, ⊎_elim}
use Rattle.std.specs.Prelude.{ℤ, Option, Some, None, ◌⊎◌, ◌&&◌}
use Rattle.sc_tree.specs.Names.{Text}
use Rattle.std.proofs.lemmas.Bool.{cases_lt}
use Rattle.sc_tree.specs.declared.lexed.Lexed.{Lexed}
use Rattle.sc_lexer.specs.declared.refusal.Refused.{Refused}
use Rattle.sc_lexer.specs.declared.refusal.LexError.{LexError}
use Rattle.sc_lexer.specs.declared.refusal.LexError.TheVariants as errors
use Rattle.sc_lexer.specs.declared.element.Element.{Element}
use Rattle.sc_lexer.specs.declared.element.Found.{Found}
use Rattle.sc_lexer.specs.declared.element.Found.TheVariants as found
use Rattle.sc_lexer.specs.Defined.{defined_value}
use Rattle.sc_lexer.specs.Element.{element_at}
use Rattle.sc_lexer.specs.Text.{State, start, lexed_of, with_named, taken, after, counted, is_token, is_full, element_of, Reaches, IsLexed, IsRefused}
use Rattle.sc_lexer.proofs.ElementLaws.{IsGood, IsFair, element_at-fair}

-- a place where the elements end
abbrev pub IsStop : List ℕ → State → Type 0
IsStop text t = (t.at ≡ length text) ⊎ ((e : LexError) × (element_of text t ≡ Err e))

ok_same : (d e : Element) (r : Result Element LexError) → r ≡ Ok d → r ≡ Ok e → d ≡ e
ok_same d e r f g = cc

err_same : (d e : LexError) (r : Result Element LexError) → r ≡ Err d → r ≡ Err e → d ≡ e
err_same d e r f g = cc

err_not_ok : (d : LexError) (e : Element) (r : Result Element LexError) → r ≡ Err d → r ≡ Ok e → ⊥
err_not_ok d e r f g = cc

stops : (text : List ℕ) (t : State) (e : Element) → IsStop text t → t.at < length text → element_of text t ≡ Ok e → ⊥
stops text t e stop within found = ⊎_elim (λ ends. omega arith) (λ bad. err_not_ok bad.0 e _ bad.1 found) stop

-- the elements of a text lead to one stop
pub Reaches-one : (text : List ℕ) (s : State) (es fs : List Element) (t u : State) → Reaches text s es t → Reaches text s fs u → IsStop text t → IsStop text u → t ≡ u
Reaches-one text s [] [] t u r q stop_t stop_u = sym r ∙ q
Reaches-one text s [] (f ∷ fs) t u r q stop_t stop_u = absurd (stops text s f (subst (IsStop text) (sym r) stop_t) q.0 q.1)
Reaches-one text s (e ∷ es) [] t u r q stop_t stop_u = absurd (stops text s e (subst (IsStop text) (sym q) stop_u) r.0 r.1)
Reaches-one text s (e ∷ es) (f ∷ fs) t u r q stop_t stop_u =
    let same = ok_same e f _ r.1 q.1 in
    Reaches-one text (after text s e) es fs t u r.2 (subst (λ x. Reaches text (after text s x) fs u) (sym same) q.2) stop_t stop_u

pub lexed_once : (text : List ℕ) (a b : Lexed) → IsLexed text a → IsLexed text b → a ≡ b
lexed_once text a b x y =
    let same = Reaches-one text start x.0 y.0 x.1 y.1 x.2 y.2 (inl x.3) (inl y.3) in
    x.4 ∙ ap lexed_of same ∙ sym y.4

pub refused_once : (text : List ℕ) (d e : LexError) → IsRefused text d → IsRefused text e → d ≡ e
refused_once text d e x y =
    let same = Reaches-one text start x.0 y.0 x.1 y.1 x.2 y.2 (inr (d, x.4)) (inr (e, y.4)) in
    err_same d e (element_of text x.1) x.4 (ap (element_of text) same ∙ y.4)

pub not_both : (text : List ℕ) (a : Lexed) (e : LexError) → IsLexed text a → IsRefused text e → ⊥
not_both text a e x y =
    let same = Reaches-one text start x.0 y.0 x.1 y.1 x.2 y.2 (inl x.3) (inr (e, y.4)) in
    let place : x.1.at ≡ y.1.at = ap (λ (s : State). s.at) same in
    omega (arith, x.3, y.3)

-- what an element that may stand here says
unless-full : (b : Bool) (d e : Element) → ◌≡◌ {A = Result Element LexError} (cond b (Err errors.TooManyTokens) (Ok d)) (Ok e) → d ≡ e
unless-full true d e g = cc
unless-full false d e g = cc

pub counted-cases : (s : State) (r : Result Element Refused) (e : Element) → counted s r ≡ Ok e → r ≡ Ok e
counted-cases s (Err x) e f = cc
counted-cases s (Ok d) e f = let same : d ≡ e = unless-full (is_token d.found && is_full s) d e f in cc

fair-good : (r : Result Element Refused) (text : List ℕ) (s : State) (e : Element) → IsFair s.defined text r → r ≡ Ok e → IsGood s.defined text e
fair-good r text s e fair is = let P : Result Element Refused → Type 0 = IsFair s.defined text in subst P is fair

pub element_of-good : (text : List ℕ) (s : State) (e : Element) → s.at < length text → element_of text s ≡ Ok e → IsGood s.defined (drop s.at text) e
element_of-good text s e within found =
    let some : 0 < length (drop s.at text) = omega (arith, length-drop s.at text) in
    fair-good (element_at s.fresh s.defined (drop s.at text)) (drop s.at text) s e (element_at-fair s.fresh s.defined (drop s.at text) some) (counted-cases s _ e found)

-- an element more at the end
pub Reaches-more : (text : List ℕ) (s : State) (es : List Element) (t : State) (e : Element) → Reaches text s es t → t.at < length text → element_of text t ≡ Ok e → Reaches text s (es ++ e ∷ []) (after text t e)
Reaches-more text s [] t e r within found =
    let P : State → Type 0 = λ x. (x.at < length text) × (element_of text x ≡ Ok e) × (after text x e ≡ after text t e) in
    subst P (sym r) (within, found, refl)
Reaches-more text s (d ∷ es) t e r within found = (r.0, r.1, Reaches-more text (after text s d) es t e r.2 within found)

-- what is taken stands where it stood
with_named-at : (s : State) (name : Text) (o : Option ℤ) → (with_named s name o).at ≡ s.at
with_named-at s name None = refl
with_named-at s name (Some v) = refl

pub taken-at : (s : State) (piece : List ℕ) (f : Found) → (taken s piece f).at ≡ s.at
taken-at s piece found.Gap = refl
taken-at s piece found.Include = refl
taken-at s piece (found.Define from size value) = refl
taken-at s piece (found.Number value) = refl
taken-at s piece found.Name = with_named-at s piece (defined_value piece s.defined)
taken-at s piece found.Format = refl
taken-at s piece (found.Word word) = refl
taken-at s piece (found.Mark mark) = refl

pub after-at : (text : List ℕ) (s : State) (e : Element) → e.size ≤ length (drop s.at text) → (after text s e).at ≡ s.at + e.size
after-at text s e within = (λ i. taken-at s (take e.size (drop s.at text)) e.found i + length-take-le e.size (drop s.at text) within i)

-- from each place the elements lead to a stop
abbrev Leads : List ℕ → State → Type 0
Leads text s = (es : List Element) × (t : State) × Reaches text s es t × IsStop text t × (t.at ≤ length text)

result_cases : (r : Result Element LexError) → ((e : Element) × (r ≡ Ok e)) ⊎ ((d : LexError) × (r ≡ Err d))
result_cases (Ok e) = inl (e, refl)
result_cases (Err d) = inr (d, refl)

leads : (n : ℕ) (text : List ℕ) (s : State) → s.at ≤ length text → length text ≤ s.at + n → Leads text s
leads zero text s below near = ([], s, refl, inl (omega arith), below)
leads (suc n) text s below near =
    ⊎_elim
    (λ within. ⊎_elim
    (λ found.
    let good = element_of-good text s found.0 within found.1 in
    let place = after-at text s found.0 good.within in
    let rest = leads n text (after text s found.0) (omega (arith, length-drop s.at text, good.within)) (omega (arith, good.positive)) in
    (found.0 ∷ rest.0, rest.1, (within, found.1, rest.2), rest.3, rest.4))
    (λ bad. ([], s, refl, inr bad, below))
    (result_cases (element_of text s)))
    (λ past. ([], s, refl, inl (omega arith), below))
    (cases_lt s.at (length text))

-- a text has a list of tokens or a refusal
pub one_of_both : (text : List ℕ) → ((a : Lexed) × IsLexed text a) ⊎ ((e : LexError) × IsRefused text e)
one_of_both text =
    let all = leads (length text) text start (omega arith) (omega arith) in
    ⊎_elim
    (λ ends. inl (lexed_of all.1, (all.0, all.1, all.2, ends, refl)))
    (λ bad. ⊎_elim
    (λ within. inr (bad.0, (all.0, all.1, all.2, within, bad.1)))
    (λ past. inl (lexed_of all.1, (all.0, all.1, all.2, omega (arith, all.4), refl)))
    (cases_lt all.1.at (length text)))
    all.3
