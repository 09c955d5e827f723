-- What pieces add: tokens where they stand, and names and formats in order of first appearance.
use Rattle.std.proofs.Common.{◌≡◌, ℕ, ◌+◌, ◌<◌, ◌≤◌, refl, sym, ap, ◌∙◌, subst, arith, Bool, true, false, cond, List, [], ◌∷◌, ◌++◌, length, take, drop, map, Option, Some, None, length-append, length-take-le}
use Rattle.std.specs.Prelude.{ℤ, All, zip, filter, slice_get, nat_lt}
use Rattle.std.specs.List.{cons_option}
use Rattle.std.proofs.lemmas.List.{append-nil, append_assoc}
use Rattle.std.proofs.lemmas.List.Elements.{All-nil, All-cons, All-head, All-tail, All-push, All-weaker, filter-append}
use Rattle.std.proofs.lemmas.List.Concat.{flat_map-append}
use Rattle.std.proofs.lemmas.Bool.{cond-true, cond-false, lt-ltb, le-ltb}
use Rattle.sc_tree.specs.Names.{Text, number_of, with_name, distinct}
use Rattle.sc_tree.specs.declared.token.Token.{Token}
use Rattle.sc_tree.specs.declared.token.TokenKind.{TokenKind}
use Rattle.sc_tree.specs.declared.token.TokenKind.TheVariants as kind
use Rattle.sc_tree.specs.declared.lexed.Lexed.{Lexed}
use Rattle.sc_lexer.specs.declared.element.Element.{Element}
use Rattle.sc_lexer.specs.declared.element.Found.{Found}
use Rattle.sc_lexer.specs.declared.element.Found.TheVariants as found
use Rattle.sc_lexer.specs.Defined.{Definitions, defined_value}
use Rattle.sc_lexer.specs.Format.{format_text}
use Rattle.sc_lexer.specs.Text.{State, start, lexed_of, taken, with_named, moved, after, is_token, Reaches, IsLexed}
use Rattle.sc_lexer.specs.Piece.{Piece, pieces, pieces_behind, token_pieces}
use Rattle.sc_lexer.specs.Placed.{StandAt}
use Rattle.sc_lexer.specs.Numbered.{with_pieces, name_of, format_of, names_of, formats_of, HasNumber, IsNumbered, definition_of, definitions_of, pieces_before, IsNameKind, IsKind, IsWhatItSays}
use Rattle.sc_tree.proofs.DistinctLaws.{all_added, all_added-distinct, number-there, number-kept, Begins, with_name-begins, begins-on}
use Rattle.sc_lexer.proofs.PieceLaws.{Stands, start-stands, rest_there, element-there, next-stands, piece_of}

abbrev with_maybe : Option Text → List Text → List Text
with_maybe None names = names
with_maybe (Some name) names = with_name name names

record AddsNone (s t : State) : Type 0 where
  tokens : t.tokens ≡ s.tokens
  names : t.names ≡ s.names
  texts : t.texts ≡ s.texts

record AddsToken (s t : State) (piece : List ℕ) (IsIt : TokenKind → Type 0) (k : TokenKind) : Type 0 where
  tokens : t.tokens ≡ s.tokens ++ record { kind = k; at = s.at; line = s.line } ∷ []
  names : t.names ≡ with_maybe (name_of k piece) s.names
  texts : t.texts ≡ with_maybe (format_of k piece) s.texts
  number : HasNumber (lexed_of t) k piece
  is_it : IsIt k

-- what a piece adds, a token or not
abbrev Adds : State → State → List ℕ → (TokenKind → Type 0) → Bool → Type 0
Adds s t piece IsIt false = AddsNone s t
Adds s t piece IsIt true = (k : TokenKind) × AddsToken s t piece IsIt k

named-adds : (s : State) (piece : List ℕ) (o : Option ℤ) → Adds s (with_named s piece o) piece (IsNameKind o) true
named-adds s piece None = (kind.Name (number_of piece s.names), record { tokens = refl; names = refl; texts = refl; number = number-there piece s.names; is_it = (number_of piece s.names, refl) })
named-adds s piece (Some v) = (kind.Number v, record { tokens = refl; names = refl; texts = refl; number = tt; is_it = refl })

taken-adds : (s : State) (piece : List ℕ) (f : Found) → Adds s (taken s piece f) piece (IsKind s.defined f piece) (is_token f)
taken-adds s piece found.Gap = record { tokens = refl; names = refl; texts = refl }
taken-adds s piece found.Include = record { tokens = refl; names = refl; texts = refl }
taken-adds s piece (found.Define from size value) = record { tokens = refl; names = refl; texts = refl }
taken-adds s piece (found.Number v) = (kind.Number v, record { tokens = refl; names = refl; texts = refl; number = tt; is_it = refl })
taken-adds s piece found.Name = named-adds s piece (defined_value piece s.defined)
taken-adds s piece found.Format = (kind.Format (number_of (format_text piece) s.texts), record { tokens = refl; names = refl; texts = refl; number = number-there (format_text piece) s.texts; is_it = (number_of (format_text piece) s.texts, refl) })
taken-adds s piece (found.Word word) = (kind.Word word, record { tokens = refl; names = refl; texts = refl; number = tt; is_it = refl })
taken-adds s piece (found.Mark mark) = (kind.Mark mark, record { tokens = refl; names = refl; texts = refl; number = tt; is_it = refl })

moved-number : (u : State) (q piece : List ℕ) (k : TokenKind) → HasNumber (lexed_of u) k piece → HasNumber (lexed_of (moved u q)) k piece
moved-number u q piece (kind.Name n) h = h
moved-number u q piece (kind.Format n) h = h
moved-number u q piece (kind.Number v) h = tt
moved-number u q piece (kind.Word w) h = tt
moved-number u q piece (kind.Mark m) h = tt

moved-adds : (s u : State) (piece q : List ℕ) (IsIt : TokenKind → Type 0) (b : Bool) → Adds s u piece IsIt b → Adds s (moved u q) piece IsIt b
moved-adds s u piece q IsIt false a = record { tokens = a.tokens; names = a.names; texts = a.texts }
moved-adds s u piece q IsIt true a = (a.0, record { tokens = a.1.tokens; names = a.1.names; texts = a.1.texts; number = moved-number u q piece a.0 a.1.number; is_it = a.1.is_it })

-- from s to t these pieces of the whole are new tokens
record Grows (whole : List Piece) (s t : State) (ps : List Piece) : Type 0 where
  new : List Token
  tokens : t.tokens ≡ s.tokens ++ new
  places : map (λ (k : Token). k.at) new ≡ map (λ (p : Piece). length p.before) ps
  names : t.names ≡ all_added s.names (names_of (zip new ps))
  texts : t.texts ≡ all_added s.texts (formats_of (zip new ps))
  numbers : All (λ (k : Token × Piece). HasNumber (lexed_of t) k.0.kind k.1.bytes) (zip new ps)
  kinds : All (IsWhatItSays whole) (zip new ps)
  more_names : Begins s.names t.names
  more_texts : Begins s.texts t.texts

cons-added : (o : Option Text) (names more : List Text) → all_added names (cons_option o more) ≡ all_added (with_maybe o names) more
cons-added None names more = refl
cons-added (Some x) names more = refl

maybe-begins : (o : Option Text) (names : List Text) → Begins names (with_maybe o names)
maybe-begins None names = ([], sym (append-nil names))
maybe-begins (Some x) names = with_name-begins x names

kept : (u t : State) (piece : List ℕ) (k : TokenKind) → Begins u.names t.names → Begins u.texts t.texts → HasNumber (lexed_of u) k piece → HasNumber (lexed_of t) k piece
kept u t piece (kind.Name n) f g h = ap (λ l. slice_get l n) f.1 ∙ number-kept u.names f.0 n piece h
kept u t piece (kind.Format n) f g h = ap (λ l. slice_get l n) g.1 ∙ number-kept u.texts g.0 n (format_text piece) h
kept u t piece (kind.Number v) f g h = tt
kept u t piece (kind.Word w) f g h = tt
kept u t piece (kind.Mark m) f g h = tt

grows-none : (whole : List Piece) (s u t : State) (ps : List Piece) → AddsNone s u → Grows whole u t ps → Grows whole s t ps
grows-none whole s u t ps a g = record {
  new = g.new;
  tokens = g.tokens ∙ ap (λ l. l ++ g.new) a.tokens;
  places = g.places;
  names = g.names ∙ ap (λ l. all_added l (names_of (zip g.new ps))) a.names;
  texts = g.texts ∙ ap (λ l. all_added l (formats_of (zip g.new ps))) a.texts;
  numbers = g.numbers;
  kinds = g.kinds;
  more_names = (g.more_names.0, g.more_names.1 ∙ ap (λ l. l ++ g.more_names.0) a.names);
  more_texts = (g.more_texts.0, g.more_texts.1 ∙ ap (λ l. l ++ g.more_texts.0) a.texts);
}

begins-at : (a b c : List Text) → b ≡ c → Begins a c → Begins a b
begins-at a b c e f = (f.0, e ∙ f.1)

grows-token : (whole : List Piece) (s u t : State) (p : Piece) (ps : List Piece) (k : TokenKind) → s.at ≡ length p.before → AddsToken s u p.bytes (IsKind (definitions_of (pieces_before whole (length p.before))) p.found p.bytes) k → Grows whole u t ps → Grows whole s t (p ∷ ps)
grows-token whole s u t p ps k place a g =
    let token : Token = record { kind = k; at = s.at; line = s.line } in
    record {
      new = token ∷ g.new;
      tokens = g.tokens ∙ ap (λ l. l ++ g.new) a.tokens ∙ append_assoc s.tokens (token ∷ []) g.new;
      places = (λ i. place i ∷ g.places i);
      names = g.names ∙ ap (λ l. all_added l (names_of (zip g.new ps))) a.names ∙ sym (cons-added (name_of k p.bytes) s.names (names_of (zip g.new ps)));
      texts = g.texts ∙ ap (λ l. all_added l (formats_of (zip g.new ps))) a.texts ∙ sym (cons-added (format_of k p.bytes) s.texts (formats_of (zip g.new ps)));
      numbers = All-cons (λ (x : Token × Piece). HasNumber (lexed_of t) x.0.kind x.1.bytes) (token, p) (zip g.new ps) (kept u t p.bytes k g.more_names g.more_texts a.number) g.numbers;
      kinds = All-cons (IsWhatItSays whole) (token, p) (zip g.new ps) a.is_it g.kinds;
      more_names = begins-on s.names u.names t.names (begins-at s.names u.names _ a.names (maybe-begins (name_of k p.bytes) s.names)) g.more_names;
      more_texts = begins-on s.texts u.texts t.texts (begins-at s.texts u.texts _ a.texts (maybe-begins (format_of k p.bytes) s.texts)) g.more_texts;
    }

grows-step : (whole : List Piece) (b : Bool) (s u t : State) (p : Piece) (ps : List Piece) → s.at ≡ length p.before → Adds s u p.bytes (IsKind (definitions_of (pieces_before whole (length p.before))) p.found p.bytes) b → Grows whole u t ps → Grows whole s t (cond b (p ∷ ps) ps)
grows-step whole false s u t p ps place a g = grows-none whole s u t ps a g
grows-step whole true s u t p ps place a g = grows-token whole s u t p ps a.0 place a.1 g

-- the pieces so far, with what they define
record IsDone (whole : List Piece) (before rest : List ℕ) (es : List Element) (s : State) : Type 0 where
  done : List Piece
  split : done ++ pieces_behind before rest es ≡ whole
  defined : s.defined ≡ definitions_of done
  earlier : All (λ (p : Piece). length p.before < length before) done

filter-some : (p : Piece → Bool) (ps : List Piece) → All (λ x. p x ≡ true) ps → filter p ps ≡ ps
filter-some p [] all = refl
filter-some p (x ∷ ps) all = cond-true (p x) _ _ (All-head (λ y. p y ≡ true) x ps all) ∙ ap (λ l. x ∷ l) (filter-some p ps (All-tail (λ y. p y ≡ true) x ps all))

filter-none : (p : Piece → Bool) (ps : List Piece) → All (λ x. p x ≡ false) ps → filter p ps ≡ []
filter-none p [] all = refl
filter-none p (x ∷ ps) all = cond-false (p x) _ _ (All-head (λ y. p y ≡ false) x ps all) ∙ filter-none p ps (All-tail (λ y. p y ≡ false) x ps all)

behind : (before rest : List ℕ) (es : List Element) → All (λ (p : Piece). length before ≤ length p.before) (pieces_behind before rest es)
behind before rest [] = All-nil (λ (p : Piece). length before ≤ length p.before)
behind before rest (e ∷ es) =
    All-cons (λ (p : Piece). length before ≤ length p.before) (piece_of before rest e) _ (omega arith)
    (All-weaker (λ (p : Piece). length (before ++ take e.size rest) ≤ length p.before) (λ (p : Piece). length before ≤ length p.before)
    (λ p later. omega (arith, length-append before (take e.size rest))) _ (behind (before ++ take e.size rest) (drop e.size rest) es))

-- the pieces before the place where the state stands are those so far
before-here : (whole : List Piece) (before rest : List ℕ) (es : List Element) (s : State) → (d : IsDone whole before rest es s) → pieces_before whole (length before) ≡ d.done
before-here whole before rest es s d =
    let p : Piece → Bool = λ x. nat_lt (length x.before) (length before) in
    let left = pieces_behind before rest es in
    ap (filter p) (sym d.split) ∙ filter-append p d.done left
    ∙ ap (λ l. l ++ filter p left) (filter-some p d.done (All-weaker (λ (x : Piece). length x.before < length before) (λ x. p x ≡ true) (λ x below. lt-ltb (length x.before) (length before) below) d.done d.earlier))
    ∙ ap (λ l. d.done ++ l) (filter-none p left (All-weaker (λ (x : Piece). length before ≤ length x.before) (λ x. p x ≡ false) (λ x later. le-ltb (length x.before) (length before) later) left (behind before rest es)))
    ∙ append-nil d.done

with_named-defined : (s : State) (name : Text) (o : Option ℤ) → (with_named s name o).defined ≡ s.defined
with_named-defined s name None = refl
with_named-defined s name (Some v) = refl

taken-defined : (s : State) (piece : List ℕ) (f : Found) → (taken s piece f).defined ≡ s.defined ++ definition_of f piece
taken-defined s piece found.Gap = sym (append-nil s.defined)
taken-defined s piece found.Include = sym (append-nil s.defined)
taken-defined s piece (found.Define from size value) = refl
taken-defined s piece (found.Number value) = sym (append-nil s.defined)
taken-defined s piece found.Name = with_named-defined s piece (defined_value piece s.defined) ∙ sym (append-nil s.defined)
taken-defined s piece found.Format = sym (append-nil s.defined)
taken-defined s piece (found.Word word) = sym (append-nil s.defined)
taken-defined s piece (found.Mark mark) = sym (append-nil s.defined)

next-done : (whole : List Piece) (before rest : List ℕ) (e : Element) (es : List Element) (s : State) → 0 < length (take e.size rest) → IsDone whole before rest (e ∷ es) s →
    IsDone whole (before ++ take e.size rest) (drop e.size rest) es (moved (taken s (take e.size rest) e.found) (take e.size rest))
next-done whole before rest e es s some d =
    let piece = take e.size rest in
    let p = piece_of before rest e in
    let longer = length-append before piece in
    record {
      done = d.done ++ p ∷ [];
      split = append_assoc d.done (p ∷ []) (pieces_behind (before ++ piece) (drop e.size rest) es) ∙ d.split;
      defined = taken-defined s piece e.found
          ∙ ap (λ l. l ++ definition_of e.found piece) d.defined
          ∙ ap (λ l. definitions_of d.done ++ l) (sym (append-nil (definition_of e.found piece)))
          ∙ sym (flat_map-append (λ (x : Piece). definition_of x.found x.bytes) d.done (p ∷ []));
      earlier = All-push (λ (x : Piece). length x.before < length (before ++ piece)) d.done p
          (All-weaker (λ (x : Piece). length x.before < length before) (λ (x : Piece). length x.before < length (before ++ piece)) (λ x below. omega arith) d.done d.earlier)
          (omega arith);
    }

text-grows : (whole : List Piece) (text before rest : List ℕ) (s : State) (es : List Element) (t : State) → Stands text before rest s → IsDone whole before rest es s → Reaches text s es t → Grows whole s t (token_pieces (pieces_behind before rest es))
text-grows whole text before rest s [] t stands d r = record {
  new = [];
  tokens = ap (λ (x : State). x.tokens) (sym r) ∙ sym (append-nil s.tokens);
  places = refl;
  names = ap (λ (x : State). x.names) (sym r);
  texts = ap (λ (x : State). x.texts) (sym r);
  numbers = All-nil _;
  kinds = All-nil (IsWhatItSays whole);
  more_names = ([], ap (λ (x : State). x.names) (sym r) ∙ sym (append-nil s.names));
  more_texts = ([], ap (λ (x : State). x.texts) (sym r) ∙ sym (append-nil s.texts));
}
text-grows whole text before rest s (e ∷ es) t stands d r =
    let piece = take e.size rest in
    let there = rest_there text before rest s stands in
    let next : after text s e ≡ moved (taken s piece e.found) piece = ap (λ (l : List ℕ). moved (taken s (take e.size l) e.found) (take e.size l)) there in
    let good = (element-there text before rest s e stands r.0 r.1).good in
    let some : 0 < length piece = omega (arith, good.positive, length-take-le e.size rest good.within) in
    let D : State → Type 0 = λ u. IsDone whole (before ++ piece) (drop e.size rest) es u in
    let done : IsDone whole (before ++ piece) (drop e.size rest) es (after text s e) = subst D (sym next) (next-done whole before rest e es s some d) in
    let more = text-grows whole text (before ++ piece) (drop e.size rest) (after text s e) es t (next-stands text before rest s e stands r.0 r.1) done r.2 in
    let P : State → Type 0 = λ u. Grows whole u t (token_pieces (pieces_behind (before ++ piece) (drop e.size rest) es)) in
    let known : s.defined ≡ definitions_of (pieces_before whole (length before)) = d.defined ∙ ap definitions_of (sym (before-here whole before rest (e ∷ es) s d)) in
    let A : Definitions → Type 0 = λ ds. Adds s (moved (taken s piece e.found) piece) piece (IsKind ds e.found piece) (is_token e.found) in
    let adds : Adds s (moved (taken s piece e.found) piece) piece (IsKind s.defined e.found piece) (is_token e.found) =
    moved-adds s (taken s piece e.found) piece piece (IsKind s.defined e.found piece) (is_token e.found) (taken-adds s piece e.found) in
    grows-step whole (is_token e.found) s (moved (taken s piece e.found) piece) t (piece_of before rest e) (token_pieces (pieces_behind (before ++ piece) (drop e.size rest) es)) stands.place
    (subst A known adds)
    (subst P next more)

whole-grows : (text : List ℕ) (a : Lexed) (is : IsLexed text a) → Grows (pieces text is.0) start is.1 (token_pieces (pieces text is.0))
whole-grows text a is =
    let none : IsDone (pieces text is.0) [] text is.0 start = record { done = []; split = refl; defined = refl; earlier = All-nil (λ (p : Piece). length p.before < length {A = ℕ} []) } in
    text-grows (pieces text is.0) text [] text start is.0 is.1 (start-stands text) none is.2

pub tokens-stand : (text : List ℕ) (a : Lexed) (is : IsLexed text a) → StandAt a.tokens (pieces text is.0)
tokens-stand text a is =
    let g = whole-grows text a is in
    let same : a.tokens ≡ g.new = ap (λ (l : Lexed). l.tokens) is.4 ∙ g.tokens in
    ap (λ (ks : List Token). map (λ (k : Token). k.at) ks) same ∙ g.places

pub numbered : (text : List ℕ) (a : Lexed) (is : IsLexed text a) → IsNumbered a (pieces text is.0)
numbered text a is =
    let g = whole-grows text a is in
    let ps = token_pieces (pieces text is.0) in
    let same : a.tokens ≡ g.new = ap (λ (l : Lexed). l.tokens) is.4 ∙ g.tokens in
    record {
      names = ap (λ (l : Lexed). l.names) is.4 ∙ g.names ∙ all_added-distinct (names_of (zip g.new ps)) ∙ ap (λ (ks : List Token). distinct (names_of (zip ks ps))) (sym same);
      texts = ap (λ (l : Lexed). l.texts) is.4 ∙ g.texts ∙ all_added-distinct (formats_of (zip g.new ps)) ∙ ap (λ (ks : List Token). distinct (formats_of (zip ks ps))) (sym same);
    }

pub have-numbers : (text : List ℕ) (a : Lexed) (is : IsLexed text a) → All (λ (k : Token × Piece). HasNumber a k.0.kind k.1.bytes) (with_pieces a.tokens (pieces text is.0))
have-numbers text a is =
    let g = whole-grows text a is in
    let ps = token_pieces (pieces text is.0) in
    let same : is.1.tokens ≡ g.new = g.tokens in
    let P : List Token → Type 0 = λ ks. All (λ (k : Token × Piece). HasNumber (lexed_of is.1) k.0.kind k.1.bytes) (zip ks ps) in
    let Q : Lexed → Type 0 = λ l. All (λ (k : Token × Piece). HasNumber l k.0.kind k.1.bytes) (with_pieces l.tokens (pieces text is.0)) in
    subst Q (sym is.4) (subst P (sym same) g.numbers)

pub what-they-say : (text : List ℕ) (a : Lexed) (is : IsLexed text a) → All (IsWhatItSays (pieces text is.0)) (with_pieces a.tokens (pieces text is.0))
what-they-say text a is =
    let g = whole-grows text a is in
    let same : a.tokens ≡ g.new = ap (λ (l : Lexed). l.tokens) is.4 ∙ g.tokens in
    let P : List Token → Type 0 = λ ks. All (IsWhatItSays (pieces text is.0)) (zip ks (token_pieces (pieces text is.0))) in
    subst P (sym same) g.kinds
