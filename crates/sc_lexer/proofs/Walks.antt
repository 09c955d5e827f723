-- What the readers over bytes give, one byte on and at the end.
use Rattle.std.proofs.Common.{◌≡◌, ℕ, ◌+◌, ◌-◌, ◌<◌, ◌≤◌, Bool, true, false, List, [], ◌∷◌, arith, length, drop, get_or, cond, Some, None, zero, suc, refl, sym, ap, ◌∙◌}
use Rattle.std.specs.Prelude.{Err, ◌==◌, codes, nat_eq, unwrap_or}
use Rattle.std.specs.List.{starts_with}
use Rattle.std.proofs.lemmas.List.{at_drop_more, at_drop_all, drop_more}
use Rattle.sc_lexer.specs.declared.refusal.Refused.TheVariants.{BadToken}
use Rattle.sc_lexer.specs.Format.{format_end, unescaped}
use Rattle.sc_lexer.specs.Gap.{gap_at, comment_end, only_gaps}

pub format_end-drop : (escaped : Bool) (bytes : List ℕ) (i d : ℕ) → i < length bytes → format_end escaped i (drop i bytes) ≡ format_end escaped i (get_or bytes i d ∷ drop (i + 1) bytes)
format_end-drop escaped bytes i d h = at_drop_more (format_end escaped i) bytes i d h

pub format_end-all : (escaped : Bool) (bytes : List ℕ) (i : ℕ) → length bytes ≤ i → format_end escaped i (drop i bytes) ≡ format_end escaped i []
format_end-all escaped bytes i h = at_drop_all (format_end escaped i) bytes i h

pub unescaped-drop : (escaped : Bool) (bytes : List ℕ) (i d : ℕ) → i < length bytes → unescaped escaped (drop i bytes) ≡ unescaped escaped (get_or bytes i d ∷ drop (i + 1) bytes)
unescaped-drop escaped bytes i d h = at_drop_more (unescaped escaped) bytes i d h

pub unescaped-all : (escaped : Bool) (bytes : List ℕ) (i : ℕ) → length bytes ≤ i → unescaped escaped (drop i bytes) ≡ []
unescaped-all escaped bytes i h = at_drop_all (unescaped escaped) bytes i h

pub comment_end-drop : (bytes : List ℕ) (i d : ℕ) → i < length bytes → comment_end i (drop i bytes) ≡ cond (starts_with nat_eq (drop i bytes) (codes "*/")) (Some (i + 2)) (comment_end (i + 1) (drop (i + 1) bytes))
comment_end-drop bytes i d h =
    let more = drop_more bytes i d h in
    ap (comment_end i) more ∙ ap (λ bs. cond (starts_with nat_eq bs (codes "*/")) (Some (i + 2)) (comment_end (i + 1) (drop (i + 1) bytes))) (sym more)

pub comment_end-all : (bytes : List ℕ) (i : ℕ) → length bytes ≤ i → comment_end i (drop i bytes) ≡ None
comment_end-all bytes i h = at_drop_all (comment_end i) bytes i h

-- where nothing is skipped, nothing changes
pub only_gaps-stay : (turns : ℕ) (bytes : List ℕ) → unwrap_or (gap_at bytes) 0 ≡ 0 → only_gaps turns bytes ≡ (length bytes == 0)
only_gaps-stay zero bytes e = refl
only_gaps-stay (suc turns) bytes e = rw e (only_gaps-stay turns bytes e)

-- one turn
pub only_gaps-turn : (turns more : ℕ) (bytes : List ℕ) → more ≡ suc turns → only_gaps more bytes ≡ only_gaps turns (drop (unwrap_or (gap_at bytes) 0) bytes)
only_gaps-turn turns more bytes e = ap (λ n. only_gaps n bytes) e

-- a text that ends within a format
pub format_end-cut : (bytes : List ℕ) (i : ℕ) → i ≡ length bytes → format_end false i (drop i bytes) ≡ Err (BadToken (length bytes))
format_end-cut bytes i e = format_end-all false bytes i (omega arith) ∙ ap (λ n. Err (BadToken n)) e

pub format_end-cut_escape : (bytes : List ℕ) (i : ℕ) → i ≡ length bytes → format_end true i (drop i bytes) ≡ Err (BadToken (length bytes - 1))
format_end-cut_escape bytes i e = format_end-all true bytes i (omega arith) ∙ ap (λ n. Err (BadToken (n - 1))) e

pub comment_end-skip : (bytes : List ℕ) (i : ℕ) → i < length bytes → starts_with nat_eq (drop i bytes) (codes "*/") ≡ false → comment_end i (drop i bytes) ≡ comment_end (i + 1) (drop (i + 1) bytes)
comment_end-skip bytes i h e = comment_end-drop bytes i 0 h ∙ rw e refl

pub comment_end-here : (bytes : List ℕ) (i : ℕ) → i < length bytes → starts_with nat_eq (drop i bytes) (codes "*/") ≡ true → comment_end i (drop i bytes) ≡ Some (i + 2)
comment_end-here bytes i h e = comment_end-drop bytes i 0 h ∙ rw e refl

pub ruleset formats = (format_end-drop, format_end-cut, format_end-cut_escape)

pub ruleset escapes = (unescaped-drop, unescaped-all)

pub ruleset comments = (comment_end-skip, comment_end-here, comment_end-all)
