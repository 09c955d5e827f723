-- Marks and words are told apart.
use denote.Enum.Bare.{same_true, true_same}
use Rattle.std.proofs.Common.{rules, ◌≡◌, refl, sym, ap, ◌∙◌, Bool, true, false}
use Rattle.sc_tree.specs.declared.token.TokenKind.{TokenKind}
use Rattle.sc_tree.specs.declared.token.TokenKind.TheVariants.{Number, Name, Format, Word, Mark}
use Rattle.sc_tree.specs.declared.token.Mark.{Mark as TheMark}
use Rattle.sc_tree.specs.contracts.token.Mark.{the_type as mark_type}
use Rattle.sc_tree.specs.declared.token.Word.{Word as TheWord}
use Rattle.sc_tree.specs.contracts.token.Word.{the_type as word_type}
use Rattle.sc_tree.specs.contracts.token.MarkPartialEq.TheImpl.{ghosts as marks}
use Rattle.sc_tree.specs.contracts.token.WordPartialEq.TheImpl.{ghosts as words}
use Rattle.sc_grammar.proofs.Reading.{is_mark, is_word}

mark-is : (m k : TheMark) → marks.eq m k ≡ true → m ≡ k
mark-is m k h = same_true mark_type (search rules) m k h

word-is : (w k : TheWord) → words.eq w k ≡ true → w ≡ k
word-is w k h = same_true word_type (search rules) w k h

pub is_mark-same : (m : TheMark) → is_mark m (Mark m) ≡ true
is_mark-same m = true_same mark_type m m refl

pub is_mark-is : (m : TheMark) (k : TokenKind) → is_mark m k ≡ true → k ≡ Mark m
is_mark-is m (Mark found) h = ap (λ x. Mark x) (mark-is found m h)
is_mark-is m (Number n) h = cc
is_mark-is m (Name n) h = cc
is_mark-is m (Format n) h = cc
is_mark-is m (Word n) h = cc

pub is_word-same : (w : TheWord) → is_word w (Word w) ≡ true
is_word-same w = true_same word_type w w refl

pub is_word-is : (w : TheWord) (k : TokenKind) → is_word w k ≡ true → k ≡ Word w
is_word-is w (Word found) h = ap (λ x. Word x) (word-is found w h)
is_word-is w (Number n) h = cc
is_word-is w (Name n) h = cc
is_word-is w (Format n) h = cc
is_word-is w (Mark n) h = cc

pub not_true : (b : Bool) → (b ≡ true → ⊥) → b ≡ false
not_true true h = absurd (h refl)
not_true false h = refl

-- what is so is no mark that is not so
pub apart-mark : (p : TokenKind → Bool) (m : TheMark) → p (Mark m) ≡ false → (k : TokenKind) → p k ≡ true → is_mark m k ≡ false
apart-mark p m h k e = not_true (is_mark m k) (λ i. let z : false ≡ true = sym h ∙ ap p (sym (is_mark-is m k i)) ∙ e in cc)

pub apart-word : (p : TokenKind → Bool) (w : TheWord) → p (Word w) ≡ false → (k : TokenKind) → p k ≡ true → is_word w k ≡ false
apart-word p w h k e = not_true (is_word w k) (λ i. let z : false ≡ true = sym h ∙ ap p (sym (is_word-is w k i)) ∙ e in cc)
