-- Words that are texts, and words that are not UTF-8.
use Rattle.std.proofs.Common.{◌≡◌, ℕ, Bool, true, false, ◌&&◌, List, Option, None, length, refl}
use Rattle.std.specs.Prelude.{nat_le}
use Rattle.std.specs.List.{list_all}
use Rattle.std.specs.Str.{chars, is_utf8, IsUtf8}
use Rattle.std.proofs.lemmas.Str.{IsUtf8-from_is_utf8, is_utf8-from_IsUtf8}
use Rattle.cc_base.specs.Literals.{Literal, TextLiteral}
use Rattle.cc_lex.specs.Forms.{stands_in_string}
use Rattle.cc_certificate_text.specs.Reading.{literal_where, text_of}

false_unless : (b : Bool) → (b ≡ true → ⊥) → b ≡ false
false_unless true h = absurd (h refl)
false_unless false h = refl

pub text_of-none : (word : List ℕ) → (IsUtf8 word → ⊥) → ◌≡◌ {A = Option Literal} None (text_of word)
unfolding text_of
text_of-none word none =
    let no = false_unless (is_utf8 word) (λ h. none (IsUtf8-from_is_utf8 word h)) in rw no refl

pub text_of-utf8 : (word text : List ℕ) → text ≡ word → IsUtf8 word
    → literal_where (list_all stands_in_string (chars text) && nat_le (length (chars text)) 200) (TextLiteral (chars text)) ≡ text_of word
unfolding text_of
text_of-utf8 word text same utf8 = rw (same, is_utf8-from_IsUtf8 word utf8) refl
