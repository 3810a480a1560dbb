-- What `parse` reads of digits.
use Rattle.std.proofs.Common.{◌≡◌, ℕ, zero, suc, ◌^◌, ◌<◌, ◌≤◌, true, false, cond, nat_le, List, [], ◌∷◌, length, ℤ, pos, refl, sym, ◌∙◌, arith, Result, Ok, Err, Some, None}
use Rattle.std.specs.Str.{chars, IsUtf8, IsAscii, all_ascii_digits}
use Rattle.std.specs.Str.Parse.{ParsesSigned, digits_value}
use Rattle.std.specs.Char.{is_ascii_digit}
use Rattle.std.specs.List.{list_all}
use Rattle.std.specs.Result.{result_ok, OkIff}
use Rattle.std.proofs.lemmas.Bool.Decides.{nat_tests}
use Rattle.std.proofs.lemmas.Str.{encodes-IsAscii, encodes-chars}
use Rattle.std.proofs.lemmas.Str.Parse.{IsNumeralModel, numerals_by_value, tells_all_ascii_digits, parse_signed_digits}
use Rattle.cc_base.specs.Names.{first_passes}
use Rattle.cc_lex.specs.Forms.{IsDigits, greatest_number}
use Rattle.cc_lex.specs.Cutting.{number_of}
use Rattle.cc_lex.proofs.Booleans.{both}
use mir.Syntax.{w64}

digit-below : (c : ℕ) → is_ascii_digit c ≡ true → c < 128
digit-below c h = grind (arith, nat_tests)

IsAscii-digits : (cs : List ℕ) → list_all is_ascii_digit cs ≡ true → IsAscii cs
IsAscii-digits [] h zero = omega arith
IsAscii-digits [] h (suc i) = omega arith
IsAscii-digits (c ∷ cs) h zero = digit-below c (both (is_ascii_digit c) (list_all is_ascii_digit cs) h).0
IsAscii-digits (c ∷ cs) h (suc i) = IsAscii-digits cs (both (is_ascii_digit c) (list_all is_ascii_digit cs) h).1 i

-- digits are their own bytes
chars-digits : (bs : List ℕ) → IsUtf8 bs → list_all is_ascii_digit (chars bs) ≡ true → bs ≡ chars bs
chars-digits bs u h = sym (encodes-chars bs u) ∙ encodes-IsAscii (chars bs) (IsAscii-digits (chars bs) h)

all_digits : (cs : List ℕ) → list_all is_ascii_digit cs ≡ true → all_ascii_digits cs ≡ true
all_digits [] h = refl
all_digits (c ∷ cs) h =
    let each = both (is_ascii_digit c) (list_all is_ascii_digit cs) h in
    let rest = all_digits cs each.1 in
    cc

some_digit : (cs : List ℕ) → first_passes is_ascii_digit cs ≡ true → 0 < length cs
some_digit [] h = cc
some_digit (c ∷ cs) h = omega arith

own : IsNumeralModel (λ ds. all_ascii_digits ds ≡ true) (digits_value 10)
own = numerals_by_value _ tells_all_ascii_digits

within : (v n : ℕ) → v ≤ n → nat_le v n ≡ true
within v n h = grind (arith, nat_tests)

beyond : (v n : ℕ) → (v ≤ n → ⊥) → nat_le v n ≡ false
beyond v n h = grind (arith, nat_tests)

parsed : {E : Type 0} (v : ℕ) (n : ℕ) (r : Result ℤ E) → 0 < n → OkIff r ((0 < n) × (v < 2 ^ 63)) (pos v) → result_ok r ≡ cond (nat_le v greatest_number) (Some (pos v)) None
parsed v n (Ok x) l h =
    let small : nat_le v greatest_number ≡ true = within v greatest_number (omega arith) in
    let same = h.1 in
    rw (small, same) refl
parsed v n (Err e) l h =
    let large : nat_le v greatest_number ≡ false = beyond v greatest_number (λ k. h (l, omega arith)) in
    rw large refl

-- digits are parsed as their number, where it is not too great
pub number_of-parsed : {E : Type 0} (bs : List ℕ) (r : Result ℤ E) → IsUtf8 bs → IsDigits (chars bs) → ParsesSigned w64 10 bs r → result_ok r ≡ number_of (chars bs)
unfolding number_of
number_of-parsed bs r u h p =
    let same = chars-digits bs u h.1 in
    let digits : all_ascii_digits bs ≡ true = rw same (all_digits (chars bs) h.1) in
    let some : 0 < length bs = rw same (some_digit (chars bs) h.0) in
    rw (← same) (parsed (digits_value 10 bs) (length bs) r some (parse_signed_digits own w64 bs r p digits))
