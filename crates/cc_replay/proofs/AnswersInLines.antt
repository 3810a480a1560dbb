-- The answers that lines tell of.
use Rattle.std.proofs.Common.{◌≡◌, ℕ, true, List, ◌++◌, Option, Some, None, option_map, refl, sym, ap, ◌∙◌, subst}
use Rattle.std.specs.Prelude.{ℤ, IsTrue}
use Rattle.std.specs.Option.{option_and_then}
use Rattle.std.specs.Fmt.{signed_decimal}
use Rattle.cc_base.specs.Literals.{Literal, UnitLiteral, TruthLiteral, NumberLiteral, TextLiteral}
use Rattle.cc_base.specs.declared.literal.Base.TheVariants as bases
use Rattle.cc_base.specs.declared.literal.Op.{Op}
use Rattle.cc_base.specs.declared.literal.Op.TheVariants as operations
use Rattle.cc_core.specs.Typing.{base_of, base_taken}
use Rattle.cc_device.specs.Events.{Operated, literal_shown}
use Rattle.cc_runs.specs.Machine.{is_taken}
use Rattle.cc_replay.specs.AnsweredRuns.{fits_64_bits, IsAnswerOf}
use Rattle.cc_replay.specs.Replays.{answer_in}
use Rattle.cc_replay.specs.RunTexts.{operated_text, event_text}
use Rattle.cc_words.specs.Lines.{Line}
use Rattle.cc_words.specs.Words.{after_prefix, has_64_bits, signed_of}
use Rattle.cc_words.proofs.Numbers.{signed_of_gives, signed_of-decimal}
use Rattle.cc_words.proofs.Steps.{after_prefix-append}

-- a literal that is a number of 64 bits
abbrev IsNumber : Literal → Type 0
IsNumber answer = (base_of answer ≡ bases.Int) × IsTrue (fits_64_bits answer)

number_given : (digits : List ℕ) (r : Option ℤ) (answer : Literal) → signed_of digits ≡ r → option_map (λ n. NumberLiteral n) r ≡ Some answer → IsNumber answer
number_given digits None answer is e = cc
number_given digits (Some n) answer is e =
    let same : NumberLiteral n ≡ answer = cc in subst IsNumber same (refl, (signed_of_gives digits n is).0)

number_found : (o : Option (List ℕ)) (answer : Literal) → option_map (λ n. NumberLiteral n) (option_and_then signed_of o) ≡ Some answer → IsNumber answer
number_found None answer e = cc
number_found (Some digits) answer e = number_given digits (signed_of digits) answer refl e

unit_found : (answer : Literal) → Some UnitLiteral ≡ Some answer → (base_of answer ≡ bases.Unit) × IsTrue (fits_64_bits answer)
unit_found answer e =
    let same : UnitLiteral ≡ answer = cc in subst (λ l. (base_of l ≡ bases.Unit) × IsTrue (fits_64_bits l)) same (refl, refl)

-- what is read is an answer of the operation
pub answer_fits : (names : List (List ℕ)) (n : ℕ) (op : Op) (line : Line) (answer : Literal) → answer_in names n op line ≡ Some answer → IsAnswerOf op answer
answer_fits names n operations.Print line answer e = unit_found answer e
answer_fits names n operations.Say line answer e = unit_found answer e
answer_fits names n operations.Read line answer e = number_found (after_prefix line (operated_text names n operations.Read)) answer e
answer_fits names n operations.Write line answer e = unit_found answer e
answer_fits names n operations.Tick line answer e = number_found (after_prefix line (operated_text names n operations.Tick)) answer e

unit_only : (answer : Literal) → base_of answer ≡ bases.Unit → Some UnitLiteral ≡ Some answer
unit_only UnitLiteral is = refl
unit_only (TruthLiteral b) is = cc
unit_only (NumberLiteral z) is = cc
unit_only (TextLiteral t) is = cc

-- the number is read back behind any front
number_back : (front : List ℕ) (z : ℤ) → IsTrue (has_64_bits z)
    → option_map (λ n. NumberLiteral n) (option_and_then signed_of (after_prefix (front ++ signed_decimal z) front)) ≡ Some (NumberLiteral z)
number_back front z fits =
    ap (λ o. option_map (λ n. NumberLiteral n) (option_and_then signed_of o)) (after_prefix-append front (signed_decimal z))
    ∙ ap (option_map (λ n. NumberLiteral n)) (signed_of-decimal z fits)

reading_back : (names : List (List ℕ)) (n : ℕ) (argument : Option Literal) (answer : Literal) → base_of answer ≡ bases.Int → IsTrue (fits_64_bits answer) → is_taken None argument ≡ true
    → answer_in names n operations.Read (event_text names (Operated n operations.Read (literal_shown argument answer))) ≡ Some answer
reading_back names n (Some a) answer of_kind fits taken = cc
reading_back names n None UnitLiteral of_kind fits taken = cc
reading_back names n None (TruthLiteral b) of_kind fits taken = cc
reading_back names n None (NumberLiteral z) of_kind fits taken = number_back (operated_text names n operations.Read) z fits
reading_back names n None (TextLiteral t) of_kind fits taken = cc

tick_back : (names : List (List ℕ)) (n : ℕ) (argument : Option Literal) (answer : Literal) → base_of answer ≡ bases.Int → IsTrue (fits_64_bits answer) → is_taken None argument ≡ true
    → answer_in names n operations.Tick (event_text names (Operated n operations.Tick (literal_shown argument answer))) ≡ Some answer
tick_back names n (Some a) answer of_kind fits taken = cc
tick_back names n None UnitLiteral of_kind fits taken = cc
tick_back names n None (TruthLiteral b) of_kind fits taken = cc
tick_back names n None (NumberLiteral z) of_kind fits taken = number_back (operated_text names n operations.Tick) z fits
tick_back names n None (TextLiteral t) of_kind fits taken = cc

-- an answer is read back from the text of its event
pub answer_back : (names : List (List ℕ)) (n : ℕ) (op : Op) (argument : Option Literal) (answer : Literal) → IsAnswerOf op answer → is_taken (base_taken op) argument ≡ true
    → answer_in names n op (event_text names (Operated n op (literal_shown argument answer))) ≡ Some answer
answer_back names n operations.Print argument answer is taken = unit_only answer is.0
answer_back names n operations.Say argument answer is taken = unit_only answer is.0
answer_back names n operations.Read argument answer is taken = reading_back names n argument answer is.0 is.1 taken
answer_back names n operations.Write argument answer is taken = unit_only answer is.0
answer_back names n operations.Tick argument answer is taken = tick_back names n argument answer is.0 is.1 taken
