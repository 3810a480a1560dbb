-- The operators by example, at the ends of the type of numbers too.
use Rattle.std.specs.Prelude.{◌≡◌, ℤ, pos, negsuc, Bool, true, false}
use Rattle.cc_base.specs.declared.literal.Operator.{Operator}
use Rattle.cc_base.specs.declared.literal.Operator.TheVariants as operators
use Rattle.cc_base.specs.Literals.{NumberLiteral, TruthLiteral}
use Rattle.cc_device.specs.WorkedAnswers.{greatest, least}
use Rattle.cc_runs.specs.Machine.{result_of}

-- the operator gives the number
abbrev pub Gives : Operator → ℤ → ℤ → ℤ → Type 0
Gives operator left right number = result_of operator left right ≡ NumberLiteral number

-- the operator gives the truth value
abbrev pub Tells : Operator → ℤ → ℤ → Bool → Type 0
Tells operator left right truth = result_of operator left right ≡ TruthLiteral truth

-- -1; the number that is written negsuc n is -(n + 1)
abbrev pub minus_one : ℤ
minus_one = negsuc 0

-- -2
abbrev pub minus_two : ℤ
minus_two = negsuc 1

-- -4
abbrev pub minus_four : ℤ
minus_four = negsuc 3

-- sums, which wrap at both ends
abbrev pub SumsWrap : Type 0
SumsWrap =
    Gives operators.Add (pos 3) (pos 4) (pos 7)
    × Gives operators.Add minus_one (pos 1) (pos 0)
    × Gives operators.Add greatest (pos 1) least
    × Gives operators.Add least minus_one greatest

-- differences, of the left number less the right one, which wrap at both ends
abbrev pub DifferencesWrap : Type 0
DifferencesWrap =
    Gives operators.Sub (pos 7) (pos 3) (pos 4)
    × Gives operators.Sub (pos 3) (pos 7) minus_four
    × Gives operators.Sub least (pos 1) greatest
    × Gives operators.Sub greatest minus_one least

-- products, which wrap at both ends: 4294967296 is 2 to the 32nd
abbrev pub ProductsWrap : Type 0
ProductsWrap =
    Gives operators.Mul (pos 6) (pos 7) (pos 42)
    × Gives operators.Mul minus_two (pos 2) minus_four
    × Gives operators.Mul greatest (pos 2) minus_two
    × Gives operators.Mul least minus_one least
    × Gives operators.Mul least (pos 2) (pos 0)
    × Gives operators.Mul (pos 4294967296) (pos 4294967296) (pos 0)

-- whether the left number is less than the right one
abbrev pub ComparisonsTell : Type 0
ComparisonsTell =
    Tells operators.Less (pos 2) (pos 3) true
    × Tells operators.Less (pos 3) (pos 2) false
    × Tells operators.Less (pos 3) (pos 3) false
    × Tells operators.Less minus_one (pos 0) true
    × Tells operators.Less (pos 0) minus_one false
    × Tells operators.Less minus_four minus_one true
    × Tells operators.Less least greatest true
    × Tells operators.Less greatest least false

-- whether the two numbers are one
abbrev pub EqualityTells : Type 0
EqualityTells =
    Tells operators.Equal (pos 3) (pos 3) true
    × Tells operators.Equal (pos 3) (pos 4) false
    × Tells operators.Equal minus_four minus_four true
    × Tells operators.Equal minus_four (pos 4) false
    × Tells operators.Equal least least true
    × Tells operators.Equal least greatest false
