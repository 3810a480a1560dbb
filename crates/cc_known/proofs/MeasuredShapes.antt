-- Shapes of which it is known that so many steps from them there is one that names no position from one on.
use Rattle.std.proofs.Common.{◌≡◌, ℕ, ◌≤◌, Bool, true, false, ◌||◌, None, subst, ◌∙◌}
use Rattle.cc_core.specs.Shapes.{Shape, FunctionShape, TypeFunctionShape}
use Rattle.cc_core.specs.Shapes.{CapturingType}
use Rattle.cc_core.specs.Occurrences.{Meets, MeetsInType, without}
use Rattle.cc_core.specs.Questions.{Question, occurs, occurs_in_type}
use Rattle.cc_core.proofs.OccurrenceTests.{decided, decided_type, position-decides}
use Rattle.cc_checking.specs.Avoidance.{is_free_in}
use Rattle.cc_avoid.proofs.FreePositions.{is_free}
use Rattle.cc_known.specs.Measures.{position_question}
use Rattle.cc_known.specs.Signatures.{greatest_in, IsGreatest}
use Rattle.cc_known.proofs.GreatestPositions.{shape_greatest}

neither : (a b : Bool) → a ≡ false → b ≡ false → (a || b) ≡ false
neither true b e f = cc
neither false b e f = f

-- what occurs neither in what a function takes nor in what it gives does not occur
pub clear_function : (q : Question) (takes gives : CapturingType) → occurs_in_type q takes ≡ false
    → occurs_in_type q gives ≡ false
    → occurs q (FunctionShape takes.shape takes.set gives.shape gives.set) ≡ false
clear_function q takes gives first second =
    neither (occurs_in_type q takes) (occurs_in_type q gives) first second

-- the same of type functions
pub clear_type_function : (q : Question) (bound : Shape) (gives : CapturingType) → occurs q bound ≡ false
    → occurs_in_type q gives ≡ false → occurs q (TypeFunctionShape bound gives.shape gives.set) ≡ false
clear_type_function q bound gives first second = neither (occurs q bound) (occurs_in_type q gives) first second

-- the test of types says what the fact does
pub clear_type : (p : ℕ) (t : CapturingType) → MeetsInType (without p) 0 t
    → occurs_in_type (position_question p) t ≡ false
clear_type p t meets = (decided_type (position_question p) (without p) (position-decides p) 0 t).1 meets

pub clear_shape : (p : ℕ) (s : Shape) → Meets (without p) 0 s → occurs (position_question p) s ≡ false
clear_shape p s meets = (decided (position_question p) (without p) (position-decides p) 0 s).1 meets

pub meets_shape : (p : ℕ) (s : Shape) → occurs (position_question p) s ≡ false → Meets (without p) 0 s
meets_shape p s test = (decided (position_question p) (without p) (position-decides p) 0 s).0 test

pub meets_type : (p : ℕ) (t : CapturingType) → occurs_in_type (position_question p) t ≡ false
    → MeetsInType (without p) 0 t
meets_type p t test = (decided_type (position_question p) (without p) (position-decides p) 0 t).0 test

-- a shape that names no position from one on does not name a later one
pub clear_from : (first position : ℕ) (s : Shape) → first ≤ position → greatest_in first s ≡ None
    → occurs (position_question position) s ≡ false
clear_from first position s from none =
    let free : is_free_in position s ≡ false =
    subst (λ o. IsGreatest first (λ q. is_free_in q s) o) none (shape_greatest first s) position from in
    is_free (occurs (position_question position) s) position s
    (decided (position_question position) (without position) (position-decides position) 0 s)
    ∙ free
