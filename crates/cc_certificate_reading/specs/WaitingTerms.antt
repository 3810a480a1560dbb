-- What waits where a term is read by a loop. It serves the code alone.
use Rattle.std.specs.Prelude.{◌≡◌, ℕ, suc, ◌≤◌, nat_lt, List, reverse, codes, Result, Ok, Err}
use Rattle.std.specs.Borrow.{Bor}
use Rattle.cc_capture.specs.declared.var.Var.{Var}
use Rattle.cc_core.specs.Shapes.{Shape, CapturingType}
use Rattle.cc_core.specs.Terms.{Note, Written, Term, FunctionTerm, TypeFunctionTerm, Let, Conditional, Boundary}
use Rattle.cc_core.specs.TermViews.{shape_of, type_of, note_of, term_of}
use Rattle.cc_core.specs.Places.{places_of}
use Rattle.cc_core.specs.declared.terms.Node.{Node}
use Rattle.cc_certificate_text.specs.Reading.{Counted, Found, Got, Wrong, Reader, ◌>>=◌, where_true, exact_at}
use Rattle.cc_certificate_text.specs.Reading.{same_number_at, shape_at, type_over, variable_at, note_at, term_at}
use Rattle.cc_certificate_reading.specs.FirstPlaces.{AreFirst}
use Rattle.cc_certificate_reading.specs.Waiting.{resumed, Leads}
use Rattle.cc_certificate_reading.specs.declared.stop.Stop.{Stop}
use Rattle.cc_certificate_reading.specs.declared.stop.Stop.TheVariants as stops
use Rattle.cc_certificate_reading.specs.declared.terms.Waiting.{Waiting}
use Rattle.cc_certificate_reading.specs.declared.terms.Waiting.TheVariants as waits
use Rattle.cc_certificate_reading.specs.declared.terms.Beginning.{Beginning}
use Rattle.cc_certificate_reading.specs.declared.terms.Beginning.TheVariants as beginnings

-- a function up to its body, behind `fun (_`: the type of its parameter
unfoldable pub function_start_at : List (List ℕ) → ℕ → ℕ → Reader CapturingType
function_start_at names room depth bytes =
    same_number_at depth bytes >>= λ number behind. exact_at (codes ": ") behind >>= λ colon rest.
    type_over Counted names (shape_at Counted names room depth) depth rest >>= λ takes end.
    exact_at (codes ") => ") end >>= λ arrow start. Got takes start

-- a type function up to its body, behind `fun [_T`: its bound
unfoldable pub type_function_start_at : List (List ℕ) → ℕ → ℕ → Reader Shape
type_function_start_at names room depth bytes =
    same_number_at depth bytes >>= λ number behind. exact_at (codes " <: ") behind >>= λ below rest.
    shape_at Counted names room depth rest >>= λ bound end. exact_at (codes "] => ") end >>= λ arrow start.
    Got bound start

-- a let up to its right side, behind `let _`: what is written for the type of its variable
unfoldable pub let_start_at : List (List ℕ) → ℕ → ℕ → Reader Note
let_start_at names room depth bytes =
    same_number_at depth bytes >>= λ number behind. note_at names (shape_at Counted names room) depth behind >>= λ note end.
    exact_at (codes " = ") end >>= λ equals start. Got note start

-- a choice up to its first branch, behind `if [`: the type that is written, and what is tested
unfoldable pub choice_start_at : List (List ℕ) → ℕ → ℕ → Reader (CapturingType × Var)
choice_start_at names room depth bytes =
    type_over Counted names (shape_at Counted names room depth) depth bytes >>= λ type behind.
    exact_at (codes "] ") behind >>= λ close rest.
    where_true (nat_lt 0 room) (variable_at names depth rest) >>= λ test end.
    exact_at (codes " then ") end >>= λ word start. Got (type, test) start

-- a boundary up to its body, behind `boundary [`: the shape that it gives
unfoldable pub boundary_start_at : List (List ℕ) → ℕ → ℕ → Reader Shape
boundary_start_at names room depth bytes =
    shape_at Counted names room depth bytes >>= λ gives behind. exact_at (codes "] _") behind >>= λ close rest.
    same_number_at depth rest >>= λ number end. exact_at (codes " => ") end >>= λ arrow start. Got gives start

-- the term that waits, from behind the term on for which it waits
abbrev pub around : List (List ℕ) → Waiting → Term → Reader Term
around names (waits.Functions takes) body end =
    Got (FunctionTerm (type_of takes.value).shape (type_of takes.value).set body) end
around names (waits.TypeFunctions bound) body end = Got (TypeFunctionTerm (shape_of bound.value) body) end
around names (waits.Rights note room depth) right bytes =
    exact_at (codes " in ") bytes >>= λ word rest. term_at names room (suc depth) rest >>= λ body end.
    Got (Let (note_of note) right body) end
around names (waits.Bodies note right) body end = Got (Let (note_of note) (term_of right.value) body) end
around names (waits.Positives type test room depth) positive bytes =
    exact_at (codes " else ") bytes >>= λ word rest. term_at names room depth rest >>= λ negative end.
    Got (Conditional (Written (type_of type.value).shape (type_of type.value).set) test positive negative) end
around names (waits.Negatives type test positive) negative end =
    Got (Conditional (Written (type_of type.value).shape (type_of type.value).set) test (term_of positive.value) negative) end
around names (waits.Boundaries gives) body end = Got (Boundary (shape_of gives.value) body) end

-- it stands under few enough binders for the term that it still reads, and the places of the one that it has are first
abbrev pub IsFit : Waiting → Type 0
IsFit (waits.Functions takes) = Unit {0}
IsFit (waits.TypeFunctions bound) = Unit {0}
IsFit (waits.Rights note room depth) = depth ≤ 4294967295
IsFit (waits.Bodies note right) = AreFirst (places_of right.value)
IsFit (waits.Positives type test room depth) = depth ≤ 4294967296
IsFit (waits.Negatives type test positive) = AreFirst (places_of positive.value)
IsFit (waits.Boundaries gives) = Unit {0}

-- what waits, the innermost first; the program has it last
abbrev pub in_turn : List Waiting → List Waiting
in_turn waiting = reverse waiting

-- What is found is this term, or what the one makes of it that waits for the term which comes next, under so many binders;
-- or nothing is found.
abbrev pub Begins : List (List ℕ) → ℕ → Found Term → Result (Beginning × Bor (List ℕ)) Stop → Type 0
Begins names room found (Ok (beginnings.Whole term, rest)) =
    (found ≡ Got (term_of term) rest.now) × AreFirst (places_of term)
Begins names room found (Ok (beginnings.Waits next depth, rest)) =
    (found ≡ (term_at names room depth rest.now >>= around names next)) × IsFit next × (depth ≤ 4294967296)
Begins names room found (Err stops.Misfit) = found ≡ Wrong
Begins names room found (Err stops.NoMemory) = Unit {0}

-- In the place of what was to be found this term was read, with first places alone, and the whole stays; or nothing is
-- found for the whole.
abbrev pub Resumes : List (List ℕ) → List Waiting → Found Term → List Waiting → Result (Node × Bor (List ℕ)) Stop → Type 0
Resumes names old found new (Ok read) =
    Leads (around names) IsFit old found new (Got (term_of read.0) read.1.now) × AreFirst (places_of read.0)
Resumes names old found new (Err stops.Misfit) = resumed (around names) old found ≡ Wrong
Resumes names old found new (Err stops.NoMemory) = Unit {0}
