-- What waits where a shape is read by a loop. It serves the code alone.
use Rattle.std.specs.Prelude.{◌≡◌, ℕ, suc, ◌≤◌, List, reverse, drop, codes, Option, Some, None, Result, Ok, Err}
use Rattle.std.specs.Prelude.{if◌then◌else◌}
use Rattle.std.specs.Borrow.{Bor}
use Rattle.cc_core.specs.Shapes.{Shape, FunctionShape, TypeFunctionShape, BoxShape, ExitShape, CapturingType, capturing}
use Rattle.cc_core.specs.TermViews.{shape_of, type_of}
use Rattle.cc_core.specs.declared.types.Shape.{Shape as DeclaredShape}
use Rattle.cc_capture.specs.Sets.{empty}
use Rattle.cc_words.specs.Words.{after_prefix}
use Rattle.cc_print.specs.TypeTexts.{is_arrow}
use Rattle.cc_certificate_text.specs.Reading.{Locals, Found, Got, Wrong, Reader, ◌>>=◌, where_true, exact_at, same_number_at}
use Rattle.cc_certificate_text.specs.Reading.{some_set_at}
use Rattle.cc_certificate_text.specs.Reading.{captured_at, shape_at, type_over}
use Rattle.cc_certificate_reading.specs.Waiting.{resumed, Leads}
use Rattle.cc_certificate_reading.specs.declared.stop.Stop.{Stop}
use Rattle.cc_certificate_reading.specs.declared.stop.Stop.TheVariants as stops
use Rattle.cc_certificate_reading.specs.declared.types.TypeForm.{TypeForm}
use Rattle.cc_certificate_reading.specs.declared.types.TypeForm.TheVariants as forms
use Rattle.cc_certificate_reading.specs.declared.types.Beginning.{Beginning}
use Rattle.cc_certificate_reading.specs.declared.types.Beginning.TheVariants as beginnings
use Rattle.cc_certificate_reading.specs.declared.types.Waiting.{Waiting}
use Rattle.cc_certificate_reading.specs.declared.types.Waiting.TheVariants as waits

-- how the type is written that begins with such a text, and where its shape begins
abbrev pub type_start_by : Option (List ℕ) → Option (List ℕ) → List ℕ → TypeForm × List ℕ
type_start_by (Some rest) type_function bytes = (forms.Enclosed, drop 1 bytes)
type_start_by None (Some rest) bytes = (forms.Enclosed, drop 1 bytes)
type_start_by None None bytes = (forms.Plain, bytes)

unfoldable pub type_start : List ℕ → TypeForm × List ℕ
type_start bytes = type_start_by (after_prefix bytes (codes "((")) (after_prefix bytes (codes "([")) bytes

-- the type of the shape, from behind the shape on
abbrev pub type_behind : Locals → List (List ℕ) → TypeForm → ℕ → Shape → Reader CapturingType
type_behind locals names forms.Enclosed depth shape bytes =
    where_true (is_arrow shape) (exact_at (codes ")^{") bytes) >>= λ close rest.
    some_set_at locals names depth rest >>= λ set behind. Got (capturing shape set) behind
type_behind locals names forms.Plain depth shape bytes =
    if is_arrow shape then Got (capturing shape empty) bytes else captured_at locals names depth shape bytes

-- a function up to the shape of what it takes, behind `(_`: how the type of that is written
unfoldable pub parameter_start_at : ℕ → Reader TypeForm
parameter_start_at depth bytes =
    same_number_at depth bytes >>= λ number behind. exact_at (codes ": ") behind >>= λ colon rest.
    Got (type_start rest).0 (type_start rest).1

-- a type function up to its bound, behind `[_T`
unfoldable pub bound_start_at : ℕ → Reader (Unit {0})
bound_start_at depth bytes = same_number_at depth bytes >>= λ number behind. exact_at (codes " <: ") behind

-- what functions take, where its shape was read, up to the shape of what they give: how the type of that is written
unfoldable pub result_start_at : Locals → List (List ℕ) → TypeForm → ℕ → Shape → Reader (CapturingType × TypeForm)
result_start_at locals names form depth shape bytes =
    type_behind locals names form depth shape bytes >>= λ takes behind. exact_at (codes ") -> ") behind >>= λ arrow rest.
    Got (takes, (type_start rest).0) (type_start rest).1

-- what stands behind the bound of type functions, up to the shape of what they give
unfoldable pub bounded_start_at : Reader TypeForm
bounded_start_at bytes =
    exact_at (codes "] -> ") bytes >>= λ arrow rest. Got (type_start rest).0 (type_start rest).1

-- the shape that waits, from behind the shape on for which it waits
abbrev pub around : Locals → List (List ℕ) → Waiting → Shape → Reader Shape
around locals names (waits.Takes form room depth) shape bytes =
    type_behind locals names form depth shape bytes >>= λ takes behind. exact_at (codes ") -> ") behind >>= λ arrow rest.
    type_over locals names (shape_at locals names room (suc depth)) (suc depth) rest >>= λ gives end.
    Got (FunctionShape takes.shape takes.set gives.shape gives.set) end
around locals names (waits.Gives form depth takes) shape bytes =
    type_behind locals names form depth shape bytes >>= λ gives end.
    Got (FunctionShape (type_of takes.value).shape (type_of takes.value).set gives.shape gives.set) end
around locals names (waits.Bounds room depth) bound bytes =
    exact_at (codes "] -> ") bytes >>= λ arrow rest.
    type_over locals names (shape_at locals names room (suc depth)) (suc depth) rest >>= λ gives end.
    Got (TypeFunctionShape bound gives.shape gives.set) end
around locals names (waits.Results form depth bound) shape bytes =
    type_behind locals names form depth shape bytes >>= λ gives end.
    Got (TypeFunctionShape (shape_of bound.value) gives.shape gives.set) end
around locals names (waits.Contents form depth) shape bytes =
    type_behind locals names form depth shape bytes >>= λ content behind. exact_at (codes "]") behind >>= λ close end.
    Got (BoxShape content.shape content.set) end
around locals names waits.Exits gives bytes = exact_at (codes "]") bytes >>= λ close end. Got (ExitShape gives) end

-- it stands under few enough binders for those that it still reads
abbrev pub IsLow : Waiting → Type 0
IsLow (waits.Takes form room depth) = depth ≤ 4294967295
IsLow (waits.Gives form depth takes) = depth ≤ 4294967296
IsLow (waits.Bounds room depth) = depth ≤ 4294967295
IsLow (waits.Results form depth bound) = depth ≤ 4294967296
IsLow (waits.Contents form depth) = depth ≤ 4294967296
IsLow waits.Exits = Unit {0}

-- what waits, the innermost first; the program has it last
abbrev pub in_turn : List Waiting → List Waiting
in_turn waiting = reverse waiting

-- What is found is this shape, or what the one makes of it that waits for the shape which comes next; or nothing is found.
abbrev pub Begins : Locals → List (List ℕ) → ℕ → ℕ → Found Shape → Result (Beginning × Bor (List ℕ)) Stop → Type 0
Begins locals names room depth found (Ok (beginnings.Whole shape, rest)) = found ≡ Got (shape_of shape) rest.now
Begins locals names room depth found (Ok (beginnings.Waits next, rest)) =
    (found ≡ (shape_at locals names room depth rest.now >>= around locals names next)) × IsLow next
Begins locals names room depth found (Err stops.Misfit) = found ≡ Wrong
Begins locals names room depth found (Err stops.NoMemory) = Unit {0}

-- In the place of what was to be found this shape was read, and the whole stays; or nothing is found for the whole.
abbrev pub Resumes : Locals → List (List ℕ) → List Waiting → Found Shape → List Waiting → Result (DeclaredShape × Bor (List ℕ)) Stop → Type 0
Resumes locals names old found new (Ok read) =
    Leads (around locals names) IsLow old found new (Got (shape_of read.0) read.1.now)
Resumes locals names old found new (Err stops.Misfit) = resumed (around locals names) old found ≡ Wrong
Resumes locals names old found new (Err stops.NoMemory) = Unit {0}
