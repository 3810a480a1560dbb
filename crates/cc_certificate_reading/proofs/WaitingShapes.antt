-- Shapes that are read by a loop over what waits are those of the definition.
use Rattle.std.proofs.Common.{◌≡◌, ℕ, suc, ◌≤◌, List, [], ◌∷◌, ◌++◌, drop, codes, Option, Some, None, Bor, Global, Result, Ok, Err, refl, sym, ap, ◌∙◌, subst}
use Rattle.cc_core.specs.Shapes.{Shape, FunctionShape, TypeFunctionShape, BoxShape, CapturingType}
use Rattle.cc_core.specs.TermViews.{shape_of, type_of}
use Rattle.std.specs.declared.rc.Rc.{Rc}
use Rattle.cc_core.specs.declared.types.Shape.{Shape as DeclaredShape}
use Rattle.cc_core.specs.declared.types.Ty.{Ty}
use Rattle.cc_words.specs.Words.{after_prefix}
use Rattle.cc_certificate_text.specs.Reading.{Locals, Found, Got, Reader, ◌>>=◌, begun, exact_at, same_number_at, Readers, Exact, Binder, Part, Under, ShapePart, TypePart, pieces_at}
use Rattle.cc_certificate_text.specs.Reading.{FunctionRule, TypeFunctionRule, BoxRule, ExitRule, shape_tree, shape_rule_at, leaf_at, shape_over, shape_parts, shape_at, type_over, arrow_type_at, plain_type_at}
use Rattle.cc_certificate_reading.specs.Agreement.{Agrees}
use Rattle.cc_certificate_reading.specs.Waiting.{resumed, Leads}
use Rattle.cc_certificate_reading.specs.WaitingShapes.{type_start_by, type_start, type_behind, parameter_start_at, bound_start_at, result_start_at, bounded_start_at, around, IsLow, in_turn, Begins, Resumes}
use Rattle.cc_certificate_reading.specs.declared.stop.Stop.{Stop}
use Rattle.cc_certificate_reading.specs.declared.stop.Stop.TheVariants as stops
use Rattle.cc_certificate_reading.specs.declared.types.TypeForm.{TypeForm}
use Rattle.cc_certificate_reading.specs.declared.types.Waiting.{Waiting}
use Rattle.cc_certificate_reading.specs.declared.types.Waiting.TheVariants as waits
use Rattle.cc_certificate_reading.proofs.Waiting.{bind-bind, bind-alike, first_piece, reverse-pushed, resumed-wrong, leads_nowhere, leads_to, leads_on, leads_in, leads_wrong}

-- TYPES

started : (locals : Locals) (names : List (List ℕ)) (shapes : Reader Shape) (depth : ℕ) (bytes : List ℕ) (function type_function : Option (List ℕ))
    → begun function (λ rest. arrow_type_at locals names shapes depth (drop 1 bytes))
    (begun type_function (λ rest. arrow_type_at locals names shapes depth (drop 1 bytes)) (plain_type_at locals names shapes depth bytes))
    ≡ (shapes (type_start_by function type_function bytes).1 >>= type_behind locals names (type_start_by function type_function bytes).0 depth)
unfolding begun arrow_type_at plain_type_at
started locals names shapes depth bytes (Some rest) type_function = refl
started locals names shapes depth bytes None (Some rest) = refl
started locals names shapes depth bytes None None = refl

-- the shape of a type is read first
pub type_over-started : (locals : Locals) (names : List (List ℕ)) (shapes : Reader Shape) (depth : ℕ) (bytes : List ℕ)
    → type_over locals names shapes depth bytes
    ≡ (shapes (type_start bytes).1 >>= type_behind locals names (type_start bytes).0 depth)
unfolding type_over type_start
type_over-started locals names shapes depth bytes =
    started locals names shapes depth bytes (after_prefix bytes (codes "((")) (after_prefix bytes (codes "(["))

-- and then what is read behind the type
type_over-then : {A : Type 0} (locals : Locals) (names : List (List ℕ)) (shapes : Reader Shape) (depth : ℕ) (k : CapturingType → List ℕ → Found A) (bytes : List ℕ)
    → (type_over locals names shapes depth bytes >>= k)
    ≡ (shapes (type_start bytes).1 >>= λ shape rest. type_behind locals names (type_start bytes).0 depth shape rest >>= k)
type_over-then locals names shapes depth k bytes =
    ap (λ found. found >>= k) (type_over-started locals names shapes depth bytes)
    ∙ bind-bind (shapes (type_start bytes).1) (type_behind locals names (type_start bytes).0 depth) k

-- WHAT BEGINS

-- a text and a type under the binder, and nothing behind it
text_and_type : {A : Type 0} (locals : Locals) (names : List (List ℕ)) (room depth : ℕ) (text : List ℕ) (k : CapturingType → A) (bytes : List ℕ)
    → (pieces_at (shape_parts locals names (shape_at locals names room)) depth (Exact text ∷ Under TypePart ∷ []) bytes >>= λ values rest. Got (k (values.1).0) rest)
    ≡ (exact_at text bytes >>= λ value rest. type_over locals names (shape_at locals names room (suc depth)) (suc depth) rest >>= λ type end. Got (k type) end)
text_and_type locals names room depth text k bytes =
    first_piece (shape_parts locals names (shape_at locals names room)) depth (Exact text) (Under TypePart ∷ []) (λ values rest. Got (k (values.1).0) rest) bytes
    ∙ bind-alike (exact_at text bytes)
    (λ value rest. first_piece (shape_parts locals names (shape_at locals names room)) depth (Under TypePart) [] (λ values end. Got (k values.0) end) rest)

-- functions, from what they take on
function_types : (locals : Locals) (names : List (List ℕ)) (room depth : ℕ) (bytes : List ℕ)
    → (pieces_at (shape_parts locals names (shape_at locals names room)) depth (Part TypePart ∷ Exact (codes ") -> ") ∷ Under TypePart ∷ []) bytes
    >>= λ values rest. Got (shape_tree FunctionRule (tt, (tt, values))) rest)
    ≡ (shape_at locals names room depth (type_start bytes).1 >>= around locals names (waits.Takes (type_start bytes).0 room depth))
function_types locals names room depth bytes =
    first_piece (shape_parts locals names (shape_at locals names room)) depth (Part TypePart) (Exact (codes ") -> ") ∷ Under TypePart ∷ []) (λ values rest. Got (shape_tree FunctionRule (tt, (tt, values))) rest) bytes
    ∙ bind-alike (type_over locals names (shape_at locals names room depth) depth bytes)
    (λ takes rest. text_and_type locals names room depth (codes ") -> ") (λ gives. FunctionShape takes.shape takes.set gives.shape gives.set) rest)
    ∙ type_over-then locals names (shape_at locals names room depth) depth
    (λ takes behind. exact_at (codes ") -> ") behind >>= λ arrow rest. type_over locals names (shape_at locals names room (suc depth)) (suc depth) rest >>= λ gives end. Got (FunctionShape takes.shape takes.set gives.shape gives.set) end)
    bytes

pub function_begins : (locals : Locals) (names : List (List ℕ)) (room depth : ℕ) (bytes : List ℕ)
    → shape_rule_at (shape_parts locals names (shape_at locals names room)) FunctionRule depth bytes
    ≡ (parameter_start_at depth bytes >>= λ form start. shape_at locals names room depth start >>= around locals names (waits.Takes form room depth))
unfolding shape_rule_at parameter_start_at
function_begins locals names room depth bytes =
    let parts = shape_parts locals names (shape_at locals names room) in
    first_piece parts depth Binder (Exact (codes ": ") ∷ Part TypePart ∷ Exact (codes ") -> ") ∷ Under TypePart ∷ []) (λ values rest. Got (shape_tree FunctionRule values) rest) bytes
    ∙ bind-alike (same_number_at depth bytes)
    (λ number behind.
    first_piece parts depth (Exact (codes ": ")) (Part TypePart ∷ Exact (codes ") -> ") ∷ Under TypePart ∷ []) (λ values rest. Got (shape_tree FunctionRule (tt, values)) rest) behind
    ∙ bind-alike (exact_at (codes ": ") behind) (λ colon rest. function_types locals names room depth rest)
    ∙ sym (bind-bind (exact_at (codes ": ") behind) (λ colon rest. Got (type_start rest).0 (type_start rest).1) (λ form start. shape_at locals names room depth start >>= around locals names (waits.Takes form room depth))))
    ∙ sym (bind-bind (same_number_at depth bytes) (λ number behind. exact_at (codes ": ") behind >>= λ colon rest. Got (type_start rest).0 (type_start rest).1) (λ form start. shape_at locals names room depth start >>= around locals names (waits.Takes form room depth)))

-- type functions, from their bound on
bounded : (locals : Locals) (names : List (List ℕ)) (room depth : ℕ) (bytes : List ℕ)
    → (pieces_at (shape_parts locals names (shape_at locals names room)) depth (Part ShapePart ∷ Exact (codes "] -> ") ∷ Under TypePart ∷ []) bytes
    >>= λ values rest. Got (shape_tree TypeFunctionRule (tt, (tt, values))) rest)
    ≡ (shape_at locals names room depth bytes >>= around locals names (waits.Bounds room depth))
bounded locals names room depth bytes =
    first_piece (shape_parts locals names (shape_at locals names room)) depth (Part ShapePart) (Exact (codes "] -> ") ∷ Under TypePart ∷ []) (λ values rest. Got (shape_tree TypeFunctionRule (tt, (tt, values))) rest) bytes
    ∙ bind-alike (shape_at locals names room depth bytes)
    (λ bound rest. text_and_type locals names room depth (codes "] -> ") (λ gives. TypeFunctionShape bound gives.shape gives.set) rest)

pub type_function_begins : (locals : Locals) (names : List (List ℕ)) (room depth : ℕ) (bytes : List ℕ)
    → shape_rule_at (shape_parts locals names (shape_at locals names room)) TypeFunctionRule depth bytes
    ≡ (bound_start_at depth bytes >>= λ it start. shape_at locals names room depth start >>= around locals names (waits.Bounds room depth))
unfolding shape_rule_at bound_start_at
type_function_begins locals names room depth bytes =
    let parts = shape_parts locals names (shape_at locals names room) in
    first_piece parts depth Binder (Exact (codes " <: ") ∷ Part ShapePart ∷ Exact (codes "] -> ") ∷ Under TypePart ∷ []) (λ values rest. Got (shape_tree TypeFunctionRule values) rest) bytes
    ∙ bind-alike (same_number_at depth bytes)
    (λ number behind.
    first_piece parts depth (Exact (codes " <: ")) (Part ShapePart ∷ Exact (codes "] -> ") ∷ Under TypePart ∷ []) (λ values rest. Got (shape_tree TypeFunctionRule (tt, values)) rest) behind
    ∙ bind-alike (exact_at (codes " <: ") behind) (λ below rest. bounded locals names room depth rest))
    ∙ sym (bind-bind (same_number_at depth bytes) (λ number behind. exact_at (codes " <: ") behind) (λ it start. shape_at locals names room depth start >>= around locals names (waits.Bounds room depth)))

pub box_begins : (locals : Locals) (names : List (List ℕ)) (room depth : ℕ) (bytes : List ℕ)
    → shape_rule_at (shape_parts locals names (shape_at locals names room)) BoxRule depth bytes
    ≡ (shape_at locals names room depth (type_start bytes).1 >>= around locals names (waits.Contents (type_start bytes).0 depth))
unfolding shape_rule_at
box_begins locals names room depth bytes =
    let parts = shape_parts locals names (shape_at locals names room) in
    first_piece parts depth (Part TypePart) (Exact (codes "]") ∷ []) (λ values rest. Got (shape_tree BoxRule values) rest) bytes
    ∙ bind-alike (type_over locals names (shape_at locals names room depth) depth bytes)
    (λ content rest. first_piece parts depth (Exact (codes "]")) [] (λ values end. Got (shape_tree BoxRule (content, values)) end) rest)
    ∙ type_over-then locals names (shape_at locals names room depth) depth
    (λ content behind. exact_at (codes "]") behind >>= λ close end. Got (BoxShape content.shape content.set) end) bytes

pub exit_begins : (locals : Locals) (names : List (List ℕ)) (room depth : ℕ) (bytes : List ℕ)
    → shape_rule_at (shape_parts locals names (shape_at locals names room)) ExitRule depth bytes
    ≡ (shape_at locals names room depth bytes >>= around locals names waits.Exits)
unfolding shape_rule_at
exit_begins locals names room depth bytes =
    let parts = shape_parts locals names (shape_at locals names room) in
    first_piece parts depth (Part ShapePart) (Exact (codes "]") ∷ []) (λ values rest. Got (shape_tree ExitRule values) rest) bytes
    ∙ bind-alike (shape_at locals names room depth bytes)
    (λ gives rest. first_piece parts depth (Exact (codes "]")) [] (λ values end. Got (shape_tree ExitRule (gives, values)) end) rest)

-- WHAT GOES ON

-- functions whose parameter's type is found go on with what they give
gives_then : (locals : Locals) (names : List (List ℕ)) (room depth : ℕ) (takes : CapturingType) (form : TypeForm) (bytes : List ℕ) → Found Shape
gives_then locals names room depth takes form bytes =
    shape_at locals names room (suc depth) bytes >>= λ shape behind. type_behind locals names form (suc depth) shape behind >>= λ gives end.
    Got (FunctionShape takes.shape takes.set gives.shape gives.set) end

takes_found : (locals : Locals) (names : List (List ℕ)) (form : TypeForm) (room depth : ℕ) (shape : Shape) (bytes : List ℕ)
    → around locals names (waits.Takes form room depth) shape bytes
    ≡ (result_start_at locals names form depth shape bytes >>= λ start behind. gives_then locals names room depth start.0 start.1 behind)
unfolding result_start_at gives_then
takes_found locals names form room depth shape bytes =
    bind-alike (type_behind locals names form depth shape bytes)
    (λ takes behind.
    bind-alike (exact_at (codes ") -> ") behind)
    (λ arrow rest. type_over-then locals names (shape_at locals names room (suc depth)) (suc depth) (λ gives end. Got (FunctionShape takes.shape takes.set gives.shape gives.set) end) rest)
    ∙ sym (bind-bind (exact_at (codes ") -> ") behind) (λ arrow rest. Got (takes, (type_start rest).0) (type_start rest).1) (λ start behind. gives_then locals names room depth start.0 start.1 behind)))
    ∙ sym (bind-bind (type_behind locals names form depth shape bytes) (λ takes behind. exact_at (codes ") -> ") behind >>= λ arrow rest. Got (takes, (type_start rest).0) (type_start rest).1) (λ start behind. gives_then locals names room depth start.0 start.1 behind))

bounded_then : (locals : Locals) (names : List (List ℕ)) (room depth : ℕ) (bound : Shape) (form : TypeForm) (bytes : List ℕ) → Found Shape
bounded_then locals names room depth bound form bytes =
    shape_at locals names room (suc depth) bytes >>= λ shape behind. type_behind locals names form (suc depth) shape behind >>= λ gives end.
    Got (TypeFunctionShape bound gives.shape gives.set) end

bounds_found : (locals : Locals) (names : List (List ℕ)) (room depth : ℕ) (bound : Shape) (bytes : List ℕ)
    → around locals names (waits.Bounds room depth) bound bytes
    ≡ (bounded_start_at bytes >>= bounded_then locals names room depth bound)
unfolding bounded_start_at bounded_then
bounds_found locals names room depth bound bytes =
    bind-alike (exact_at (codes "] -> ") bytes)
    (λ arrow rest. type_over-then locals names (shape_at locals names room (suc depth)) (suc depth) (λ gives end. Got (TypeFunctionShape bound gives.shape gives.set) end) rest)
    ∙ sym (bind-bind (exact_at (codes "] -> ") bytes) (λ arrow rest. Got (type_start rest).0 (type_start rest).1) (bounded_then locals names room depth bound))

-- WHICH FORM BEGINS

-- from the forms that begin with such texts
abbrev begun_by : Locals → Readers → ℕ → List ℕ → Option (List ℕ) → Option (List ℕ) → Option (List ℕ) → Option (List ℕ) → Found Shape
begun_by locals parts depth bytes function type_function box exit =
    begun function (shape_rule_at parts FunctionRule depth)
    (begun type_function (shape_rule_at parts TypeFunctionRule depth)
    (begun box (shape_rule_at parts BoxRule depth) (begun exit (shape_rule_at parts ExitRule depth) (leaf_at locals depth bytes))))

shape_over-begun : (locals : Locals) (parts : Readers) (depth : ℕ) (bytes : List ℕ)
    → shape_over locals parts depth bytes
    ≡ begun_by locals parts depth bytes (after_prefix bytes (codes "(_")) (after_prefix bytes (codes "[_T")) (after_prefix bytes (codes "Box[")) (after_prefix bytes (codes "Exit["))
unfolding shape_over
shape_over-begun locals parts depth bytes = refl

pub over_function : (locals : Locals) (parts : Readers) (depth : ℕ) (bytes : List ℕ) {rest : List ℕ}
    → Some rest ≡ after_prefix bytes (codes "(_") → shape_over locals parts depth bytes ≡ shape_rule_at parts FunctionRule depth rest
unfolding begun
over_function locals parts depth bytes function =
    shape_over-begun locals parts depth bytes
    ∙ ap (λ (f : Option (List ℕ)). begun_by locals parts depth bytes f (after_prefix bytes (codes "[_T")) (after_prefix bytes (codes "Box[")) (after_prefix bytes (codes "Exit["))) (sym function)

pub over_type_function : (locals : Locals) (parts : Readers) (depth : ℕ) (bytes : List ℕ) {rest : List ℕ}
    → None ≡ after_prefix bytes (codes "(_") → Some rest ≡ after_prefix bytes (codes "[_T") → shape_over locals parts depth bytes ≡ shape_rule_at parts TypeFunctionRule depth rest
unfolding begun
over_type_function locals parts depth bytes function type_function =
    shape_over-begun locals parts depth bytes
    ∙ λ i. begun_by locals parts depth bytes (sym function i) (sym type_function i) (after_prefix bytes (codes "Box[")) (after_prefix bytes (codes "Exit["))

pub over_box : (locals : Locals) (parts : Readers) (depth : ℕ) (bytes : List ℕ) {rest : List ℕ}
    → None ≡ after_prefix bytes (codes "(_") → None ≡ after_prefix bytes (codes "[_T") → Some rest ≡ after_prefix bytes (codes "Box[")
    → shape_over locals parts depth bytes ≡ shape_rule_at parts BoxRule depth rest
unfolding begun
over_box locals parts depth bytes function type_function box =
    shape_over-begun locals parts depth bytes
    ∙ λ i. begun_by locals parts depth bytes (sym function i) (sym type_function i) (sym box i) (after_prefix bytes (codes "Exit["))

pub over_exit : (locals : Locals) (parts : Readers) (depth : ℕ) (bytes : List ℕ) {rest : List ℕ}
    → None ≡ after_prefix bytes (codes "(_") → None ≡ after_prefix bytes (codes "[_T") → None ≡ after_prefix bytes (codes "Box[") → Some rest ≡ after_prefix bytes (codes "Exit[")
    → shape_over locals parts depth bytes ≡ shape_rule_at parts ExitRule depth rest
unfolding begun
over_exit locals parts depth bytes function type_function box exit =
    shape_over-begun locals parts depth bytes ∙ λ i. begun_by locals parts depth bytes (sym function i) (sym type_function i) (sym box i) (sym exit i)

pub over_leaf : (locals : Locals) (parts : Readers) (depth : ℕ) (bytes : List ℕ)
    → None ≡ after_prefix bytes (codes "(_") → None ≡ after_prefix bytes (codes "[_T") → None ≡ after_prefix bytes (codes "Box[") → None ≡ after_prefix bytes (codes "Exit[")
    → shape_over locals parts depth bytes ≡ leaf_at locals depth bytes
unfolding begun
over_leaf locals parts depth bytes function type_function box exit =
    shape_over-begun locals parts depth bytes ∙ λ i. begun_by locals parts depth bytes (sym function i) (sym type_function i) (sym box i) (sym exit i)

-- WHAT WAITS

pub function_waits : {start : List ℕ} {form : TypeForm} (locals : Locals) (names : List (List ℕ)) (room depth : ℕ) (bytes : List ℕ)
    → parameter_start_at depth bytes ≡ Got form start
    → shape_rule_at (shape_parts locals names (shape_at locals names room)) FunctionRule depth bytes
    ≡ (shape_at locals names room depth start >>= around locals names (waits.Takes form room depth))
function_waits locals names room depth bytes read =
    function_begins locals names room depth bytes
    ∙ ap (λ (f : Found TypeForm). f >>= λ form start. shape_at locals names room depth start >>= around locals names (waits.Takes form room depth)) read

pub type_function_waits : {start : List ℕ} (locals : Locals) (names : List (List ℕ)) (room depth : ℕ) (bytes : List ℕ)
    → bound_start_at depth bytes ≡ Got tt start
    → shape_rule_at (shape_parts locals names (shape_at locals names room)) TypeFunctionRule depth bytes
    ≡ (shape_at locals names room depth start >>= around locals names (waits.Bounds room depth))
type_function_waits locals names room depth bytes read =
    type_function_begins locals names room depth bytes
    ∙ ap (λ (f : Found (Unit {0})). f >>= λ it start. shape_at locals names room depth start >>= around locals names (waits.Bounds room depth)) read

pub box_waits : {start : List ℕ} {form : TypeForm} (locals : Locals) (names : List (List ℕ)) (room depth : ℕ) (bytes : List ℕ)
    → (form, start) ≡ type_start bytes
    → shape_rule_at (shape_parts locals names (shape_at locals names room)) BoxRule depth bytes
    ≡ (shape_at locals names room depth start >>= around locals names (waits.Contents form depth))
box_waits locals names room depth bytes started_so =
    box_begins locals names room depth bytes
    ∙ ap (λ (it : TypeForm × List ℕ). shape_at locals names room depth it.1 >>= around locals names (waits.Contents it.0 depth)) (sym started_so)

-- THE LOOPS

-- a reader that stops before anything waits
pub begins_stopped : {V A : Type 0} {found : Found Shape} (locals : Locals) (names : List (List ℕ)) (room depth : ℕ) (view : V → A) (error : Stop) (first : Found A) (then : A → List ℕ → Found Shape)
    → found ≡ (first >>= then) → Agrees view (Err error) first → Begins locals names room depth found (Err error)
begins_stopped locals names room depth view stops.Misfit first then is wrong = is ∙ ap (λ f. f >>= then) wrong
begins_stopped locals names room depth view stops.NoMemory first then is wrong = tt

-- a reader that stops behind what waits
resumes_stopped : {V A : Type 0} {found : Found Shape} (locals : Locals) (names : List (List ℕ)) (view : V → A) (error : Stop) (first : Found A) (then : A → List ℕ → Found Shape) (waiting : List Waiting)
    → found ≡ (first >>= then) → Agrees view (Err error) first → Resumes locals names waiting found waiting (Err error)
resumes_stopped locals names view stops.Misfit first then waiting is wrong =
    ap (resumed (around locals names) waiting) (is ∙ ap (λ f. f >>= then) wrong) ∙ resumed-wrong (around locals names) waiting
resumes_stopped locals names view stops.NoMemory first then waiting is wrong = tt

-- a way down that stops
pub descends_stopped : {found here : Found Shape} {old now : List Waiting} (locals : Locals) (names : List (List ℕ)) (room depth : ℕ) (over : Found Shape) (new : List Waiting) (error : Stop)
    → Leads (around locals names) IsLow old found now here → here ≡ over → Begins locals names room depth over (Err error)
    → Resumes locals names old found new (Err error)
descends_stopped locals names room depth over new stops.Misfit leads is wrong = leads_wrong leads (is ∙ wrong)
descends_stopped locals names room depth over new stops.NoMemory leads is wrong = tt

resumes_behind : {old now : List Waiting} {found here : Found Shape} (locals : Locals) (names : List (List ℕ)) (new : List Waiting) (result : Result (DeclaredShape × Bor (List ℕ)) Stop)
    → Leads (around locals names) IsLow old found now here → Resumes locals names now here new result → Resumes locals names old found new result
resumes_behind locals names new (Ok read) leads then = leads_on leads then
resumes_behind locals names new (Err stops.Misfit) leads then = sym leads.stays ∙ then
resumes_behind locals names new (Err stops.NoMemory) leads then = tt

-- what was read to its end
resumes_with : (locals : Locals) (names : List (List ℕ)) (found : Found Shape) (waiting : List Waiting) (result : Result (DeclaredShape × Bor (List ℕ)) Stop)
    → Agrees shape_of result found → Resumes locals names waiting found waiting result
resumes_with locals names found waiting (Ok read) is = leads_to leads_nowhere is
resumes_with locals names found waiting (Err stops.Misfit) is =
    ap (resumed (around locals names) waiting) is ∙ resumed-wrong (around locals names) waiting
resumes_with locals names found waiting (Err stops.NoMemory) is = tt

-- where one more waits
pushed_in : {found : Found Shape} {pushed : List Waiting} (locals : Locals) (names : List (List ℕ)) (old : List Waiting) (next : Waiting) (inner : Found Shape)
    → pushed ≡ old ++ next ∷ [] → found ≡ (inner >>= around locals names next) → IsLow next
    → Leads (around locals names) IsLow (in_turn old) found (in_turn pushed) inner
pushed_in {found = found} locals names old next inner is begins low =
    subst (λ (waiting : List Waiting). Leads (around locals names) IsLow (in_turn old) found waiting inner)
    (sym (ap in_turn is ∙ reverse-pushed old next)) (leads_in next inner leads_nowhere begins low)

-- goes down to what one waits for that begins
pub down_further : {found here over : Found Shape} {old pushed : List Waiting} (locals : Locals) (names : List (List ℕ)) (waiting : List Waiting) (next : Waiting) (inner : Found Shape)
    → Leads (around locals names) IsLow old found (in_turn waiting) here → here ≡ over → pushed ≡ waiting ++ next ∷ []
    → (over ≡ (inner >>= around locals names next)) × IsLow next
    → Leads (around locals names) IsLow old found (in_turn pushed) inner
down_further locals names waiting next inner leads here_is is begins =
    leads_on leads (pushed_in locals names waiting next inner is (here_is ∙ begins.0) begins.1)

-- what functions take was read, and the shape of what they give is to be read
pub turn_takes : {next : Waiting} {form given : TypeForm} {room depth : ℕ} {start : List ℕ} {first : Ty} {pushed : List Waiting}
    (locals : Locals) (names : List (List ℕ)) (shape : Shape) (bytes : List ℕ) (old new : List Waiting) (takes : Rc Ty Global) (under : ℕ) (result : Result (DeclaredShape × Bor (List ℕ)) Stop)
    → next ≡ waits.Takes form room depth → result_start_at locals names form depth shape bytes ≡ Got (type_of first, given) start → takes.value ≡ first
    → pushed ≡ old ++ waits.Gives given under takes ∷ [] → under ≡ suc depth → under ≤ 4294967296
    → Resumes locals names (in_turn pushed) (shape_at locals names room under start) new result
    → Resumes locals names (in_turn old) (around locals names next shape bytes) new result
unfolding gives_then
turn_takes {next = next} {form = form} {given = given} {room = room} {depth = depth} {start = start} {first = first} locals names shape bytes old new takes under result next_is read holds is one low then =
    let begins : around locals names next shape bytes ≡ (shape_at locals names room under start >>= around locals names (waits.Gives given under takes)) =
    ap (λ (w : Waiting). around locals names w shape bytes) next_is
    ∙ takes_found locals names form room depth shape bytes
    ∙ ap (λ (f : Found (CapturingType × TypeForm)). f >>= λ it behind. gives_then locals names room depth it.0 it.1 behind) read
    ∙ ap (λ (t : Ty). gives_then locals names room depth (type_of t) given start) (sym holds)
    ∙ ap (λ (u : ℕ). shape_at locals names room u start >>= around locals names (waits.Gives given u takes)) (sym one) in
    resumes_behind locals names new result (pushed_in locals names old (waits.Gives given under takes) (shape_at locals names room under start) is begins low) then

-- and the same of type functions behind their bound
pub turn_bounds : {next : Waiting} {given : TypeForm} {room depth : ℕ} {start : List ℕ} {first : DeclaredShape} {pushed : List Waiting}
    (locals : Locals) (names : List (List ℕ)) (bytes : List ℕ) (old new : List Waiting) (bound : Rc DeclaredShape Global) (under : ℕ) (result : Result (DeclaredShape × Bor (List ℕ)) Stop)
    → next ≡ waits.Bounds room depth → bounded_start_at bytes ≡ Got given start → bound.value ≡ first
    → pushed ≡ old ++ waits.Results given under bound ∷ [] → under ≡ suc depth → under ≤ 4294967296
    → Resumes locals names (in_turn pushed) (shape_at locals names room under start) new result
    → Resumes locals names (in_turn old) (around locals names next (shape_of first) bytes) new result
unfolding bounded_then
turn_bounds {next = next} {given = given} {room = room} {depth = depth} {start = start} {first = first} locals names bytes old new bound under result next_is read holds is one low then =
    let begins : around locals names next (shape_of first) bytes ≡ (shape_at locals names room under start >>= around locals names (waits.Results given under bound)) =
    ap (λ (w : Waiting). around locals names w (shape_of first) bytes) next_is
    ∙ bounds_found locals names room depth (shape_of first) bytes
    ∙ ap (λ (f : Found TypeForm). f >>= bounded_then locals names room depth (shape_of first)) read
    ∙ ap (λ (b : DeclaredShape). bounded_then locals names room depth (shape_of b) given start) (sym holds)
    ∙ ap (λ (u : ℕ). shape_at locals names room u start >>= around locals names (waits.Results given u bound)) (sym one) in
    resumes_behind locals names new result (pushed_in locals names old (waits.Results given under bound) (shape_at locals names room under start) is begins low) then

-- where it stops behind what functions take, or behind a bound
pub takes_stopped : {V : Type 0} {next : Waiting} {form : TypeForm} {room depth : ℕ} (locals : Locals) (names : List (List ℕ)) (view : V → CapturingType × TypeForm) (error : Stop) (shape : Shape) (bytes : List ℕ) (waiting : List Waiting)
    → next ≡ waits.Takes form room depth → Agrees view (Err error) (result_start_at locals names form depth shape bytes)
    → Resumes locals names (in_turn waiting) (around locals names next shape bytes) (in_turn waiting) (Err error)
takes_stopped {form = form} {room = room} {depth = depth} locals names view error shape bytes waiting is wrong =
    resumes_stopped locals names view error (result_start_at locals names form depth shape bytes) (λ it behind. gives_then locals names room depth it.0 it.1 behind) (in_turn waiting)
    (ap (λ (w : Waiting). around locals names w shape bytes) is ∙ takes_found locals names form room depth shape bytes) wrong

pub bounds_stopped : {V : Type 0} {next : Waiting} {room depth : ℕ} (locals : Locals) (names : List (List ℕ)) (view : V → TypeForm) (error : Stop) (bound : Shape) (bytes : List ℕ) (waiting : List Waiting)
    → next ≡ waits.Bounds room depth → Agrees view (Err error) (bounded_start_at bytes)
    → Resumes locals names (in_turn waiting) (around locals names next bound bytes) (in_turn waiting) (Err error)
bounds_stopped {room = room} {depth = depth} locals names view error bound bytes waiting is wrong =
    resumes_stopped locals names view error (bounded_start_at bytes) (bounded_then locals names room depth bound) (in_turn waiting)
    (ap (λ (w : Waiting). around locals names w bound bytes) is ∙ bounds_found locals names room depth bound bytes) wrong

-- a turn ends what waits
pub turn_ends : {next : Waiting} (locals : Locals) (names : List (List ℕ)) (shape : Shape) (bytes : List ℕ) (known : Waiting) (waiting : List Waiting) (result : Result (DeclaredShape × Bor (List ℕ)) Stop)
    → next ≡ known → Agrees shape_of result (around locals names known shape bytes)
    → Resumes locals names (in_turn waiting) (around locals names next shape bytes) (in_turn waiting) result
turn_ends locals names shape bytes known waiting result is read =
    subst (λ (w : Waiting). Resumes locals names (in_turn waiting) (around locals names w shape bytes) (in_turn waiting) result) (sym is)
    (resumes_with locals names (around locals names known shape bytes) (in_turn waiting) result read)

-- a type that stops at its shape, and one that is read
pub type_stopped : (error : Stop) (locals : Locals) (names : List (List ℕ)) (shapes : Reader Shape) (depth : ℕ) (bytes start : List ℕ) (form : TypeForm)
    → (form, start) ≡ type_start bytes → Agrees shape_of (Err error) (shapes start) → Agrees type_of (Err error) (type_over locals names shapes depth bytes)
type_stopped stops.Misfit locals names shapes depth bytes start form is wrong =
    type_over-started locals names shapes depth bytes
    ∙ ap (λ (it : TypeForm × List ℕ). shapes it.1 >>= type_behind locals names it.0 depth) (sym is)
    ∙ ap (λ (f : Found Shape). f >>= type_behind locals names form depth) wrong
type_stopped stops.NoMemory locals names shapes depth bytes start form is wrong = tt

pub type_read : {shape : Shape} {rest : List ℕ} (result : Result (Ty × Bor (List ℕ)) Stop) (locals : Locals) (names : List (List ℕ)) (shapes : Reader Shape) (depth : ℕ) (bytes start : List ℕ) (form : TypeForm)
    → (form, start) ≡ type_start bytes → shapes start ≡ Got shape rest → Agrees type_of result (type_behind locals names form depth shape rest)
    → Agrees type_of result (type_over locals names shapes depth bytes)
type_read result locals names shapes depth bytes start form is read then =
    subst (Agrees type_of result)
    (sym (type_over-started locals names shapes depth bytes
    ∙ ap (λ (it : TypeForm × List ℕ). shapes it.1 >>= type_behind locals names it.0 depth) (sym is)
    ∙ ap (λ (f : Found Shape). f >>= type_behind locals names form depth) read)) then

-- the loop begins behind the way down, which may stop
pub walk_stopped : {old : List Waiting} (locals : Locals) (names : List (List ℕ)) (whole : Found Shape) (new : List Waiting) (error : Stop)
    → old ≡ [] → Resumes locals names (in_turn old) whole (in_turn new) (Err error) → Agrees shape_of (Err error) whole
walk_stopped locals names whole new stops.Misfit none wrong = ap (λ (w : List Waiting). resumed (around locals names) (in_turn w) whole) (sym none) ∙ wrong
walk_stopped locals names whole new stops.NoMemory none wrong = tt

pub walk_begins : {whole next : Found Shape} {old new : List Waiting} (locals : Locals) (names : List (List ℕ))
    → old ≡ [] → Leads (around locals names) IsLow (in_turn old) whole new next → Leads (around locals names) IsLow [] whole new next
walk_begins {whole = whole} {next = next} {new = new} locals names none leads =
    subst (λ (w : List Waiting). Leads (around locals names) IsLow (in_turn w) whole new next) none leads
