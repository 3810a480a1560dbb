-- Terms that are read by a loop over what waits are those of the definition.
use Rattle.std.proofs.Common.{◌≡◌, ℕ, suc, List, [], ◌∷◌, ◌++◌, codes, Option, Some, None, Global, Err, refl, sym, ap, ◌∙◌, subst}
use Rattle.cc_capture.specs.declared.var.Var.{Var}
use Rattle.cc_core.specs.Shapes.{Shape, CapturingType}
use Rattle.cc_core.specs.Terms.{Note, Written, Term, FunctionTerm, TypeFunctionTerm, Let, Conditional, Boundary}
use Rattle.cc_core.specs.TermViews.{shape_of, type_of, note_of}
use Rattle.std.specs.declared.rc.Rc.{Rc}
use Rattle.cc_core.specs.declared.types.Shape.{Shape as DeclaredShape}
use Rattle.cc_core.specs.declared.types.Ty.{Ty}
use Rattle.cc_core.specs.declared.terms.Note.{Note as DeclaredNote}
use Rattle.cc_certificate_text.specs.Reading.{Counted, Found, Got, ◌>>=◌, exact_at, shape_at}
use Rattle.cc_certificate_text.specs.Reading.{Readers, Exact, Binder, Part, Under, ShapePart, TypePart, VariablePart, NotePart, TermPart}
use Rattle.cc_certificate_text.specs.Reading.{FunRule, TypeFunRule, LetRule, IfRule, BoundaryRule, term_tree, term_rule_at, term_parts, term_at, term_over, plain_term_at, begun}
use Rattle.cc_words.specs.Words.{after_prefix}
use Rattle.cc_certificate_reading.specs.Agreement.{Agrees}
use Rattle.cc_certificate_reading.specs.Waiting.{resumed, Leads}
use Rattle.cc_certificate_reading.specs.WaitingTerms.{function_start_at, type_function_start_at, let_start_at, choice_start_at, boundary_start_at, around, IsFit, in_turn, Begins, Resumes}
use Rattle.cc_certificate_reading.specs.declared.stop.Stop.{Stop}
use Rattle.cc_certificate_reading.specs.declared.stop.Stop.TheVariants as stops
use Rattle.cc_certificate_reading.specs.declared.terms.Waiting.{Waiting}
use Rattle.cc_certificate_reading.specs.declared.terms.Waiting.TheVariants as waits
use Rattle.cc_certificate_reading.proofs.Waiting.{bind-alike, first_piece, piece_then, reverse-pushed, resumed-wrong, leads_nowhere, leads_on, leads_in, leads_wrong}

-- the readers of the parts
abbrev parts_in : List (List ℕ) → ℕ → Readers
parts_in names room = term_parts names room (shape_at Counted names room) (term_at names room)

-- WHAT BEGINS

-- each form from what stands before its first term on
pub function_from : (names : List (List ℕ)) (room depth : ℕ) (takes : CapturingType) (bytes : List ℕ) → Found Term
function_from names room depth takes bytes =
    term_at names room (suc depth) bytes >>= λ body end. Got (FunctionTerm takes.shape takes.set body) end

pub function_begins : (names : List (List ℕ)) (room depth : ℕ) (bytes : List ℕ)
    → term_rule_at (parts_in names room) FunRule depth bytes
    ≡ (function_start_at names room depth bytes >>= function_from names room depth)
unfolding term_rule_at function_start_at function_from
function_begins names room depth bytes =
    let parts = parts_in names room in
    piece_then parts depth Binder (Exact (codes ": ") ∷ Part TypePart ∷ Exact (codes ") => ") ∷ Under TermPart ∷ []) (λ values end. Got (term_tree FunRule values) end) bytes _ (function_from names room depth)
    (λ number behind. piece_then parts depth (Exact (codes ": ")) (Part TypePart ∷ Exact (codes ") => ") ∷ Under TermPart ∷ []) (λ values end. Got (term_tree FunRule (tt, values)) end) behind _ (function_from names room depth)
    (λ colon rest. piece_then parts depth (Part TypePart) (Exact (codes ") => ") ∷ Under TermPart ∷ []) (λ values end. Got (term_tree FunRule (tt, (tt, values))) end) rest _ (function_from names room depth)
    (λ takes here. piece_then parts depth (Exact (codes ") => ")) (Under TermPart ∷ []) (λ values end. Got (term_tree FunRule (tt, (tt, (takes, values)))) end) here _ (function_from names room depth)
    (λ arrow start. first_piece parts depth (Under TermPart) [] (λ values end. Got (term_tree FunRule (tt, (tt, (takes, (tt, values))))) end) start))))

pub type_function_from : (names : List (List ℕ)) (room depth : ℕ) (bound : Shape) (bytes : List ℕ) → Found Term
type_function_from names room depth bound bytes =
    term_at names room (suc depth) bytes >>= λ body end. Got (TypeFunctionTerm bound body) end

pub type_function_begins : (names : List (List ℕ)) (room depth : ℕ) (bytes : List ℕ)
    → term_rule_at (parts_in names room) TypeFunRule depth bytes
    ≡ (type_function_start_at names room depth bytes >>= type_function_from names room depth)
unfolding term_rule_at type_function_start_at type_function_from
type_function_begins names room depth bytes =
    let parts = parts_in names room in
    piece_then parts depth Binder (Exact (codes " <: ") ∷ Part ShapePart ∷ Exact (codes "] => ") ∷ Under TermPart ∷ []) (λ values end. Got (term_tree TypeFunRule values) end) bytes _ (type_function_from names room depth)
    (λ number behind. piece_then parts depth (Exact (codes " <: ")) (Part ShapePart ∷ Exact (codes "] => ") ∷ Under TermPart ∷ []) (λ values end. Got (term_tree TypeFunRule (tt, values)) end) behind _ (type_function_from names room depth)
    (λ below rest. piece_then parts depth (Part ShapePart) (Exact (codes "] => ") ∷ Under TermPart ∷ []) (λ values end. Got (term_tree TypeFunRule (tt, (tt, values))) end) rest _ (type_function_from names room depth)
    (λ bound here. piece_then parts depth (Exact (codes "] => ")) (Under TermPart ∷ []) (λ values end. Got (term_tree TypeFunRule (tt, (tt, (bound, values)))) end) here _ (type_function_from names room depth)
    (λ arrow start. first_piece parts depth (Under TermPart) [] (λ values end. Got (term_tree TypeFunRule (tt, (tt, (bound, (tt, values))))) end) start))))

pub let_from : (names : List (List ℕ)) (room depth : ℕ) (note : Note) (bytes : List ℕ) → Found Term
let_from names room depth note bytes =
    term_at names room depth bytes >>= λ right behind. exact_at (codes " in ") behind >>= λ word rest.
    term_at names room (suc depth) rest >>= λ body end. Got (Let note right body) end

pub let_begins : (names : List (List ℕ)) (room depth : ℕ) (bytes : List ℕ)
    → term_rule_at (parts_in names room) LetRule depth bytes
    ≡ (let_start_at names room depth bytes >>= let_from names room depth)
unfolding term_rule_at let_start_at let_from
let_begins names room depth bytes =
    let parts = parts_in names room in
    piece_then parts depth Binder (Part NotePart ∷ Exact (codes " = ") ∷ Part TermPart ∷ Exact (codes " in ") ∷ Under TermPart ∷ []) (λ values end. Got (term_tree LetRule values) end) bytes _ (let_from names room depth)
    (λ number behind. piece_then parts depth (Part NotePart) (Exact (codes " = ") ∷ Part TermPart ∷ Exact (codes " in ") ∷ Under TermPart ∷ []) (λ values end. Got (term_tree LetRule (tt, values)) end) behind _ (let_from names room depth)
    (λ note rest. piece_then parts depth (Exact (codes " = ")) (Part TermPart ∷ Exact (codes " in ") ∷ Under TermPart ∷ []) (λ values end. Got (term_tree LetRule (tt, (note, values))) end) rest _ (let_from names room depth)
    (λ equals here. first_piece parts depth (Part TermPart) (Exact (codes " in ") ∷ Under TermPart ∷ []) (λ values end. Got (term_tree LetRule (tt, (note, (tt, values)))) end) here
    ∙ bind-alike (term_at names room depth here)
    (λ right start. first_piece parts depth (Exact (codes " in ")) (Under TermPart ∷ []) (λ values end. Got (term_tree LetRule (tt, (note, (tt, (right, values))))) end) start
    ∙ bind-alike (exact_at (codes " in ") start)
    (λ word next. first_piece parts depth (Under TermPart) [] (λ values end. Got (term_tree LetRule (tt, (note, (tt, (right, (tt, values)))))) end) next)))))

pub choice_from : (names : List (List ℕ)) (room depth : ℕ) (start : CapturingType × Var) (bytes : List ℕ) → Found Term
choice_from names room depth start bytes =
    term_at names room depth bytes >>= λ positive behind. exact_at (codes " else ") behind >>= λ word rest.
    term_at names room depth rest >>= λ negative end.
    Got (Conditional (Written start.0.shape start.0.set) start.1 positive negative) end

pub choice_begins : (names : List (List ℕ)) (room depth : ℕ) (bytes : List ℕ)
    → term_rule_at (parts_in names room) IfRule depth bytes
    ≡ (choice_start_at names room depth bytes >>= choice_from names room depth)
unfolding term_rule_at choice_start_at choice_from
choice_begins names room depth bytes =
    let parts = parts_in names room in
    piece_then parts depth (Part TypePart) (Exact (codes "] ") ∷ Part VariablePart ∷ Exact (codes " then ") ∷ Part TermPart ∷ Exact (codes " else ") ∷ Part TermPart ∷ []) (λ values end. Got (term_tree IfRule values) end) bytes _ (choice_from names room depth)
    (λ type behind. piece_then parts depth (Exact (codes "] ")) (Part VariablePart ∷ Exact (codes " then ") ∷ Part TermPart ∷ Exact (codes " else ") ∷ Part TermPart ∷ []) (λ values end. Got (term_tree IfRule (type, values)) end) behind _ (choice_from names room depth)
    (λ close rest. piece_then parts depth (Part VariablePart) (Exact (codes " then ") ∷ Part TermPart ∷ Exact (codes " else ") ∷ Part TermPart ∷ []) (λ values end. Got (term_tree IfRule (type, (tt, values))) end) rest _ (choice_from names room depth)
    (λ test here. piece_then parts depth (Exact (codes " then ")) (Part TermPart ∷ Exact (codes " else ") ∷ Part TermPart ∷ []) (λ values end. Got (term_tree IfRule (type, (tt, (test, values)))) end) here _ (choice_from names room depth)
    (λ word start. first_piece parts depth (Part TermPart) (Exact (codes " else ") ∷ Part TermPart ∷ []) (λ values end. Got (term_tree IfRule (type, (tt, (test, (tt, values))))) end) start
    ∙ bind-alike (term_at names room depth start)
    (λ positive next. first_piece parts depth (Exact (codes " else ")) (Part TermPart ∷ []) (λ values end. Got (term_tree IfRule (type, (tt, (test, (tt, (positive, values)))))) end) next
    ∙ bind-alike (exact_at (codes " else ") next)
    (λ other last. first_piece parts depth (Part TermPart) [] (λ values end. Got (term_tree IfRule (type, (tt, (test, (tt, (positive, (tt, values))))))) end) last))))))

pub boundary_from : (names : List (List ℕ)) (room depth : ℕ) (gives : Shape) (bytes : List ℕ) → Found Term
boundary_from names room depth gives bytes =
    term_at names room (suc depth) bytes >>= λ body end. Got (Boundary gives body) end

pub boundary_begins : (names : List (List ℕ)) (room depth : ℕ) (bytes : List ℕ)
    → term_rule_at (parts_in names room) BoundaryRule depth bytes
    ≡ (boundary_start_at names room depth bytes >>= boundary_from names room depth)
unfolding term_rule_at boundary_start_at boundary_from
boundary_begins names room depth bytes =
    let parts = parts_in names room in
    piece_then parts depth (Part ShapePart) (Exact (codes "] _") ∷ Binder ∷ Exact (codes " => ") ∷ Under TermPart ∷ []) (λ values end. Got (term_tree BoundaryRule values) end) bytes _ (boundary_from names room depth)
    (λ gives behind. piece_then parts depth (Exact (codes "] _")) (Binder ∷ Exact (codes " => ") ∷ Under TermPart ∷ []) (λ values end. Got (term_tree BoundaryRule (gives, values)) end) behind _ (boundary_from names room depth)
    (λ close rest. piece_then parts depth Binder (Exact (codes " => ") ∷ Under TermPart ∷ []) (λ values end. Got (term_tree BoundaryRule (gives, (tt, values))) end) rest _ (boundary_from names room depth)
    (λ number here. piece_then parts depth (Exact (codes " => ")) (Under TermPart ∷ []) (λ values end. Got (term_tree BoundaryRule (gives, (tt, (tt, values)))) end) here _ (boundary_from names room depth)
    (λ arrow start. first_piece parts depth (Under TermPart) [] (λ values end. Got (term_tree BoundaryRule (gives, (tt, (tt, (tt, values))))) end) start))))

-- what stands before the first term is read, and the rest waits for that
pub function_waits : {under : ℕ} {start : List ℕ} {first : Ty} (names : List (List ℕ)) (room depth : ℕ) (bytes : List ℕ) (takes : Rc Ty Global)
    → function_start_at names room depth bytes ≡ Got (type_of first) start → takes.value ≡ first → under ≡ suc depth
    → term_rule_at (parts_in names room) FunRule depth bytes ≡ (term_at names room under start >>= around names (waits.Functions takes))
unfolding function_from
function_waits {start = start} names room depth bytes takes read holds one =
    function_begins names room depth bytes
    ∙ ap (λ (f : Found CapturingType). f >>= function_from names room depth) read
    ∙ ap (λ (t : Ty). function_from names room depth (type_of t) start) (sym holds)
    ∙ ap (λ (u : ℕ). term_at names room u start >>= around names (waits.Functions takes)) (sym one)

pub type_function_waits : {under : ℕ} {start : List ℕ} {first : DeclaredShape} (names : List (List ℕ)) (room depth : ℕ) (bytes : List ℕ) (bound : Rc DeclaredShape Global)
    → type_function_start_at names room depth bytes ≡ Got (shape_of first) start → bound.value ≡ first → under ≡ suc depth
    → term_rule_at (parts_in names room) TypeFunRule depth bytes ≡ (term_at names room under start >>= around names (waits.TypeFunctions bound))
unfolding type_function_from
type_function_waits {start = start} names room depth bytes bound read holds one =
    type_function_begins names room depth bytes
    ∙ ap (λ (f : Found Shape). f >>= type_function_from names room depth) read
    ∙ ap (λ (s : DeclaredShape). type_function_from names room depth (shape_of s) start) (sym holds)
    ∙ ap (λ (u : ℕ). term_at names room u start >>= around names (waits.TypeFunctions bound)) (sym one)

pub let_waits : {start : List ℕ} (names : List (List ℕ)) (room depth : ℕ) (bytes : List ℕ) (note : DeclaredNote)
    → let_start_at names room depth bytes ≡ Got (note_of note) start
    → term_rule_at (parts_in names room) LetRule depth bytes ≡ (term_at names room depth start >>= around names (waits.Rights note room depth))
unfolding let_from
let_waits names room depth bytes note read =
    let_begins names room depth bytes ∙ ap (λ (f : Found Note). f >>= let_from names room depth) read

pub choice_waits : {start : List ℕ} {first : Ty} {test : Var} (names : List (List ℕ)) (room depth : ℕ) (bytes : List ℕ) (type : Rc Ty Global)
    → choice_start_at names room depth bytes ≡ Got (type_of first, test) start → type.value ≡ first
    → term_rule_at (parts_in names room) IfRule depth bytes ≡ (term_at names room depth start >>= around names (waits.Positives type test room depth))
unfolding choice_from
choice_waits {start = start} {test = test} names room depth bytes type read holds =
    choice_begins names room depth bytes
    ∙ ap (λ (f : Found (CapturingType × Var)). f >>= choice_from names room depth) read
    ∙ ap (λ (t : Ty). choice_from names room depth (type_of t, test) start) (sym holds)

pub boundary_waits : {under : ℕ} {start : List ℕ} {first : DeclaredShape} (names : List (List ℕ)) (room depth : ℕ) (bytes : List ℕ) (gives : Rc DeclaredShape Global)
    → boundary_start_at names room depth bytes ≡ Got (shape_of first) start → gives.value ≡ first → under ≡ suc depth
    → term_rule_at (parts_in names room) BoundaryRule depth bytes ≡ (term_at names room under start >>= around names (waits.Boundaries gives))
unfolding boundary_from
boundary_waits {start = start} names room depth bytes gives read holds one =
    boundary_begins names room depth bytes
    ∙ ap (λ (f : Found Shape). f >>= boundary_from names room depth) read
    ∙ ap (λ (s : DeclaredShape). boundary_from names room depth (shape_of s) start) (sym holds)
    ∙ ap (λ (u : ℕ). term_at names room u start >>= around names (waits.Boundaries gives)) (sym one)

-- WHICH FORM BEGINS

-- from the forms that begin with such texts
abbrev begun_by : List (List ℕ) → Readers → ℕ → ℕ → List ℕ → Option (List ℕ) → Option (List ℕ) → Option (List ℕ) → Option (List ℕ) → Option (List ℕ) → Found Term
begun_by names parts room depth bytes function type_function binding choice boundary =
    begun function (term_rule_at parts FunRule depth)
    (begun type_function (term_rule_at parts TypeFunRule depth)
    (begun binding (term_rule_at parts LetRule depth)
    (begun choice (term_rule_at parts IfRule depth)
    (begun boundary (term_rule_at parts BoundaryRule depth) (plain_term_at names parts room depth bytes)))))

term_over-begun : (names : List (List ℕ)) (parts : Readers) (room depth : ℕ) (bytes : List ℕ)
    → term_over names parts room depth bytes
    ≡ begun_by names parts room depth bytes (after_prefix bytes (codes "fun (_")) (after_prefix bytes (codes "fun [_T")) (after_prefix bytes (codes "let _")) (after_prefix bytes (codes "if [")) (after_prefix bytes (codes "boundary ["))
unfolding term_over
term_over-begun names parts room depth bytes = refl

pub over_function : {rest : List ℕ} (names : List (List ℕ)) (parts : Readers) (room depth : ℕ) (bytes : List ℕ)
    → Some rest ≡ after_prefix bytes (codes "fun (_")
    → term_over names parts room depth bytes ≡ term_rule_at parts FunRule depth rest
unfolding begun
over_function names parts room depth bytes function =
    term_over-begun names parts room depth bytes
    ∙ λ i. begun_by names parts room depth bytes (sym function i) (after_prefix bytes (codes "fun [_T")) (after_prefix bytes (codes "let _")) (after_prefix bytes (codes "if [")) (after_prefix bytes (codes "boundary ["))

pub over_type_function : {rest : List ℕ} (names : List (List ℕ)) (parts : Readers) (room depth : ℕ) (bytes : List ℕ)
    → None ≡ after_prefix bytes (codes "fun (_") → Some rest ≡ after_prefix bytes (codes "fun [_T")
    → term_over names parts room depth bytes ≡ term_rule_at parts TypeFunRule depth rest
unfolding begun
over_type_function names parts room depth bytes function type_function =
    term_over-begun names parts room depth bytes
    ∙ λ i. begun_by names parts room depth bytes (sym function i) (sym type_function i) (after_prefix bytes (codes "let _")) (after_prefix bytes (codes "if [")) (after_prefix bytes (codes "boundary ["))

pub over_let : {rest : List ℕ} (names : List (List ℕ)) (parts : Readers) (room depth : ℕ) (bytes : List ℕ)
    → None ≡ after_prefix bytes (codes "fun (_") → None ≡ after_prefix bytes (codes "fun [_T") → Some rest ≡ after_prefix bytes (codes "let _")
    → term_over names parts room depth bytes ≡ term_rule_at parts LetRule depth rest
unfolding begun
over_let names parts room depth bytes function type_function binding =
    term_over-begun names parts room depth bytes
    ∙ λ i. begun_by names parts room depth bytes (sym function i) (sym type_function i) (sym binding i) (after_prefix bytes (codes "if [")) (after_prefix bytes (codes "boundary ["))

pub over_choice : {rest : List ℕ} (names : List (List ℕ)) (parts : Readers) (room depth : ℕ) (bytes : List ℕ)
    → None ≡ after_prefix bytes (codes "fun (_") → None ≡ after_prefix bytes (codes "fun [_T") → None ≡ after_prefix bytes (codes "let _") → Some rest ≡ after_prefix bytes (codes "if [")
    → term_over names parts room depth bytes ≡ term_rule_at parts IfRule depth rest
unfolding begun
over_choice names parts room depth bytes function type_function binding choice =
    term_over-begun names parts room depth bytes
    ∙ λ i. begun_by names parts room depth bytes (sym function i) (sym type_function i) (sym binding i) (sym choice i) (after_prefix bytes (codes "boundary ["))

pub over_boundary : {rest : List ℕ} (names : List (List ℕ)) (parts : Readers) (room depth : ℕ) (bytes : List ℕ)
    → None ≡ after_prefix bytes (codes "fun (_") → None ≡ after_prefix bytes (codes "fun [_T") → None ≡ after_prefix bytes (codes "let _") → None ≡ after_prefix bytes (codes "if [") → Some rest ≡ after_prefix bytes (codes "boundary [")
    → term_over names parts room depth bytes ≡ term_rule_at parts BoundaryRule depth rest
unfolding begun
over_boundary names parts room depth bytes function type_function binding choice boundary =
    term_over-begun names parts room depth bytes
    ∙ λ i. begun_by names parts room depth bytes (sym function i) (sym type_function i) (sym binding i) (sym choice i) (sym boundary i)

pub over_plain : (names : List (List ℕ)) (parts : Readers) (room depth : ℕ) (bytes : List ℕ)
    → None ≡ after_prefix bytes (codes "fun (_") → None ≡ after_prefix bytes (codes "fun [_T") → None ≡ after_prefix bytes (codes "let _") → None ≡ after_prefix bytes (codes "if [") → None ≡ after_prefix bytes (codes "boundary [")
    → term_over names parts room depth bytes ≡ plain_term_at names parts room depth bytes
unfolding begun
over_plain names parts room depth bytes function type_function binding choice boundary =
    term_over-begun names parts room depth bytes
    ∙ λ i. begun_by names parts room depth bytes (sym function i) (sym type_function i) (sym binding i) (sym choice i) (sym boundary i)

-- THE LOOPS

-- a reader that stops before anything waits
pub begins_stopped : {V A : Type 0} {found : Found Term} (names : List (List ℕ)) (room : ℕ) (view : V → A) (error : Stop) (first : Found A) (then : A → List ℕ → Found Term)
    → found ≡ (first >>= then) → Agrees view (Err error) first → Begins names room found (Err error)
begins_stopped names room view stops.Misfit first then is wrong = is ∙ ap (λ f. f >>= then) wrong
begins_stopped names room view stops.NoMemory first then is wrong = tt

-- a text that does not stand behind what waits
resumes_stopped : {V A : Type 0} {found : Found Term} (names : List (List ℕ)) (view : V → A) (error : Stop) (first : Found A) (then : A → List ℕ → Found Term) (waiting : List Waiting)
    → found ≡ (first >>= then) → Agrees view (Err error) first → Resumes names waiting found waiting (Err error)
resumes_stopped names view stops.Misfit first then waiting is wrong =
    ap (resumed (around names) waiting) (is ∙ ap (λ f. f >>= then) wrong) ∙ resumed-wrong (around names) waiting
resumes_stopped names view stops.NoMemory first then waiting is wrong = tt

-- a way down that stops
pub descends_stopped : {found here : Found Term} {old now : List Waiting} (names : List (List ℕ)) (room : ℕ) (over : Found Term) (new : List Waiting) (error : Stop)
    → Leads (around names) IsFit old found now here → here ≡ over → Begins names room over (Err error) → Resumes names old found new (Err error)
descends_stopped names room over new stops.Misfit leads is wrong = leads_wrong leads (is ∙ wrong)
descends_stopped names room over new stops.NoMemory leads is wrong = tt

-- where one more waits
pushed_in : {found : Found Term} {pushed : List Waiting} (names : List (List ℕ)) (old : List Waiting) (next : Waiting) (inner : Found Term)
    → pushed ≡ old ++ next ∷ [] → found ≡ (inner >>= around names next) → IsFit next
    → Leads (around names) IsFit (in_turn old) found (in_turn pushed) inner
pushed_in {found = found} names old next inner is begins fit =
    subst (λ (waiting : List Waiting). Leads (around names) IsFit (in_turn old) found waiting inner)
    (sym (ap in_turn is ∙ reverse-pushed old next)) (leads_in next inner leads_nowhere begins fit)

-- goes down to what one waits for that begins
pub down_further : {found here over : Found Term} {old pushed : List Waiting} (names : List (List ℕ)) (waiting : List Waiting) (next : Waiting) (inner : Found Term)
    → Leads (around names) IsFit old found (in_turn waiting) here → here ≡ over → pushed ≡ waiting ++ next ∷ []
    → over ≡ (inner >>= around names next) → IsFit next
    → Leads (around names) IsFit old found (in_turn pushed) inner
down_further names waiting next inner leads here_is is begins fit =
    leads_on leads (pushed_in names waiting next inner is (here_is ∙ begins) fit)

-- where the text behind the term does not stand there
pub turn_stopped : {next : Waiting} (names : List (List ℕ)) (term : Term) (bytes : List ℕ) (waiting : List Waiting) (error : Stop) (known : Waiting) (first : Found (Unit {0})) (then : Unit {0} → List ℕ → Found Term)
    → next ≡ known → around names known term bytes ≡ (first >>= then) → Agrees (λ (it : Unit {0}). it) (Err error) first
    → Resumes names (in_turn waiting) (around names next term bytes) (in_turn waiting) (Err error)
turn_stopped names term bytes waiting error known first then is reads wrong =
    resumes_stopped names (λ (it : Unit {0}). it) error first then (in_turn waiting) (ap (λ (w : Waiting). around names w term bytes) is ∙ reads) wrong
