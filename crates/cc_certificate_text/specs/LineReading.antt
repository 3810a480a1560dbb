-- Reading the lines of a certificate one by one. It goes the way of the code, and serves proofs.
use Rattle.std.specs.Prelude.{◌≡◌, ℕ, zero, suc, ◌-◌, Bool, true, false, ◌&&◌, ◌||◌, not, nat_lt, nat_le, List, []}
use Rattle.std.specs.Prelude.{◌∷◌, ◌++◌}
use Rattle.std.specs.Prelude.{length, drop, codes, Option, Some, None, is_some, if◌then◌else◌}
use Rattle.std.specs.Option.{option_map}
use Rattle.std.specs.List.{list_any}
use Rattle.std.specs.Str.{bytes_eq}
use Rattle.cc_capture.specs.Sets.{Set}
use Rattle.cc_core.specs.Shapes.{Shape, CapturingType}
use Rattle.cc_core.specs.Contexts.{Context}
use Rattle.cc_core.specs.WellFormed.{kinds_of, is_well_formed_type, is_well_formed_term}
use Rattle.cc_core.specs.Derivations.{Rule, ByElement, ByVariable, BySet, ByReflexivity, ByTransitivity, ByTypeVariable}
use Rattle.cc_core.specs.Derivations.{ByTop, ByFunction, ByTypeFunction, ByBox, ByCapturing, t-var, t-lit, t-abs}
use Rattle.cc_core.specs.Derivations.{t-tabs}
use Rattle.cc_core.specs.Derivations.{t-app, t-tapp, t-box, t-unbox, t-let, t-prim, t-if, t-repeat, t-op, t-boundary}
use Rattle.cc_core.specs.Derivations.{t-exit, t-sub, Claim, SetBelow, ShapeBelow, TypeBelow, OfType}
use Rattle.cc_words.specs.Words.{after_prefix, cut_at, split_at, all_of, number_of, name_of}
use Rattle.cc_certificate_text.specs.NodeTexts.{rule_text}
use Rattle.cc_certificate_text.specs.LocalNames.{has_binder}
use Rattle.cc_certificate_text.specs.Certificates.{CertificateNode, Line, Opens, Binds, States, Concludes, Stage, Start}
use Rattle.cc_certificate_text.specs.Certificates.{Binding, Proving, ClaimKind, OfSets, OfShapes, OfTypes, OfTerms}
use Rattle.cc_certificate_text.specs.Certificates.{rule_kind, binder_number}
use Rattle.cc_certificate_text.specs.Reading.{Found, Got, Wrong, Reader, ◌>>=◌, found_of, where_true, begun, Printed}
use Rattle.cc_certificate_text.specs.Reading.{Counted}
use Rattle.cc_certificate_text.specs.Reading.{exact_at, number_at, same_number_at, set_at, shape_at, type_at, term_at}

-- THE NUMBER OF A CLAIM'S BINDERS

-- the number of a binder that stands under no other, in a text that begins with a shape or a type, if one is there
unfoldable pub first_over : Reader ℕ → Reader ℕ
first_over deeper bytes =
    begun (after_prefix bytes (codes "((_")) number_at
    (begun (after_prefix bytes (codes "([_T")) number_at
    (begun (after_prefix bytes (codes "(_")) number_at
    (begun (after_prefix bytes (codes "[_T")) number_at
    (begun (after_prefix bytes (codes "Box[")) deeper
    (begun (after_prefix bytes (codes "Exit[")) deeper Wrong)))))

unfoldable pub first_at : ℕ → Reader ℕ
first_at zero bytes = Wrong
first_at (suc room) bytes = first_over (first_at room) bytes

-- the value that is found, if one is
abbrev pub value_of : {A : Type 0} → Found A → Option A
value_of (Got value rest) = Some value
value_of Wrong = None

-- the first number, or the other one where there is none
abbrev pub either_number : Option ℕ → Option ℕ → Option ℕ
either_number (Some number) other = Some number
either_number None other = other

abbrev pub same_truth : Bool → Bool → Bool
same_truth true b = b
same_truth false b = not b

-- CLAIMS

-- a claim, with the number of its binders
abbrev pub NumberedClaim : Type 0
NumberedClaim = Option ℕ × Claim

-- the claim with the number, where it has binders exactly if there is a number
abbrev pub numbered_claim : Option ℕ → Bool → Claim → List ℕ → Found NumberedClaim
numbered_claim first binders claim rest = where_true (same_truth binders (is_some first)) (Got (first, claim) rest)

unfoldable pub set_claim_at : List (List ℕ) → Reader NumberedClaim
set_claim_at names bytes =
    exact_at (codes "{") bytes >>= λ open_brace rest. set_at Printed names 0 rest >>= λ left rest.
    exact_at (codes " <: {") rest >>= λ below rest. set_at Printed names 0 rest >>= λ right rest.
    Got (None, SetBelow left right) rest

-- the number of the binders of two sides, where this one is that of the first
abbrev pub first_behind : Option ℕ → List ℕ → Option ℕ
first_behind first rest = either_number first (value_of (first_at 5000 rest))

-- the right side, with the number of both
unfoldable pub right_at : {A : Type 0} → (ℕ → Reader A) → (A → Bool) → (A → A → Claim) → A → Option ℕ
    → Reader NumberedClaim
right_at reader binders make left first bytes =
    reader (binder_number first) bytes >>= λ right rest.
    numbered_claim first (binders left || binders right) (make left right) rest

-- the two sides, from a reader under each number of binders
unfoldable pub below_at : {A : Type 0} → (ℕ → Reader A) → (A → Bool) → (A → A → Claim) → Reader NumberedClaim
below_at reader binders make bytes =
    reader (binder_number (value_of (first_at 5000 bytes))) bytes >>= λ left rest.
    exact_at (codes " <: ") rest >>= λ below rest.
    right_at reader binders make left (first_behind (value_of (first_at 5000 bytes)) rest) rest

abbrev pub type_has_binder : CapturingType → Bool
type_has_binder type = has_binder type.shape

unfoldable pub typing_claim_at : List (List ℕ) → Reader NumberedClaim
typing_claim_at names bytes =
    exact_at (codes ": ") bytes >>= λ colon rest.
    type_at Printed names 5000 (binder_number (value_of (first_at 5000 rest))) rest >>= λ type behind.
    numbered_claim (value_of (first_at 5000 rest)) (has_binder type.shape) (OfType type) behind

unfoldable pub claim_at : List (List ℕ) → ClaimKind → Reader NumberedClaim
claim_at names OfSets bytes = set_claim_at names bytes
claim_at names OfShapes bytes = below_at (shape_at Printed names 5000) has_binder ShapeBelow bytes
claim_at names OfTypes bytes = below_at (type_at Printed names 5000) type_has_binder TypeBelow bytes
claim_at names OfTerms bytes = typing_claim_at names bytes

-- NODES

-- the first of the rules that the word is
abbrev pub rule_among : List Rule → List ℕ → Option Rule
rule_among [] word = None
rule_among (rule ∷ rules) word = if bytes_eq word (rule_text rule) then Some rule else rule_among rules word

abbrev pub all_rules : List Rule
all_rules =
    ByElement ∷ ByVariable ∷ BySet ∷ ByReflexivity ∷ ByTransitivity ∷ ByTypeVariable ∷ ByTop ∷ ByFunction ∷
    ByTypeFunction ∷ ByBox ∷ ByCapturing ∷ t-var ∷ t-lit ∷ t-abs ∷ t-tabs ∷ t-app ∷ t-tapp ∷ t-box ∷ t-unbox ∷ t-let ∷
    t-prim ∷ t-if ∷ t-repeat ∷ t-op ∷ t-boundary ∷ t-exit ∷ t-sub ∷ []

unfoldable pub rule_of : List ℕ → Option Rule
rule_of word = rule_among all_rules word

-- what was cut off is a rule
abbrev pub rule_of_cut : Option (List ℕ × List ℕ) → Found Rule
rule_of_cut (Some cut) = found_of (rule_of cut.0) cut.1
rule_of_cut None = Wrong

-- a rule, and the space behind it
unfoldable pub rule_at : Reader Rule
rule_at bytes = rule_of_cut (cut_at 32 bytes)

-- the numbers with spaces between them
abbrev pub some_numbers : List ℕ → Option (List ℕ)
some_numbers [] = Some []
some_numbers (b ∷ bs) = all_of (number_of 4294967295) (split_at 32 (b ∷ bs))

unfoldable pub numbers_of : List ℕ → Option (List ℕ)
numbers_of content = some_numbers content

abbrev pub numbers_of_cut : Option (List ℕ × List ℕ) → Found (List ℕ)
numbers_of_cut (Some cut) = found_of (numbers_of cut.0) cut.1
numbers_of_cut None = Wrong

-- numbers, behind their bracket
unfoldable pub numbers_at : Reader (List ℕ)
numbers_at bytes = numbers_of_cut (cut_at 93 bytes)

-- whether the list ends with the other
unfoldable pub ends_with : List ℕ → List ℕ → Bool
ends_with numbers last =
    nat_le (length last) (length numbers) && bytes_eq (drop (length numbers - length last) numbers) last

-- the claim of a node, behind its rule and its premises
unfoldable pub conclusion_at : List (List ℕ) → Rule → List ℕ → Reader Line
conclusion_at names rule premises bytes =
    exact_at (codes " ") bytes >>= λ space rest. claim_at names (rule_kind rule) rest >>= λ claim behind.
    Got (Concludes (record { rule = rule; premises = premises; first = claim.0; claim = claim.1 })) behind

-- a node, behind its number and the space
unfoldable pub numbered_node_at : List (List ℕ) → List ℕ → Reader Line
numbered_node_at names unused bytes =
    rule_at bytes >>= λ rule rest. exact_at (codes "[") rest >>= λ bracket rest. numbers_at rest >>= λ premises rest.
    where_true (ends_with unused premises) (conclusion_at names rule premises rest)

unfoldable pub node_at : List (List ℕ) → ℕ → List ℕ → Reader Line
node_at names count unused bytes =
    where_true (nat_lt count 100000) (same_number_at (suc count) bytes) >>= λ number rest.
    exact_at (codes " ") rest >>= λ space rest. numbered_node_at names unused rest

-- BINDS AND THE TERM

abbrev pub name_of_cut : Option (List ℕ × List ℕ) → Found (List ℕ)
name_of_cut (Some cut) = found_of (name_of cut.0) cut.1
name_of_cut None = Wrong

-- a name, and the colon behind it
unfoldable pub name_at : Reader (List ℕ)
name_at bytes = name_of_cut (cut_at 58 bytes)

-- the name and the type of a bind
unfoldable pub bind_at : List (List ℕ) → Context → Reader Line
bind_at names context bytes =
    name_at bytes >>= λ name rest.
    where_true (not (list_any (bytes_eq name) names)) (exact_at (codes " ") rest) >>= λ space rest.
    type_at Counted names 5000 0 rest >>= λ type behind.
    where_true (is_well_formed_type (kinds_of context) [] type) (Got (Binds name type) behind)

unfoldable pub statement_at : List (List ℕ) → Context → Reader Line
statement_at names context bytes =
    term_at names 5000 0 bytes >>= λ term rest.
    where_true (is_well_formed_term (kinds_of context) [] term) (Got (States term) rest)

-- a line that fits at the stage
unfoldable pub line_at : Stage → Reader Line
line_at Start bytes = exact_at (codes "cert 1") bytes >>= λ text rest. Got Opens rest
line_at (Binding names context) bytes =
    begun (after_prefix bytes (codes "bind ")) (bind_at names context)
    (begun (after_prefix bytes (codes "term ")) (statement_at names context) Wrong)
line_at (Proving names count unused) bytes = node_at names count unused bytes

-- a line that fits, with its line feed
unfoldable pub next_line : Stage → Reader Line
next_line stage bytes = line_at stage bytes >>= λ line rest. exact_at (10 ∷ []) rest >>= λ feed behind. Got line behind
