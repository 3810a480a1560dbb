-- What stays known of modules that were answered finds what is found in them.
use Rattle.std.proofs.Common.{◌≡◌, ℕ, ◌+◌, ◌<◌, Bool, true, false, cond, List, [], ◌∷◌, ◌++◌, length, get_or, map, drop}
use Rattle.std.proofs.Common.{Option, Some, None, inl, inr, refl, sym, ap, ◌∙◌, subst, if◌then◌else◌}
use Rattle.std.specs.Option.{is_some}
use Rattle.std.specs.Map.{lookup}
use Rattle.std.specs.Option.{option_map}
use Rattle.std.specs.Str.{bytes_eq}
use Rattle.std.proofs.lemmas.Bool.{cases_Bool, false_from_ne_true}
use Rattle.std.proofs.lemmas.Slice.Eq.{bytes_eq-Decides}
use Rattle.cc_core.specs.Programs.{Definition, definition_named}
use Rattle.cc_core.specs.Shapes.{CapturingType}
use Rattle.cc_core.specs.TermViews.{type_of}
use Rattle.cc_core.specs.declared.types.Ty.{Ty}
use Rattle.cc_mnf.proofs.ModuleLoops.{drop_next}
use Rattle.cc_verdicts.specs.ModuleVerdicts.{FoundDefinition, NoModule}
use Rattle.cc_vouching.specs.VouchedModules.{Answer, Vouches, RefusesText, RefusesDefinition, Answered, found_or_none, found_in}
use Rattle.cc_vouch.specs.VouchViews.{definition_of}
use Rattle.cc_vouch.specs.declared.definitions.Vouched.{Vouched}
use Rattle.cc_module_vouching.specs.KeptFindings.{signature_in, first_signature, signature_finding, kept_finding, module_finding, module_in, KeepsAnswers}
use Rattle.cc_module_vouching.specs.declared.answered.Signatures.{Signatures}
use Rattle.cc_module_vouching.specs.declared.answered.Kept.{Kept}
use Rattle.cc_module_vouching.specs.declared.answered.Kept.TheVariants as kept
use Rattle.cc_module_vouching.specs.declared.answered.AnsweredModules.{AnsweredModules}

-- the signature that is given, or the earlier one
pub signature_either : (same : Bool) (type : Ty) (given : CapturingType) (earlier : Option Ty) → type_of type ≡ given
    → option_map type_of (cond same (Some type) earlier) ≡ (if same then Some given else option_map type_of earlier)
signature_either true type given earlier is = ap (λ t. Some t) is
signature_either false type given earlier is = refl

-- one signature more in front of those that are found
pub signatures_more : (definitions : List Vouched) (left : ℕ) (one : Vouched) → left < length definitions
    → one ≡ get_or definitions left one → (old new : Signatures)
    → ((name : List ℕ) → signature_in old name ≡ first_signature name (drop (left + 1) definitions))
    → ((name : List ℕ) → signature_in new name
    ≡ (if bytes_eq one.name name then Some (type_of one.sig) else signature_in old name))
    → (name : List ℕ) → signature_in new name ≡ first_signature name (drop left definitions)
signatures_more definitions left one within is old new so_far put name =
    put name
    ∙ ap (λ later. if bytes_eq one.name name then Some (type_of one.sig) else later) (so_far name)
    ∙ sym (ap (first_signature name) (drop_next definitions left one within is))

found_either : (same : Bool) (signature : CapturingType) (one : Definition) (later : Option CapturingType)
    (named : Option Definition) → one.signature ≡ signature → signature_finding later ≡ found_or_none named
    → signature_finding (if same then Some signature else later) ≡ found_or_none (if same then Some one else named)
found_either true signature one later named is same = ap FoundDefinition (sym is)
found_either false signature one later named is same = same

-- the first signature of a name is that of the first definition of the name
pub first_signature_found : (name : List ℕ) (definitions : List Vouched)
    → signature_finding (first_signature name definitions)
    ≡ found_or_none (definition_named name (map definition_of definitions))
first_signature_found name [] = refl
first_signature_found name (first ∷ rest) =
    found_either (bytes_eq first.name name) (type_of first.sig) (definition_of first) (first_signature name rest)
    (definition_named name (map definition_of rest)) refl (first_signature_found name rest)

-- what is found in a module is no absence of it
signature_is_there : (o : Option CapturingType) → signature_finding o ≡ NoModule → ⊥
signature_is_there None is = cc
signature_is_there (Some signature) is = cc

kept_is_there : (it : Kept) (name : List ℕ) → kept_finding it name ≡ NoModule → ⊥
kept_is_there kept.Refused name is = cc
kept_is_there (kept.Vouched signatures) name is = signature_is_there (signature_in signatures name) is

definition_is_there : (o : Option Definition) → found_or_none o ≡ NoModule → ⊥
definition_is_there None is = cc
definition_is_there (Some definition) is = cc

answer_is_there : (answer : Answer) (name : List ℕ) → found_in (Some answer) name ≡ NoModule → ⊥
answer_is_there (Vouches definitions) name is = definition_is_there (definition_named name definitions) is
answer_is_there (RefusesText code at) name is = cc
answer_is_there (RefusesDefinition definition reason) name is = cc

clash : (b : Bool) → b ≡ true → b ≡ false → ⊥
clash b yes_it no_it = cc

-- what is found of a name where one more answer stands behind the others, which may be of this name
abbrev or_last : Option Answer → Bool → Answer → Option Answer
or_last (Some first) same answer = Some first
or_last None same answer = if same then Some answer else None

first_or : (test : Bool) (value : Answer) (now later : Option Answer) (same : Bool) (answer : Answer)
    → now ≡ or_last later same answer
    → (if test then Some value else now) ≡ or_last (if test then Some value else later) same answer
first_or true value now later same answer is = refl
first_or false value now later same answer is = is

lookup_behind : (source : List ℕ) (answered : Answered) (name : List ℕ) (answer : Answer)
    → lookup (bytes_eq source) (answered ++ (name, answer) ∷ [])
    ≡ or_last (lookup (bytes_eq source) answered) (bytes_eq source name) answer
lookup_behind source [] name answer = refl
lookup_behind source (first ∷ rest) name answer =
    first_or (bytes_eq source first.0) first.1 (lookup (bytes_eq source) (rest ++ (name, answer) ∷ []))
    (lookup (bytes_eq source) rest) (bytes_eq source name) answer (lookup_behind source rest name answer)

either_way : (a b : List ℕ) → bytes_eq a b ≡ bytes_eq b a
either_way a b =
    elim (cases_Bool (bytes_eq a b)) [
      | inl same ↦ same ∙ sym ((bytes_eq-Decides b a).1 (sym ((bytes_eq-Decides a b).0 same)))
      | inr apart ↦
          apart
          ∙ sym (false_from_ne_true (bytes_eq b a)
          (λ back. clash (bytes_eq a b) ((bytes_eq-Decides a b).1 (sym ((bytes_eq-Decides b a).0 back))) apart))
    ]

-- the first answer of a name stays
first_stays : (found : Option Answer) (same : Bool) (answer : Answer) → (same ≡ true → found ≡ None → ⊥)
    → or_last found same answer ≡ found
first_stays (Some first) same answer there = refl
first_stays None true answer there = absurd (there refl refl)
first_stays None false answer there = refl

kept_is_found : (o : Option Kept) (name : List ℕ) → is_some o ≡ true → module_finding o name ≡ NoModule → ⊥
kept_is_found None name there is = cc
kept_is_found (Some it) name there is = kept_is_there it name is

-- a module of a name that was answered changes nothing
pub keeps_earlier : (modules : AnsweredModules) (name : List ℕ) (answer : Answer) → true ≡ is_some (module_in modules name)
    → (answered : Answered) → KeepsAnswers modules answered → KeepsAnswers modules (answered ++ (name, answer) ∷ [])
keeps_earlier modules name answer there answered keeps source one =
    let found = lookup (bytes_eq source) answered in
    let stays : or_last found (bytes_eq source name) answer ≡ found =
    first_stays found (bytes_eq source name) answer
    (λ same none.
    kept_is_found (module_in modules source) one
    (subst (λ n. is_some (module_in modules n) ≡ true) (sym ((bytes_eq-Decides source name).0 same)) (sym there))
    (keeps source one ∙ ap (λ o. found_in o one) none)) in
    keeps source one ∙ ap (λ o. found_in o one) (sym stays)
    ∙ ap (λ o. found_in o one) (sym (lookup_behind source answered name answer))

one_more : (same : Bool) (it : Kept) (earlier : Option Kept) (found : Option Answer) (answer : Answer) (name : List ℕ)
    → kept_finding it name ≡ found_in (Some answer) name → (same ≡ true → is_some earlier ≡ false)
    → module_finding earlier name ≡ found_in found name
    → module_finding (if same then Some it else earlier) name ≡ found_in (or_last found same answer) name
one_more true it earlier None answer name is none keeps = is
one_more true it None (Some first) answer name is none keeps = absurd (answer_is_there first name (sym keeps))
one_more true it (Some other) (Some first) answer name is none keeps = absurd (clash true refl (none refl))
one_more false it earlier None answer name is none keeps = keeps
one_more false it earlier (Some first) answer name is none keeps = keeps

-- one module more
pub keeps_more : (old new : AnsweredModules) (it : Kept) (name : List ℕ) (answer : Answer)
    → false ≡ is_some (module_in old name)
    → ((one : List ℕ) → kept_finding it one ≡ found_in (Some answer) one)
    → ((other : List ℕ) → module_in new other ≡ (if bytes_eq name other then Some it else module_in old other))
    → (answered : Answered) → KeepsAnswers old answered → KeepsAnswers new (answered ++ (name, answer) ∷ [])
keeps_more old new it name answer absent is put answered keeps source one =
    let found = lookup (bytes_eq source) answered in
    ap (λ o. module_finding o one) (put source)
    ∙ one_more (bytes_eq name source) it (module_in old source) found answer one (is one)
    (λ same. subst (λ n. is_some (module_in old n) ≡ false) ((bytes_eq-Decides name source).0 same) (sym absent))
    (keeps source one)
    ∙ ap (λ same. found_in (or_last found same answer) one) (either_way name source)
    ∙ ap (λ o. found_in o one) (sym (lookup_behind source answered name answer))
