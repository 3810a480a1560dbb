-- Definitions found by the places of their names.
use Rattle.std.proofs.Common.{◌≡◌, ℕ, ◌+◌, ◌<◌, Bool, true, false, List, [], ◌∷◌, length, get_or, map, drop}
use Rattle.std.proofs.Common.{Option, Some, None, refl, sym, ap, ◌∙◌, if◌then◌else◌}
use Rattle.std.proofs.lemmas.Option.{slice_get_read}
use Rattle.std.specs.List.{slice_get}
use Rattle.std.specs.Option.{option_map}
use Rattle.std.specs.Str.{bytes_eq}
use Rattle.cc_verdicts.specs.ModuleVerdicts.{CheckedDefinition}
use Rattle.cc_verdicts.specs.PresentTexts.{definition_named}
use Rattle.cc_module.specs.DefinitionPlaces.{place_in, first_named, definition_at}
use Rattle.cc_module.specs.Judgements.{checked_definition_of}
use Rattle.cc_module.specs.declared.judgement.CheckedDef.{CheckedDef}
use Rattle.cc_module.specs.declared.definitions.Places.{Places}
use Rattle.cc_module.proofs.ContextLoops.{drop_next}

by_name : (defs : List CheckedDef) (left : ℕ) (one : CheckedDef) (earlier : Option ℕ) (later : Option CheckedDef)
    → slice_get defs left ≡ Some one → definition_at defs earlier ≡ later → (same : Bool)
    → definition_at defs (if same then Some left else earlier) ≡ (if same then Some one else later)
by_name defs left one earlier later stands found true = stands
by_name defs left one earlier later stands found false = found

-- one definition more in front of those that are found
pub found_more : (defs : List CheckedDef) (left : ℕ) (one : CheckedDef) → left < length defs → one ≡ get_or defs left one
    → (old new : Places)
    → ((name : List ℕ) → definition_at defs (place_in old name) ≡ first_named name (drop (left + 1) defs))
    → ((name : List ℕ) → place_in new name ≡ (if bytes_eq one.name name then Some left else place_in old name))
    → (name : List ℕ) → definition_at defs (place_in new name) ≡ first_named name (drop left defs)
found_more defs left one within is old new so_far put name =
    ap (definition_at defs) (put name)
    ∙ by_name defs left one (place_in old name) (first_named name (drop (left + 1) defs))
    (slice_get_read defs (length defs) left one refl within is) (so_far name) (bytes_eq one.name name)
    ∙ sym (ap (first_named name) (drop_next defs left one within is))

named_or : (one : CheckedDef) (later : Option CheckedDef) (named : Option CheckedDefinition)
    → option_map checked_definition_of later ≡ named → (same : Bool)
    → option_map checked_definition_of (if same then Some one else later)
    ≡ (if same then Some (checked_definition_of one) else named)
named_or one later named is true = refl
named_or one later named is false = is

first_is_named : (name : List ℕ) (defs : List CheckedDef)
    → option_map checked_definition_of (first_named name defs) ≡ definition_named name (map checked_definition_of defs)
first_is_named name [] = refl
first_is_named name (first ∷ rest) =
    named_or first (first_named name rest) (definition_named name (map checked_definition_of rest))
    (first_is_named name rest) (bytes_eq first.name name)

-- the first definition of the name, as it is lent
pub first_seen : {R : Type 0} (now : R → CheckedDef) (seen : Option R) (name : List ℕ) (defs : List CheckedDef)
    → option_map now seen ≡ first_named name defs
    → option_map (λ r. checked_definition_of (now r)) seen ≡ definition_named name (map checked_definition_of defs)
first_seen now None name defs is = ap (option_map checked_definition_of) is ∙ first_is_named name defs
first_seen now (Some r) name defs is = ap (option_map checked_definition_of) is ∙ first_is_named name defs
