-- What the loops over devices, findings and imports need.
use Rattle.std.proofs.Common.{◌≡◌, ℕ, suc, ◌+◌, ◌<◌, List, [], ◌∷◌, ◌++◌, map, reverse, length, take, drop, get_or, sym, ap, ◌∙◌, drop-cons, add-one, Option, None, arith}
use Rattle.std.proofs.lemmas.List.{map-append, reverse-append, take_more}
use Rattle.cc_base.specs.declared.device.DeviceDecl.{DeviceDecl}
use Rattle.cc_base.specs.declared.literal.Import.{Import}
use Rattle.cc_core.specs.Contexts.{Context}
use Rattle.cc_core.specs.Programs.{device_entry}
use Rattle.cc_device.specs.Declarations.{declared_base, declared_bases}
use Rattle.cc_verdicts.specs.ModuleVerdicts.{Refusal, declared_context, code_of, missing_or, first_missing}
use Rattle.cc_module.specs.declared.finding.Finding.{Finding as DeclaredFinding}
use Rattle.cc_module.specs.Findings.{finding_of}
use Rattle.cc_parse.specs.Trees.{import_syntax}

-- what is left of a list begins with the item at the index
pub drop_next : {A : Type 0} (list : List A) (index : ℕ) (item : A) → index < length list → item ≡ get_or list index item
    → drop index list ≡ item ∷ drop (index + 1) list
drop_next list index item below is =
    drop-cons list index item below
    ∙ ap (λ x. x ∷ drop (suc index) list) (sym is)
    ∙ ap (λ n. item ∷ drop n list) (sym (add-one index))

-- the context of one device more
one_device : (devices : List DeviceDecl) (device : DeviceDecl)
    → declared_context (devices ++ device ∷ []) ≡ device_entry (declared_base device.kind) ∷ declared_context devices
one_device devices device =
    ap (λ bases. map device_entry (reverse bases)) (map-append (λ (d : DeviceDecl). declared_base d.kind) devices (device ∷ []))
    ∙ ap (map device_entry) (reverse-append (declared_bases devices) (declared_base device.kind ∷ []))

pub device_more : (devices : List DeviceDecl) (index : ℕ) (device : DeviceDecl) (g more : Context)
    → index < length devices → device ≡ get_or devices index device → g ≡ declared_context (take index devices)
    → more ≡ device_entry (declared_base device.kind) ∷ g → more ≡ declared_context (take (index + 1) devices)
device_more devices index device g more below is was new =
    new ∙ ap (λ x. device_entry (declared_base device.kind) ∷ x) was
    ∙ sym (ap declared_context (take_more devices index device below ∙ ap (λ d. take index devices ++ d ∷ []) (sym is))
    ∙ one_device (take index devices) device)

-- what is left of a list below its length begins with some item
pub drop_some : {A : Type 0} (list : List A) (index : ℕ) → index < length list
    → (item : A) × (drop index list ≡ item ∷ drop (index + 1) list)
drop_some [] index below = absurd (omega arith)
drop_some (x ∷ list) index below = (
  get_or (x ∷ list) index x,
  drop-cons (x ∷ list) index x below ∙ ap (λ n. get_or (x ∷ list) index x ∷ drop n (x ∷ list)) (sym (add-one index)),
)

-- a definition is found for the next import
pub missing_more : (imports : List Import) (findings : List DeclaredFinding) (index : ℕ) (finding : DeclaredFinding) (whole : Option Refusal)
    → index < length imports → index < length findings → finding ≡ get_or findings index finding
    → code_of (finding_of finding) ≡ None
    → first_missing (map import_syntax (drop index imports)) (map finding_of (drop index findings)) ≡ whole
    → first_missing (map import_syntax (drop (index + 1) imports)) (map finding_of (drop (index + 1) findings)) ≡ whole
missing_more imports findings index finding whole below also is found was =
    let one = drop_some imports index below in
    let rest = first_missing (map import_syntax (drop (index + 1) imports)) (map finding_of (drop (index + 1) findings)) in
    sym (ap (λ l. first_missing (map import_syntax l) (map finding_of (drop index findings))) one.1
    ∙ ap (λ l. first_missing (map import_syntax (one.0 ∷ drop (index + 1) imports)) (map finding_of l)) (drop_next findings index finding also is)
    ∙ ap (λ o. missing_or (import_syntax one.0).at o rest) found) ∙ was
