-- What is known of a definition where it stands binds the context of the definition in its program.
use Rattle.std.proofs.Common.{◌≡◌, ℕ, Bool, true, false, cond, List, [], ◌∷◌, ◌++◌, map, reverse, Option, Some, None, refl, sym, ap, ◌∙◌, append_assoc}
use Rattle.std.proofs.lemmas.List.{reverse-append, map-append, append-nil}
use Rattle.cc_base.specs.declared.device.DeviceDecl.{DeviceDecl}
use Rattle.cc_core.specs.Contexts.{Bind, Context, entry_of}
use Rattle.cc_core.specs.Programs.{Definition, device_entry, device_context, definition_context, own_context}
use Rattle.cc_core.specs.Shapes.{CapturingType}
use Rattle.cc_device.specs.Declarations.{declared_base, declared_bases}
use Rattle.cc_grammar.specs.Syntax.{ImportSyntax}
use Rattle.cc_mnf.specs.ElaboratedModules.{CoreDefinition}
use Rattle.cc_verdicts.specs.ModuleVerdicts.{Finding, FoundDefinition, NoModule, InCycle, RefusedModule, NoDefinition, declared_context, with_finding, with_findings}
use Rattle.cc_certificate_judging.specs.CertificateParts.{CertificateBind, bound_context}
use Rattle.cc_certificate_judging.specs.Judging.{with_binds}
use Rattle.cc_vouching.specs.VouchedDefinitions.{Proof, Surroundings, device_bind, import_bind, import_binds, definition_bind, own_bind, known_binds, vouched_definition}

-- the context of binds behind a context
abbrev bound_from : Context → List CertificateBind → Context
bound_from g binds = with_binds g (map (λ bind. bind.1) binds)

bound_from-append : (xs ys : List CertificateBind) (g : Context)
    → bound_from g (xs ++ ys) ≡ bound_from (bound_from g xs) ys
bound_from-append [] ys g = refl
bound_from-append (x ∷ xs) ys g = bound_from-append xs ys (entry_of x.1 ∷ g)

-- turned round, the first one stands behind the others
turned : {A : Type 0} (f : A → Bind) (x : A) (xs : List A) (g : Context)
    → map f (reverse (x ∷ xs)) ++ g ≡ map f (reverse xs) ++ f x ∷ g
turned f x xs g =
    ap (λ l. map f l ++ g) (reverse-append (x ∷ []) xs)
    ∙ ap (λ l. l ++ g) (map-append f (reverse xs) (x ∷ []))
    ∙ append_assoc (map f (reverse xs)) (f x ∷ []) g

devices_bound : (devices : List DeviceDecl) (g : Context)
    → bound_from g (map device_bind devices) ≡ map device_entry (reverse (declared_bases devices)) ++ g
devices_bound [] g = refl
devices_bound (device ∷ devices) g =
    devices_bound devices (device_entry (declared_base device.kind) ∷ g)
    ∙ sym (turned device_entry (declared_base device.kind) (declared_bases devices) g)

import_bound : (one : ImportSyntax) (finding : Finding) (rest : List CertificateBind) (g : Context)
    → bound_from g (import_bind one finding ++ rest) ≡ bound_from (with_finding g finding) rest
import_bound one (FoundDefinition signature) rest g = refl
import_bound one NoModule rest g = refl
import_bound one InCycle rest g = refl
import_bound one RefusedModule rest g = refl
import_bound one NoDefinition rest g = refl

imports_bound : (found : ImportSyntax → Finding) (imports : List ImportSyntax) (g : Context)
    → bound_from g (import_binds imports (map found imports)) ≡ with_findings g (map found imports)
imports_bound found [] g = refl
imports_bound found (one ∷ imports) g =
    import_bound one (found one) (import_binds imports (map found imports)) g
    ∙ imports_bound found imports (with_finding g (found one))

definitions_bound : (before : List Definition) (g : Context)
    → bound_from g (map definition_bind before) ≡ definition_context g (reverse before)
definitions_bound [] g = refl
definitions_bound (first ∷ before) g =
    definitions_bound before (entry_of first.signature ∷ g)
    ∙ sym (turned (λ (one : Definition). entry_of one.signature) first before g)

own_bound : (definition : CoreDefinition) (signature : CapturingType) (g : Context)
    → bound_from g (own_bind definition (Some signature))
    ≡ cond definition.recursive (entry_of signature ∷ g) g
own_bound definition signature g = by_test definition.recursive
  where
    by_test : (test : Bool) → bound_from g (cond test ((definition.name, signature) ∷ []) [])
        ≡ cond test (entry_of signature ∷ g) g
    by_test true = refl
    by_test false = refl

-- the context of the devices, of what is found for imports and of definitions
abbrev pub known_globals : List DeviceDecl → List Finding → List Definition → Context
known_globals devices findings before =
    definition_context (with_findings (declared_context devices) findings) (reverse before)

pub known_bound : (devices : List DeviceDecl) (found : ImportSyntax → Finding) (imports : List ImportSyntax)
    (before : List Definition) (definition : CoreDefinition) (proof : Proof) (signature : CapturingType)
    → bound_context (known_binds
    (record { devices = devices; imports = imports; findings = map found imports; before = before }) definition
    (Some signature))
    ≡ own_context (known_globals devices (map found imports) before) (vouched_definition definition proof signature)
known_bound devices found imports before definition proof signature =
    let declared = map device_bind devices in
    let imported = import_binds imports (map found imports) in
    let earlier = map definition_bind before in
    let own = own_bind definition (Some signature) in
    let g = declared_context devices in
    let first : bound_from [] declared ≡ g = devices_bound devices [] ∙ append-nil g in
    bound_from-append (declared ++ imported ++ earlier) own []
    ∙ ap (λ c. bound_from c own)
    (bound_from-append (declared ++ imported) earlier []
    ∙ ap (λ c. bound_from c earlier) (bound_from-append declared imported []
    ∙ ap (λ c. bound_from c imported) first ∙ imports_bound found imports g)
    ∙ definitions_bound before (with_findings g (map found imports)))
    ∙ own_bound definition signature (known_globals devices (map found imports) before)

-- the devices stand at the bottom of it
found_later : (g : Context) (findings : List Finding) → (later : Context) × (with_findings g findings ≡ later ++ g)
found_later g [] = ([], refl)
found_later g (FoundDefinition signature ∷ findings) =
    let rest = found_later (entry_of signature ∷ g) findings in
    (rest.0 ++ entry_of signature ∷ [], rest.1 ∙ sym (append_assoc rest.0 (entry_of signature ∷ []) g))
found_later g (NoModule ∷ findings) = found_later g findings
found_later g (InCycle ∷ findings) = found_later g findings
found_later g (RefusedModule ∷ findings) = found_later g findings
found_later g (NoDefinition ∷ findings) = found_later g findings

globals_later : (devices : List DeviceDecl) (findings : List Finding) (before : List Definition)
    → (later : Context) × (known_globals devices findings before ≡ later ++ declared_context devices)
globals_later devices findings before =
    let found = found_later (declared_context devices) findings in
    let entries = map (λ (it : Definition). entry_of it.signature) (reverse before) in (
      entries ++ found.0,
      ap (λ c. entries ++ c) found.1 ∙ sym (append_assoc entries found.0 (declared_context devices)),
    )

own_by : (test : Bool) (entry : Bind) (g base : Context) → (later : Context) × (g ≡ later ++ base)
    → (later : Context) × (cond test (entry ∷ g) g ≡ later ++ base)
own_by true entry g base h = (entry ∷ h.0, ap (λ c. entry ∷ c) h.1)
own_by false entry g base h = h

pub own_later : (devices : List DeviceDecl) (findings : List Finding) (before : List Definition) (one : Definition)
    → (later : Context) × (own_context (known_globals devices findings before) one ≡ later ++ declared_context devices)
own_later devices findings before one =
    own_by one.is_recursive (entry_of one.signature) (known_globals devices findings before) (declared_context devices)
    (globals_later devices findings before)
