-- Binds are told by their names and by the context of their types; and what is known of a definition has its names.
use Rattle.std.proofs.Common.{◌≡◌, ℕ, Bool, true, false, cond, List, [], ◌∷◌, ◌++◌, map, reverse, length, None, Some, refl, sym, ap, ◌∙◌, append_assoc, arith}
use Rattle.std.proofs.lemmas.List.{reverse-append, reverse-reverse, map-append, append-nil}
use Rattle.cc_base.specs.declared.device.DeviceDecl.{DeviceDecl}
use Rattle.cc_core.specs.Contexts.{Context, entry_of}
use Rattle.cc_core.specs.Shapes.{CapturingType}
use Rattle.cc_grammar.specs.Syntax.{ImportSyntax}
use Rattle.cc_mnf.specs.ElaboratedModules.{CoreDefinition, device_names, import_names}
use Rattle.cc_verdicts.specs.ModuleVerdicts.{Finding, FoundDefinition, NoModule, InCycle, RefusedModule, NoDefinition, CheckedDefinition, first_missing, in_program}
use Rattle.cc_certificate_judging.specs.CertificateParts.{CertificateBind, bound_context, bound_names}
use Rattle.cc_certificate_judging.specs.Judging.{with_binds}
use Rattle.cc_vouching.specs.VouchedDefinitions.{device_bind, import_binds, definition_bind, own_bind}

-- CONTEXTS

turned : (type : CapturingType) (types : List CapturingType) (g : Context)
    → map entry_of (reverse (type ∷ types)) ++ g ≡ map entry_of (reverse types) ++ entry_of type ∷ g
turned type types g =
    ap (λ l. map entry_of l ++ g) (reverse-append (type ∷ []) types)
    ∙ ap (λ l. l ++ g) (map-append entry_of (reverse types) (type ∷ []))
    ∙ append_assoc (map entry_of (reverse types)) (entry_of type ∷ []) g

bound_entries : (types : List CapturingType) (g : Context) → with_binds g types ≡ map entry_of (reverse types) ++ g
bound_entries [] g = refl
bound_entries (type ∷ types) g = bound_entries types (entry_of type ∷ g) ∙ sym (turned type types g)

same_entry : (a b : CapturingType) → entry_of a ≡ entry_of b → a ≡ b
same_entry a b e =
    let shape : a.shape ≡ b.shape = cc in
    let set : a.set ≡ b.set = cc in
    λ i. record { shape = shape i; set = set i }

head_same : {A : Type 0} {x y : A} {xs ys : List A} → x ∷ xs ≡ y ∷ ys → x ≡ y
head_same e = cc

tail_same : {A : Type 0} {x y : A} {xs ys : List A} → x ∷ xs ≡ y ∷ ys → xs ≡ ys
tail_same e = cc

same_entries : (ts us : List CapturingType) → map entry_of ts ≡ map entry_of us → ts ≡ us
same_entries [] [] e = refl
same_entries [] (u ∷ us) e = cc
same_entries (t ∷ ts) [] e = cc
same_entries (t ∷ ts) (u ∷ us) e =
    let first = same_entry t u (head_same e) in
    let rest = same_entries ts us (tail_same e) in
    λ i. first i ∷ rest i

same_types : (ts us : List CapturingType) → with_binds [] ts ≡ with_binds [] us → ts ≡ us
same_types ts us e =
    let left = bound_entries ts [] ∙ append-nil (map entry_of (reverse ts)) in
    let right = bound_entries us [] ∙ append-nil (map entry_of (reverse us)) in
    let turned_same = same_entries (reverse ts) (reverse us) (sym left ∙ e ∙ right) in
    sym (reverse-reverse ts) ∙ ap reverse turned_same ∙ reverse-reverse us

joined : (xs ys : List CertificateBind) → bound_names xs ≡ bound_names ys
    → map (λ (bind : CertificateBind). bind.1) xs ≡ map (λ (bind : CertificateBind). bind.1) ys → xs ≡ ys
joined [] [] e f = refl
joined [] (y ∷ ys) e f = cc
joined (x ∷ xs) [] e f = cc
joined (x ∷ xs) (y ∷ ys) e f =
    let name = head_same e in
    let type = head_same f in
    let rest = joined xs ys (tail_same e) (tail_same f) in
    λ i. (name i, type i) ∷ rest i

pub same_binds : (xs ys : List CertificateBind) → bound_names xs ≡ bound_names ys
    → bound_context xs ≡ bound_context ys → xs ≡ ys
same_binds xs ys names contexts =
    joined xs ys names
    (same_types (map (λ (bind : CertificateBind). bind.1) xs) (map (λ (bind : CertificateBind). bind.1) ys) contexts)

-- NAMES

devices_named : (devices : List DeviceDecl) → bound_names (map device_bind devices) ≡ device_names devices
devices_named [] = refl
devices_named (device ∷ devices) = ap (λ l. device.name ∷ l) (devices_named devices)

imports_named : (imports : List ImportSyntax) (findings : List Finding) → length findings ≡ length imports
    → first_missing imports findings ≡ None → bound_names (import_binds imports findings) ≡ import_names imports
imports_named [] findings l e = refl
imports_named (one ∷ imports) [] l e = absurd (omega arith)
imports_named (one ∷ imports) (FoundDefinition signature ∷ findings) l e =
    ap (λ l. one.name ∷ l) (imports_named imports findings (omega arith) e)
imports_named (one ∷ imports) (NoModule ∷ findings) l e = cc
imports_named (one ∷ imports) (InCycle ∷ findings) l e = cc
imports_named (one ∷ imports) (RefusedModule ∷ findings) l e = cc
imports_named (one ∷ imports) (NoDefinition ∷ findings) l e = cc

definitions_named : (before : List CheckedDefinition)
    → bound_names (map definition_bind (map in_program before)) ≡ map (λ (one : CheckedDefinition). one.name) before
definitions_named [] = refl
definitions_named (one ∷ before) = ap (λ l. one.name ∷ l) (definitions_named before)

own_named : (definition : CoreDefinition) (signature : CapturingType)
    → bound_names (own_bind definition (Some signature)) ≡ cond definition.recursive (definition.name ∷ []) []
own_named definition signature = by_test definition.recursive
  where
    by_test : (test : Bool) → bound_names (cond test ((definition.name, signature) ∷ []) [])
        ≡ cond test (definition.name ∷ []) []
    by_test true = refl
    by_test false = refl

pub known_names : (devices : List DeviceDecl) (imports : List ImportSyntax) (findings : List Finding)
    (before : List CheckedDefinition) (definition : CoreDefinition) (signature : CapturingType)
    → length findings ≡ length imports → first_missing imports findings ≡ None
    → bound_names (map device_bind devices ++ import_binds imports findings
    ++ map definition_bind (map in_program before) ++ own_bind definition (Some signature))
    ≡ device_names devices ++ import_names imports ++ map (λ (one : CheckedDefinition). one.name) before
    ++ cond definition.recursive (definition.name ∷ []) []
known_names devices imports findings before definition signature l e =
    let name : CertificateBind → List ℕ = λ bind. bind.0 in
    let a = map device_bind devices in
    let b = import_binds imports findings in
    let c = map definition_bind (map in_program before) in
    let d = own_bind definition (Some signature) in
    map-append name (a ++ b ++ c) d
    ∙ ap (λ x. x ++ map name d) (map-append name (a ++ b) c)
    ∙ ap (λ x. (x ++ map name c) ++ map name d) (map-append name a b)
    ∙ (λ i. devices_named devices i ++ imports_named imports findings l e i ++ definitions_named before i
    ++ own_named definition signature i)
