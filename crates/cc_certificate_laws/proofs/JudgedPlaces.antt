-- Where a definition of an accepted module stands: what it comes from, its context, and the names of that.
use Rattle.std.proofs.Common.{◌≡◌, ℕ, ◌+◌, ◌≤◌, Bool, true, false, List, [], ◌∷◌, ◌++◌, map, length, None, refl, sym, ap, ◌∙◌, subst, arith, append_assoc, append-nil, if◌then◌else◌}
use Rattle.std.specs.List.{AllByRecursion, IsDistinct}
use Rattle.std.specs.Str.{bytes_eq}
use Rattle.std.proofs.lemmas.List.{length-append}
use Rattle.std.proofs.lemmas.Map.Keys.{IsDistinct-head, IsDistinct-cons}
use Rattle.cc_base.specs.Names.{IsName}
use Rattle.cc_base.specs.declared.device.DeviceDecl.{DeviceDecl}
use Rattle.cc_base.specs.declared.literal.Base.{Base}
use Rattle.cc_core.specs.Contexts.{Context, entry_of}
use Rattle.cc_core.specs.Programs.{device_entry}
use Rattle.cc_core.proofs.Lookups.{length_map}
use Rattle.cc_device.specs.Declarations.{declared_bases}
use Rattle.cc_grammar.specs.Syntax.{ImportSyntax}
use Rattle.cc_mnf.specs.ElaboratedModules.{CoreDefinition, import_names, definition_names, device_names}
use Rattle.cc_checking.specs.Verdicts.{Accepted}
use Rattle.cc_checking.specs.Verdicts as definitions
use Rattle.cc_checking_laws.specs.CheckingLaws.{Fits}
use Rattle.cc_verdicts.specs.ModuleVerdicts.{Finding, FoundDefinition, NoModule, InCycle, RefusedModule, NoDefinition, CheckedDefinition, ModuleVerdict, IsAccepted, first_missing, declared_context, with_finding, with_findings, to_be_checked, checked_as, AreJudged, no_more, refused_first, accepted_first}
use Rattle.cc_verdicts.specs.ReadyDefinitions.{AreReady}
use Rattle.cc_verdicts.proofs.JudgedDefinitions.{first_fits, ready_more}
use Rattle.cc_certificate_laws.specs.ModuleLimits.{IsLowFinding}
use Rattle.cc_verdicts.specs.StandingDefinitions.{with_definitions}
use Rattle.cc_certificate_laws.specs.TextLimits.{IsOfText}
use Rattle.cc_certificate_laws.proofs.LowComparisons.{LowContext}
use Rattle.cc_certificate_laws.proofs.LowDefinitions.{signatures_low}
use Rattle.cc_certificate_laws.proofs.LowModules.{after_parts, accepted_parts}
use Rattle.std.specs.Prelude.{reverse}

-- contexts are low
lower : (n : ℕ) → n ≤ 4096 → n ≤ 5000
lower n h = omega arith

devices_low : (bases : List Base) → LowContext (map device_entry bases)
devices_low [] = tt
devices_low (base ∷ bases) = (omega arith, devices_low bases)

pub declared_low : (devices : List DeviceDecl) → LowContext (declared_context devices)
declared_low devices = devices_low (reverse (declared_bases devices))

finding_low : (g : Context) (finding : Finding) → LowContext g → IsLowFinding finding
    → LowContext (with_finding g finding)
finding_low g (FoundDefinition signature) low h = (lower _ h, low)
finding_low g NoModule low h = low
finding_low g InCycle low h = low
finding_low g RefusedModule low h = low
finding_low g NoDefinition low h = low

pub findings_low : (g : Context) (findings : List Finding) → LowContext g → AllByRecursion IsLowFinding findings
    → LowContext (with_findings g findings)
findings_low g [] low h = low
findings_low g (first ∷ rest) low h = findings_low (with_finding g first) rest (finding_low g first low h.0) h.1

-- what the definition comes from
pub record Place (devices : ℕ) (g : Context) (one : CheckedDefinition) : Type 0 where
  pub definition : CoreDefinition
  pub accepted : Accepted
  pub is : one ≡ checked_as definition accepted
  pub has : definitions.HasVerdict devices g (to_be_checked definition) (definitions.IsAccepted accepted)
  pub fits : Fits g (to_be_checked definition)
  pub low : LowContext g
  pub of_text : IsOfText definition

first_part : (one first : CheckedDefinition) (after others : List CheckedDefinition) → one ∷ after ≡ first ∷ others
    → one ≡ first
first_part one first after others e = cc

rest_part : (one first : CheckedDefinition) (after others : List CheckedDefinition) → one ∷ after ≡ first ∷ others
    → after ≡ others
rest_part one first after others e = cc

pub place : (devices : ℕ) (g : Context) (defs : List CoreDefinition) (v : ModuleVerdict) → AreReady g defs
    → AreJudged devices g defs v
    → AllByRecursion IsOfText defs → LowContext g → (before : List CheckedDefinition) (one : CheckedDefinition)
    (after : List CheckedDefinition)
    → v ≡ IsAccepted (before ++ one ∷ after) → Place devices (with_definitions g before) one
place devices g [] v ready no_more good low [] one after e = let same = accepted_parts [] (one ∷ after) e in cc
place devices g [] v ready no_more good low (b ∷ before) one after e = let same =
    accepted_parts [] ((b ∷ before) ++ one ∷ after) e in cc
place devices g (first ∷ rest) v ready (refused_first has) good low before one after e = cc
place devices g (first ∷ rest) v ready (accepted_first {accepted = accepted} {verdict = next} has others) good low []
    one after e =
    let parts = after_parts (checked_as first accepted) next (one ∷ after) e in
    record {
      definition = first;
      accepted = accepted;
      is = first_part one (checked_as first accepted) after parts.0 parts.2;
      has = has;
      fits = first_fits g first rest ready;
      low = low;
      of_text = good.0;
    }
place devices g (first ∷ rest) v ready (accepted_first {accepted = accepted} {verdict = next} has others) good low
    (b ∷ before) one after e =
    let parts = after_parts (checked_as first accepted) next (b ∷ (before ++ one ∷ after)) e in
    let same = first_part b (checked_as first accepted) (before ++ one ∷ after) parts.0 parts.2 in
    let rest_is = rest_part b (checked_as first accepted) (before ++ one ∷ after) parts.0 parts.2 in
    let signed = signatures_low devices g (to_be_checked first) accepted has (small _ good.0.note) in
    let there = place devices (entry_of accepted.signature ∷ g) rest next
    (ready_more devices g first rest accepted ready has) others good.1
    (lower _ signed, low) before one after (parts.1 ∙ ap IsAccepted (sym rest_is)) in
    subst (λ (x : CheckedDefinition). Place devices (with_definitions (entry_of x.accepted.signature ∷ g) before) one)
    (sym same) there
  where
    small : (n : ℕ) → n ≤ 100 → n ≤ 4096
    small n h = omega arith

-- the names of checked definitions
abbrev pub checked_names : List CheckedDefinition → List (List ℕ)
checked_names checked = map (λ (one : CheckedDefinition). one.name) checked

pub names_kept : (devices : ℕ) (g : Context) (defs : List CoreDefinition) (v : ModuleVerdict)
    (checked : List CheckedDefinition)
    → AreJudged devices g defs v → v ≡ IsAccepted checked → checked_names checked ≡ definition_names defs
names_kept devices g [] v checked no_more e = ap checked_names (sym (accepted_parts [] checked e))
names_kept devices g (first ∷ rest) v checked (refused_first has) e = cc
names_kept devices g (first ∷ rest) v checked (accepted_first {accepted = accepted} {verdict = next} has others) e =
    let parts = after_parts (checked_as first accepted) next checked e in
    ap checked_names parts.2 ∙ ap (λ l. first.name ∷ l) (names_kept devices
    (entry_of accepted.signature ∷ g) rest next parts.0 others parts.1)

checked_names-append : (a b : List CheckedDefinition) → checked_names (a ++ b) ≡ checked_names a ++ checked_names b
checked_names-append [] b = refl
checked_names-append (x ∷ a) b = ap (λ l. x.name ∷ l) (checked_names-append a b)

pub definitions_named : (definitions : List CoreDefinition) → AllByRecursion IsOfText definitions
    → AllByRecursion IsName (definition_names definitions)
definitions_named [] all = tt
definitions_named (d ∷ definitions) all = (all.0.named, definitions_named definitions all.1)

pub imports_named : (imports : List ImportSyntax) → AllByRecursion (λ one. IsName one.name) imports
    → AllByRecursion IsName (import_names imports)
imports_named [] all = tt
imports_named (one ∷ imports) all = (all.0, imports_named imports all.1)

-- parts of lists
pub all_joined : (P : List ℕ → Type 0) (xs ys : List (List ℕ)) → AllByRecursion P xs → AllByRecursion P ys
    → AllByRecursion P (xs ++ ys)
all_joined P [] ys h k = k
all_joined P (x ∷ xs) ys h k = (h.0, all_joined P xs ys h.1 k)

pub all_front : (P : List ℕ → Type 0) (xs ys : List (List ℕ)) → AllByRecursion P (xs ++ ys) → AllByRecursion P xs
all_front P [] ys h = tt
all_front P (x ∷ xs) ys h = (h.0, all_front P xs ys h.1)

pub all_behind : (P : List ℕ → Type 0) (xs ys : List (List ℕ)) → AllByRecursion P (xs ++ ys) → AllByRecursion P ys
all_behind P [] ys h = h
all_behind P (x ∷ xs) ys h = all_behind P xs ys h.1

nothing_twice : IsDistinct bytes_eq []
unfolding IsDistinct
nothing_twice = tt

behind_first : (x : List ℕ) (xs : List (List ℕ)) → IsDistinct bytes_eq (x ∷ xs) → IsDistinct bytes_eq xs
unfolding IsDistinct
behind_first x xs h = h.1

pub distinct_front : (xs ys : List (List ℕ)) → IsDistinct bytes_eq (xs ++ ys) → IsDistinct bytes_eq xs
distinct_front [] ys h = nothing_twice
distinct_front (x ∷ xs) ys h =
    IsDistinct-cons bytes_eq x xs (all_front (λ y. bytes_eq x y ≡ false) xs ys
    (IsDistinct-head bytes_eq x (xs ++ ys) h))
    (distinct_front xs ys (behind_first x (xs ++ ys) h))

-- the names in a context, from those of the whole module
module _ (first : List (List ℕ)) (before : List CheckedDefinition) (one : CheckedDefinition)
    (after : List CheckedDefinition) where
  -- with the definition itself
  split : first ++ checked_names (before ++ one ∷ after) ≡ ((first ++ checked_names before) ++ one.name ∷ []) ++
      checked_names after
  split =
      ap (λ l. first ++ l) (checked_names-append before (one ∷ after))
      ∙ sym (append_assoc first (checked_names before) (one.name ∷ checked_names after))
      ∙ sym (append_assoc (first ++ checked_names before) (one.name ∷ []) (checked_names after))

  pub kept_in_front : (P : List (List ℕ) → Type 0) → ((xs ys : List (List ℕ)) → P (xs ++ ys) → P xs)
      → P (first ++ checked_names (before ++ one ∷ after)) → (recursive : Bool)
      → P ((first ++ checked_names before) ++ (if recursive then one.name ∷ [] else []))
  kept_in_front P front h true =
      front ((first ++ checked_names before) ++ one.name ∷ []) (checked_names after) (subst P split h)
  kept_in_front P front h false =
      subst P (sym (append-nil (first ++ checked_names before)))
      (front (first ++ checked_names before) (one.name ∷ [])
      (front ((first ++ checked_names before) ++ one.name ∷ []) (checked_names after) (subst P split h)))

pub definitions_count : (g : Context) (before : List CheckedDefinition)
    → length (with_definitions g before) ≡ length g + length before
definitions_count g [] = omega arith
definitions_count g (first ∷ before) = let rest =
    definitions_count (entry_of first.accepted.signature ∷ g) before in omega arith

pub names_count : (devices : List DeviceDecl) (imports : List ImportSyntax) (before : List CheckedDefinition)
    (own : List (List ℕ))
    → length (device_names devices ++ import_names imports ++ checked_names before ++ own)
    ≡ ((length devices + length imports) + length before) + length own
names_count devices imports before own =
    let d = length_map (λ (device : DeviceDecl). device.name) devices in
    let i = length_map (λ (one : ImportSyntax). one.name) imports in
    let b = length_map (λ (one : CheckedDefinition). one.name) before in
    let one = length-append (device_names devices) (import_names imports) in
    let two = length-append (device_names devices ++ import_names imports) (checked_names before) in
    let three = length-append ((device_names devices ++ import_names imports) ++ checked_names before) own in
    omega arith
