-- Each definition of an accepted module has a right certificate.
use Rattle.std.proofs.Common.{◌≡◌, ℕ, ◌≤◌, Bool, true, false, List, [], ◌∷◌, ◌++◌, map, length, Some, refl, sym, ap, ◌∙◌, subst, arith, if◌then◌else◌}
use Rattle.std.specs.List.{AllByRecursion, IsDistinct}
use Rattle.std.specs.Str.{bytes_eq}
use Rattle.cc_base.specs.Names.{IsName}
use Rattle.cc_base.specs.declared.device.DeviceDecl.{DeviceDecl}
use Rattle.cc_core.specs.Contexts.{Bind, TermEntry, TypeEntry, Context, entry_of}
use Rattle.cc_core.specs.Derivations.{Derivation, OfType, Concludes}
use Rattle.cc_grammar.specs.Syntax.{ImportSyntax}
use Rattle.cc_mnf.specs.ElaboratedModules.{CoreDefinition, import_names, definition_names, device_names}
use Rattle.cc_mnf.proofs.ElaboratedDefinitions.{definitions_are_in_order}
use Rattle.cc_mnf.proofs.SecondNames.{names_differ}
use Rattle.cc_checking.specs.DerivationSizes.{nodes}
use Rattle.cc_checking.specs.Verdicts.{Accepted}
use Rattle.cc_checking.specs.Verdicts as definitions
use Rattle.cc_checking_laws.specs.CheckingLaws.{Fits}
use Rattle.cc_checking_laws.specs.AcceptedDefinitions.{definition_context, accepted_derived}
use Rattle.cc_verdicts.specs.Readings.{IsTree, imports_in, imports_of}
use Rattle.cc_verdicts.specs.ModuleVerdicts.{Finding, CheckedDefinition, ModuleVerdict, IsAccepted, declared_context, with_findings, to_be_checked, checked_as, HasModuleVerdict, is_no_module, import_is_missing, is_not_elaborated, is_judged}
use Rattle.cc_verdicts.specs.ModuleLaws.{AreFit}
use Rattle.cc_verdicts.specs.PresentTexts.{Texts, ArePresent, findings_for, AreVerdicts}
use Rattle.cc_verdicts.proofs.GlobalContexts.{module_ready, count_devices, found_count}
use Rattle.cc_verdicts.proofs.ModuleVerdictLaws.{fits_tree}
use Rattle.cc_verdicts.proofs.PresentLaws.{present_findings_fit}
use Rattle.cc_verdicts.proofs.ReadingLaws.{text_has_one_reading}
use Rattle.cc_certificate_writing.specs.DefinitionCertificates.{definition_certificate_lines}
use Rattle.cc_certificate_writing.specs.CertificateTextLaws.{IsOneLine}
use Rattle.cc_certificate_writing.proofs.OneLine.{lines_are_one}
use Rattle.cc_certificate_text.specs.Certificates.{Opens, States, Concludes as ConcludesNode}
use Rattle.cc_certificate_judging.specs.Judging.{listed}
use Rattle.cc_certificate_laws.specs.CertificateLaws.{IsPresentableEntry, IsTermEntry}
use Rattle.cc_certificate_laws.specs.CertificateLines.{concluded_lines}
use Rattle.cc_certificate_laws.specs.DefinitionLaws.{HasWrittenLiterals, IsWithinLimits}
use Rattle.cc_certificate_laws.proofs.DefinitionCertificates.{accepted_certifiable, accepted_have_certificates, definitions_are_read_back}
use Rattle.cc_certificate_laws.specs.JudgedCertificates.{written_tree}
use Rattle.cc_certificate_laws.proofs.FoundValid.{definitions_found_valid, tree_of_definition_back}
use Rattle.cc_certificate_laws.proofs.ReadTrees.{written_nodes, derivations_back, judged_valid}
use Rattle.cc_certificate_laws.proofs.ContextBinds.{binds_in, bound_are_binds, context_of_binds, names_of_binds}
use Rattle.cc_verdicts.specs.StandingDefinitions.{StandsInPresentModule, with_definitions, context_behind, names_behind}
use Rattle.cc_certificate_laws.specs.ModuleCertificates.{IsCertified, StandsInModule, LiteralsOfDefinitionsAreWritten, LinesOfDefinitionsHaveNoLineFeed, AreNamed, DefinitionsOfModulesAreCertified, DefinitionsOfPresentTextsAreCertified}
use Rattle.cc_certificate_laws.specs.ModuleLimits.{IsLowFinding}
use Rattle.cc_certificate_laws.specs.TextLimits.{IsOfText}
use Rattle.cc_certificate_laws.proofs.LowComparisons.{LowContext}
use Rattle.cc_certificate_laws.proofs.LowDefinitions.{accepted_low, literals_kept}
use Rattle.cc_certificate_laws.proofs.LowModules as modules
use Rattle.cc_certificate_laws.proofs.LineFeeds.{names_of_one_line, literals_of_one_line}
use Rattle.cc_certificate_laws.proofs.TextDefinitions.{definitions_of_texts_low, imports_of_texts_named}
use Rattle.cc_certificate_laws.proofs.JudgedPlaces.{declared_low, findings_low, Place, place, checked_names, names_kept, definitions_named, imports_named, all_joined, all_front, distinct_front, kept_in_front, definitions_count, names_count}

term_entries : (g : Context) → AllByRecursion IsPresentableEntry g → AllByRecursion IsTermEntry g
term_entries [] all = tt
term_entries (TermEntry shape set ∷ older) all = (tt, term_entries older all.1)
term_entries (TypeEntry bound ∷ older) all = absurd all.0

note_within : (n : ℕ) → n ≤ 100 → n ≤ 5000
note_within n h = omega arith

right_within : (n : ℕ) → n ≤ 200 → n ≤ 5000
right_within n h = omega arith

-- a definition of a text, accepted in a low context
certified_in : (devices : ℕ) (globals : Context) (d : CoreDefinition) (a : Accepted) (names : List (List ℕ))
    → Fits globals (to_be_checked d)
    → definitions.HasVerdict devices globals (to_be_checked d) (definitions.IsAccepted a) → LowContext globals
    → IsOfText d
    → AllByRecursion IsName names → IsDistinct bytes_eq names
    → length names ≡ length (definition_context globals (to_be_checked d) a.signature)
    → nodes (accepted_derived (definition_context globals (to_be_checked d) a.signature) a) ≤ 100000
    → IsCertified names (definition_context globals (to_be_checked d) a.signature) a
certified_in devices globals d a names fits has low of named apart each few =
    let is = accepted_low devices globals (to_be_checked d) a low
    (record { note = note_within _ of.note; right = right_within _ of.right }) has in
    let limits : IsWithinLimits names (definition_context globals (to_be_checked d) a.signature) a = record {
      named = named;
      apart = apart;
      each = each;
      low_entries = is.entries;
      literals = literals_kept devices globals (to_be_checked d) a has of.literals;
      low_term = is.term;
      low_claims = is.claims;
      few = few;
    } in
    let g : Context = definition_context globals (to_be_checked d) a.signature in
    let tree : Derivation = accepted_derived g a in
    let can = accepted_certifiable devices globals (to_be_checked d) a names fits has limits in
    let all = term_entries g can.context.entries in
    let listed_are : concluded_lines (length names) 0 0 tree ≡ map ConcludesNode
    (listed 0 (written_tree (length g) 0 tree)) =
    written_nodes (length names) 0 0 tree ∙ ap (λ n. map ConcludesNode (listed 0 (written_tree n 0 tree))) each in
    record {
      written = accepted_have_certificates devices globals (to_be_checked d) a names fits has limits;
      read_back = λ lines h. definitions_are_read_back devices globals
          (to_be_checked d) a names lines fits has limits h;
      binds = binds_in names g;
      tree = written_tree (length g) 0 tree;
      parts = λ i. Opens ∷ (bound_are_binds names g all i ++ States a.filled ∷ listed_are i);
      bound = context_of_binds names g all;
      named = names_of_binds names g all each;
      canonical = derivations_back g a.filled tree all can.context.formed can.term.formed can.valid can.done;
      valid =
          judged_valid g a.filled tree a.signature all can.context.formed can.term.formed can.valid can.done can.concludes;
      tree_read_back =
          λ binds stated other h.
          tree_of_definition_back devices globals (to_be_checked d) a names binds stated other fits has limits h;
      judged =
          λ binds stated listing answer h k.
          definitions_found_valid devices globals (to_be_checked d) a names binds stated listing answer fits has limits
          h k;
    }

imports_same : (a b : List ImportSyntax) → Some a ≡ Some b → a ≡ b
imports_same a b e = cc

-- one name for each position
count_by : (recursive : Bool) (first : List (List ℕ)) (name : List ℕ) (g : Context) (entry : Bind)
    → length (first ++ []) ≡ length g
    → length (first ++ name ∷ []) ≡ length (entry ∷ g)
    → length (first ++ (if recursive then name ∷ [] else [])) ≡ length (if recursive then entry ∷ g else g)
count_by true first name g entry h k = k
count_by false first name g entry h k = h

module _ (devices : List DeviceDecl) (imports : List ImportSyntax) (findings : List Finding)
    (before : List CheckedDefinition) where
  abbrev base : Context
  base = with_definitions (with_findings (declared_context devices) findings) before

  -- what is asked of the names
  record AreGood (one : CheckedDefinition) : Type 0 where
    named : AllByRecursion IsName (names_behind devices imports before one)
    apart : IsDistinct bytes_eq (names_behind devices imports before one)
    each : length (names_behind devices imports before one) ≡ length (context_behind devices findings before one)
    few : nodes (accepted_derived (context_behind devices findings before one) one.accepted) ≤ 100000

  abbrev Certified : CheckedDefinition → Type 0
  Certified one =
      AreGood one → IsCertified (names_behind devices imports before one)
      (context_behind devices findings before one) one.accepted

  certified_at : (one : CheckedDefinition) → Place (length devices) base one → Certified one
  certified_at one p =
      subst Certified (sym p.is)
      (λ (good : AreGood (checked_as p.definition p.accepted)).
      certified_in (length devices) base p.definition p.accepted
      (names_behind devices imports before (checked_as p.definition p.accepted)) p.fits p.has p.low p.of_text
      good.named good.apart good.each good.few)

  -- what holds of a definition of an accepted module
  record IsPlaced (one : CheckedDefinition) : Type 0 where
    there : Place (length devices) base one
    named : AllByRecursion IsName (names_behind devices imports before one)
    apart : IsDistinct bytes_eq (names_behind devices imports before one)
    each : length (names_behind devices imports before one) ≡ length (context_behind devices findings before one)

  placed_by : (text : List ℕ) (one : CheckedDefinition) (after : List CheckedDefinition) (v : ModuleVerdict)
      → AreNamed devices
      → imports_of text ≡ Some imports → HasModuleVerdict devices text findings v
      → v ≡ IsAccepted (before ++ one ∷ after)
      → AreFit devices text findings → LowContext (with_findings (declared_context devices) findings)
      → IsPlaced one
  placed_by text one after v names are (is_no_module reading) e fit low = cc
  placed_by text one after v names are (import_is_missing reading missing) e fit low = cc
  placed_by text one after v names are (is_not_elaborated reading found is) e fit low = cc
  placed_by text one after v names are (is_judged {tree = tree} {core = core} {verdict = verdict} reading found is
      judged) e fit low =
      let g : Context = with_findings (declared_context devices) findings in
      let counted = fits_tree devices text findings tree fit reading in
      let ready = module_ready devices tree findings core counted fit.over_devices found is in
      let good = definitions_of_texts_low (device_names devices) text tree core reading is in
      let there = place (length devices) g core.definitions verdict ready judged good low before one after e in
      let same : tree.imports ≡ imports = imports_same tree.imports imports
      (ap imports_in ((text_has_one_reading text (IsTree tree)).0 reading) ∙ are) in
      let kept : core.imports ≡ imports = (definitions_are_in_order (device_names devices) tree core is).0 ∙ same in
      let called : definition_names core.definitions ≡ checked_names (before ++ one ∷ after) =
      sym (names_kept (length devices) g core.definitions verdict (before ++ one ∷ after) judged e) in
      let first : List (List ℕ) = device_names devices ++ import_names imports in
      let apart : IsDistinct bytes_eq (first ++ checked_names (before ++ one ∷ after)) =
      subst (λ l. IsDistinct bytes_eq (first ++ l)) called
      (subst (λ l. IsDistinct bytes_eq (device_names devices ++ import_names l ++ definition_names core.definitions))
      kept
      (names_differ (device_names devices) tree core is names.apart)) in
      let imported : AllByRecursion IsName (import_names imports) =
      subst (λ l. AllByRecursion IsName (import_names l)) same
      (imports_named tree.imports (imports_of_texts_named text tree reading)) in
      let defined : AllByRecursion IsName (checked_names (before ++ one ∷ after)) = subst (AllByRecursion IsName) called
      (definitions_named core.definitions good) in
      let named = all_joined IsName first (checked_names (before ++ one ∷ after))
      (all_joined IsName (device_names devices) (import_names imports) names.named imported) defined in
      let declared = count_devices devices in
      let found_are = found_count (declared_context devices) tree.imports findings counted found in
      let imports_are : length tree.imports ≡ length imports = ap length same in
      let earlier = definitions_count g before in
      let without = names_count devices imports before [] in
      let with_own = names_count devices imports before (one.name ∷ []) in
      record {
        there = there;
        named = kept_in_front first before one after (AllByRecursion IsName) (all_front IsName) named one.recursive;
        apart = kept_in_front first before one after (IsDistinct bytes_eq) distinct_front apart one.recursive;
        each =
            count_by one.recursive (first ++ checked_names before) one.name base (entry_of one.accepted.signature)
            (omega arith) (omega arith);
      }

  certified : (one : CheckedDefinition) → IsPlaced one
      → nodes (accepted_derived (context_behind devices findings before one) one.accepted) ≤ 100000
      → IsCertified (names_behind devices imports before one) (context_behind devices findings before one) one.accepted
  certified one is few =
      certified_at one is.there (record { named = is.named; apart = is.apart; each = is.each; few = few })

  -- its literals are such as may be written
  literals_are_written : (one : CheckedDefinition) → IsPlaced one → HasWrittenLiterals one.accepted.filled
  literals_are_written one is =
      subst (λ (x : CheckedDefinition). HasWrittenLiterals x.accepted.filled) (sym is.there.is)
      (literals_kept (length devices) base (to_be_checked is.there.definition) is.there.accepted is.there.has
      is.there.of_text.literals)

  -- no line has a line feed within
  lines_whole : (one : CheckedDefinition) → IsPlaced one
      → AllByRecursion IsOneLine
      (definition_certificate_lines (names_behind devices imports before one)
      (context_behind devices findings before one) one.accepted)
  lines_whole one is =
      lines_are_one (names_behind devices imports before one) (context_behind devices findings before one)
      one.accepted.filled (accepted_derived (context_behind devices findings before one) one.accepted)
      (names_of_one_line (names_behind devices imports before one) is.named)
      (literals_of_one_line one.accepted.filled (literals_are_written one is))

pub modules_certified : DefinitionsOfModulesAreCertified
modules_certified devices imports findings before one names stands few =
    certified devices imports findings before one
    (placed_by devices imports findings before stands.text one stands.after
    (IsAccepted (before ++ one ∷ stands.after)) names
    stands.imports_are stands.accepted refl stands.fit
    (findings_low (declared_context devices) findings (declared_low devices) stands.low)) few

-- a definition of a present module stands in a module
present_in_module : (devices : List DeviceDecl) (texts : Texts) (verdicts : List ℕ → ModuleVerdict)
    (imports : List ImportSyntax) (findings : List Finding) (before : List CheckedDefinition) (one : CheckedDefinition)
    → AreNamed devices → ArePresent texts → AreVerdicts devices texts verdicts
    → StandsInPresentModule devices texts verdicts imports findings before one
    → StandsInModule devices imports findings before one
present_in_module devices texts verdicts imports findings before one names present are stands =
    let same : findings_for texts verdicts stands.name stands.text ≡ findings = sym stands.findings_are in
    record {
      text = stands.text;
      imports_are = stands.imports_are;
      after = stands.after;
      accepted =
          subst (λ (fs : List Finding). HasModuleVerdict devices stands.text fs
          (IsAccepted (before ++ one ∷ stands.after))) same
          (subst (HasModuleVerdict devices stands.text (findings_for texts verdicts stands.name stands.text))
          stands.accepted
          (are stands.name stands.text stands.present));
      fit =
          subst (AreFit devices stands.text) same
          (present_findings_fit devices texts verdicts names.apart present are stands.name stands.text stands.present);
      low = subst (AllByRecursion IsLowFinding) same (modules.findings_low devices texts verdicts are stands.name
          stands.text);
    }

pub present_certified : DefinitionsOfPresentTextsAreCertified
present_certified devices texts verdicts imports findings before one names present are stands few =
    modules_certified devices imports findings before one names
    (present_in_module devices texts verdicts imports findings before one names present are stands) few

pub literals_of_definitions_written : LiteralsOfDefinitionsAreWritten
literals_of_definitions_written devices texts verdicts imports findings before one names present are stands =
    let in_module = present_in_module devices texts verdicts imports findings before one names present are stands in
    literals_are_written devices imports findings before one
    (placed_by devices imports findings before in_module.text one in_module.after
    (IsAccepted (before ++ one ∷ in_module.after)) names
    in_module.imports_are in_module.accepted refl in_module.fit
    (findings_low (declared_context devices) findings (declared_low devices) in_module.low))

pub lines_of_definitions_whole : LinesOfDefinitionsHaveNoLineFeed
lines_of_definitions_whole devices texts verdicts imports findings before one names present are stands =
    let in_module = present_in_module devices texts verdicts imports findings before one names present are stands in
    lines_whole devices imports findings before one
    (placed_by devices imports findings before in_module.text one in_module.after
    (IsAccepted (before ++ one ∷ in_module.after)) names
    in_module.imports_are in_module.accepted refl in_module.fit
    (findings_low (declared_context devices) findings (declared_low devices) in_module.low))
