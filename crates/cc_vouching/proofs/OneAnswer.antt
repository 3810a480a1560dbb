-- A module has one answer, and so have modules in order.
use Rattle.std.proofs.Common.{◌≡◌, ℕ, List, [], ◌∷◌, ◌++◌, Option, Some, None, refl, ap, sym, subst, ◌∙◌}
use Rattle.cc_base.specs.declared.device.DeviceDecl.{DeviceDecl}
use Rattle.cc_core.specs.Programs.{Definition}
use Rattle.cc_grammar.specs.Syntax.{ImportSyntax, ModuleSyntax}
use Rattle.cc_mnf.specs.ElaboratedModules.{CoreDefinition, Elaboration, elaboration, device_names}
use Rattle.cc_mnf.specs.ElaboratedModules as elaborated
use Rattle.cc_verdicts.specs.ModuleVerdicts.{Finding, Refusal, first_missing}
use Rattle.cc_verdicts.specs.Readings.{TextReading, IsTree, IsNoModule, HasReading, reading_of_text}
use Rattle.cc_verdicts.proofs.ReadingLaws.{text_has_one_reading}
use Rattle.cc_vouching.specs.Submissions.{Claim, ClaimedModule}
use Rattle.cc_vouching.specs.VouchedDefinitions.{Reason, Outcome, IsVouchedFor, IsNotVouchedFor, Surroundings, HasOutcome}
use Rattle.cc_vouching.specs.VouchedModules.{Answer, Vouches, RefusesText, RefusesDefinition, Answered, vouched_findings, AreAnswered, no_more, refused_first, vouched_first, HasAnswer, is_no_module, import_is_missing, is_not_elaborated, is_gone_through, HaveAnswers, none_left, and_then}
use Rattle.cc_vouching.specs.VouchingLaws.{AnswersExist, AnswersAreUnique, AllAnswersExist, AllAnswersAreUnique}
use Rattle.cc_vouching.proofs.ClaimedOutcomes.{outcomes_exist, outcomes_unique}

-- DEFINITIONS

module _ (devices : List DeviceDecl) (imports : List ImportSyntax) (findings : List Finding) (claims : List Claim) where
  abbrev behind : List Definition → Surroundings
  behind before = record { devices = devices; imports = imports; findings = findings; before = before }

  abbrev Gone : List Definition → List CoreDefinition → Answer → Type 0
  Gone = AreAnswered devices imports findings claims

  answered_by : (before : List Definition) (first : CoreDefinition) (rest : List CoreDefinition) (outcome : Outcome)
      → HasOutcome (behind before) first claims outcome
      → ((definition : Definition) → (answer : Answer) × Gone (before ++ definition ∷ []) rest answer)
      → (answer : Answer) × Gone before (first ∷ rest) answer
  answered_by before first rest (IsVouchedFor definition) has others =
      let next = others definition in (next.0, vouched_first has next.1)
  answered_by before first rest (IsNotVouchedFor reason) has others =
      (RefusesDefinition first.name reason, refused_first has)

  answered_exist : (before : List Definition) (definitions : List CoreDefinition)
      → (answer : Answer) × Gone before definitions answer
  answered_exist before [] = (Vouches before, no_more)
  answered_exist before (first ∷ rest) =
      let found = outcomes_exist (behind before) first claims in
      answered_by before first rest found.0 found.1 (λ definition. answered_exist (before ++ definition ∷ []) rest)

  same_reason : (before : List Definition) (first : CoreDefinition) (one other : Reason)
      → HasOutcome (behind before) first claims (IsNotVouchedFor one)
      → HasOutcome (behind before) first claims (IsNotVouchedFor other) → one ≡ other
  same_reason before first one other has also =
      let same = outcomes_unique (behind before) first claims (IsNotVouchedFor one) (IsNotVouchedFor other) has also in cc

  same_definition : (before : List Definition) (first : CoreDefinition) (one other : Definition)
      → HasOutcome (behind before) first claims (IsVouchedFor one)
      → HasOutcome (behind before) first claims (IsVouchedFor other) → one ≡ other
  same_definition before first one other has also =
      let same = outcomes_unique (behind before) first claims (IsVouchedFor one) (IsVouchedFor other) has also in cc

  not_both : (before : List Definition) (first : CoreDefinition) (one : Definition) (reason : Reason)
      → HasOutcome (behind before) first claims (IsVouchedFor one)
      → HasOutcome (behind before) first claims (IsNotVouchedFor reason) → ⊥
  not_both before first one reason has also =
      let same = outcomes_unique (behind before) first claims (IsVouchedFor one) (IsNotVouchedFor reason) has also in cc

  answered_alike : (before : List Definition) (definitions : List CoreDefinition) (a b : Answer)
      → Gone before definitions a → Gone before definitions b → a ≡ b
  answered_alike before [] a b no_more no_more = refl
  answered_alike before (first ∷ rest) a b (refused_first {reason = one} has) (refused_first {reason = other} also) =
      ap (RefusesDefinition first.name) (same_reason before first one other has also)
  answered_alike before (first ∷ rest) a b (refused_first {reason = one} has) (vouched_first {definition = other} also more) =
      absurd (not_both before first other one also has)
  answered_alike before (first ∷ rest) a b (vouched_first {definition = one} has others) (refused_first {reason = other} also) =
      absurd (not_both before first one other has also)
  answered_alike before (first ∷ rest) a b (vouched_first {definition = one} has others) (vouched_first {definition = other} also more) =
      answered_alike (before ++ one ∷ []) rest a b others
      (subst (λ (d : Definition). Gone (before ++ d ∷ []) rest b) (sym (same_definition before first one other has also)) more)

-- MODULES

module _ (devices : List DeviceDecl) (answered : Answered) (it : ClaimedModule) where
  by_core : (tree : ModuleSyntax) → HasReading it.source (IsTree tree)
      → first_missing tree.imports (vouched_findings answered tree.imports) ≡ None
      → (o : Elaboration) → elaboration (device_names devices) tree ≡ o
      → (answer : Answer) × HasAnswer devices answered it answer
  by_core tree reading found (elaborated.IsRefused code at) e = (RefusesText code at, is_not_elaborated reading found e)
  by_core tree reading found (elaborated.IsElaborated core) e =
      let gone = answered_exist devices tree.imports (vouched_findings answered tree.imports) it.claims [] core.definitions in
      (gone.0, is_gone_through reading found e gone.1)

  by_missing : (tree : ModuleSyntax) → HasReading it.source (IsTree tree) → (missing : Option Refusal)
      → first_missing tree.imports (vouched_findings answered tree.imports) ≡ missing
      → (answer : Answer) × HasAnswer devices answered it answer
  by_missing tree reading (Some missing) is = (RefusesText missing.code missing.at, import_is_missing reading is)
  by_missing tree reading None is = by_core tree reading is (elaboration (device_names devices) tree) refl

  by_reading : (r : TextReading) → HasReading it.source r → (answer : Answer) × HasAnswer devices answered it answer
  by_reading (IsNoModule code at) reading = (RefusesText code at, is_no_module reading)
  by_reading (IsTree tree) reading =
      by_missing tree reading (first_missing tree.imports (vouched_findings answered tree.imports)) refl

  -- the answer, by what the text is, what is found and what names and normal form are
  abbrev OfCore : ModuleSyntax → Elaboration → Answer → Type 0
  OfCore tree (elaborated.IsRefused code at) a = a ≡ RefusesText code at
  OfCore tree (elaborated.IsElaborated core) a =
      AreAnswered devices tree.imports (vouched_findings answered tree.imports) it.claims [] core.definitions a

  abbrev OfMissing : ModuleSyntax → Option Refusal → Answer → Type 0
  OfMissing tree (Some missing) a = a ≡ RefusesText missing.code missing.at
  OfMissing tree None a = OfCore tree (elaboration (device_names devices) tree) a

  abbrev OfReading : TextReading → Answer → Type 0
  OfReading (IsNoModule code at) a = a ≡ RefusesText code at
  OfReading (IsTree tree) a =
      OfMissing tree (first_missing tree.imports (vouched_findings answered tree.imports)) a

  is_of_reading : (a : Answer) → HasAnswer devices answered it a → OfReading (reading_of_text it.source) a
  is_of_reading a (is_no_module {code = code} {at = at} reading) =
      subst (λ r. OfReading r a) ((text_has_one_reading it.source (IsNoModule code at)).0 reading) refl
  is_of_reading a (import_is_missing {tree = tree} reading is) =
      subst (λ r. OfReading r a) ((text_has_one_reading it.source (IsTree tree)).0 reading)
      (subst (λ o. OfMissing tree o a) (sym is) refl)
  is_of_reading a (is_not_elaborated {tree = tree} reading found e) =
      subst (λ r. OfReading r a) ((text_has_one_reading it.source (IsTree tree)).0 reading)
      (subst (λ o. OfMissing tree o a) (sym found) (subst (λ o. OfCore tree o a) (sym e) refl))
  is_of_reading a (is_gone_through {tree = tree} reading found e gone) =
      subst (λ r. OfReading r a) ((text_has_one_reading it.source (IsTree tree)).0 reading)
      (subst (λ o. OfMissing tree o a) (sym found) (subst (λ o. OfCore tree o a) (sym e) gone))

  alike_by_core : (tree : ModuleSyntax) (o : Elaboration) (a b : Answer) → OfCore tree o a → OfCore tree o b → a ≡ b
  alike_by_core tree (elaborated.IsRefused code at) a b one other = one ∙ sym other
  alike_by_core tree (elaborated.IsElaborated core) a b one other =
      answered_alike devices tree.imports (vouched_findings answered tree.imports) it.claims [] core.definitions a b one other

  alike_by_missing : (tree : ModuleSyntax) (o : Option Refusal) (a b : Answer) → OfMissing tree o a → OfMissing tree o b
      → a ≡ b
  alike_by_missing tree (Some missing) a b one other = one ∙ sym other
  alike_by_missing tree None a b one other =
      alike_by_core tree (elaboration (device_names devices) tree) a b one other

  alike_by_reading : (r : TextReading) (a b : Answer) → OfReading r a → OfReading r b → a ≡ b
  alike_by_reading (IsNoModule code at) a b one other = one ∙ sym other
  alike_by_reading (IsTree tree) a b one other =
      alike_by_missing tree (first_missing tree.imports (vouched_findings answered tree.imports)) a b one other

pub answers_exist : AnswersExist
answers_exist devices answered it =
    by_reading devices answered it (reading_of_text it.source)
    ((text_has_one_reading it.source (reading_of_text it.source)).1 refl)

pub answers_unique : AnswersAreUnique
answers_unique devices answered it first second one other =
    alike_by_reading devices answered it (reading_of_text it.source) first second
    (is_of_reading devices answered it first one) (is_of_reading devices answered it second other)

-- MODULES IN ORDER

pub all_answers_exist : AllAnswersExist
all_answers_exist devices answered [] = ([], none_left)
all_answers_exist devices answered (first ∷ rest) =
    let own = answers_exist devices answered first in
    let others = all_answers_exist devices (answered ++ (first.name, own.0) ∷ []) rest in
    (own.0 ∷ others.0, and_then own.1 others.1)

pub all_answers_unique : AllAnswersAreUnique
all_answers_unique devices answered [] first second none_left none_left = refl
all_answers_unique devices answered (it ∷ rest) first second (and_then {answer = a} {answers = one} has others) (and_then {answer = b} {answers = other} also more) =
    let same = answers_unique devices answered it a b has also in
    let behind =
    all_answers_unique devices (answered ++ (it.name, a) ∷ []) rest one other others
    (subst (λ (x : Answer). HaveAnswers devices (answered ++ (it.name, x) ∷ []) rest other) (sym same) more) in
    λ i. same i ∷ behind i
