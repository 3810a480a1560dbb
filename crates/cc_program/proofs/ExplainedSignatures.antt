-- What is told of a signature explains it.
use Rattle.std.proofs.Common.{◌≡◌, ℕ, zero, suc, List, [], ◌∷◌, length, Some, Ok, refl, sym, ap, subst, ◌∙◌, arith}
use Rattle.std.specs.List.{Contains}
use Rattle.cc_base.specs.declared.device.DeviceDecl.{DeviceDecl}
use Rattle.cc_capture.proofs.Membership.{Member-list}
use Rattle.cc_capture.specs.Sets.{Member}
use Rattle.cc_capture.specs.declared.var.Elem.{Elem}
use Rattle.cc_entry_laws.proofs.Linked.{elements_are_linked}
use Rattle.cc_entry_laws.specs.PresentLinks.{Target, DefinitionOf, element_of, entry_in}
use Rattle.cc_verdicts.specs.ModuleLaws.{NamesOfDevicesDiffer}
use Rattle.cc_verdicts.specs.ModuleVerdicts.{ModuleVerdict}
use Rattle.cc_verdicts.specs.PresentTexts.{Texts, ArePresent, AreVerdicts}
use Rattle.cc_verdicts.specs.StandingDefinitions.{Standing, standing_in}
use Rattle.cc_replies.specs.ExplainReplies.{Explains, AreExplained}
use Rattle.cc_replies.specs.ReplyTexts.{Explanation}
use Rattle.cc_program.specs.ExplainedSignatures.{ExplainsSignature}
use Rattle.cc_program.specs.TrueReplies.{HasLine, ExplainSet}

some_same : (a b : Elem) → Some a ≡ Some b → a ≡ b
some_same a b h = cc

in_none : {A B : Type 0} (x : A) → Contains [] x → B
in_none x (k, below, is) = absurd (omega arith)

behind : {A : Type 0} (x : A) (xs : List A) (y : A) → Contains xs y → Contains (x ∷ xs) y
behind x xs y (k, below, is) = (suc k, omega arith, is)

module _ (entry : Target → List Target) (from : Target) where
  -- each element has a line
  has_line : (elements : List Elem) (explanations : List Explanation) → AreExplained entry from elements explanations
      → (e : Elem) → Contains elements e → HasLine entry from explanations e
  has_line [] explanations are e among = in_none e among
  has_line (first ∷ others) explanations (it, later, explains, rest, is) e (zero, below, same) =
      subst (λ es. HasLine entry from es e) (sym is)
      (it, (0, omega arith, refl), subst (λ x. Explains entry from x it) same explains)
  has_line (first ∷ others) explanations (it, later, explains, rest, is) e (suc k, below, same) =
      let (one, among, explained) = has_line others later rest e (k, omega arith, same) in
      subst (λ es. HasLine entry from es e) (sym is) (one, behind it later one among, explained)

  one_line : (first : Elem) (others : List Elem) (it : Explanation) (later : List Explanation) (one : Explanation) (e : Elem)
      → element_of it.target ≡ Some first → element_of one.target ≡ Some e → (Contains later one → Contains others e)
      → Contains (it ∷ later) one → Contains (first ∷ others) e
  one_line first others it later one e about is rest (zero, below, here) =
      (0, omega arith, some_same first e (sym about ∙ ap (λ (x : Explanation). element_of x.target) here ∙ is))
  one_line first others it later one e about is rest (suc k, below, there) = behind first others e (rest (k, omega arith, there))

  -- and each line is about one
  is_listed : (elements : List Elem) (explanations : List Explanation) → AreExplained entry from elements explanations
      → (one : Explanation) → Contains explanations one → (e : Elem) → element_of one.target ≡ Some e → Contains elements e
  is_listed [] explanations are one among e is = in_none one (subst (λ es. Contains es one) are among)
  is_listed (first ∷ others) explanations (it, later, explains, rest, same) one among e is =
      one_line first others it later one e explains.is_element is (λ there. is_listed others later rest one there e is)
      (subst (λ es. Contains es one) same among)

-- the explanations of a definition where it stands explain its signature
pub set_explained : (devices : List DeviceDecl) (texts : Texts) → NamesOfDevicesDiffer devices → ArePresent texts
    → (verdicts : List ℕ → ModuleVerdict) → AreVerdicts devices texts verdicts
    → (module_name name : List ℕ) (it : Standing) → standing_in texts verdicts module_name name ≡ Ok it
    → (explanations : List Explanation)
    → AreExplained (entry_in devices texts verdicts) (DefinitionOf module_name name) it.definition.accepted.signature.set.list explanations
    → ExplainSet devices texts verdicts module_name name it explanations
set_explained devices texts differ sorted verdicts are module_name name it stands explanations explained =
    let entry = entry_in devices texts verdicts in
    let from = DefinitionOf module_name name in
    let set = it.definition.accepted.signature.set in
    record {
      lines = λ e. (
        λ member. has_line entry from set.list explanations explained e ((Member-list e set).0 member),
        λ line. (Member-list e set).1 (is_listed entry from set.list explanations explained line.0 line.1 e line.2.is_element),
      );
      chains = λ e. elements_are_linked devices texts verdicts differ sorted are module_name name it stands e;
    }

pub explains_at : (devices : List DeviceDecl) (texts : Texts) → NamesOfDevicesDiffer devices → ArePresent texts
    → (verdicts : List ℕ → ModuleVerdict) → AreVerdicts devices texts verdicts
    → (module_name name : List ℕ) (it : Standing) → standing_in texts verdicts module_name name ≡ Ok it
    → (explanations : List Explanation)
    → AreExplained (entry_in devices texts verdicts) (DefinitionOf module_name name) it.definition.accepted.signature.set.list explanations
    → ExplainsSignature devices texts module_name name explanations
explains_at devices texts differ sorted verdicts are module_name name it stands explanations explained =
    let set = set_explained devices texts differ sorted verdicts are module_name name it stands explanations explained in
    record { verdicts = verdicts; are = are; it = it; stands = stands; lines = set.lines; chains = set.chains }
