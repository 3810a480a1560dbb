-- An element is in a definition's signature exactly where a chain of links leads to it.
use Rattle.std.proofs.Common.{◌≡◌, ◌⊎◌, ◌↔◌, ℕ, zero, suc, ◌<◌, ◌≤◌, Bool, true, false, List, [], ◌∷◌, ◌++◌, length, Some, None, Result, Ok, inl, inr, refl, sym, ap, subst, ◌∙◌, append_assoc, append-nil, if◌then◌else◌, arith}
use Rattle.std.proofs.lemmas.Bool.{cases_eq}
use Rattle.std.specs.List.{AllByRecursion, Contains}
use Rattle.std.specs.Option.{is_some}
use Rattle.cc_base.specs.declared.code.Code.{Code}
use Rattle.cc_base.specs.declared.device.DeviceDecl.{DeviceDecl}
use Rattle.cc_capture.specs.declared.var.Var.TheVariants.{Bound, Free}
use Rattle.cc_capture.specs.declared.var.Elem.{Elem}
use Rattle.cc_capture.specs.declared.var.Elem.TheVariants.{Var as Variable, Cap, Hole}
use Rattle.cc_capture.specs.Sets.{Set, Member}
use Rattle.cc_capture.proofs.Membership.{Member-list}
use Rattle.cc_core.specs.Contexts.{Bind, TermEntry, lookup, entry_of}
use Rattle.cc_core.specs.Shapes.{Shape, CapturingType}
use Rattle.cc_core.proofs.Lookups.{lookup-newest, lookup-older, lookup-cases}
use Rattle.cc_grammar.specs.Syntax.{ImportSyntax}
use Rattle.cc_graph.proofs.Paths.{IsAmong}
use Rattle.cc_checking.specs.Fillings.{IsGlobal}
use Rattle.cc_explain.specs.Chains.{LeadsAlong, IsChain}
use Rattle.cc_checking_laws.specs.CheckingLaws.{IsOfSetOrItsDefinitions}
use Rattle.cc_checking_laws.proofs.SignedSets.{signature_sets}
use Rattle.cc_verdicts.specs.ModuleLaws.{NamesOfDevicesDiffer}
use Rattle.cc_verdicts.specs.ModuleVerdicts.{CheckedDefinition, ModuleVerdict}
use Rattle.cc_verdicts.specs.PresentTexts.{Texts, ArePresent, AreVerdicts}
use Rattle.cc_verdicts.specs.StandingDefinitions.{Standing, standing_in}
use Rattle.cc_verdicts.proofs.Asking.{Asks}
use Rattle.cc_verdicts.proofs.Schedules.{IsSchedule, schedule_exists}
use Rattle.cc_entry_laws.proofs.Positions.{StandsFor, ArePaired, entry_at, target_at, in_given, from_given, in_nothing}
use Rattle.cc_entry_laws.proofs.Reached.{StandsIn, globals_of, stands_in, found_in, checked_there, signed_over, earlier_one, stands_earlier, globals_paired, paired_there, globals_over}
use Rattle.cc_entry_laws.specs.PresentLinkLaws.{SignatureElementsAreLinked}
use Rattle.cc_entry_laws.specs.PresentLinks.{Target, DefinitionOf, DeviceAt, Universal, element_of, device_targets, with_imports, with_names, earlier_targets, standing_targets, target_of, standing_entry, entry_or_none, entry_in}

some_target : (one other : Target) → Some one ≡ Some other → one ≡ other
some_target one other e = cc

some_element : (one other : Elem) → Some one ≡ Some other → one ≡ other
some_element one other e = cc

no_element : {B : Type 0} (e : Elem) → None ≡ Some e → B
no_element e h = cc

no_target : {B : Type 0} (target : Target) → None ≡ Some target → B
no_target target h = cc

-- ---- where devices stand
device_at : (count number : ℕ) → number < count → lookup (device_targets count) number ≡ Some (DeviceAt number)
device_at zero number below = absurd (omega arith)
device_at (suc count) number below =
    elim (cases_eq number count) [
      | inl same ↦
          let at : number ≡ length (device_targets count) = same ∙ sym (device_count count) in
          ap (lookup (DeviceAt count ∷ device_targets count)) at
          ∙ lookup-newest (DeviceAt count) (device_targets count) ∙ ap (λ n. Some (DeviceAt n)) (sym same)
      | inr other ↦
          lookup-older (DeviceAt count) (device_targets count) number (DeviceAt number)
          (device_at count number (omega arith))
    ]
  where
    device_count : (n : ℕ) → length (device_targets n) ≡ n
    device_count zero = refl
    device_count (suc n) = ap suc (device_count n)

with_imports_at : (targets : List Target) (imports : List ImportSyntax) (position : ℕ) (target : Target)
    → lookup targets position ≡ Some target → lookup (with_imports targets imports) position ≡ Some target
with_imports_at targets [] position target is = is
with_imports_at targets (one ∷ rest) position target is =
    with_imports_at (DefinitionOf one.source one.name ∷ targets) rest position target
    (lookup-older (DefinitionOf one.source one.name) targets position target is)

with_names_at : (module_name : List ℕ) (targets : List Target) (before : List CheckedDefinition) (position : ℕ)
    (target : Target)
    → lookup targets position ≡ Some target → lookup (with_names module_name targets before) position ≡ Some target
with_names_at module_name targets [] position target is = is
with_names_at module_name targets (one ∷ rest) position target is =
    with_names_at module_name (DefinitionOf module_name one.name ∷ targets) rest position target
    (lookup-older (DefinitionOf module_name one.name) targets position target is)

own_at : (recursive : Bool) (own : Target) (targets : List Target) (position : ℕ) (target : Target)
    → lookup targets position ≡ Some target
    → lookup (if recursive then own ∷ targets else targets) position ≡ Some target
own_at true own targets position target is = lookup-older own targets position target is
own_at false own targets position target is = is

own_or_earlier : (recursive : Bool) (own : Target) (targets : List Target) (position : ℕ) (target : Target)
    → lookup (if recursive then own ∷ targets else targets) position ≡ Some target
    → (own ≡ target) ⊎ (lookup targets position ≡ Some target)
own_or_earlier true own targets position target is =
    elim (lookup-cases own targets position target is) [ inl (at, same) ↦ inl same | inr there ↦ inr there ]
own_or_earlier false own targets position target is = inr is

set_part : (shape : Shape) (set : Set) (type : CapturingType) → TermEntry shape set ≡ entry_of type → set ≡ type.set
set_part shape set type is = cc

all_pushed : {A : Type 0} (P : A → Type 0) (xs : List A) (x : A) → AllByRecursion P xs → P x → AllByRecursion P (xs ++ x ∷ [])
all_pushed P [] x all is = (is, tt)
all_pushed P (first ∷ xs) x all is = (all.0, all_pushed P xs x all.1 is)

same_standing : (one other : Standing) → ◌≡◌ {A = Result Standing Code} (Ok one) (Ok other) → one ≡ other
same_standing one other e = cc

module _ (declared : List DeviceDecl) (texts : Texts) (verdicts : List ℕ → ModuleVerdict)
    (differ : NamesOfDevicesDiffer declared) (present : ArePresent texts) (are : AreVerdicts declared texts verdicts) where
  -- links lead from the definition to the element
  pub record IsReached (module_name name : List ℕ) (e : Elem) : Type 0 where
    pub target : Target
    pub path : List Target
    pub is_element : element_of target ≡ Some e
    pub leads : LeadsAlong (entry_in declared texts verdicts) (DefinitionOf module_name name) path target

  -- each element of its signature is reached
  abbrev pub ReachesElements : List ℕ → List ℕ → Type 0
  ReachesElements module_name name =
      (it : Standing) → standing_in texts verdicts module_name name ≡ Ok it
      → (e : Elem) → Member e it.definition.accepted.signature.set → IsReached module_name name e

  -- the entry of a definition that is found
  entry_is : (module_name name : List ℕ) (it : Standing) → standing_in texts verdicts module_name name ≡ Ok it
      → entry_in declared texts verdicts (DefinitionOf module_name name) ≡ standing_entry declared module_name it
  entry_is module_name name it found = ap (entry_or_none declared module_name) found

  -- what an element of its set stands for is in its entry
  in_entry : (module_name : List ℕ) (it : Standing) → StandsIn texts verdicts module_name it
      → (x : Elem) (target : Target) → Member x it.definition.accepted.type.set
      → target_of (standing_targets declared module_name it) x ≡ Some target
      → Contains (entry_in declared texts verdicts (DefinitionOf module_name it.definition.name)) target
  in_entry module_name it stands x target member is =
      subst (λ entry. Contains entry target)
      (sym (entry_is module_name it.definition.name it (found_in declared texts verdicts differ present are module_name it stands)))
      (in_given (target_of (standing_targets declared module_name it)) it.definition.accepted.type.set.list x target
      ((Member-list x it.definition.accepted.type.set).0 member) is)

  -- ---- from members to chains
  reached_at_once : (module_name : List ℕ) (it : Standing) → StandsIn texts verdicts module_name it
      → (e : Elem) → IsGlobal (length declared) e → Member e it.definition.accepted.type.set
      → IsReached module_name it.definition.name e
  reached_at_once module_name it stands (Variable (Free position)) below member =
      let at : lookup (standing_targets declared module_name it) position ≡ Some (DeviceAt position) =
      own_at it.definition.recursive (DefinitionOf module_name it.definition.name) (earlier_targets declared module_name it)
      position (DeviceAt position)
      (with_names_at module_name (with_imports (device_targets (length declared)) it.imports) it.before position
      (DeviceAt position)
      (with_imports_at (device_targets (length declared)) it.imports position (DeviceAt position)
      (device_at (length declared) position below))) in
      record {
        target = DeviceAt position;
        path = DeviceAt position ∷ [];
        is_element = refl;
        leads = (in_entry module_name it stands (Variable (Free position)) (DeviceAt position) member at, refl);
      }
  reached_at_once module_name it stands (Variable (Bound index)) none member = absurd none
  reached_at_once module_name it stands Cap all member =
      record {
        target = Universal;
        path = Universal ∷ [];
        is_element = refl;
        leads = (in_entry module_name it stands Cap Universal member refl, refl);
      }
  reached_at_once module_name it stands (Hole number) none member = absurd none

  reached_through : (module_name : List ℕ) (it : Standing) → StandsIn texts verdicts module_name it
      → (e : Elem) (position : ℕ) (shape : Shape) (set : Set)
      → length declared ≤ position → Member (Variable (Free position)) it.definition.accepted.type.set → Member e set
      → (next : Target) → lookup (earlier_targets declared module_name it) position ≡ Some next
      → StandsFor (length declared) texts verdicts ReachesElements position (TermEntry shape set) next
      → IsReached module_name it.definition.name e
  reached_through module_name it stands e position shape set low member in_set (DefinitionOf other name) at (named, above) =
      let rest = named.holds named.it named.found e
      (subst (Member e) (set_part shape set named.it.definition.accepted.signature named.entry_is) in_set) in
      record {
        target = rest.target;
        path = DefinitionOf other name ∷ rest.path;
        is_element = rest.is_element;
        leads = (
          in_entry module_name it stands (Variable (Free position)) (DefinitionOf other name) member
              (own_at it.definition.recursive (DefinitionOf module_name it.definition.name)
              (earlier_targets declared module_name it) position (DefinitionOf other name) at),
          rest.leads,
        );
      }
  reached_through module_name it stands e position shape set low member in_set (DeviceAt number) at (same, below) =
      absurd (omega arith)
  reached_through module_name it stands e position shape set low member in_set Universal at is = absurd is

  reached_by : (module_name : List ℕ) (it : Standing) → StandsIn texts verdicts module_name it
      → ArePaired (length declared) texts verdicts ReachesElements (globals_of declared it) (earlier_targets declared module_name it)
      → (e : Elem) → IsGlobal (length declared) e
      → IsOfSetOrItsDefinitions (length declared) (globals_of declared it) it.definition.accepted.type.set e
      → IsReached module_name it.definition.name e
  reached_by module_name it stands paired e is_global (inl member) = reached_at_once module_name it stands e is_global member
  reached_by module_name it stands paired e is_global (inr (position, shape, set, low, member, at, in_set)) =
      let named = target_at (length declared) texts verdicts ReachesElements (globals_of declared it)
      (earlier_targets declared module_name it) paired position (TermEntry shape set) at in
      reached_through module_name it stands e position shape set low member in_set named.target named.is named.stands

  -- the law of one definition
  signs : (module_name : List ℕ) (it : Standing) → StandsIn texts verdicts module_name it → (e : Elem)
      → Member e it.definition.accepted.signature.set
      ↔ (IsGlobal (length declared) e
      × IsOfSetOrItsDefinitions (length declared) (globals_of declared it) it.definition.accepted.type.set e)
  signs module_name it stands e =
      let checked = checked_there declared texts verdicts differ present are module_name it stands in
      signature_sets (length declared) (globals_of declared it) checked.definition it.definition.accepted e checked.fits
      (globals_over declared texts verdicts differ present are module_name it stands) checked.has

  reaches_next : (module_name : List ℕ) (it : Standing) → StandsIn texts verdicts module_name it
      → ((other : List ℕ) → Asks texts module_name other → (name : List ℕ) → ReachesElements other name)
      → AllByRecursion (λ one. ReachesElements module_name one.name) it.before
      → ReachesElements module_name it.definition.name
  reaches_next module_name it stands imports_reach before_reach again found e member =
      let same : again ≡ it =
      same_standing again it (sym found ∙ found_in declared texts verdicts differ present are module_name it stands) in
      let here : Member e it.definition.accepted.signature.set =
      subst (λ (s : Standing). Member e s.definition.accepted.signature.set) same member in
      let comes = (signs module_name it stands e).0 here in
      reached_by module_name it stands
      (globals_paired declared texts verdicts differ present are ReachesElements module_name it stands imports_reach before_reach)
      e comes.0 comes.1

  -- each definition before it, in turn
  before_reach : (module_name : List ℕ) (it : Standing) → StandsIn texts verdicts module_name it
      → ((other : List ℕ) → Asks texts module_name other → (name : List ℕ) → ReachesElements other name)
      → (front rest : List CheckedDefinition) → it.before ≡ front ++ rest
      → AllByRecursion (λ one. ReachesElements module_name one.name) front
      → AllByRecursion (λ one. ReachesElements module_name one.name) it.before
  before_reach module_name it stands imports_reach front [] is all =
      subst (AllByRecursion (λ one. ReachesElements module_name one.name)) (sym (is ∙ append-nil front)) all
  before_reach module_name it stands imports_reach front (one ∷ rest) is all =
      before_reach module_name it stands imports_reach (front ++ one ∷ []) rest
      (is ∙ sym (append_assoc front (one ∷ []) rest))
      (all_pushed (λ one. ReachesElements module_name one.name) front one all
      (reaches_next module_name (earlier_one declared texts verdicts differ present are it front one)
      (stands_earlier declared texts verdicts differ present are module_name it stands front one rest is) imports_reach all))

  module_reaches : (module_name : List ℕ)
      → ((other : List ℕ) → Asks texts module_name other → (name : List ℕ) → ReachesElements other name)
      → (name : List ℕ) → ReachesElements module_name name
  module_reaches module_name imports_reach name it found e member =
      let (stands, named) = stands_in declared texts verdicts differ present are module_name name it found in
      let reached = reaches_next module_name it stands imports_reach
      (before_reach module_name it stands imports_reach [] it.before refl tt) it
      (found_in declared texts verdicts differ present are module_name it stands) e member in
      subst (λ n. IsReached module_name n e) named reached

  listed_reach : (names : List (List ℕ)) → IsSchedule texts names → (module_name : List ℕ) → IsAmong module_name names
      → (name : List ℕ) → ReachesElements module_name name
  listed_reach [] orderly module_name among = absurd among
  listed_reach (newest ∷ older) orderly module_name (inl same) =
      subst (λ m. (name : List ℕ) → ReachesElements m name) same
      (module_reaches newest
      (λ other asks. listed_reach older orderly.1 other (orderly.0 other asks)))
  listed_reach (newest ∷ older) orderly module_name (inr among) = listed_reach older orderly.1 module_name among

  pub all_reach : (module_name name : List ℕ) → ReachesElements module_name name
  all_reach module_name name it found =
      let schedule = schedule_exists texts present in
      let stands = (stands_in declared texts verdicts differ present are module_name name it found).0 in
      listed_reach schedule.names schedule.orderly module_name
      (schedule.whole module_name (ap (λ o. is_some o) stands.is_text)) name it found

  -- ---- from chains to members
  -- what leads on along the path from a definition to the target puts the element into its signature
  abbrev PutsIn : List Target → Target → Elem → Type 0
  PutsIn path target e =
      (module_name name : List ℕ) (it : Standing) → standing_in texts verdicts module_name name ≡ Ok it
      → LeadsAlong (entry_in declared texts verdicts) (DefinitionOf module_name name) path target
      → Member e it.definition.accepted.signature.set

  -- from an element nothing leads on
  ends_at : (from : Target) (e x : Elem) (path : List Target) (target : Target)
      → entry_in declared texts verdicts from ≡ [] → element_of from ≡ Some x
      → element_of target ≡ Some e → LeadsAlong (entry_in declared texts verdicts) from path target → x ≡ e
  ends_at from e x [] target none is is_e leads =
      some_element x e (sym is ∙ ap element_of leads ∙ is_e)
  ends_at from e x (next ∷ path) target none is is_e (among, leads) =
      in_nothing next (subst (λ entry. Contains entry next) none among)

  put_by_entry : (module_name : List ℕ) (it : Standing) → StandsIn texts verdicts module_name it
      → (path : List Target) (target : Target) (e : Elem) → element_of target ≡ Some e → PutsIn path target e
      → (position : ℕ) → Member (Variable (Free position)) it.definition.accepted.type.set
      → (entry : Bind) → lookup (globals_of declared it) position ≡ Some entry
      → (next : Target) → StandsFor (length declared) texts verdicts (λ m n. Unit {0}) position entry next
      → LeadsAlong (entry_in declared texts verdicts) next path target
      → Member e it.definition.accepted.signature.set
  put_by_entry module_name it stands path target e is puts position member entry at (DefinitionOf other name) (named, above) leads =
      let there : Member e named.it.definition.accepted.signature.set = puts other name named.it named.found leads in
      let other_stands = (stands_in declared texts verdicts differ present are other name named.it named.found).0 in
      (signs module_name it stands e).1 (
        signed_over declared texts verdicts differ present are other named.it other_stands e there,
        inr (
          position,
          named.it.definition.accepted.signature.shape,
          named.it.definition.accepted.signature.set,
          above,
          member,
          at ∙ ap (λ b. Some b) named.entry_is,
          there,
        ),
      )
  put_by_entry module_name it stands path target e is puts position member entry at (DeviceAt number) (same, below) leads =
      let element : Variable (Free position) ≡ e =
      ap (λ n. Variable (Free n)) (sym same)
      ∙ ends_at (DeviceAt number) e (Variable (Free number)) path target refl refl is leads in
      subst (λ x. Member x it.definition.accepted.signature.set) element
      ((signs module_name it stands (Variable (Free position))).1 (below, inl member))
  put_by_entry module_name it stands path target e is puts position member entry at Universal none leads = absurd none

  put_by_position : (module_name : List ℕ) (it : Standing) → StandsIn texts verdicts module_name it
      → (path : List Target) (target : Target) (e : Elem) → element_of target ≡ Some e → PutsIn path target e
      → (position : ℕ) → Member (Variable (Free position)) it.definition.accepted.type.set
      → (next : Target)
      → (DefinitionOf module_name it.definition.name ≡ next) ⊎ (lookup (earlier_targets declared module_name it) position ≡ Some next)
      → LeadsAlong (entry_in declared texts verdicts) next path target
      → Member e it.definition.accepted.signature.set
  put_by_position module_name it stands path target e is puts position member next (inl own) leads =
      puts module_name it.definition.name it (found_in declared texts verdicts differ present are module_name it stands)
      (subst (λ t. LeadsAlong (entry_in declared texts verdicts) t path target) (sym own) leads)
  put_by_position module_name it stands path target e is puts position member next (inr at) leads =
      let found = entry_at (length declared) texts verdicts (λ m n. Unit {0}) (globals_of declared it)
      (earlier_targets declared module_name it)
      (paired_there declared texts verdicts differ present are module_name it stands) position next at in
      put_by_entry module_name it stands path target e is puts position member found.entry found.is next found.stands leads

  put_by_element : (module_name : List ℕ) (it : Standing) → StandsIn texts verdicts module_name it
      → (path : List Target) (target : Target) (e : Elem) → element_of target ≡ Some e → PutsIn path target e
      → (x : Elem) → Member x it.definition.accepted.type.set
      → (next : Target) → target_of (standing_targets declared module_name it) x ≡ Some next
      → LeadsAlong (entry_in declared texts verdicts) next path target
      → Member e it.definition.accepted.signature.set
  put_by_element module_name it stands path target e is puts (Variable (Free position)) member next at leads =
      put_by_position module_name it stands path target e is puts position member next
      (own_or_earlier it.definition.recursive (DefinitionOf module_name it.definition.name)
      (earlier_targets declared module_name it) position next at) leads
  put_by_element module_name it stands path target e is puts (Variable (Bound index)) member next at leads = no_target next at
  put_by_element module_name it stands path target e is puts Cap member next at leads =
      let from_all : LeadsAlong (entry_in declared texts verdicts) Universal path target =
      subst (λ t. LeadsAlong (entry_in declared texts verdicts) t path target) (sym (some_target Universal next at)) leads in
      subst (λ x. Member x it.definition.accepted.signature.set) (ends_at Universal e Cap path target refl refl is from_all)
      ((signs module_name it stands Cap).1 (tt, inl member))
  put_by_element module_name it stands path target e is puts (Hole number) member next at leads = no_target next at

  pub puts_in : (path : List Target) (target : Target) (e : Elem) → element_of target ≡ Some e → PutsIn path target e
  puts_in [] target e is module_name name it found leads =
      no_element e (ap element_of leads ∙ is)
  puts_in (next ∷ path) target e is module_name name it found (among, leads) =
      let stands = (stands_in declared texts verdicts differ present are module_name name it found).0 in
      let (x, listed, at) =
      from_given (target_of (standing_targets declared module_name it)) it.definition.accepted.type.set.list next
      (subst (λ entry. Contains entry next) (entry_is module_name name it found) among) in
      put_by_element module_name it stands path target e is (puts_in path target e is) x
      ((Member-list x it.definition.accepted.type.set).1 listed) next at leads

  from_chain : (target : Target) (chain : List Target) (e : Elem) (module_name name : List ℕ) (it : Standing)
      → standing_in texts verdicts module_name name ≡ Ok it → element_of target ≡ Some e
      → IsChain (entry_in declared texts verdicts) (DefinitionOf module_name name) target chain
      → Member e it.definition.accepted.signature.set
  from_chain target [] e module_name name it found is chained = absurd chained
  from_chain target (first ∷ path) e module_name name it found is chained =
      puts_in path target e is module_name name it found
      (subst (λ t. LeadsAlong (entry_in declared texts verdicts) t path target) chained.0 chained.1)

pub elements_are_linked : SignatureElementsAreLinked
elements_are_linked declared texts verdicts differ present are module_name name it found e = (
  λ member.
      let reached = all_reach declared texts verdicts differ present are module_name name it found e member in (
        reached.target,
        DefinitionOf module_name name ∷ reached.path,
        reached.is_element,
        (refl, reached.leads),
      ),
  λ linked.
      from_chain declared texts verdicts differ present are linked.0 linked.1 e module_name name it found linked.2 linked.3,
)
