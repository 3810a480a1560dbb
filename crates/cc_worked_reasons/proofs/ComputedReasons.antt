-- The reason of a text, found in so many steps and rounds, and its lines.
use Rattle.std.proofs.Common.{◌≡◌, inl, inr, ℕ, Bool, true, false, cond, nat_eq, ◌&&◌, List, [], ◌∷◌, ◌++◌, length, Option, Some, None, refl, sym, ap, subst, ◌∙◌}
use Rattle.std.proofs.lemmas.Bool.{and_parts}
use Rattle.std.specs.Prelude.{codes, nat_lt}
use Rattle.std.specs.Option.{is_some, option_map, unwrap_or}
use Rattle.cc_base.specs.declared.place.Place.{Place}
use Rattle.cc_capture.specs.declared.var.Elem.{Elem}
use Rattle.cc_capture.specs.declared.var.Elem.TheVariants.{Var as Variable, Cap, Hole}
use Rattle.cc_capture.specs.declared.var.Var.TheVariants.{Bound, Free}
use Rattle.cc_capture.specs.Sets.{Set}
use Rattle.cc_core.specs.Contexts.{Context, lookup, entry_of}
use Rattle.cc_core.specs.Shapes.{CapturingType}
use Rattle.cc_core.specs.Substitution.{filled_type}
use Rattle.cc_core.specs.Subcapturing.{Subcaptures}
use Rattle.cc_checking.specs.Comparison.{Comparison, Unfinished, Mismatch, Matches, comparison}
use Rattle.cc_checking.specs.Fillings.{Filling, IsServed, AllServed, IsLeast}
use Rattle.cc_checking.specs.Inference.{limited}
use Rattle.cc_checking.specs.Verdicts as definitions
use Rattle.cc_checking.specs.Verdicts.{Definition, Checking, Accepted, Verdict, signature_under}
use Rattle.cc_checking_laws.proofs.ComputedFillings.{rounds, is_closed, rounds_are_least}
use Rattle.cc_checking_laws.proofs.ComputedVerdicts.{verdict_in, verdict_in_steps}
use Rattle.cc_checking_laws.proofs.DecidedDemands.{Known, decide_element, known_element, decide_asked, known_asked}
use Rattle.cc_grammar.specs.Syntax.{ModuleSyntax}
use Rattle.cc_mnf.specs.ElaboratedModules.{CoreDefinition, CoreModule, Elaboration, elaboration, device_names, import_names}
use Rattle.cc_mnf.specs.ElaboratedModules as elaborated
use Rattle.cc_mnf.specs.Scopes.{Name}
use Rattle.cc_reasons.specs.Causes.{Local, Scene, Cause, WrongHead, WrongType, WrongShape, NothingThere, Unavoidable, TooLarge, Located, Explained, NoAnswer, Refused, Found}
use Rattle.cc_reasons.specs.DefinitionReasons.{DefinitionReason, OfStep, NotBelow, WithCap, unserved, unsigned_cause, placed_of, FailsFirstAs, Tells as TellsReason, HasReason, explained_definition}
use Rattle.cc_reasons.specs.ExplainedInference.{BinderNames}
use Rattle.cc_reasons.specs.ReasonTexts.{with_locals, cause_lines, IsCompared, AreBeyond, is_end, declared_members, members_behind, LeadsOn, AreChainLines, element_there, set_there, spaced, AreLines}
use Rattle.cc_reasons.specs.ReasonTexts.AreBeyond.{none, is_below, is_beyond}
use Rattle.cc_reasons.specs.ReasonTexts.AreChainLines.{no_more, at_end, leading}
use Rattle.cc_reasons.specs.RefusedDefinitions.{names_of_binders, names_inside, first_binders, other_binders, IsRefusedFirst, IsOfDefinition}
use Rattle.cc_reasons.specs.RefusedDefinitions.IsRefusedFirst.{refused_first, accepted_first}
use Rattle.cc_reasons.proofs.ShortestChains.{chain_behind, chain_tried, tried_is_first_shortest}
use Rattle.cc_verdicts.specs.ModuleVerdicts.{Refusal, first_missing, with_findings, declared_context, to_be_checked}
use Rattle.cc_verdicts.specs.Readings.{TextReading, IsTree, IsNoModule, HasReading}
use Rattle.cc_verdicts.proofs.ReadingLaws.{text_has_one_reading}
use Rattle.cc_worked_reasons.specs.DefinitionRows.{Tells}
use Rattle.cc_print.specs.TypeTexts.{set_text}
use Rattle.cc_reasons.specs.Causes as reasons
use Rattle.cc_reasons.specs.Mismatches.{mismatch}
use Rattle.cc_worked_texts.proofs.ComputedModules.{text_computing}
use Rattle.cc_worked_texts.proofs.QuickTokens.{quick_reading, same_reading}
use Rattle.cc_worked_texts.specs.TextVerdicts.{devices}

-- a reason and its place
abbrev pub Reasoned : Type 0
Reasoned = DefinitionReason × Place

-- all that is asked is served, or this is the first that is not
pub data Judged : Type 0 where
  NotKnown : Judged
  AllPass : Judged
  FailsAt : (failing : Located) → Judged

abbrev pub judged_before : Option Bool → Located → Judged → Judged
judged_before None first rest = NotKnown
judged_before (Some true) first rest = rest
judged_before (Some false) first rest = FailsAt first

abbrev pub judged : ℕ → Filling → List Located → Judged
judged n f [] = AllPass
judged n f (first ∷ rest) = judged_before (decide_asked n f first.placed.asked) first (judged n f rest)

abbrev pub Says : Filling → List Located → Judged → Type 0
Says f list NotKnown = Unit {0}
Says f list AllPass = AllServed f (placed_of list)
Says f list (FailsAt failing) = FailsFirstAs f list failing

says_before : (f : Filling) (first : Located) (rest : List Located) (answer : Option Bool) (later : Judged) → Known answer (IsServed f first.placed.asked) → Says f rest later
    → Says f (first ∷ rest) (judged_before answer first later)
says_before f first rest None later known says = tt
says_before f first rest (Some false) later known says = record { before = []; after = rest; stands = refl; served = tt; fails = known }
says_before f first rest (Some true) NotKnown known says = tt
says_before f first rest (Some true) AllPass known says = (known, says)
says_before f first rest (Some true) (FailsAt failing) known says = record {
  before = first ∷ says.before;
  after = says.after;
  stands = ap (λ l. first ∷ l) says.stands;
  served = (known, says.served);
  fails = says.fails;
}

judged_says : (n : ℕ) (f : Filling) (list : List Located) → Says f list (judged n f list)
judged_says n f [] = tt
judged_says n f (first ∷ rest) = says_before f first rest (decide_asked n f first.placed.asked) (judged n f rest) (known_asked n f first.placed.asked) (judged_says n f rest)

abbrev pub unsigned_if : ℕ → Context → Definition → Filling → Checking → Option CapturingType → Option Reasoned
unsigned_if count g definition f found (Some signature) = None
unsigned_if count g definition f found None = Some (OfStep (unsigned_cause g (filled_type f found.type)), definition.name_at)

abbrev pub reason_judged : ℕ → Context → Definition → Filling → Checking → Judged → Option Reasoned
reason_judged count g definition f found NotKnown = None
reason_judged count g definition f found AllPass = unsigned_if count g definition f found (signature_under f count g found)
reason_judged count g definition f found (FailsAt failing) = Some (unserved f failing.locals failing.placed.asked, failing.placed.at)

abbrev pub reason_closed : ℕ → ℕ → Context → Definition → Filling → Checking → List Located → Bool → Option Reasoned
reason_closed n count g definition f found list true = reason_judged count g definition f found (judged n f list)
reason_closed n count g definition f found list false = None

abbrev pub reason_found : ℕ → ℕ → Context → Definition → Explained Checking → Option Reasoned
reason_found n count g definition NoAnswer = None
reason_found n count g definition (Refused cause at) = Some (OfStep cause, at)
reason_found n count g definition (Found found list) =
    reason_closed n count g definition (rounds n n (length g) (placed_of list)) found list (is_closed n (length g) (rounds n n (length g) (placed_of list)) (placed_of list))

-- the reason, if so many steps and rounds are enough
abbrev pub reason_in : ℕ → ℕ → Context → Definition → BinderNames → Option Reasoned
reason_in n count g definition names = reason_found n count g definition (explained_definition (limited n) count g definition names)

module _ (n count : ℕ) (g : Context) (definition : Definition) (reason : DefinitionReason) (at : Place) where
  same_parts : {one : DefinitionReason} {place : Place} → ◌≡◌ {A = Option Reasoned} (Some (one, place)) (Some (reason, at)) → (reason ≡ one) × (at ≡ place)
  same_parts {one = one} {place = place} e =
      let same : ◌≡◌ {A = Reasoned} (reason, at) (one, place) = cc in (ap (λ it. it.0) same, ap (λ it. it.1) same)

  by_signature : (f : Filling) (found : Checking) (list : List Located) (o : Option CapturingType) → signature_under f count g found ≡ o → IsLeast (length g) (placed_of list) f → AllServed f (placed_of list)
      → unsigned_if count g definition f found o ≡ Some (reason, at) → TellsReason count g definition (Found found list) reason at
  by_signature f found list (Some signature) is least served e = cc
  by_signature f found list None is least served e = let parts = same_parts e in (f, least, inr (served, is, parts.0, parts.1))

  by_judged : (f : Filling) (found : Checking) (list : List Located) (j : Judged) → Says f list j → IsLeast (length g) (placed_of list) f
      → reason_judged count g definition f found j ≡ Some (reason, at) → TellsReason count g definition (Found found list) reason at
  by_judged f found list NotKnown says least e = cc
  by_judged f found list AllPass says least e = by_signature f found list (signature_under f count g found) refl least says e
  by_judged f found list (FailsAt failing) says least e = let parts = same_parts e in (f, least, inl (failing, says, parts.0, parts.1))

  by_closed : (k : ℕ) (found : Checking) (list : List Located) (b : Bool) → is_closed n (length g) (rounds k n (length g) (placed_of list)) (placed_of list) ≡ b
      → reason_closed n count g definition (rounds k n (length g) (placed_of list)) found list b ≡ Some (reason, at) → TellsReason count g definition (Found found list) reason at
  by_closed k found list true closed e =
      by_judged (rounds k n (length g) (placed_of list)) found list (judged n (rounds k n (length g) (placed_of list)) list) (judged_says n (rounds k n (length g) (placed_of list)) list)
      (rounds_are_least (length g) n k (placed_of list) closed) e
  by_closed k found list false closed e = cc

  by_found : (o : Explained Checking) → reason_found n count g definition o ≡ Some (reason, at) → TellsReason count g definition o reason at
  by_found NoAnswer e = cc
  by_found (Refused cause place) e = same_parts e
  by_found (Found found list) e = by_closed n found list (is_closed n (length g) (rounds n n (length g) (placed_of list)) (placed_of list)) refl e

reason_in_steps : (n count : ℕ) (g : Context) (definition : Definition) (names : BinderNames) (reason : DefinitionReason) (at : Place)
    → reason_in n count g definition names ≡ Some (reason, at) → HasReason count g definition names reason at
reason_in_steps n count g definition names reason at e =
    (n, by_found n count g definition reason at (explained_definition (limited n) count g definition names) e)

-- the same of definitions in order, with the names there
abbrev pub Named : Type 0
Named = DefinitionReason × Place × List Name

abbrev pub named : List Name → Option Reasoned → Option Named
named inside None = None
named inside (Some (reason, at)) = Some (reason, at, inside)

abbrev pub first_in_by : ℕ → ℕ → Context → List Name → CoreDefinition → List BinderNames → (CapturingType → Option Named) → Option Verdict → Option Named
first_in_by n count context names first binders others None = None
first_in_by n count context names first binders others (Some (definitions.IsRefused code at)) =
    named (names_inside names first) (reason_in n count context (to_be_checked first) (first_binders binders))
first_in_by n count context names first binders others (Some (definitions.IsAccepted accepted)) = others accepted.signature

abbrev pub first_in : ℕ → ℕ → Context → List Name → List CoreDefinition → List BinderNames → Option Named
first_in n count context names [] binders = None
first_in n count context names (first ∷ rest) binders =
    first_in_by n count context names first binders (λ signature. first_in n count (entry_of signature ∷ context) (names ++ first.name ∷ []) rest (other_binders binders))
    (verdict_in n count context (to_be_checked first))

named_parts : {reason one : DefinitionReason} {at place : Place} {names inside : List Name} → ◌≡◌ {A = Option Named} (Some (one, place, inside)) (Some (reason, at, names)) → (one ≡ reason) × (place ≡ at) × (inside ≡ names)
named_parts {reason = reason} {one = one} {at = at} {place = place} {names = names} {inside = inside} e =
    let same : ◌≡◌ {A = Named} (one, place, inside) (reason, at, names) = cc in
    (ap (λ it. it.0) same, ap (λ it. it.1) same, ap (λ it. it.2) same)

module _ (n count : ℕ) (reason : DefinitionReason) (at : Place) (inside : List Name) where
  by_named : (context : Context) (names : List Name) (first : CoreDefinition) (rest : List CoreDefinition) (binders : List BinderNames) (o : Option Reasoned)
      → reason_in n count context (to_be_checked first) (first_binders binders) ≡ o → named (names_inside names first) o ≡ Some (reason, at, inside)
      → IsRefusedFirst count context names (first ∷ rest) binders reason at inside
  by_named context names first rest binders None is e = cc
  by_named context names first rest binders (Some (one, place)) is e =
      let parts = named_parts e in
      let has = reason_in_steps n count context (to_be_checked first) (first_binders binders) one place is in
      subst (λ i. IsRefusedFirst count context names (first ∷ rest) binders reason at i) parts.2
      (refused_first {names = names} {first = first} {rest = rest}
      (subst (λ p. HasReason count context (to_be_checked first) (first_binders binders) reason p) parts.1
      (subst (λ r. HasReason count context (to_be_checked first) (first_binders binders) r place) parts.0 has)))

  by_verdict : (context : Context) (names : List Name) (first : CoreDefinition) (rest : List CoreDefinition) (binders : List BinderNames) (others : CapturingType → Option Named)
      → ((signature : CapturingType) → others signature ≡ Some (reason, at, inside) → IsRefusedFirst count (entry_of signature ∷ context) (names ++ first.name ∷ []) rest (other_binders binders) reason at inside)
      → (o : Option Verdict) → verdict_in n count context (to_be_checked first) ≡ o → first_in_by n count context names first binders others o ≡ Some (reason, at, inside)
      → IsRefusedFirst count context names (first ∷ rest) binders reason at inside
  by_verdict context names first rest binders others behind None is e = cc
  by_verdict context names first rest binders others behind (Some (definitions.IsRefused code place)) is e =
      by_named context names first rest binders (reason_in n count context (to_be_checked first) (first_binders binders)) refl e
  by_verdict context names first rest binders others behind (Some (definitions.IsAccepted accepted)) is e =
      accepted_first (verdict_in_steps n count context (to_be_checked first) (definitions.IsAccepted accepted) is) (behind accepted.signature e)

  first_found : (context : Context) (names : List Name) (list : List CoreDefinition) (binders : List BinderNames) → first_in n count context names list binders ≡ Some (reason, at, inside)
      → IsRefusedFirst count context names list binders reason at inside
  first_found context names [] binders e = cc
  first_found context names (first ∷ rest) binders e =
      by_verdict context names first rest binders _ (λ signature is. first_found (entry_of signature ∷ context) (names ++ first.name ∷ []) rest (other_binders binders) is)
      (verdict_in n count context (to_be_checked first)) refl e

-- of a text
abbrev pub of_elaboration : ℕ → ModuleSyntax → Elaboration → Option Named
of_elaboration n tree (elaborated.IsRefused code at) = None
of_elaboration n tree (elaborated.IsElaborated core) =
    first_in n (length devices) (with_findings (declared_context devices) []) (device_names devices ++ import_names tree.imports) core.definitions (names_of_binders tree.defs)

abbrev pub of_imports : ℕ → ModuleSyntax → Option Refusal → Option Named
of_imports n tree (Some missing) = None
of_imports n tree None = of_elaboration n tree (elaboration (device_names devices) tree)

abbrev pub of_reading : ℕ → TextReading → Option Named
of_reading n (IsNoModule code at) = None
of_reading n (IsTree tree) = of_imports n tree (first_missing tree.imports [])

module _ (n : ℕ) (text : List ℕ) (reason : DefinitionReason) (at : Place) (names : List Name) where
  by_elaboration : (tree : ModuleSyntax) → HasReading text (IsTree tree) → first_missing tree.imports [] ≡ None → (o : Elaboration) → elaboration (device_names devices) tree ≡ o
      → of_elaboration n tree o ≡ Some (reason, at, names) → IsOfDefinition devices text [] reason at names
  by_elaboration tree reads found (elaborated.IsRefused code place) is e = cc
  by_elaboration tree reads found (elaborated.IsElaborated core) is e = record {
    tree = tree;
    core = core;
    reads = reads;
    found = found;
    elaborates = is;
    first = first_found n (length devices) reason at names (with_findings (declared_context devices) []) (device_names devices ++ import_names tree.imports) core.definitions (names_of_binders tree.defs) e;
  }

  by_imports : (tree : ModuleSyntax) → HasReading text (IsTree tree) → (o : Option Refusal) → first_missing tree.imports [] ≡ o → of_imports n tree o ≡ Some (reason, at, names)
      → IsOfDefinition devices text [] reason at names
  by_imports tree reads (Some missing) is e = cc
  by_imports tree reads None is e = by_elaboration tree reads is (elaboration (device_names devices) tree) refl e

  by_reading : (o : TextReading) → HasReading text o → of_reading n o ≡ Some (reason, at, names) → IsOfDefinition devices text [] reason at names
  by_reading (IsNoModule code place) reads e = cc
  by_reading (IsTree tree) reads e = by_imports tree reads (first_missing tree.imports []) refl e

  of_text : of_reading n (quick_reading text) ≡ Some (reason, at, names) → IsOfDefinition devices text [] reason at names
  of_text e = by_reading (quick_reading text) ((text_has_one_reading text (quick_reading text)).1 (sym (same_reading text))) e

-- LINES

abbrev pub is_mismatch : Comparison → Bool
is_mismatch Unfinished = false
is_mismatch Mismatch = true
is_mismatch (Matches demands) = false

mismatch_is : (c : Comparison) → is_mismatch c ≡ true → c ≡ Mismatch
mismatch_is Unfinished e = cc
mismatch_is Mismatch e = refl
mismatch_is (Matches demands) e = cc

-- whether so many steps compare
abbrev pub is_compared : ℕ → Cause → Bool
is_compared n (WrongHead scene found wanted) = true
is_compared n (WrongType scene found wanted) = is_mismatch (comparison n scene.context found.shape wanted.shape)
is_compared n (WrongShape scene found wanted) = is_mismatch (comparison n scene.context found wanted)
is_compared n NothingThere = true
is_compared n (Unavoidable scene position type) = true
is_compared n (TooLarge scene type) = true

compared_is : (n : ℕ) (cause : Cause) → is_compared n cause ≡ true → IsCompared n cause
compared_is n (WrongHead scene found wanted) e = tt
compared_is n (WrongType scene found wanted) e = mismatch_is (comparison n scene.context found.shape wanted.shape) e
compared_is n (WrongShape scene found wanted) e = mismatch_is (comparison n scene.context found wanted) e
compared_is n NothingThere e = tt
compared_is n (Unavoidable scene position type) e = tt
compared_is n (TooLarge scene type) e = tt

-- the elements that are not below, where each is decided
abbrev pub beyond_by : Option Bool → Elem → Option (List Elem) → Option (List Elem)
beyond_by None e rest = None
beyond_by (Some true) e rest = rest
beyond_by (Some false) e rest = option_map (λ told. e ∷ told) rest

abbrev pub beyond_in : ℕ → Context → Set → List Elem → Option (List Elem)
beyond_in n g right [] = Some []
beyond_in n g right (e ∷ rest) = beyond_by (decide_element n g right e) e (beyond_in n g right rest)

same_list : {one other : List Elem} → Some one ≡ Some other → one ≡ other
same_list e = cc

beyond_is : (n : ℕ) (g : Context) (right : Set) (list told : List Elem) → beyond_in n g right list ≡ Some told → AreBeyond g right list told
beyond_is n g right [] told e = subst (AreBeyond g right []) (same_list e) none
beyond_is n g right (x ∷ rest) told e =
    by (decide_element n g right x) (known_element n g right x) (beyond_in n g right rest) (λ behind is. beyond_is n g right rest behind is) told e
  where
    by : (o : Option Bool) → Known o (Subcaptures g x right) → (later : Option (List Elem)) → ((behind : List Elem) → later ≡ Some behind → AreBeyond g right rest behind)
        → (told : List Elem) → beyond_by o x later ≡ Some told → AreBeyond g right (x ∷ rest) told
    by None known later are told e = cc
    by (Some true) known later are told e = is_below known (are told e)
    by (Some false) known None are told e = cc
    by (Some false) known (Some behind) are told e = subst (AreBeyond g right (x ∷ rest)) (same_list e) (is_beyond known (are behind refl))

-- what each entry has is decided
abbrev pub decided_all : ℕ → Context → Set → Context → Bool
decided_all n g right [] = true
decided_all n g right (entry ∷ older) = is_some (beyond_in n g right (declared_members (Some entry))) && decided_all n g right older

decided_at : (n : ℕ) (g : Context) (right : Set) (entries : Context) → decided_all n g right entries ≡ true → (p : ℕ)
    → is_some (beyond_in n g right (declared_members (lookup entries p))) ≡ true
decided_at n g right [] e p = refl
decided_at n g right (entry ∷ older) e p = by (nat_eq p (length older)) (decided_at n g right older (and_parts _ _ e).1 p)
  where
    by : (b : Bool) → is_some (beyond_in n g right (declared_members (lookup older p))) ≡ true
        → is_some (beyond_in n g right (declared_members (cond b (Some entry) (lookup older p)))) ≡ true
    by true deeper = (and_parts _ _ e).0
    by false deeper = deeper

-- what an element leads on to, where that is decided
abbrev pub entry_in : ℕ → ℕ → Context → Set → Elem → List Elem
entry_in n count g right e = unwrap_or (beyond_in n g right (members_behind count g e)) []

some_is : (o : Option (List Elem)) → is_some o ≡ true → o ≡ Some (unwrap_or o [])
some_is (Some list) e = refl
some_is None e = cc

leads_in : (n count : ℕ) (g : Context) (right : Set) → decided_all n g right g ≡ true → LeadsOn count g right (entry_in n count g right)
leads_in n count g right all (Variable (Free p)) = by (nat_lt p count)
  where
    by : (b : Bool) → AreBeyond g right (cond b [] (declared_members (lookup g p))) (unwrap_or (beyond_in n g right (cond b [] (declared_members (lookup g p)))) [])
    by true = none
    by false = beyond_is n g right (declared_members (lookup g p)) _ (some_is _ (decided_at n g right g all p))
leads_in n count g right all (Variable (Bound i)) = none
leads_in n count g right all Cap = none
leads_in n count g right all (Hole h) = none

same_lines : {one other : List (List ℕ)} → Some one ≡ Some other → one ≡ other
same_lines e = cc

-- a line more, where a chain is found
abbrev pub chain_line : List Name → Context → Elem → Option (List Elem) → Option (List (List ℕ)) → Option (List (List ℕ))
chain_line names g e None rest = None
chain_line names g e (Some behind) rest =
    option_map (λ lines. (element_there names g e ++ codes ":" ++ spaced names g behind) ∷ lines) rest

-- the lines of chains, where chains of fewer links are tried
abbrev pub chains_in : ℕ → ℕ → List Name → Context → (Elem → List Elem) → List Elem → Option (List (List ℕ))
chains_in n count names g entry [] = Some []
chains_in n count names g entry (e ∷ rest) =
    cond (is_end count e) (chains_in n count names g entry rest)
    (chain_line names g e (chain_tried entry (is_end count) n 0 e) (chains_in n count names g entry rest))

chains_are : (n count : ℕ) (names : List Name) (g : Context) (entry : Elem → List Elem) (list : List Elem) (told : List (List ℕ)) → chains_in n count names g entry list ≡ Some told
    → AreChainLines count names g entry list told
chains_are n count names g entry [] told e = subst (AreChainLines count names g entry []) (same_lines e) no_more
chains_are n count names g entry (x ∷ rest) told e =
    by (is_end count x) refl (chain_tried entry (is_end count) n 0 x) refl (chains_in n count names g entry rest) (λ lines is. chains_are n count names g entry rest lines is) told e
  where
    by : (b : Bool) → is_end count x ≡ b → (o : Option (List Elem)) → chain_tried entry (is_end count) n 0 x ≡ o
        → (later : Option (List (List ℕ))) → ((lines : List (List ℕ)) → later ≡ Some lines → AreChainLines count names g entry rest lines)
        → (told : List (List ℕ)) → cond b later (chain_line names g x o later) ≡ Some told → AreChainLines count names g entry (x ∷ rest) told
    by true is o here later are told e = at_end is (are told e)
    by false is None here later are told e = cc
    by false is (Some behind) here None are told e = cc
    by false is (Some behind) here (Some lines) are told e =
        subst (AreChainLines count names g entry (x ∷ rest)) (same_lines e)
        (leading behind is (tried_is_first_shortest entry (is_end count) n x behind here) (are lines refl))

-- the lines of a set that is not below another, where the chains are told by these
abbrev pub captured_told : List Name → Scene → Set → List Elem → Option (List (List ℕ)) → Option (List (List ℕ))
captured_told names scene right captured chains =
    option_map
    (λ lines. (codes "captured" ++ spaced (with_locals names scene.locals) scene.context captured)
    ∷ (codes "allowed " ++ set_there (with_locals names scene.locals) scene.context right) ∷ lines)
    chains

abbrev pub captured_lines : ℕ → ℕ → List Name → Scene → Set → Option (List Elem) → Option (List (List ℕ))
captured_lines n count names scene right None = None
captured_lines n count names scene right (Some captured) =
    cond (decided_all n scene.context right scene.context)
    (captured_told names scene right captured
    (chains_in n count (with_locals names scene.locals) scene.context (entry_in n count scene.context right) captured))
    None

abbrev pub lines_in : ℕ → ℕ → List Name → DefinitionReason → Option (List (List ℕ))
lines_in n count names (OfStep cause) = cond (is_compared n cause) (Some (cause_lines n names cause)) None
lines_in n count names (NotBelow scene left right) = captured_lines n count names scene right (beyond_in n scene.context right left.list)
lines_in n count names (WithCap locals set) = Some ((codes "set " ++ set_text (with_locals names locals) 0 set) ∷ [])

module _ (n count : ℕ) (names : List Name) (told : List (List ℕ)) where
  by_cause : (cause : Cause) (b : Bool) → is_compared n cause ≡ b → cond b (Some (cause_lines n names cause)) None ≡ Some told → AreLines count names (OfStep cause) told
  by_cause cause true is e = (n, compared_is n cause is, sym (same_lines e))
  by_cause cause false is e = cc

  by_captured : (scene : Scene) (left right : Set) (o : Option (List Elem)) → beyond_in n scene.context right left.list ≡ o
      → captured_lines n count names scene right o ≡ Some told → AreLines count names (NotBelow scene left right) told
  by_captured scene left right None is e = cc
  by_captured scene left right (Some captured) is e =
      by (decided_all n scene.context right scene.context) refl
      (chains_in n count (with_locals names scene.locals) scene.context (entry_in n count scene.context right) captured) refl e
    where
      by : (b : Bool) → decided_all n scene.context right scene.context ≡ b
          → (o : Option (List (List ℕ))) → chains_in n count (with_locals names scene.locals) scene.context (entry_in n count scene.context right) captured ≡ o
          → cond b (captured_told names scene right captured o) None ≡ Some told → AreLines count names (NotBelow scene left right) told
      by true decided (Some chains) are e = (
        captured,
        entry_in n count scene.context right,
        chains,
        beyond_is n scene.context right left.list captured is,
        leads_in n count scene.context right decided,
        chains_are n count (with_locals names scene.locals) scene.context (entry_in n count scene.context right) captured chains are,
        sym (same_lines e),
      )
      by true decided None are e = cc
      by false decided o are e = cc

  are_lines : (reason : DefinitionReason) → lines_in n count names reason ≡ Some told → AreLines count names reason told
  are_lines (OfStep cause) e = by_cause cause (is_compared n cause) refl e
  are_lines (NotBelow scene left right) e = by_captured scene left right (beyond_in n scene.context right left.list) refl e
  are_lines (WithCap locals set) e = sym (same_lines e)

-- what is told of a text: the place and the lines
abbrev pub lines_of : ℕ → Option Named → Option (Place × List (List ℕ))
lines_of n None = None
lines_of n (Some (reason, at, names)) = option_map (λ told. (at, told)) (lines_in n (length devices) names reason)

abbrev pub told_in : ℕ → List ℕ → Option (Place × List (List ℕ))
told_in n text = lines_of n (of_reading n (quick_reading text))

told_parts : {at place : Place} {one other : List (List ℕ)} → ◌≡◌ {A = Option (Place × List (List ℕ))} (Some (at, one)) (Some (place, other)) → (at ≡ place) × (one ≡ other)
told_parts {at = at} {place = place} {one = one} {other = other} e =
    let same : ◌≡◌ {A = Place × List (List ℕ)} (at, one) (place, other) = cc in (ap (λ it. it.0) same, ap (λ it. it.1) same)

-- a text is told of so where that is found
pub tells : (n : ℕ) (text : List ℕ) (at : Place) (told : List (List ℕ)) → told_in n text ≡ Some (at, told) → Tells text at told
tells n text at told e = by (of_reading n (quick_reading text)) refl e
  where
    by_lines : (reason : DefinitionReason) (place : Place) (names : List Name) → of_reading n (quick_reading text) ≡ Some (reason, place, names)
        → (o : Option (List (List ℕ))) → lines_in n (length devices) names reason ≡ o → ◌≡◌ {A = Option (Place × List (List ℕ))} (option_map (λ lines. (place, lines)) o) (Some (at, told)) → Tells text at told
    by_lines reason place names is None are e = cc
    by_lines reason place names is (Some lines) are e =
        let parts = told_parts e in (
          reason,
          names,
          of_text n text reason at names (is ∙ ap (λ p. Some (reason, p, names)) parts.0),
          are_lines n (length devices) names told reason (are ∙ ap Some parts.1),
        )

    by : (o : Option Named) → of_reading n (quick_reading text) ≡ o → lines_of n o ≡ Some (at, told) → Tells text at told
    by None is e = cc
    by (Some (reason, place, names)) is e = by_lines reason place names is (lines_in n (length devices) names reason) refl e

-- `unfolding reasons_computing` lets `refl` compute what is told of a text
unfoldable pub reasons_computing : Unit {0}
unfolding text_computing reasons.◌>>=◌ mismatch chain_behind chain_tried
reasons_computing = tt
