-- What a cause tells of a second name and of a right side is so.
use Rattle.std.proofs.Common.{◌≡◌, ◌⊎◌, inl, inr, zero, Bool, true, false, ◌||◌, if◌then◌else◌, List, [], ◌∷◌, ◌++◌, map, Option, Some, None, refl, sym, ap, subst, ◌∙◌, append_assoc, Contains}
use Rattle.std.specs.List.{list_any}
use Rattle.std.specs.Str.{bytes_eq}
use Rattle.std.specs.Cmp.Lexicographic.{bytes_decides}
use Rattle.cc_base.specs.declared.place.Place.{Place}
use Rattle.cc_grammar.specs.Syntax.{ImportSyntax, DefSyntax}
use Rattle.cc_mnf.specs.ElaboratedModules.{CoreDefinition, elaborated_definition}
use Rattle.cc_mnf.specs.Operands.{start}
use Rattle.cc_mnf.specs.Scopes.{Name, outermost}
use Rattle.cc_mnf.specs.Steps.{ElaborationOutcome, Refused, Found}
use Rattle.cc_mnf.proofs.SecondNames.{among_test}
use Rattle.cc_elaboration_reasons.specs.CauseContents.{names_given, IsGivenTwice, RepeatedNamesAreGivenTwice, HasRightSide, FormsAreOfRightSides}
use Rattle.cc_elaboration_reasons.specs.ElaborationCauses.{ExpressionForm, form_of, Repeated, NotAValue, ExplainedRefusal, refused, ◌or_else◌}
use Rattle.cc_elaboration_reasons.specs.ExplainedElaboration.{expression_refusal, note_refusal, value_refusal, definition_refusal, TakenName, device_name, import_name, definition_name, names_in, repetition_refusal, imports_refusal, definitions_refusal}
use Rattle.cc_elaboration_reasons.proofs.CausesInside.{IsInside, Inside, expression_inside, note_inside}

-- the first refusal of two is one of them
one_of : (one other : Option ExplainedRefusal) (r : ExplainedRefusal) → (one or_else other) ≡ Some r → (one ≡ Some r) ⊎ (other ≡ Some r)
one_of (Some one) other r e = inl e
one_of None other r e = inr e

inside : (o : Option ExplainedRefusal) (r : ExplainedRefusal) → Inside o → o ≡ Some r → IsInside r.cause
inside o r i e = subst Inside e i

-- the name as it stands there
abbrev given : Name → Option Place → TakenName
given name at = record { name = name; at = at }

-- a name that is refused: the first that is it
record FirstTaken (taken : List TakenName) (name : Name) (at : Place) (r : ExplainedRefusal) : Type 0 where
  before : List TakenName
  after : List TakenName
  first : Option Place
  stands : taken ≡ before ++ given name first ∷ after
  is : Some r ≡ refused (Repeated name first) at
  none : list_any (bytes_eq name) (names_in before) ≡ false

first_taken : (taken : List TakenName) (name : Name) (at : Place) (r : ExplainedRefusal) → repetition_refusal taken name at ≡ Some r → FirstTaken taken name at r
first_taken [] name at r e = cc
first_taken (one ∷ rest) name at r e = by (bytes_eq name one.name) refl (first_taken rest name at r) e
  where
    by : (b : Bool) → bytes_eq name one.name ≡ b → (repetition_refusal rest name at ≡ Some r → FirstTaken rest name at r)
        → (if b then refused (Repeated name one.at) at else repetition_refusal rest name at) ≡ Some r → FirstTaken (one ∷ rest) name at r
    by true is later e = record {
      before = [];
      after = rest;
      first = one.at;
      stands = ap (λ it. given it one.at ∷ rest) (sym ((bytes_decides name one.name).0 is));
      is = sym e;
      none = refl;
    }
    by false is later e =
        let found = later e in
        record {
          before = one ∷ found.before;
          after = found.after;
          first = found.first;
          stands = ap (λ it. one ∷ it) found.stands;
          is = found.is;
          none = ap (λ b. b || list_any (bytes_eq name) (names_in found.before)) is ∙ found.none;
        }

same_refusal : (one other : ExplainedRefusal) → Some one ≡ Some other → (one.cause ≡ other.cause) × (one.at ≡ other.at)
same_refusal one other e = let same : one ≡ other = cc in (ap (λ it. it.cause) same, ap (λ it. it.at) same)

same_told : (name own : Name) (first there : Option Place) (at place : Place) → refused (Repeated name first) at ≡ refused (Repeated own there) place
    → (own ≡ name) × (there ≡ first) × (place ≡ at)
same_told name own first there at place e =
    let parts = same_refusal (record { cause = Repeated name first; at = at }) (record { cause = Repeated own there; at = place }) e in
    let causes : Repeated name first ≡ Repeated own there = parts.0 in (cc, cc, sym parts.1)

no_name : {form : ExpressionForm} {name : Name} {first : Option Place} → NotAValue form ≡ Repeated name first → ⊥
no_name e = cc

no_contents : (name : Name) (names : List Name) → list_any (bytes_eq name) names ≡ false → Contains names name → ⊥
no_contents name names e h = true_is_false (sym (among_test name names h) ∙ e)
  where
    true_is_false : true ≡ false → ⊥
    true_is_false same = cc

-- a name that is refused behind taken ones is given twice, whatever follows
given_twice : (taken rest : List TakenName) (own : Name) (place : Place) (name : Name) (first : Option Place) (at : Place)
    → repetition_refusal taken own place ≡ refused (Repeated name first) at → IsGivenTwice (taken ++ given own (Some place) ∷ rest) name first at
given_twice taken rest own place name first at e =
    let found = first_taken taken own place _ e in
    let parts = same_told name own first found.first at place found.is in
    let none : list_any (bytes_eq name) (names_in found.before) ≡ false = subst (λ it. list_any (bytes_eq it) (names_in found.before) ≡ false) parts.0 found.none in
    record {
      before = found.before;
      between = found.after;
      after = rest;
      stand =
          ap (λ it. it ++ given own (Some place) ∷ rest) found.stands
          ∙ append_assoc found.before (given own found.first ∷ found.after) (given own (Some place) ∷ rest)
          ∙ ap (λ it. found.before ++ given it found.first ∷ (found.after ++ given it (Some place) ∷ rest)) parts.0
          ∙ ap (λ it. found.before ++ given name it ∷ (found.after ++ given name (Some place) ∷ rest)) parts.1
          ∙ ap (λ it. found.before ++ given name first ∷ (found.after ++ given name (Some it) ∷ rest)) parts.2;
      first_there = no_contents name (names_in found.before) none;
    }

imports_given : (imports : List ImportSyntax) (taken rest : List TakenName) (name : Name) (first : Option Place) (at : Place)
    → imports_refusal taken imports ≡ refused (Repeated name first) at → IsGivenTwice (taken ++ (map import_name imports ++ rest)) name first at
imports_given [] taken rest name first at e = cc
imports_given (one ∷ imports) taken rest name first at e =
    by (imports_given imports (taken ++ import_name one ∷ []) rest name first at)
    (one_of (repetition_refusal taken one.name one.name_at) (imports_refusal (taken ++ import_name one ∷ []) imports) _ e)
  where
    by : (imports_refusal (taken ++ import_name one ∷ []) imports ≡ refused (Repeated name first) at → IsGivenTwice ((taken ++ import_name one ∷ []) ++ (map import_name imports ++ rest)) name first at)
        → (repetition_refusal taken one.name one.name_at ≡ refused (Repeated name first) at) ⊎ (imports_refusal (taken ++ import_name one ∷ []) imports ≡ refused (Repeated name first) at)
        → IsGivenTwice (taken ++ import_name one ∷ (map import_name imports ++ rest)) name first at
    by others (inl e) = given_twice taken (map import_name imports ++ rest) one.name one.name_at name first at e
    by others (inr e) =
        subst (λ it. IsGivenTwice it name first at) (append_assoc taken (import_name one ∷ []) (map import_name imports ++ rest)) (others e)

module _ (definition : DefSyntax) where
  no_repetition : (o : ElaborationOutcome CoreDefinition) (name : Name) (first : Option Place) (at : Place) → value_refusal definition o ≡ refused (Repeated name first) at → ⊥
  no_repetition (Refused code there) name first at e =
      no_name (same_refusal (record { cause = NotAValue (form_of definition.right); at = start definition.right }) (record { cause = Repeated name first; at = at }) e).0
  no_repetition (Found value holes) name first at e = cc

  right_side : (o : ElaborationOutcome CoreDefinition) (form : ExpressionForm) (at : Place) → value_refusal definition o ≡ refused (NotAValue form) at
      → (form ≡ form_of definition.right) × (at ≡ start definition.right)
  right_side (Refused code there) form at e =
      let parts = same_refusal (record { cause = NotAValue (form_of definition.right); at = start definition.right }) (record { cause = NotAValue form; at = at }) e in
      let causes : NotAValue (form_of definition.right) ≡ NotAValue form = parts.0 in (cc, sym parts.1)
  right_side (Found value holes) form at e = cc

  -- what is refused in a definition, and not inside, is its right side
  value_refused : (names with_own : List Name) (r : ExplainedRefusal) → (IsInside r.cause → ⊥) → definition_refusal names with_own definition ≡ Some r
      → value_refusal definition (elaborated_definition names with_own definition zero) ≡ Some r
  value_refused names with_own r never e = by (one_of (note_refusal names definition) _ r e)
    where
      body : Option ExplainedRefusal
      body = expression_refusal (outermost (if definition.own then with_own else names)) definition.right

      last : Option ExplainedRefusal
      last = value_refusal definition (elaborated_definition names with_own definition zero)

      behind_note : (body ≡ Some r) ⊎ (last ≡ Some r) → last ≡ Some r
      behind_note (inl e) = absurd (never (inside body r (expression_inside definition.right (outermost (if definition.own then with_own else names))) e))
      behind_note (inr e) = e

      by : (note_refusal names definition ≡ Some r) ⊎ ((body or_else last) ≡ Some r) → last ≡ Some r
      by (inl e) = absurd (never (inside (note_refusal names definition) r (note_inside names definition) e))
      by (inr e) = behind_note (one_of body last r e)

definitions_given : (definitions : List DefSyntax) (taken : List TakenName) (name : Name) (first : Option Place) (at : Place)
    → definitions_refusal taken definitions ≡ refused (Repeated name first) at → IsGivenTwice (taken ++ map definition_name definitions) name first at
definitions_given [] taken name first at e = cc
definitions_given (one ∷ rest) taken name first at e =
    by (definitions_given rest (taken ++ definition_name one ∷ []) name first at) (one_of (repetition_refusal taken one.name one.name_at) _ _ e)
  where
    own : Option ExplainedRefusal
    own = definition_refusal (names_in taken) (names_in (taken ++ definition_name one ∷ [])) one

    later : Option ExplainedRefusal
    later = definitions_refusal (taken ++ definition_name one ∷ []) rest

    Others : Type 0
    Others = later ≡ refused (Repeated name first) at → IsGivenTwice ((taken ++ definition_name one ∷ []) ++ map definition_name rest) name first at

    behind_name : Others → (own ≡ refused (Repeated name first) at) ⊎ (later ≡ refused (Repeated name first) at) → IsGivenTwice (taken ++ definition_name one ∷ map definition_name rest) name first at
    behind_name others (inl e) = absurd (no_repetition one _ name first at (value_refused one (names_in taken) (names_in (taken ++ definition_name one ∷ [])) _ (λ i. i) e))
    behind_name others (inr e) =
        subst (λ it. IsGivenTwice it name first at) (append_assoc taken (definition_name one ∷ []) (map definition_name rest)) (others e)

    by : Others → (repetition_refusal taken one.name one.name_at ≡ refused (Repeated name first) at) ⊎ ((own or_else later) ≡ refused (Repeated name first) at)
        → IsGivenTwice (taken ++ definition_name one ∷ map definition_name rest) name first at
    by others (inl e) = given_twice taken (map definition_name rest) one.name one.name_at name first at e
    by others (inr e) = behind_name others (one_of own later _ e)

pub repeated_names_are_given_twice : RepeatedNamesAreGivenTwice
repeated_names_are_given_twice devices text name first at e = by (one_of (imports_refusal (map device_name devices) text.imports) _ _ e)
  where
    by : (imports_refusal (map device_name devices) text.imports ≡ refused (Repeated name first) at)
        ⊎ (definitions_refusal (map device_name devices ++ map import_name text.imports) text.defs ≡ refused (Repeated name first) at)
        → IsGivenTwice (names_given devices text) name first at
    by (inl e) =
        subst (λ it. IsGivenTwice it name first at) (sym (append_assoc (map device_name devices) (map import_name text.imports) (map definition_name text.defs)))
        (imports_given text.imports (map device_name devices) (map definition_name text.defs) name first at e)
    by (inr e) = definitions_given text.defs (map device_name devices ++ map import_name text.imports) name first at e

-- a name that is refused is no right side
no_form : (taken : List TakenName) (name : Name) (at : Place) (form : ExpressionForm) (place : Place) → repetition_refusal taken name at ≡ refused (NotAValue form) place → ⊥
no_form taken name at form place e =
    let found = first_taken taken name at _ e in
    no_name (same_refusal (record { cause = NotAValue form; at = place }) (record { cause = Repeated name found.first; at = at }) found.is).0

no_import_form : (imports : List ImportSyntax) (taken : List TakenName) (form : ExpressionForm) (place : Place) → imports_refusal taken imports ≡ refused (NotAValue form) place → ⊥
no_import_form [] taken form place e = cc
no_import_form (one ∷ imports) taken form place e =
    by (no_import_form imports (taken ++ import_name one ∷ []) form place) (one_of (repetition_refusal taken one.name one.name_at) _ _ e)
  where
    by : (imports_refusal (taken ++ import_name one ∷ []) imports ≡ refused (NotAValue form) place → ⊥) → (repetition_refusal taken one.name one.name_at ≡ refused (NotAValue form) place) ⊎ (imports_refusal (taken ++ import_name one ∷ []) imports ≡ refused (NotAValue form) place) → ⊥
    by others (inl e) = no_form taken one.name one.name_at form place e
    by others (inr e) = others e

form_there : (definitions : List DefSyntax) (taken : List TakenName) (form : ExpressionForm) (at : Place) → definitions_refusal taken definitions ≡ refused (NotAValue form) at → HasRightSide definitions form at
form_there [] taken form at e = cc
form_there (one ∷ rest) taken form at e =
    by (form_there rest (taken ++ definition_name one ∷ []) form at) (one_of (repetition_refusal taken one.name one.name_at) _ _ e)
  where
    own : Option ExplainedRefusal
    own = definition_refusal (names_in taken) (names_in (taken ++ definition_name one ∷ [])) one

    later : Option ExplainedRefusal
    later = definitions_refusal (taken ++ definition_name one ∷ []) rest

    Others : Type 0
    Others = later ≡ refused (NotAValue form) at → HasRightSide rest form at

    behind_name : Others → (own ≡ refused (NotAValue form) at) ⊎ (later ≡ refused (NotAValue form) at) → HasRightSide (one ∷ rest) form at
    behind_name others (inl e) =
        let is = right_side one _ form at (value_refused one (names_in taken) (names_in (taken ++ definition_name one ∷ [])) _ (λ i. i) e) in
        record { before = []; one = one; after = rest; stands = refl; of_form = is.0; starts = is.1 }
    behind_name others (inr e) =
        let found = others e in
        record { before = one ∷ found.before; one = found.one; after = found.after; stands = ap (λ it. one ∷ it) found.stands; of_form = found.of_form; starts = found.starts }

    by : Others → (repetition_refusal taken one.name one.name_at ≡ refused (NotAValue form) at) ⊎ ((own or_else later) ≡ refused (NotAValue form) at) → HasRightSide (one ∷ rest) form at
    by others (inl e) = absurd (no_form taken one.name one.name_at form at e)
    by others (inr e) = behind_name others (one_of own later _ e)

pub forms_are_of_right_sides : FormsAreOfRightSides
forms_are_of_right_sides devices text form at e = by (one_of (imports_refusal (map device_name devices) text.imports) _ _ e)
  where
    by : (imports_refusal (map device_name devices) text.imports ≡ refused (NotAValue form) at)
        ⊎ (definitions_refusal (map device_name devices ++ map import_name text.imports) text.defs ≡ refused (NotAValue form) at)
        → HasRightSide text.defs form at
    by (inl e) = absurd (no_import_form text.imports (map device_name devices) form at e)
    by (inr e) = form_there text.defs (map device_name devices ++ map import_name text.imports) form at e
