-- Definitions are gone over one after another, up to the first that is refused.
use Rattle.std.proofs.Common.{◌≡◌, ℕ, zero, suc, ◌+◌, ◌<◌, List, [], ◌∷◌, ◌++◌, map, length, take, drop, get_or, Option, Some, None}
use Rattle.std.proofs.Common.{refl, sym, ap, ◌∙◌, subst}
use Rattle.std.proofs.lemmas.List.{append-nil}
use Rattle.std.proofs.Common.{◌≡◌, ℕ, suc, ◌+◌, ◌<◌, List, [], ◌∷◌, ◌++◌, map, length, take, drop, get_or, sym, ap, ◌∙◌, drop-cons, add-one, Option, None}
use Rattle.cc_base.specs.declared.code.Code.{Code}
use Rattle.cc_base.specs.declared.place.Place.{Place}
use Rattle.cc_core.specs.Contexts.{Context, entry_of}
use Rattle.cc_checking.specs.Verdicts as definitions
use Rattle.cc_checking.specs.Verdicts.{Accepted}
use Rattle.cc_checking_laws.proofs.OneVerdict.{one_verdict}
use Rattle.cc_mnf.specs.ElaboratedModules.{CoreDefinition}
use Rattle.cc_mnf.specs.Scopes.{Name}
use Rattle.cc_reasons.specs.DefinitionReasons.{DefinitionReason, code_of_reason, HasReason}
use Rattle.cc_reasons.specs.ExplainedInference.{BinderNames}
use Rattle.std.specs.Prelude.{slice_get, MatchOption}
use Rattle.cc_grammar.specs.Syntax.{DefSyntax}
use Rattle.cc_parse.specs.declared.tree.Def.{Def}
use Rattle.cc_parse.specs.Trees.{def_syntax}
use Rattle.cc_reasons.specs.NamedBinders.{binder_names}
use Rattle.cc_reasons.specs.RefusedDefinitions.{names_of_binders, first_binders, other_binders, names_inside, IsRefusedFirst, refused_first, accepted_first}
use Rattle.cc_reasons.proofs.DefinitionOutcomes.{reasons_are_of_refusals, refusals_have_a_reason}
use Rattle.cc_verdicts.specs.ModuleVerdicts.{to_be_checked}
use Rattle.cc_verdicts.specs.ReadyDefinitions.{AreReady}
use Rattle.cc_verdicts.proofs.JudgedDefinitions.{ready_more}
use Rattle.cc_definition_reasoning.specs.declared.reason.Reasoned.{Reasoned}
use Rattle.cc_definition_reasoning.specs.Reasons.{reason_of, IsAnswered}
use Rattle.cc_module_reasoning.specs.declared.definitions.RefusedDefinition.{RefusedDefinition}
use Rattle.cc_module_reasoning.specs.RefusedDefinitions.{names_behind, names_inside_first, AreExplained}

-- what is left of binders behind so many definitions
abbrev pub binders_behind : ℕ → List BinderNames → List BinderNames
binders_behind zero binders = binders
binders_behind (suc count) binders = binders_behind count (other_binders binders)

binders_next : (count : ℕ) (binders : List BinderNames)
    → other_binders (binders_behind count binders) ≡ binders_behind (suc count) binders
binders_next zero binders = refl
binders_next (suc count) binders = binders_next count (other_binders binders)

-- So many definitions are accepted: those that are left are ready, and the first that is refused is the first of all.
pub record StandsAt (devices : ℕ) (start : Context) (all : List CoreDefinition) (binders : List BinderNames) (count : ℕ)
    (now : Context) (left : List CoreDefinition) : Type 0 where
  pub left_is : left ≡ drop count all
  pub ready : AreReady now left
  pub refused : (names : List Name) (reason : DefinitionReason) (at : Place) (inside : List Name)
      → IsRefusedFirst devices now (names_behind names all count) left (binders_behind count binders) reason at inside
      → IsRefusedFirst devices start names all binders reason at inside
  pub refuses : (names : List Name) (reason : DefinitionReason) (at : Place) (inside : List Name)
      → IsRefusedFirst devices start names all binders reason at inside
      → IsRefusedFirst devices now (names_behind names all count) left (binders_behind count binders) reason at inside

pub stands_at_start : (devices : ℕ) (start : Context) (all : List CoreDefinition) (binders : List BinderNames)
    → AreReady start all → StandsAt devices start all binders 0 start all
stands_at_start devices start all binders ready = record {
  left_is = refl;
  ready = ready;
  refused = λ names reason at inside h.
      subst (λ n. IsRefusedFirst devices start n all binders reason at inside) (append-nil names) h;
  refuses = λ names reason at inside h.
      subst (λ n. IsRefusedFirst devices start n all binders reason at inside) (sym (append-nil names)) h;
}

-- one definition more
drop_more : (count : ℕ) (all : List CoreDefinition) (first : CoreDefinition) (rest : List CoreDefinition)
    → first ∷ rest ≡ drop count all → rest ≡ drop (suc count) all
drop_more zero (d ∷ all) first rest is = cc
drop_more zero [] first rest is = cc
drop_more (suc count) [] first rest is = cc
drop_more (suc count) (d ∷ all) first rest is = drop_more count all first rest is

take_more : (count : ℕ) (all : List CoreDefinition) (first : CoreDefinition) (rest : List CoreDefinition)
    → first ∷ rest ≡ drop count all
    → map (λ one. one.name) (take (suc count) all) ≡ map (λ one. one.name) (take count all) ++ first.name ∷ []
take_more zero (d ∷ all) first rest is =
    let same : first ≡ d = cc in ap (λ (x : CoreDefinition). x.name ∷ []) (sym same)
take_more zero [] first rest is = cc
take_more (suc count) [] first rest is = cc
take_more (suc count) (d ∷ all) first rest is = ap (λ l. d.name ∷ l) (take_more count all first rest is)

appended : (names more : List Name) (one : Name) → names ++ (more ++ one ∷ []) ≡ (names ++ more) ++ one ∷ []
appended [] more one = refl
appended (n ∷ names) more one = ap (λ l. n ∷ l) (appended names more one)

names_next : (names : List Name) (count : ℕ) (all : List CoreDefinition) (first : CoreDefinition)
    (rest : List CoreDefinition) → first ∷ rest ≡ drop count all
    → names_behind names all (suc count) ≡ names_behind names all count ++ first.name ∷ []
names_next names count all first rest is =
    ap (λ l. names ++ l) (take_more count all first rest is)
    ∙ appended names (map (λ one. one.name) (take count all)) first.name

accepted_parts : {a b : Accepted} → definitions.IsAccepted a ≡ definitions.IsAccepted b → a ≡ b
accepted_parts e = cc

module _ (devices : ℕ) (start : Context) (all : List CoreDefinition) (binders : List BinderNames) (count : ℕ)
    (now : Context) (first : CoreDefinition) (rest : List CoreDefinition)
    (stands : StandsAt devices start all binders count now (first ∷ rest)) where
  -- what refuses these, where the first is accepted
  behind_first : (accepted : Accepted)
      → definitions.HasVerdict devices now (to_be_checked first) (definitions.IsAccepted accepted)
      → (names : List Name) (bs : List BinderNames) (reason : DefinitionReason) (at : Place) (inside : List Name)
      → IsRefusedFirst devices now names (first ∷ rest) bs reason at inside
      → IsRefusedFirst devices (entry_of accepted.signature ∷ now) (names ++ first.name ∷ []) rest (other_binders bs)
      reason at inside
  behind_first accepted has names bs reason at inside (refused_first reasoned) =
      let same = one_verdict devices now (to_be_checked first) (definitions.IsRefused (code_of_reason reason) at)
      (definitions.IsAccepted accepted)
      (reasons_are_of_refusals devices now (to_be_checked first) (first_binders bs) reason at reasoned) has in
      cc
  behind_first accepted has names bs reason at inside (accepted_first {accepted = other} had later) =
      let same = one_verdict devices now (to_be_checked first) (definitions.IsAccepted other)
      (definitions.IsAccepted accepted) had has in
      subst (λ (a : Accepted). IsRefusedFirst devices (entry_of a.signature ∷ now) (names ++ first.name ∷ []) rest
      (other_binders bs) reason at inside) (accepted_parts same) later

  pub stands_behind : (accepted : Accepted)
      → definitions.HasVerdict devices now (to_be_checked first) (definitions.IsAccepted accepted)
      → StandsAt devices start all binders (suc count) (entry_of accepted.signature ∷ now) rest
  stands_behind accepted has = record {
    left_is = drop_more count all first rest stands.left_is;
    ready = ready_more devices now first rest accepted stands.ready has;
    refused = λ names reason at inside h.
        stands.refused names reason at inside
        (accepted_first has
        (subst (λ n. IsRefusedFirst devices (entry_of accepted.signature ∷ now) n rest
        (other_binders (binders_behind count binders)) reason at inside)
        (names_next names count all first rest stands.left_is)
        (subst (λ bs. IsRefusedFirst devices (entry_of accepted.signature ∷ now) (names_behind names all (suc count)) rest
        bs reason at inside) (sym (binders_next count binders)) h)));
    refuses = λ names reason at inside h.
        subst (λ bs. IsRefusedFirst devices (entry_of accepted.signature ∷ now) (names_behind names all (suc count)) rest
        bs reason at inside) (binders_next count binders)
        (subst (λ n. IsRefusedFirst devices (entry_of accepted.signature ∷ now) n rest
        (other_binders (binders_behind count binders)) reason at inside)
        (sym (names_next names count all first rest stands.left_is))
        (behind_first accepted has (names_behind names all count) (binders_behind count binders) reason at inside
        (stands.refuses names reason at inside h)));
  }

  -- the first that is refused
  pub stops_here : (binder : BinderNames) → first_binders (binders_behind count binders) ≡ binder
      → (reason : DefinitionReason) (at : Place) → HasReason devices now (to_be_checked first) binder reason at
      → (names : List Name)
      → IsRefusedFirst devices start names all binders reason at
      (names_inside_first (names_behind names all count) (drop count all))
  stops_here binder is reason at has names =
      subst (λ l. IsRefusedFirst devices start names all binders reason at
      (names_inside_first (names_behind names all count) l)) stands.left_is
      (stands.refused names reason at (names_inside (names_behind names all count) first)
      (refused_first (subst (λ b. HasReason devices now (to_be_checked first) b reason at) (sym is) has)))

-- what is refused has a reason
pub refused_has_reason : (devices : ℕ) (now : Context) (first : CoreDefinition) (binder : BinderNames) (code : Code)
    (at : Place)
    → definitions.HasVerdict devices now (to_be_checked first) (definitions.IsRefused code at)
    → ((reason : DefinitionReason) (place : Place) → HasReason devices now (to_be_checked first) binder reason place → ⊥) → ⊥
refused_has_reason devices now first binder code at has none =
    let found = refusals_have_a_reason devices now (to_be_checked first) binder code at has in
    none found.0 at found.2

-- none is refused where none is left
pub none_refused : (devices : ℕ) (start now : Context) (all : List CoreDefinition) (binders : List BinderNames) (count : ℕ)
    → StandsAt devices start all binders count now []
    → (names : List Name) (reason : DefinitionReason) (at : Place) (inside : List Name)
    → IsRefusedFirst devices start names all binders reason at inside → ⊥
none_refused devices start now all binders count stands names reason at inside h =
    nothing (stands.refuses names reason at inside h)
  where
    nothing : {ns : List Name} {bs : List BinderNames} → IsRefusedFirst devices now ns [] bs reason at inside → ⊥
    nothing it = elim it [ ]

-- the same where one is counted more
pub stands_counted : (devices : ℕ) (start now : Context) (all left : List CoreDefinition) (binders : List BinderNames)
    (count next : ℕ) → next ≡ suc count → StandsAt devices start all binders (suc count) now left
    → StandsAt devices start all binders next now left
stands_counted devices start now all left binders count next is stands =
    subst (λ n. StandsAt devices start all binders n now left) (sym is) stands

-- the names of binders behind so many, by the list of the trees' definitions
pub binders_at : (trees : List DefSyntax) (count : ℕ) (one : DefSyntax) → slice_get trees count ≡ Some one
    → first_binders (binders_behind count (names_of_binders trees)) ≡ binder_names one.right
binders_at [] count one is = cc
binders_at (t ∷ trees) zero one is = let same : t ≡ one = cc in ap (λ (d : DefSyntax). binder_names d.right) same
binders_at (t ∷ trees) (suc count) one is = binders_at trees count one is

-- what is answered at the first definition that is refused
pub explained_here : (devices : ℕ) (start : Context) (all : List CoreDefinition) (binders : List BinderNames) (count : ℕ)
    (now : Context) (first : CoreDefinition) (rest : List CoreDefinition) (binder : BinderNames) (code : Code) (at : Place)
    (found : Option Reasoned) (answer : Option RefusedDefinition)
    → StandsAt devices start all binders count now (first ∷ rest)
    → first_binders (binders_behind count binders) ≡ binder
    → definitions.HasVerdict devices now (to_be_checked first) (definitions.IsRefused code at)
    → IsAnswered devices now (to_be_checked first) binder found
    → MatchOption found (answer ≡ None) (λ one. answer ≡ Some (record { reason = one.reason; at = one.at; before = count }))
    → AreExplained devices start all binders answer
explained_here devices start all binders count now first rest binder code at (Some one) answer stands is refused has told =
    subst (AreExplained devices start all binders) (sym told)
    (λ names. stops_here devices start all binders count now first rest stands binder is (reason_of one.reason) one.at has names)
explained_here devices start all binders count now first rest binder code at None answer stands is refused none told =
    absurd (refused_has_reason devices now first binder code at refused none)

-- what stands at a place, as syntax
pub slice_get_mapped : (trees : List Def) (count : ℕ) (one : Def) → slice_get trees count ≡ Some one
    → slice_get (map def_syntax trees) count ≡ Some (def_syntax one)
slice_get_mapped [] count one is = cc
slice_get_mapped (t ∷ trees) zero one is = let same : t ≡ one = cc in ap (λ d. Some (def_syntax d)) same
slice_get_mapped (t ∷ trees) (suc count) one is = slice_get_mapped trees count one is

-- what is left from a place on
pub drop_next : {A : Type 0} (list : List A) (index : ℕ) (item : A) → index < length list → item ≡ get_or list index item
    → drop index list ≡ item ∷ drop (index + 1) list
drop_next list index item below is =
    drop-cons list index item below
    ∙ ap (λ x. x ∷ drop (suc index) list) (sym is)
    ∙ ap (λ n. item ∷ drop n list) (sym (add-one index))
