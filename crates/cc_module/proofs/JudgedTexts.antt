-- The verdict of a text, from those of its parts.
use Rattle.std.proofs.Common.{◌≡◌, ℕ, ◌+◌, ◌<◌, List, [], ◌∷◌, ◌++◌, map, length, drop, get_or, refl, sym, ap, ◌∙◌, subst, Ok, Err}
use Rattle.std.proofs.lemmas.List.{append-nil, map-append}
use Rattle.cc_base.specs.declared.code.Code.{Code}
use Rattle.cc_base.specs.declared.place.Place.{Place}
use Rattle.cc_check.specs.declared.error.CheckError.{CheckError}
use Rattle.cc_check.specs.declared.error.CheckError.TheVariants as errors
use Rattle.cc_check.specs.Definitions.{accepted_of}
use Rattle.cc_core.specs.declared.terms.CoreDef.{CoreDef}
use Rattle.cc_core.specs.Contexts.{Context, entry_of}
use Rattle.cc_core.specs.TermViews.{type_of}
use Rattle.cc_checking.specs.Verdicts.{Accepted}
use Rattle.cc_checking.specs.Verdicts as definitions
use Rattle.cc_mnf.specs.CoreModules.{definition_of}
use Rattle.cc_mnf.specs.ElaboratedModules.{CoreDefinition}
use Rattle.cc_module.specs.declared.judgement.CheckedDef.{CheckedDef}
use Rattle.cc_module.specs.Judgements.{checked_definition_of, JudgesOne, JudgesAll}
use Rattle.cc_module.proofs.ContextLoops.{drop_next}
use Rattle.cc_verdicts.specs.ModuleVerdicts.{CheckedDefinition, ModuleVerdict, IsAccepted, IsRefused, to_be_checked, checked_as, after_definition, AreJudged, no_more, refused_first, accepted_first}
use Rattle.cc_verdicts.specs.ReadyDefinitions.{AreReady}
use Rattle.cc_verdicts.proofs.JudgedDefinitions.{ready_more}

-- the verdict with accepted definitions before the others
abbrev pub behind : List CheckedDefinition → ModuleVerdict → ModuleVerdict
behind [] v = v
behind (first ∷ rest) v = after_definition first (behind rest v)

pub behind_accepted : (done others : List CheckedDefinition) → behind done (IsAccepted others) ≡ IsAccepted (done ++ others)
behind_accepted [] others = refl
behind_accepted (first ∷ rest) others = ap (after_definition first) (behind_accepted rest others)

pub behind_refused : (done : List CheckedDefinition) (code : Code) (at : Place) → behind done (IsRefused code at) ≡ IsRefused code at
behind_refused [] code at = refl
behind_refused (first ∷ rest) code at = ap (after_definition first) (behind_refused rest code at)

behind_more : (done : List CheckedDefinition) (one : CheckedDefinition) (v : ModuleVerdict)
    → behind (done ++ one ∷ []) v ≡ behind done (after_definition one v)
behind_more [] one v = refl
behind_more (first ∷ rest) one v = ap (after_definition first) (behind_more rest one v)

-- Definitions are checked so far: those that are left are ready, and their verdict behind what is done is that of all.
pub record StandsAt (devices : ℕ) (start : Context) (all : List CoreDefinition) (g : Context) (left : List CoreDefinition)
    (done : List CheckedDefinition) : Type 0 where
  pub ready : AreReady g left
  pub judged : (v : ModuleVerdict) → AreJudged devices g left v → AreJudged devices start all (behind done v)

pub stands_at_start : (devices : ℕ) (start : Context) (all : List CoreDefinition) → AreReady start all
    → StandsAt devices start all start all []
stands_at_start devices start all ready = record { ready = ready; judged = λ v h. h }

pub stands_behind : (devices : ℕ) (start : Context) (all : List CoreDefinition) (g : Context) (first : CoreDefinition)
    (left : List CoreDefinition) (done : List CheckedDefinition) (accepted : Accepted)
    → StandsAt devices start all g (first ∷ left) done
    → definitions.HasVerdict devices g (to_be_checked first) (definitions.IsAccepted accepted)
    → StandsAt devices start all (entry_of accepted.signature ∷ g) left (done ++ checked_as first accepted ∷ [])
stands_behind devices start all g first left done accepted stands has =
    record {
      ready = ready_more devices g first left accepted stands.ready has;
      judged =
          λ v h. subst (AreJudged devices start all) (sym (behind_more done (checked_as first accepted) v))
          (stands.judged (after_definition (checked_as first accepted) v) (accepted_first has h));
    }

-- where none is left, all are accepted
pub stands_at_end : (devices : ℕ) (start : Context) (all : List CoreDefinition) (g : Context) (done : List CheckedDefinition)
    → StandsAt devices start all g [] done → AreJudged devices start all (IsAccepted (done ++ []))
stands_at_end devices start all g done stands =
    subst (AreJudged devices start all) (behind_accepted done []) (stands.judged (IsAccepted []) no_more)

-- where the next one is refused, so are all
pub stops_at : (devices : ℕ) (start : Context) (all : List CoreDefinition) (g : Context) (first : CoreDefinition)
    (left : List CoreDefinition) (done : List CheckedDefinition) (code : Code) (at : Place)
    → StandsAt devices start all g (first ∷ left) done
    → definitions.HasVerdict devices g (to_be_checked first) (definitions.IsRefused code at)
    → AreJudged devices start all (IsRefused code at)
stops_at devices start all g first left done code at stands has =
    subst (AreJudged devices start all) (behind_refused done code at) (stands.judged (IsRefused code at) (refused_first has))

-- the same of the program's lists: one definition more is accepted
pub checked_more : (devices : ℕ) (start : Context) (all : List CoreDefinition) (g more : Context) (defs : List CoreDef) (index : ℕ)
    (def : CoreDef) (next : CheckedDef) (done added : List CheckedDef) → index < length defs → def ≡ get_or defs index def
    → StandsAt devices start all g (map definition_of (drop index defs)) (map checked_definition_of done)
    → JudgesOne devices g (definition_of def) (Ok next) → more ≡ entry_of (type_of next.checked.sig) ∷ g
    → added ≡ done ++ next ∷ []
    → StandsAt devices start all more (map definition_of (drop (index + 1) defs)) (map checked_definition_of added)
checked_more devices start all g more defs index def next done added below is stands judges longer last =
    let rest = map definition_of (drop (index + 1) defs) in
    let here = subst (λ l. StandsAt devices start all g (map definition_of l) (map checked_definition_of done)) (drop_next defs index def below is) stands in
    let step = stands_behind devices start all g (definition_of def) rest (map checked_definition_of done) (accepted_of next.checked) here judges.0 in
    let items : map checked_definition_of added ≡ map checked_definition_of done ++ checked_as (definition_of def) (accepted_of next.checked) ∷ [] =
    ap (map checked_definition_of) last ∙ map-append checked_definition_of done (next ∷ [])
    ∙ ap (λ x. map checked_definition_of done ++ x ∷ []) judges.1 in
    subst (λ x. StandsAt devices start all x rest (map checked_definition_of added)) (sym longer)
    (subst (λ l. StandsAt devices start all (entry_of (type_of next.checked.sig) ∷ g) rest l) (sym items) step)

-- the next one is refused
pub checked_stops : (devices : ℕ) (start : Context) (all : List CoreDefinition) (g : Context) (defs : List CoreDef) (index : ℕ)
    (def : CoreDef) (done : List CheckedDef) (error : CheckError) → index < length defs → def ≡ get_or defs index def
    → StandsAt devices start all g (map definition_of (drop index defs)) (map checked_definition_of done)
    → JudgesOne devices g (definition_of def) (Err error) → JudgesAll devices start all (Err error)
checked_stops devices start all g defs index def done errors.NoMemory below is stands judges = tt
checked_stops devices start all g defs index def done (errors.Refused diag) below is stands judges =
    stops_at devices start all g (definition_of def) (map definition_of (drop (index + 1) defs)) (map checked_definition_of done) diag.code diag.place
    (subst (λ l. StandsAt devices start all g (map definition_of l) (map checked_definition_of done)) (drop_next defs index def below is) stands)
    judges

-- none is left
pub checked_end : (devices : ℕ) (start : Context) (all : List CoreDefinition) (g : Context) (defs : List CoreDef) (index : ℕ)
    (done : List CheckedDef) → drop index defs ≡ []
    → StandsAt devices start all g (map definition_of (drop index defs)) (map checked_definition_of done)
    → AreJudged devices start all (IsAccepted (map checked_definition_of done))
checked_end devices start all g defs index done none stands =
    subst (λ l. AreJudged devices start all (IsAccepted l)) (append-nil (map checked_definition_of done))
    (stands_at_end devices start all g (map checked_definition_of done)
    (subst (λ l. StandsAt devices start all g (map definition_of l) (map checked_definition_of done)) none stands))
